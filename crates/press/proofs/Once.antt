-- Two results that meet a call's promise are the same, whatever the two areas held: the answer, and every byte of the areas. Assumes nothing.
use mathlib.Core.Path.{◌≡◌, sym, ap, ap₂, ◌∙◌}
use mathlib.Core.List.{List}
use Prim.Native.Nat.{ℕ}
use lib.ListN.{length, replicate}
use Rattle.paper.specs.Record.{Part}
use Rattle.paper.specs.Refusals.{Answer}
use Rattle.paper.specs.Questions.{section}
use Rattle.paper.specs.Answers.{left_in}
use Rattle.press.specs.declared.Answer as said
use Rattle.press.specs.declared.Part as handed
use Rattle.press.specs.Flat.{Numbers, Says, Tells, Finishes, HandsOver}

-- answers with the same numbers are the same, and so are parts at the same place
answer_of : ℕ × ℕ → ℕ × ℕ → said.Answer
answer_of x y = record { number = x.0; first = x.1; second = y.0; third = y.1 }

part_of : ℕ → ℕ → handed.Part
part_of x y = record { start = x; length = y }

same-pair : {a b x y : ℕ} → a ≡ x → b ≡ y → ◌≡◌ {A = ℕ × ℕ} (a, b) (x, y)
same-pair e f = ap₂ {C = ℕ × ℕ} (λ a b. (a, b)) e f

said_is : {asked : Numbers} {r : said.Answer} → Says asked r
    → r ≡ answer_of (asked.number, asked.first) (asked.second, asked.third)
unfolding answer_of
said_is a = ap₂ {C = said.Answer} answer_of (same-pair a.number a.first) (same-pair a.second a.third)

wiped_once : {m n : ℕ} {w x : List ℕ} → m ≡ n → w ≡ replicate m 0 → x ≡ replicate n 0 → w ≡ x
wiped_once l p q = p ∙ ap (λ (n : ℕ). replicate n 0) l ∙ sym q

pub answers_once : {asked : Numbers} {r s : said.Answer} {u v w x : List ℕ} → length u ≡ length v → Tells asked r u w → Tells asked s v x
    → (r ≡ s) × (w ≡ x)
answers_once l p q = (said_is p.says ∙ sym (said_is q.says), wiped_once l p.wiped q.wiped)

pub outputs_once : {asked : Answer (List ℕ)} {r s : said.Answer} {u v w x o p y z : List ℕ} → length u ≡ length v → length o ≡ length p
    → Finishes asked r u w o y → Finishes asked s v x p z → (r ≡ s) × (w ≡ x) × (y ≡ z)
outputs_once {asked} l m p q = (
  said_is p.says ∙ sym (said_is q.says),
  wiped_once l p.wiped q.wiped,
  p.output ∙ ap (λ (n : ℕ). left_in n asked) m ∙ sym q.output,
)

pub parts_once : {part : List ℕ → Part} {bytes : List ℕ} {r s : handed.Part} {u v w x : List ℕ} → length u ≡ length v
    → HandsOver part bytes r u w → HandsOver part bytes s v x → (r ≡ s) × (w ≡ x)
unfolding part_of
parts_once {part} {bytes} l p q =
    let e = ap (λ (n : ℕ). section part bytes n) l in
    let start = p.start ∙ ap (λ (y : Part). y.start) e ∙ sym q.start in
    let size = p.size ∙ ap (λ (y : Part). y.size) e ∙ sym q.size in
    (ap₂ {C = handed.Part} part_of start size, wiped_once l p.wiped q.wiped)
