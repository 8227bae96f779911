-- Two results that meet a public call's promise are equal: the answer, the output's bytes and the work area's. The areas may have held anything
-- before, as long as their lengths are the same, so no answer depends on what they held. What a call said is given back by its numbers.
-- Assumes nothing.
use mathlib.Core.Path.{◌≡◌, refl, sym, ap, ap₂, ◌∙◌}
use mathlib.Core.Bool.{Bool, true, false}
use mathlib.Core.List.{List, [], ◌∷◌}
use Prim.Native.Nat.{ℕ, ◌+◌}
use denote.Ref.{Bor}
use Rattle.std.specs.Prelude.{Result, Ok, Err}
use lib.Dec.{eqb}
use lib.ListN.{length, replicate, take, drop}
use Rattle.paper.specs.Record.{Part}
use Rattle.paper.specs.Refusals.{number, value, Answer, refused, given, build, check}
use Rattle.paper.specs.Questions.{closest, pitch, links, section}
use Rattle.paper.specs.Answers.{told, counted, left_in, Answered, Finished, Builds, Checks, FindsClosest, TestsPitch, WritesLinks, HandsBack}
use Rattle.paper.specs.declared.Refusal.{Refusal}
use Rattle.paper.specs.declared.Refusal.TheVariants as R

-- the refusal with a number and a value
numbered : List (ℕ → Refusal) → ℕ → ℕ → Refusal
numbered [] n x = R.None
numbered (r ∷ rs) n x = elim (eqb (number (r x)) n) [ true ↦ r x | false ↦ numbered rs n x ]

the_table : List (ℕ → Refusal)
the_table =
    R.Odd
    ∷ (λ x. R.None)
    ∷ R.Many
    ∷ (λ x. R.Ratio)
    ∷ (λ x. R.Work)
    ∷ R.Twice
    ∷ R.Room
    ∷ R.Short
    ∷ R.Count
    ∷ R.Over
    ∷ R.Tree
    ∷ R.Loose
    ∷ R.Pair
    ∷ R.Cover
    ∷ (λ x. R.Single)
    ∷ R.Low
    ∷ (λ x. R.Long)
    ∷ []

refusal : ℕ → ℕ → Refusal
refusal n x = numbered the_table n x

refusal_back : (x : Refusal) → refusal (number x) (value x) ≡ x
unfolding refusal numbered the_table
refusal_back (R.Odd x) = refl
refusal_back R.None = refl
refusal_back (R.Many x) = refl
refusal_back R.Ratio = refl
refusal_back R.Work = refl
refusal_back (R.Twice x) = refl
refusal_back (R.Room x) = refl
refusal_back (R.Short x) = refl
refusal_back (R.Count x) = refl
refusal_back (R.Over x) = refl
refusal_back (R.Tree x) = refl
refusal_back (R.Loose x) = refl
refusal_back (R.Pair x) = refl
refusal_back (R.Cover x) = refl
refusal_back R.Single = refl
refusal_back (R.Low x) = refl
refusal_back R.Long = refl

-- 15 is the number of one refusal alone
pub is_single : (x : Refusal) → number x ≡ 15 → x ≡ R.Single
unfolding refusal numbered the_table
is_single x e = sym (refusal_back x) ∙ ap (λ (n : ℕ). refusal n (value x)) e

-- what a call said, from its answer
said : {A : Type 0} → Answer A → Result A Refusal
said (given x) = Ok x
said (refused n x) = Err (refusal n x)

said_again : {A : Type 0} (r : Result A Refusal) → said (told r) ≡ r
unfolding said
said_again (Ok x) = refl
said_again (Err x) = ap Err (refusal_back x)

same_case : {A : Type 0} (r s : Result A Refusal) → told r ≡ told s → r ≡ s
same_case r s e = sym (said_again r) ∙ ap said e ∙ said_again s

-- a call without an output
answered_once : {A : Type 0} {asked asked' : Answer A} {r s : Result A Refusal} {u v w x : List ℕ} → asked ≡ asked' → length u ≡ length v
    → Answered (told r) asked u w → Answered (told s) asked' v x → (r ≡ s) × (w ≡ x)
answered_once {r} {s} e l p q = (
  same_case r s (p.answer ∙ e ∙ sym q.answer),
  p.wiped ∙ ap (λ (n : ℕ). replicate n 0) l ∙ sym q.wiped,
)

-- a call with an output
finished_once : {asked asked' : Answer (List ℕ)} {r s : Result ℕ Refusal} {u v w x o q p t : List ℕ} → asked ≡ asked' → length u ≡ length v → length o ≡ length q
    → Finished (told r) asked u w o p → Finished (told s) asked' v x q t → (r ≡ s) × (w ≡ x) × (p ≡ t)
finished_once {asked} {r} {s} e l m f g = (
  same_case r s (f.answer ∙ ap counted e ∙ sym g.answer),
  f.wiped ∙ ap (λ (n : ℕ). replicate n 0) l ∙ sym g.wiped,
  f.output ∙ ap₂ left_in m e ∙ sym g.output,
)

-- ---- the public calls

module _ {work work₂ work' work'' : List ℕ} (l : length work ≡ length work₂) where
  pub one_build : (c : List ℕ) (a b : ℕ) {r s : Result ℕ Refusal} {out out₂ out' out'' : List ℕ} → length out ≡ length out₂
      → Builds c a b r work work' out out' → Builds c a b s work₂ work'' out₂ out'' → (r ≡ s) × (work' ≡ work'') × (out' ≡ out'')
  one_build c a b m = finished_once (ap₂ (build c a b) l m) l m

  pub one_check : (bytes : List ℕ) {r s : Result (ℕ × ℕ) Refusal} → Checks bytes r work work' → Checks bytes s work₂ work'' → (r ≡ s) × (work' ≡ work'')
  one_check bytes = answered_once (ap (check bytes) l) l

  pub one_closest : (bytes : List ℕ) {r s : Result (ℕ × ℕ × ℕ) Refusal} → FindsClosest bytes r work work' → FindsClosest bytes s work₂ work'' → (r ≡ s) × (work' ≡ work'')
  one_closest bytes = answered_once (ap (closest bytes) l) l

  pub one_pitch : (bytes : List ℕ) (p : ℕ) {r s : Result Bool Refusal} → TestsPitch bytes p r work work' → TestsPitch bytes p s work₂ work'' → (r ≡ s) × (work' ≡ work'')
  one_pitch bytes p = answered_once (ap (pitch bytes p) l) l

  pub one_links : (bytes : List ℕ) {r s : Result ℕ Refusal} {out out₂ out' out'' : List ℕ} → length out ≡ length out₂
      → WritesLinks bytes r work work' out out' → WritesLinks bytes s work₂ work'' out₂ out'' → (r ≡ s) × (work' ≡ work'') × (out' ≡ out'')
  one_links bytes m = finished_once (ap₂ (links bytes) l m) l m

  -- a section: the same place and the same bytes. (A reference's ghost name is the proof's and has no place in memory.)
  pub one_section : (part : List ℕ → Part) (bytes : Bor (List ℕ)) {r s : Bor (List ℕ)}
      → HandsBack part bytes r work work' → HandsBack part bytes s work₂ work'' → (r.ref_ptr ≡ s.ref_ptr) × (r.now ≡ s.now) × (work' ≡ work'')
  one_section part bytes p q =
      let e = ap (section part bytes.now) l in (
        ap₂ {C = ℕ × ℕ} (λ i j. (i, j)) (p.section.block ∙ sym q.section.block)
            (p.section.place ∙ ap (λ (t : Part). t.start + bytes.ref_ptr.1) e ∙ sym q.section.place),
        p.section.bytes ∙ ap (λ (t : Part). take t.size (drop t.start bytes.now)) e ∙ sym q.section.bytes,
        p.wiped ∙ ap (λ (n : ℕ). replicate n 0) l ∙ sym q.wiped,
      )
