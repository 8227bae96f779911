-- What the program prints, at each return of `report`: an input that is too long is refused before it is looked at, and of any other the two answers
-- are those that `paper` prints. Assumes nothing.
use mathlib.Core.Path.{◌≡◌, ap, ◌∙◌}
use mathlib.Core.List.{List, []}
use Prim.Native.Nat.{ℕ, ◌≤◌, ◌<◌}
use lib.ListN.{length, replicate}
use borrow.Author.Tests.{lt-ltb, le-ltb}
use Rattle.paper.specs.Field.{least_work}
use Rattle.paper.specs.Refusals.{Answer, check}
use Rattle.paper.specs.Questions.{closest}
use Rattle.paper.specs.Program.{lines, printed}
use Rattle.paper.specs.Answers.{refuses, told}
use Rattle.paper.specs.declared.Refusal.TheVariants as R
use Rattle.paper.proofs.Tables.{stop, pass, passed}
use Rattle.questions.specs.Asking.{Looks}
use Rattle.questions.specs.declared.Looked.{Looked}
use Rattle.lines.specs.Printing.{Holds, Reports}

module _ (bytes : List ℕ) where
  -- the line of a refused record says nothing of a closest pair
  long-printed : 65_536 < length bytes → printed bytes ≡ lines (refuses R.Long) (refuses R.Long)
  unfolding printed lines
  long-printed l = ap (λ (a : Answer (ℕ × ℕ)). lines a (closest bytes least_work)) (stop (check bytes least_work) (lt-ltb 65_536 (length bytes) l) R.Long [])

  short-printed : length bytes ≤ 65_536 → printed bytes ≡ lines (check bytes least_work) (closest bytes least_work)
  unfolding printed
  short-printed l =
      ap (λ (a : Answer (ℕ × ℕ)). lines a (closest bytes least_work))
      (pass (check bytes least_work) (le-ltb 65_536 (length bytes) l) R.Long [] ∙ passed (check bytes least_work))

  module _ (old : List ℕ) {new out : List ℕ} {r : ℕ} (e : length old ≡ 65_536) where
    pub is-long : 65_536 < length bytes → new ≡ replicate (length old) 0 → Holds (lines (refuses R.Long) (refuses R.Long)) out r → Reports bytes new out r
    is-long l z h = record { holds = rw (long-printed l) h; wiped = rw e at z }

    pub is-looked : {s : Looked} → length bytes ≤ 65_536 → Looks bytes s old new → Holds (lines (told s.checked) (told s.closest)) out r
        → Reports bytes new out r
    is-looked {s} l k h =
        let c : told s.checked ≡ check bytes least_work = rw e at k.checks.answer in
        let f : told s.closest ≡ closest bytes least_work = rw e at k.finds.answer in
        record { holds = rw (short-printed l, ← c, ← f) h; wiped = rw e at k.checks.wiped }
