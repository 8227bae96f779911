-- What a step of a call leaves in an output that was all zero when it began. Assumes nothing.
use Rattle.std.specs.Prelude.{◌≡◌, List, ℕ, length, replicate, Result}
use Rattle.paper.specs.Refusals.{Answer}
use Rattle.paper.specs.Answers.{told, counted, left_in}
use Rattle.paper.specs.declared.Refusal.{Refusal}

-- an output that is all zero
pub record Blank (out : List ℕ) : Type 0 where
  pub zeros : out ≡ replicate (length out) 0

-- what the call says, and what it leaves in the output. `asked` is document 01's answer for a work area and an output of these lengths; w is that
-- of the work area
pub record Made (asked : ℕ → ℕ → Answer (List ℕ)) (w : ℕ) (out out' : List ℕ) (r : Result ℕ Refusal) : Type 0 where
  pub answer : told r ≡ counted (asked w (length out))
  pub output : out' ≡ left_in (length out) (asked w (length out))
