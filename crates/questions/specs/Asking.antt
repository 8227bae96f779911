-- What a question starts from, a record that is taken and the slate that its inspection left, and what both answers of `look` are. Assumes nothing.
use Rattle.std.specs.Prelude.{◌≡◌, List, ℕ, length}
use Rattle.paper.specs.Record.{holes_in, pairs_in}
use Rattle.paper.specs.Rules.{Record}
use Rattle.paper.specs.Refusals.{given, check}
use Rattle.paper.specs.Questions.{closest}
use Rattle.paper.specs.Answers.{told, Checks, FindsClosest}
use Rattle.record.specs.Cutting.{PartsOf}
use Rattle.record.specs.Inspecting.{Filled}
use Rattle.record.specs.declared.Parts.{Parts}
use Rattle.questions.specs.declared.Looked.{Looked}

-- the record is taken, p are its parts, and the slate is filled
pub record Known (bytes w : List ℕ) (p : Parts) : Type 0 where
  pub parts : PartsOf bytes p
  pub rules : Record bytes
  pub taken : check bytes (length w) ≡ given (holes_in bytes, pairs_in bytes)
  pub filled : Filled bytes w

-- both answers, with w the length of the work area
pub record LooksOn (bytes : List ℕ) (w : ℕ) (r : Looked) : Type 0 where
  pub checks : told r.checked ≡ check bytes w
  pub finds : told r.closest ≡ closest bytes w

-- and with the work area wiped
pub record Looks (bytes : List ℕ) (r : Looked) (work work' : List ℕ) : Type 0 where
  pub checks : Checks bytes r.checked work work'
  pub finds : FindsClosest bytes r.closest work work'
