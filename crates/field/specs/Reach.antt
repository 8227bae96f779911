-- How far a node reaches, so that separation is two comparisons of numbers that do not change. Assumes nothing.
use Rattle.std.specs.Prelude.{ℕ, ◌+◌, ◌*◌, ◌-◌, ◌/◌, max}
use Rattle.paper.specs.Field.{square}
use Rattle.paper.specs.Tree.{Box}
use Rattle.paper.specs.Separation.{G}

-- the least D that is not 0 and has b²·D >= (2b + a)²·G
unfoldable pub reach : ℕ → ℕ → Box → ℕ
reach a b B = max 1 ((square (2 * b + a) * G B + (square b - 1)) / square b)
