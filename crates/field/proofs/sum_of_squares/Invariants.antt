-- The sum is that of the squares on the first x axes; a turn adds one. Assumes nothing.
use mathlib.Core.Path.{◌≡◌}
use Prim.Native.Nat.{ℕ, ◌≤◌, ◌<◌, ◌-◌, ◌*◌}
use Rattle.field.specs.Sides.{squares}
use Rattle.field.proofs.sum_of_squares.Given as goal

abbrev pub invariant-loop-x : goal.invariant-loop-x
invariant-loop-x g l =
    (l.x ≤ l.d) × (l.sum ≤ 17_179_869_183 * l.x)
    × ((f : ℕ → ℕ) → ((x r : ℕ) → x < l.d → goal.F-post g l.of x r → r ≡ f x) → l.sum ≡ squares f l.x)

abbrev pub decreases-loop-x : goal.decreases-loop-x
decreases-loop-x g l = l.d - l.x
