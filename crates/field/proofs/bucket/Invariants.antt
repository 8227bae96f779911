-- b is the bucket by the first x coordinates; a turn adds one. Assumes nothing.
use Prim.Native.Nat.{◌≤◌, ◌-◌, ◌*◌}
use Rattle.field.specs.Buckets.{Bucketed}
use Rattle.field.proofs.bucket.Given as goal

abbrev pub invariant-loop-x : goal.invariant-loop-x
invariant-loop-x l = (l.x ≤ l.d) × Bucketed l.holes l.x (2 * l.d * l.i) l.b

abbrev pub decreases-loop-x : goal.decreases-loop-x
decreases-loop-x l = l.d - l.x
