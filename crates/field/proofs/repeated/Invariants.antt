-- None of the first i holes is a repeat, until one is, and each of them is on the chain of its bucket. Assumes nothing.
use Prim.Native.Nat.{◌-◌}
use mathlib.Core.Path.{◌≡◌}
use lib.ListN.{length}
use Rattle.field.specs.Buckets.{Chained}
use Rattle.field.proofs.Places.{NoneBefore}
use Rattle.field.proofs.repeated.Given as goal

abbrev pub invariant-loop-i : goal.invariant-loop-i
invariant-loop-i l = (length l.work ≡ length l.initial.work) × NoneBefore l.d l.holes l.n l.i × Chained l.holes l.d l.work l.i

abbrev pub decreases-loop-i : goal.decreases-loop-i
decreases-loop-i l = l.n - l.i
