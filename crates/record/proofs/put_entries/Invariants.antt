-- The first k nodes are written, and a turn writes one more. Assumes nothing.
use Prim.Native.Nat.{◌≤◌, ◌-◌}
use Rattle.record.proofs.PutLaws.{EntriesPut}
use Rattle.record.proofs.put_entries.Given as goal

abbrev pub invariant-loop-k : goal.invariant-loop-k
invariant-loop-k l = (l.k ≤ l.k-end) × EntriesPut l.work l.n l.k l.initial.out l.out

abbrev pub decreases-loop-k : goal.decreases-loop-k
decreases-loop-k l = l.k-end - l.k
