-- The links of the first k pairs are written, and a turn writes one more. Assumes nothing.
use Prim.Native.Nat.{◌≤◌, ◌-◌}
use Rattle.words.specs.Words.{Written}
use Rattle.questions.specs.Linking.{links_on}
use Rattle.questions.proofs.put_links.Given as goal

abbrev pub invariant-loop-k : goal.invariant-loop-k
invariant-loop-k l = (l.k ≤ l.m) × Written l.initial.out l.out 0 (links_on l.work l.list l.k)

abbrev pub decreases-loop-k : goal.decreases-loop-k
decreases-loop-k l = l.m - l.k
