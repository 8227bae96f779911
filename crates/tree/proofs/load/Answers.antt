use Rattle.std.proofs.lemmas.Grind.{common_steps}
use mathlib.Core.Path.{◌≡◌}
use mathlib.Core.Bool.{Bool, false}
use mathlib.Core.List.{List}
use Prim.Native.Nat.{ℕ, ◌<◌, ◌≤◌}
use native.Mathlib.Omega.{arith}
use lib.ListN.{length}
use Rattle.slate.specs.Columns.{MARKS, SCRATCH}
use Rattle.slate.specs.Slate.{Cleared}
use Rattle.slate.proofs.Frames.{kept_cell}
use Rattle.paper.specs.Record.{nodes_of}
use Rattle.std.specs.Prelude.{Some, None}
use Rattle.tree.specs.Standing.{tree_in}
use Rattle.tree.specs.Steps.{Loading}
use Rattle.tree.specs.Loading.{LoadedTo, NodeTried}
use Rattle.tree.proofs.Views.{in_holes, alike_on}
use Rattle.tree.proofs.load.Goals as goal

start : (ns : List ℕ) {old mid new : List ℕ} {n : ℕ} → Cleared old mid MARKS (nodes_of n) → Cleared mid new SCRATCH n → n ≤ 1_024
    → LoadedTo (tree_in ns n) 0 new
start ns {n} a b l = grind (arith, common_steps, in_holes, kept_cell)

stop : {ns old mid new : List ℕ} {n k : ℕ} {r : Bool} → NodeTried ns n k mid new r → length mid ≡ length old → LoadedTo (tree_in ns n) k mid
    → k < nodes_of n → r ≡ false → Loading ns n old new (Some k)
stop t e d l f = grind (arith, common_steps)

done : (ns : List ℕ) (n : ℕ) {old new : List ℕ} {k : ℕ} → length new ≡ length old → LoadedTo (tree_in ns n) k new → k ≤ nodes_of n → nodes_of n ≤ k
    → Loading ns n old new None
done ns n {new} e d l m =
    record {
      len = e;
      found = λ j i g. g (d.rules j (omega arith));
      tree = λ z. alike_on (tree_in ns n) new n (in_holes ns n) (λ j i. d.nodes j (omega arith));
      marks = λ z c i.
          let b = d.marks c (omega (arith, in_holes ns n)) in
          (λ o j x. b.0 o j (omega arith), λ f. b.1 (λ j x. f j (omega arith)));
    }

pub loop-k-init : goal.loop-k-init
loop-k-init c = (omega arith, start c.args.nodes.now c.clear.ensures c.clear-2.ensures (omega arith))

pub returns-then-not-load_node : goal.returns-then-not-load_node
returns-then-not-load_node c = stop c.load_node.ensures c.loop-k.invariant.0 c.loop-k.invariant.1 (omega arith) c.if-not-load_node.true

pub loop-k-preserved : goal.loop-k-preserved
loop-k-preserved c = (omega arith, c.load_node.ensures.taken c.if-not-load_node.false)

pub returns : goal.returns
returns c = done c.args.nodes.now c.args.n c.loop-k.invariant.0 c.loop-k.invariant.1 (omega arith) (omega arith)
