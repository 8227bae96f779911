use mathlib.Core.Path.{◌≡◌}
use mathlib.Core.List.{List}
use Prim.Native.Nat.{ℕ, ◌+◌, ◌*◌, ◌≤◌, ◌<◌}
use native.Mathlib.Omega.{arith}
use Rattle.slate.specs.Columns.{FROM, MARKS}
use Rattle.slate.specs.Slate.{Set, Kept}
use Rattle.slate.proofs.Frames.{kept_none, kept_set, kept_both}
use Rattle.paper.specs.Record.{nodes_of}
use Rattle.paper.specs.Rules.{node_count}
use Rattle.tree.specs.Standing.{tree_on, Stands}
use Rattle.tree.specs.Steps.{Counted, Ranked}
use Rattle.tree.specs.Ranking.{NodeReady, NodeRanked}
use Rattle.tree.proofs.Views.{on_holes, same-tree}
use Rattle.tree.proofs.Stretches.{stretch_is}
use Rattle.tree.proofs.RankTurns.{RankedTo, shows, shows_still, start, placed, fits, ready, turn-kept, turn, ranked-hole, order_is}
use Rattle.tree.proofs.rank.Invariants.{NodesRanked}
use Rattle.tree.proofs.rank.Goals as goal

node_ready : {n k : ℕ} {old w : List ℕ} → NodesRanked n k old w → k < nodes_of n → NodeReady w k
node_ready {n} {old} r b = ready r.ranked (omega (arith, on_holes old n))

next : {n k : ℕ} {old w new : List ℕ} → NodesRanked n k old w → k < nodes_of n → NodeRanked w new k → NodesRanked n (k + 1) old new
next {n} {k} {old} r b p =
    let c : k < node_count (tree_on old n) = omega (arith, on_holes old n) in
    record { kept = kept_both r.kept (turn-kept r.ranked c p); ranked = turn r.ranked c p }

module _ {n : ℕ} {old mid : List ℕ} (s : Stands old n) (counted : Counted old n) (p : Set old mid FROM 0 0) where
  root_kept : Kept old mid (2_048 * FROM) (2_048 * MARKS)
  root_kept = kept_set p (omega arith) (omega arith)

  root_tree : tree_on mid n ≡ tree_on old n
  root_tree = same-tree mid old n (λ k b. p.rest _ (omega arith)) (λ k b. p.rest _ (omega arith))

  begin : NodesRanked n 0 mid mid
  begin = record { kept = kept_none; ranked = rw root_tree (start (shows_still (shows s counted) root_kept) p.here) }

  end : {new : List ℕ} {k : ℕ} → NodesRanked n k mid new → nodes_of n ≤ k → Ranked n old new
  end {new} {k} r all =
      let e = on_holes old n in
      let kept = kept_both root_kept r.kept in
      let d : RankedTo (tree_on old n) k new = rw root_tree at r.ranked in
      let hole = ranked-hole d (omega arith) in
      record {
        len = kept.len;
        order = rw e at (order_is d (omega arith));
        fits = λ j b. omega (arith, fits d j (omega arith) (omega arith), counted j b);
        stretch = λ j b. rw (counted j b) (stretch_is (placed d j (omega arith) (omega arith)));
        rank = λ h b. let g = hole h (omega arith) in rw g.3.rank (omega (arith, g.1));
        place = λ h b. let g = hole h (omega arith) in rw g.3.rank g.2;
        rest = kept.rest;
      }

pub loop-k-init : goal.loop-k-init
loop-k-init c = begin c.requires.stands c.requires.counted c.set_cell.ensures

pub rank_node-requires : goal.rank_node-requires
rank_node-requires c = node_ready c.loop-k.invariant (omega arith)

pub loop-k-preserved : goal.loop-k-preserved
loop-k-preserved c = next c.loop-k.invariant (omega arith) c.rank_node.ensures

pub returns : goal.returns
returns c = end c.requires.stands c.requires.counted c.set_cell.ensures c.loop-k.invariant (omega arith)
