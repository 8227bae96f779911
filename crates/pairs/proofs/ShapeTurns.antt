-- What comparisons ask of the nodes, node by node: it is written below the columns of the boxes, so that it changes none of them. Assumes nothing.
use mathlib.Core.Path.{sym, ap, ◌∙◌}
use mathlib.Core.List.{List}
use Prim.Native.Nat.{ℕ, ◌+◌, ◌*◌, ◌<◌, ◌≤◌}
use native.Mathlib.Omega.{arith}
use borrow.Author.Count.{below_more}
use Rattle.slate.specs.Columns.{REACH, SIDE, LOW}
use Rattle.slate.specs.Slate.{Kept}
use Rattle.slate.proofs.Frames.{kept_set, kept_wider, kept_both, kept_cell, kept_cells, set-cell}
use Rattle.paper.specs.Tree.{longest}
use Rattle.paper.specs.Record.{nodes_of}
use Rattle.field.specs.Reach.{reach}
use Rattle.field.proofs.Boxes.{kept_box}
use Rattle.pairs.specs.Listing.{Shape, Boxes, ShapePut}

-- ---- one node

module _ {w w' : List ℕ} {d a b k : ℕ} (l : k < 2_048) (s : ShapePut d a b k w w') where
  shape_kept : Kept w w' (2_048 * REACH) (2_048 * LOW)
  shape_kept = kept_both (kept_set s.side_set (omega arith) (omega arith)) (kept_wider s.reach_set.kept (omega arith) (omega arith))

  shape_here : Shape w' d a b k
  shape_here =
      let B = sym (kept_box shape_kept (omega arith) d k) in
      record {
        side_is = kept_cell s.reach_set.kept SIDE k (λ x y. omega arith) ∙ s.side_set.here ∙ ap longest B;
        reach_is = s.reach_set.here ∙ ap (reach a b) B;
      }

  shape_other : (j : ℕ) → j < k → Shape w d a b j → Shape w' d a b j
  shape_other j m h =
      let B = sym (kept_box shape_kept (omega arith) d j) in
      record {
        side_is = kept_cell s.reach_set.kept SIDE j (λ x y. omega arith) ∙ set-cell s.side_set SIDE j (omega arith) ∙ h.side_is ∙ ap longest B;
        reach_is = kept_cells s.reach_set.kept 4 REACH j (λ x y. omega arith)
            ∙ kept_cells (kept_set {lo = 2_048 * SIDE} {hi = 2_048 * LOW} s.side_set (omega arith) (omega arith)) 4 REACH j (λ x y. omega arith)
            ∙ h.reach_is
            ∙ ap (reach a b) B;
      }

-- ---- the nodes below k

pub record ShapesBelow (d a b n k : ℕ) (old new : List ℕ) : Type 0 where
  pub kept : Kept old new (2_048 * REACH) (2_048 * LOW)
  pub few : k ≤ nodes_of n
  pub each : (j : ℕ) → j < k → Shape new d a b j

pub shape_more : {old w w' : List ℕ} {d a b n k : ℕ} → Boxes old d n → ShapesBelow d a b n k old w → k < nodes_of n → ShapePut d a b k w w'
    → ShapesBelow d a b n (k + 1) old w'
shape_more {w' = w'} {d = d} {a = a} {b = b} {k = k} g s l t =
    let m : k < 2_048 = omega (arith, g.few) in
    record {
      kept = kept_both s.kept (shape_kept m t);
      few = omega arith;
      each = below_more (Shape w' d a b) k (λ j h. shape_other m t j h (s.each j h)) (shape_here m t);
    }
