-- Summing up, node by node from the last down. A node's parts are above it, so they are summed up when its turn comes, and what is under it is what
-- is under its first part, then what is under its second. Assumes nothing.
use Rattle.std.proofs.lemmas.Grind.{common_steps}
use mathlib.Core.Path.{◌≡◌, ◌∙◌}
use mathlib.Core.List.{List}
use Prim.Native.Nat.{ℕ, ◌+◌, ◌*◌, ◌-◌, ◌≤◌, ◌<◌}
use native.Mathlib.Nat.{zero-add}
use native.Mathlib.Omega.{arith}
use lib.Dec.{eqb}
use lib.ListN.{length}
use borrow.Author.Tests.{eqb-true, eqb-false}
use Rattle.words.specs.Area.{word}
use Rattle.slate.specs.Columns.{FIRST, SECOND, HOLES, LOWEST, FROM, LOW}
use Rattle.slate.specs.Slate.{cell}
use Rattle.paper.specs.Field.{holes_at}
use Rattle.paper.specs.Tree.{Box}
use Rattle.paper.specs.Record.{View, leaf_mark, nodes_of}
use Rattle.paper.specs.Rules.{under_node}
use Rattle.paper.proofs.ListLaws.{cases}
use Rattle.theory.proofs.Reading.{hole_read}
use Rattle.field.specs.Boxes.{HolesIn, box_on, Boxed}
use Rattle.field.proofs.Boxes.{box_high, boxed-cell, boxed_other}
use Rattle.field.proofs.Places.{hole_in}
use Rattle.tree.specs.Standing.{tree_on, Stands}
use Rattle.tree.specs.Summing.{SumsPut, Filled, PartsAbove, Summable, NodeSummed}
use Rattle.tree.proofs.Totals.{Totals, totals_one, totals_both}
use Rattle.tree.proofs.Standing.{
  PartOn,
  under_some,
  under_few,
  leaf_hole,
  leaf_under,
  first_on,
  second_on,
  fork_under,
  left_tree,
  left_stands,
}

-- ---- one node's cells and box

module _ {old mid : List ℕ} {k m l : ℕ} (p : SumsPut old mid k m l) (b : k < 2_048) where
  pub put_box : (d j : ℕ) → box_on mid d j ≡ box_on old d j
  put_box d j = box_high mid old d j (λ i a. p.rest i (omega arith) (omega arith))

  pub filled : {new : List ℕ} {d : ℕ} {B : Box} → Boxed mid new d k B → Filled old new d k m l B
  filled {d} q =
      record {
        len = q.len ∙ p.len;
        holes = boxed-cell q HOLES k (omega arith) b ∙ p.holes;
        lowest = boxed-cell q LOWEST k (omega arith) b ∙ p.lowest;
        box = q.box;
        others = λ j a e. boxed_other q b j a e ∙ put_box d j;
        rest = λ i e f a. q.rest i (λ c g h o. omega arith) ∙ p.rest i e f;
      }

-- ---- the nodes from k on

-- what is on the slate w for node j is what is under it in the tree t
abbrev pub SummedAt : List ℕ → ℕ → ℕ → View → List ℕ → ℕ → Type 0
SummedAt hs d n t w j = Totals (holes_at d hs 0 n) (under_node t j) (cell w HOLES j) (cell w LOWEST j) (box_on w d j)

-- the nodes from k on are summed up. Beside these columns nothing has changed
pub record SummedFrom (hs : List ℕ) (d n : ℕ) (old new : List ℕ) (k : ℕ) : Type 0 where
  pub within : k ≤ nodes_of n
  pub len : length new ≡ length old
  pub totals : (j : ℕ) → k ≤ j → j < nodes_of n → SummedAt hs d n (tree_on old n) new j
  pub rest : (i : ℕ) → (2_048 * HOLES ≤ i → i < 2_048 * FROM → ⊥) → i < 2_048 * LOW → word new i ≡ word old i

-- node k's turn: the nodes above it are summed up
module _ {old w hs : List ℕ} {d n : ℕ} (k : ℕ) (t : Stands old n) (h : HolesIn hs d n) (s : SummedFrom hs d n old w (k + 1)) where
  node_k : k < nodes_of n
  node_k = omega (arith, s.within)

  left : (i : ℕ) → i < 2_048 * HOLES → word w i ≡ word old i
  left i l = s.rest i (omega arith) (omega arith)

  same : tree_on w n ≡ tree_on old n
  same = left_tree w old left n t.few

  stands : Stands w n
  stands = left_stands w old left s.len t

  part_summed : {c : ℕ} → PartOn n k c → SummedAt hs d n (tree_on w n) w c
  part_summed {c} p = rw same (s.totals c (omega (arith, p.above)) p.node)

  part_row : {c : ℕ} → PartOn n k c → (k < c) × (c < 2_048)
  part_row p = (p.above, omega (arith, p.node, t.few))

  parts_above : (cell w FIRST k ≡ leaf_mark → ⊥) → PartsAbove w k (cell w FIRST k) (cell w SECOND k)
  parts_above f = grind (arith, common_steps, first_on, second_on, part_row, part_summed, under_few)

  node_ready : Summable w hs d k
  node_ready =
      record {
        on = record { grid = stands.grid; axes = h.axes; row = omega (arith, t.few, node_k) };
        leaf = λ e. hole_in h (leaf_hole stands k node_k e);
        fork = parts_above;
      }

  fill : {new : List ℕ} {m l : ℕ} {B : Box} → Filled w new d k m l B → Totals (holes_at d hs 0 n) (under_node (tree_on w n) k) m l B
      → SummedFrom hs d n old new k
  fill q z = grind (arith, common_steps, node_k, same)

  node_turn : {new : List ℕ} → NodeSummed hs d k w new → SummedFrom hs d n old new k
  node_turn p =
      cases (eqb (cell w FIRST k) leaf_mark)
      (λ e.
      let f = eqb-true _ _ e in
      let r = hole_read d hs 0 n (cell w SECOND k) (leaf_hole stands k node_k f) in
      fill (p.leaf f) (rw (leaf_under stands k node_k f) (totals_one (rw zero-add at r))))
      (λ e.
      let f = eqb-false _ _ e in
      let x = first_on stands k node_k f in
      let y = second_on stands k node_k f in
      fill (p.fork f)
      (rw (fork_under stands k node_k f)
      (totals_both (part_summed x) (part_summed y) (under_some stands _ x.node) (under_some stands _ y.node))))

-- the same as the loop has it: k is the lowest node that is summed up, and the turn is that of the node before
module _ {old w hs : List ℕ} {d n k : ℕ} (t : Stands old n) (h : HolesIn hs d n) (s : SummedFrom hs d n old w k) (a : 0 < k) where
  before : SummedFrom hs d n old w (k - 1 + 1)
  before = let e : k - 1 + 1 ≡ k = omega arith in rw e s

  pub ready : Summable w hs d (k - 1)
  ready = node_ready (k - 1) t h before

  pub turn : {new : List ℕ} → NodeSummed hs d (k - 1) w new → SummedFrom hs d n old new (k - 1)
  turn p = node_turn (k - 1) t h before p
