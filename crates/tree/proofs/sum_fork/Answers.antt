-- A node has what its parts have, and setting its cells leaves their boxes. Assumes nothing.
use mathlib.Core.Path.{◌≡◌}
use mathlib.Core.List.{List}
use Prim.Native.Nat.{ℕ, ◌+◌, ◌<◌, min}
use Rattle.slate.specs.Columns.{HOLES, LOWEST}
use Rattle.slate.specs.Slate.{cell, Held}
use Rattle.paper.specs.Tree.{around}
use Rattle.field.specs.Boxes.{NodeOn, box_on, Boxed}
use Rattle.tree.specs.Summing.{SumsPut, ForkFilled}
use Rattle.tree.proofs.SumTurns.{put_box, filled}
use Rattle.tree.proofs.sum_fork.Goals as goal

forked : {old mid new : List ℕ} {d k a b l : ℕ} (i j : ℕ) → Held old HOLES i a → Held old HOLES j b
    → (l ≡ min (cell old LOWEST i) (cell old LOWEST j)) × (l < 65_536) → NodeOn old d k → SumsPut old mid k (a + b) l
    → Boxed mid new d k (around (box_on mid d i) (box_on mid d j)) → ForkFilled d k i j old new
forked {d = d} i j x y z n p q = rw (← x.is, ← y.is, ← z.0, ← put_box p n.row d i, ← put_box p n.row d j) (filled p n.row q)

pub returns : goal.returns
returns c = forked _ _ c.cell.ensures c.cell-2.ensures c.lowest_of-l.ensures c.requires.node_on c.put_sums.ensures c.set_around.ensures
