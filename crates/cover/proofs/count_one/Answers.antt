-- A wide cell is one more, or its place is past n; the count has room, since it is at most the column's sum. Assumes nothing.
use Rattle.std.proofs.Common.{List, ℕ, ◌<◌, ◌+◌, arith, rules}
use Rattle.slate.specs.Slate.{CellsHeld}
use Rattle.cover.specs.Rows.{Counting}
use Rattle.cover.proofs.RowLaws.{upto_more, upto_most, one_more}
use Rattle.cover.proofs.count_one.Goals as goal

room : {w : List ℕ} {c n k v : ℕ} → Counting w c n → k < n → CellsHeld 2 w c k v → v + 1 < 4_294_967_296
room {w} {c} {n} {k} {v} p l h = omega (arith, p.most, h.is, upto_more w c k, upto_most w c (k + 1) n (omega arith))

ruleset all = (room, one_more, rules)

pub set_cells-requires : goal.set_cells-requires
set_cells-requires c = search all

pub returns-then-k-n : goal.returns-then-k-n
returns-then-k-n c = search all
