-- The hole's coordinate is read from the list of bytes, and the side's two ends sum up to twice its centre. Assumes nothing.
use mathlib.Core.Path.{◌≡◌}
use mathlib.Core.List.{List}
use Prim.Native.Nat.{ℕ, ◌<◌, ◌+◌, ◌*◌}
use lib.Dec.{leb}
use lib.ListN.{get_or}
use borrow.Author.Rules.{rules}
use Rattle.words.specs.Words.{Read}
use Rattle.paper.specs.Field.{hole_at}
use Rattle.theory.proofs.Reading.{coordinate_read}
use Rattle.field.proofs.goes_first.Goals as goal

test : (s : List ℕ) (d o x c m n : ℕ) → x < d → Read 2 s (o + 2 * x) c → m ≡ n → leb (2 * c) m ≡ leb (2 * get_or (hole_at d s o) x 0) n
test s d o x c m n l r e = rw (coordinate_read d s o x l, ← r.is, e)

pub returns : goal.returns
returns c = search (test, rules)
