-- D, and the larger G, are what `separated` is of. Assumes nothing.
use mathlib.Core.Path.{◌≡◌}
use mathlib.Core.Bool.{Bool, ◌&&◌, not}
use Prim.Native.Nat.{ℕ, ◌+◌, ◌*◌, max}
use lib.Dec.{eqb, leb}
use borrow.Author.Rules.{rules}
use Rattle.paper.specs.Field.{square}
use Rattle.paper.specs.Tree.{Box}
use Rattle.paper.specs.Separation.{G, D, separated}
use Rattle.field.proofs.is_separated.Goals as goal

apart : (a b : ℕ) (A B : Box) (far g h size : ℕ) (t : Bool) → far ≡ D A B → g ≡ G A → h ≡ G B → size ≡ max g h
    → t ≡ (not (eqb far 0) && leb (square (2 * b + a) * size) (square b * far)) → t ≡ separated a b A B
unfolding separated
apart a b A B far g h size t e f i j k = rw (← e, ← f, ← i, ← j) k

pub returns : goal.returns
returns c = search (apart, rules)
