-- What summing up gives its callers: the tree is the same, since FIRST and SECOND are left, and so it stands, with its counts. Assumes nothing.
use mathlib.Core.Path.{◌≡◌}
use mathlib.Core.List.{List}
use Prim.Native.Nat.{ℕ, ◌*◌, ◌≤◌, ◌<◌}
use native.Mathlib.Omega.{arith}
use Rattle.words.specs.Area.{word}
use Rattle.slate.specs.Columns.{HOLES}
use Rattle.tree.specs.Standing.{tree_on, Stands}
use Rattle.tree.specs.Steps.{Summed, Counted}
use Rattle.tree.proofs.Standing.{left_tree, left_stands}

module _ {hs : List ℕ} {d n : ℕ} {old new : List ℕ} (s : Summed hs d n old new) where
  left : (i : ℕ) → i < 2_048 * HOLES → word new i ≡ word old i
  left i l = s.rest i (omega arith) (omega arith)

  pub summed_tree : n ≤ 1_024 → tree_on new n ≡ tree_on old n
  summed_tree l = left_tree new old left n l

  pub summed_stands : Stands old n → Stands new n
  summed_stands t = left_stands new old left s.len t

  pub summed_counted : n ≤ 1_024 → Counted new n
  summed_counted l k b = rw (summed_tree l) (s.holes k b)
