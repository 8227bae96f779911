-- Measures of a tree that the theorems speak of, and the tree that a record's nodes make. Assumes nothing.
use Rattle.std.specs.Prelude.{◌≡◌, Bool, true, false, List, [], ◌∷◌, ℕ, zero, suc, ◌+◌, ◌*◌, ◌<◌, max, eqb}
use Rattle.paper.specs.Tree.{Tree, leaf, fork}
use Rattle.paper.specs.Record.{View}
use Rattle.paper.specs.Rules.{node, is_leaf, hole_count, node_count}

-- a property of each element
abbrev pub Each : {A : Type 0} → (A → Type 0) → List A → Type 0
Each P [] = Unit {0}
Each P (x ∷ xs) = P x × Each P xs

-- how many leaves are under a node, and how many splits the deepest is down
unfoldable pub leaves : Tree → ℕ
leaves (leaf k x) = 1
leaves (fork k a b) = leaves a + leaves b

unfoldable pub depth : Tree → ℕ
depth (leaf k x) = 0
depth (fork k a b) = suc (max (depth a) (depth b))

-- numbered from k as its nodes are met: a node, then all of its first part, then all of its second
abbrev pub Met : ℕ → Tree → Type 0
Met k (leaf j x) = j ≡ k
Met k (fork j a b) = (j ≡ k) × Met (k + 1) a × Met (k + 2 * leaves a) b

abbrev pub one_if : Bool → ℕ
one_if true = 1
one_if false = 0

-- how often a hole is under a node, and in a list
unfoldable pub times : ℕ → Tree → ℕ
times p (leaf k x) = one_if (eqb p x)
times p (fork k a b) = times p a + times p b

unfoldable pub often : ℕ → List ℕ → ℕ
often p [] = 0
often p (x ∷ xs) = one_if (eqb p x) + often p xs

-- the tree that a record's nodes make below node k. Parts have higher numbers, so no way down is longer than there are nodes
unfoldable pub grow_from : View → ℕ → ℕ → Tree
grow_from v zero k = leaf k 0
grow_from v (suc f) k =
    elim (is_leaf v k) [ true ↦ leaf k (node v k).1 | false ↦ fork k (grow_from v f (node v k).0) (grow_from v f (node v k).1) ]

unfoldable pub grow : View → ℕ → Tree
grow v k = grow_from v (node_count v) k

-- two views of one tree: as many holes, and the same nodes
pub record Alike (v u : View) : Type 0 where
  pub holes : hole_count v ≡ hole_count u
  pub nodes : (k : ℕ) → k < node_count v → node v k ≡ node u k
