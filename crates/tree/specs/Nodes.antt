-- A node by its two numbers: a leaf's are 65,535 and its hole, any other node's are its two parts. Assumes nothing.
use Rattle.std.specs.Prelude.{◌≡◌, ◌≢◌, ℕ}
use Rattle.paper.specs.Record.{leaf_mark}
use Rattle.tree.specs.declared.Node.{Node}
use Rattle.tree.specs.declared.Node.TheVariants.{Leaf, Fork}

abbrev pub numbers : Node → ℕ × ℕ
numbers (Leaf h) = (leaf_mark, h)
numbers (Fork i j) = (i, j)

-- the node that two numbers say
abbrev pub IsNode : ℕ → ℕ → Node → Type 0
IsNode one two (Leaf h) = (one ≡ leaf_mark) × (h ≡ two)
IsNode one two (Fork i j) = (one ≢ leaf_mark) × (i ≡ one) × (j ≡ two)
