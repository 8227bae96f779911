-- The tree on the slate and the tree in a record's nodes, node by node: a list made over the numbers below n has at k what is made of k.
-- So areas with the same first and second parts have the same tree. Assumes nothing.
use Rattle.std.proofs.lemmas.Grind.{common_steps}
use mathlib.Core.Path.{◌≡◌, refl, ap₂, ◌∙◌}
use mathlib.Core.List.{List, [], ◌∷◌, map}
use Prim.Native.Nat.{ℕ, zero, suc, ◌+◌, ◌*◌, ◌<◌, ◌≤◌}
use native.Mathlib.Nat.{add-zero, zero-add}
use native.Mathlib.Omega.{arith}
use lib.ListN.{length, get_or, length-map}
use Rattle.words.specs.Words.{be}
use Rattle.slate.specs.Columns.{FIRST, SECOND}
use Rattle.slate.specs.Slate.{cell}
use Rattle.paper.specs.Lists.{from, below}
use Rattle.paper.specs.Record.{View, nodes_of, two_numbers_at}
use Rattle.paper.specs.Rules.{hole_count, node}
use Rattle.theory.specs.Trees.{Alike}
use Rattle.theory.proofs.EachLaws.{length_from}
use Rattle.theory.proofs.Reading.{get_or-list_at}
use Rattle.tree.specs.Standing.{blank, tree_on, tree_in}

module _ {B : Type 0} where
  mapped_at : (f : ℕ → B) (i n k : ℕ) (d : B) → k < n → get_or (map f (from i n)) k d ≡ f (i + k)
  mapped_at f i zero k d l = absurd (omega arith)
  mapped_at f i (suc n) zero d l = rw add-zero
  mapped_at f i (suc n) (suc k) d l =
      let e : i + suc k ≡ suc i + k = omega arith in
      rw e (mapped_at f (suc i) n k d (omega arith))

  pub mapped_same : (f g : ℕ → B) (i n : ℕ) → ((k : ℕ) → i ≤ k → k < i + n → f k ≡ g k) → map f (from i n) ≡ map g (from i n)
  mapped_same f g i zero h = refl
  mapped_same f g i (suc n) h =
      ap₂ {C = List B} (λ x xs. x ∷ xs) (h i (omega arith) (omega arith)) (mapped_same f g (suc i) n (λ k a b. h k (omega arith) (omega arith)))

-- how many holes
blank-length : (n : ℕ) → length (blank n) ≡ n
unfolding blank
blank-length n = length-map (below n) (λ i. []) ∙ length_from 0 n

pub on_holes : (w : List ℕ) (n : ℕ) → hole_count (tree_on w n) ≡ n
unfolding tree_on
on_holes w n = blank-length n

pub in_holes : (ns : List ℕ) (n : ℕ) → hole_count (tree_in ns n) ≡ n
unfolding tree_in
in_holes ns n = blank-length n

-- node k
pub on_node : (w : List ℕ) (n k : ℕ) → k < nodes_of n → node (tree_on w n) k ≡ (cell w FIRST k, cell w SECOND k)
unfolding tree_on
on_node w n k l = mapped_at (λ k. (cell w FIRST k, cell w SECOND k)) 0 (nodes_of n) k (0, 0) l ∙ simp zero-add

pub in_node : (ns : List ℕ) (n k : ℕ) → k < nodes_of n → node (tree_in ns n) k ≡ (be 2 ns (4 * k), be 2 ns (4 * k + 2))
unfolding tree_in
in_node ns n k l = get_or-list_at two_numbers_at 4 ns 0 (nodes_of n) k (0, 0) l ∙ simp zero-add

-- the same parts make the same tree
pub same-tree : (a b : List ℕ) (n : ℕ) → ((k : ℕ) → k < nodes_of n → cell a FIRST k ≡ cell b FIRST k)
    → ((k : ℕ) → k < nodes_of n → cell a SECOND k ≡ cell b SECOND k) → tree_on a n ≡ tree_on b n
unfolding tree_on
same-tree a b n f s =
    rw (mapped_same (λ k. (cell a FIRST k, cell a SECOND k)) (λ k. (cell b FIRST k, cell b SECOND k)) 0 (nodes_of n)
    (λ k x l. ap₂ {C = ℕ × ℕ} (λ p q. (p, q)) (f k (omega arith)) (s k (omega arith))))

-- a view with the nodes that are on the slate is alike, and so are a record's nodes with the same numbers
pub alike_on : (v : View) (w : List ℕ) (n : ℕ) → hole_count v ≡ n → ((k : ℕ) → k < nodes_of n → node v k ≡ (cell w FIRST k, cell w SECOND k))
    → Alike v (tree_on w n)
alike_on v w n e h = grind (arith, common_steps, on_holes, on_node)

pub alike_tree : (ns w : List ℕ) (n : ℕ) → ((k : ℕ) → k < nodes_of n → cell w FIRST k ≡ be 2 ns (4 * k))
    → ((k : ℕ) → k < nodes_of n → cell w SECOND k ≡ be 2 ns (4 * k + 2)) → Alike (tree_in ns n) (tree_on w n)
alike_tree ns w n f s = alike_on (tree_in ns n) w n (in_holes ns n) (λ k l. in_node ns n k l ∙ rw (f k l, s k l))
