-- What the writing of each part leaves: a part is written after the one before it, and `written_more` joins them. Assumes nothing.
use mathlib.Core.Path.{◌≡◌, refl, sym, ap, ap₂, ◌∙◌}
use mathlib.Core.List.{List, [], ◌∷◌, ◌++◌, map, append-nil, append_assoc}
use Prim.Native.Nat.{ℕ, zero, suc, ◌+◌, ◌*◌, ◌-◌, ◌/◌, ◌%◌, ◌<◌, ◌≤◌}
use native.Mathlib.Numerals.{add-one}
use native.Mathlib.Omega.{arith}
use lib.ListN.{length, length-append}
use Rattle.words.specs.Words.{bytes, Written}
use Rattle.words.proofs.Laws.{length-bytes, written_more}
use Rattle.slate.specs.Columns.{FIRST, SECOND}
use Rattle.slate.specs.Slate.{cell}
use Rattle.paper.specs.Lists.{joined, from}
use Rattle.paper.specs.Field.{Ratio}
use Rattle.paper.specs.Record.{two_numbers, nodes_of}
use Rattle.tree.specs.Nodes.{numbers, IsNode}
use Rattle.tree.specs.Standing.{tree_on}
use Rattle.tree.specs.declared.Node.{Node}
use Rattle.tree.specs.declared.Node.TheVariants.{Leaf, Fork}
use Rattle.record.specs.Building.{head, node_bytes}

-- a node's two numbers
pub entry_done : (k : Node) (one two : ℕ) {a c : List ℕ} {at : ℕ} {p : ℕ × ℕ} → IsNode one two k → p ≡ numbers k → Written a c at (two_numbers p)
    → Written a c at (two_numbers (one, two))
entry_done (Leaf h) one two s e t = rw (s.0, ← s.1) (rw e at t)
entry_done (Fork i j) one two s e t = rw (← s.1, ← s.2) (rw e at t)

-- two bytes as one number
two_bytes : (a b : ℕ) → a < 256 → b < 256 → bytes 2 (256 * a + b) ≡ a ∷ b ∷ []
unfolding bytes
two_bytes a b l m =
    let e : (256 * a + b) / 256 % 256 ≡ a = omega arith in
    let f : (256 * a + b) / 1 % 256 ≡ b = omega arith in
    ap₂ {C = List ℕ} (λ x y. x ∷ y ∷ []) e f

pub head_done : (n : ℕ) {o p q r c : List ℕ} {a b : ℕ} → Ratio a b → Written o p 0 (bytes 2 (256 * a + b)) → Written p q 2 (bytes 2 n)
    → Written q r 4 c → Written o r 0 (head c a b n)
head_done n {a = a} {b = b} ratio s t u =
    let e = two_bytes a b (omega (arith, ratio.a_high)) (omega (arith, ratio.b_high)) in
    let first = rw e at s in
    written_more first (written_more t u (omega (arith, length-bytes 2 n))) refl

-- the nodes from i on, n of them, and one more
abbrev pub entries_from : List ℕ → ℕ → ℕ → List ℕ
entries_from w i n = joined two_numbers (map (λ j. (cell w FIRST j, cell w SECOND j)) (from i n))

pub joined_more : {B : Type 0} (f : B → List ℕ) (g : ℕ → B) (i n k : ℕ) → i + n ≡ k
    → joined f (map g (from i (suc n))) ≡ joined f (map g (from i n)) ++ f (g k)
joined_more f g i zero k e =
    let h : i ≡ k = omega arith in
    rw (append-nil, h)
joined_more f g i (suc n) k e =
    ap (λ (l : List ℕ). f (g i) ++ l) (joined_more f g (suc i) n k (omega arith)) ∙ sym (append_assoc (f (g i)) _ _)

entries_more : (w : List ℕ) (k : ℕ) → entries_from w 0 (suc k) ≡ entries_from w 0 k ++ two_numbers (cell w FIRST k, cell w SECOND k)
entries_more w k = joined_more two_numbers (λ j. (cell w FIRST j, cell w SECOND j)) 0 k k (omega arith)

length-entries : (w : List ℕ) (i n : ℕ) → length (entries_from w i n) ≡ 4 * n
length-entries w i zero = refl
length-entries w i (suc n) =
    omega (
      arith,
      length-append (two_numbers (cell w FIRST i, cell w SECOND i)) (entries_from w (suc i) n),
      length-append (bytes 2 (cell w FIRST i)) (bytes 2 (cell w SECOND i)),
      length-bytes 2 (cell w FIRST i),
      length-bytes 2 (cell w SECOND i),
      length-entries w (suc i) n,
    )

-- the nodes below k
pub record EntriesPut (w : List ℕ) (n k : ℕ) (old new : List ℕ) : Type 0 where
  pub put : Written old new (6 + 4 * n) (entries_from w 0 k)

pub one_put : (k : ℕ) {w a b c : List ℕ} {n : ℕ} → EntriesPut w n k a b
    → Written b c (6 + 4 * n + 4 * k) (two_numbers (cell w FIRST k, cell w SECOND k)) → EntriesPut w n (k + 1) a c
one_put k {w} p s = record { put = rw (add-one, entries_more w k) (written_more p.put s (omega (arith, length-entries w 0 k))) }

pub all_put : (w : List ℕ) (n : ℕ) {a b : List ℕ} {k : ℕ} → EntriesPut w n k a b → k ≤ nodes_of n → nodes_of n ≤ k
    → Written a b (6 + 4 * n) (joined two_numbers (tree_on w n).nodes)
unfolding tree_on
all_put w n {k} p l h =
    let e : k ≡ nodes_of n = omega arith in
    rw e at p.put

-- the node count, and then the nodes
pub nodes_done : (w : List ℕ) (n : ℕ) {a b c : List ℕ} → Written a b (4 + 4 * n) (bytes 2 (2 * n - 1))
    → Written b c (6 + 4 * n) (joined two_numbers (tree_on w n).nodes) → Written a c (4 + 4 * n) (node_bytes w n)
nodes_done w n s t = written_more s t (omega (arith, length-bytes 2 (2 * n - 1)))
