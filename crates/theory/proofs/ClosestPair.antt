-- The closest pair of a taken record, whoever made it: at a ratio over 2 the nearest two holes are the two sides of a listed pair of leaves,
-- since a second hole on either side would be nearer to the one there than the other of the two is. So the nearest of the one-hole pairs
-- are the nearest two of all, and the pitch test needs only them. At the ratio 2 this fails: `ClosestAtTwo`. Assumes nothing.
use mathlib.Core.Path.{◌≡◌, refl, sym, ◌∙◌}
use mathlib.Core.Logic.{◌↔◌, ◌≢◌, ◌⊎◌, inl, inr, ⊎_elim}
use mathlib.Core.Bool.{true}
use mathlib.Core.List.Memᴰ
use mathlib.Core.List.{[], ◌∷◌}
use Prim.Native.Nat.{ℕ, suc, ◌*◌, ◌-◌, ◌≤◌, ◌<◌}
use native.Mathlib.Nat.{le_trans}
use native.Mathlib.Omega.{arith}
use lib.Dec.{eqb, ltb}
use lib.ListN.{length}
use borrow.Author.Tests.{eq-eqb, eqb-true, eqb-false, ltb-true, ltb-false}
use Rattle.paper.specs.Field.{Field, hole}
use Rattle.paper.specs.Separation.{Separated}
use Rattle.paper.specs.Record.{View}
use Rattle.paper.specs.Rules.{
  hole_count,
  node_count,
  pair_count,
  node,
  pair,
  is_leaf,
  Leaf,
  under_from,
  under_node,
  boxed,
  PairRule,
  Under,
  OnePair,
}
use Rattle.paper.specs.Questions.{apart, nearest, Nearest, keeps}
use Rattle.paper.proofs.ListLaws.{cases}
use Rattle.theory.proofs.Statements.{nearest_is, keeps_is}
use Rattle.theory.proofs.Separation.{distance_swapped, separated_swapped, sets_nearer}

-- the pitch test needs only the nearest two: every two holes keep p exactly when they do
pub pitch-nearest : (H : Field) → 2 ≤ length H → (p : ℕ) → keeps H p ≡ true ↔ (p * p ≤ apart H (nearest H))
pitch-nearest H h p =
    let w = nearest_is H h in
    let q = nearest H in (
      λ e. (keeps_is H p).0 e q.0 q.1 w.order w.within,
      λ l. (keeps_is H p).1 (λ i j a b. le_trans l (w.least i j a b)),
    )

module _ (v : View) where
  -- leaf k holds the hole x
  abbrev pub Holds : ℕ → ℕ → Type 0
  Holds k x = Leaf v k × ((node v k).1 ≡ x)

  -- a pair of leaves, one that holds i and one that holds j
  abbrev pub Sides : ℕ → ℕ → ℕ × ℕ → Type 0
  Sides i j r = (Holds r.0 i × Holds r.1 j) ⊎ (Holds r.0 j × Holds r.1 i)

  -- the holes i < j are the two sides of a listed pair of leaves
  pub record OneHole (i j : ℕ) : Type 0 where
    pub order : i < j
    pub which : ℕ
    pub listed : which < pair_count v
    pub sides : Sides i j (pair v which)

  -- of those, the least distance, then the least i, then the least j
  pub record LeastOneHole (q : ℕ × ℕ) : Type 0 where
    pub one_hole : OneHole q.0 q.1
    pub least : (i j : ℕ) → OneHole i j → apart v.holes q ≤ apart v.holes (i, j)
    pub first : (i j : ℕ) → OneHole i j → apart v.holes (i, j) ≡ apart v.holes q → (i < q.0 → ⊥) × (i ≡ q.0 → j < q.1 → ⊥)

  -- under a leaf is its hole alone
  pub under_leaf : 1 ≤ hole_count v → (k : ℕ) → Leaf v k → under_node v k ≡ (node v k).1 ∷ []
  unfolding under_node under_from
  under_leaf h k l =
      let e : node_count v ≡ suc (node_count v - 1) = omega arith in
      let t : is_leaf v k ≡ true = eq-eqb _ _ l in
      rw (e, under_from, t)

apart_swapped : (H : Field) (i j : ℕ) → apart H (i, j) ≡ apart H (j, i)
unfolding apart
apart_swapped H i j = distance_swapped (hole H i) (hole H j)

-- no two different holes are nearer than the nearest, whichever is named first
nearest_any : (H : Field) (q : ℕ × ℕ) → Nearest H q → (x y : ℕ) → x < length H → y < length H → x ≢ y → apart H q ≤ apart H (x, y)
nearest_any H q w x y h k n =
    cases (ltb x y)
    (λ e. w.least x y (ltb-true x y e) k)
    (λ e. let f = ltb-false x y e in rw (apart_swapped H x y) (w.least y x (omega arith) h))

-- d coordinates and two holes at least, at a ratio over 2; from the node rules, that only holes of the field are under a node, and one hole
-- alone only under its leaf; the pair rule; and that every two different holes are covered once
module _
    (v : View)
    (d : ℕ)
    (sized : (i : ℕ) → i < hole_count v → length (hole v.holes i) ≡ d)
    (enough : 2 ≤ hole_count v)
    (ratio : 2 * v.b < v.a)
    (below : (k : ℕ) → k < node_count v → (x : ℕ) → Under v x k → x < hole_count v)
    (alone : (k : ℕ) → k < node_count v → (x : ℕ) → Under v x k → ((y : ℕ) → Under v y k → y ≡ x) → Leaf v k)
    (rule : (k : ℕ) → k < pair_count v → PairRule v (pair v k))
    (covered : (p q : ℕ) → p < hole_count v → q < hole_count v → p ≢ q → OnePair v p q)
  where
    -- of two separated nodes with the nearest two holes under them, the first is a leaf: another hole there would be nearer
    one_side : (A B p q : ℕ) → A < node_count v → B < node_count v → Separated v.a v.b (boxed v A) (boxed v B) → Under v p A → Under v q B
        → apart v.holes (p, q) ≡ apart v.holes (nearest v.holes) → Holds v A p
    unfolding apart
    one_side A B p q l r far m n e =
        let is_leaf : Leaf v A = alone A l p m (λ y o. cases (eqb y p) (eqb-true y p) (λ f. absurd (no_other y o (eqb-false y p f)))) in
        (is_leaf, sym (Memᴰ.eq_of_singleton (rw (under_leaf v (omega arith) A is_leaf) at m)))
      where
        no_other : (y : ℕ) → Under v y A → y ≢ p → ⊥
        no_other y o f =
            let near = nearest_any v.holes _ (nearest_is v.holes enough) p y (below A l p m) (below A l y o) (λ g. f (sym g)) in
            let nearer
            = sets_nearer v.holes d v.a v.b (under_node v A) (under_node v B)
            (λ i u. sized i (below A l i u)) (λ i u. sized i (below B r i u)) far ratio p y q m o n in
            omega arith

    both-sides : (k p q : ℕ) → k < pair_count v → Under v p (pair v k).0 → Under v q (pair v k).1
        → apart v.holes (p, q) ≡ apart v.holes (nearest v.holes) → Holds v (pair v k).0 p × Holds v (pair v k).1 q
    both-sides k p q l m n e =
        let w = rule k l in (
          one_side (pair v k).0 (pair v k).1 p q w.left w.right w.far m n e,
          one_side (pair v k).1 (pair v k).0 q p w.right w.left (separated_swapped _ _ _ _ w.far) n m
              (apart_swapped v.holes q p ∙ e),
        )

    -- the nearest two holes are the sides of a listed pair of leaves: of the pair that covers them
    pub closest-listed : OneHole v (nearest v.holes).0 (nearest v.holes).1
    closest-listed =
        let q = nearest v.holes in
        let w = nearest_is v.holes enough in
        let o = covered q.0 q.1 (omega (arith, w.order, w.within)) w.within (omega (arith, w.order)) in
        record {
          order = w.order;
          which = o.which;
          listed = o.listed;
          sides = ⊎_elim
              (λ u. inl (both-sides o.which q.0 q.1 o.listed u.0 u.1 refl))
              (λ u. inr (both-sides o.which q.1 q.0 o.listed u.0 u.1 (apart_swapped v.holes q.1 q.0)))
              o.covers;
        }

    -- the holes of a one-hole pair are holes of the field
    one-hole-below : (i j : ℕ) → OneHole v i j → j < hole_count v
    one-hole-below i j o =
        let w = rule o.which o.listed in
        ⊎_elim (λ u. held (pair v o.which).1 j w.right u.1) (λ u. held (pair v o.which).0 j w.left u.0) o.sides
      where
        held : (k x : ℕ) → k < node_count v → Holds v k x → x < hole_count v
        held k x l h = below k l x (rw (under_leaf v (omega arith) k h.0) (Memᴰ.head (sym h.1)))

    -- so the least one-hole pair, and no other, is the nearest two
    pub closest-least : (q : ℕ × ℕ) → LeastOneHole v q ↔ (q ≡ nearest v.holes)
    closest-least q = (to, λ e. rw e from)
      where
        from : LeastOneHole v (nearest v.holes)
        from =
            let w = nearest_is v.holes enough in
            record {
              one_hole = closest-listed;
              least = λ i j o. w.least i j o.order (one-hole-below i j o);
              first = λ i j o e. w.first i j o.order (one-hole-below i j o) e;
            }

        to : LeastOneHole v q → q ≡ nearest v.holes
        to u =
            let n = nearest v.holes in
            let w = nearest_is v.holes enough in
            let l = one-hole-below q.0 q.1 u.one_hole in
            let h = w.least q.0 q.1 u.one_hole.order l in
            let k = u.least n.0 n.1 closest-listed in
            let e : apart v.holes q ≡ apart v.holes n = omega arith in
            let f = w.first q.0 q.1 u.one_hole.order l e in
            let g = u.first n.0 n.1 closest-listed (sym e) in
            let x : q.0 ≡ n.0 = omega (arith, f.0, g.0) in
            let y : q.1 ≡ n.1 = omega (arith, f.1 x, g.1 (sym x)) in
            λ i. (x i, y i)
