-- The two readings of each rule agree: the test that computes, and the statement in document 01's words. Assumes nothing.
use mathlib.Core.Path.{◌≡◌, refl, sym, ap, ◌∙◌, fun_ext}
use mathlib.Core.Logic.{◌↔◌, inl, inr, ⊎_elim}
use mathlib.Core.Bool.{Bool, true, false, ◌&&◌, ◌||◌, not}
use mathlib.Core.List.Memᴰ
use mathlib.Core.List.{List, [], ◌∷◌, map, Memᴰ}
use Prim.Native.Nat.{ℕ, suc, ◌+◌, ◌*◌, ◌-◌, ◌≤◌, ◌<◌, max}
use native.Mathlib.Nat.{min-eq_left, min-eq_right, le_of_lt}
use native.Mathlib.Omega.{arith}
use lib.Dec.{leb, ltb, eqb}
use lib.ListN.{length}
use borrow.Author.Tests.{leb-true, leb-false, le-leb, ltb-true, ltb-false, lt-ltb, eqb-true, eqb-false, eq-eqb, ne_eqb}
use Rattle.paper.specs.Lists.{some_of, first_passing, same, has, from, below, twos}
use Rattle.paper.specs.Field.{Field, hole, ratio_ok, Ratio, within, square}
use Rattle.paper.specs.Tree.{Box}
use Rattle.paper.specs.Separation.{G, D, separated, Separated}
use Rattle.paper.specs.Record.{View}
use Rattle.paper.specs.Rules.{repeats, Repeats, hole_count, node_count, node, is_leaf, names, holds, part_ok, node_ok, Leaf, Names, LeafRule, PartRule, ForkRule, NodeRule, under_node, boxed, pair_ok, PairRule, covers, covered_once, Covers, OnePair}
use Rattle.paper.specs.Refusals.{least, Least, LeastTwo}
use Rattle.paper.specs.Questions.{apart, nearer, nearest, Nearest, keeps, lowest}
use Rattle.paper.proofs.ListLaws.{both, cases, not_so, and_is, or_is, not_is, same_is, has_is, some_least, first-from, none_from, some_from, some_joined, some_map, first-map, first-joined, one_is}

-- least values
module _ (t : ℕ → Bool) (k : ℕ) where
  pub least_is : some_of t (below k) ≡ true → Least (λ i. t i ≡ true) k (least t k)
  least_is e =
      let w = first-from t 0 k 0 e in
      record { within = omega (arith, w.within); holds = w.holds; none_before = λ j b h. both h (w.none_before j (omega arith) b) }

  pub none_is : some_of t (below k) ≡ false → (j : ℕ) → j < k → t j ≡ false
  none_is e j b = none_from t 0 k e j (omega arith) (omega arith)

  pub some_below : (j : ℕ) → j < k → t j ≡ true → some_of t (below k) ≡ true
  some_below j b h = some_from t 0 k j (omega arith) (omega arith) h

-- the least two
module _ (t : ℕ × ℕ → Bool) (n : ℕ) where
  row : ℕ → Bool
  row i = some_of (λ j. t (i, j)) (from (suc i) (n - suc i))

  couples : ℕ → List (ℕ × ℕ)
  couples i = map (λ j. (i, j)) (from (suc i) (n - suc i))

  row_is : (λ i. some_of t (couples i)) ≡ row
  unfolding row couples
  row_is = fun_ext (λ i. some_map t (λ j. (i, j)) (from (suc i) (n - suc i)))

  by_rows : some_of t (twos n) ≡ some_of row (below n)
  unfolding couples
  by_rows = some_joined t couples (below n) ∙ ap (λ (g : ℕ → Bool). some_of g (below n)) row_is

  pub none_two : some_of t (twos n) ≡ false → (i j : ℕ) → i < j → j < n → t (i, j) ≡ false
  unfolding row
  none_two e i j a b =
      none_from (λ j. t (i, j)) (suc i) (n - suc i) (none_is row n (sym by_rows ∙ e) i (omega arith)) j (omega arith) (omega arith)

  pub some_two : (i j : ℕ) → i < j → j < n → t (i, j) ≡ true → some_of t (twos n) ≡ true
  some_two i j a b h = cases (some_of t (twos n)) (λ e. e) (λ e. both h (none_two e i j a b))

  pub least_two_is : some_of t (twos n) ≡ true → LeastTwo (λ q. t q ≡ true) n (first_passing t (twos n) (0, 0))
  unfolding row couples
  least_two_is e =
      let f : some_of row (below n) ≡ true = sym by_rows ∙ e in
      let i = first_passing row (below n) 0 in
      let u = first-from row 0 n 0 f in
      let j = first_passing (λ j. t (i, j)) (from (suc i) (n - suc i)) 0 in
      let w = first-from (λ j. t (i, j)) (suc i) (n - suc i) 0 u.holds in
      let q : first_passing t (twos n) (0, 0) ≡ (i, j)
      = first-joined t couples (below n) (0, 0) 0 (rw row_is f)
      ∙ ap (λ (g : ℕ → Bool). first_passing t (couples (first_passing g (below n) 0)) (0, 0)) row_is
      ∙ first-map t (λ k. (i, k)) (from (suc i) (n - suc i)) (0, 0) 0 u.holds in
      rw q
      (record {
        order = w.start;
        within = omega (arith, w.within, w.start, u.within);
        holds = w.holds;
        none_before = λ i' j' a b h. (
          λ l. both (some_from (λ j. t (i', j)) (suc i') (n - suc i') j' (omega arith) (omega arith) h) (u.none_before i' (omega arith) l),
          λ s l. both (rw s at h) (w.none_before j' (omega arith) l),
        );
      })

-- the ratio, and separation
pub ratio_is : (a b : ℕ) → ratio_ok a b ≡ true ↔ Ratio a b
unfolding ratio_ok
ratio_is a b = (
  λ e.
      let w = (and_is (within 1 64 a) (within 1 8 b)).0 e in
      let u = (and_is (leb 1 a) (leb a 64)).0 w.0 in
      let v = (and_is (leb 1 b) (leb b 8)).0 w.1 in
      record { a_low = leb-true _ _ u.0; a_high = leb-true _ _ u.1; b_low = leb-true _ _ v.0; b_high = leb-true _ _ v.1 },
  λ r. rw (le-leb _ _ r.a_low, le-leb _ _ r.a_high, le-leb _ _ r.b_low, le-leb _ _ r.b_high),
)

pub separated_is : (a b : ℕ) (A B : Box) → separated a b A B ≡ true ↔ Separated a b A B
unfolding separated
separated_is a b A B =
    let near = not (eqb (D A B) 0) in
    let far = leb (square (2 * b + a) * max (G A) (G B)) (square b * D A B) in (
      λ e.
          let w = (and_is near far).0 e in
          record { apart = λ z. (not_is (eqb (D A B) 0)).0 w.0 (eq-eqb _ _ z); wide = leb-true _ _ w.1 },
      λ s. (and_is near far).1 ((not_is (eqb (D A B) 0)).1 (λ e. s.apart (eqb-true _ _ e)), le-leb _ _ s.wide),
    )

-- repeated holes
pub repeats_is : (H : Field) (i : ℕ) → repeats H i ≡ true ↔ Repeats H i
unfolding repeats
repeats_is H i =
    let t : ℕ → Bool = λ j. same (hole H j) (hole H i) in (
      λ e. let w = least_is t i e in record { other = least t i; lower = w.within; place = (same_is _ _).0 w.holds },
      λ r. some_below t i r.other r.lower ((same_is _ _).1 r.place),
    )

-- the node rule
module _ (v : View) where
  leaf_is : (k : ℕ) → is_leaf v k ≡ true ↔ Leaf v k
  leaf_is k = (λ e. eqb-true _ _ e, λ e. eq-eqb _ _ e)

  inner_is : (k : ℕ) → is_leaf v k ≡ false ↔ (Leaf v k → ⊥)
  inner_is k = (λ e. eqb-false _ _ e, λ f. ne_eqb _ _ f)

  pub names_is : (c j : ℕ) → names v c j ≡ true ↔ Names v j c
  unfolding names
  names_is c j = (
    λ e.
        let w = (and_is (not (is_leaf v j)) (eqb (node v j).0 c || eqb (node v j).1 c)).0 e in (
          λ l. (not_is (is_leaf v j)).0 w.0 ((leaf_is j).1 l),
          ⊎_elim (λ h. inl (eqb-true _ _ h)) (λ h. inr (eqb-true _ _ h)) ((or_is (eqb (node v j).0 c) (eqb (node v j).1 c)).0 w.1),
        ),
    λ n.
        (and_is (not (is_leaf v j)) (eqb (node v j).0 c || eqb (node v j).1 c)).1 (
          (not_is (is_leaf v j)).1 (λ h. n.0 ((leaf_is j).0 h)),
          (or_is (eqb (node v j).0 c) (eqb (node v j).1 c)).1 (⊎_elim (λ h. inl (eq-eqb _ _ h)) (λ h. inr (eq-eqb _ _ h)) n.1),
        ),
  )

  part_is : (k c : ℕ) → part_ok v k c ≡ true ↔ PartRule v k c
  unfolding part_ok
  part_is k c =
      let new = not (some_of (names v c) (below k)) in (
        λ e.
            let w = (and_is (ltb k c && ltb c (node_count v)) new).0 e in
            let u = (and_is (ltb k c) (ltb c (node_count v))).0 w.0 in
            record {
              above = ltb-true _ _ u.0;
              node = ltb-true _ _ u.1;
              new = λ j l n. (not_is (some_of (names v c) (below k))).0 w.1 (some_below (names v c) k j l ((names_is c j).1 n));
            },
        λ r.
            (and_is (ltb k c && ltb c (node_count v)) new).1 (
              (and_is (ltb k c) (ltb c (node_count v))).1 (lt-ltb _ _ r.above, lt-ltb _ _ r.node),
              (not_is (some_of (names v c) (below k))).1
                  (λ s. let w = least_is (names v c) k s in r.new (least (names v c) k) w.within ((names_is c _).0 w.holds)),
            ),
      )

  leaf_rule_is : (k : ℕ) → (ltb (node v k).1 (hole_count v) && not (some_of (holds v (node v k).1) (below k))) ≡ true ↔ LeafRule v k
  unfolding holds
  leaf_rule_is k =
      let h = (node v k).1 in
      let new = not (some_of (holds v h) (below k)) in (
        λ e.
            let w = (and_is (ltb h (hole_count v)) new).0 e in
            record {
              hole = ltb-true _ _ w.0;
              new = λ j l f q.
                  (not_is (some_of (holds v h) (below k))).0 w.1
                  (some_below (holds v h) k j l ((and_is (is_leaf v j) (eqb (node v j).1 h)).1 ((leaf_is j).1 f, eq-eqb _ _ q)));
            },
        λ r.
            (and_is (ltb h (hole_count v)) new).1 (
              lt-ltb _ _ r.hole,
              (not_is (some_of (holds v h) (below k))).1
                  (λ s.
                  let j = least (holds v h) k in
                  let w = least_is (holds v h) k s in
                  let u = (and_is (is_leaf v j) (eqb (node v j).1 h)).0 w.holds in
                  r.new j w.within ((leaf_is j).0 u.0) (eqb-true _ _ u.1)),
            ),
      )

  fork_rule_is : (k : ℕ)
      → (not (eqb (node v k).0 (node v k).1) && part_ok v k (node v k).0 && part_ok v k (node v k).1) ≡ true ↔ ForkRule v k
  fork_rule_is k =
      let c = (node v k).0 in
      let d = (node v k).1 in (
        λ e.
            let w = (and_is (not (eqb c d) && part_ok v k c) (part_ok v k d)).0 e in
            let u = (and_is (not (eqb c d)) (part_ok v k c)).0 w.0 in
            record { different = λ q. (not_is (eqb c d)).0 u.0 (eq-eqb _ _ q); first = (part_is k c).0 u.1; second = (part_is k d).0 w.1 },
        λ r.
            (and_is (not (eqb c d) && part_ok v k c) (part_ok v k d)).1 (
              (and_is (not (eqb c d)) (part_ok v k c)).1 ((not_is (eqb c d)).1 (λ q. r.different (eqb-true _ _ q)), (part_is k c).1 r.first),
              (part_is k d).1 r.second,
            ),
      )

  pub node_is : (k : ℕ) → node_ok v k ≡ true ↔ NodeRule v k
  unfolding node_ok
  node_is k = (
    λ e. record {
      leaf = λ l. (leaf_rule_is k).0 (rw ((leaf_is k).1 l, node_ok) at e);
      fork = λ f. (fork_rule_is k).0 (rw ((inner_is k).1 f, node_ok) at e);
    },
    λ r.
        cases (is_leaf v k)
        (λ e. rw (e, node_ok) ((leaf_rule_is k).1 (r.leaf ((leaf_is k).0 e))))
        (λ e. rw (e, node_ok) ((fork_rule_is k).1 (r.fork ((inner_is k).0 e)))),
  )

  -- the pair rule
  pub pair_is : (p : ℕ × ℕ) → pair_ok v p ≡ true ↔ PairRule v p
  unfolding pair_ok
  pair_is p =
      let l = ltb p.0 (node_count v) in
      let r = ltb p.1 (node_count v) in
      let s = separated v.a v.b (boxed v p.0) (boxed v p.1) in (
        λ e.
            let w = (and_is (l && r) s).0 e in
            let u = (and_is l r).0 w.0 in
            record { left = ltb-true _ _ u.0; right = ltb-true _ _ u.1; far = (separated_is _ _ _ _).0 w.1 },
        λ q. (and_is (l && r) s).1 ((and_is l r).1 (lt-ltb _ _ q.left, lt-ltb _ _ q.right), (separated_is _ _ _ _).1 q.far),
      )

  -- exactly one pair
  pub covers_is : (p q : ℕ) (r : ℕ × ℕ) → covers v (p, q) r ≡ true ↔ Covers v p q r
  unfolding covers
  covers_is p q r =
      let A = under_node v r.0 in
      let B = under_node v r.1 in (
        λ e. ⊎_elim
            (λ h. let w = (and_is (has p A) (has q B)).0 h in inl ((has_is p A).0 w.0, (has_is q B).0 w.1))
            (λ h. let w = (and_is (has q A) (has p B)).0 h in inr ((has_is q A).0 w.0, (has_is p B).0 w.1))
            ((or_is (has p A && has q B) (has q A && has p B)).0 e),
        λ c.
            (or_is (has p A && has q B) (has q A && has p B)).1
            (⊎_elim
            (λ w. inl ((and_is (has p A) (has q B)).1 ((has_is p A).1 w.0, (has_is q B).1 w.1)))
            (λ w. inr ((and_is (has q A) (has p B)).1 ((has_is q A).1 w.0, (has_is p B).1 w.1))) c),
      )

  pub covered_is : (p q : ℕ) → covered_once v (p, q) ≡ true ↔ OnePair v p q
  unfolding covered_once
  covered_is p q = (
    λ e.
        let o = (one_is (covers v (p, q)) (0, 0) v.pairs).0 (eqb-true _ _ e) in
        record {
          which = o.which;
          listed = o.within;
          covers = (covers_is p q _).0 o.holds;
          only = λ k l c. o.only k l ((covers_is p q _).1 c);
        },
    λ o.
        eq-eqb _ _
        ((one_is (covers v (p, q)) (0, 0) v.pairs).1
        (record {
          which = o.which;
          within = o.listed;
          holds = (covers_is p q _).1 o.covers;
          only = λ k l c. o.only k l ((covers_is p q _).0 c);
        })),
  )

-- the closest pair
module _ (H : Field) where
  farther : ℕ × ℕ → Bool
  farther p = not (nearer H p)

  -- some two are as near as any
  some_nearest : 2 ≤ length H → some_of farther (twos (length H)) ≡ true
  unfolding farther nearer
  some_nearest h = some_least (apart H) (twos (length H)) (some_two (λ q. true) (length H) 0 1 (omega arith) (omega arith) refl)

  pub nearest_is : 2 ≤ length H → Nearest H (nearest H)
  unfolding nearest nearer farther
  nearest_is h =
      let w = least_two_is farther (length H) (some_nearest h) in
      let q = nearest H in
      let n : (i j : ℕ) → i < j → j < length H → ltb (apart H (i, j)) (apart H q) ≡ false
      = none_two (λ p. ltb (apart H p) (apart H q)) (length H) (not_so ((not_is _).0 w.holds)) in
      record {
        order = w.order;
        within = w.within;
        least = λ i j a b. ltb-false _ _ (n i j a b);
        first = λ i j a b e. w.none_before i j a b (rw e w.holds);
      }

  -- the pitch
  pub keeps_is : (p : ℕ) → keeps H p ≡ true ↔ ((i j : ℕ) → i < j → j < length H → square p ≤ apart H (i, j))
  unfolding keeps
  keeps_is p =
      let t : ℕ × ℕ → Bool = λ q. ltb (apart H q) (square p) in (
        λ e i j a b. ltb-false _ _ (none_two t (length H) (not_so ((not_is _).0 e)) i j a b),
        λ f.
            (not_is (some_of t (twos (length H)))).1
            (λ s.
            let w = least_two_is t (length H) s in
            let q = first_passing t (twos (length H)) (0, 0) in
            omega (arith, ltb-true (apart H q) (square p) w.holds, f q.0 q.1 w.order w.within)),
      )

-- the lowest-numbered hole of a side: a member, and no member is below it
pub lowest_in : (x : ℕ) (l : List ℕ) → Memᴰ (lowest (x ∷ l)) (x ∷ l)
unfolding lowest
lowest_in x [] = Memᴰ.head refl
lowest_in x (y ∷ l) =
    cases (leb x (lowest (y ∷ l)))
    (λ e. Memᴰ.head (min-eq_left (leb-true _ _ e)))
    (λ e. rw (min-eq_right (le_of_lt (leb-false _ _ e))) (Memᴰ.tail (lowest_in y l)))

pub lowest-least : (x : ℕ) (l : List ℕ) (z : ℕ) → Memᴰ z (x ∷ l) → lowest (x ∷ l) ≤ z
unfolding lowest
lowest-least x [] z m = ⊎_elim (λ e. omega arith) (λ n. absurd (Memᴰ.not-nil n)) (Memᴰ.cases_cons m)
lowest-least x (y ∷ l) z m = ⊎_elim (λ e. omega arith) (λ n. omega (arith, lowest-least y l z n)) (Memᴰ.cases_cons m)
