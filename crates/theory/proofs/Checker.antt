-- The checker means the rules: it takes a record exactly when the record meets document 01's record rules, as statements. Every refusal not
-- due gives one rule, and every rule keeps its refusal from being due; refusal 12 is kept out by the node rules alone. Assumes nothing.
use mathlib.Core.Path.{◌≡◌, refl, ap, ap₂}
use mathlib.Core.Logic.{◌↔◌, ◌≢◌, inl, inr, ⊎_elim}
use mathlib.Core.Bool.{Bool, true}
use mathlib.Core.List.{List, [], ◌∷◌, ◌++◌}
use Prim.Native.Nat.{ℕ, ◌*◌, ◌-◌, ◌/◌, ◌≤◌, ◌<◌}
use native.Mathlib.Omega.{arith}
use lib.Dec.{ltb}
use lib.ListN.{get_or, length}
use borrow.Author.Tests.{ltb-true, ltb-false}
use Rattle.paper.specs.Field.{hole, Ratio, most_holes, least_work}
use Rattle.paper.specs.Record.{View, holes_start, nodes_start, pairs_start, whole, holes_in, nodes_in, pairs_in, nodes_of, view_of}
use Rattle.paper.specs.Rules.{hole_count, node_count, pair_count, pair, repeats, NodeRule, loose, PairRule, Covers, OnePair, Record}
use Rattle.paper.specs.Refusals.{given, when◌refuse◌, least, Least, bad_node, bad_pair, uncovered, check}
use Rattle.paper.proofs.ListLaws.{both, cases}
use Rattle.theory.proofs.Statements.{some_below, some_two, ratio_is, repeats_is, node_is, pair_is, covered_is}
use Rattle.theory.specs.Conditions.{Condition, NoneDue, all, ◌also◌}
use Rattle.theory.specs.Conditions as due
use Rattle.theory.proofs.Orders.{equal, differ, cover_agrees, loose_is, least_of, uncovered_is, check_gives}
use Rattle.theory.proofs.Named.{not_loose}
use Rattle.theory.proofs.RoundTrip.{view_holes, view_pairs}

-- none of two orders one after the other
split : (cs ds : List Condition) → NoneDue (cs ++ ds) → NoneDue cs × NoneDue ds
split [] ds none = (all, none)
split (c ∷ cs) ds (none also more) = let w = split cs ds more in (none also w.0, w.1)

join : {cs ds : List Condition} → NoneDue cs → NoneDue ds → NoneDue (cs ++ ds)
join all n = n
join (none also more) n = none also join more n

-- a refusal that is not due
passed : (c : Condition) → ((x : ℕ) → c.due x → ⊥) → (x : ℕ) → c.due x → ⊥
passed c f = f

-- what a test decides holds where it can't fail
pub stable : {t : Bool} {P : Type 0} → t ≡ true ↔ P → ((P → ⊥) → ⊥) → P
stable {t} e f = cases t (λ h. e.0 h) (λ h. absurd (f (λ p. both (e.1 p) h)))

-- a bound that is never passed
pub at_most : {a b : ℕ} → (a < b → ⊥) → b ≤ a
at_most {a} {b} f = cases (ltb a b) (λ e. absurd (f (ltb-true a b e))) (λ e. ltb-false a b e)

-- a number that is least nowhere is nowhere
module _ {P : ℕ → Type 0} (t : ℕ → Bool) (same : (i : ℕ) → t i ≡ true ↔ P i) (k : ℕ) where
  pub none-least : ((x : ℕ) → Least P k x → ⊥) → (j : ℕ) → j < k → P j → ⊥
  none-least f j l p = f (least t k) (least_of t same k (some_below t k j l ((same j).1 p)))

-- two holes in the other order
pub turned : (v : View) (p q : ℕ) → OnePair v p q → OnePair v q p
turned v p q o =
    record {
      which = o.which;
      listed = o.listed;
      covers = turn p q (pair v o.which) o.covers;
      only = λ k l c. o.only k l (turn q p (pair v k) c);
    }
  where
    turn : (p q : ℕ) (r : ℕ × ℕ) → Covers v p q r → Covers v q p r
    turn p q r c = ⊎_elim (λ w. inr w) (λ w. inl w) c

-- the bytes: what none of the framing's refusals means
pub record Framed (r : List ℕ) (w : ℕ) : Type 0 where
  pub work : least_work ≤ w
  pub ratio : Ratio (get_or r 0 0) (get_or r 1 0)
  pub some : 1 ≤ holes_in r
  pub few : holes_in r ≤ most_holes
  pub nodes_right : nodes_in r ≡ nodes_of (holes_in r)
  pub pairs_right : pairs_in r ≤ holes_in r * (holes_in r - 1) / 2
  pub end : length r ≡ whole (holes_in r) (pairs_in r)

module _ (r : List ℕ) (w : ℕ) where
  framed : NoneDue (due.framing r w) → Framed r w
  framed (work also four also ratio also some also few also to-nodes also nodes also to-pairs also count also short also over also all) =
      let long : whole (holes_in r) (pairs_in r) ≤ length r = at_most (λ l. short (whole (holes_in r) (pairs_in r)) (l, refl)) in
      let tight : length r ≤ whole (holes_in r) (pairs_in r) = at_most (λ l. over (length r) (l, refl)) in
      record {
        work = at_most (λ l. work least_work (l, refl));
        ratio = stable (ratio_is (get_or r 0 0) (get_or r 1 0)) (λ f. ratio 0 (f, refl));
        some = at_most (λ l. some 0 (omega arith, refl));
        few = at_most (λ l. few (holes_in r) (l, refl));
        nodes_right = stable (equal (nodes_in r) (nodes_of (holes_in r))) (λ f. nodes (nodes_in r) (f, refl));
        pairs_right = at_most (λ l. count (pairs_in r) (l, refl));
        end = omega arith;
      }

  not_framed : Framed r w → NoneDue (due.framing r w)
  not_framed f =
      let l = length r in
      let n = holes_in r in
      let m = pairs_in r in
      passed (due.work w) (λ x d. omega (arith, d.0))
      also passed (due.short l holes_start) (λ x d. omega (arith, d.0))
      also passed (due.ratio (get_or r 0 0) (get_or r 1 0)) (λ x d. d.0 f.ratio)
      also passed (due.none n) (λ x d. omega (arith, d.0))
      also passed (due.many n) (λ x d. omega (arith, d.0))
      also passed (due.short l (nodes_start n)) (λ x d. omega (arith, d.0))
      also passed (due.count_nodes n (nodes_in r)) (λ x d. d.0 f.nodes_right)
      also passed (due.short l (pairs_start n)) (λ x d. omega (arith, d.0))
      also passed (due.count_pairs n m) (λ x d. omega (arith, d.0))
      also passed (due.short l (whole n m)) (λ x d. omega (arith, d.0))
      also passed (due.over l (whole n m)) (λ x d. omega (arith, d.0))
      also all

-- what the record says: what none of the content's refusals means
pub record Meant (v : View) : Type 0 where
  pub distinct : (i j : ℕ) → i < j → j < hole_count v → hole v.holes i ≢ hole v.holes j
  pub nodes : (k : ℕ) → k < node_count v → NodeRule v k
  pub pairs : (k : ℕ) → k < pair_count v → PairRule v (pair v k)
  pub covered : (p q : ℕ) → p < hole_count v → q < hole_count v → p ≢ q → OnePair v p q

module _ (v : View) where
  meant : NoneDue (due.content v) → Meant v
  unfolding when◌refuse◌
  meant (single also tree also loose also pairs also cover also all) =
      let H = v.holes in
      let once : (p q : ℕ) → p < q → q < hole_count v → OnePair v p q
      = λ p q l h. stable (covered_is v p q)
      (λ f. cover _ ((cover_agrees v).due (some_two (uncovered v) (hole_count v) p q l h ((uncovered_is v (p, q)).1 f)))) in
      record {
        distinct = λ i j l h e. none-least (repeats H) (repeats_is H) (length H) single j h (record { other = i; lower = l; place = e });
        nodes = λ k l. stable (node_is v k) (none-least (bad_node v) (λ j. differ (node_is v j)) (node_count v) tree k l);
        pairs = λ k l. stable (pair_is v (pair v k)) (none-least (bad_pair v) (λ j. differ (pair_is v (pair v j))) (pair_count v) pairs k l);
        covered = λ p q l h ne.
            cases (ltb p q)
            (λ e. once p q (ltb-true p q e) h)
            (λ e. turned v q p (once q p (omega (arith, ltb-false p q e)) l));
      }

  not_meant : Meant v → NoneDue (due.content v)
  not_meant ok =
      passed (due.twice v.holes) (λ x d. ok.distinct d.holds.other x d.holds.lower d.within d.holds.place)
      also passed (due.tree v) (λ x d. d.holds (ok.nodes x d.within))
      also passed (due.loosely v) (λ x d. both ((loose_is v x).1 d.holds) (not_loose v ok.nodes x d.within))
      also passed (due.paired v) (λ x d. d.holds (ok.pairs x d.within))
      also passed (due.cover v)
      (λ x d.
      let q = d.0 in
      let t = d.1 in
      t.holds (ok.covered q.0 q.1 (omega (arith, t.order, t.within)) t.within (omega (arith, t.order))))
      also all

-- the checker takes a record exactly when it meets the record rules, and then gives its holes and its pairs
module _ (r : List ℕ) (w : ℕ) where
  pub record_is : Framed r w × Meant (view_of r) ↔ (least_work ≤ w) × Record r
  unfolding view_of
  record_is =
      let n : hole_count (view_of r) ≡ holes_in r = view_holes r in
      let m : pair_count (view_of r) ≡ pairs_in r = view_pairs r in (
        λ t.
            let f = t.0 in
            let c = t.1 in (
              f.work,
              record {
                ratio = f.ratio;
                some = f.some;
                few = f.few;
                nodes_right = f.nodes_right;
                pairs_right = f.pairs_right;
                end = f.end;
                distinct = λ i j l h. c.distinct i j l (omega arith);
                nodes = λ k l. c.nodes k (omega arith);
                pairs = λ k l. c.pairs k (omega arith);
                covered = λ p q l h. c.covered p q (omega arith) (omega arith);
              },
            ),
        λ t.
            let k = t.1 in (
              record {
                work = t.0;
                ratio = k.ratio;
                some = k.some;
                few = k.few;
                nodes_right = k.nodes_right;
                pairs_right = k.pairs_right;
                end = k.end;
              },
              record {
                distinct = λ i j l h. k.distinct i j l (omega arith);
                nodes = λ i l. k.nodes i (omega arith);
                pairs = λ i l. k.pairs i (omega arith);
                covered = λ p q l h. k.covered p q (omega arith) (omega arith);
              },
            ),
      )

  pub taken_is : (n m : ℕ) → check r w ≡ given (n, m) ↔ ((least_work ≤ w) × Record r) × (holes_in r ≡ n) × (pairs_in r ≡ m)
  taken_is n m = (
    λ e.
        let g = (check_gives r w (n, m)).0 e in
        let s = split (due.framing r w) (due.content (view_of r)) g.0 in
        (record_is.0 (framed r w s.0, meant (view_of r) s.1), ap (λ (t : ℕ × ℕ). t.0) g.1, ap (λ (t : ℕ × ℕ). t.1) g.1),
    λ t.
        let s = record_is.1 t.0 in
        (check_gives r w (n, m)).1 (
          join (not_framed r w s.0) (not_meant (view_of r) s.1),
          ap₂ {C = ℕ × ℕ} (λ (i j : ℕ). (i, j)) t.1 t.2,
        ),
  )
