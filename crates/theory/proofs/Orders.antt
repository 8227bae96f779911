-- Every refusal is answered exactly when its condition holds, as a statement, and none before it in order does: each line of a table agrees
-- with its condition, and tables that agree line by line answer alike. Assumes nothing.
use mathlib.Core.Path.{◌≡◌, refl, sym, ap, ap₂, ◌∙◌}
use mathlib.Core.Logic.{◌↔◌}
use mathlib.Core.Bool.{Bool, true, false, ◌&&◌, not}
use mathlib.Core.List.{List, [], ◌∷◌, ◌++◌}
use Prim.Native.Nat.{ℕ, ◌+◌, ◌*◌, ◌-◌, ◌/◌, ◌%◌, ◌≤◌, ◌<◌}
use native.Mathlib.Omega.{arith}
use lib.Dec.{leb, ltb, eqb}
use lib.ListN.{get_or, length}
use borrow.Author.Tests.{leb-true, le-leb, ltb-true, lt-ltb, eqb-true, eq-eqb, ltb-false}
use Rattle.paper.specs.Lists.{some_of, joined, below, twos}
use Rattle.paper.specs.Field.{Field, holes_at, most_holes, least_work}
use Rattle.paper.specs.Record.{View, written, built, holes_start, nodes_start, pairs_start, whole, holes_in, nodes_in, pairs_in, nodes_of, two_numbers, view_of}
use Rattle.paper.specs.Rules.{hole_count, node_count, pair_count, pair, repeats, names, Names, loose, OnePair}
use Rattle.paper.specs.Refusals.{
  number,
  value,
  Answer,
  refused,
  given,
  Line,
  when◌refuse◌,
  in_order◌else◌,
  least,
  Least,
  LeastTwo,
  bad_node,
  bad_pair,
  uncovered,
  first_uncovered,
  build,
  check,
}
use Rattle.paper.specs.Refusals as line
use Rattle.paper.specs.Questions.{after, apart, nearest, closest, keeps, pitch, link, links}
use Rattle.paper.specs.declared.Refusal.{Refusal}
use Rattle.paper.specs.declared.Refusal.TheVariants as R
use Rattle.paper.proofs.ListLaws.{both, cases, and_is, not_is}
use Rattle.theory.proofs.Statements.{least_is, some_below, least_two_is, some_two, ratio_is, repeats_is, names_is, node_is, pair_is, covered_is}
use Rattle.theory.specs.Conditions.{Condition, First, here, later, NoneDue, all, ◌also◌}
use Rattle.theory.specs.Conditions as due

-- a line of a table says what its condition says
pub record Agrees (l : Line) (c : Condition) : Type 0 where
  pub number_is : number l.refusal ≡ c.number
  pub due : l.holds ≡ true → c.due (value l.refusal)
  pub holds : (x : ℕ) → c.due x → (l.holds ≡ true) × (x ≡ value l.refusal)

infixr 5 ◌then◌
pub data AgreeAll : List Line → List Condition → Type 1 where
  end : AgreeAll [] []
  ◌then◌ : {l : Line} {c : Condition} {ls : List Line} {cs : List Condition} → Agrees l c → AgreeAll ls cs → AgreeAll (l ∷ ls) (c ∷ cs)

agree_append : {ls ms : List Line} {cs ds : List Condition} → AgreeAll ls cs → AgreeAll ms ds → AgreeAll (ls ++ ms) (cs ++ ds)
agree_append end b = b
agree_append (a then more) b = a then agree_append more b

-- the first of no lines, and of one line more; none of one line more
no_line : {X : Type 0} {cs : List Condition} {n x : ℕ} → First cs n x → cs ≡ [] → X
no_line (here e d) f = let z : ◌≡◌ {A = ℕ} 0 1 = cc in absurd (omega arith)
no_line (later none r) f = let z : ◌≡◌ {A = ℕ} 0 1 = cc in absurd (omega arith)

first_line : {X : Type 0} {c : Condition} {cs : List Condition} {n x : ℕ} → First (c ∷ cs) n x → (n ≡ c.number → c.due x → X)
    → (((y : ℕ) → c.due y → ⊥) → First cs n x → X) → X
first_line (here e d) f g = f e d
first_line (later none r) f g = g none r

none_line : {c : Condition} {cs : List Condition} → NoneDue (c ∷ cs) → ((y : ℕ) → c.due y → ⊥) × NoneDue cs
none_line (none also r) = (none, r)

module _ {A : Type 0} (t : A) where
  -- a refusal is answered exactly when it is the first that is due
  pub refused_is : {ls : List Line} {cs : List Condition} → AgreeAll ls cs → (n x : ℕ) → (in_order ls else given t) ≡ refused n x ↔ First cs n x
  unfolding in_order◌else◌
  refused_is end n x = (λ e. let z : ◌≡◌ {A = ℕ} 0 1 = cc in absurd (omega arith), λ f. no_line f refl)
  refused_is (◌then◌ {l = l} a more) n x =
      let rest = refused_is more n x in
      cases l.holds
      (λ h. rw (h, in_order◌else◌) (
        λ e.
            let p : number l.refusal ≡ n = cc in
            let q : value l.refusal ≡ x = cc in
            here (sym p ∙ a.number_is) (rw q at (a.due h)),
        λ f.
            first_line f
            (λ e d. ap₂ refused (a.number_is ∙ sym e) (sym (a.holds x d).1))
            (λ none g. absurd (none (value l.refusal) (a.due h))),
      ))
      (λ h. rw (h, in_order◌else◌) (
        λ e. later (λ y d. both (a.holds y d).0 h) (rest.0 e),
        λ f. first_line f (λ e d. both (a.holds x d).0 h) (λ none g. rest.1 g),
      ))

  -- and what was asked for is given exactly when none is due
  pub given_is : {ls : List Line} {cs : List Condition} → AgreeAll ls cs → (u : A) → (in_order ls else given t) ≡ given u ↔ (NoneDue cs × (t ≡ u))
  unfolding in_order◌else◌
  given_is end u = (λ e. (all, cc), λ w. ap given w.1)
  given_is (◌then◌ {l = l} a more) u =
      let rest = given_is more u in
      cases l.holds
      (λ h. rw (h, in_order◌else◌) (
        λ e. let z : ◌≡◌ {A = ℕ} 0 1 = cc in absurd (omega arith),
        λ w. absurd ((none_line w.0).0 (value l.refusal) (a.due h)),
      ))
      (λ h. rw (h, in_order◌else◌) (
        λ e. let w = rest.0 e in ((λ y d. both (a.holds y d).0 h) also w.0, w.1),
        λ w. rest.1 ((none_line w.0).1, w.1),
      ))

-- lines whose condition is a test of numbers, and whose value is fixed
by_test : {t : Bool} {P : Type 0} (r : Refusal) → t ≡ true ↔ P → Agrees (when t refuse r) (record { number = number r; due = λ x. P × (x ≡ value r) })
unfolding when◌refuse◌
by_test r e = record { number_is = refl; due = λ h. (e.0 h, refl); holds = λ x d. (e.1 d.0, d.1) }

less : (a b : ℕ) → ltb a b ≡ true ↔ a < b
less a b = (ltb-true a b, lt-ltb a b)

at_most : (a b : ℕ) → leb a b ≡ true ↔ a ≤ b
at_most a b = (leb-true a b, le-leb a b)

pub equal : (a b : ℕ) → eqb a b ≡ true ↔ a ≡ b
equal a b = (eqb-true a b, eq-eqb a b)

pub differ : {t : Bool} {P : Type 0} → t ≡ true ↔ P → not t ≡ true ↔ (P → ⊥)
differ {t} e = (λ h p. (not_is t).0 h (e.1 p), λ f. (not_is t).1 (λ h. f (e.0 h)))

-- lines whose value is the least number with a property
module _ {P : ℕ → Type 0} (t : ℕ → Bool) (same : (i : ℕ) → t i ≡ true ↔ P i) (k : ℕ) where
  pub least_of : some_of t (below k) ≡ true → Least P k (least t k)
  least_of h =
      let w = least_is t k h in
      record { within = w.within; holds = (same _).0 w.holds; none_before = λ j l p. w.none_before j l ((same j).1 p) }

  only_least : (x : ℕ) → Least P k x → (some_of t (below k) ≡ true) × (x ≡ least t k)
  only_least x d =
      let h : some_of t (below k) ≡ true = some_below t k x d.within ((same x).1 d.holds) in
      let w = least_of h in (
        h,
        cases (ltb x (least t k))
            (λ e. absurd (w.none_before x (ltb-true x (least t k) e) d.holds))
            (λ e. cases (ltb (least t k) x)
            (λ f. absurd (d.none_before (least t k) (ltb-true (least t k) x f) w.holds))
            (λ f. omega (arith, ltb-false x (least t k) e, ltb-false (least t k) x f))),
      )

  by_least : (r : ℕ → Refusal) (n : ℕ) → number (r (least t k)) ≡ n → value (r (least t k)) ≡ least t k
      → Agrees (when (some_of t (below k)) refuse (r (least t k))) (record { number = n; due = Least P k })
  unfolding when◌refuse◌
  by_least r n e f =
      record { number_is = e; due = λ h. rw f (least_of h); holds = λ x d. let w = only_least x d in (w.0, w.1 ∙ sym f) }

-- node k is named by none
pub loose_is : (v : View) (k : ℕ) → loose v k ≡ true ↔ (0 < k) × ((j : ℕ) → j < node_count v → Names v j k → ⊥)
unfolding loose
loose_is v k =
    let s = some_of (names v k) (below (node_count v)) in (
      λ e.
          let w = (and_is (ltb 0 k) (not s)).0 e in
          (ltb-true 0 k w.0, λ j l n. (not_is s).0 w.1 (some_below (names v k) (node_count v) j l ((names_is v k j).1 n))),
      λ w.
          (and_is (ltb 0 k) (not s)).1 (
            lt-ltb 0 k w.0,
            (not_is s).1 (λ h. let u = least_is (names v k) (node_count v) h in w.1 (least (names v k) (node_count v)) u.within ((names_is v k _).0 u.holds)),
          ),
    )

-- two holes are not covered exactly once
pub uncovered_is : (v : View) (q : ℕ × ℕ) → uncovered v q ≡ true ↔ (OnePair v q.0 q.1 → ⊥)
uncovered_is v q = differ (covered_is v q.0 q.1)

pub cover_agrees : (v : View) → Agrees (line.cover v) (due.cover v)
unfolding when◌refuse◌ first_uncovered
cover_agrees v =
    let n = hole_count v in
    let q = first_uncovered v in
    let found : some_of (uncovered v) (twos n) ≡ true → LeastTwo (λ p. OnePair v p.0 p.1 → ⊥) n q
    = λ h. let w = least_two_is (uncovered v) n h in record {
      order = w.order;
      within = w.within;
      holds = (uncovered_is v q).0 w.holds;
      none_before = λ i j a b p. w.none_before i j a b ((uncovered_is v (i, j)).1 p);
    } in
    record {
      number_is = refl;
      due = λ h. (q, found h, refl);
      holds = λ x d.
          let h = some_two (uncovered v) n d.0.0 d.0.1 d.1.order d.1.within ((uncovered_is v d.0).1 d.1.holds) in
          (h, d.2 ∙ ap (λ (p : ℕ × ℕ). most_holes * p.0 + p.1) (one-least d.1 (found h)));
    }
  where
    one-least : {P : ℕ × ℕ → Type 0} {n : ℕ} {p q : ℕ × ℕ} → LeastTwo P n p → LeastTwo P n q → p ≡ q
    one-least {p} {q} a b =
        let f = a.none_before q.0 q.1 b.order b.within b.holds in
        let g = b.none_before p.0 p.1 a.order a.within a.holds in
        let e : p.0 ≡ q.0 = cases (ltb q.0 p.0) (λ h. absurd (f.0 (ltb-true _ _ h)))
        (λ h. cases (ltb p.0 q.0) (λ k. absurd (g.0 (ltb-true _ _ k))) (λ k. omega (arith, ltb-false q.0 p.0 h, ltb-false p.0 q.0 k))) in
        let e' : p.1 ≡ q.1 = cases (ltb q.1 p.1) (λ h. absurd (f.1 (sym e) (ltb-true _ _ h)))
        (λ h. cases (ltb p.1 q.1) (λ k. absurd (g.1 e (ltb-true _ _ k))) (λ k. omega (arith, ltb-false q.1 p.1 h, ltb-false p.1 q.1 k))) in
        ap₂ {C = ℕ × ℕ} (λ i j. (i, j)) e e'

-- the orders of document 01
odd_agrees : (width l : ℕ) → Agrees (line.odd width l) (due.odd width l)
odd_agrees width l = by_test _ (differ (equal (l % width) 0))

none_agrees : (n : ℕ) → Agrees (line.none n) (due.none n)
none_agrees n = by_test _ (equal n 0)

many_agrees : (n : ℕ) → Agrees (line.many n) (due.many n)
many_agrees n = by_test _ (less most_holes n)

ratio_agrees : (a b : ℕ) → Agrees (line.ratio a b) (due.ratio a b)
ratio_agrees a b = by_test _ (differ (ratio_is a b))

work_agrees : (w : ℕ) → Agrees (line.work w) (due.work w)
work_agrees w = by_test _ (less w least_work)

low_agrees : (times a b : ℕ) → Agrees (line.low times a b) (due.low times a b)
low_agrees times a b = by_test _ (at_most a (times * b))

twice_agrees : (H : Field) → Agrees (line.twice H) (due.twice H)
twice_agrees H = by_least (repeats H) (repeats_is H) (length H) R.Twice 6 refl refl

room_agrees : (l needed : ℕ) → Agrees (line.room l needed) (due.room l needed)
room_agrees l needed = by_test _ (less l needed)

short_agrees : (l called : ℕ) → Agrees (line.short l called) (due.short l called)
short_agrees l called = by_test _ (less l called)

content_agrees : (v : View) → AgreeAll (line.content v) (due.content v)
content_agrees v =
    twice_agrees v.holes
    then by_least (bad_node v) (λ k. differ (node_is v k)) (node_count v) R.Tree 11 refl refl
    then by_least (loose v) (loose_is v) (node_count v) R.Loose 12 refl refl
    then by_least (bad_pair v) (λ k. differ (pair_is v (pair v k))) (pair_count v) R.Pair 13 refl refl
    then cover_agrees v
    then end

pub cutting_agrees : (r : List ℕ) → AgreeAll (line.cutting r) (due.cutting r)
cutting_agrees r =
    let l = length r in
    let n = holes_in r in
    let m = pairs_in r in
    short_agrees l holes_start
    then ratio_agrees (get_or r 0 0) (get_or r 1 0)
    then none_agrees n
    then many_agrees n
    then short_agrees l (nodes_start n)
    then by_test (R.Count (nodes_in r)) (differ (equal (nodes_in r) (nodes_of n)))
    then short_agrees l (pairs_start n)
    then by_test (R.Count m) (less (n * (n - 1) / 2) m)
    then short_agrees l (whole n m)
    then by_test (R.Over l) (less (whole n m) l)
    then end

framing_agrees : (r : List ℕ) (w : ℕ) → AgreeAll (line.framing r w) (due.framing r w)
framing_agrees r w = work_agrees w then cutting_agrees r

checker_agrees : (r : List ℕ) (w : ℕ) → AgreeAll (line.framing r w ++ line.content (view_of r)) (due.checker r w)
checker_agrees r w = agree_append (framing_agrees r w) (content_agrees (view_of r))

builder_agrees : (c : List ℕ) (a b w o : ℕ)
    → AgreeAll
    (line.work w
    ∷ line.odd 4 (length c)
    ∷ line.none (length c / 4)
    ∷ line.many (length c / 4)
    ∷ line.ratio a b
    ∷ line.twice (holes_at 2 c 0 (length c / 4))
    ∷ line.room o (length (written (built a b (holes_at 2 c 0 (length c / 4)))))
    ∷ [])
    (due.builder c a b w o)
builder_agrees c a b w o =
    work_agrees w
    then odd_agrees 4 (length c)
    then none_agrees (length c / 4)
    then many_agrees (length c / 4)
    then ratio_agrees a b
    then twice_agrees (holes_at 2 c 0 (length c / 4))
    then room_agrees o _
    then end

-- a question's own lines come after the checker's
after_is : {A B : Type 0} (ls ms : List Line) (t : A) (x : Answer B) → after (in_order ls else given t) (in_order ms else x) ≡ (in_order ls ++ ms else x)
unfolding in_order◌else◌
after_is [] ms t x = refl
after_is (l ∷ ls) ms t x = cases l.holds (λ h. rw (h, in_order◌else◌)) (λ h. rw (h, in_order◌else◌) (after_is ls ms t x))

-- an answer that passes over a line is a table whose line has one test more
as_line : (one low : Bool) (x : Refusal) (t : Bool)
    → ◌≡◌ {A = Answer Bool} (elim one [ true ↦ given true | false ↦ in_order (when low refuse x) ∷ [] else given t ])
    (in_order (when (not one && low) refuse x) ∷ [] else given (elim one [ true ↦ true | false ↦ t ]))
unfolding in_order◌else◌ when◌refuse◌
as_line true low x t = refl
as_line false low x t = refl

both_are : {s t : Bool} {P Q : Type 0} → s ≡ true ↔ P → t ≡ true ↔ Q → (s && t) ≡ true ↔ P × Q
both_are {s} {t} e f = (λ h. let w = (and_is s t).0 h in (e.0 w.0, f.0 w.1), λ w. (and_is s t).1 (e.1 w.0, f.1 w.1))

-- ---- the theorems: each refusal exactly when it is the first that is due, and the answer exactly when none is

module _ (c : List ℕ) (a b w o : ℕ) where
  -- the record that the builder would write
  abbrev pub its_record : List ℕ
  its_record = written (built a b (holes_at 2 c 0 (length c / 4)))

  pub build-refuses : (n x : ℕ) → build c a b w o ≡ refused n x ↔ First (due.builder c a b w o) n x
  unfolding build
  build-refuses = refused_is its_record (builder_agrees c a b w o)

  pub build_gives : (r : List ℕ) → build c a b w o ≡ given r ↔ NoneDue (due.builder c a b w o) × (its_record ≡ r)
  unfolding build
  build_gives = given_is its_record (builder_agrees c a b w o)

module _ (r : List ℕ) (w : ℕ) where
  pub check-refuses : (n x : ℕ) → check r w ≡ refused n x ↔ First (due.checker r w) n x
  unfolding check
  check-refuses = refused_is (holes_in r, pairs_in r) (checker_agrees r w)

  pub check_gives : (t : ℕ × ℕ) → check r w ≡ given t ↔ NoneDue (due.checker r w) × (◌≡◌ {A = ℕ × ℕ} (holes_in r, pairs_in r) t)
  unfolding check
  check_gives = given_is (holes_in r, pairs_in r) (checker_agrees r w)

  -- the questions
  asked_after : {A : Type 0} {ms : List Line} {ds : List Condition} (t : A) → AgreeAll ms ds → (n x : ℕ)
      → after (check r w) (in_order ms else given t) ≡ refused n x ↔ First (due.checker r w ++ ds) n x
  unfolding check
  asked_after {ms} t a n x =
      rw (after_is {A = ℕ × ℕ} (line.framing r w ++ line.content (view_of r)) ms (holes_in r, pairs_in r) (given t))
      (refused_is t (agree_append (checker_agrees r w) a) n x)

  pub closest-refuses : (n x : ℕ) → closest r w ≡ refused n x ↔ First (due.closest_order r w) n x
  unfolding closest
  closest-refuses =
      let v = view_of r in
      let q = nearest v.holes in
      asked_after (q.0, q.1, apart v.holes q) (by_test R.Single (equal (hole_count v) 1) then low_agrees 2 v.a v.b then end)

  pub links-refuses : (o n x : ℕ) → links r w o ≡ refused n x ↔ First (due.links_order r w o) n x
  unfolding links
  links-refuses o =
      let v = view_of r in
      asked_after (joined (λ p. two_numbers (link v p)) v.pairs) (low_agrees 4 v.a v.b then room_agrees o (4 * pair_count v) then end)

  pub pitch-refuses : (p n x : ℕ) → pitch r p w ≡ refused n x ↔ First (due.pitch_order r w) n x
  unfolding pitch
  pitch-refuses p n x =
      let v = view_of r in
      let one = eqb (hole_count v) 1 in
      rw (as_line one (leb v.a (2 * v.b)) (R.Low (256 * v.a + v.b)) (keeps v.holes p))
      (asked_after (elim one [ true ↦ true | false ↦ keeps v.holes p ])
      (by_test (R.Low (256 * v.a + v.b)) (both_are (differ (equal (hole_count v) 1)) (at_most v.a (2 * v.b))) then end) n x)
