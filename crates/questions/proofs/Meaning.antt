-- What the pairs on the slate mean for a taken record. A node with one hole has it for its lowest, and its box is that hole's place, so the box's low
-- corner too. The closest two holes are the sides of a listed pair, and no pair's are nearer, so the nearest of the pairs are they. Assumes nothing.
use mathlib.Core.Path.{◌≡◌, refl, sym, ap, ◌∙◌}
use mathlib.Core.Logic.{⊎_elim}
use mathlib.Core.List.Memᴰ
use mathlib.Core.List.{List, [], ◌∷◌}
use Prim.Native.Nat.{ℕ, ◌*◌, ◌<◌, ◌≤◌, min, max}
use native.Mathlib.Omega.{arith}
use lib.Dec.{ltb}
use lib.ListN.{length}
use borrow.Author.Tests.{ltb-true, ltb-false}
use Rattle.slate.specs.Columns.{HOLES, LOWEST}
use Rattle.slate.specs.Slate.{cell}
use Rattle.paper.specs.Field.{Hole, Field, hole}
use Rattle.paper.specs.Tree.{spot}
use Rattle.paper.specs.Record.{holes_in, pairs_in, two_numbers_at, view_of}
use Rattle.paper.specs.Rules.{hole_count, node_count, pair, NodeRule, PairRule, under_node, Under}
use Rattle.paper.specs.Questions.{apart, Nearest, lowest}
use Rattle.paper.proofs.ListLaws.{cases}
use Rattle.theory.proofs.Boxes.{box_one}
use Rattle.theory.proofs.Statements.{nearest_is}
use Rattle.theory.proofs.Separation.{distance_swapped}
use Rattle.theory.proofs.ClosestPair.{Holds, Sides, under_leaf}
use Rattle.theory.proofs.Grown.{under-below}
use Rattle.theory.proofs.Taken.{sides_disjoint, taken-closest-listed}
use Rattle.theory.proofs.RoundTrip.{view_holes, view_pairs}
use Rattle.field.specs.Boxes.{box_on, corner}
use Rattle.record.specs.Cutting.{pairs_slice}
use Rattle.record.specs.declared.Parts.{Parts}
use Rattle.record.proofs.Slices.{pairs-length, pair_said}
use Rattle.record.proofs.NodesMeant.{nodes_count}
use Rattle.questions.specs.declared.Near.{Near}
use Rattle.questions.specs.Nearest.{AsNear, near, PairIs, PairsThere, NearestPair, Wanted, NearestHoles}
use Rattle.questions.specs.Asking.{Known}

-- the low corner of a hole's box
corner-spot : (h : Hole) → corner (spot h) ≡ h
corner-spot [] = refl
corner-spot (x ∷ h) = ap (λ (l : Hole). x ∷ l) (corner-spot h)

-- a list of one number
only_one : (l : List ℕ) → length l ≡ 1 → (x : ℕ) × (l ≡ x ∷ [])
only_one [] e = absurd (omega arith)
only_one (x ∷ []) e = (x, refl)
only_one (x ∷ y ∷ l) e = absurd (omega arith)

alone-in : {l : List ℕ} {x : ℕ} → l ≡ x ∷ [] → Memᴰ.Memᴰ x l
alone-in e = rw e (Memᴰ.head refl)

-- x is two holes i < j
record TwoHoles (H : Field) (x : Near) : Type 0 where
  pub i : ℕ
  pub j : ℕ
  pub order : i < j
  pub within : j < length H
  pub is : x ≡ near H (i, j)

-- two holes that are as near as the closest two are they
closest-alone : {H : Field} {q : ℕ × ℕ} {r : Near} → Nearest H q → TwoHoles H r → AsNear r (near H q) → r ≡ near H q
closest-alone {H} {q} n t h =
    let g = rw t.is at h in
    let far : apart H (t.i, t.j) ≡ apart H q = omega (arith, g.far, n.least t.i t.j t.order t.within) in
    let f = n.first t.i t.j t.order t.within far in
    let x : t.i ≡ q.0 = omega (arith, g.first far, f.0) in
    let y : t.j ≡ q.1 = omega (arith, g.second far x, f.1 x) in
    rw (t.is, far, x, y) refl

-- holes x and y, smaller number first
abbrev ordered : Field → ℕ → ℕ → Near
ordered H x y = record { far = apart H (x, y); first = min x y; second = max x y }

module _ (H : Field) (x y : ℕ) where
  ordered-forth : x < y → ordered H x y ≡ near H (x, y)
  ordered-forth o =
      let a : min x y ≡ x = omega arith in
      let b : max x y ≡ y = omega arith in
      rw (a, b) refl

  ordered-back : y < x → ordered H x y ≡ near H (y, x)
  unfolding apart
  ordered-back o =
      let a : min x y ≡ y = omega arith in
      let b : max x y ≡ x = omega arith in
      rw (a, b, distance_swapped (hole H x) (hole H y)) refl

  two_holes : (x ≡ y → ⊥) → x < length H → y < length H → TwoHoles H (ordered H x y)
  two_holes d l h =
      cases (ltb x y)
      (λ g.
      let o = ltb-true x y g in
      record { i = x; j = y; order = o; within = h; is = ordered-forth o })
      (λ g.
      let o : y < x = omega (arith, ltb-false x y g, d) in
      record { i = y; j = x; order = o; within = l; is = ordered-back o })

module _ {bytes w : List ℕ} {p : Parts} (k : Known bytes w p) where
  few : hole_count (view_of bytes) ≤ 1_024
  few = omega (arith, view_holes bytes, k.rules.few)

  pair_rule : (t : ℕ) → t < pairs_in bytes → PairRule (view_of bytes) (pair (view_of bytes) t)
  pair_rule = k.rules.pairs

  node_rules : (j : ℕ) → j < node_count (view_of bytes) → NodeRule (view_of bytes) j
  node_rules j l = k.rules.nodes j (omega (arith, nodes_count bytes))

  -- the pairs are there, and each names two nodes
  pub left_node : (t : ℕ) → t < pairs_in bytes → (two_numbers_at (pairs_slice bytes) (4 * t)).0 < node_count (view_of bytes)
  left_node t l = omega (arith, ap (λ (q : ℕ × ℕ). q.0) (pair_said bytes t l), (pair_rule t l).left)

  pub right_node : (t : ℕ) → t < pairs_in bytes → (two_numbers_at (pairs_slice bytes) (4 * t)).1 < node_count (view_of bytes)
  right_node t l = omega (arith, ap (λ (q : ℕ × ℕ). q.1) (pair_said bytes t l), (pair_rule t l).right)

  pub pairs_there : {ps : List ℕ} → ps ≡ pairs_slice bytes → PairsThere w ps p.m
  pairs_there {ps} e =
      let f = k.parts.framing in
      rw (e, k.parts.m_is)
      (record {
        grid = k.filled.grid;
        all = omega (arith, pairs-length bytes f);
        left = λ t l. omega (arith, left_node t l, few);
        right = λ t l. omega (arith, right_node t l, few);
      })

  -- a node with the hole x alone
  module _ (j x : ℕ) (l : j < node_count (view_of bytes)) (e : under_node (view_of bytes) j ≡ x ∷ []) where
    one_counted : cell w HOLES j ≡ 1
    one_counted = k.filled.holes j l ∙ rw e refl

    lowest-alone : cell w LOWEST j ≡ x
    unfolding lowest
    lowest-alone = k.filled.lowest j l ∙ rw e refl

    corner-alone : corner (box_on w 2 j) ≡ hole (view_of bytes).holes x
    corner-alone = rw (k.filled.box j l, e, box_one (view_of bytes).holes x) (corner-spot (hole (view_of bytes).holes x))

  -- two such nodes
  near-alone : (i j x y : ℕ) → i < node_count (view_of bytes) → j < node_count (view_of bytes) → under_node (view_of bytes) i ≡ x ∷ []
      → under_node (view_of bytes) j ≡ y ∷ [] → PairIs w (i, j) (ordered (view_of bytes).holes x y)
  unfolding apart
  near-alone i j x y l h e f =
      record {
        one = record { left = one_counted i x l e; right = one_counted j y h f };
        is = rw (lowest-alone i x l e, lowest-alone j y h f, corner-alone i x l e, corner-alone j y h f) refl;
      }

  -- a leaf that holds x
  held : (j x : ℕ) → Holds (view_of bytes) j x → under_node (view_of bytes) j ≡ x ∷ []
  held j x h = rw (← h.1) (under_leaf (view_of bytes) (omega (arith, view_holes bytes, k.rules.some)) j h.0)

  module _ (t : ℕ) (l : t < pairs_in bytes) where
    -- a pair of leaves that hold i < j
    near-held : (i j : ℕ) → i < j → Sides (view_of bytes) i j (pair (view_of bytes) t) → PairIs w (pair (view_of bytes) t) (near (view_of bytes).holes (i, j))
    near-held i j o s =
        let q = pair (view_of bytes) t in
        let r = pair_rule t l in
        ⊎_elim
        (λ u. rw (ordered-forth _ i j o) at (near-alone q.0 q.1 i j r.left r.right (held q.0 i u.0) (held q.1 j u.1)))
        (λ u. rw (ordered-back _ j i o) at (near-alone q.0 q.1 j i r.left r.right (held q.0 j u.0) (held q.1 i u.1)))
        s

    -- a pair of one hole each is two holes, for it has none on both sides
    near-says : (r : Near) → PairIs w (pair (view_of bytes) t) r → TwoHoles (view_of bytes).holes r
    near-says r i =
        let q = pair (view_of bytes) t in
        let o = pair_rule t l in
        let x = only_one (under_node (view_of bytes) q.0) (sym (k.filled.holes q.0 o.left) ∙ i.one.left) in
        let y = only_one (under_node (view_of bytes) q.1) (sym (k.filled.holes q.1 o.right) ∙ i.one.right) in
        let a : Under (view_of bytes) x.0 q.0 = alone-in x.1 in
        let b : Under (view_of bytes) y.0 q.1 = alone-in y.1 in
        rw (i.is, ← (near-alone q.0 q.1 x.0 y.0 o.left o.right x.1 y.1).is)
        (two_holes (view_of bytes).holes x.0 y.0 (λ z. sides_disjoint bytes k.rules t (omega (arith, view_pairs bytes)) x.0 a (rw z b))
        (under-below (view_of bytes) node_rules q.0 o.left x.0 a)
        (under-below (view_of bytes) node_rules q.1 o.right y.0 b))

  -- the nearest of all the pairs is the closest two holes
  pub nearest-least : {ps : List ℕ} → ps ≡ pairs_slice bytes → Wanted p → {r : Near} → NearestPair w ps p.m r → NearestHoles bytes r
  unfolding view_of
  nearest-least {ps} e a {r} g =
      let more : 2 ≤ holes_in bytes = omega (arith, a.more, k.parts.n_is, k.rules.some) in
      let high : 2 * (view_of bytes).b < (view_of bytes).a = omega (arith, a.high, k.parts.a_is, k.parts.b_is) in
      let o = taken-closest-listed bytes k.rules more high in
      let l : o.which < pairs_in bytes = omega (arith, o.listed, view_pairs bytes) in
      let h = rw (pair_said bytes o.which l) at (near-held o.which l _ _ o.order o.sides) in
      let g' = rw (e, k.parts.m_is) at g in
      let small = g'.small o.which l h.one in
      let one = g'.one small in
      let two = near-says one.which one.listed r (rw (← pair_said bytes one.which one.listed) at one.is) in
      record {
        is = closest-alone (nearest_is (view_of bytes).holes (rw (view_holes bytes) more)) two (rw h.is (g'.least o.which l h.one));
        small = small;
      }
