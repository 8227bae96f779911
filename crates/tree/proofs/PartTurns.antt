-- Cutting a stretch in two, hole by hole. What goes first is put at a place that is already read, so the holes still to come are as they were;
-- the boxes are left, so each hole is tested as the stretch's cut says. Assumes nothing.
use Rattle.std.proofs.lemmas.Grind.{common_steps}
use mathlib.Core.Path.{◌≡◌, refl, sym, ap, ap₂, ◌∙◌}
use mathlib.Core.Bool.{Bool, true, false, not}
use mathlib.Core.List.{List, [], ◌∷◌, ◌++◌, append-nil}
use Prim.Native.Nat.{ℕ, ◌+◌, ◌-◌, ◌*◌, ◌<◌, ◌≤◌}
use native.Mathlib.Nat.{zero-add}
use native.Mathlib.Omega.{arith}
use lib.Dec.{leb}
use lib.ListN.{length, get_or}
use Rattle.words.specs.Area.{run}
use Rattle.words.proofs.AreaLaws.{length_run, run-same, run-append, run_more, run_save_out, run_save_end}
use Rattle.slate.specs.Columns.{ORDER, SCRATCH, LOW, HIGH}
use Rattle.slate.specs.Slate.{cell, Held, Set}
use Rattle.slate.proofs.Frames.{set-column, set_more}
use Rattle.paper.specs.Lists.{keep}
use Rattle.paper.specs.Field.{hole_at, holes_at}
use Rattle.paper.specs.Tree.{first, axis}
use Rattle.theory.proofs.EachLaws.{keep_append}
use Rattle.theory.proofs.Reading.{hole_read}
use Rattle.field.specs.Boxes.{box_on, side_on}
use Rattle.field.proofs.Boxes.{box_side}
use Rattle.tree.specs.Planting.{stretch, PartReady, Parted}
use Rattle.tree.specs.Parting.{Sifted, TakenBack}

-- ---- what is kept of one hole more

module _ (t : ℕ → Bool) (l : List ℕ) (h : ℕ) where
  keep_yes : t h ≡ true → keep t (l ++ (h ∷ [])) ≡ keep t l ++ (h ∷ [])
  keep_yes e = keep_append t l (h ∷ []) ∙ ap (λ (r : List ℕ). keep t l ++ r) (rw (e, keep))

  keep_no : t h ≡ false → keep t (l ++ (h ∷ [])) ≡ keep t l
  keep_no e = keep_append t l (h ∷ []) ∙ ap (λ (r : List ℕ). keep t l ++ r) (rw (e, keep)) ∙ append-nil (keep t l)

-- ---- one hole more of a stretch: on the slate, and set at its end

pub stretch_more : (w : List ℕ) (lo i : ℕ) → stretch w lo (i + 1) ≡ stretch w lo i ++ (cell w ORDER (lo + i) ∷ [])
stretch_more w lo i = let e : 2_048 * ORDER + (lo + i) ≡ 2_048 * ORDER + lo + i = omega arith in rw e (run_more w (2_048 * ORDER + lo) i)

stretch-set : {old new : List ℕ} {v : ℕ} (lo i : ℕ) → Set old new ORDER (lo + i) v → stretch new lo (i + 1) ≡ stretch old lo i ++ (v ∷ [])
stretch-set lo i s =
    let e : 2_048 * ORDER + (lo + i) ≡ 2_048 * ORDER + lo + i = omega arith in run_save_end (2_048 * ORDER + lo) i (rw e at s)

-- ---- one turn, for any test

module _ {t : ℕ → Bool} {lo i a : ℕ} {old w : List ℕ} (s : Sifted t lo i old w a) (b : lo + i < 2_048) where
  -- the next hole is as it was
  next_cell : cell w ORDER (lo + i) ≡ cell old ORDER (lo + i)
  next_cell = s.rest (2_048 * ORDER + (lo + i)) (omega (arith, s.most)) (omega arith)

  next_more : stretch old lo (i + 1) ≡ stretch old lo i ++ (cell w ORDER (lo + i) ∷ [])
  next_more = rw next_cell (stretch_more old lo i)

  module _ {new : List ℕ} where
    sift-yes : t (cell w ORDER (lo + i)) ≡ true → Set w new ORDER (lo + a) (cell w ORDER (lo + i)) → Sifted t lo (i + 1) old new (a + 1)
    sift-yes y v =
        let most = s.most in
        let h = cell w ORDER (lo + i) in
        let l = stretch old lo i in
        let e : i + 1 - (a + 1) ≡ i - a = omega arith in
        record {
          len = v.len ∙ s.len;
          most = omega arith;
          front = rw (stretch-set lo a v, s.front, next_more, keep_yes t l h y);
          back = rw (e, set-column v SCRATCH (i - a) (omega arith), s.back, next_more, keep_no (λ x. not (t x)) l h (ap not y));
          rest = λ j p q. v.rest j (λ z. p (omega arith) (omega arith)) ∙ s.rest j (λ x y. p x (omega arith)) (λ x y. q x (omega arith));
        }

    sift-no : t (cell w ORDER (lo + i)) ≡ false → Set w new SCRATCH (i - a) (cell w ORDER (lo + i)) → Sifted t lo (i + 1) old new a
    sift-no y v =
        let most = s.most in
        let h = cell w ORDER (lo + i) in
        let l = stretch old lo i in
        let e : i + 1 - a ≡ i - a + 1 = omega arith in
        record {
          len = v.len ∙ s.len;
          most = omega arith;
          front = rw (run_save_out v (2_048 * ORDER + lo) a (omega arith), s.front, next_more, keep_no t l h y);
          back = rw (e, set_more SCRATCH (i - a) v, s.back, next_more, keep_yes (λ x. not (t x)) l h (ap not y));
          rest = λ j p q. v.rest j (λ z. q (omega arith) (omega arith)) ∙ s.rest j p (λ x y. q x (omega arith));
        }

-- ---- the first pass

pub sift_none : {t : ℕ → Bool} {lo : ℕ} {w : List ℕ} → Sifted t lo 0 w w 0
unfolding run
sift_none = record { len = refl; most = omega arith; front = refl; back = refl; rest = λ j p q. refl }

module _ {hs old : List ℕ} {d n lo m k x : ℕ} (ready : PartReady old hs d n lo m k) (ax : (x ≡ axis (box_on old d k)) × (x < d)) where
  abbrev cut : ℕ → Bool
  cut = first (holes_at d hs 0 n) (stretch old lo m)

  -- the stretch's cut tests a hole by the box of node k
  test_is : (h : ℕ) → h < n → leb (2 * get_or (hole_at d hs (2 * d * h)) x 0) ((side_on old k x).low + (side_on old k x).high) ≡ cut h
  unfolding first
  test_is h l = rw (← ready.box, ← ax.0, box_side old d k x ax.1, rw zero-add at (hole_read d hs 0 n h l))

  module _ {i a h : ℕ} {w : List ℕ} (s : Sifted cut lo i old w a) (b : i < m) (l : Held w ORDER (lo + i) h) where
    few : lo + m ≤ 1_024
    few = omega (arith, ready.on.end, ready.on.holes.few)

    hole-below : h < n
    hole-below = let f = few in rw (l.is, next_cell s (omega arith)) (ready.on.each i b)

    module _ {r : Bool} (e : r ≡ leb (2 * get_or (hole_at d hs (2 * d * h)) x 0) ((side_on w k x).low + (side_on w k x).high)) where
      tested : cut (cell w ORDER (lo + i)) ≡ r
      tested =
          let f = few in
          let low = s.rest (2_048 * (LOW + 2 * x) + k) (omega arith) (omega arith) in
          let high = s.rest (2_048 * (HIGH + 2 * x) + k) (omega arith) (omega arith) in
          rw (← l.is, e, low, high) (sym (test_is h hole-below))

      pub goes_first : {new : List ℕ} → r ≡ true → Set w new ORDER (lo + a) h → Sifted cut lo (i + 1) old new (a + 1)
      goes_first y v = let f = few in sift-yes s (omega arith) (tested ∙ y) (rw l.is at v)

      pub goes-second : {new : List ℕ} → r ≡ false → Set w new SCRATCH (i - a) h → Sifted cut lo (i + 1) old new a
      goes-second y v = let f = few in sift-no s (omega arith) (tested ∙ y) (rw l.is at v)

-- ---- the second pass

pub take_none : {lo : ℕ} {w : List ℕ} → TakenBack lo 0 w w
unfolding run
take_none = record { len = refl; there = refl; rest = λ j p. refl }

pub take_turn : {lo i m h : ℕ} {old w new : List ℕ} → lo + m ≤ 2_048 → i < m → TakenBack lo i old w → Held w SCRATCH i h
    → Set w new ORDER (lo + i) h → TakenBack lo (i + 1) old new
take_turn {lo} {i} {h} {old} f b p l v = grind (arith, common_steps, stretch-set, run_more)

-- ---- both

pub part_of : {hs old mid new : List ℕ} {d n lo m k f : ℕ} → PartReady old hs d n lo m k
    → Sifted (first (holes_at d hs 0 n) (stretch old lo m)) lo m old mid f → TakenBack (lo + f) (m - f) mid new
    → Parted (holes_at d hs 0 n) lo m old new f
part_of {old} {mid} {new} {lo} {m} {f} ready s p =
    let few : lo + m ≤ 1_024 = omega (arith, ready.on.end, ready.on.holes.few) in
    let most = s.most in
    let at = 2_048 * ORDER + lo in
    let e : m ≡ f + (m - f) = omega arith in
    let g : at + f ≡ 2_048 * ORDER + (lo + f) = omega arith in
    let front = run-same new mid at f (λ j x y. p.rest j (omega arith)) ∙ s.front in
    let back = ap (λ (j : ℕ). run new j (m - f)) g ∙ p.there ∙ s.back in
    record {
      len = p.len ∙ s.len;
      size = sym (length_run mid at f) ∙ ap length s.front;
      parts = ap (λ (i : ℕ). run new at i) e ∙ run-append new at f (m - f) ∙ ap₂ ◌++◌ front back;
      rest = λ j x y. p.rest j (λ u v. x (omega arith) (omega arith)) ∙ s.rest j (λ u v. x u (omega arith)) (λ u v. y u (omega arith));
    }
