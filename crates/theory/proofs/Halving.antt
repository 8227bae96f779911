-- Boxes and the cut of a field, for any number of coordinates. A box holds its holes and is the smallest that does, so a part's side is no
-- longer than any stretch that holds the part's coordinates: on the cut axis that is half of the old side, as one part has the holes up to the
-- middle and the other the rest. Were a part empty, the other would be the whole set and its side at most half of itself, which only a
-- side of 0 is; but two holes at different places have a longest side of at least 1. Assumes nothing.
use mathlib.Core.Path.{◌≡◌, refl, sym, ap, ◌∙◌}
use mathlib.Core.Logic.{◌≢◌}
use mathlib.Core.Bool.{Bool, true, false, not}
use mathlib.Core.List.{List, [], ◌∷◌}
use Prim.Native.Nat.{ℕ, zero, suc, ◌+◌, ◌*◌, ◌/◌, ◌≤◌, min, max}
use native.Mathlib.Nat.{max-eq_left}
use native.Mathlib.Omega.{arith}
use lib.Dec.{leb}
use lib.ListN.{length, get_or, length-map, get_or-map}
use lib.Seq.{ext_get_or}
use borrow.Author.Tests.{leb-true, leb-false, not-true, not-false}
use Rattle.paper.specs.Lists.{keep}
use Rattle.paper.specs.Field.{Field, hole}
use Rattle.paper.specs.Tree.{Side, Box, point, spot, around, box_of, long, longest, axis, box_at, first, first_part, second_part}
use Rattle.paper.proofs.ListLaws.{by_case}
use Rattle.theory.specs.Trees.{Each}
use Rattle.theory.proofs.EachLaws.{each_map, each_keep, each_left}
use Rattle.theory.proofs.Cutting.{Halved}

-- no side is longer than the longest, and the first axis that has the longest has it
pub side-longest : (b : Box) (x : ℕ) → long (get_or b x (point 0)) ≤ longest b
unfolding longest
side-longest [] x = omega arith
side-longest (s ∷ b) zero = omega arith
side-longest (s ∷ b) (suc x) = omega (arith, side-longest b x)

pub long-axis : (b : Box) → long (get_or b (axis b) (point 0)) ≡ longest b
unfolding axis longest
long-axis [] = refl
long-axis (s ∷ b) =
    by_case (λ x. long (get_or (s ∷ b) x (point 0)) ≡ max (long s) (longest b)) (leb (longest b) (long s))
    (λ e. sym (max-eq_left (leb-true _ _ e)))
    (λ e. rw (long-axis b) (omega (arith, leb-false)))

pub around_nil : (a : Box) → around a [] ≡ a
unfolding around
around_nil [] = refl
around_nil (x ∷ a) = refl

around-length : (a b : Box) → length a ≡ length b → length (around a b) ≡ length a
unfolding around
around-length [] b e = sym e
around-length (x ∷ a) [] e = refl
around-length (x ∷ a) (y ∷ b) e = ap suc (around-length a b (omega arith))

-- the smallest side that holds both
abbrev hull : Side → Side → Side
hull x y = record { low = min x.low y.low; high = max x.high y.high }

around_at : (a b : Box) → length a ≡ length b → (x : ℕ) → get_or (around a b) x (point 0) ≡ hull (get_or a x (point 0)) (get_or b x (point 0))
unfolding around
around_at [] [] e x = refl
around_at [] (y ∷ b) e x = absurd (omega arith)
around_at (x ∷ a) [] e i = absurd (omega arith)
around_at (x ∷ a) (y ∷ b) e zero = refl
around_at (x ∷ a) (y ∷ b) e (suc i) = around_at a b (omega arith) i

-- a coordinate within a side
abbrev pub Within : Side → ℕ → Type 0
Within e c = (e.low ≤ c) × (c ≤ e.high)

module _ (H : Field) where
  -- coordinate x of hole i
  abbrev pub coordinate : ℕ → ℕ → ℕ
  coordinate x i = get_or (hole H i) x 0

  -- the side on axis x of the box of a set
  abbrev pub side_at : List ℕ → ℕ → Side
  side_at s x = get_or (box_at H s) x (point 0)

  -- the axis on which a set is cut, its side there, and the two halves of that side
  abbrev pub cut-axis : List ℕ → ℕ
  cut-axis s = axis (box_at H s)

  abbrev pub cut-side : List ℕ → Side
  cut-side s = side_at s (cut-axis s)

  abbrev low_half : List ℕ → Side
  low_half s = record { low = (cut-side s).low; high = ((cut-side s).low + (cut-side s).high) / 2 }

  abbrev high_half : List ℕ → Side
  high_half s = record { low = ((cut-side s).low + (cut-side s).high) / 2 + 1; high = (cut-side s).high }

  -- the first part has the holes in the low half, the second those in the high half
  in_low : (s : List ℕ) (i : ℕ) → Within (cut-side s) (coordinate (cut-axis s) i) → first H s i ≡ true
      → Within (low_half s) (coordinate (cut-axis s) i)
  unfolding first
  in_low s i h e = omega (arith, leb-true (2 * coordinate (cut-axis s) i) ((cut-side s).low + (cut-side s).high) e)

  in_high : (s : List ℕ) (i : ℕ) → Within (cut-side s) (coordinate (cut-axis s) i) → first H s i ≡ false
      → Within (high_half s) (coordinate (cut-axis s) i)
  unfolding first
  in_high s i h e = omega (arith, leb-false (2 * coordinate (cut-axis s) i) ((cut-side s).low + (cut-side s).high) e)

  -- no two holes of a set stand at one place
  abbrev pub Apart : List ℕ → Type 0
  Apart [] = Unit {0}
  Apart (i ∷ s) = Each (λ j. hole H i ≢ hole H j) s × Apart s

  module _ (d : ℕ) where
    -- each hole of a set has d coordinates
    abbrev pub Sized : List ℕ → Type 0
    Sized s = Each (λ i. length (hole H i) ≡ d) s

    abbrev pub Good : List ℕ → Type 0
    Good s = Sized s × Apart s

    length_box : (i : ℕ) (s : List ℕ) → Sized (i ∷ s) → length (box_at H (i ∷ s)) ≡ d
    unfolding box_at box_of
    length_box i [] w = rw around_nil (length-map (hole H i) point ∙ w.0)
    length_box i (j ∷ s) w =
        let e : length (spot (hole H i)) ≡ d = length-map (hole H i) point ∙ w.0 in
        around-length (spot (hole H i)) (box_at H (j ∷ s)) (e ∙ sym (length_box j s w.1)) ∙ e

    module _ (x : ℕ) where
      side-one : (i : ℕ) → side_at (i ∷ []) x ≡ point (coordinate x i)
      unfolding box_at box_of
      side-one i = rw around_nil (get_or-map point (hole H i) x 0)

      side-more : (i j : ℕ) (s : List ℕ) → Sized (i ∷ j ∷ s) → side_at (i ∷ j ∷ s) x ≡ hull (point (coordinate x i)) (side_at (j ∷ s) x)
      unfolding box_at box_of
      side-more i j s w =
          around_at (spot (hole H i)) (box_at H (j ∷ s)) (length-map (hole H i) point ∙ w.0 ∙ sym (length_box j s w.1)) x
          ∙ ap (λ (e : Side). hull e (side_at (j ∷ s) x)) (get_or-map point (hole H i) x 0)

      -- the box of a set holds its holes
      pub held : (s : List ℕ) → Sized s → Each (λ i. Within (side_at s x) (coordinate x i)) s
      held [] w = tt
      held (i ∷ []) w = rw (side-one i) (omega arith, tt)
      held (i ∷ j ∷ s) w =
          let e = side-more i j s w in
          (rw e (omega arith), each_map (λ k h. rw e (omega arith)) (j ∷ s) (held (j ∷ s) w.1))

      -- and is the smallest that does
      pub smallest : (e : Side) (i : ℕ) (s : List ℕ) → Sized (i ∷ s) → Each (λ j. Within e (coordinate x j)) (i ∷ s)
          → (e.low ≤ (side_at (i ∷ s) x).low) × ((side_at (i ∷ s) x).high ≤ e.high)
      smallest e i [] w h = rw (side-one i) h.0
      smallest e i (j ∷ s) w h = let r = smallest e j s w.1 h.1 in rw (side-more i j s w) (omega arith)

      -- so its side is no longer than a stretch that holds the coordinates of its holes
      pub no_longer : (e : Side) (s : List ℕ) → Sized s → Each (λ j. Within e (coordinate x j)) s → long (side_at s x) ≤ long e
      unfolding box_at box_of
      no_longer e [] w h = omega arith
      no_longer e (i ∷ s) w h = omega (arith, smallest e i s w h)

      -- no side of a part is longer than the whole set's
      pub side-kept : (p : ℕ → Bool) (s : List ℕ) → Sized s → long (side_at (keep p s) x) ≤ long (side_at s x)
      side-kept p s w = no_longer (side_at s x) (keep p s) (each_keep p (λ i h e. h) s w) (each_keep p (λ i h e. h) s (held s w))

    module _ (s : List ℕ) (w : Sized s) where
      -- the holes that meet a test, where all of those are in a stretch of at most half the side
      half-kept : (p : ℕ → Bool) (e : Side) → long e ≤ long (cut-side s) / 2
          → ((i : ℕ) → Within (cut-side s) (coordinate (cut-axis s) i) → p i ≡ true → Within e (coordinate (cut-axis s) i))
          → long (side_at (keep p s) (cut-axis s)) ≤ long (cut-side s) / 2
      half-kept p e h f =
          omega (arith, no_longer (cut-axis s) e (keep p s) (each_keep p (λ i g t. g) s w) (each_keep p f s (held (cut-axis s) s w)))

      -- on the cut axis each part has at most half of the old side, rounded down
      pub first-half : long (side_at (first_part (first H) s) (cut-axis s)) ≤ long (cut-side s) / 2
      first-half = half-kept (first H s) (low_half s) (omega arith) (in_low s)

      pub second-half : long (side_at (second_part (first H) s) (cut-axis s)) ≤ long (cut-side s) / 2
      second-half = half-kept (λ i. not (first H s i)) (high_half s) (omega arith) (λ i h e. in_high s i h (not-true _ e))

      -- some hole meets a test, where all of those that fail it are in such a stretch
      some-kept : (p : ℕ → Bool) (e : Side) → long e ≤ long (cut-side s) / 2
          → ((i : ℕ) → Within (cut-side s) (coordinate (cut-axis s) i) → p i ≡ false → Within e (coordinate (cut-axis s) i))
          → 1 ≤ long (cut-side s) → 1 ≤ length (keep p s)
      some-kept p e h f o = go (length (keep p s)) refl
        where
          go : (n : ℕ) → length (keep p s) ≡ n → 1 ≤ length (keep p s)
          go zero z = absurd (omega (arith, no_longer (cut-axis s) e s w (each_left p f s z (held (cut-axis s) s w))))
          go (suc n) z = omega arith

    -- a set of two or more holes at different places has a longest side of at least 1
    pub some-width : (s : List ℕ) → Good s → 2 ≤ length s → 1 ≤ longest (box_at H s)
    some-width [] g h = absurd (omega arith)
    some-width (i ∷ []) g h = absurd (omega arith)
    some-width (i ∷ j ∷ s) g h = go (longest (box_at H (i ∷ j ∷ s))) refl
      where
        go : (n : ℕ) → longest (box_at H (i ∷ j ∷ s)) ≡ n → 1 ≤ longest (box_at H (i ∷ j ∷ s))
        go zero z =
            absurd (g.1.0.0 (ext_get_or 0 (hole H i) (hole H j) (g.0.0 ∙ sym g.0.1.0)
            (λ x l. let r = held x (i ∷ j ∷ s) g.0 in omega (arith, side-longest (box_at H (i ∷ j ∷ s)) x))))
        go (suc n) z = omega arith

    -- which is the side that is cut
    pub some-length : (s : List ℕ) → Good s → 2 ≤ length s → 1 ≤ long (cut-side s)
    some-length s g h = rw (long-axis (box_at H s)) (some-width s g h)

    -- a part of a set has no two holes at one place either
    apart-kept : (p : ℕ → Bool) (s : List ℕ) → Apart s → Apart (keep p s)
    apart-kept p [] a = tt
    apart-kept p (i ∷ s) a = by_case Apart (p i) (λ e. (each_keep p (λ j h t. h) s a.0, apart-kept p s a.1)) (λ e. apart-kept p s a.1)

    good-kept : (p : ℕ → Bool) (s : List ℕ) → Good s → Good (keep p s)
    good-kept p s g = (each_keep p (λ i h e. h) s g.0, apart-kept p s g.1)

    -- both parts have a hole, and their holes are at different places again
    pub halved : (s : List ℕ) → Good s → 2 ≤ length s → Halved (first H) Good s
    halved s g h =
        let o = some-length s g h in
        record {
          some_first = some-kept s g.0 (first H s) (high_half s) (omega arith) (in_high s) o;
          some-second = some-kept s g.0 (λ i. not (first H s i)) (low_half s) (omega arith) (λ i h e. in_low s i h (not-false _ e)) o;
          good-first = good-kept (first H s) s g;
          good-second = good-kept (λ i. not (first H s i)) s g;
        }
