-- Boxes on the slate: a box is its sides, and a side is two cells of node k's row in columns LOW and above. So a box is left by whatever
-- leaves those words, and setting a node's box leaves all other nodes' boxes and every column below LOW. Assumes nothing.
use mathlib.Core.Path.{◌≡◌, refl, ap, ap₂, ◌∙◌}
use mathlib.Core.List.{List, ◌∷◌, map}
use Prim.Native.Nat.{ℕ, zero, suc, ◌+◌, ◌*◌, ◌<◌, ◌≤◌}
use native.Mathlib.Omega.{arith}
use lib.ListN.{length, get_or, length-map}
use Rattle.std.proofs.lemmas.List.{get_or-map}
use Rattle.words.specs.Area.{word, Saved}
use Rattle.slate.specs.Columns.{LOW, HIGH}
use Rattle.slate.specs.Slate.{cell, Kept}
use Rattle.paper.specs.Lists.{from, below}
use Rattle.paper.specs.Tree.{Box, point}
use Rattle.theory.proofs.EachLaws.{length_from}
use Rattle.field.specs.Boxes.{side_on, box_on, Boxed}

-- ---- a box by its sides

pub length_box : (w : List ℕ) (d k : ℕ) → length (box_on w d k) ≡ d
unfolding box_on
length_box w d k = length-map (below d) (side_on w k) ∙ length_from 0 d

from_at : (i n x : ℕ) → x < n → get_or (from i n) x 0 ≡ i + x
from_at i zero x l = absurd (omega arith)
from_at i (suc n) zero l = omega arith
from_at i (suc n) (suc x) l = omega (arith, from_at (suc i) n x (omega arith))

pub below_at : (x d : ℕ) → x < d → get_or (below d) x 0 ≡ x
below_at x d l = omega (arith, from_at 0 d x l)

pub box_side : (w : List ℕ) (d k x : ℕ) → x < d → get_or (box_on w d k) x (point 0) ≡ side_on w k x
unfolding box_on
box_side w d k x l = get_or-map (side_on w k) (below d) x 0 (point 0) (rw length_from l) ∙ ap (side_on w k) (below_at x d l)

-- what is the same on each axis
same_from : {A : Type 0} (f g : ℕ → A) (i n : ℕ) → ((x : ℕ) → x < i + n → f x ≡ g x) → map f (from i n) ≡ map g (from i n)
same_from f g i zero h = refl
same_from f g i (suc n) h = ap₂ ◌∷◌ (h i (omega arith)) (same_from f g (suc i) n (λ x l. h x (omega arith)))

pub same_below : {A : Type 0} (f g : ℕ → A) (d : ℕ) → ((x : ℕ) → x < d → f x ≡ g x) → map f (below d) ≡ map g (below d)
same_below f g d h = same_from f g 0 d (λ x l. h x (omega arith))

pub box_same : (new old : List ℕ) (d j k : ℕ) → ((x : ℕ) → x < d → side_on new j x ≡ side_on old k x) → box_on new d j ≡ box_on old d k
unfolding box_on
box_same new old d j k h = same_below (side_on new j) (side_on old k) d h

-- a box is in the words of columns LOW and above
pub box_high : (new old : List ℕ) (d k : ℕ) → ((i : ℕ) → 20_480 ≤ i → word new i ≡ word old i) → box_on new d k ≡ box_on old d k
box_high new old d k h =
    box_same new old d k k (λ x l. rw (h (2_048 * (LOW + 2 * x) + k) (omega arith), h (2_048 * (HIGH + 2 * x) + k) (omega arith)))

-- ---- what leaves a box: a set, and a step, below those columns

pub set_box : {old new : List ℕ} {i v : ℕ} → Saved old new i v → i < 20_480 → (d k : ℕ) → box_on new d k ≡ box_on old d k
set_box {old} {new} s l d k = box_high new old d k (λ j m. s.rest j (omega arith))

pub kept_box : {old new : List ℕ} {lo hi : ℕ} → Kept old new lo hi → hi ≤ 20_480 → (d k : ℕ) → box_on new d k ≡ box_on old d k
kept_box {old} {new} p l d k = box_high new old d k (λ j m. p.rest j (omega arith))

-- ---- what setting node k's box leaves

-- every word of the columns below LOW
pub boxed_kept : {old new : List ℕ} {d k : ℕ} {B : Box} → Boxed old new d k B → k < 2_048 → Kept old new 20_480 32_768
boxed_kept p l = record { len = p.len; rest = λ i h. p.rest i (λ c a b e. h (omega arith) (omega arith)) }

pub boxed-cell : {old new : List ℕ} {d k : ℕ} {B : Box} → Boxed old new d k B → (c j : ℕ) → c < LOW → j < 2_048 → cell new c j ≡ cell old c j
boxed-cell p c j l m = p.rest (2_048 * c + j) (λ b a h e. omega arith)

-- every other node's sides, and so its box
pub other_side : (old new : List ℕ) {k : ℕ} → ((i : ℕ) → ((c : ℕ) → LOW ≤ c → c < 16 → i ≡ 2_048 * c + k → ⊥) → word new i ≡ word old i) → k < 2_048
    → (j x : ℕ) → j < 2_048 → (j ≡ k → ⊥) → side_on new j x ≡ side_on old j x
other_side old new r l j x m ne =
    rw (r (2_048 * (LOW + 2 * x) + j) (λ c a b e. ne (omega arith)), r (2_048 * (HIGH + 2 * x) + j) (λ c a b e. ne (omega arith)))

pub boxed_other : {old new : List ℕ} {d k : ℕ} {B : Box} → Boxed old new d k B → k < 2_048 → (j : ℕ) → j < 2_048 → (j ≡ k → ⊥)
    → box_on new d j ≡ box_on old d j
boxed_other {old} {new} {d} p l j m ne = box_same new old d j j (λ x h. other_side _ _ p.rest l j x m ne)
