-- Holes in a list of bytes. Two of them stand at one place where they agree on each axis, and hole i is a repeat by the holes up to it, however
-- many there are in all. Assumes nothing.
use mathlib.Core.Path.{◌≡◌, sym, ap, ◌∙◌}
use mathlib.Core.Logic.{◌↔◌}
use mathlib.Core.Bool.{Bool, true, false}
use mathlib.Core.List.{List}
use Prim.Native.Nat.{ℕ, ◌+◌, ◌*◌, ◌<◌, ◌≤◌}
use native.Mathlib.Nat.{zero-add, mul-le-mul_left}
use native.Mathlib.Omega.{arith}
use lib.ListN.{length, get_or}
use borrow.Author.Count.{below_more}
use Rattle.std.specs.Prelude.{MatchBool}
use Rattle.std.specs.List.{AllWithin, HoldsAt, range_with_len}
use Rattle.std.proofs.lemmas.List.FromFn.{length-range_with_len, get_or-range_with_len}
use Rattle.words.specs.Words.{be}
use Rattle.paper.specs.Lists.{same}
use Rattle.paper.specs.Field.{hole, list_at, hole_at, holes_at}
use Rattle.paper.specs.Rules.{repeats, Repeats}
use Rattle.paper.proofs.ListLaws.{both, not_so, same_is}
use Rattle.theory.proofs.Reading.{hole_read, coordinate_read}
use Rattle.theory.proofs.Statements.{repeats_is}
use Rattle.std.specs.Prelude.{Some, None}
use Rattle.field.specs.Found.{Finds}
use Rattle.field.specs.Boxes.{HolesIn, HoleIn}
use Rattle.field.proofs.Boxes.{same_below}

-- ---- the holes that there are

pub hole_in : {s : List ℕ} {d n i : ℕ} → HolesIn s d n → i < n → HoleIn s d i
hole_in {d} h l = record { axes = h.axes; few = omega (arith, h.few); here = omega (arith, h.all, mul-le-mul_left (2 * d) l) }

pub hole_lower : {s : List ℕ} {d i j : ℕ} → HoleIn s d i → j < i → HoleIn s d j
hole_lower {d} h l = record { axes = h.axes; few = omega (arith, h.few); here = omega (arith, h.here, mul-le-mul_left (2 * d) l) }

-- ---- the places at bytes o and p, by a walk over the axes

module _ (s : List ℕ) (o p : ℕ) where
  abbrev pub Alike : ℕ → Type 0
  Alike x = be 2 s (o + 2 * x) ≡ be 2 s (p + 2 * x)

module _ (s : List ℕ) (o p d : ℕ) where
  axes-at : (P : ℕ → Type 0) (x : ℕ) → x < d → P (get_or (range_with_len 0 d) x 0) → P x
  axes-at P x l h = rw (get_or-range_with_len 0 d x 0 l, zero-add) at h

  pub alike : (t : Bool) → MatchBool t (AllWithin (Alike s o p) (range_with_len 0 d) 0 (length (range_with_len 0 d)))
      ((x : ℕ) × (x < length (range_with_len 0 d)) × HoldsAt (λ y. Alike s o p y → ⊥) (range_with_len 0 d) x)
      → t ≡ same (hole_at d s o) (hole_at d s p)
  unfolding hole_at list_at
  alike true h =
      sym ((same_is (hole_at d s o) (hole_at d s p)).1 (same_below _ _ d (λ x l.
      axes-at (Alike s o p) x l (h x 0 (omega arith) (omega (arith, length-range_with_len 0 d))))))
  alike false h =
      sym (not_so (λ t.
      let x = h.0 in
      let l : x < d = omega (arith, h.1, length-range_with_len 0 d) in
      let e = ap (λ (q : List ℕ). get_or q x 0) ((same_is (hole_at d s o) (hole_at d s p)).0 t) in
      axes-at (λ y. Alike s o p y → ⊥) x l (h.2 0) (sym (coordinate_read d s o x l) ∙ e ∙ coordinate_read d s p x l)))

-- ---- repeats

module _ (d : ℕ) (s : List ℕ) where
  hole-holes_at : (n i : ℕ) → i < n → hole (holes_at d s 0 n) i ≡ hole_at d s (2 * d * i)
  hole-holes_at n i l = rw zero-add at (hole_read d s 0 n i l)

  -- a repeat among m holes is one among n
  repeats_in : (m n i : ℕ) → i < m → i < n → Repeats (holes_at d s 0 m) i → Repeats (holes_at d s 0 n) i
  repeats_in m n i l k r =
      let j = r.other in
      let e = hole-holes_at n j (omega (arith, r.lower)) ∙ sym (hole-holes_at m j (omega (arith, r.lower))) in
      record { other = j; lower = r.lower; place = e ∙ r.place ∙ hole-holes_at m i l ∙ sym (hole-holes_at n i k) }

  -- whether hole i is a repeat by the holes up to it, and so among n
  abbrev pub again : ℕ → Bool
  again i = repeats (holes_at d s 0 (i + 1)) i

  again_is : (n i : ℕ) → i < n → again i ≡ true ↔ Repeats (holes_at d s 0 n) i
  again_is n i l = (
    λ e. repeats_in (i + 1) n i (omega arith) l ((repeats_is (holes_at d s 0 (i + 1)) i).0 e),
    λ r. (repeats_is (holes_at d s 0 (i + 1)) i).1 (repeats_in n (i + 1) i l (omega arith) r),
  )

  -- whether holes j and i stand at one place
  abbrev pub at_one : ℕ → ℕ → Bool
  at_one j i = same (hole_at d s (2 * d * j)) (hole_at d s (2 * d * i))

  pub repeat : (i j : ℕ) → j < i → at_one j i ≡ true → true ≡ again i
  repeat i j l e =
      let p = hole-holes_at (i + 1) j (omega arith) ∙ (same_is (hole_at d s (2 * d * j)) (hole_at d s (2 * d * i))).0 e in
      sym ((repeats_is _ i).1 (record { other = j; lower = l; place = p ∙ sym (hole-holes_at (i + 1) i (omega arith)) }))

  pub no_repeat : (i : ℕ) → ((j : ℕ) → j < i → at_one j i ≡ true → ⊥) → false ≡ again i
  no_repeat i n =
      sym (not_so (λ t.
      let r = (repeats_is (holes_at d s 0 (i + 1)) i).0 t in
      let j = r.other in
      let e = sym (hole-holes_at (i + 1) j (omega (arith, r.lower))) ∙ r.place ∙ hole-holes_at (i + 1) i (omega arith) in
      n j r.lower ((same_is (hole_at d s (2 * d * j)) (hole_at d s (2 * d * i))).1 e)))

  -- none of the first i holes of n is a repeat
  pub record NoneBefore (n i : ℕ) : Type 0 where
    pub none : (k : ℕ) → k < i → Repeats (holes_at d s 0 n) k → ⊥

  pub none_before_start : {n : ℕ} → NoneBefore n 0
  none_before_start = record { none = λ k l. absurd (omega arith) }

  pub none_before_more : {n i : ℕ} (t : Bool) → NoneBefore n i → i < n → t ≡ again i → t ≡ false → NoneBefore n (i + 1)
  none_before_more {n} {i} t p l e f = record { none = below_more _ i p.none (λ r. both ((again_is n i l).1 r) (sym e ∙ f)) }

  pub first_repeat : (n i : ℕ) (t : Bool) → NoneBefore n i → i < n → t ≡ again i → t ≡ true → Finds (Repeats (holes_at d s 0 n)) n (Some i)
  first_repeat n i t p l e f = record { within = l; holds = (again_is n i l).0 (sym e ∙ f); none_before = p.none }

  pub no_repeats : (n i : ℕ) → NoneBefore n i → n ≤ i → Finds (Repeats (holes_at d s 0 n)) n None
  no_repeats n i p l k h r = p.none k (omega arith) r
