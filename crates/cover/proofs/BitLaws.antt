-- The laws of `specs/Bits.antt`. The number 2 ^ hi - 2 ^ lo has the bits from lo up to hi and no other; two numbers with no bit in common add up bit
-- by bit. Assumes nothing.
use Rattle.std.proofs.Common.{◌≡◌, sym, ◌∙◌, ℕ, suc, ◌+◌, ◌-◌, ◌*◌, ◌/◌, ◌%◌, ◌^◌, ◌<◌, ◌≤◌, min, max, mul-div_cancel, pow-suc, arith, pow_pos, pow-add, pow_mono, shr-shr, bit_and, bit_or, inl, inr}
use Rattle.std.proofs.lemmas.Bool.{cases_lt}
use Rattle.std.proofs.lemmas.Bool.Decides.{nat_tests}
use native.Mathlib.Nat.{mul-mod_left, div-eq_of_lt}
use lib.Arith.{digits_mod}
use lib.Pow.{high, ones_lt, ones_split, high_ones}
use lib.Bits.{and_step, or_step, and_shr, or_shr, or_disjoint, or_lt}
use Rattle.cover.specs.Bits.{bit, between}

-- ---- stretches of numbers

module _ (lo hi j : ℕ) where
  pub between_in : lo ≤ j → j < hi → between lo hi j ≡ 1
  unfolding between
  between_in a b = grind (arith, nat_tests)

  pub between_none : (lo ≤ j → j < hi → ⊥) → between lo hi j ≡ 0
  unfolding between
  between_none h = grind (arith, nat_tests)

  -- inside the stretch, or not
  pub inside : {P : Type 0} → (lo ≤ j → j < hi → P) → ((lo ≤ j → j < hi → ⊥) → between lo hi j ≡ 0 → P) → P
  inside f g =
      let out = λ (o : lo ≤ j → j < hi → ⊥). g o (between_none o) in
      elim (cases_lt j lo) [ inl a ↦ out (omega arith) | inr a ↦ elim (cases_lt j hi) [ inl b ↦ f a b | inr b ↦ out (omega arith) ] ]

-- two that say the same; one after the other
pub between-same : (lo hi j a b k : ℕ) → (lo ≤ j → j < hi → (a ≤ k) × (k < b)) → (a ≤ k → k < b → (lo ≤ j) × (j < hi))
    → between lo hi j ≡ between a b k
unfolding between
between-same lo hi j a b k f g = grind (arith, nat_tests)

pub between_more : (lo mid hi j : ℕ) → lo ≤ mid → mid ≤ hi → between lo mid j + between mid hi j ≡ between lo hi j
unfolding between
between_more lo mid hi j l h = grind (arith, nat_tests)

-- ---- the bits of what `&` and a sum give

pub bit-bit_and : (a b j : ℕ) → bit (bit_and a b) j ≡ min (bit a j) (bit b j)
unfolding bit
bit-bit_and a b j =
    rw (and_shr a b j, and_step (a / 2 ^ j) (b / 2 ^ j))
    (digits_mod (bit_and (a / 2 ^ j / 2) (b / 2 ^ j / 2)) {m = 2} {r = min (a / 2 ^ j % 2) (b / 2 ^ j % 2)} (omega arith))

bit-bit_or : (a b j : ℕ) → bit (bit_or a b) j ≡ max (bit a j) (bit b j)
unfolding bit
bit-bit_or a b j =
    rw (or_shr a b j, or_step (a / 2 ^ j) (b / 2 ^ j))
    (digits_mod (bit_or (a / 2 ^ j / 2) (b / 2 ^ j / 2)) {m = 2} {r = max (a / 2 ^ j % 2) (b / 2 ^ j % 2)} (omega arith))

pub no_bit : (j : ℕ) → bit 0 j ≡ 0
unfolding bit
no_bit j = rw (div-eq_of_lt (pow_pos j))

-- ---- the bits of 2 ^ hi - 2 ^ lo

ones_bit : (i t : ℕ) → t < i → bit (2 ^ i - 1) t ≡ 1
unfolding bit
ones_bit i t l =
    let u : ℕ = i - suc t in
    let e : i ≡ suc u + t = omega arith in
    rw (e, ones_split (suc u) t, high (2 ^ suc u - 1) t (ones_lt t), pow-suc) (omega (arith, pow_pos u))

ones_above : (i t : ℕ) → i ≤ t → bit (2 ^ i - 1) t ≡ 0
unfolding bit
ones_above i t l = let h : 2 ^ i - 1 < 2 ^ t = omega (arith, ones_lt i, pow_mono l) in rw (div-eq_of_lt h)

shifted_above : (a k t : ℕ) → bit (a * 2 ^ k) (k + t) ≡ bit a t
unfolding bit
shifted_above a k t = rw (← shr-shr (a * 2 ^ k) k t, mul-div_cancel a (pow_pos k))

shifted_below : (a k j : ℕ) → j < k → bit (a * 2 ^ k) j ≡ 0
unfolding bit
shifted_below a k j l =
    let u : ℕ = k - suc j in
    let e : k ≡ u + 1 + j = omega arith in
    let f : a * 2 ^ (u + 1 + j) ≡ a * 2 ^ u * 2 * 2 ^ j = rw (pow-add 2 (u + 1) j, pow-add 2 u 1) (omega arith) in
    rw (e, f, mul-div_cancel (a * 2 ^ u * 2) (pow_pos j)) (mul-mod_left (a * 2 ^ u) 2)

mask_shifted : (lo i j : ℕ) → bit (2 ^ (i + lo) - 2 ^ lo) j ≡ between lo (i + lo) j
mask_shifted lo i j =
    rw (high_ones i lo)
    (elim (cases_lt j lo) [
      | inl h ↦ shifted_below (2 ^ i - 1) lo j h ∙ sym (between_none lo (i + lo) j (omega arith))
      | inr h ↦
          let t : ℕ = j - lo in
          let e : lo + t ≡ j = omega arith in
          let f : bit ((2 ^ i - 1) * 2 ^ lo) j ≡ bit (2 ^ i - 1) t = rw e at (shifted_above (2 ^ i - 1) lo t) in
          f
          ∙ elim (cases_lt t i) [
            | inl z ↦ ones_bit i t z ∙ sym (between_in lo (i + lo) j h (omega arith))
            | inr z ↦ ones_above i t z ∙ sym (between_none lo (i + lo) j (omega arith))
          ]
    ])

mask_bit : (lo hi j : ℕ) → lo ≤ hi → bit (2 ^ hi - 2 ^ lo) j ≡ between lo hi j
mask_bit lo hi j l = let e : hi - lo + lo ≡ hi = omega arith in rw e at (mask_shifted lo (hi - lo) j)

-- ---- a stretch of bits: none is set, and then they are set; all are set

module _ (v lo hi : ℕ) (l : lo ≤ hi) where
  pub set_bits : bit_and v (2 ^ hi - 2 ^ lo) ≡ 0 → (j : ℕ) → bit (v + (2 ^ hi - 2 ^ lo)) j ≡ bit v j + between lo hi j
  set_bits e j =
      let m : ℕ = 2 ^ hi - 2 ^ lo in
      let b : bit m j ≡ between lo hi j = mask_bit lo hi j l in
      let z : min (bit v j) (bit m j) ≡ 0 = sym (bit-bit_and v m j) ∙ rw e (no_bit j) in
      rw (← or_disjoint v m e, bit-bit_or v m j, ← b) (omega arith)

  pub full_bits : bit_and v (2 ^ hi - 2 ^ lo) ≡ 2 ^ hi - 2 ^ lo → (j : ℕ) → lo ≤ j → j < hi → bit v j ≡ 1
  unfolding bit
  full_bits e j a b =
      let m : ℕ = 2 ^ hi - 2 ^ lo in
      let o : bit m j ≡ 1 = mask_bit lo hi j l ∙ between_in lo hi j a b in
      let z : min (bit v j) (bit m j) ≡ bit m j = sym (bit-bit_and v m j) ∙ rw e in
      omega arith

  pub set_small : v < 65_536 → hi ≤ 16 → bit_and v (2 ^ hi - 2 ^ lo) ≡ 0 → v + (2 ^ hi - 2 ^ lo) < 65_536
  set_small s h e =
      let m : ℕ = 2 ^ hi - 2 ^ lo in
      let t : m < 2 ^ 16 = omega (arith, pow_mono h, pow_pos lo, pow_pos hi) in
      rw (← or_disjoint v m e) (or_lt 16 v m s t)
