-- Numbers in several words, low word first: one word more read below the others, and one more written above them. Assumes nothing.
use Rattle.std.proofs.Common.{◌≡◌, ap, List, ℕ, zero, suc, ◌+◌, ◌-◌, ◌*◌, ◌/◌, ◌%◌, ◌^◌, ◌<◌, ◌≤◌, arith, add-one}
use Rattle.std.proofs.Math.Nat.{pow-suc, pow-le-pow_right, mul-le-mul_left}
use Rattle.words.specs.Area.{word, Loaded, Saved}
use Rattle.slate.specs.Slate.{number, Kept, NumberHeld, NumberSet}
use Rattle.slate.proofs.Frames.{kept_none, kept_set, kept_wider, kept_both, kept_number}

-- ---- read, from the i-th of N words on

pub held_more : {N i v x : ℕ} {w : List ℕ} (j : ℕ) → NumberHeld (N - i) w (j + i) v → 0 < i → i ≤ N → Loaded w (j + (i - 1)) x
    → NumberHeld (N - (i - 1)) w (j + (i - 1)) (65_536 * v + x)
held_more {N} {i} j p a b s =
    let e : N - (i - 1) ≡ suc (N - i) = omega arith in
    let f : j + (i - 1) + 1 ≡ j + i = omega arith in
    rw e record { is = rw (f, p.is, s.is) (omega arith); small = rw pow-suc (omega (arith, p.small, s.small)) }

-- what three words say, and a word more, is below 2 ^ 64
pub held_room : {N i j v : ℕ} {w : List ℕ} → NumberHeld (N - i) w j v → 0 < i → i ≤ N → N ≤ 4 → 65_536 * v + 65_535 < 18_446_744_073_709_551_616
held_room {N} {i} p a b l = omega (arith, p.small, pow-le-pow_right {n = 65_536} (omega arith) {i = N - i} {j = 3} (omega arith))

-- ---- written: the first n words from word i on, and what is left of v

pub record Setting (n i v rest : ℕ) (old new : List ℕ) : Type 0 where
  pub whole : v ≡ number n new i + 65_536 ^ n * rest
  pub kept : Kept old new i (i + n)

number_more : (n : ℕ) (w : List ℕ) (i : ℕ) → number (n + 1) w i ≡ number n w i + 65_536 ^ n * word w (i + n)
number_more zero w i = let e : i + 0 ≡ i = omega arith in rw e (omega arith)
number_more (suc n) w i =
    let e : suc n + 1 ≡ suc (n + 1) = omega arith in
    let f : i + suc n ≡ i + 1 + n = omega arith in
    rw (e, f, pow-suc) (omega (arith, number_more n w (i + 1)))

pub set_none : {i v : ℕ} {w : List ℕ} → Setting 0 i v v w w
set_none = record { whole = omega arith; kept = kept_none }

pub set_one : {n i v rest : ℕ} {old mid new : List ℕ} → Setting n i v rest old mid → Saved mid new (i + n) (rest % 65_536)
    → Setting (n + 1) i v (rest / 65_536) old new
set_one {n} {i} {rest = rest} {new = new} p s =
    let k = kept_number (kept_set {lo = i + n} {hi = i + n + 1} s (omega arith) (omega arith)) n i (λ a b. omega arith) in
    let d : rest ≡ 65_536 * (rest / 65_536) + rest % 65_536 = omega arith in
    record {
      whole = rw (number_more n new i, k, s.here, add-one, pow-suc) (omega (arith, p.whole, ap (λ (x : ℕ). 65_536 ^ n * x) d));
      kept = kept_both (kept_wider p.kept (omega arith) (omega arith)) (kept_set s (omega arith) (omega arith));
    }

pub set_all : {N n i v rest : ℕ} {old new : List ℕ} → Setting n i v rest old new → N ≤ n → n ≤ N → v < 65_536 ^ N → NumberSet N old new i v
set_all {N} {n} {rest = zero} p a b l =
    let e : n ≡ N = omega arith in
    let q = rw e at p.whole in
    record { here = omega arith; kept = rw e at p.kept }
set_all {N} {n} {rest = suc r} p a b l =
    let e : n ≡ N = omega arith in
    let q = rw e at p.whole in
    let h : 1 ≤ suc r = omega arith in
    absurd (omega (arith, mul-le-mul_left (65_536 ^ N) h))
