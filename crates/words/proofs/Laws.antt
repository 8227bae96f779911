-- Numbers in bytes, and bytes written into a list: the laws of `specs/Words.antt`. Each holds at every width w.
-- That two places do not overlap is a function into ⊥, which `omega arith` proves at a caller. Assumes nothing.
use mathlib.Core.Path.{◌≡◌, refl, ap, sym, ◌∙◌}
use mathlib.Core.Logic.{◌⊎◌, inl, inr, ⊎_elim}
use mathlib.Core.List.{List, [], ◌∷◌, ◌++◌, append-nil}
use Prim.Native.Nat.{ℕ, zero, suc, ◌+◌, ◌-◌, ◌*◌, ◌/◌, ◌%◌, ◌^◌, ◌<◌, ◌≤◌}
use native.Mathlib.Nat.{add-zero, zero-add, add_assoc, mul_comm, mul-le-mul_left, pow-succ', pow-suc, div-one, one-le-pow, mod-eq_of_lt, div-eq_of_lt, div-div-eq-div-mul, mul-add-div, mul-add-mod_self_left}
use native.Mathlib.Decide.{dec_lt}
use native.Mathlib.Numerals.{add-one}
use native.Mathlib.Omega.{arith}
use lib.Pow.{pow-add}
use Rattle.std.specs.Int.{w64, from_be_bytes, to_be_bytes}
use Rattle.std.specs.List.{between}
use Rattle.std.proofs.lemmas.List.{drop_at, take_all}
use Rattle.std.proofs.lemmas.List.Edits.{get_or-between, length-between}
use lib.Arith.{mod-mul}
use lib.ListN.{length, get_or, set, take, drop, replicate, length-set, length-append, get_or-append}
use lib.Seq.{get_or-append-add, get_or-set_same, get_or-set_other, drop-cons, ext_get_or, sets, sets-eq}
use Rattle.words.specs.Words.{be, bytes, Bytes, Read, Written}

-- ---- numbers in bytes

positive : (w : ℕ) → 0 < 256 ^ w
positive w = one-le-pow w 256 (omega arith)

-- a number in two parts
pub be_split : (u w : ℕ) (s : List ℕ) (at : ℕ) → be (u + w) s at ≡ 256 ^ w * be u s at + be w s (at + u)
unfolding be
be_split zero w s at = rw (zero-add, add-zero) (omega arith)
be_split (suc u) w s at =
    let e : suc u + w ≡ suc (u + w) = omega arith in
    let f : at + suc u ≡ at + 1 + u = omega arith in
    rw (e, f, pow-add) (omega (arith, be_split u w s (at + 1)))

pub read_wide : {s : List ℕ} {at a b : ℕ} (u w : ℕ) → Read u s at a → Read w s (at + u) b → Read (u + w) s at (256 ^ w * a + b)
read_wide {s} {at} {a} {b} u w p q =
    let l : a + 1 ≤ 256 ^ u = omega arith in
    record { is = rw (be_split, p.is, q.is); small = rw pow-add (omega (arith, mul-le-mul_left (256 ^ w) l)) }

-- the bytes of a number in two parts
pub bytes_split : (u w v : ℕ) → bytes (u + w) v ≡ bytes u (v / 256 ^ w) ++ bytes w v
unfolding bytes
bytes_split zero w v = rw zero-add
bytes_split (suc u) w v =
    let e : suc u + w ≡ suc (u + w) = omega arith in
    rw (e, pow-add, mul_comm, ← div-div-eq-div-mul, bytes_split u w v)

pub length-bytes : (w v : ℕ) → length (bytes w v) ≡ w
unfolding bytes
length-bytes zero v = refl
length-bytes (suc w) v = ap suc (length-bytes w v)

-- bytes are bytes
pub bytes_small : (w v : ℕ) → Bytes (bytes w v)
unfolding bytes
bytes_small zero v i = omega arith
bytes_small (suc w) v zero = omega arith
bytes_small (suc w) v (suc i) = bytes_small w v i

pub be_small : (w : ℕ) (s : List ℕ) (at : ℕ) → Bytes s → be w s at < 256 ^ w
unfolding be
be_small zero s at b = omega arith
be_small (suc w) s at b =
    let h : get_or s at 0 ≤ 255 = omega (arith, b at) in
    rw pow-suc (omega (arith, mul-le-mul_left (256 ^ w) h, be_small w s (at + 1) b))

-- equal bytes at two places of two lists give equal numbers
pub be-same : (w : ℕ) (s t : List ℕ) (i j : ℕ) → ((k : ℕ) → k < w → get_or s (i + k) 0 ≡ get_or t (j + k) 0) → be w s i ≡ be w t j
unfolding be
be-same zero s t i j h = refl
be-same (suc w) s t i j h =
    rw (simp add-zero at (h 0 (omega arith)), be-same w s t (i + 1) (j + 1) (λ k l. rw (add_assoc i, add_assoc j) (h (1 + k) (omega arith))))

-- what stands behind p
pub be_ahead : (w : ℕ) (p r : List ℕ) (i : ℕ) → be w (p ++ r) (length p + i) ≡ be w r i
be_ahead w p r i = be-same w (p ++ r) r (length p + i) i (λ k h. rw (add_assoc, get_or-append-add))

-- the bytes of v say v, but for what lies above them
be_bytes_mod : (w v : ℕ) (r : List ℕ) → be w (bytes w v ++ r) 0 ≡ v % 256 ^ w
unfolding be bytes
be_bytes_mod zero v r = omega arith
be_bytes_mod (suc w) v r =
    rw (be_ahead w (v / 256 ^ w % 256 ∷ []) (bytes w v ++ r) 0, be_bytes_mod w v r, pow-succ', mod-mul v {m = 256} {c = 256 ^ w} (omega arith) (positive w)) (omega arith)

pub be-bytes : (w v : ℕ) (r : List ℕ) → v < 256 ^ w → be w (bytes w v ++ r) 0 ≡ v
be-bytes w v r l = be_bytes_mod w v r ∙ mod-eq_of_lt l

-- numbers that fit are equal where their bytes are
pub bytes_injective : (w a b : ℕ) → a < 256 ^ w → b < 256 ^ w → bytes w a ≡ bytes w b → a ≡ b
bytes_injective w a b l m e = cc (be-bytes w a [] l, be-bytes w b [] m)

-- what lies above the bytes does not change them
bytes_above : (w q v : ℕ) → bytes w (256 ^ w * q + v) ≡ bytes w v
unfolding bytes
bytes_above zero q v = refl
bytes_above (suc w) q v =
    let e : 256 ^ suc w * q + v ≡ 256 ^ w * (256 * q) + v = rw pow-suc (omega arith) in
    rw (e, mul-add-div (positive w) (256 * q) v, mul-add-mod_self_left, bytes_above w (256 * q) v)

-- writing again what was read gives the same bytes
pub bytes-be : (w : ℕ) (s : List ℕ) (at : ℕ) → Bytes s → at + w ≤ length s → bytes w (be w s at) ≡ take w (drop at s)
unfolding be bytes
bytes-be zero s at b l = refl
bytes-be (suc w) s at b l =
    let i : at < length s = omega arith in
    let e : get_or s at 0 + 0 ≡ get_or s at 0 = omega arith in
    let h : be w s (at + 1) < 256 ^ w = be_small w s (at + 1) b in
    rw
    (mul-add-div (positive w), div-eq_of_lt h, e, mod-eq_of_lt (b at), bytes_above w, bytes-be w s (at + 1) b (omega arith), add-one, drop-cons s at 0)

-- nothing but zeros
pub zeros : (l k : ℕ) → get_or (replicate l 0) k 0 ≡ zero
zeros zero k = refl
zeros (suc l) zero = refl
zeros (suc l) (suc k) = zeros l k

pub be_zeros : (w l at : ℕ) → be w (replicate l 0) at ≡ 0
unfolding be
be_zeros zero l at = refl
be_zeros (suc w) l at = rw (zeros l at, be_zeros w l (at + 1)) (omega arith)

-- ---- bytes written into a list

lt_or_ge : (a b : ℕ) → (a < b) ⊎ (b ≤ a)
lt_or_ge a b = elim (dec_lt a b) [ yes l ↦ inl l | no n ↦ inr (omega arith) ]

pub written_none : {w : List ℕ} {at : ℕ} → Written w w at []
written_none = record { len = refl; got = λ i h. absurd (omega arith); rest = λ k h. refl }

-- one byte
pub written_one : (s : List ℕ) (at v : ℕ) → at < length s → Written s (set s at v) at (v ∷ [])
written_one s at v l =
    record {
      len = length-set s at v;
      got = λ i h. let e : i ≡ 0 = omega arith in rw (e, add-zero) (get_or-set_same s at v 0 l);
      rest = λ k h. get_or-set_other s at k v 0 (λ e. h (omega arith) (omega arith));
    }

-- one after the other
pub written_more : {a b c : List ℕ} {at to : ℕ} {xs ys : List ℕ} → Written a b at xs → Written b c to ys → to ≡ at + length xs → Written a c at (xs ++ ys)
written_more {b} {c} {at} {to} {xs} {ys} p q e =
    record {
      len = q.len ∙ p.len;
      got = λ i h. ⊎_elim
          (λ l. q.rest (at + i) (omega arith) ∙ p.got i l ∙ sym (get_or-append xs ys 0 i l))
          (λ g.
          let f : length xs + (i - length xs) ≡ i = omega arith in
          let f2 : at + i ≡ to + (i - length xs) = omega arith in
          let l : i - length xs < length ys = omega (arith, length-append xs ys) in
          rw f2 (q.got (i - length xs) l ∙ sym (rw f at (get_or-append-add xs ys (i - length xs) 0))))
          (lt_or_ge i (length xs));
      rest = λ k h.
          q.rest k (λ m n. h (omega arith) (omega (arith, length-append xs ys)))
          ∙ p.rest k (λ m n. h m (omega (arith, length-append xs ys)));
    }

-- two numbers, one after the other, are one number of both widths
pub written-wide : {a b c : List ℕ} {at : ℕ} (u w v : ℕ) → Written a b at (bytes u (v / 256 ^ w)) → Written b c (at + u) (bytes w v) → Written a c at (bytes (u + w) v)
written-wide u w v p q = rw bytes_split (written_more p q (rw length-bytes refl))

-- and where what comes after was written before
pub written_before : {a b c : List ℕ} {at to : ℕ} {xs ys : List ℕ} → Written a b to ys → Written b c at xs → to ≡ at + length xs → Written a c at (xs ++ ys)
written_before {a} {b} {c} {at} {to} {xs} {ys} p q e =
    let n = length-append xs ys in
    record {
      len = q.len ∙ p.len;
      got = λ i h. ⊎_elim
          (λ l. q.got i l ∙ sym (get_or-append xs ys 0 i l))
          (λ g.
          let f : length xs + (i - length xs) ≡ i = omega arith in
          let s : to + (i - length xs) ≡ at + i = omega arith in
          let m : get_or (xs ++ ys) i 0 ≡ get_or ys (i - length xs) 0 = rw f at (get_or-append-add xs ys (i - length xs) 0) in
          q.rest (at + i) (omega arith) ∙ (rw s at (p.got (i - length xs) (omega (arith, n)))) ∙ sym m)
          (lt_or_ge i (length xs));
      rest = λ k h. q.rest k (λ x y. h x (omega (arith, n))) ∙ p.rest k (λ x y. h (omega arith) (omega (arith, n)));
    }

-- a place within what was written, and any other
written_at : {old new : List ℕ} {at : ℕ} {bs : List ℕ} → Written old new at bs → (k : ℕ) → at ≤ k → k < at + length bs → get_or new k 0 ≡ get_or bs (k - at) 0
written_at {at} p k l m = let e : at + (k - at) ≡ k = omega arith in rw e at (p.got (k - at) (omega arith))

inside : (at n k : ℕ) → ((at ≤ k) × (k < at + n)) ⊎ (at ≤ k → k < at + n → ⊥)
inside at n k = ⊎_elim (λ l. inr (omega arith)) (λ m. ⊎_elim (λ l. inl (m, l)) (λ g. inr (omega arith)) (lt_or_ge k (at + n))) (lt_or_ge k at)

-- what was written says the whole list
pub written_same : {old a b : List ℕ} {at : ℕ} {bs : List ℕ} → Written old a at bs → Written old b at bs → a ≡ b
written_same {old} {a} {b} {at} {bs} p q =
    ext_get_or 0 a b (p.len ∙ sym q.len)
    (λ k l. ⊎_elim (λ i. written_at p k i.0 i.1 ∙ sym (written_at q k i.0 i.1)) (λ o. p.rest k o ∙ sym (q.rest k o)) (inside at (length bs) k))

-- byte after byte
written_sets : (bs s : List ℕ) (at : ℕ) → at + length bs ≤ length s → Written s (sets s at bs) at bs
written_sets [] s at l = written_none
written_sets (b ∷ bs) s at l = written_more (written_one s at b (omega arith)) (written_sets bs (set s at b) (suc at) (rw length-set (omega arith))) (omega arith)

-- the general form, and from the start
pub written_is : {old new : List ℕ} {at : ℕ} {bs : List ℕ} → Written old new at bs → at + length bs ≤ length old → new ≡ take at old ++ bs ++ drop (at + length bs) old
written_is {old} {new} {at} {bs} p l = written_same p (written_sets bs old at l) ∙ sets-eq bs old at l

pub is_written : {old new : List ℕ} {at : ℕ} {bs : List ℕ} → at + length bs ≤ length old → new ≡ take at old ++ bs ++ drop (at + length bs) old
    → Written old new at bs
is_written {old} {at} {bs} l e = rw (e ∙ sym (sets-eq bs old at l)) (written_sets bs old at l)

pub written_all : {old new bs : List ℕ} → Written old new 0 bs → length bs ≤ length old → new ≡ bs ++ drop (length bs) old
written_all {old} {new} {bs} p l = rw zero-add at (written_is p (rw zero-add l))

-- reading back what was written
pub written_back : {old new : List ℕ} {at : ℕ} (w v : ℕ) → Written old new at (bytes w v) → v < 256 ^ w → be w new at ≡ v
written_back {new} {at} w v p l =
    be-same w new (bytes w v ++ []) at 0 (λ k h. rw (zero-add, append-nil) (p.got k (rw length-bytes h))) ∙ be-bytes w v [] l

-- a number at another place is as it was
pub written_apart : {old new : List ℕ} {at : ℕ} {bs : List ℕ} → Written old new at bs → (u k : ℕ) → (k < at + length bs → at < k + u → ⊥) → be u new k ≡ be u old k
written_apart {old} {new} p u k h = be-same u new old k k (λ i l. p.rest (k + i) (λ m n. h (omega arith) (omega arith)))

-- the same of a number that was written, by its width alone
pub written_other : {old new : List ℕ} {at : ℕ} (w v : ℕ) → Written old new at (bytes w v) → (u k : ℕ) → (k < at + w → at < k + u → ⊥) → be u new k ≡ be u old k
written_other w v p u k h = written_apart p u k (rw length-bytes h)

pub written-bytes : {old new : List ℕ} {at : ℕ} {bs : List ℕ} → Written old new at bs → Bytes old → Bytes bs → Bytes new
written-bytes {at} {bs} p b c k = ⊎_elim (λ i. rw (written_at p k i.0 i.1) (c (k - at))) (λ o. rw (p.rest k o) (b k)) (inside at (length bs) k)

-- ---- the library's eight bytes of a number

bytes_eight : (v : ℕ) → to_be_bytes w64 v ≡ bytes 8 v
unfolding bytes
bytes_eight v = rw div-one

be_eight : (s : List ℕ) → from_be_bytes w64 s ≡ be 8 s 0
unfolding be
be_eight s = omega arith

-- the last W of them
pub put_last : {old new ts : List ℕ} {at W u v : ℕ} → Written old new at (between (8 - W) 8 ts) → ts ≡ to_be_bytes w64 u → u ≡ v → W ≤ 8
    → Written old new at (bytes W v)
put_last {W} {v} p e o l =
    let f : 8 - W + W ≡ 8 = omega arith in
    let q : bytes 8 v ≡ bytes (8 - W) (v / 256 ^ W) ++ bytes W v = rw f at (bytes_split (8 - W) W v) in
    let n : length (bytes W v) ≤ 8 - (8 - W) = rw length-bytes (omega arith) in
    rw
    (e, o, bytes_eight v, q, drop_at (bytes (8 - W) (v / 256 ^ W)) (bytes W v) (8 - W) (length-bytes (8 - W) (v / 256 ^ W)), take_all (8 - (8 - W)) (bytes W v) n)
    at p

-- W bytes behind zeros
pub read_last : {s es : List ℕ} {at W : ℕ} → W ≤ 8 → at + W ≤ length s → Bytes s → Written (replicate 8 0) es (8 - W) (between at (at + W) s)
    → Read W s at (from_be_bytes w64 es)
read_last {s} {es} {at} {W} l m b p =
    let n : length (between at (at + W) s) ≡ W = rw (length-between s at (at + W) m) (omega arith) in
    let low : be (8 - W) es 0 ≡ 0 = written_apart p (8 - W) 0 (omega arith) ∙ be_zeros (8 - W) 8 0 in
    let high : be W es (8 - W) ≡ be W s at = be-same W es s (8 - W) at (λ k h. p.got k (omega arith) ∙ get_or-between s at (at + W) k 0 (omega arith)) in
    let e : 8 - W + W ≡ 8 = omega arith in
    let q : be 8 es 0 ≡ 256 ^ W * 0 + be W s at = rw (e, low, zero-add, high) at (be_split (8 - W) W es 0) in
    rw (be_eight es) record { is = omega arith; small = omega (arith, be_small W s at b) }
