-- Words of an area and runs of them: the laws of `specs/Area.antt`. Word k is the bytes 2 * k and 2 * k + 1, so two words never overlap.
-- That a word lies outside a run is a function into ⊥, which `omega arith` proves at a caller. Assumes nothing.
use mathlib.Core.Path.{◌≡◌, refl, ap, ap₂, sym, ◌∙◌}
use mathlib.Core.List.{List, [], ◌∷◌, ◌++◌}
use Prim.Native.Nat.{ℕ, zero, suc, ◌+◌, ◌*◌, ◌/◌, ◌%◌, ◌<◌, ◌≤◌}
use native.Mathlib.Nat.{add-zero, zero-add}
use native.Mathlib.Omega.{arith}
use lib.ListN.{length, get_or, replicate}
use lib.Seq.{ext_get_or}
use Rattle.words.specs.Words.{Bytes, Written}
use Rattle.words.specs.Area.{word, run, Saved}
use Rattle.words.proofs.Laws.{zeros}

-- ---- a word

pub word_small : (w : List ℕ) (i : ℕ) → Bytes w → word w i < 65_536
unfolding word
word_small w i b = omega (arith, b (2 * i), b (2 * i + 1))

pub word_zeros : (l i : ℕ) → word (replicate l 0) i ≡ zero
unfolding word
word_zeros l i = rw (zeros l (2 * i), zeros l (2 * i + 1))

-- the two bytes of v at an even place are a word
pub saved : {old new : List ℕ} {i v : ℕ} → Written old new (2 * i) (v % 256 ∷ v / 256 ∷ []) → Saved old new i v
unfolding word
saved {new} {i} {v} p =
    let low : get_or new (2 * i) 0 ≡ v % 256 = rw add-zero at (p.got 0 (omega arith)) in
    record {
      len = p.len;
      here = omega (arith, low, p.got 1 (omega arith));
      rest = λ k h. rw (p.rest (2 * k) (λ a b. h (omega arith)), p.rest (2 * k + 1) (λ a b. h (omega arith)));
    }

-- so are the library's two bytes of a v that is below 65,536
pub saved_two : {old new bs : List ℕ} {i v : ℕ} → Written old new (2 * i) bs → bs ≡ v % 256 ∷ v / 256 % 256 ∷ [] → v < 65_536 → Saved old new i v
saved_two {v} p e l = let f : v / 256 % 256 ≡ v / 256 = omega arith in saved (rw (e, f) at p)

-- two areas of bytes, of one even length, with the same words are the same
pub same_words : (a b : List ℕ) (n : ℕ) → Bytes a → Bytes b → length a ≡ 2 * n → length b ≡ 2 * n → ((k : ℕ) → k < n → word a k ≡ word b k) → a ≡ b
unfolding word
same_words a b n ba bb la lb h = ext_get_or 0 a b (la ∙ sym lb) (λ i l. at i (i / 2) (i % 2) (omega arith) (omega arith) (omega arith))
  where
    at : (i k r : ℕ) → i ≡ 2 * k + r → r < 2 → k < n → get_or a i 0 ≡ get_or b i 0
    at i k zero e f g =
        let z : i ≡ 2 * k = omega arith in
        rw z (omega (arith, h k g, ba (2 * k), bb (2 * k), ba (2 * k + 1), bb (2 * k + 1)))
    at i k (suc zero) e f g = rw e (omega (arith, h k g, ba (2 * k), bb (2 * k), ba (2 * k + 1), bb (2 * k + 1)))
    at i k (suc (suc r)) e f g = absurd (omega arith)

-- ---- a run of words

pub length_run : (w : List ℕ) (i n : ℕ) → length (run w i n) ≡ n
unfolding run
length_run w i zero = refl
length_run w i (suc n) = ap suc (length_run w (i + 1) n)

-- words that agree make runs that agree
pub run-same : (new old : List ℕ) (i n : ℕ) → ((k : ℕ) → i ≤ k → k < i + n → word new k ≡ word old k) → run new i n ≡ run old i n
unfolding run
run-same new old i zero h = refl
run-same new old i (suc n) h = ap₂ ◌∷◌ (h i (omega arith) (omega arith)) (run-same new old (i + 1) n (λ k a b. h k (omega arith) (omega arith)))

-- a run in two parts
pub run-append : (w : List ℕ) (i a b : ℕ) → run w i (a + b) ≡ run w i a ++ run w (i + a) b
unfolding run
run-append w i zero b = rw (zero-add, add-zero)
run-append w i (suc a) b =
    let e : suc a + b ≡ suc (a + b) = omega arith in
    let f : i + suc a ≡ i + 1 + a = omega arith in
    rw (e, f, run-append w (i + 1) a b)

-- one word more at the end
pub run_more : (w : List ℕ) (i n : ℕ) → run w i (n + 1) ≡ run w i n ++ (word w (i + n) ∷ [])
unfolding run
run_more w i n = run-append w i n 1

pub get_d_run : (w : List ℕ) (i n k : ℕ) → k < n → get_or (run w i n) k 0 ≡ word w (i + k)
unfolding run
get_d_run w i zero k h = absurd (omega arith)
get_d_run w i (suc n) zero h = rw add-zero
get_d_run w i (suc n) (suc k) h =
    let f : i + suc k ≡ i + 1 + k = omega arith in
    rw f (get_d_run w (i + 1) n k (omega arith))

-- a save outside a run leaves it
pub run_save_out : {old new : List ℕ} {j v : ℕ} → Saved old new j v → (i n : ℕ) → (i ≤ j → j < i + n → ⊥) → run new i n ≡ run old i n
run_save_out {old} {new} s i n h = run-same new old i n (λ k a b. s.rest k (λ e. h (omega arith) (omega arith)))

-- a save at its end makes it one longer
pub run_save_end : {old new : List ℕ} {v : ℕ} (i n : ℕ) → Saved old new (i + n) v → run new i (n + 1) ≡ run old i n ++ (v ∷ [])
run_save_end {old} {new} i n s = rw (run_more new i n, run_save_out s i n (omega arith), s.here)
