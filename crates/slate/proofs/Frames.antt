-- What a set, a wipe and a step leave as it was. A cell is at the linear address 2,048 * c + k, so that two cells are apart is arithmetic:
-- each side condition is a function into ⊥ or an inequality, which `omega arith` proves at a caller. Assumes nothing.
use mathlib.Core.Path.{◌≡◌, refl, ◌∙◌}
use mathlib.Core.List.{List, [], ◌∷◌, ◌++◌}
use Prim.Native.Nat.{ℕ, zero, suc, ◌+◌, ◌*◌, ◌<◌, ◌≤◌}
use native.Mathlib.Omega.{arith}
use lib.ListN.{get_or, replicate, length-replicate}
use Rattle.words.specs.Words.{Written}
use Rattle.words.specs.Area.{word, Saved}
use Rattle.words.proofs.Laws.{zeros}
use Rattle.words.proofs.AreaLaws.{word_zeros, run-same, run_save_out, run_save_end}
use Rattle.slate.specs.Slate.{cell, column, number, cells, Set, Kept, WordsCleared}

-- ---- a set, given by its address i, which at `Set old new c k v` is 2,048 * c + k

-- every other cell is as it was
pub set-cell : {old new : List ℕ} {i v : ℕ} → Saved old new i v → (d j : ℕ) → (2_048 * d + j ≡ i → ⊥) → cell new d j ≡ cell old d j
set-cell s d j h = s.rest (2_048 * d + j) h

-- the first n cells of a column with the set elsewhere
pub set-column : {old new : List ℕ} {i v : ℕ} → Saved old new i v → (d n : ℕ) → (2_048 * d ≤ i → i < 2_048 * d + n → ⊥) → column new d n ≡ column old d n
set-column s d n h = run_save_out s (2_048 * d) n h

-- with the set at their end they are one more
pub set_more : {old new : List ℕ} {v : ℕ} (c n : ℕ) → Set old new c n v → column new c (n + 1) ≡ column old c n ++ (v ∷ [])
set_more c n s = run_save_end (2_048 * c) n s

-- the same by column: a cell, and a column, of another column than the set's
pub other_cell : {old new : List ℕ} {v : ℕ} (c k : ℕ) → Set old new c k v → (d j : ℕ) → (d ≡ c → ⊥) → j < 2_048 → k < 2_048 → cell new d j ≡ cell old d j
other_cell c k s d j h a b = set-cell s d j (λ e. h (omega arith))

pub other_column : {old new : List ℕ} {v : ℕ} (c k : ℕ) → Set old new c k v → (d n : ℕ) → (d ≡ c → ⊥) → n ≤ 2_048 → k < 2_048 → column new d n ≡ column old d n
other_column c k s d n h a b = set-column s d n (λ e f. h (omega arith))

-- ---- a wipe

pub wiped_cell : {w : List ℕ} (l : ℕ) → w ≡ replicate l 0 → (c k : ℕ) → cell w c k ≡ zero
wiped_cell l e c k = rw e (word_zeros l (2_048 * c + k))

-- of n words alone
pub cleared : {old new : List ℕ} {i n : ℕ} → Written old new (2 * i) (replicate (2 * n) 0) → WordsCleared old new i n
unfolding word
cleared {old} {new} {i} {n} p =
    let at : (k : ℕ) → k < 2 * n → get_or new (2 * i + k) 0 ≡ 0 = λ k h. p.got k (rw length-replicate h) ∙ zeros (2 * n) k in
    let out : (k : ℕ) → (2 * i ≤ k → k < 2 * i + 2 * n → ⊥) → get_or new k 0 ≡ get_or old k 0 = λ k h. p.rest k (rw length-replicate h) in
    record {
      kept = record {
        len = p.len;
        rest = λ k h. rw (out (2 * k) (λ a b. h (omega arith) (omega arith)), out (2 * k + 1) (λ a b. h (omega arith) (omega arith)));
      };
      zero = λ k h.
          let e : 2 * (i + k) ≡ 2 * i + 2 * k = omega arith in
          let f : 2 * (i + k) + 1 ≡ 2 * i + (2 * k + 1) = omega arith in
          rw (f, e, at (2 * k) (omega arith), at (2 * k + 1) (omega arith));
    }

-- ---- a step that changes words from lo up to hi only

pub kept_none : {w : List ℕ} {lo hi : ℕ} → Kept w w lo hi
kept_none = record { len = refl; rest = λ k h. refl }

pub kept_set : {old new : List ℕ} {i v lo hi : ℕ} → Saved old new i v → lo ≤ i → i < hi → Kept old new lo hi
kept_set s a b = record { len = s.len; rest = λ k h. s.rest k (λ e. h (omega arith) (omega arith)) }

pub kept_wider : {old new : List ℕ} {lo hi m n : ℕ} → Kept old new lo hi → m ≤ lo → hi ≤ n → Kept old new m n
kept_wider p a b = record { len = p.len; rest = λ k h. p.rest k (λ x y. h (omega arith) (omega arith)) }

-- one after the other, within the same bounds, and within bounds of both
pub kept_both : {a b c : List ℕ} {lo hi : ℕ} → Kept a b lo hi → Kept b c lo hi → Kept a c lo hi
kept_both p q = record { len = q.len ∙ p.len; rest = λ k h. q.rest k h ∙ p.rest k h }

pub kept_more : {a b c : List ℕ} {lo hi lo' hi' m n : ℕ} → Kept a b lo hi → Kept b c lo' hi' → m ≤ lo → hi ≤ n → m ≤ lo' → hi' ≤ n → Kept a c m n
kept_more p q x y x' y' = kept_both (kept_wider p x y) (kept_wider q x' y')

pub kept_cell : {old new : List ℕ} {lo hi : ℕ} → Kept old new lo hi → (c k : ℕ) → (lo ≤ 2_048 * c + k → 2_048 * c + k < hi → ⊥) → cell new c k ≡ cell old c k
kept_cell p c k h = p.rest (2_048 * c + k) h

pub kept_column : {old new : List ℕ} {lo hi : ℕ} → Kept old new lo hi → (c n : ℕ) → (lo < 2_048 * c + n → 2_048 * c < hi → ⊥) → column new c n ≡ column old c n
kept_column {old} {new} p c n h = run-same new old (2_048 * c) n (λ k a b. p.rest k (λ x y. h (omega arith) (omega arith)))

pub kept_number : {old new : List ℕ} {lo hi : ℕ} → Kept old new lo hi → (n i : ℕ) → (lo < i + n → i < hi → ⊥) → number n new i ≡ number n old i
kept_number p zero i h = refl
kept_number p (suc n) i h =
    rw (p.rest i (λ x y. h (omega arith) (omega arith)), kept_number p n (i + 1) (λ x y. h (omega arith) (omega arith)))

pub kept_cells : {old new : List ℕ} {lo hi : ℕ} → Kept old new lo hi → (n c k : ℕ) → (lo < 2_048 * c + n * k + n → 2_048 * c + n * k < hi → ⊥)
    → cells n new c k ≡ cells n old c k
kept_cells p n c k h = kept_number p n (2_048 * c + n * k) h

-- ---- an example: two sets in columns 0 and 5, and any cell of column 6

six : {a b c : List ℕ} {i j x y : ℕ} → Set a b 0 i x → Set b c 5 j y → i < 2_048 → j < 2_048 → (k : ℕ) → k < 2_048 → cell c 6 k ≡ cell a 6 k
six p q l m k n = set-cell q 6 k (omega arith) ∙ set-cell p 6 k (omega arith)
