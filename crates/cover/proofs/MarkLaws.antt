-- The laws of `specs/Marks.antt`. A row that is given up says whatever is wanted, and one that a step does not touch says what it said; so marks add up
-- step by step, rank by rank. Assumes nothing.
use Rattle.std.proofs.Common.{◌≡◌, refl, sym, ◌∙◌, List, ℕ, ◌+◌, ◌*◌, ◌/◌, ◌<◌, ◌≤◌, add_assoc, arith, inl, inr}
use Rattle.std.proofs.lemmas.Bool.{cases_eq}
use Rattle.words.specs.Area.{word}
use Rattle.slate.specs.Columns.{MARKS, SKIP}
use Rattle.slate.specs.Slate.{cell, Set, Kept}
use Rattle.slate.proofs.Frames.{set-cell, kept_none, kept_wider, kept_both}
use Rattle.cover.specs.Marks.{marked, row_at, Block, Skips, Says, Marked, RowsMarked}
use Rattle.cover.proofs.BitLaws.{inside, between_in, between_more}

-- ---- one row

-- it is given up
pub says_any : {w : List ℕ} {start x : ℕ} {f : ℕ → ℕ} → 0 < cell w SKIP x → Says w start x f
says_any l = record { is = λ z. absurd (omega arith) }

-- neither its words nor its SKIP have changed
pub says_kept : {old new : List ℕ} {start x : ℕ} {f g : ℕ → ℕ} → cell new SKIP x ≡ cell old SKIP x
    → ((r : ℕ) → r < 1_024 → word new (row_at start x + r / 16) ≡ word old (row_at start x + r / 16)) → ((r : ℕ) → f r ≡ g r)
    → Says old start x f → Says new start x g
unfolding marked
says_kept a b e s = record { is = λ z r l. rw (b r l) (s.is (sym a ∙ z) r l ∙ e r) }

-- ---- SKIP

pub skips_kept : {old new : List ℕ} {start end : ℕ} → ((i : ℕ) → i < end → cell new SKIP i ≡ cell old SKIP i) → Skips old start end
    → Skips new start end
skips_kept h s = record { gone = λ x i a b c d. rw (h i d) (s.gone x i a b (omega (arith, h x (omega arith))) d) }

-- SKIP of rank lo is set to v, where the v - 1 ranks after it are given up
module _ {old new : List ℕ} {v : ℕ} (lo : ℕ) (t : Set old new SKIP lo v) (p : 0 < v) where
  pub still : (i : ℕ) → 0 < cell old SKIP i → 0 < cell new SKIP i
  still i l =
      elim (cases_eq i lo) [ inl q ↦ rw q (omega (arith, t.here)) | inr q ↦ omega (arith, set-cell t SKIP i (omega arith)) ]

  pub skips_set : {start end : ℕ} → ((i : ℕ) → lo < i → i < lo + v → i < end → 0 < cell old SKIP i) → Skips old start end → Skips new start end
  skips_set h s =
      record {
        gone = λ x i a b c d.
            elim (cases_eq i lo) [
              | inl q ↦ rw q (omega (arith, t.here))
              | inr q ↦
                  still i
                  (elim (cases_eq x lo) [
                    | inl u ↦ h i (omega arith) (let z : cell new SKIP x ≡ v = rw u t.here in omega arith) d
                    | inr u ↦ s.gone x i a b (omega (arith, set-cell t SKIP x (omega arith))) d
                  ])
            ];
      }

-- ---- the rows of a block

module _ {start end : ℕ} where
  pub marked-none : {w : List ℕ} {g : ℕ → ℕ → ℕ} → ((x r : ℕ) → start ≤ x → x < end → g x r ≡ 0) → Marked start end g w w
  marked-none h =
      record {
        kept = kept_none;
        skips = λ s. s;
        rows = λ x a b f s. says_kept refl (λ r l. refl) (λ r. omega (arith, h x r a b)) s;
      }

  pub marked_as : {a b : List ℕ} {f g : ℕ → ℕ → ℕ} → ((x r : ℕ) → start ≤ x → x < end → f x r ≡ g x r) → Marked start end f a b
      → Marked start end g a b
  marked_as h d =
      record {
        kept = d.kept;
        skips = d.skips;
        rows = λ x a b f s. says_kept refl (λ r l. refl) (λ r. omega (arith, h x r a b)) (d.rows x a b f s);
      }

  pub marked_more : {a b c : List ℕ} {f g : ℕ → ℕ → ℕ} → Marked start end f a b → Marked start end g b c
      → Marked start end (λ x r. f x r + g x r) a c
  marked_more {f} {g} p q =
      record {
        kept = kept_both p.kept q.kept;
        skips = λ s. q.skips (p.skips s);
        rows = λ x a b e s.
            says_kept refl (λ r l. refl) (λ r. add_assoc (e r) (f x r) (g x r)) (q.rows x a b (λ r. e r + f x r) (p.rows x a b e s));
      }

  pub block_kept : {old new : List ℕ} {f : ℕ → ℕ → ℕ} → Block old start end → Marked start end f old new → Block new start end
  block_kept b d = record { grid = omega arith; order = b.order; rows = b.rows; few = b.few }

-- ---- ranks one after the other

-- the rows of ranks lo up to hi say g more, and no other row is changed
pub rows_marked : {old new : List ℕ} {start lo hi : ℕ} {g : ℕ → ℕ} → Kept old new (2_048 * MARKS) (2_048 * SKIP + hi)
    → ((end : ℕ) → start ≤ lo → Skips old start end → Skips new start end)
    → ((end i : ℕ) → start ≤ lo → Skips old start end → lo ≤ i → i < hi → i < end → (f : ℕ → ℕ) → Says old start i f → Says new start i (λ r. f r + g r))
    → ((i : ℕ) → (lo ≤ i → i < hi → ⊥)
    → (cell new SKIP i ≡ cell old SKIP i)
    × (start ≤ i → i < start + 256 → (r : ℕ) → r < 1_024 → word new (row_at start i + r / 16) ≡ word old (row_at start i + r / 16)))
    → RowsMarked start lo hi g old new
rows_marked {lo} {hi} k s h o =
    record {
      len = k.len;
      block = λ end b t l m. record {
        kept = kept_wider k (omega arith) (omega arith);
        skips = s end l;
        rows = λ i c d f u.
            inside lo hi i
            (λ p q. let z = between_in lo hi i p q in says_kept refl (λ r n. refl) (λ r. rw z (omega arith)) (h end i l t p q d f u))
            (λ p z. says_kept (o i p).0 ((o i p).1 c (omega arith)) (λ r. rw z (omega arith)) u);
      };
    }

pub rows_more : {a b c : List ℕ} {start lo mid hi : ℕ} {g : ℕ → ℕ} → RowsMarked start lo mid g a b → RowsMarked start mid hi g b c → lo ≤ mid
    → mid ≤ hi → RowsMarked start lo hi g a c
rows_more {lo} {mid} {hi} {g} p q l m =
    record {
      len = q.len ∙ p.len;
      block = λ end k s a b.
          let d = p.block end k s a (omega arith) in
          marked_as (λ x r e f. rw (← between_more lo mid hi x l m) (omega arith))
          (marked_more d (q.block end (block_kept k d) (d.skips s) (omega arith) b));
    }
