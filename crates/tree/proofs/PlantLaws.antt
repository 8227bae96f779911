-- Rows of nodes and stretches of ORDER. Both are runs of cells, so those of two parts are those of the one, then those of the other, and
-- words that are kept keep them. Assumes nothing.
use borrow.Author.Rules.{rules}
use mathlib.Core.Path.{◌≡◌, refl, sym, subst, ◌∙◌}
use mathlib.Core.List.{List, ◌∷◌, ◌++◌, map-append}
use Prim.Native.Nat.{ℕ, zero, suc, ◌+◌, ◌*◌, ◌-◌, ◌≤◌, ◌<◌}
use native.Mathlib.Omega.{arith}
use lib.ListN.{length}
use lib.Seq.{take-append_seam, drop_at}
use Rattle.words.specs.Area.{word, run}
use Rattle.words.proofs.AreaLaws.{length_run, run-append, get_d_run}
use Rattle.slate.specs.Columns.{FIRST, SECOND, ORDER}
use Rattle.slate.specs.Slate.{cell, Grid}
use Rattle.paper.proofs.ListLaws.{from-append}
use Rattle.paper.specs.Field.{holes_at}
use Rattle.paper.specs.Record.{nodes_of}
use Rattle.theory.specs.Trees.{Each}
use Rattle.theory.proofs.EachLaws.{each_at}
use Rattle.theory.proofs.Halving.{Good}
use Rattle.field.specs.Boxes.{HolesIn}
use Rattle.tree.specs.Planting.{stretch, rows, StretchOn, Plantable}
use Rattle.tree.proofs.Views.{mapped_same}

-- ---- rows of nodes

-- a node, then the rows of its two parts
pub rows_fork : (w : List ℕ) (k p q : ℕ)
    → rows w k (suc (p + q)) ≡ (cell w FIRST k, cell w SECOND k) ∷ rows w (k + 1) p ++ rows w (k + 1 + p) q
rows_fork w k p q = search (rules, arith, from-append, map-append)

pub rows_same : (new old : List ℕ) (k p : ℕ) → ((c i : ℕ) → c ≤ SECOND → k ≤ i → i < k + p → cell new c i ≡ cell old c i)
    → rows new k p ≡ rows old k p
rows_same new old k p h =
    mapped_same (λ j. (cell new FIRST j, cell new SECOND j)) (λ j. (cell old FIRST j, cell old SECOND j)) k p
    (λ i a b. rw (h FIRST i (omega arith) a b, h SECOND i (omega arith) a b))

-- ---- stretches of ORDER

-- each hole of a stretch is one of the field's
each_run : (P : ℕ → Type 0) (w : List ℕ) (i n : ℕ) → ((k : ℕ) → i ≤ k → k < i + n → P (word w k)) → Each P (run w i n)
unfolding run
each_run P w i zero f = tt
each_run P w i (suc n) f = (f i (omega arith) (omega arith), each_run P w (i + 1) n (λ k a b. f k (omega arith) (omega arith)))

pub each_stretch : {w hs : List ℕ} {d n lo m : ℕ} → StretchOn w hs d n lo m → Each (λ i. i < n) (stretch w lo m)
each_stretch {w} {n} {lo} {m} p =
    each_run (λ i. i < n) w (2_048 * ORDER + lo) m
    (λ k a b.
    let e : 2_048 * ORDER + (lo + (k - (2_048 * ORDER + lo))) ≡ k = omega arith in
    subst (λ j. word w j < n) e (p.each (k - (2_048 * ORDER + lo)) (omega arith)))

-- a stretch that is two lists joined
joined_same : (xs ys one two : List ℕ) → xs ++ ys ≡ one ++ two → length xs ≡ length one → (xs ≡ one) × (ys ≡ two)
joined_same xs ys one two e l = (
  sym (take-append_seam xs ys) ∙ rw (l, e) (take-append_seam one two),
  sym (drop_at xs ys (length xs) refl) ∙ rw e (drop_at one two (length xs) (sym l)),
)

pub stretch_split : (w : List ℕ) (lo m r : ℕ) (one two : List ℕ) → r ≤ m → stretch w lo m ≡ one ++ two → r ≡ length one
    → (stretch w lo r ≡ one) × (stretch w (lo + r) (m - r) ≡ two)
stretch_split w lo m r one two b e l =
    let f : r + (m - r) ≡ m = omega arith in
    let g : 2_048 * ORDER + (lo + r) ≡ 2_048 * ORDER + lo + r = omega arith in
    let h : stretch w lo r ++ stretch w (lo + r) (m - r) ≡ one ++ two =
    rw g (sym (run-append w (2_048 * ORDER + lo) r (m - r)) ∙ rw f e) in
    joined_same (stretch w lo r) (stretch w (lo + r) (m - r)) one two h (length_run w (2_048 * ORDER + lo) r ∙ l)

-- a stretch that holds a good set of the field's holes may be planted
pub plantable : {w hs : List ℕ} {d n lo m k : ℕ} (s : List ℕ) → stretch w lo m ≡ s → Grid w → HolesIn hs d n → 1 ≤ m → lo + m ≤ n
    → k + nodes_of m ≤ 2_048 → Each (λ i. i < n) s → Good (holes_at d hs 0 n) d s → Plantable w hs d n lo m k
plantable {w} {n} {lo} {m} s e grid holes some end rows below good =
    record { on = record { grid = grid; holes = holes; some = some; end = end; each = each }; rows = rows; good = rw e good }
  where
    each : (i : ℕ) → i < m → cell w ORDER (lo + i) < n
    each i b =
        let f : 2_048 * ORDER + (lo + i) ≡ 2_048 * ORDER + lo + i = omega arith in
        rw (f, ← get_d_run w (2_048 * ORDER + lo) m i b) (each_at (λ j. j < n) (stretch w lo m) (rw e below) i 0 (rw length_run b))
