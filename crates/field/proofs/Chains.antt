-- Chains of holes by bucket. Holes at one place have one bucket, so a lower-numbered hole that stands where hole i does is on the chain of its
-- bucket: as long as a walk along that chain has not met it, it is ahead. Chains go down, so a walk ends, and a push leaves those that there
-- were. Assumes nothing.
use mathlib.Core.Path.{◌≡◌, refl, sym, ◌∙◌}
use mathlib.Core.Bool.{Bool, true, false}
use mathlib.Core.List.{List, [], ◌∷◌, ◌++◌}
use Prim.Native.Nat.{ℕ, ◌+◌, ◌*◌, ◌-◌, ◌%◌, ◌<◌, ◌≤◌}
use native.Mathlib.Omega.{arith}
use lib.Dec.{eqb}
use borrow.Author.Count.{below_more}
use borrow.Author.Tests.{eqb-true, eqb-false}
use Rattle.words.specs.Words.{Read}
use Rattle.slate.specs.Columns.{MARKS, SCRATCH}
use Rattle.slate.specs.Slate.{cell, Grid, Held, Cleared}
use Rattle.paper.specs.Field.{Hole, hole_at}
use Rattle.paper.proofs.ListLaws.{cases, both, same_is}
use Rattle.field.specs.Boxes.{HolesIn, HoleIn}
use Rattle.field.specs.Buckets.{BUCKETS, mixed, Bucketed, On, here, behind, Chained, Pushed}
use Rattle.field.proofs.Axis.{hole-none, hole_more}
use Rattle.field.proofs.Places.{hole_lower, again, at_one, repeat, no_repeat}

-- ---- a hole's bucket, axis by axis

mixed_end : (b : ℕ) (h : Hole) (c : ℕ) → mixed b (h ++ (c ∷ [])) ≡ (37 * mixed b h + c) % BUCKETS
unfolding mixed
mixed_end b [] c = refl
mixed_end b (x ∷ h) c = mixed_end ((37 * b + x) % BUCKETS) h c

pub bucket_none : (s : List ℕ) (o : ℕ) → Bucketed s 0 o 0
unfolding mixed
bucket_none s o = record { is = rw (hole-none s o); small = omega arith }

pub bucket_more : {s : List ℕ} {x o b c : ℕ} → Bucketed s x o b → Read 2 s (o + 2 * x) c → Bucketed s (x + 1) o ((37 * b + c) % BUCKETS)
bucket_more {s} {x} {o} p r = record { is = rw (hole_more x s o, mixed_end, ← r.is, ← p.is); small = omega arith }

-- ---- a walk along a chain

on_none : {w : List ℕ} {c j : ℕ} → On w c j → c ≤ 0 → ⊥
on_none (here e) l = omega arith
on_none (behind k e o) l = omega arith

on_next : {w : List ℕ} {c j k : ℕ} → On w c j → c ≡ k + 1 → (j ≡ k → ⊥) → On w (cell w SCRATCH k) j
on_next (here e) f h = absurd (h (omega arith))
on_next {k} (behind m e o) f h = let g : m ≡ k = omega arith in rw g at o

-- the walk is at c, and the holes below i that stand where hole i does are ahead
pub record Ahead (d : ℕ) (s w : List ℕ) (i c : ℕ) : Type 0 where
  pub low : c ≤ i
  pub ahead : (j : ℕ) → j < i → at_one d s j i ≡ true → On w c j

module _ {s w : List ℕ} {d i : ℕ} (h : Chained s d w i) where
  pub ahead_start : {b c : ℕ} → Bucketed s d (2 * d * i) b → Held w MARKS b c → Ahead d s w i c
  ahead_start {b} q l =
      record {
        low = rw l.is (h.head b q.small);
        ahead = λ j m e.
            let p = (same_is (hole_at d s (2 * d * j)) (hole_at d s (2 * d * i))).0 e in
            rw l.is (h.on j m b (record { is = rw p q.is; small = q.small }));
      }

  module _ {c : ℕ} (a : Ahead d s w i c) (l : 0 < c) where
    pub hole_ahead : HoleIn s d i → HoleIn s d (c - 1)
    hole_ahead p = hole_lower p (omega (arith, a.low))

    pub met : (t : Bool) → t ≡ at_one d s (c - 1) i → t ≡ true → true ≡ again d s i
    met t e f = repeat d s i (c - 1) (omega (arith, a.low)) (sym e ∙ f)

    pub ahead_lower : {u : ℕ} → Held w SCRATCH (c - 1) u → u < c
    ahead_lower v = omega (arith, v.is, h.next (c - 1) (omega (arith, a.low)))

    pub ahead_more : {u : ℕ} (t : Bool) → t ≡ at_one d s (c - 1) i → t ≡ false → Held w SCRATCH (c - 1) u → Ahead d s w i u
    ahead_more t e f v =
        record {
          low = omega (arith, ahead_lower v, a.low);
          ahead = λ j m g. rw v.is (on_next (a.ahead j m g) (omega arith) (λ n. both (rw n at g) (sym e ∙ f)));
        }

  pub not_met : {c : ℕ} → Ahead d s w i c → c ≤ 0 → false ≡ again d s i
  not_met a l = no_repeat d s i (λ j m e. on_none (a.ahead j m e) l)

-- ---- one more hole

pub chained_none : {s old new : List ℕ} {d : ℕ} → Grid old → Cleared old new MARKS BUCKETS → Chained s d new 0
chained_none g z =
    record {
      grid = omega (arith, z.kept.len);
      head = λ b l. omega (arith, z.zero b l);
      next = λ k l. absurd (omega arith);
      on = λ j l. absurd (omega arith);
    }

module _ {s old new : List ℕ} {d n i b : ℕ} (f : HolesIn s d n) (l : i < n) (h : Chained s d old i) (q : Bucketed s d (2 * d * i) b) (p : Pushed old new i b) where
  head_left : (k : ℕ) → k < BUCKETS → (k ≡ b → ⊥) → cell new MARKS k ≡ cell old MARKS k
  head_left k m u = p.rest (2_048 * MARKS + k) (λ e. u (omega arith)) (omega arith)

  next_left : (k : ℕ) → k < i → cell new SCRATCH k ≡ cell old SCRATCH k
  next_left k m = p.rest (2_048 * SCRATCH + k) (omega (arith, q.small)) (omega arith)

  -- the chains that there were
  on_left : {c j : ℕ} → c ≤ i → On old c j → On new c j
  on_left m (here e) = here e
  on_left {j} m (behind k e o) = behind {j = j} k e (rw (next_left k (omega arith)) (on_left (omega (arith, h.next k (omega arith))) o))

  head_more : (k : ℕ) → k < BUCKETS → cell new MARKS k ≤ i + 1
  head_more k m =
      cases (eqb k b)
      (λ e. rw (eqb-true k b e) (omega (arith, p.head)))
      (λ e. omega (arith, head_left k m (eqb-false k b e), h.head k m))

  on_more : (j : ℕ) → j < i → (k : ℕ) → Bucketed s d (2 * d * j) k → On new (cell new MARKS k) j
  on_more j m k r =
      cases (eqb k b)
      (λ e.
      let g : k ≡ b = eqb-true k b e in
      let t : On old (cell old MARKS b) j = rw g at (h.on j m k r) in
      rw (g, p.head) (behind {j = j} i refl (rw p.next (on_left (h.head b q.small) t))))
      (λ e. rw (head_left k r.small (eqb-false k b e)) (on_left (h.head k r.small) (h.on j m k r)))

  pub chained_more : Chained s d new (i + 1)
  chained_more =
      record {
        grid = omega (arith, h.grid, p.len);
        head = head_more;
        next = below_more _ i
            (λ k m. rw (next_left k m) (h.next k m))
            (rw p.next (h.head b q.small));
        on = below_more _ i on_more (λ k r. let g : k ≡ b = r.is ∙ sym q.is in rw (g, p.head) (here refl));
      }
