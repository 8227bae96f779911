-- The laws of `specs/Spans.antt`. A step that changes only columns from MARKS on leaves spans, ranks and so the coverings; and what
-- `coverings` counts in the list of pairs is the sum, pair by pair, of what each covers. Assumes nothing.
use Rattle.std.proofs.Common.{◌≡◌, refl, sym, ◌∙◌, Bool, true, false, ◌&&◌, ◌||◌, List, map, ℕ, zero, suc, ◌+◌, ◌*◌, ◌<◌, ◌≤◌, add-zero, zero-add, arith, leb, ltb, add-one}
use Rattle.slate.specs.Columns.{HOLES, FROM, RANK, MARKS}
use Rattle.slate.specs.Slate.{cell, Kept}
use Rattle.slate.proofs.Frames.{kept_cell}
use Rattle.paper.specs.Lists.{count, from}
use Rattle.paper.specs.Field.{list_at}
use Rattle.theory.specs.Trees.{one_if}
use Rattle.theory.proofs.Sums.{sum, sum_same}
use Rattle.cover.specs.Spans.{spans, covers_on, coverings, Ready}
use Rattle.cover.specs.Bits.{between}
use Rattle.cover.specs.Rows.{pair_at, meeting, meetings, SpansOf, PairSpans}

-- ---- the sum, pair by pair

sum_first : (f : ℕ → ℕ) (m : ℕ) → sum f (suc m) ≡ f 0 + sum (λ i. f (suc i)) m
sum_first f zero = omega arith
sum_first f (suc m) = omega (arith, sum_first f m)

one_counted : (t : Bool) (c : ℕ) → elim t [ true ↦ suc c | false ↦ c ] ≡ one_if t + c
one_counted true c = omega arith
one_counted false c = omega arith

counted : {A : Type 0} (p : A → Bool) (f : ℕ → A) (a n : ℕ) → count p (map f (from a n)) ≡ sum (λ k. one_if (p (f (a + k)))) n
counted p f a zero = refl
counted p f a (suc n) =
    let g : ℕ → ℕ = λ k. one_if (p (f (a + k))) in
    let first : g 0 ≡ one_if (p (f a)) = rw add-zero in
    let others = sum_same (λ k. one_if (p (f (suc a + k)))) (λ k. g (suc k)) n (λ k l. let e : suc a + k ≡ a + suc k = omega arith in rw e) in
    omega (arith, one_counted (p (f a)) (count p (map f (from (suc a) n))), counted p f (suc a) n, others, sum_first g n, first)

pub coverings_are : (w ps : List ℕ) (m i j : ℕ) → coverings w ps m (i, j) ≡ meetings w (cell w RANK i) ps m (cell w RANK j)
unfolding coverings covers_on meetings meeting list_at
coverings_are w ps m i j = simp zero-add (simp zero-add at (counted (covers_on w (i, j)) (pair_at ps) 0 m))

-- ---- one of the pairs

pub one_pair : {w ps : List ℕ} {n m k : ℕ} → Ready w ps n m → k < m → PairSpans w ps k
one_pair {k} g l =
    record {
      grid = g.given.grid;
      here = omega arith;
      left = omega (arith, g.left k l);
      right = omega (arith, g.right k l);
      apart = g.apart k l;
    }

-- one of two ways, not both
one_way : (a b c d : Bool) → (a ≡ true → d ≡ true → ⊥) → one_if (a && b || c && d) ≡ one_if a * one_if b + one_if d * one_if c
one_way true b c true h = absurd (h refl refl)
one_way true true c false h = omega arith
one_way true false true false h = omega arith
one_way true false false false h = omega arith
one_way false b true true h = omega arith
one_way false b true false h = omega arith
one_way false b false d h = omega arith

-- no rank is in both of its spans, so that of ranks x and r it covers the holes in one way at most
module _ {w ps : List ℕ} {k a b d e : ℕ} (g : PairSpans w ps k) (s : SpansOf w ps k a b d e) where
  pub spans_apart : (r : ℕ) → (leb a r && ltb r b) ≡ true → (leb d r && ltb r e) ≡ true → ⊥
  unfolding spans
  spans_apart r y z = g.apart r (rw (← s.first.end, ← s.first.from) y) (rw (← s.second.end, ← s.second.from) z)

  pub meeting-is : (x r : ℕ) → meeting w x (pair_at ps k) r ≡ between a b x * between d e r + between d e x * between a b r
  unfolding meeting spans between
  meeting-is x r =
      rw (← s.first.end, ← s.first.from, ← s.second.end, ← s.second.from)
      (one_way (leb a x && ltb x b) (leb d r && ltb r e) (leb a r && ltb r b) (leb d x && ltb x e) (spans_apart x))

-- ---- a step that changes columns from MARKS on

module _ {old new : List ℕ} {hi : ℕ} (kept : Kept old new (2_048 * MARKS) hi) where
  pub spans_kept : (k r : ℕ) → k < 2_048 → spans new k r ≡ spans old k r
  unfolding spans
  spans_kept k r l = rw (kept_cell kept FROM k (omega arith), kept_cell kept HOLES k (omega arith))

  module _ {ps : List ℕ} {n m : ℕ} (g : Ready old ps n m) where
    left-kept : (k r : ℕ) → k < m → spans new (pair_at ps k).0 r ≡ spans old (pair_at ps k).0 r
    left-kept k r l = spans_kept _ r (omega (arith, g.left k l))

    right_kept : (k r : ℕ) → k < m → spans new (pair_at ps k).1 r ≡ spans old (pair_at ps k).1 r
    right_kept k r l = spans_kept _ r (omega (arith, g.right k l))

    rank-kept : (h : ℕ) → h < n → cell new RANK h ≡ cell old RANK h
    rank-kept h l = kept_cell kept RANK h (omega arith)

    pub ready-kept : Ready new ps n m
    ready-kept =
        record {
          given = record { grid = omega arith; some = g.given.some; few = g.given.few; all = g.given.all; most = g.given.most };
          within = λ k l. omega (arith, g.within k l, kept_cell kept FROM k (omega arith), kept_cell kept HOLES k (omega arith));
          ranks = λ h l. rw (rank-kept h l) (g.ranks h l);
          places = λ i j a b e. g.places i j a b (sym (rank-kept i a) ∙ e ∙ rank-kept j b);
          left = g.left;
          right = g.right;
          apart = λ k l r a b. g.apart k l r (sym (left-kept k r l) ∙ a) (sym (right_kept k r l) ∙ b);
        }

    meeting-kept : (k x r : ℕ) → k < m → meeting new x (pair_at ps k) r ≡ meeting old x (pair_at ps k) r
    unfolding meeting
    meeting-kept k x r l = rw (left-kept k x l, right_kept k x l, left-kept k r l, right_kept k r l)

    pub meetings-kept : (k x r : ℕ) → k ≤ m → meetings new x ps k r ≡ meetings old x ps k r
    unfolding meetings
    meetings-kept k x r l =
        sum_same (λ j. meeting new x (pair_at ps j) r) (λ j. meeting old x (pair_at ps j) r) k
        (λ j b. meeting-kept j x r (omega arith))

    -- one more pair, what it covers read after the step
    pub meetings-more : (k x r : ℕ) → k < m → meetings old x ps k r + meeting new x (pair_at ps k) r ≡ meetings old x ps (k + 1) r
    unfolding meetings
    meetings-more k x r l = rw (add-one, meeting-kept k x r l)

    pub coverings-kept : (i j : ℕ) → i < n → j < n → coverings new ps m (i, j) ≡ coverings old ps m (i, j)
    coverings-kept i j a b =
        rw (coverings_are new, coverings_are old, rank-kept i a, rank-kept j b) (meetings-kept m (cell old RANK i) (cell old RANK j) (omega arith))
