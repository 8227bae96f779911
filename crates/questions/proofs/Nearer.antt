-- The nearer of two holes and those of a pair; and the nearest of the pairs so far, which a turn of the walk keeps. Assumes nothing.
use Rattle.std.proofs.Common.{◌≡◌, refl, List, ℕ, ◌+◌, ◌*◌, ◌<◌, inl, ⊎_elim, arith, below_more}
use Rattle.paper.specs.Record.{two_numbers_at}
use Rattle.field.specs.Boxes.{low_end}
use Rattle.field.specs.Sides.{gap_on, Squared}
use Rattle.field.proofs.Axis.{one_axis}
use Rattle.questions.specs.declared.Near.{Near}
use Rattle.questions.specs.Nearest.{AsNear, PairNearer, NearestPair}

as_near_trans : {a b c : Near} → AsNear a b → AsNear b c → AsNear a c
as_near_trans h k = grind arith

-- one axis alone says no more than all
pub axis-far : {w : List ℕ} {z y : ℕ × ℕ} {b : Near} {r s : ℕ} → z ≡ y → r ≡ gap_on low_end w z.0 z.1 0 → Squared r s → b.far < s → PairNearer w y b b
axis-far {w} {z} {r = r} {s = s} x e h l =
    let o = one_axis low_end w z.0 z.1 0 2 r s e h (omega arith) in
    rw (← x) (record { kept = grind arith; least = λ m. grind arith; small = λ m. omega (arith, h.small); which = inl refl })

-- the walk
pub pair_more : {w ps : List ℕ} {k : ℕ} {r t : Near} → NearestPair w ps k r → PairNearer w (two_numbers_at ps (4 * k)) r t → NearestPair w ps (k + 1) t
pair_more {k = k} g h =
    record {
      least = below_more _ k (λ x l o. as_near_trans h.kept (g.least x l o)) h.least;
      small = below_more _ k (λ x l o. omega (arith, g.small x l o, h.kept.far)) h.small;
      one = λ l.
          ⊎_elim
          (λ e.
          let o = g.one (rw e at l) in
          record { which = o.which; listed = omega (arith, o.listed); is = rw e o.is })
          (λ i. record { which = k; listed = omega arith; is = i })
          h.which;
    }
