use Rattle.std.proofs.Common.{◌≡◌, Bool, true, false, not, List, ℕ, ◌≤◌, ◌<◌, ◌+◌, ◌-◌, ◌*◌, ◌/◌, ◌%◌, min, max, arith, rules, inl, inr}
use Rattle.std.proofs.lemmas.Bool.{cases_eq}
use Rattle.std.specs.Int.{div_ceil}
use borrow.Author.Tests.{not-false}
use Rattle.slate.specs.Slate.{Kept}
use Rattle.slate.proofs.Frames.{kept_none, kept_wider, kept_both}
use Rattle.cover.specs.Bits.{between}
use Rattle.cover.specs.Marks.{marked, BitsSet, RunIn, RunSet}
use Rattle.cover.proofs.BitLaws.{between_none, between-same, between_more}
use Rattle.cover.proofs.set_run.Goals as goal

start : {w : List ℕ} {at lo c : ℕ} → c ≤ lo → RunSet at lo c w w true
start {lo} {c} l = record { kept = kept_none; bits = λ t j m. omega (arith, between_none lo c j (omega arith)) }

module _ {w₀ w : List ℕ} {at lo hi i a e : ℕ} (g : RunIn w₀ at lo hi) (d : RunSet at lo (max lo (min hi (16 * i))) w₀ w true) (l : lo / 16 ≤ i)
    (h : i < div_ceil hi 16) (p : a ≡ lo - 16 * i) (q : e ≡ min (hi - 16 * i) 16) where
  module _ {w' : List ℕ} {r : Bool} (f : BitsSet (at + i) a e w w' r) where
    frame : Kept w₀ w' at (at + 64)
    frame = kept_both d.kept (kept_wider f.kept (omega arith) (omega arith))

    -- bit j of the row
    one_word : r ≡ true → (j : ℕ) → marked w' at j ≡ marked w at j + between (max lo (16 * i)) (min hi (16 * i + 16)) j
    unfolding marked
    one_word t j =
        elim (cases_eq (j / 16) i) [
          | inl v ↦
              let same : between a e (j % 16) ≡ between (max lo (16 * i)) (min hi (16 * i + 16)) j
              = between-same _ _ _ _ _ _ (λ x y. (omega arith, omega arith)) (λ x y. (omega arith, omega arith)) in
              rw (v, ← same) (f.bits t (j % 16))
          | inr v ↦
              let same = f.kept.rest (at + j / 16) (λ x y. v (omega arith)) in
              rw same (omega (arith, between_none (max lo (16 * i)) (min hi (16 * i + 16)) j (λ x y. v (omega arith))))
        ]

    turn : not r ≡ false → RunSet at lo (max lo (min hi (16 * (i + 1)))) w₀ w' true
    turn t =
        let m : max lo (min hi (16 * i)) ≡ max lo (16 * i) = omega arith in
        let n : max lo (min hi (16 * (i + 1))) ≡ min hi (16 * i + 16) = omega arith in
        rw n
        (record {
          kept = frame;
          bits = λ y j b.
              omega (
                arith,
                d.bits y j b,
                rw m at (d.bits y j b),
                one_word (not-false r t) j,
                between_more lo (max lo (16 * i)) (min hi (16 * i + 16)) j (omega arith) (omega arith),
              );
        })

pub loop-i-preserved : goal.loop-i-preserved
loop-i-preserved c =
    turn c.requires c.loop-i.invariant (omega arith) (omega arith) c.bits_in.ensures.from c.bits_in.ensures.end c.set_bits.ensures (search rules)

pub loop-i-init : goal.loop-i-init
loop-i-init c = search (start, rules)
