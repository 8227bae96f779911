-- What the builder answers, and what it leaves in an output that was all zero, when none of its refusals but ROOM can be due. Assumes nothing.
use mathlib.Core.Path.{◌≡◌, refl, sym, ap, ap₂, ◌∙◌}
use mathlib.Core.List.{List, [], ◌∷◌}
use Prim.Native.Nat.{ℕ, ◌+◌, ◌*◌, ◌-◌, ◌/◌, ◌%◌, ◌≤◌, ◌<◌}
use native.Mathlib.Omega.{arith}
use lib.ListN.{length, replicate}
use Rattle.std.specs.Prelude.{Ok, Err, Option, Some, None}
use Rattle.words.specs.Words.{Bytes, Written}
use Rattle.paper.specs.Field.{holes_at, Ratio, least_work}
use Rattle.paper.specs.Record.{whole, written, built}
use Rattle.paper.specs.Refusals.{number, value, build, refused, given}
use Rattle.paper.specs.Rules.{Repeats}
use Rattle.paper.specs.declared.Refusal.{Refusal}
use Rattle.paper.specs.declared.Refusal.TheVariants as R
use Rattle.theory.specs.Conditions.{First, here, later, all, ◌also◌}
use Rattle.theory.specs.Conditions as due
use Rattle.theory.proofs.Orders.{its_record, build-refuses, build_gives}
use Rattle.theory.proofs.Reading.{length_holes, holes_flat}
use Rattle.theory.proofs.Fields.{nodes-tree}
use Rattle.theory.proofs.Lengths.{length_whole}
use Rattle.field.specs.Found.{Finds}
use Rattle.field.specs.Buckets.{Searched}
use Rattle.pairs.specs.Listing.{Listed, pairs_on}
use Rattle.record.specs.Building.{Buildable, Drawn, front}
use Rattle.record.specs.Outputs.{Blank, Made}
use Rattle.record.proofs.Outputs.{refused_zeroed, refused_blank, finished}
use Rattle.record.proofs.BuildCases.{record_done}

-- a field that none of the first six refusals is due for
module _ (c : List ℕ) (a b w o : ℕ) (f : Buildable c (length c / 4)) (ratio : Ratio a b) (enough : least_work ≤ w) where
  passed : {k x : ℕ} → First (due.room o (length (its_record c a b w o)) ∷ []) k x → build c a b w o ≡ refused k x
  passed {k} {x} r =
      (build-refuses c a b w o k x).1
      (later (λ y d. omega (arith, d.0))
      (later (λ y d. d.0 (omega (arith, f.even)))
      (later (λ y d. omega (arith, d.0, f.some))
      (later (λ y d. omega (arith, d.0, f.few))
      (later (λ y d. d.0 ratio)
      (later (λ y d. f.distinct d.holds.other y d.holds.lower d.within d.holds.place) r))))))

  gives : length (its_record c a b w o) ≤ o → build c a b w o ≡ given (its_record c a b w o)
  gives l =
      (build_gives c a b w o _).1 (
        (λ y d. omega (arith, d.0))
            also (λ y d. d.0 (omega (arith, f.even)))
            also (λ y d. omega (arith, d.0, f.some))
            also (λ y d. omega (arith, d.0, f.few))
            also (λ y d. d.0 ratio)
            also (λ y d. f.distinct d.holds.other y d.holds.lower d.within d.holds.place)
            also (λ y d. omega (arith, d.0))
            also all,
        refl,
      )

module _ {c : List ℕ} {n : ℕ} (f : Buildable c n) where
  count_is : length c / 4 ≡ n
  count_is = omega (arith, f.even)

  at_count : Buildable c (length c / 4)
  at_count = rw count_is f

  -- the record's length
  length_is : {a b : ℕ} {w : List ℕ} → Drawn c a b n w → length (written (built a b (holes_at 2 c 0 n))) ≡ whole n (length (pairs_on w 2 a b n))
  unfolding built
  length_is {a = a} {b = b} d =
      let l = length_holes 2 c 0 n in
      let flat = holes_flat 2 c 0 n in
      let some : 1 ≤ length (holes_at 2 c 0 n) = rw l f.some in
      length_whole (built a b (holes_at 2 c 0 n)) flat some (nodes-tree (holes_at 2 c 0 n) 2 flat f.distinct some)
      ∙ ap₂ whole l (ap length (sym d.pairs))

  module _ {a b : ℕ} {w out out' : List ℕ} {r : ℕ} (ratio : Ratio a b) (d : Drawn c a b n w) (blank : Blank out) (l : Listed (pairs_on w 2 a b n) (6 + 12 * n) out out' r) where
    enough : least_work ≤ length w
    enough = d.listable.stands.grid

    r-is : r ≡ length (written (built a b (holes_at 2 c 0 (length c / 4))))
    r-is = rw count_is (l.next ∙ sym (length_is d))

    pub no_room : {out'' : List ℕ} → length out' < r → out'' ≡ replicate (length out') 0 → Made (build c a b) (length w) out out'' (Err (R.Room r))
    no_room h z =
        let q = passed c a b (length w) (length out) at_count ratio enough (here refl (omega (arith, r-is, l.len), r-is)) in
        refused_zeroed (R.Room r) q (rw (← l.len) z)

    pub record-made : {out'' : List ℕ} → r ≤ length out' → Written out' out'' 0 (front c a b n ((r - (6 + 12 * n)) / 4) w)
        → Made (build c a b) (length w) out out'' (Ok r)
    record-made h s =
        let room : length (its_record c a b (length w) (length out)) ≤ length out = omega (arith, r-is, l.len) in
        finished blank (gives c a b (length w) (length out) at_count ratio enough room) r-is room
        (rw count_is (record_done f d (omega (arith, l.next)) l h s))

-- each refusal that comes before the record is looked at: what was tested before it is not due
module _ (c out : List ℕ) (a b w : ℕ) (blank : Blank out) where
  module _ (r : Refusal) (first : First (due.builder c a b w (length out)) (number r) (value r)) where
    pub refusing : Made (build c a b) w out out (Err r)
    refusing = refused_blank r blank ((build-refuses c a b w (length out) (number r) (value r)).1 first)

  pub refuse_work : w < 65_536 → Made (build c a b) w out out (Err R.Work)
  refuse_work l = refusing R.Work (here refl (l, refl))

  module _ (enough : 65_536 ≤ w) where
    pub refuse-odd : (length c % 4 ≡ 0 → ⊥) → Made (build c a b) w out out (Err (R.Odd (length c)))
    refuse-odd o = refusing (R.Odd (length c)) (later (λ y d. omega (arith, d.0)) (here refl (o, refl)))

    module _ (even : length c % 4 ≡ 0) where
      pub refuse-none : length c / 4 ≡ 0 → Made (build c a b) w out out (Err R.None)
      refuse-none z = refusing R.None (later (λ y d. omega (arith, d.0)) (later (λ y d. d.0 even) (here refl (z, refl))))

      pub refuse-many : 1_024 < length c / 4 → Made (build c a b) w out out (Err (R.Many (length c / 4)))
      refuse-many l =
          refusing (R.Many (length c / 4))
          (later (λ y d. omega (arith, d.0)) (later (λ y d. d.0 even) (later (λ y d. omega (arith, d.0)) (here refl (l, refl)))))

      module _ (some : length c / 4 ≡ 0 → ⊥) (few : length c / 4 ≤ 1_024) where
        pub refuse-ratio : {x : Refusal} → (Ratio a b → ⊥) × (x ≡ R.Ratio) → Made (build c a b) w out out (Err x)
        refuse-ratio f =
            rw f.1
            (refusing R.Ratio
            (later (λ y d. omega (arith, d.0))
            (later (λ y d. d.0 even)
            (later (λ y d. some d.0)
            (later (λ y d. omega (arith, d.0))
            (here refl (f.0, refl)))))))

        pub refuse-twice : Ratio a b → {u v : List ℕ} {s : Option ℕ} {i : ℕ} → Searched c 2 (length c / 4) u v s → s ≡ Some i
            → Made (build c a b) w out out (Err (R.Twice i))
        refuse-twice ratio {i = i} d q =
            let g : Finds (Repeats (holes_at 2 c 0 (length c / 4))) (length c / 4) (Some i) = rw q at d.found in
            refusing (R.Twice i)
            (later (λ y d. omega (arith, d.0))
            (later (λ y d. d.0 even)
            (later (λ y d. some d.0)
            (later (λ y d. omega (arith, d.0))
            (later (λ y d. d.0 ratio)
            (here refl (rw (length_holes 2 c 0 (length c / 4)) g)))))))

-- holes that none of the refusals 1, 2, 3 and 6 is due for
pub buildable : (c : List ℕ) → Bytes c → {u v : List ℕ} {s : Option ℕ} → Searched c 2 (length c / 4) u v s → s ≡ None → length c % 4 ≡ 0 → (length c / 4 ≡ 0 → ⊥)
    → length c / 4 ≤ 1_024 → Buildable c (length c / 4)
buildable c small d q even some few =
    let g : Finds (Repeats (holes_at 2 c 0 (length c / 4))) (length c / 4) None = rw q at d.found in
    record {
      even = omega arith;
      some = omega arith;
      few = few;
      distinct = λ i j l m e. g j (rw (length_holes 2 c 0 (length c / 4)) at m) (record { other = i; lower = l; place = e });
      small = small;
    }
