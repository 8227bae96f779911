-- Bit j of a row is bit j % 16 of its word j / 16, which is one of the words asked. Assumes nothing.
use Rattle.std.proofs.Common.{◌≡◌, Bool, true, false, List, ℕ, ◌+◌, ◌-◌, ◌*◌, ◌/◌, ◌%◌, ◌<◌, ◌≤◌, min, length, refl, arith, rules, MatchBool}
use Rattle.std.specs.Bool.{⊤}
use Rattle.std.specs.Int.{div_ceil}
use Rattle.std.specs.List.{AllWithin, range_with_len}
use Rattle.std.proofs.lemmas.Iterator.{cases_from_all, YieldsList-from_range}
use Rattle.std.proofs.lemmas.List.FromFn.{length-range_with_len, get_or-range_with_len}
use Rattle.cover.specs.Marks.{marked, BitsFull, RunIn, RunFull}
use Rattle.cover.proofs.has_run.Goals as goal

-- the bits from lo up to hi that are in word i are set
record Full (w : List ℕ) (at lo hi i : ℕ) : Type 0 where
  bits : (j : ℕ) → lo ≤ j → j < hi → j / 16 ≡ i → marked w at j ≡ 1

full_word : {w : List ℕ} {at lo hi i a e : ℕ} {t : Bool} → BitsFull w (at + i) a e t → a ≡ lo - 16 * i → e ≡ min (hi - 16 * i) 16
    → t ≡ true → Full w at lo hi i
unfolding marked
full_word f p q e = record { bits = λ j a b c. rw c (f.bits e (j % 16) (omega arith) (omega arith)) }

full : {w : List ℕ} {at lo hi : ℕ} (X : Type 0) (t : Bool) → RunIn w at lo hi
    → MatchBool t (AllWithin (Full w at lo hi) (range_with_len (lo / 16) (div_ceil hi 16 - lo / 16)) 0 (length (range_with_len (lo / 16) (div_ceil hi 16 - lo / 16)))) X
    → RunFull w at lo hi t
full {lo} {hi} X true g h =
    record {
      bits = λ y j a b.
          let n : ℕ = div_ceil hi 16 - lo / 16 in
          let l : j / 16 - lo / 16 < n = omega arith in
          let e : lo / 16 + (j / 16 - lo / 16) ≡ j / 16 = omega arith in
          let f = h (j / 16 - lo / 16) 0 (omega arith) (omega (arith, length-range_with_len (lo / 16) n)) in
          (rw (get_or-range_with_len (lo / 16) n (j / 16 - lo / 16) 0 l, e) at f).bits j a b refl;
    }
full X false g h = record { bits = λ t. absurd (cc) }

pub returns : goal.returns
returns c =
    let w = c.args.work.now in
    let run = c.args.run in
    let by_call = cases_from_all _ _ _ (Full w c.args.at run.from run.end) (λ i. ⊤) c.all.ensures.ran
    (YieldsList-from_range (run.from / 16) (div_ceil run.end 16) (div_ceil run.end 16 - run.from / 16) (cc) refl)
    (λ x q k. search (full_word, rules)) (λ x q k. tt) in
    full _ _ c.requires by_call
