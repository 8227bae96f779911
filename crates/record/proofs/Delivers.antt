-- Demand 2 at the level of the call, and its side of demand 3: a build that is finished has delivered the field's record, and `check` takes it.
-- A build that says it wrote n bytes was not refused, so its output is the record and zeros; the rest is theory's. Assumes nothing.
use mathlib.Core.Path.{◌≡◌, refl, sym, ap, ap₂, ◌∙◌}
use mathlib.Core.List.{List, ◌++◌}
use Prim.Native.Nat.{ℕ, ◌+◌, ◌-◌, ◌/◌, ◌≤◌}
use native.Mathlib.Omega.{arith}
use lib.ListN.{length, take, drop, replicate, length-append, length-replicate}
use lib.Seq.{take-append_seam, drop-append_seam}
use Rattle.std.specs.Prelude.{Result, Ok}
use Rattle.words.specs.Words.{Bytes}
use Rattle.paper.specs.Field.{least_work}
use Rattle.paper.specs.Pairs.{pairs_of}
use Rattle.paper.specs.Record.{View, written, built, whole}
use Rattle.paper.specs.Refusals.{Answer, refused, given, build, check}
use Rattle.paper.specs.Answers.{counted, left_in, Builds, Checks}
use Rattle.paper.specs.declared.Refusal.{Refusal}
use Rattle.theory.proofs.BuildCheck.{build-check, read_back, grown-back, written_back, holes-back}
use Rattle.theory.proofs.Checker.{taken_is}
use Rattle.theory.proofs.Unique.{one_check}
use Rattle.record.specs.Delivered.{field_of, Delivered}

-- an answer of n bytes is some bytes, n of them
given_bytes : (x : Answer (List ℕ)) (n : ℕ) → given n ≡ counted x → (r : List ℕ) × (x ≡ given r) × (length r ≡ n)
given_bytes (given r) n e = (r, refl, cc)
given_bytes (refused k v) n e = let z : ◌≡◌ {A = ℕ} 0 1 = cc in absurd (omega arith)

-- what is left in the output of a build that gives r
module _ (c : List ℕ) (small : Bytes c) (a b w : ℕ) (out' : List ℕ) (o : ℕ) (r : List ℕ) where
  module _ (finished : build c a b w o ≡ given r) (output : out' ≡ left_in o (build c a b w o)) where
    left : out' ≡ r ++ replicate (o - length r) 0
    unfolding left_in
    left = output ∙ ap (left_in o) finished

    front : take (length r) out' ≡ r
    front = rw left (take-append_seam r _)

    after : drop (length r) out' ≡ replicate (length out' - length r) 0
    after =
        let e : length out' ≡ length r + (o - length r) = rw (left, length-append, length-replicate) in
        let f : length out' - length r ≡ o - length r = omega (arith, e) in
        rw (f, left) (drop-append_seam r _)

    taken-record : (l : ℕ) → least_work ≤ l → check (take (length r) out') l ≡ given (length c / 4, length (pairs_of (field_of c) a b))
    taken-record l e = rw front (build-check c small a b w o r finished l e)

    delivered : Delivered c a b (length r) out'
    unfolding built
    delivered =
        let k = (taken_is r least_work _ _).0 (build-check c small a b w o r finished least_work (omega arith)) in
        let v = read_back c small a b w o r finished in
        record {
          bytes = rw front (sym (written_back c small a b w o r finished) ∙ ap written v);
          size = k.0.1.end ∙ ap₂ whole k.1 k.2;
          zeros = after;
          view = rw front v;
          holes = rw front (holes-back c small a b w o r finished);
          tree = rw front (grown-back c small a b w o r finished);
          pairs = rw front (ap (λ (u : View). u.pairs) v);
          again = rw front (written_back c small a b w o r finished);
        }

module _ (c : List ℕ) (small : Bytes c) (a b : ℕ) (work work' out out' : List ℕ) (n : ℕ) (s : Builds c a b (Ok n) work work' out out') where
  pub delivers : Delivered c a b n out'
  delivers =
      let g = given_bytes (build c a b (length work) (length out)) n s.answer in
      rw (← g.2) (delivered c small a b (length work) out' (length out) g.0 g.1 s.output)

  -- `check` takes what `build` finishes, in any work area that is large enough
  pub build_taken : (area area' : List ℕ) {k : Result (ℕ × ℕ) Refusal} → Checks (take n out') k area area' → least_work ≤ length area
      → k ≡ Ok (length c / 4, length (pairs_of (field_of c) a b))
  build_taken area area' {k} t l =
      let g = given_bytes (build c a b (length work) (length out)) n s.answer in
      let e : check (take n out') (length area) ≡ given (length c / 4, length (pairs_of (field_of c) a b)) =
      rw (← g.2) (taken-record c small a b (length work) out' (length out) g.0 g.1 s.output (length area) l) in
      let u : Checks (take n out') (Ok (length c / 4, length (pairs_of (field_of c) a b))) area area' =
      record { answer = sym e; wiped = t.wiped } in
      (one_check refl (take n out') t u).0
