-- An output that was all zero when a step began: refused it is as it was, finished it is what was written and then zeros. Assumes nothing.
use mathlib.Core.Path.{◌≡◌, refl, sym, ap, ◌∙◌}
use mathlib.Core.List.{List, ◌++◌}
use Prim.Native.Nat.{ℕ, zero, suc, ◌-◌, ◌≤◌}
use native.Mathlib.Omega.{arith}
use lib.ListN.{length, drop, replicate}
use Rattle.std.specs.Prelude.{Ok, Err}
use Rattle.words.specs.Words.{Written}
use Rattle.words.proofs.Laws.{written_all}
use Rattle.paper.specs.Refusals.{Answer, given}
use Rattle.paper.specs.Answers.{refuses, left_in}
use Rattle.paper.specs.declared.Refusal.{Refusal}
use Rattle.record.specs.Outputs.{Blank, Made}

pub drop_zeros : (k o : ℕ) → drop {A = ℕ} k (replicate o 0) ≡ replicate (o - k) 0
drop_zeros zero o =
    let e : o ≡ o - 0 = omega arith in
    ap (λ (n : ℕ). replicate n 0) e
drop_zeros (suc k) zero =
    let e : 0 ≡ 0 - suc k = omega arith in
    ap (λ (n : ℕ). replicate n 0) e
drop_zeros (suc k) (suc o) =
    let e : o - k ≡ suc o - suc k = omega arith in
    drop_zeros k o ∙ ap (λ (n : ℕ). replicate n 0) e

module _ {asked : ℕ → ℕ → Answer (List ℕ)} {w : ℕ} {out out' : List ℕ} where
  -- refused, the output zeroed again; and as it was
  pub refused_zeroed : (x : Refusal) → asked w (length out) ≡ refuses x → out' ≡ replicate (length out) 0 → Made asked w out out' (Err x)
  unfolding left_in
  refused_zeroed x q z = record { answer = sym (rw q refl); output = rw q z }

  -- finished
  pub finished : {its : List ℕ} {r : ℕ} → Blank out → asked w (length out) ≡ given its → r ≡ length its → length its ≤ length out
      → Written out out' 0 its → Made asked w out out' (Ok r)
  unfolding left_in
  finished {its} blank q e l s =
      let zeros = ap (λ (z : List ℕ). drop (length its) z) blank.zeros ∙ drop_zeros (length its) (length out) in
      record { answer = rw (q, e) refl; output = rw q (written_all s l ∙ ap (λ (z : List ℕ). its ++ z) zeros) }

pub refused_blank : {asked : ℕ → ℕ → Answer (List ℕ)} {w : ℕ} {out : List ℕ} (x : Refusal) → Blank out → asked w (length out) ≡ refuses x
    → Made asked w out out (Err x)
refused_blank x blank q = refused_zeroed x q blank.zeros
