-- Demand 3 at the level of the call: whoever made a record, `check` takes it exactly when it meets the record rules. Assumes nothing.
use mathlib.Core.Path.{◌≡◌, refl, sym}
use mathlib.Core.Logic.{◌↔◌}
use mathlib.Core.List.{List}
use Prim.Native.Nat.{ℕ, ◌≤◌}
use lib.ListN.{length}
use Rattle.std.specs.Prelude.{Result, Ok}
use Rattle.paper.specs.Field.{least_work}
use Rattle.paper.specs.Record.{holes_in, pairs_in}
use Rattle.paper.specs.Rules.{Record}
use Rattle.paper.specs.Answers.{Checks}
use Rattle.paper.specs.declared.Refusal.{Refusal}
use Rattle.theory.proofs.Checker.{taken_is}
use Rattle.theory.proofs.Unique.{one_check}

pub takes_exactly : (bytes work work' : List ℕ) {r : Result (ℕ × ℕ) Refusal} → Checks bytes r work work' → least_work ≤ length work → (n m : ℕ)
    → r ≡ Ok (n, m) ↔ (Record bytes × (holes_in bytes ≡ n) × (pairs_in bytes ≡ m))
takes_exactly bytes work work' {r} s l n m = (
  λ e.
      let t : Checks bytes (Ok (n, m)) work work' = rw e at s in
      let k = (taken_is bytes (length work) n m).0 (sym t.answer) in
      (k.0.1, k.1, k.2),
  λ k.
      let t : Checks bytes (Ok (n, m)) work work' =
      record { answer = sym ((taken_is bytes (length work) n m).1 ((l, k.0), k.1, k.2)); wiped = s.wiped } in
      (one_check refl bytes s t).0,
)
