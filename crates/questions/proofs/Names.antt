-- Demand 3's last sentence at the level of the call: for a record that meets the rules, of two or more holes with a ratio above 2, `closest` names
-- the least over all pairs of holes, the lowest numbers winning a tie. Assumes nothing.
use mathlib.Core.Path.{◌≡◌, refl, sym, ◌∙◌}
use mathlib.Core.List.{List}
use Prim.Native.Nat.{ℕ, ◌+◌, ◌*◌, ◌≤◌, ◌<◌}
use native.Mathlib.Omega.{arith}
use lib.ListN.{length}
use borrow.Author.Tests.{ne_eqb, lt-leb}
use Rattle.std.specs.Prelude.{Result, Ok}
use Rattle.paper.specs.Field.{least_work}
use Rattle.paper.specs.Record.{holes_in, pairs_in, view_of}
use Rattle.paper.specs.Rules.{hole_count, Record}
use Rattle.paper.specs.Refusals.{given}
use Rattle.paper.specs.Questions.{apart, nearest, Nearest, closest}
use Rattle.paper.specs.Answers.{FindsClosest}
use Rattle.paper.specs.declared.Refusal.TheVariants as R
use Rattle.paper.specs.declared.Refusal.{Refusal}
use Rattle.paper.proofs.Tables.{pass, passed}
use Rattle.theory.proofs.Statements.{nearest_is}
use Rattle.theory.proofs.RoundTrip.{view_holes}
use Rattle.theory.proofs.Checker.{taken_is}
use Rattle.theory.proofs.Unique.{one_closest}

-- the two holes that are named
pub record NamesClosest (bytes : List ℕ) (r : Result (ℕ × ℕ × ℕ) Refusal) : Type 0 where
  pub i : ℕ
  pub j : ℕ
  pub answer : r ≡ Ok (i, j, apart (view_of bytes).holes (i, j))
  pub nearest : Nearest (view_of bytes).holes (i, j)

module _ (bytes : List ℕ) (ok : Record bytes) (more : 2 ≤ holes_in bytes) (ratio : 2 * (view_of bytes).b < (view_of bytes).a) where
  closest_is : (w : ℕ) → least_work ≤ w
      → closest bytes w
      ≡ given (
        (nearest (view_of bytes).holes).0,
        (nearest (view_of bytes).holes).1,
        apart (view_of bytes).holes (nearest (view_of bytes).holes),
      )
  unfolding closest
  closest_is w l =
      rw ((taken_is bytes w (holes_in bytes) (pairs_in bytes)).1 ((l, ok), refl, refl))
      (pass _ (ne_eqb (hole_count (view_of bytes)) 1 (λ e. omega (arith, view_holes bytes, more, e))) R.Single _
      ∙ pass _ (lt-leb _ _ ratio) (R.Low (256 * (view_of bytes).a + (view_of bytes).b)) _
      ∙ passed _)

  pub names-closest : (work work' : List ℕ) {r : Result (ℕ × ℕ × ℕ) Refusal} → FindsClosest bytes r work work' → least_work ≤ length work → NamesClosest bytes r
  names-closest work work' {r} s l =
      let H = (view_of bytes).holes in
      let t : FindsClosest bytes (Ok ((nearest H).0, (nearest H).1, apart H (nearest H))) work work' =
      record { answer = sym (closest_is (length work) l); wiped = s.wiped } in
      record {
        i = (nearest H).0;
        j = (nearest H).1;
        answer = (one_closest refl bytes s t).0;
        nearest = nearest_is H (rw (view_holes bytes) more);
      }
