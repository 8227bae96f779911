-- What the checker answers, from what `cut` said: a work area that is too short comes first, then a refusal of the bytes, and where there is none
-- of those, the first refusal of what they say. Assumes nothing.
use mathlib.Core.Path.{◌≡◌, refl}
use mathlib.Core.List.{List, ◌++◌}
use Prim.Native.Nat.{ℕ, ◌≤◌, ◌<◌}
use native.Mathlib.Omega.{arith}
use Rattle.paper.specs.Field.{least_work}
use Rattle.paper.specs.Record.{view_of}
use Rattle.paper.specs.Refusals.{refused, check}
use Rattle.paper.specs.Answers.{refuses}
use Rattle.paper.specs.declared.Refusal.TheVariants as R
use Rattle.theory.specs.Conditions.{Condition, First, here, later}
use Rattle.theory.specs.Conditions as due
use Rattle.theory.proofs.Orders.{check-refuses}
use Rattle.theory.proofs.Checker.{Framed}
use Rattle.record.specs.Cutting.{Framing, cut_answer}
use Rattle.record.proofs.Exits.{cut-refuses}

-- the first of an order is the first of a longer one
first_before : {cs : List Condition} (ds : List Condition) {n x : ℕ} → First cs n x → First (cs ++ ds) n x
first_before ds (here e d) = here e d
first_before ds (later none f) = later none (first_before ds f)

module _ (r : List ℕ) (w : ℕ) where
  pub short-work : w < least_work → check r w ≡ refuses R.Work
  short-work l = (check-refuses r w 5 least_work).1 (here refl (l, refl))

  pub cut_refused : {n x : ℕ} → cut_answer r ≡ refused n x → least_work ≤ w → check r w ≡ refused n x
  cut_refused {n} {x} e l =
      (check-refuses r w n x).1 (later (λ y d. omega (arith, d.0)) (first_before (due.content (view_of r)) ((cut-refuses r n x).0 e)))

  pub framed : Framing r → least_work ≤ w → Framed r w
  framed f l =
      record {
        work = l;
        ratio = f.ratio;
        some = f.some;
        few = f.few;
        nodes_right = f.nodes_right;
        pairs_right = f.pairs_right;
        end = f.end;
      }

  -- the framing's eleven refusals are not due
  pub content_refused : {n x : ℕ} → Framed r w → First (due.content (view_of r)) n x → check r w ≡ refused n x
  content_refused {n} {x} f first =
      (check-refuses r w n x).1
      (later (λ y d. omega (arith, d.0))
      (later (λ y d. omega (arith, d.0))
      (later (λ y d. d.0 f.ratio)
      (later (λ y d. omega (arith, d.0))
      (later (λ y d. omega (arith, d.0))
      (later (λ y d. omega (arith, d.0))
      (later (λ y d. d.0 f.nodes_right)
      (later (λ y d. omega (arith, d.0))
      (later (λ y d. omega (arith, d.0))
      (later (λ y d. omega (arith, d.0))
      (later (λ y d. omega (arith, d.0)) first)))))))))))
