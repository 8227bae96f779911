-- At most n holes are under a node: each is below n and none is there twice, and a list of numbers below n is as long as those numbers stand in it
-- often, added up. Assumes nothing.
use mathlib.Core.Path.{◌≡◌, refl}
use mathlib.Core.List.{List, [], ◌∷◌}
use Prim.Native.Nat.{ℕ, ◌≤◌, ◌<◌}
use native.Mathlib.Omega.{arith}
use lib.Dec.{eqb}
use lib.ListN.{length}
use borrow.Author.Tests.{eq-eqb, ne_eqb}
use Rattle.paper.specs.Record.{View}
use Rattle.paper.specs.Rules.{hole_count, node_count, NodeRule, under_node}
use Rattle.theory.specs.Trees.{Each, one_if, often}
use Rattle.theory.proofs.Sums.{sum, sum_plus, sum-none, sum_one, sum_most}
use Rattle.theory.proofs.Often.{often_is, each_often}
use Rattle.theory.proofs.Grown.{under-below}
use Rattle.theory.proofs.Foreign.{under_at_most}

pub all_often : (n : ℕ) (l : List ℕ) → Each (λ x. x < n) l → sum (λ h. often h l) n ≡ length l
unfolding often
all_often n [] w = sum-none (λ h. 0) n (λ h b. refl)
all_often n (x ∷ l) w =
    let p = sum_plus (λ h. one_if (eqb h x)) (λ h. often h l) n in
    let o = sum_one (λ h. one_if (eqb h x)) n x w.0 (λ h b d. rw (ne_eqb h x d)) in
    let e : one_if (eqb x x) ≡ 1 = rw (eq-eqb x x refl) in
    omega (arith, all_often n l w.1)

pub under-length : (t : View) → ((k : ℕ) → k < node_count t → NodeRule t k) → (k : ℕ) → k < node_count t → length (under_node t k) ≤ hole_count t
under-length t rules k b =
    let n = hole_count t in
    let l = under_node t k in
    omega (
      arith,
      all_often n l (each_often (λ x. x < n) l (λ h o. under-below t rules k b h ((often_is h l).0 o))),
      sum_most (λ h. often h l) n (λ h _. under_at_most t rules k b h),
    )
