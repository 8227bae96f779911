-- Two nodes are separated exactly when neither reaches further than D. Assumes nothing.
use mathlib.Core.Path.{◌≡◌, sym, ◌∙◌}
use mathlib.Core.Bool.{true, false}
use mathlib.Core.Logic.{◌↔◌, ◌≢◌}
use Prim.Native.Nat.{ℕ, ◌+◌, ◌*◌, ◌-◌, ◌/◌, ◌<◌, ◌≤◌, max}
use native.Mathlib.Nat.{div-lt_iff_lt-mul, mul-le-mul}
use native.Mathlib.Omega.{arith}
use lib.Dec.{leb}
use borrow.Author.Tests.{leb-true, leb-false}
use Rattle.paper.specs.Field.{Ratio, square}
use Rattle.paper.specs.Tree.{Box}
use Rattle.paper.specs.Separation.{G, D, separated}
use Rattle.paper.proofs.ListLaws.{cases, not_so}
use Rattle.theory.proofs.Statements.{separated_is}
use Rattle.field.specs.Reach.{reach}

-- a quotient rounded up
up_is : (x q y : ℕ) → 0 < q → (x + (q - 1)) / q ≤ y ↔ x ≤ q * y
up_is x q y p =
    let d = div-lt_iff_lt-mul {k = q} {x = x + (q - 1)} {y = y + 1} p in (
      λ l. let m = d.0 (omega arith) in omega (arith, m),
      λ l. let m = d.1 (omega (arith, l)) in omega (arith, m),
    )

-- a product with the larger of two numbers
max_is : (w g h z : ℕ) → w * max g h ≤ z ↔ (w * g ≤ z) × (w * h ≤ z)
max_is w g h z = (
  λ l.
      let p : w * g ≤ w * max g h = mul-le-mul (omega arith) (omega arith) in
      let q : w * h ≤ w * max g h = mul-le-mul (omega arith) (omega arith) in
      (omega arith, omega arith),
  λ m.
      cases (leb g h)
      (λ e. let f : max g h ≡ h = omega (arith, leb-true g h e) in rw f m.1)
      (λ e. let f : max g h ≡ g = omega (arith, leb-false g h e) in rw f m.0),
)

pub some_square : {a b : ℕ} → Ratio a b → 0 < square b
some_square r = let p : 1 * 1 ≤ _ = mul-le-mul r.b_low r.b_low in omega arith

module _ {a b : ℕ} (r : Ratio a b) where
  reach_is : (B : Box) (far : ℕ) → reach a b B ≤ far ↔ (far ≢ 0) × (square (2 * b + a) * G B ≤ square b * far)
  unfolding reach
  reach_is B far =
      let u = up_is (square (2 * b + a) * G B) (square b) far (some_square r) in (
        λ l. (omega arith, u.0 (omega arith)),
        λ m. let v = u.1 m.1 in omega (arith, m.0),
      )

  -- by what was found: what the two nodes reach, and D
  module _ (A B : Box) {x far : ℕ} (p : x ≡ reach a b A) (e : far ≡ D A B) where
    apart-is : separated a b A B ≡ true ↔ (x ≤ far) × (reach a b B ≤ far)
    apart-is =
        let t = max_is (square (2 * b + a)) (G A) (G B) (square b * D A B) in
        rw (p, e) (
          λ s.
              let z = (separated_is a b A B).0 s in
              let g = t.0 z.wide in
              ((reach_is A (D A B)).1 (z.apart, g.0), (reach_is B (D A B)).1 (z.apart, g.1)),
          λ m.
              let g = (reach_is A (D A B)).0 m.0 in
              let h = (reach_is B (D A B)).0 m.1 in
              (separated_is a b A B).1 (record { apart = g.0; wide = t.1 (g.1, h.1) }),
        )

    pub first-reaches : far < x → false ≡ separated a b A B
    first-reaches l = sym (not_so (λ s. let g = apart-is.0 s in omega (arith, g.0)))

    pub second-asked : {y : ℕ} → y ≡ reach a b B → x ≤ far → leb y far ≡ separated a b A B
    second-asked {y = y} q l =
        cases (leb y far)
        (λ h. h ∙ sym (apart-is.1 (l, rw q at (leb-true y far h))))
        (λ h. h ∙ sym (not_so (λ s. let g = apart-is.0 s in omega (arith, g.1, leb-false y far h))))
