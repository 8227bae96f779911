-- The digits of a number are those that std writes, at most 20 of 64 bits. Assumes nothing.
use Rattle.std.proofs.Common.{◌≡◌, ◌∙◌, refl, List, [], ◌∷◌, ◌++◌, ap, ℕ, zero, suc, ◌+◌, ◌/◌, ◌%◌, ◌^◌, ◌<◌, ◌≤◌, arith, length}
use Rattle.std.specs.Fmt.{decimal}
use Rattle.std.proofs.lemmas.Fmt.{decimal_by_steps, length-decimal-le}
use lib.Dec.{ltb}
use borrow.Author.Tests.{ltb-true, ltb-false}
use Rattle.paper.specs.Program.{digits_from, digits}
use Rattle.paper.proofs.ListLaws.{by_case, by_case₂}

-- any fuel above x will do
enough : (f g x : ℕ) → x < f → x < g → digits_from f x ≡ digits_from g x
unfolding digits_from
enough zero g x l m = absurd (omega arith)
enough (suc f) zero x l m = absurd (omega arith)
enough (suc f) (suc g) x l m =
    by_case₂ (λ (a b : List ℕ). a ≡ b) (ltb x 10) (λ e. refl)
    (λ e. let h : 10 ≤ x = ltb-false x 10 e in rw (enough f g (x / 10) (omega arith) (omega arith)))

one_digit : (x : ℕ) → x < 10 → (48 + x) ∷ [] ≡ digits x
unfolding digits digits_from
one_digit x l = by_case (λ (d : List ℕ). (48 + x) ∷ [] ≡ d) (ltb x 10) (λ e. refl) (λ e. absurd (omega (arith, ltb-false x 10 e)))

more_digits : (x : ℕ) (ds : List ℕ) → 10 ≤ x → ds ≡ digits (x / 10) → ds ++ ((48 + x % 10) ∷ []) ≡ digits x
unfolding digits digits_from
more_digits x ds l h =
    by_case (λ (d : List ℕ). ds ++ ((48 + x % 10) ∷ []) ≡ d) (ltb x 10)
    (λ e. absurd (omega (arith, ltb-true x 10 e)))
    (λ e. ap (λ (d : List ℕ). d ++ ((48 + x % 10) ∷ [])) (h ∙ enough (suc (x / 10)) x (x / 10) (omega arith) (omega arith)))

pub decimal-digits : (x : ℕ) → x < 2 ^ 64 → decimal x ≡ digits x
decimal-digits x l = decimal_by_steps (λ n ds. ds ≡ digits n) one_digit more_digits x l

pub most_digits : (x : ℕ) → x < 2 ^ 64 → length (digits x) ≤ 20
most_digits x l = rw (← decimal-digits x l) (length-decimal-le 20 x (omega arith) (omega arith) l)
