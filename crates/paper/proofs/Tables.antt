-- The laws of a table of refusals: a line whose condition fails is passed, the first that holds is the answer, and a table may be read in
-- two parts. Callers go line by line with these and never open the table. Assumes nothing.
use mathlib.Core.Path.{◌≡◌, refl}
use mathlib.Core.Bool.{Bool, true, false}
use mathlib.Core.List.{List, [], ◌∷◌, ◌++◌}
use Rattle.paper.specs.Refusals.{Answer, refused, Line, when◌refuse◌, in_order◌else◌, number, value}
use Rattle.paper.specs.declared.Refusal.{Refusal}
use Rattle.paper.proofs.ListLaws.{by_case₂}

module _ {A : Type 0} (x : Answer A) where
  pub pass : {t : Bool} → t ≡ false → (r : Refusal) (ls : List Line) → (in_order (when t refuse r) ∷ ls else x) ≡ (in_order ls else x)
  unfolding in_order◌else◌ when◌refuse◌
  pass e r ls = rw (e, in_order◌else◌)

  pub stop : {t : Bool} → t ≡ true → (r : Refusal) (ls : List Line) → (in_order (when t refuse r) ∷ ls else x) ≡ refused (number r) (value r)
  unfolding in_order◌else◌ when◌refuse◌
  stop e r ls = rw (e, in_order◌else◌)

  pub passed : (in_order [] else x) ≡ x
  unfolding in_order◌else◌
  passed = refl

  pub in_parts : (ls ms : List Line) → (in_order ls ++ ms else x) ≡ (in_order ls else (in_order ms else x))
  unfolding in_order◌else◌
  in_parts [] ms = refl
  in_parts (l ∷ ls) ms = by_case₂ {A = Answer A} (λ s t. s ≡ t) l.holds (λ e. refl) (λ e. in_parts ls ms)
