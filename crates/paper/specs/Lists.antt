-- Lists and tests that the definitions are written with. Assumes nothing.
use Rattle.std.specs.Prelude.{Bool, true, false, ◌&&◌, ◌||◌, List, [], ◌∷◌, ◌++◌, map, ℕ, zero, suc, ◌-◌, eqb}

module _ {A : Type 0} where
  -- the elements at which the test holds, in their order
  abbrev pub keep : (A → Bool) → List A → List A
  keep p [] = []
  keep p (x ∷ xs) = elim (p x) [ true ↦ x ∷ keep p xs | false ↦ keep p xs ]

  -- how many they are
  abbrev pub count : (A → Bool) → List A → ℕ
  count p [] = 0
  count p (x ∷ xs) = elim (p x) [ true ↦ suc (count p xs) | false ↦ count p xs ]

  -- whether there is one
  abbrev pub some_of : (A → Bool) → List A → Bool
  some_of p [] = false
  some_of p (x ∷ xs) = p x || some_of p xs

  -- the first of them, and d where there is none
  abbrev pub first_passing : (A → Bool) → List A → A → A
  first_passing p [] d = d
  first_passing p (x ∷ xs) d = elim (p x) [ true ↦ x | false ↦ first_passing p xs d ]

  -- what f makes of each element, end to end
  abbrev pub joined : {B : Type 0} → (B → List A) → List B → List A
  joined f [] = []
  joined f (x ∷ xs) = f x ++ joined f xs

-- whether two lists of numbers are the same
abbrev pub same : List ℕ → List ℕ → Bool
same [] [] = true
same [] (y ∷ ys) = false
same (x ∷ xs) [] = false
same (x ∷ xs) (y ∷ ys) = eqb x y && same xs ys

-- whether x is in the list
abbrev pub has : ℕ → List ℕ → Bool
has x l = some_of (eqb x) l

-- i, i + 1, .., n numbers in all
abbrev pub from : ℕ → ℕ → List ℕ
from i zero = []
from i (suc n) = i ∷ from (suc i) n

-- the numbers below n
abbrev pub below : ℕ → List ℕ
below n = from 0 n

-- every two numbers i < j below n, by i and then by j
abbrev pub twos : ℕ → List (ℕ × ℕ)
twos n = joined (λ i. map (λ j. (i, j)) (from (suc i) (n - suc i))) (below n)
