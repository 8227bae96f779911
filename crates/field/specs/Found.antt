-- What a search finds: the least number below n with a property, or that there is none. Assumes nothing.
use Rattle.std.specs.Prelude.{ℕ, ◌<◌, Option, Some, None}
use Rattle.paper.specs.Refusals.{Least}

abbrev pub Finds : (ℕ → Type 0) → ℕ → Option ℕ → Type 0
Finds P n (Some k) = Least P n k
Finds P n None = (k : ℕ) → k < n → P k → ⊥
