-- The links of the pairs in a list of bytes, by the lowest holes on the slate, and the output that they are written into. Assumes nothing.
use Rattle.std.specs.Prelude.{List, ℕ, ◌+◌, ◌*◌, ◌≤◌, min, max, length}
use Rattle.slate.specs.Columns.{LOWEST}
use Rattle.slate.specs.Slate.{cell}
use Rattle.paper.specs.Lists.{joined}
use Rattle.paper.specs.Field.{list_at}
use Rattle.paper.specs.Record.{two_numbers, two_numbers_at}
use Rattle.questions.specs.Nearest.{PairThere, PairsThere}

-- the link of a pair
abbrev pub link_on : List ℕ → ℕ × ℕ → ℕ × ℕ
link_on w p = (min (cell w LOWEST p.0) (cell w LOWEST p.1), max (cell w LOWEST p.0) (cell w LOWEST p.1))

-- the bytes of the links of the first m pairs
unfoldable pub links_on : List ℕ → List ℕ → ℕ → List ℕ
links_on w ps m = joined (λ p. two_numbers (link_on w p)) (list_at two_numbers_at 4 ps 0 m)

-- pair k is there, and room for its link; the same of m pairs
pub record LinkFits (out w ps : List ℕ) (k : ℕ) : Type 0 where
  pub there : PairThere w ps k
  pub room : 4 * k + 4 ≤ length out

pub record LinksFit (out w ps : List ℕ) (m : ℕ) : Type 0 where
  pub there : PairsThere w ps m
  pub room : 4 * m ≤ length out
