-- What `cut` says of a record's bytes: the first of their refusals, or the parts. Assumes nothing.
use Rattle.std.specs.Prelude.{◌≡◌, List, ℕ, ◌*◌, ◌-◌, ◌/◌, ◌≤◌, length, get_or, take, drop, Result, Ok, Err}
use Rattle.paper.specs.Field.{Ratio as InRange, most_holes}
use Rattle.paper.specs.Record.{holes_start, nodes_start, pairs_start, whole, holes_in, nodes_in, pairs_in, nodes_of}
use Rattle.paper.specs.Refusals.{Answer, given, in_order◌else◌, cutting}
use Rattle.paper.specs.Answers.{refuses}
use Rattle.paper.specs.declared.Refusal.{Refusal}
use Rattle.field.specs.declared.ratio.Ratio.{Ratio}
use Rattle.record.specs.declared.Parts.{Parts}
use Rattle.record.specs.declared.Section.{Section}
use Rattle.record.specs.declared.Section.TheVariants as S

-- the bytes are a record's: the ratio and the counts are right, and they end with the last pair
pub record Framing (r : List ℕ) : Type 0 where
  pub ratio : InRange (get_or r 0 0) (get_or r 1 0)
  pub some : 1 ≤ holes_in r
  pub few : holes_in r ≤ most_holes
  pub nodes_right : nodes_in r ≡ nodes_of (holes_in r)
  pub pairs_right : pairs_in r ≤ holes_in r * (holes_in r - 1) / 2
  pub end : length r ≡ whole (holes_in r) (pairs_in r)

-- these are the ratio and the hole count that the first four bytes say, and the count is in range
pub record Begun (r : List ℕ) (ratio : Ratio) (n : ℕ) : Type 0 where
  pub head : holes_start ≤ length r
  pub a_is : ratio.a ≡ get_or r 0 0
  pub b_is : ratio.b ≡ get_or r 1 0
  pub n_is : n ≡ holes_in r
  pub some : 1 ≤ n
  pub few : n ≤ most_holes

-- the ratio, the counts, and where the parts start
pub record PartsOf (r : List ℕ) (p : Parts) : Type 0 where
  pub framing : Framing r
  pub a_is : p.ratio.a ≡ get_or r 0 0
  pub b_is : p.ratio.b ≡ get_or r 1 0
  pub n_is : p.n ≡ holes_in r
  pub m_is : p.m ≡ pairs_in r
  pub holes_is : p.holes ≡ holes_start
  pub nodes_is : p.nodes ≡ nodes_start (holes_in r)
  pub pairs_is : p.pairs ≡ pairs_start (holes_in r)

-- counts that a record can have: no size of a section wraps
pub record CountsFit (p : Parts) : Type 0 where
  pub some : 1 ≤ p.n
  pub few : p.n ≤ most_holes
  pub pairs : p.m ≤ most_holes * (most_holes - 1) / 2

-- the checker's refusals of the bytes alone
unfoldable pub cut_answer : List ℕ → Answer (ℕ × ℕ)
cut_answer r = in_order cutting r else given (holes_in r, pairs_in r)

abbrev pub CutSays : List ℕ → Result Parts Refusal → Type 0
CutSays r (Ok p) = PartsOf r p
CutSays r (Err x) = cut_answer r ≡ refuses x

-- the part that holds the holes, the nodes, the pairs
abbrev pub holes_slice : List ℕ → List ℕ
holes_slice r = take (4 * holes_in r) (drop holes_start r)

abbrev pub nodes_slice : List ℕ → List ℕ
nodes_slice r = take (4 * nodes_of (holes_in r)) (drop (nodes_start (holes_in r)) r)

abbrev pub pairs_slice : List ℕ → List ℕ
pairs_slice r = take (4 * pairs_in r) (drop (pairs_start (holes_in r)) r)

abbrev pub slice_of : Section → List ℕ → List ℕ
slice_of S.Holes r = holes_slice r
slice_of S.Nodes r = nodes_slice r
slice_of S.Pairs r = pairs_slice r
