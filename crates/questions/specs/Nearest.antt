-- The closest two holes as a value that is kept beside how far they are apart, and ordered as document 01 does: by their squared distance, then by the
-- first, then by the second. Assumes nothing.
use Rattle.std.specs.Prelude.{◌≡◌, List, ℕ, ◌⊎◌, ◌+◌, ◌*◌, ◌<◌, ◌≤◌, min, max, length}
use Rattle.slate.specs.Columns.{HOLES, LOWEST}
use Rattle.slate.specs.Slate.{cell, Grid}
use Rattle.paper.specs.Field.{Field, distance²}
use Rattle.paper.specs.Record.{two_numbers_at, view_of}
use Rattle.paper.specs.Questions.{apart, nearest}
use Rattle.field.specs.Boxes.{box_on, corner}
use Rattle.record.specs.declared.Parts.{Parts}
use Rattle.questions.specs.declared.Near.{Near}

-- no two holes are as far apart
abbrev pub no_far : ℕ
no_far = 1_099_511_627_776

-- a is as near as b, or nearer
pub record AsNear (a b : Near) : Type 0 where
  pub far : a.far ≤ b.far
  pub first : a.far ≡ b.far → a.first ≤ b.first
  pub second : a.far ≡ b.far → a.first ≡ b.first → a.second ≤ b.second

-- two holes of a field
abbrev pub near : Field → ℕ × ℕ → Near
near H q = record { far = apart H q; first = q.0; second = q.1 }

-- the holes of two nodes on the slate that are as far apart as d says; of one hole each, whose places are the low corners of their boxes
abbrev pub near_at : List ℕ → ℕ × ℕ → ℕ → Near
near_at w p d =
    record {
      far = d;
      first = min (cell w LOWEST p.0) (cell w LOWEST p.1);
      second = max (cell w LOWEST p.0) (cell w LOWEST p.1);
    }

abbrev pub near_on : List ℕ → ℕ × ℕ → Near
near_on w p = near_at w p (distance² (corner (box_on w 2 p.0)) (corner (box_on w 2 p.1)))

-- both sides of a pair have one hole
pub record OneEach (w : List ℕ) (p : ℕ × ℕ) : Type 0 where
  pub left : cell w HOLES p.0 ≡ 1
  pub right : cell w HOLES p.1 ≡ 1

-- r is the holes of a pair that has one on each side
pub record PairIs (w : List ℕ) (p : ℕ × ℕ) (r : Near) : Type 0 where
  pub one : OneEach w p
  pub is : r ≡ near_on w p

-- r is the nearer of b and the holes of a pair
pub record PairNearer (w : List ℕ) (p : ℕ × ℕ) (b r : Near) : Type 0 where
  pub kept : AsNear r b
  pub least : OneEach w p → AsNear r (near_on w p)
  pub small : OneEach w p → r.far < no_far
  pub which : (r ≡ b) ⊎ PairIs w p r

-- pair k is in a list of bytes, and there are rows for its nodes; the same of m pairs
pub record PairThere (w ps : List ℕ) (k : ℕ) : Type 0 where
  pub grid : Grid w
  pub here : 4 * k + 4 ≤ length ps
  pub left : (two_numbers_at ps (4 * k)).0 < 2_048
  pub right : (two_numbers_at ps (4 * k)).1 < 2_048

pub record PairsThere (w ps : List ℕ) (m : ℕ) : Type 0 where
  pub grid : Grid w
  pub all : 4 * m ≤ length ps
  pub left : (k : ℕ) → k < m → (two_numbers_at ps (4 * k)).0 < 2_048
  pub right : (k : ℕ) → k < m → (two_numbers_at ps (4 * k)).1 < 2_048

-- r is the nearest two holes of the first m pairs, where one of them has one hole on both sides
pub record OneIs (w ps : List ℕ) (m : ℕ) (r : Near) : Type 0 where
  pub which : ℕ
  pub listed : which < m
  pub is : PairIs w (two_numbers_at ps (4 * which)) r

pub record NearestPair (w ps : List ℕ) (m : ℕ) (r : Near) : Type 0 where
  pub least : (k : ℕ) → k < m → OneEach w (two_numbers_at ps (4 * k)) → AsNear r (near_on w (two_numbers_at ps (4 * k)))
  pub small : (k : ℕ) → k < m → OneEach w (two_numbers_at ps (4 * k)) → r.far < no_far
  pub one : r.far < no_far → OneIs w ps m r

-- two holes or more, at a ratio above 2
pub record Wanted (p : Parts) : Type 0 where
  pub more : p.n ≡ 1 → ⊥
  pub high : 2 * p.ratio.b < p.ratio.a

-- r is the closest two holes
pub record NearestHoles (bytes : List ℕ) (r : Near) : Type 0 where
  pub is : let H = (view_of bytes).holes in r ≡ near H (nearest H)
  pub small : r.far < no_far
