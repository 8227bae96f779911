-- What ranking one node needs of the slate, and what it leaves there. Assumes nothing.
use Rattle.std.specs.Prelude.{◌≡◌, ◌≢◌, List, ℕ, ◌+◌, ◌*◌, ◌<◌, length}
use Rattle.words.specs.Area.{word}
use Rattle.slate.specs.Columns.{FIRST, SECOND, HOLES, FROM, ORDER, RANK}
use Rattle.slate.specs.Slate.{cell, Grid}
use Rattle.paper.specs.Record.{leaf_mark}

-- a leaf k that names the hole h: there is a row for its rank and one for its hole
pub record LeafReady (w : List ℕ) (k h : ℕ) : Type 0 where
  pub grid : Grid w
  pub row : k < 2_048
  pub from : cell w FROM k < 2_048
  pub hole : h < 2_048

-- any other node k, of the parts i and j: there is a row for each of them, and the rank of the second part's first hole fits
pub record ForkReady (w : List ℕ) (k i j : ℕ) : Type 0 where
  pub grid : Grid w
  pub row : k < 2_048
  pub first : i < 2_048
  pub second : j < 2_048
  pub different : i ≢ j
  pub fits : cell w FROM k + cell w HOLES i < 65_536

-- either of them
pub record NodeReady (w : List ℕ) (k : ℕ) : Type 0 where
  pub grid : Grid w
  pub row : k < 2_048
  pub leaf : cell w FIRST k ≡ leaf_mark → LeafReady w k (cell w SECOND k)
  pub fork : cell w FIRST k ≢ leaf_mark → ForkReady w k (cell w FIRST k) (cell w SECOND k)

-- every word but two is as it was
pub record AllBut (old new : List ℕ) (a b : ℕ) : Type 0 where
  pub len : length new ≡ length old
  pub rest : (i : ℕ) → i ≢ a → i ≢ b → word new i ≡ word old i

-- hole h and its rank r are each other's
pub record HoleRanked (w : List ℕ) (r h : ℕ) : Type 0 where
  pub order : cell w ORDER r ≡ h
  pub rank : cell w RANK h ≡ r

pub record HoleSet (old new : List ℕ) (r h : ℕ) : Type 0 where
  pub ranked : HoleRanked new r h
  pub kept : AllBut old new (2_048 * ORDER + r) (2_048 * RANK + h)

-- a node's first part starts where the node does, and its second where the first ends
pub record PartsSet (old new : List ℕ) (from holes one two : ℕ) : Type 0 where
  pub first : cell new FROM one ≡ from
  pub second : cell new FROM two ≡ from + holes
  pub kept : AllBut old new (2_048 * FROM + one) (2_048 * FROM + two)

-- so node k has been ranked, as a leaf or as any other
abbrev pub LeafRanked : List ℕ → List ℕ → ℕ → ℕ → Type 0
LeafRanked old new k h = HoleSet old new (cell old FROM k) h

abbrev pub ForkRanked : List ℕ → List ℕ → ℕ → ℕ → ℕ → Type 0
ForkRanked old new k i j = PartsSet old new (cell old FROM k) (cell old HOLES i) i j

pub record NodeRanked (old new : List ℕ) (k : ℕ) : Type 0 where
  pub len : length new ≡ length old
  pub leaf : cell old FIRST k ≡ leaf_mark → LeafRanked old new k (cell old SECOND k)
  pub fork : cell old FIRST k ≢ leaf_mark → ForkRanked old new k (cell old FIRST k) (cell old SECOND k)
