-- A pair of nodes on the slate. Assumes nothing.
use Rattle.std.specs.Prelude.{List, ℕ, ◌+◌, ◌*◌, ◌<◌, ◌≤◌, length}
use Rattle.slate.specs.Slate.{Grid}
use Rattle.paper.specs.Separation.{Separated}
use Rattle.paper.specs.Record.{nodes_of}
use Rattle.field.specs.Boxes.{box_on}

-- the slate has a tree of n holes, and there are m pairs in a list of bytes
pub record PairsIn (w ps : List ℕ) (n m : ℕ) : Type 0 where
  pub grid : Grid w
  pub some : 1 ≤ n
  pub few : n ≤ 1_024
  pub all : 4 * m ≤ length ps
  pub most : m ≤ 523_776

pub record PairIn (w ps : List ℕ) (n k : ℕ) : Type 0 where
  pub grid : Grid w
  pub some : 1 ≤ n
  pub few : n ≤ 1_024
  pub here : 4 * k + 4 ≤ length ps

-- the pair's nodes are below 2n - 1, and their boxes on the slate are separated
pub record PairOn (w : List ℕ) (d a b n : ℕ) (p : ℕ × ℕ) : Type 0 where
  pub left : p.0 < nodes_of n
  pub right : p.1 < nodes_of n
  pub far : Separated a b (box_on w d p.0) (box_on w d p.1)
