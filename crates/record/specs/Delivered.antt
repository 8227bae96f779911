-- What demand 2 asks of a finished build, in one place. Assumes nothing.
use Rattle.std.specs.Prelude.{◌≡◌, List, map, ℕ, ◌-◌, ◌/◌, length, take, drop, replicate}
use Rattle.paper.specs.Lists.{joined}
use Rattle.paper.specs.Field.{Field, holes_at, hole_bytes}
use Rattle.paper.specs.Tree.{tree_of}
use Rattle.paper.specs.Pairs.{pairs_of, numbers}
use Rattle.paper.specs.Record.{view_of, written, built, whole}
use Rattle.theory.specs.Trees.{grow}

-- the field that a list of coordinates says
abbrev pub field_of : List ℕ → Field
field_of c = holes_at 2 c 0 (length c / 4)

-- a call with the coordinates c and the ratio a/b said that it wrote n bytes, and left `out`
pub record Delivered (c : List ℕ) (a b n : ℕ) (out : List ℕ) : Type 0 where
  -- they are the record of the field, its tree and its pairs, as long as document 01 says; zeros follow
  pub bytes : take n out ≡ written (built a b (field_of c))
  pub size : n ≡ whole (length c / 4) (length (pairs_of (field_of c) a b))
  pub zeros : drop n out ≡ replicate (length out - n) 0
  -- they read back to the same ratio, holes, nodes and pairs
  pub view : view_of (take n out) ≡ built a b (field_of c)
  -- these are the holes that were given, the split tree of document 01 and its pairs in order
  pub holes : joined hole_bytes (view_of (take n out)).holes ≡ c
  pub tree : grow (view_of (take n out)) 0 ≡ tree_of (field_of c)
  pub pairs : (view_of (take n out)).pairs ≡ map numbers (pairs_of (field_of c) a b)
  -- and writing that again gives the same bytes
  pub again : written (view_of (take n out)) ≡ take n out
