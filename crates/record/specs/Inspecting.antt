-- What `inspect` answers, and what it leaves on the slate of a record that is taken: its tree, and for each node how many holes are under it, the
-- lowest of them, their box and their stretch of the ranks. Assumes nothing.
use Rattle.std.specs.Prelude.{◌≡◌, ◌≢◌, List, ℕ, ◌+◌, ◌<◌, ◌≤◌, length, get_or, take, drop, replicate, Result, Ok, Err}
use Rattle.slate.specs.Columns.{HOLES, LOWEST, FROM, ORDER, RANK}
use Rattle.slate.specs.Slate.{cell, column, Grid}
use Rattle.paper.specs.Field.{hole}
use Rattle.paper.specs.Tree.{box_at}
use Rattle.paper.specs.Record.{Part, holes_in, pairs_in, view_of}
use Rattle.paper.specs.Rules.{hole_count, node_count, NodeRule, under_node, Record}
use Rattle.paper.specs.Refusals.{given, check}
use Rattle.paper.specs.Questions.{lowest, section}
use Rattle.paper.specs.Answers.{refuses}
use Rattle.paper.specs.declared.Refusal.{Refusal}
use Rattle.theory.specs.Trees.{Alike}
use Rattle.field.specs.Boxes.{box_on}
use Rattle.tree.specs.Standing.{tree_on}
use Rattle.record.specs.Cutting.{PartsOf}
use Rattle.record.specs.declared.Parts.{Parts}
use Rattle.record.specs.declared.Place.{Place}

pub record Filled (r w : List ℕ) : Type 0 where
  pub grid : Grid w
  pub tree : Alike (view_of r) (tree_on w (holes_in r))
  pub holes : (k : ℕ) → k < node_count (view_of r) → cell w HOLES k ≡ length (under_node (view_of r) k)
  pub lowest : (k : ℕ) → k < node_count (view_of r) → cell w LOWEST k ≡ lowest (under_node (view_of r) k)
  pub box : (k : ℕ) → k < node_count (view_of r) → box_on w 2 k ≡ box_at (view_of r).holes (under_node (view_of r) k)
  pub order : column w ORDER (holes_in r) ≡ under_node (view_of r) 0
  pub fits : (k : ℕ) → k < node_count (view_of r) → cell w FROM k + cell w HOLES k ≤ holes_in r
  pub stretch : (k : ℕ) → k < node_count (view_of r) → under_node (view_of r) k ≡ take (cell w HOLES k) (drop (cell w FROM k) (under_node (view_of r) 0))
  pub rank : (h : ℕ) → h < holes_in r → cell w RANK h < holes_in r
  pub place : (h : ℕ) → h < holes_in r → get_or (under_node (view_of r) 0) (cell w RANK h) 0 ≡ h

-- what stands on the slate before the pairs are looked at, of a record whose holes and nodes meet their rules
pub record Measured (r w : List ℕ) : Type 0 where
  pub grid : Grid w
  pub distinct : (i j : ℕ) → i < j → j < hole_count (view_of r) → hole (view_of r).holes i ≢ hole (view_of r).holes j
  pub rules : (k : ℕ) → k < node_count (view_of r) → NodeRule (view_of r) k
  pub tree : Alike (view_of r) (tree_on w (holes_in r))
  pub holes : (k : ℕ) → k < node_count (view_of r) → cell w HOLES k ≡ length (under_node (view_of r) k)
  pub lowest : (k : ℕ) → k < node_count (view_of r) → cell w LOWEST k ≡ lowest (under_node (view_of r) k)
  pub box : (k : ℕ) → k < node_count (view_of r) → box_on w 2 k ≡ box_at (view_of r).holes (under_node (view_of r) k)

-- a taken record's parts, and the slate
pub record Inspection (r old new : List ℕ) (p : Parts) : Type 0 where
  pub len : length new ≡ length old
  pub parts : PartsOf r p
  pub rules : Record r
  pub taken : check r (length old) ≡ given (holes_in r, pairs_in r)
  pub filled : Filled r new

-- a refusal is the checker's
pub record Refusing (r old new : List ℕ) (x : Refusal) : Type 0 where
  pub len : length new ≡ length old
  pub refused : check r (length old) ≡ refuses x

abbrev pub InspectSays : List ℕ → List ℕ → List ℕ → Result Parts Refusal → Type 0
InspectSays r old new (Ok p) = Inspection r old new p
InspectSays r old new (Err x) = Refusing r old new x

-- the same when the slate is wiped: the questions that need no more than the parts
pub record Taking (r old new : List ℕ) (p : Parts) : Type 0 where
  pub parts : PartsOf r p
  pub taken : check r (length old) ≡ given (holes_in r, pairs_in r)
  pub wiped : new ≡ replicate (length old) 0

pub record Declining (r old new : List ℕ) (x : Refusal) : Type 0 where
  pub refused : check r (length old) ≡ refuses x
  pub wiped : new ≡ replicate (length old) 0

abbrev pub TakeSays : List ℕ → List ℕ → List ℕ → Result Parts Refusal → Type 0
TakeSays r old new (Ok p) = Taking r old new p
TakeSays r old new (Err x) = Declining r old new x

-- the place of a section, inside the record: `part` is holes_part, nodes_part or pairs_part
pub record Located (part : List ℕ → Part) (r old new : List ℕ) (p : Place) : Type 0 where
  pub start_is : p.start ≡ (section part r (length old)).start
  pub size_is : p.size ≡ (section part r (length old)).size
  pub inside : p.start + p.size ≤ length r
  pub wiped : new ≡ replicate (length old) 0
