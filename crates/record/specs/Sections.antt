-- The sections of a record by their names: document 01's part of each, and its place by the parts that `cut` names. Assumes nothing.
use Rattle.std.specs.Prelude.{List, ℕ, ◌*◌, ◌-◌}
use Rattle.paper.specs.Record.{Part, holes_part, nodes_part, pairs_part}
use Rattle.record.specs.declared.Parts.{Parts}
use Rattle.record.specs.declared.Place.{Place}
use Rattle.record.specs.declared.Section.{Section}
use Rattle.record.specs.declared.Section.TheVariants as S

abbrev pub part_of : Section → List ℕ → Part
part_of S.Holes = holes_part
part_of S.Nodes = nodes_part
part_of S.Pairs = pairs_part

abbrev pub named_place : Parts → Section → Place
named_place p S.Holes = record { start = p.holes; size = 4 * p.n }
named_place p S.Nodes = record { start = p.nodes; size = 4 * (2 * p.n - 1) }
named_place p S.Pairs = record { start = p.pairs; size = 4 * p.m }
