-- The steps in order, and one case for each return. Assumes nothing.
use borrow.Author.Rules.{rules}
use Rattle.record.proofs.NodeCases.{is_twice, is-tree, stood, is-loose, all-measured}
use Rattle.record.proofs.inspect_nodes.Goals as goal

pub returns-in-Some : goal.returns-in-Some
returns-in-Some c = search is_twice

pub returns-in-Some-load : goal.returns-in-Some-load
returns-in-Some-load c = search is-tree

pub returns-in-Some-loose : goal.returns-in-Some-loose
returns-in-Some-loose c = search is-loose

pub sum_up-requires-clause-stands : goal.sum_up-requires-clause-stands
sum_up-requires-clause-stands c =
    stood c.requires.parts_of c.repeated.ensures c.requires.grid (search rules) (search rules) (search rules) c.load.ensures (search rules)

pub inspect_pairs-requires-clause-measured : goal.inspect_pairs-requires-clause-measured
inspect_pairs-requires-clause-measured c = search all-measured
