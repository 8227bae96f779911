-- The steps in order, and one case for each return. Assumes nothing.
use borrow.Author.Rules.{rules}
use Rattle.record.proofs.PairCases.{stood, holes_counted, is_pair, all-ready, is-cover, stands-again, is-fine}
use Rattle.record.proofs.inspect_pairs.Goals as goal

ruleset all = (stood, holes_counted, is_pair, all-ready, is-cover, rules)

pub returns-in-Some : goal.returns-in-Some
returns-in-Some c = search all

pub rank-requires : goal.rank-requires
rank-requires c = search all

pub uncovered-requires : goal.uncovered-requires
uncovered-requires c = search all

pub returns-in-Some-uncovered : goal.returns-in-Some-uncovered
returns-in-Some-uncovered c = search all

pub sum_up-requires-clause-stands : goal.sum_up-requires-clause-stands
sum_up-requires-clause-stands c =
    stands-again c.requires.parts_of c.requires.measured c.slice-list.ensures {f = c.check_pairs.result} c.check_pairs.ensures (search rules) c.rank.ensures
    c.uncovered.ensures (search rules)

pub returns : goal.returns
returns c =
    is-fine c.requires.parts_of c.requires.measured c.slice-list.ensures {f = c.check_pairs.result} c.check_pairs.ensures c.in_default.is c.rank.ensures
    c.uncovered.ensures (search rules)
    c.slice-holes.ensures c.sum_up.ensures
