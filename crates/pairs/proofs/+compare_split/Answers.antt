-- What is compared is laid as the pair of two separated nodes, or as what the parts of the one that is split give. Assumes nothing.
use Rattle.std.proofs.Common.{arith}
use Rattle.pairs.proofs.Parted.{one_fits, one_pair, halved, part_one, part_two, both-parts}
use Rattle.pairs.proofs.+compare_split.Goals as goal

pub compare-put_pair-requires : goal.compare-put_pair-requires
compare-put_pair-requires t c = one_fits c.requires (cc)

pub compare-returns-then-apart : goal.compare-returns-then-apart
compare-returns-then-apart t c = one_pair c.requires (cc) c.put_pair.ensures

pub split-compare-middle-requires : goal.split-compare-middle-requires
split-compare-middle-requires t c =
    let r = c.requires.comparing in
    let p = halved r.faces c.requires.near c.halves.ensures in
    (omega (arith, p.less_one), part_one r p)

pub split-compare-requires : goal.split-compare-requires
split-compare-requires t c =
    let r = c.requires.comparing in
    let p = halved r.faces c.requires.near c.halves.ensures in
    (omega (arith, p.less_two), part_two r p c.compare-middle.ensures)

pub split-returns : goal.split-returns
split-returns t c =
    let r = c.requires.comparing in
    both-parts r (halved r.faces c.requires.near c.halves.ensures) c.compare-middle.ensures c.compare.ensures
