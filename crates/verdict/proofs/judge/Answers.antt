-- What was written are the lines for what was read, and those are the lines for the whole input. Assumes nothing.
use Rattle.std.proofs.Common.{◌<◌, length, arith}
use Rattle.verdict.proofs.Reading.{judged}
use Rattle.verdict.proofs.judge.Goals as goal

pub returns : goal.returns
returns g c =
    let long : 65_536 < length c.read_start.new.buffer = omega (arith, c.read_start.auto.buffer) in
    judged _ _ _ _ _ _ c.in_ok-read.ensures long c.report-length.ensures.holds c.write_all.ensures.bytes
