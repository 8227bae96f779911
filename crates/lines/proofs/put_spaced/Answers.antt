-- The space, and behind it the digits as std writes them. Assumes nothing.
use Rattle.std.proofs.Common.{◌∙◌}
use Rattle.paper.specs.Program.{text}
use Rattle.lines.proofs.Putting.{spaced-room, spaced_done}
use Rattle.lines.proofs.put_spaced.Goals as goal

pub put_text-requires : goal.put_text-requires
unfolding text
put_text-requires c =
    spaced-room _ c.ranges.x.fits (c.as_bytes.ensures.value ∙ c.format.ensures.text) c.requires c.put_text-next.ensures

pub returns : goal.returns
unfolding text
returns c =
    spaced_done _ c.ranges.x.fits (c.as_bytes.ensures.value ∙ c.format.ensures.text) c.put_text-next.ensures c.put_text.ensures
