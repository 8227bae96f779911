-- The pairs are in their part of the record, and the nearest of them are the closest two holes. Assumes nothing.
use Rattle.questions.proofs.Meaning.{pairs_there, nearest-least}
use Rattle.questions.proofs.nearest.Goals as goal

pub nearest_pair-requires : goal.nearest_pair-requires
nearest_pair-requires c = search pairs_there

pub returns : goal.returns
returns c = search nearest-least
