-- One case for each return. Assumes nothing.
use Rattle.std.proofs.Common.{rules, arith}
use Rattle.std.proofs.lemmas.Result.{err_from_is_err_and}
use Rattle.questions.proofs.Replies.{pitch-single, is-pitch}
use Rattle.questions.proofs.pitch_of.Goals as goal

pub returns-then-parts-eq1 : goal.returns-then-parts-eq1
returns-then-parts-eq1 c =
    let k = c.requires.parts in pitch-single c.requires c.args.p (omega (arith, k.n_is, k.framing.some))

pub returns-in_err-far : goal.returns-in_err-far
returns-in_err-far c =
    let p = err_from_is_err_and c.from_residual.result c.from_residual.ensures.1 in
    rw (p.1, p.2) (is-pitch c.requires c.args.p (search rules) c.in_err-far.ensures)

pub returns : goal.returns
returns c = rw c.keeps_pitch.ensures (is-pitch c.requires c.args.p (search rules) c.in_ok-far.ensures)
