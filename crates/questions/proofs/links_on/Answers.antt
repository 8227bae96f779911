-- The refusal of the inspection. Assumes nothing.
use Rattle.std.proofs.Common.{rules}
use Rattle.std.proofs.lemmas.Result.{err_from_is_err_and}
use Rattle.questions.proofs.LinkReplies.{links_refused}
use Rattle.questions.proofs.links_on.Goals as goal

pub returns-in_err-p : goal.returns-in_err-p
returns-in_err-p c =
    let p = err_from_is_err_and c.from_residual.result c.from_residual.ensures.1 in
    rw (p.1, p.2) (links_refused _ _ _ c.in_err-p.ensures (search rules))
