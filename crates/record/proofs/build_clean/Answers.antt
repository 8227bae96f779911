-- The tests in document 01's order, one case for each return. Assumes nothing.
use native.Mathlib.Omega.{arith}
use borrow.Author.Rules.{rules}
use Rattle.std.proofs.lemmas.Result.{err_from_is_err_and}
use Rattle.record.proofs.BuildAnswers.{refuse_work, refuse-odd, refuse-none, refuse-many, refuse-ratio, refuse-twice, buildable}
use Rattle.record.proofs.build_clean.Goals as goal

pub returns-then-work-lt65536 : goal.returns-then-work-lt65536
returns-then-work-lt65536 c = search (refuse_work, rules)

pub returns-then-len-ne0 : goal.returns-then-len-ne0
returns-then-len-ne0 c = search (refuse-odd, rules)

pub returns-then-n-eq0 : goal.returns-then-n-eq0
returns-then-n-eq0 c = search (refuse-none, rules)

pub returns-then-n-gt1024 : goal.returns-then-n-gt1024
returns-then-n-gt1024 c = search (refuse-many, rules)

pub returns-in_err-ratio : goal.returns-in_err-ratio
returns-in_err-ratio c =
    let p = err_from_is_err_and c.from_residual.result c.from_residual.ensures.1 in
    rw (p.1, p.2) (search (refuse-ratio, c.in_err-ratio.ensures, rules))

pub returns-in-Some : goal.returns-in-Some
returns-in-Some c =
    let e = c.in_ok-ratio.ensures in
    let ratio = rw (e.0, e.1) at c.in_ok-ratio.ratio.in_range in
    search (refuse-twice, rules)

pub fill-requires-clause-buildable : goal.fill-requires-clause-buildable
fill-requires-clause-buildable c =
    buildable c.args.holes.now (λ k. omega (arith, (c.type_inv.holes k).fits)) c.repeated.ensures
    (search rules) (search rules) (search rules) (search rules)
