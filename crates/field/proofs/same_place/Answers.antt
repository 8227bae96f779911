use mathlib.Core.Path.{refl}
use Prim.Native.Nat.{◌*◌}
use borrow.Author.Tests.{tests}
use Rattle.std.proofs.Common.{rules}
use Rattle.std.proofs.lemmas.Iterator.{cases_from_all, YieldsList-from_range}
use Rattle.field.proofs.Places.{Alike, alike}
use Rattle.field.proofs.same_place.Goals as goal

pub returns : goal.returns
returns c =
    let holes = c.args.holes.now in
    let d = c.args.d in
    let o = 2 * d * c.args.i in
    let p = 2 * d * c.args.j in
    alike holes o p d _
    (cases_from_all _ _ _ (Alike holes o p) (λ x. Alike holes o p x → ⊥) c.all.ensures.ran (YieldsList-from_range 0 d d refl (search rules))
    (λ x q k. search (rules, tests)) (λ x q k. search (rules, tests)))
