-- The quotient, rounded up, of numbers that are small: the ratio is. Assumes nothing.
use mathlib.Core.Path.{◌≡◌}
use Prim.Native.Nat.{ℕ, ◌+◌, ◌*◌, ◌-◌, ◌/◌, ◌≤◌, ◌<◌, max}
use native.Mathlib.Nat.{mul-le-mul, div-le_self, le-div_iff_mul-le, div-lt_iff_lt-mul}
use native.Mathlib.Omega.{arith}
use borrow.Author.Rules.{rules}
use Rattle.std.specs.Int.{div_ceil}
use Rattle.std.proofs.lemmas.Grind.{div_ceil_times}
use Rattle.paper.specs.Field.{Ratio, square}
use Rattle.paper.specs.Tree.{Box}
use Rattle.paper.specs.Separation.{G}
use Rattle.field.specs.Reach.{reach}
use Rattle.field.specs.Sides.{Squared}
use Rattle.field.proofs.Reaching.{some_square}
use Rattle.field.proofs.reach.Goals as goal

some_parts : {a b q : ℕ} → Ratio a b → Squared b q → 0 < q
some_parts r s = omega (arith, some_square r, s.is)

up : (x q : ℕ) → 0 < q → div_ceil x q ≡ (x + (q - 1)) / q
up x q p =
    let t = div_ceil_times x q p in
    let low = (le-div_iff_mul-le {k = q} {x = div_ceil x q} {y = x + (q - 1)} p).1 (omega (arith, t.1)) in
    let high = (div-lt_iff_lt-mul {k = q} {x = x + (q - 1)} {y = div_ceil x q + 1} p).1 (omega (arith, t.0)) in
    omega (arith, low, high)

found : {a b g k q u z r : ℕ} (B : Box) → Ratio a b → g ≡ G B → z ≡ square (2 * b + a) * g → Squared b q → k ≡ div_ceil u q → u ≡ z → r ≡ max k 1
    → r ≡ reach a b B
unfolding reach
found {q = q} {u = u} B t e f s d i h = rw (← e, ← f, ← i, ← s.is) (omega (arith, h, d, up u q (some_parts t s)))

small : {a b g k u z r : ℕ} (q : ℕ) → Ratio a b → g < 51_539_607_552 → z ≡ square (2 * b + a) * g → k ≡ div_ceil u q → u ≡ z → r ≡ max k 1
    → r < 562_949_953_421_312
small {a} {b} {u = u} q t l e d i h =
    let m : 2 * b + a ≤ 80 = omega (arith, t.a_high, t.b_high) in
    omega (arith, h, d, e, i, mul-le-mul (mul-le-mul m m) l, div-le_self u q)

pub div_ceil-requires : goal.div_ceil-requires
div_ceil-requires c = search (some_parts, rules)

pub returns : goal.returns
returns c =
    let t = c.args.ratio.in_range in
    let g = c.girth.ensures in
    let z = c.weighed-size.ensures in
    (found _ t g.0 z c.squared-parts.ensures c.div_ceil.ensures (omega arith) c.max.ensures, small _ t g.1 z c.div_ceil.ensures (omega arith) c.max.ensures)
