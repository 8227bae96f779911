-- x is at most 131,071, so its square is below 2^34. Assumes nothing.
use mathlib.Core.Path.{refl}
use native.Mathlib.Nat.{mul-le-mul}
use native.Mathlib.Omega.{arith}
use Rattle.field.proofs.squared.Goals as goal

pub overflow_mul-result : goal.overflow_mul-result
overflow_mul-result c = omega (arith, mul-le-mul c.requires c.requires)

pub returns : goal.returns
returns c = record { is = refl; small = omega (arith, mul-le-mul c.requires c.requires) }
