-- x is at most 80, so the product is at most 6,400 times what y is, far below 2^64. Assumes nothing.
use mathlib.Core.Path.{refl}
use native.Mathlib.Nat.{mul-le-mul}
use native.Mathlib.Omega.{arith}
use Rattle.field.proofs.weighed.Goals as goal

pub overflow_mul-result : goal.overflow_mul-result
overflow_mul-result c = omega (arith, mul-le-mul c.requires.0 c.requires.0)

pub overflow_mul-result-2 : goal.overflow_mul-result-2
overflow_mul-result-2 c = omega (arith, mul-le-mul (mul-le-mul c.requires.0 c.requires.0) c.requires.1)

pub returns : goal.returns
returns c = refl
