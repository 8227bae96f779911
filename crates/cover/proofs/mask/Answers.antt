-- A power of two up to 16 loses no bit, and the lesser power is no more than the greater. Assumes nothing.
use Rattle.std.proofs.Common.{◌≡◌, ℕ, ◌≤◌, ◌*◌, ◌%◌, ◌^◌, arith, pow_mono, shl_exact}
use Rattle.cover.proofs.mask.Goals as goal

power : (k : ℕ) → k ≤ 16 → 1 * 2 ^ k % 2 ^ 64 ≡ 2 ^ k
power k l = omega (arith, shl_exact {a = 1} 1 k 64 (omega arith) (omega arith))

pub overflow_sub-result : goal.overflow_sub-result
overflow_sub-result c = rw (power c.args.bits.from (omega arith), power c.args.bits.end (omega arith)) (pow_mono c.requires.0)

pub returns : goal.returns
returns c = rw (power c.args.bits.from (omega arith), power c.args.bits.end (omega arith))
