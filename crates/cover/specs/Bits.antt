-- The bits of a number, lowest first. Assumes nothing.
use Rattle.std.specs.Prelude.{◌&&◌, ℕ, ◌/◌, ◌%◌, ◌^◌, leb, ltb}
use Rattle.theory.specs.Trees.{one_if}

unfoldable pub bit : ℕ → ℕ → ℕ
bit v j = v / 2 ^ j % 2

-- 1 where j is from lo up to, not including, hi; else 0
unfoldable pub between : ℕ → ℕ → ℕ → ℕ
between lo hi j = one_if (leb lo j && ltb j hi)
