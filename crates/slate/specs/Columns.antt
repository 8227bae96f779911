-- The columns by name, as the code has them. Assumes nothing.
use Rattle.std.specs.Prelude.{ℕ}

abbrev pub FIRST : ℕ
FIRST = 0

abbrev pub SECOND : ℕ
SECOND = 1

abbrev pub HOLES : ℕ
HOLES = 2

abbrev pub LOWEST : ℕ
LOWEST = 3

abbrev pub REACH : ℕ
REACH = 4

abbrev pub FROM : ℕ
FROM = 4

abbrev pub ORDER : ℕ
ORDER = 5

abbrev pub RANK : ℕ
RANK = 6

abbrev pub MARKS : ℕ
MARKS = 7

abbrev pub SCRATCH : ℕ
SCRATCH = 8

abbrev pub TALLY : ℕ
TALLY = 9

abbrev pub SIDE : ℕ
SIDE = 9

-- axis x has LOW + 2 * x and HIGH + 2 * x
abbrev pub LOW : ℕ
LOW = 10

abbrev pub HIGH : ℕ
HIGH = 11

abbrev pub SKIP : ℕ
SKIP = 15
