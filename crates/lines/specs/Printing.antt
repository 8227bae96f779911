-- What writing the program's lines leaves. Assumes nothing.
use Rattle.std.specs.Prelude.{◌≡◌, List, ◌++◌, ℕ, ◌+◌, ◌-◌, ◌≤◌, length, replicate}
use Rattle.words.specs.Words.{Written}
use Rattle.paper.specs.Refusals.{number, value}
use Rattle.paper.specs.Field.{least_work}
use Rattle.paper.specs.Program.{text, spaced, line_end, printed}
use Rattle.paper.specs.declared.Refusal.{Refusal}

-- bs, which are at most `most` bytes, stand from `at` on, and `to` is the place after them
pub record Put (most : ℕ) (old new : List ℕ) (at to : ℕ) (bs : List ℕ) : Type 0 where
  pub written : Written old new at bs
  pub end : to ≡ at + length bs
  pub few : length bs ≤ most

-- the line of a refused record; the first two lines of a taken one
abbrev pub refusal_line : Refusal → List ℕ
refusal_line x = text "refused" ++ spaced (number x) ++ spaced (value x) ++ line_end

abbrev pub count_lines : ℕ → ℕ → List ℕ
count_lines n m = text "points" ++ spaced n ++ line_end ++ text "pairs" ++ spaced m ++ line_end

-- an output of 128 bytes that holds bs and then zeros; r is how many bytes bs are
pub record Holds (bs out : List ℕ) (r : ℕ) : Type 0 where
  pub is : r ≡ length bs
  pub fits : r ≤ length out
  pub output : out ≡ bs ++ replicate (128 - length bs) 0

-- the output holds what the program prints for these bytes, and the work area is all zero
pub record Reports (bytes work out : List ℕ) (r : ℕ) : Type 0 where
  pub holds : Holds (printed bytes) out r
  pub wiped : work ≡ replicate least_work 0
