-- Document 01, "Program": from the bytes of standard input to the bytes that are printed. Assumes nothing.
use Rattle.std.specs.Prelude.{true, false, List, [], ◌∷◌, ◌++◌, ℕ, zero, suc, ◌+◌, ◌/◌, ◌%◌, ltb, eqb, length}
use Prim.Native.Char.{code}
use Prim.Native.String.{String, [] as no_text, ◌∷◌ as letter}
use Rattle.paper.specs.Field.{least_work}
use Rattle.paper.specs.Refusals.{Answer, refused, given, in_order◌else◌, too_long, check}
use Rattle.paper.specs.Questions.{closest}

-- a text as bytes
unfoldable pub text : String → List ℕ
text no_text = []
text (letter c s) = code c ∷ text s

-- a number in decimal digits
unfoldable pub digits_from : ℕ → ℕ → List ℕ
digits_from zero x = []
digits_from (suc f) x = elim (ltb x 10) [ true ↦ (48 + x) ∷ [] | false ↦ digits_from f (x / 10) ++ ((48 + x % 10) ∷ []) ]

unfoldable pub digits : ℕ → List ℕ
digits x = digits_from (suc x) x

-- a space and a number; the end of a line
abbrev pub spaced : ℕ → List ℕ
spaced x = text " " ++ digits x

abbrev pub line_end : List ℕ
line_end = text "\n"

-- "`closest none` for one hole at any ratio, and otherwise `closest low` at a ratio of 2 or less"
unfoldable pub closest_line : Answer (ℕ × ℕ × ℕ) → List ℕ
closest_line (given q) = text "closest" ++ spaced q.0 ++ spaced q.1 ++ spaced q.2 ++ line_end
closest_line (refused number value) = elim (eqb number 15) [ true ↦ text "closest none" ++ line_end | false ↦ text "closest low" ++ line_end ]

-- "`points N`, `pairs M` and `closest I J D`, one a line .. A refused record gives only `refused NUMBER VALUE`"
unfoldable pub lines : Answer (ℕ × ℕ) → Answer (ℕ × ℕ × ℕ) → List ℕ
lines (given t) c = text "points" ++ spaced t.0 ++ line_end ++ text "pairs" ++ spaced t.1 ++ line_end ++ closest_line c
lines (refused number value) c = text "refused" ++ spaced number ++ spaced value ++ line_end

-- "The program gives 17 before all others." It lends the least work area
unfoldable pub printed : List ℕ → List ℕ
printed r = lines (in_order too_long (length r) ∷ [] else check r least_work) (closest r least_work)
