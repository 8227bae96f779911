-- What stands after each call: what was written behind what was written, as many bytes as both. Assumes nothing.
use mathlib.Core.Path.{◌≡◌, ◌∙◌}
use mathlib.Core.List.{List, [], ◌∷◌, ◌++◌, append_assoc}
use Prim.Native.Nat.{ℕ, ◌+◌, ◌^◌, ◌<◌, ◌≤◌}
use native.Mathlib.Omega.{arith}
use lib.ListN.{length, length-append}
use borrow.Author.Tests.{ne_eqb}
use Rattle.std.specs.Fmt.{decimal}
use Rattle.words.proofs.Laws.{written_more}
use Rattle.paper.specs.Refusals.{Answer, given, number, value}
use Rattle.paper.specs.Program.{text, spaced, line_end, closest_line, lines}
use Rattle.paper.specs.Answers.{refuses}
use Rattle.paper.specs.declared.Refusal.{Refusal}
use Rattle.paper.specs.declared.Refusal.TheVariants as R
use Rattle.theory.proofs.Unique.{is_single}
use Rattle.lines.specs.Printing.{Put, refusal_line, count_lines}
use Rattle.lines.proofs.Digits.{decimal-digits, most_digits}

-- one after the other
put_more : {k l : ℕ} {a b c : List ℕ} {at mid to : ℕ} {xs ys : List ℕ} → Put k a b at mid xs → Put l b c mid to ys → Put (k + l) a c at to (xs ++ ys)
put_more {xs} {ys} p q =
    let e : length (xs ++ ys) ≡ length xs + length ys = length-append xs ys in
    record { written = written_more p.written q.written p.end; end = omega arith; few = omega arith }

-- with more room than is needed
put_wide : {k : ℕ} (l : ℕ) {a b : List ℕ} {at to : ℕ} {xs : List ℕ} → k ≤ l → Put k a b at to xs → Put l a b at to xs
put_wide l h p = record { written = p.written; end = p.end; few = omega arith }

-- a space and a number, as std writes it
pub spaced-room : (x : ℕ) {a b ds : List ℕ} {at mid : ℕ} → x < 2 ^ 64 → ds ≡ decimal x → at + 21 ≤ length a → Put 1 a b at mid (32 ∷ []) → mid + length ds ≤ length b
spaced-room x l e h p = rw (e ∙ decimal-digits x l) (omega (arith, most_digits x l, p.end, p.written.len))

pub spaced_done : (x : ℕ) {a b c ds : List ℕ} {at mid to : ℕ} → x < 2 ^ 64 → ds ≡ decimal x → Put 1 a b at mid (32 ∷ [])
    → Put (length ds) b c mid to ds → Put 21 a c at to (spaced x)
unfolding text
spaced_done x l e p q = put_wide 21 (omega (arith, most_digits x l)) (put_more p (rw (e ∙ decimal-digits x l) at q))

-- the last line where there is no closest pair
pub no_pair : {a b : List ℕ} {at to : ℕ} → Put 13 a b at to (text "closest none" ++ line_end) → Put 71 a b at to (closest_line (refuses R.Single))
unfolding closest_line text
no_pair p = put_wide {k = 13} 71 (omega arith) p

pub low-ratio : (x : Refusal) {a b : List ℕ} {at to : ℕ} → (x ≡ R.Single → ⊥) → Put 12 a b at to (text "closest low" ++ line_end)
    → Put 71 a b at to (closest_line (refuses x))
unfolding closest_line text
low-ratio x f p = put_wide {k = 12} 71 (omega arith) (rw (ne_eqb (number x) 15 (λ e. f (is_single x e)), closest_line) p)

-- a word and two numbers; a line of a word and a number
pub two_done : (x y : ℕ) {a b c d ws : List ℕ} {at i j k : ℕ} → Put (length ws) a b at i ws → Put 21 b c i j (spaced x) → Put 21 c d j k (spaced y)
    → Put (length ws + 42) a d at k (ws ++ spaced x ++ spaced y)
two_done x y {ws} p q r = put_wide (length ws + 42) (omega arith) (put_more (put_more p q) r)

pub count_done : (x : ℕ) {a b c d ws : List ℕ} {at i j k : ℕ} → Put (length ws) a b at i ws → Put 21 b c i j (spaced x) → Put 1 c d j k line_end
    → Put (length ws + 22) a d at k (ws ++ spaced x ++ line_end)
count_done x {ws} p q r = put_wide (length ws + 22) (omega arith) (put_more (put_more p q) r)

-- the line of a refused record
pub refusal_done : (x : Refusal) {a b c : List ℕ} {i j n v : ℕ} → n ≡ number x → v ≡ value x → Put 49 a b 0 i (text "refused" ++ spaced n ++ spaced v)
    → Put 1 b c i j line_end → Put 50 a c 0 j (refusal_line x)
refusal_done x m u p q = rw (← m, ← u) (put_more p q)

-- the first two lines of a taken one
regroup : (a b c d e f : List ℕ) → (a ++ b ++ c) ++ (d ++ e ++ f) ≡ a ++ b ++ c ++ d ++ e ++ f
regroup a b c d e f = simp append_assoc

pub counts_done : (n m : ℕ) {a b c : List ℕ} {i j : ℕ} → Put 28 a b 0 i (text "points" ++ spaced n ++ line_end)
    → Put 27 b c i j (text "pairs" ++ spaced m ++ line_end) → Put 55 a c 0 j (count_lines n m)
counts_done n m p q = rw (← regroup (text "points") (spaced n) line_end (text "pairs") (spaced m) line_end) (put_more p q)

-- the closest pair
pub holes_done : (x y z : ℕ) {a b c d : List ℕ} {at i j k : ℕ} → Put 49 a b at i (text "closest" ++ spaced x ++ spaced y) → Put 21 b c i j (spaced z)
    → Put 1 c d j k line_end → Put 71 a d at k (closest_line (given (x, y, z)))
unfolding closest_line
holes_done x y z p q r = put_more (put_more p q) r

-- all the lines
module _ (c : Answer (ℕ × ℕ × ℕ)) where
  pub all_refused : (x : Refusal) {a b : List ℕ} {to : ℕ} → Put 50 a b 0 to (refusal_line x) → Put 128 a b 0 to (lines (refuses x) c)
  unfolding lines
  all_refused x p = put_wide 128 (omega arith) p

  pub all_taken : (n m : ℕ) {a b c' : List ℕ} {i j : ℕ} → Put 55 a b 0 i (count_lines n m) → Put 71 b c' i j (closest_line c)
      → Put 128 a c' 0 j (lines (given (n, m)) c)
  unfolding lines
  all_taken n m p r = put_wide 128 (omega arith) (put_more p r)
