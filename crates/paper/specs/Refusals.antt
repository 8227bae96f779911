-- Document 01, "Refusals by number": the table, a line each, and the orders of the builder and the checker. Assumes nothing.
use Rattle.std.specs.Prelude.{◌≡◌, Bool, true, false, not, List, [], ◌∷◌, ◌++◌, ℕ, ◌+◌, ◌*◌, ◌-◌, ◌/◌, ◌%◌, ◌<◌, leb, ltb, eqb, get_or, length}
use Rattle.paper.specs.Lists.{some_of, first_passing, below, twos}
use Rattle.paper.specs.Field.{Field, holes_at, most_holes, ratio_ok, least_work}
use Rattle.paper.specs.Record.{View, written, built, holes_start, nodes_start, pairs_start, whole, holes_in, nodes_in, pairs_in, nodes_of, view_of}
use Rattle.paper.specs.Rules.{hole_count, node_count, pair_count, pair, repeats, node_ok, loose, pair_ok, covered_once}
use Rattle.paper.specs.declared.Refusal.{Refusal}
use Rattle.paper.specs.declared.Refusal.TheVariants as R

-- the number of each refusal, and its value
abbrev pub number : Refusal → ℕ
number (R.Odd x) = 1
number R.None = 2
number (R.Many x) = 3
number R.Ratio = 4
number R.Work = 5
number (R.Twice x) = 6
number (R.Room x) = 7
number (R.Short x) = 8
number (R.Count x) = 9
number (R.Over x) = 10
number (R.Tree x) = 11
number (R.Loose x) = 12
number (R.Pair x) = 13
number (R.Cover x) = 14
number R.Single = 15
number (R.Low x) = 16
number R.Long = 17

-- the program reads at most 65,536 bytes
abbrev pub most_input : ℕ
most_input = 65_536

abbrev pub value : Refusal → ℕ
value (R.Odd x) = x
value R.None = 0
value (R.Many x) = x
value R.Ratio = 0
value R.Work = least_work
value (R.Twice x) = x
value (R.Room x) = x
value (R.Short x) = x
value (R.Count x) = x
value (R.Over x) = x
value (R.Tree x) = x
value (R.Loose x) = x
value (R.Pair x) = x
value (R.Cover x) = x
value R.Single = 0
value (R.Low x) = x
value R.Long = most_input

-- an answer is a refusal, with its number and its value, or what was asked for
pub data Answer (A : Type 0) : Type 0 where
  refused : ℕ → ℕ → Answer A
  given : A → Answer A

-- a line of the table: when, and what is then refused
pub record Line : Type 0 where
  pub holds : Bool
  pub refusal : Refusal

infix 69 when◌refuse◌
infix 1 in_order◌else◌
unfoldable pub when◌refuse◌ : Bool → Refusal → Line
when t refuse x = record { holds = t; refusal = x }

-- "It is given exactly when its condition holds and none before it in order does." Where no line holds, the answer is x
unfoldable pub in_order◌else◌ : {A : Type 0} → List Line → Answer A → Answer A
in_order [] else x = x
in_order (l ∷ ls) else x = elim l.holds [ true ↦ refused (number l.refusal) (value l.refusal) | false ↦ in_order ls else x ]

-- the least number below k at which the test holds; and the same as a statement
abbrev pub least : (ℕ → Bool) → ℕ → ℕ
least t k = first_passing t (below k) 0

pub record Least (P : ℕ → Type 0) (k x : ℕ) : Type 0 where
  pub within : x < k
  pub holds : P x
  pub none_before : (j : ℕ) → j < x → P j → ⊥

-- of every two numbers i < j below n: the least i, and for it the least j
pub record LeastTwo (P : ℕ × ℕ → Type 0) (n : ℕ) (q : ℕ × ℕ) : Type 0 where
  pub order : q.0 < q.1
  pub within : q.1 < n
  pub holds : P q
  pub none_before : (i j : ℕ) → i < j → j < n → P (i, j) → (i < q.0 → ⊥) × (i ≡ q.0 → j < q.1 → ⊥)

-- the table. l is a length, n a number of holes
abbrev pub odd : ℕ → ℕ → Line
odd width l = when (not (eqb (l % width) 0)) refuse (R.Odd l)

abbrev pub none : ℕ → Line
none n = when (eqb n 0) refuse R.None

abbrev pub many : ℕ → Line
many n = when (ltb most_holes n) refuse (R.Many n)

abbrev pub ratio : ℕ → ℕ → Line
ratio a b = when (not (ratio_ok a b)) refuse R.Ratio

abbrev pub work : ℕ → Line
work l = when (ltb l least_work) refuse R.Work

abbrev pub twice : Field → Line
twice H = when (some_of (repeats H) (below (length H))) refuse (R.Twice (least (repeats H) (length H)))

abbrev pub room : ℕ → ℕ → Line
room l needed = when (ltb l needed) refuse (R.Room needed)

abbrev pub short : ℕ → ℕ → Line
short l called = when (ltb l called) refuse (R.Short called)

abbrev pub count_nodes : ℕ → ℕ → Line
count_nodes n x = when (not (eqb x (nodes_of n))) refuse (R.Count x)

abbrev pub count_pairs : ℕ → ℕ → Line
count_pairs n m = when (ltb (n * (n - 1) / 2) m) refuse (R.Count m)

abbrev pub over : ℕ → ℕ → Line
over l end = when (ltb end l) refuse (R.Over l)

-- a node, a pair that breaks its rule; two holes that are not covered exactly once
abbrev pub bad_node : View → ℕ → Bool
bad_node v k = not (node_ok v k)

abbrev pub bad_pair : View → ℕ → Bool
bad_pair v k = not (pair_ok v (pair v k))

abbrev pub uncovered : View → ℕ × ℕ → Bool
uncovered v q = not (covered_once v q)

abbrev pub tree : View → Line
tree v = when (some_of (bad_node v) (below (node_count v))) refuse (R.Tree (least (bad_node v) (node_count v)))

abbrev pub loosely : View → Line
loosely v = when (some_of (loose v) (below (node_count v))) refuse (R.Loose (least (loose v) (node_count v)))

abbrev pub paired : View → Line
paired v = when (some_of (bad_pair v) (below (pair_count v))) refuse (R.Pair (least (bad_pair v) (pair_count v)))

-- "1,024·i + j, least i then j"
unfoldable pub first_uncovered : View → ℕ × ℕ
first_uncovered v = first_passing (uncovered v) (twos (hole_count v)) (0, 0)

abbrev pub cover : View → Line
cover v =
    let q = first_uncovered v in
    when (some_of (uncovered v) (twos (hole_count v))) refuse (R.Cover (most_holes * q.0 + q.1))

abbrev pub single : ℕ → Line
single n = when (eqb n 1) refuse R.Single

-- the ratio a/b is times or less
abbrev pub low : ℕ → ℕ → ℕ → Line
low times a b = when (leb a (times * b)) refuse (R.Low (256 * a + b))

abbrev pub too_long : ℕ → Line
too_long l = when (ltb most_input l) refuse R.Long

-- "Builder's order: 5, 1, 2, 3, 4, 6, 7." c is the coordinate list, w and o are the lengths of work area and output
unfoldable pub build : List ℕ → ℕ → ℕ → ℕ → ℕ → Answer (List ℕ)
build c a b w o =
    let n = length c / 4 in
    let H = holes_at 2 c 0 n in
    let r = written (built a b H) in
    in_order
    work w
    ∷ odd 4 (length c)
    ∷ none n
    ∷ many n
    ∷ ratio a b
    ∷ twice H
    ∷ room o (length r)
    ∷ []
    else given r

-- "Checker's order: 5;" then how a record is cut into its parts: "8 (4 bytes); 4; 2, 3; 8 (6 + 4n); 9 for nodes; 8 (6 + 12n); 9 for pairs;
-- 8 (6 + 12n + 4m); 10;"
abbrev pub cutting : List ℕ → List Line
cutting r =
    let l = length r in
    let n = holes_in r in
    let m = pairs_in r in
    short l holes_start
    ∷ ratio (get_or r 0 0) (get_or r 1 0)
    ∷ none n
    ∷ many n
    ∷ short l (nodes_start n)
    ∷ count_nodes n (nodes_in r)
    ∷ short l (pairs_start n)
    ∷ count_pairs n m
    ∷ short l (whole n m)
    ∷ over l (whole n m)
    ∷ []

abbrev pub framing : List ℕ → ℕ → List Line
framing r w = work w ∷ cutting r

-- "6; 11; 12; 13; 14." Nothing here depends on how the bytes are laid out
abbrev pub content : View → List Line
content v = twice v.holes ∷ tree v ∷ loosely v ∷ paired v ∷ cover v ∷ []

-- the checker, with w the length of the work area. "A taken record is answered with n and m"
unfoldable pub check : List ℕ → ℕ → Answer (ℕ × ℕ)
check r w = in_order framing r w ++ content (view_of r) else given (holes_in r, pairs_in r)
