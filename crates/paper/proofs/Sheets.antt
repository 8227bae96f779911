-- Document 01, "Sheets to try": P1 to P9 as one table with one theorem over it, by computation; a second table with what those let through, and a
-- third with the limits and the node rules. Assumes nothing.
use mathlib.Core.Path.{◌≡◌, refl}
use mathlib.Core.Bool.{Bool, true, false}
use mathlib.Core.List.{List, [], ◌∷◌, ◌++◌, map}
use Prim.Native.Nat.{ℕ, ◌+◌, ◌*◌, max}
use lib.ListN.{take, set, replicate}
use Rattle.words.specs.Words.{be, bytes}
use Rattle.paper.specs.Lists.{joined}
use Rattle.paper.specs.Field.{Hole, Field, hole_bytes, list_at, hole_at, holes_at, distance², ratio_ok, least_work}
use Rattle.paper.specs.Tree.{around, box_of, longest, axis, number, under, cut, tree_from, box_at, first, tree_of}
use Rattle.paper.specs.Separation.{G, C, D, separated, far, side}
use Rattle.paper.specs.Pairs.{compared, comparisons, pairs, pairs_of, numbers}
use Rattle.paper.specs.Record.{Part, entries, leaf_mark, written, built, holes_part, nodes_part, pairs_part, view_of}
use Rattle.paper.specs.Rules.{repeats, names, holds, part_ok, node_ok, loose, under_from, under_node, pair_ok, covers, covered_once}
use Rattle.paper.specs.Refusals.{Answer, refused, given, when◌refuse◌, in_order◌else◌, first_uncovered, build, check}
use Rattle.paper.specs.Answers.{left_in}
use Rattle.paper.specs.Questions.{apart, nearer, nearest, closest, keeps, pitch, lowest, link, links, section}
use Rattle.paper.specs.Program.{text, digits_from, digits, closest_line, lines, printed}

-- a sheet asks one of these questions
data Sheet : Type 0 where
  -- the builder's answer for an output of so many bytes, and what it leaves there; the tree's entries and the pairs of a field
  builder : Field → ℕ → ℕ → ℕ → Sheet
  leaving : Field → ℕ → ℕ → ℕ → Sheet
  tree : Field → Sheet
  pairing : Field → ℕ → ℕ → Sheet
  -- whether two sets of holes are separated, and the two numbers that decide it
  sets : List Hole → List Hole → ℕ → ℕ → Sheet
  -- the checker's answer to bytes, the closest pair, the pitch test, the links for an output of so many bytes, a section's place, what the program prints
  checker : List ℕ → Sheet
  closely : List ℕ → Sheet
  pitching : List ℕ → ℕ → Sheet
  linking : List ℕ → ℕ → Sheet
  place : (List ℕ → Part) → List ℕ → Sheet
  program : List ℕ → Sheet

-- every answer as numbers: a refusal as 0, its number and its value
shown : {A : Type 0} → (A → List ℕ) → Answer A → List ℕ
shown f (refused n v) = 0 ∷ n ∷ v ∷ []
shown f (given x) = 1 ∷ f x

flag : Bool → ℕ
flag true = 1
flag false = 0

couple : ℕ × ℕ → List ℕ
couple p = p.0 ∷ p.1 ∷ []

-- an output that is large enough
wide : ℕ
wide = 1_000

asked : Sheet → List ℕ
unfolding be bytes list_at hole_at holes_at distance² ratio_ok around box_of longest axis number under cut tree_from box_at first tree_of
    G C D separated far side compared comparisons pairs pairs_of entries written built holes_part nodes_part pairs_part view_of
    repeats names holds part_ok node_ok loose under_from under_node pair_ok covers covered_once
    when◌refuse◌ in_order◌else◌ first_uncovered build check apart nearer nearest closest keeps pitch lowest link links section
    text digits_from digits closest_line lines printed left_in shown flag couple
asked (builder H a b o) = shown (λ r. r) (build (joined hole_bytes H) a b least_work o)
asked (leaving H a b o) = left_in o (build (joined hole_bytes H) a b least_work o)
asked (tree H) = joined couple (entries (tree_of H))
asked (pairing H a b) = joined (λ p. couple (numbers p)) (pairs_of H a b)
asked (sets S T a b) =
    flag (separated a b (box_of S) (box_of T))
    ∷ b * b * D (box_of S) (box_of T)
    ∷ (2 * b + a) * (2 * b + a) * max (G (box_of S)) (G (box_of T))
    ∷ []
asked (checker r) = shown couple (check r least_work)
asked (closely r) = shown (λ q. q.0 ∷ q.1 ∷ q.2 ∷ []) (closest r least_work)
asked (pitching r p) = shown (λ yes. flag yes ∷ []) (pitch r p least_work)
asked (linking r o) = shown (λ l. l) (links r least_work o)
asked (place part r) = let p = section part r least_work in p.start ∷ p.size ∷ []
asked (program r) = printed r

at : ℕ → ℕ → Hole
at x y = x ∷ y ∷ []

p1 : Field
p1 = at 0 0 ∷ at 10 0 ∷ []

p2 : Field
p2 = at 4 0 ∷ at 2 0 ∷ at 0 0 ∷ at 6 0 ∷ []

p1_record : List ℕ
p1_record =
    0x03 ∷ 0x01 ∷ 0x00 ∷ 0x02 ∷ 0x00 ∷ 0x00 ∷ 0x00 ∷ 0x00 ∷ 0x00 ∷ 0x0A ∷ 0x00 ∷ 0x00 ∷ 0x00 ∷ 0x03 ∷ 0x00 ∷ 0x01 ∷ 0x00 ∷ 0x02
    ∷ 0xFF ∷ 0xFF ∷ 0x00 ∷ 0x00 ∷ 0xFF ∷ 0xFF ∷ 0x00 ∷ 0x01 ∷ 0x00 ∷ 0x00 ∷ 0x00 ∷ 0x01 ∷ 0x00 ∷ 0x01 ∷ 0x00 ∷ 0x02 ∷ []

-- the builder's record of a field
record_of : Field → ℕ → ℕ → List ℕ
record_of H a b = written (built a b H)

P_table : List (Sheet × List ℕ)
P_table =
    -- P1
    (builder p1 3 1 wide, 1 ∷ p1_record)
    -- P2
    ∷ (pairing p2 2 1, 1 ∷ 4 ∷ 2 ∷ 3 ∷ 5 ∷ 6 ∷ [])
    ∷ (sets (at 2 0 ∷ at 0 0 ∷ []) (at 4 0 ∷ at 6 0 ∷ []) 2 1, 1 ∷ 64 ∷ 64 ∷ [])
    ∷ (closely (record_of p2 2 1), 0 ∷ 16 ∷ 513 ∷ [])
    -- P3
    ∷ (pairing p2 9 4, 2 ∷ 5 ∷ 3 ∷ 5 ∷ 1 ∷ 6 ∷ 2 ∷ 3 ∷ 5 ∷ 6 ∷ [])
    ∷ (closely (record_of p2 9 4), 1 ∷ 0 ∷ 1 ∷ 4 ∷ [])
    -- P4
    ∷ (sets (at 2 0 ∷ at 0 0 ∷ []) (at 4 0 ∷ at 6 0 ∷ []) 17 8, 0 ∷ 4_096 ∷ 4_356 ∷ [])
    -- P5
    ∷ (sets (at 0 0 ∷ at 3 4 ∷ []) (at 20 4 ∷ []) 5 1, 1 ∷ 1_385 ∷ 1_225 ∷ [])
    ∷ (sets (at 0 0 ∷ at 3 4 ∷ []) (at 20 4 ∷ []) 6 1, 0 ∷ 1_385 ∷ 1_600 ∷ [])
    -- P6
    ∷ (builder (at 5 5 ∷ at 7 7 ∷ at 5 5 ∷ []) 3 1 wide, 0 ∷ 6 ∷ 2 ∷ [])
    -- P7: the pair count 0 and no pair
    ∷ (checker (set (take 30 p1_record) 29 0), 0 ∷ 14 ∷ 1 ∷ [])
    -- P8: the pair (1,1)
    ∷ (checker (set (set p1_record 31 1) 33 1), 0 ∷ 13 ∷ 0 ∷ [])
    -- P9: the pair (2,1)
    ∷ (checker (set (set p1_record 31 2) 33 1), 1 ∷ 2 ∷ 1 ∷ [])
    ∷ []

-- a foreign record of three holes on a line, at 1/1: the parts of its node 1, the holes of its nodes 3 and 4, and its pairs
foreign : ℕ × ℕ → ℕ → ℕ → List (ℕ × ℕ) → List ℕ
foreign s h k ps =
    written
    (record {
      a = 1;
      b = 1;
      holes = at 0 0 ∷ at 1 0 ∷ at 100 0 ∷ [];
      nodes = (1, 4) ∷ s ∷ (leaf_mark, 0) ∷ (leaf_mark, h) ∷ (leaf_mark, k) ∷ [];
      pairs = ps;
    })

-- with a tree whose root has the parts {0, 1} and {2}, and with the pairs of that tree
three : List (ℕ × ℕ) → List ℕ
three = foreign (2, 3) 1 2

noded : ℕ × ℕ → ℕ → ℕ → List ℕ
noded s h k = foreign s h k ((1, 4) ∷ (2, 3) ∷ [])

second_table : List (Sheet × List ℕ)
second_table =
    -- a hole exactly on the middle goes to the first part
    (tree (at 0 0 ∷ at 2 0 ∷ at 4 0 ∷ []), 1 ∷ 4 ∷ 2 ∷ 3 ∷ leaf_mark ∷ 0 ∷ leaf_mark ∷ 1 ∷ leaf_mark ∷ 2 ∷ [])
    -- a box with equal sides is cut by x
    ∷ (tree (at 0 0 ∷ at 4 0 ∷ at 0 4 ∷ []), 1 ∷ 4 ∷ 2 ∷ 3 ∷ leaf_mark ∷ 0 ∷ leaf_mark ∷ 2 ∷ leaf_mark ∷ 1 ∷ [])
    -- holes 0, 2 are covered twice and 1, 2 not at all; the sizes add up to 3
    ∷ (checker (three ((2, 3) ∷ (2, 4) ∷ (2, 4) ∷ [])), 0 ∷ 14 ∷ 2 ∷ [])
    -- all are covered, 0 and 1 twice
    ∷ (checker (three ((1, 4) ∷ (2, 3) ∷ (3, 2) ∷ [])), 0 ∷ 14 ∷ 1 ∷ [])
    -- no two are covered: the least are named
    ∷ (checker (three []), 0 ∷ 14 ∷ 1 ∷ [])
    -- no holes and a bad ratio: the builder gives 2 before 4, the checker 4 before 2
    ∷ (builder [] 0 1 wide, 0 ∷ 2 ∷ 0 ∷ [])
    ∷ (checker (0 ∷ 1 ∷ 0 ∷ 0 ∷ []), 0 ∷ 4 ∷ 0 ∷ [])
    -- a distance of exactly the pitch is enough; the ratio must be above 2, but for one hole
    ∷ (pitching p1_record 10, 1 ∷ 1 ∷ [])
    ∷ (pitching p1_record 11, 1 ∷ 0 ∷ [])
    ∷ (pitching (record_of (at 0 0 ∷ at 10 0 ∷ []) 2 1) 1, 0 ∷ 16 ∷ 513 ∷ [])
    ∷ (pitching (record_of (at 7 9 ∷ []) 1 1) 9, 1 ∷ 1 ∷ [])
    -- one hole is refused before the ratio
    ∷ (closely (record_of (at 7 9 ∷ []) 1 1), 0 ∷ 15 ∷ 0 ∷ [])
    -- of pairs as near as 0, 3 and 1, 2 and 4, 5 the one with the least first hole, whatever the second
    ∷ (closely (record_of (at 0 0 ∷ at 90 0 ∷ at 91 0 ∷ at 1 0 ∷ at 50 0 ∷ at 51 0 ∷ []) 3 1), 1 ∷ 0 ∷ 3 ∷ 1 ∷ [])
    -- links: the smaller number first, whichever side it is on
    ∷ (linking (record_of (at 10 0 ∷ at 0 0 ∷ []) 5 1) wide, 1 ∷ 0 ∷ 0 ∷ 0 ∷ 1 ∷ [])
    -- of a side with two holes the lowest-numbered, wherever it stands
    ∷ (linking (record_of (at 1 0 ∷ at 0 0 ∷ at 100 0 ∷ []) 5 1) wide, 1 ∷ 0 ∷ 0 ∷ 0 ∷ 2 ∷ 0 ∷ 0 ∷ 0 ∷ 1 ∷ [])
    -- and the ratio must be above 4
    ∷ (linking (record_of (at 10 0 ∷ at 0 0 ∷ []) 4 1) wide, 0 ∷ 16 ∷ 1_025 ∷ [])
    -- each section stands after its count; a refused record's, here P7's, is the empty part at the start
    ∷ (place holes_part p1_record, 4 ∷ 8 ∷ [])
    ∷ (place nodes_part p1_record, 14 ∷ 12 ∷ [])
    ∷ (place pairs_part p1_record, 30 ∷ 4 ∷ [])
    ∷ (place pairs_part (set (take 30 p1_record) 29 0), 0 ∷ 0 ∷ [])
    -- the program's example, and one hole
    ∷ (program p1_record, text "points 2\npairs 1\nclosest 0 1 100\n")
    ∷ (program (record_of (at 7 9 ∷ []) 1 1), text "points 1\npairs 0\nclosest none\n")
    -- two holes at the ratio 2, and nothing at all
    ∷ (program (record_of (at 0 0 ∷ at 10 0 ∷ []) 2 1), text "points 2\npairs 1\nclosest low\n")
    ∷ (program [], text "refused 8 4\n")
    ∷ []

third_table : List (Sheet × List ℕ)
third_table =
    -- the node rules: a tree that meets them
    (checker (noded (2, 3) 1 2), 1 ∷ 3 ∷ 2 ∷ [])
    -- a leaf's hole that is too high, and one that is held before
    ∷ (checker (noded (2, 3) 1 3), 0 ∷ 11 ∷ 4 ∷ [])
    ∷ (checker (noded (2, 3) 0 2), 0 ∷ 11 ∷ 3 ∷ [])
    -- a part that is no higher than its node; too high; named before; the other part
    ∷ (checker (noded (0, 3) 1 2), 0 ∷ 11 ∷ 1 ∷ [])
    ∷ (checker (noded (2, 5) 1 2), 0 ∷ 11 ∷ 1 ∷ [])
    ∷ (checker (noded (5, 3) 1 2), 0 ∷ 11 ∷ 1 ∷ [])
    ∷ (checker (noded (4, 3) 1 2), 0 ∷ 11 ∷ 1 ∷ [])
    ∷ (checker (noded (2, 4) 1 2), 0 ∷ 11 ∷ 1 ∷ [])
    ∷ (checker (noded (2, 2) 1 2), 0 ∷ 11 ∷ 1 ∷ [])
    -- a leaf has no side, so a node of side 1 is split before it
    ∷ (pairing (at 0 0 ∷ at 1 0 ∷ at 3 0 ∷ []) 9 1, 2 ∷ 4 ∷ 3 ∷ 4 ∷ 2 ∷ 3 ∷ [])
    -- a and b at their limits and past them, with no holes
    ∷ (checker (64 ∷ 8 ∷ 0 ∷ 0 ∷ []), 0 ∷ 2 ∷ 0 ∷ [])
    ∷ (checker (65 ∷ 8 ∷ 0 ∷ 0 ∷ []), 0 ∷ 4 ∷ 0 ∷ [])
    ∷ (checker (64 ∷ 9 ∷ 0 ∷ 0 ∷ []), 0 ∷ 4 ∷ 0 ∷ [])
    -- 1,024 holes, which are missing, and 1,025
    ∷ (checker (1 ∷ 1 ∷ 4 ∷ 0 ∷ []), 0 ∷ 8 ∷ 4_102 ∷ [])
    ∷ (checker (1 ∷ 1 ∷ 4 ∷ 1 ∷ []), 0 ∷ 3 ∷ 1_025 ∷ [])
    -- two holes have one pair at most
    ∷ (checker (set p1_record 29 2), 0 ∷ 9 ∷ 2 ∷ [])
    -- an output of just the bytes needed, and of one less; of a record and of links
    ∷ (builder p1 3 1 34, 1 ∷ p1_record)
    ∷ (builder p1 3 1 33, 0 ∷ 7 ∷ 34 ∷ [])
    ∷ (builder (at 0 0 ∷ at 1 0 ∷ at 100 0 ∷ []) 1 1 49, 0 ∷ 7 ∷ 50 ∷ [])
    ∷ (linking (record_of p1 5 1) 4, 1 ∷ 0 ∷ 0 ∷ 0 ∷ 1 ∷ [])
    ∷ (linking (record_of p1 5 1) 3, 0 ∷ 7 ∷ 4 ∷ [])
    -- what is left in an output: the record and then zeros, or only zeros
    ∷ (leaving p1 3 1 36, p1_record ++ (0 ∷ 0 ∷ []))
    ∷ (leaving p1 3 1 3, 0 ∷ 0 ∷ 0 ∷ [])
    -- both coordinates count, and a number below 10 has one digit
    ∷ (closely (record_of (at 0 0 ∷ at 3 4 ∷ []) 3 1), 1 ∷ 0 ∷ 1 ∷ 25 ∷ [])
    ∷ (program (record_of (at 0 0 ∷ at 3 0 ∷ []) 3 1), text "points 2\npairs 1\nclosest 0 1 9\n")
    -- as many bytes as the program reads, and one more
    ∷ (program (replicate 65_536 0), text "refused 4 0\n")
    ∷ (program (replicate 65_537 0), text "refused 17 65536\n")
    ∷ []

answers : List (Sheet × List ℕ) → List (List ℕ)
unfolding asked
answers t = map (λ s. asked s.0) t

expected : List (Sheet × List ℕ) → List (List ℕ)
expected t = map (λ s. s.1) t

P_sheets : answers P_table ≡ expected P_table
unfolding answers expected P_table p1 p2 at p1_record record_of wide
P_sheets = refl

second_sheets : answers second_table ≡ expected second_table
unfolding answers expected second_table three foreign p1_record record_of at wide
second_sheets = refl

third_sheets : answers third_table ≡ expected third_table
unfolding answers expected third_table noded foreign p1 p1_record record_of at
third_sheets = refl
