-- How long a record is: its first two bytes, and for each section its count and as many bytes as its things have. For holes of any number
-- of coordinates; with two, and 2n - 1 nodes, "The whole is 6 + 12n + 4m bytes". Assumes nothing.
use mathlib.Core.Path.{◌≡◌}
use mathlib.Core.List.{List}
use Prim.Native.Nat.{ℕ, ◌+◌, ◌*◌, ◌≤◌}
use native.Mathlib.Omega.{arith}
use lib.ListN.{length, length-append}
use Rattle.words.specs.Words.{bytes}
use Rattle.words.proofs.Laws.{length-bytes}
use Rattle.paper.specs.Lists.{joined}
use Rattle.paper.specs.Field.{Hole, Field, hole_bytes}
use Rattle.paper.specs.Record.{View, two_numbers, written, nodes_of, whole}
use Rattle.theory.specs.Trees.{Each}
use Rattle.theory.proofs.EachLaws.{each, each_map, length-joined}

-- a node's entry or a pair, and a list of them
pub length_two : (x : ℕ × ℕ) → length (two_numbers x) ≡ 4
length_two x = rw (length-append, length-bytes, length-bytes)

pub length-numbers : (xs : List (ℕ × ℕ)) → length (joined two_numbers xs) ≡ 4 * length xs
length-numbers xs = length-joined 4 two_numbers xs (each length_two xs)

-- a hole, and the coordinate list of a field
length-hole : (h : Hole) → length (hole_bytes h) ≡ 2 * length h
length-hole h = length-joined 2 (bytes 2) h (each (length-bytes 2) h)

pub length_coordinates : (d : ℕ) (H : Field) → Each (λ h. length h ≡ d) H → length (joined hole_bytes H) ≡ 2 * d * length H
length_coordinates d H f = length-joined (2 * d) hole_bytes H (each_map (λ h e. rw (← e) (length-hole h)) H f)

pub length-written : (d : ℕ) (v : View) → Each (λ h. length h ≡ d) v.holes
    → length (written v) ≡ 10 + 2 * d * length v.holes + 4 * length v.nodes + 4 * length v.pairs
unfolding written
length-written d v f = simp (length-append, length-bytes, length_coordinates d v.holes f, length-numbers) (omega arith)

pub length_whole : (v : View) → Each (λ h. length h ≡ 2) v.holes → 1 ≤ length v.holes → length v.nodes ≡ nodes_of (length v.holes)
    → length (written v) ≡ whole (length v.holes) (length v.pairs)
length_whole v f s e = omega (arith, length-written 2 v f)
