-- What the builder asks of each step and answers at each return, over plain variables. Assumes nothing.
use mathlib.Core.Path.{◌≡◌, refl, sym, ap, ◌∙◌}
use mathlib.Core.List.{List, ◌∷◌, ◌++◌, append_assoc}
use Prim.Native.Nat.{ℕ, ◌+◌, ◌*◌, ◌≤◌}
use native.Mathlib.Omega.{arith}
use lib.ListN.{length, length-append, length-map}
use Rattle.words.specs.Words.{bytes, Written}
use Rattle.words.proofs.Laws.{length-bytes, written_more, written_before, is_written}
use Rattle.paper.specs.Lists.{joined}
use Rattle.paper.specs.Field.{holes_at}
use Rattle.paper.specs.Record.{nodes_of, two_numbers, written, built}
use Rattle.theory.proofs.EachLaws.{length_from}
use Rattle.theory.proofs.Lengths.{length-numbers}
use Rattle.theory.proofs.Reading.{length_holes}
use Rattle.theory.proofs.RoundTrip.{coordinates_again}
use Rattle.tree.specs.Standing.{tree_on}
use Rattle.pairs.specs.Listing.{Listed, pairs_on}
use Rattle.record.specs.Building.{Buildable, Drawn, head, node_bytes, front, FrontFits}

-- what is listed where all of it fits is written there
listed_there : {ps : List (ℕ × ℕ)} {start r : ℕ} {old new : List ℕ} → Listed ps start old new r → start + 4 * length ps ≤ length old
    → Written old new start (joined two_numbers ps)
listed_there {ps} l room = is_written (omega (arith, length-numbers ps)) (rw (length-numbers ps) (l.there room))

-- a record, part by part
parts_same : (a b : ℕ) {l n i j k m : ℕ} {hs c : List ℕ} {ns us ps qs : List (ℕ × ℕ)} → l ≡ n → hs ≡ c → i ≡ j → ns ≡ us → k ≡ m → ps ≡ qs
    → ◌≡◌ {A = List ℕ} (a ∷ b ∷ (bytes 2 l ++ hs) ++ (bytes 2 i ++ joined two_numbers ns) ++ (bytes 4 k ++ joined two_numbers ps))
    ((a ∷ b ∷ (bytes 2 n ++ c) ++ (bytes 2 j ++ joined two_numbers us) ++ bytes 4 m) ++ joined two_numbers qs)
parts_same a b {n} {j} {m} {c} {us} {qs} e f g h k l =
    rw (e, f, g, h, k, l) (sym (append_assoc (a ∷ b ∷ (bytes 2 n ++ c) ++ (bytes 2 j ++ joined two_numbers us)) (bytes 4 m) (joined two_numbers qs)))

length_nodes : (w : List ℕ) (n : ℕ) → length (tree_on w n).nodes ≡ nodes_of n
unfolding tree_on
length_nodes w n = simp (length-map, length_from) refl

-- the lengths of what stands before the pairs
head-length : {c : List ℕ} {n : ℕ} (a b : ℕ) → Buildable c n → length (head c a b n) ≡ 4 + 4 * n
head-length {c} {n} a b f = omega (arith, length-append (bytes 2 n) c, length-bytes 2 n, f.even)

nodes_length : (w : List ℕ) (n : ℕ) → length (node_bytes w n) ≡ 2 + 4 * nodes_of n
nodes_length w n =
    let ns = (tree_on w n).nodes in
    omega (
      arith,
      length-append (bytes 2 (nodes_of n)) (joined two_numbers ns),
      length-bytes 2 (nodes_of n),
      length-numbers ns,
      length_nodes w n,
    )

front_length : {c : List ℕ} {n : ℕ} (a b m : ℕ) (w : List ℕ) → Buildable c n → length (front c a b n m w) ≡ 6 + 12 * n
front_length {c} {n} a b m w f =
    omega (
      arith,
      length-append (head c a b n ++ node_bytes w n) (bytes 4 m),
      length-append (head c a b n) (node_bytes w n),
      head-length a b f,
      nodes_length w n,
      length-bytes 4 m,
      f.some,
    )

pub front_done : {c w out p q v : List ℕ} {a b n : ℕ} (m : ℕ) → FrontFits c n w out → Written out p 0 (head c a b n)
    → Written p q (4 + 4 * n) (node_bytes w n) → Written q v (2 + 12 * n) (bytes 4 m) → Written out v 0 (front c a b n m w)
front_done {c} {w} {a} {b} {n} m f h s t =
    let one = written_more h s (omega (arith, head-length a b f.field)) in
    written_more one t (omega (arith, head-length a b f.field, nodes_length w n, length-append (head c a b n) (node_bytes w n), f.field.some))

-- the whole record is the front and then the pairs
module _ {c w : List ℕ} {a b n m : ℕ} (f : Buildable c n) (d : Drawn c a b n w) (count : m ≡ length (pairs_on w 2 a b n)) where
  record_is : written (built a b (holes_at 2 c 0 n)) ≡ front c a b n m w ++ joined two_numbers (pairs_on w 2 a b n)
  unfolding written built
  record_is =
      parts_same a b (length_holes 2 c 0 n) (coordinates_again 2 n c f.small f.even) (ap length (sym d.nodes) ∙ length_nodes w n)
      (sym d.nodes) (ap length (sym d.pairs) ∙ sym count) (sym d.pairs)

  pub record_done : {out p v : List ℕ} {r : ℕ} → Listed (pairs_on w 2 a b n) (6 + 12 * n) out p r → r ≤ length p
      → Written p v 0 (front c a b n m w) → Written out v 0 (written (built a b (holes_at 2 c 0 n)))
  record_done l room s =
      let there = listed_there l (omega (arith, l.next, l.len)) in
      rw record_is (written_before there s (omega (arith, front_length a b m w f)))
