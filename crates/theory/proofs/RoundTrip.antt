-- A record that is written is read back as it was, and a record that is read is written again as the same bytes, whoever made it.
-- Section by section, by the laws of `Reading`. Assumes nothing.
use mathlib.Core.Path.{◌≡◌, refl, ◌∙◌}
use mathlib.Core.List.{List, [], ◌∷◌, ◌++◌, append_assoc, append-nil}
use Prim.Native.Nat.{ℕ, zero, suc, ◌+◌, ◌*◌, ◌≤◌, ◌<◌}
use native.Mathlib.Omega.{arith}
use lib.ListN.{length, get_or, take, drop, length-append}
use lib.Seq.{take-add, take_all}
use Rattle.words.specs.Words.{bytes, Bytes}
use Rattle.words.proofs.Laws.{length-bytes, be_small, bytes_small}
use Rattle.paper.specs.Lists.{joined}
use Rattle.paper.specs.Field.{Field, hole, hole_bytes, hole_at, holes_at}
use Rattle.paper.specs.Record.{
  View,
  two_numbers,
  two_numbers_at,
  written,
  view_of,
  holes_start,
  node_count_at,
  nodes_start,
  pair_count_at,
  pairs_start,
  whole,
  holes_in,
  nodes_in,
  pairs_in,
  nodes_of,
}
use Rattle.paper.specs.Rules.{node, pair}
use Rattle.theory.specs.Trees.{Each}
use Rattle.theory.proofs.EachLaws.{each_map, bytes-append, bytes-joined}
use Rattle.theory.proofs.Lengths.{length_coordinates, length-numbers}
use Rattle.theory.proofs.Reading.{
  Says,
  Small,
  counted,
  section_back,
  section_again,
  get_or-list_at,
  length_list,
  list_back,
  list_again,
  two_ahead,
  two_kept,
  two_again,
  numbers_small,
  hole_ahead,
  holes_kept,
  hole_again,
  length_holes,
  hole_read,
  holes_flat,
  coordinates_small,
}

-- what a record can say: each number and each count fits into its bytes, holes have two coordinates, and n holes have 2n - 1 nodes
pub record Fits (v : View) : Type 0 where
  pub a_small : v.a < 256
  pub b_small : v.b < 256
  pub flat : Each (λ h. length h ≡ 2) v.holes
  pub coordinates : Each (Each (λ x. x < 65_536)) v.holes
  pub some : 1 ≤ length v.holes
  pub nodes_right : length v.nodes ≡ nodes_of (length v.holes)
  pub nodes_few : length v.nodes < 65_536
  pub nodes_small : Each Small v.nodes
  pub pairs_few : length v.pairs < 4_294_967_296
  pub pairs_small : Each Small v.pairs

-- the parts of a record: its ratio, then each section after its count
module _ (v : View) where
  front : List ℕ
  front = v.a ∷ v.b ∷ []

  holes_section : List ℕ
  holes_section = counted 2 hole_bytes v.holes

  nodes_section : List ℕ
  nodes_section = counted 2 two_numbers v.nodes

  pairs-section : List ℕ
  pairs-section = counted 4 two_numbers v.pairs

  sections : written v ≡ front ++ holes_section ++ nodes_section ++ pairs-section
  unfolding written front holes_section nodes_section pairs-section
  sections = refl

  pub a_back : get_or (written v) 0 0 ≡ v.a
  unfolding written
  a_back = refl

  pub b_back : get_or (written v) 1 0 ≡ v.b
  unfolding written
  b_back = refl

-- a record that is written is read back
module _ (v : View) (f : Fits v) where
  holes_said : Says (hole_at 2) 4 2 (written v) 2 holes_start v.holes
  unfolding holes_section front
  holes_said =
      rw (sections v, append_assoc (front v ++ holes_section v), append_assoc (front v))
      (section_back hole_bytes (hole_at 2) 4 2 (hole_ahead 2) (front v) v.holes (nodes_section v ++ pairs-section v) 2 4 refl refl
      (omega (arith, f.nodes_right, f.nodes_few)) (holes_kept 2 v.holes f.flat f.coordinates))

  before_nodes : length (front v ++ holes_section v) ≡ node_count_at (length v.holes)
  unfolding front holes_section
  before_nodes = simp (length-append, length-bytes, length_coordinates 2 v.holes f.flat) (omega arith)

  nodes_said : Says two_numbers_at 4 2 (written v) (node_count_at (length v.holes)) (nodes_start (length v.holes)) v.nodes
  unfolding nodes_section
  nodes_said =
      rw (sections v, append_assoc (front v ++ holes_section v))
      (section_back two_numbers two_numbers_at 4 2 two_ahead (front v ++ holes_section v) v.nodes (pairs-section v) _ _ before_nodes
      (omega arith) f.nodes_few (each_map two_kept v.nodes f.nodes_small))

  before_pairs : length (front v ++ holes_section v ++ nodes_section v) ≡ pair_count_at (length v.holes)
  unfolding nodes_section
  before_pairs =
      rw (length-append, before_nodes) (simp (length-append, length-bytes, length-numbers, f.nodes_right) (omega (arith, f.some)))

  pairs_said : Says two_numbers_at 4 4 (written v) (pair_count_at (length v.holes)) (pairs_start (length v.holes)) v.pairs
  unfolding pairs-section
  pairs_said =
      rw (sections v, ← append-nil (pairs-section v))
      (section_back two_numbers two_numbers_at 4 4 two_ahead (front v ++ holes_section v ++ nodes_section v) v.pairs [] _ _ before_pairs
      (omega arith) f.pairs_few (each_map two_kept v.pairs f.pairs_small))

  pub hole_count_back : holes_in (written v) ≡ length v.holes
  hole_count_back = holes_said.count

  pub node_count_back : nodes_in (written v) ≡ length v.nodes
  node_count_back = rw hole_count_back nodes_said.count

  pub pair_count_back : pairs_in (written v) ≡ length v.pairs
  pair_count_back = rw hole_count_back pairs_said.count

  pub view_back : view_of (written v) ≡ v
  unfolding view_of holes_at
  view_back =
      rw (hole_count_back, holes_said.things, ← f.nodes_right, nodes_said.things, pairs_said.count, pairs_said.things, a_back v, b_back v)

-- its bytes are bytes
pub written_small : (v : View) → v.a < 256 → v.b < 256 → Bytes (written v)
unfolding front holes_section nodes_section pairs-section
written_small v a b =
    rw (sections v)
    (bytes-append (front v ++ holes_section v ++ nodes_section v) (pairs-section v)
    (bytes-append (front v ++ holes_section v) (nodes_section v)
    (bytes-append (front v) (holes_section v) two-first (section-small 2 hole_bytes (bytes-joined (bytes 2) (bytes_small 2)) v.holes))
    (section-small 2 two_numbers two-small v.nodes))
    (section-small 4 two_numbers two-small v.pairs))
  where
    two-first : Bytes (v.a ∷ v.b ∷ [])
    two-first zero = a
    two-first (suc zero) = b
    two-first (suc (suc k)) = omega arith

    two-small : (x : ℕ × ℕ) → Bytes (two_numbers x)
    two-small x = bytes-append (bytes 2 x.0) (bytes 2 x.1) (bytes_small 2 x.0) (bytes_small 2 x.1)

    section-small : {B : Type 0} (c : ℕ) (put : B → List ℕ) → ((x : B) → Bytes (put x)) → (xs : List B) → Bytes (counted c put xs)
    section-small c put g xs = bytes-append (bytes c (length xs)) (joined put xs) (bytes_small c (length xs)) (bytes-joined put g xs)

-- what the bytes of a record say
module _ (r : List ℕ) where
  pub view_holes : length (view_of r).holes ≡ holes_in r
  unfolding view_of
  view_holes = length_holes 2 r holes_start (holes_in r)

  pub view_nodes : length (view_of r).nodes ≡ nodes_of (holes_in r)
  unfolding view_of
  view_nodes = length_list two_numbers_at 4 r (nodes_start (holes_in r)) (nodes_of (holes_in r))

  pub view_pairs : length (view_of r).pairs ≡ pairs_in r
  unfolding view_of
  view_pairs = length_list two_numbers_at 4 r (pairs_start (holes_in r)) (pairs_in r)

  pub view_flat : Each (λ h. length h ≡ 2) (view_of r).holes
  unfolding view_of
  view_flat = holes_flat 2 r holes_start (holes_in r)

  pub view_hole : (i : ℕ) → i < holes_in r → hole (view_of r).holes i ≡ hole_at 2 r (holes_start + 4 * i)
  unfolding view_of
  view_hole i l = hole_read 2 r holes_start (holes_in r) i l

  pub view_node : (k : ℕ) → k < nodes_of (holes_in r) → node (view_of r) k ≡ two_numbers_at r (nodes_start (holes_in r) + 4 * k)
  unfolding view_of
  view_node k l = get_or-list_at two_numbers_at 4 r (nodes_start (holes_in r)) (nodes_of (holes_in r)) k (0, 0) l

  pub view_pair : (k : ℕ) → k < pairs_in r → pair (view_of r) k ≡ two_numbers_at r (pairs_start (holes_in r) + 4 * k)
  unfolding view_of
  view_pair k l = get_or-list_at two_numbers_at 4 r (pairs_start (holes_in r)) (pairs_in r) k (0, 0) l

-- the parts that a list was taken into, end to end
put_together : (r : List ℕ) (i j k l : ℕ) {p q s t : List ℕ} → p ≡ take i r → q ≡ take j (drop i r) → s ≡ take k (drop (i + j) r)
    → t ≡ take l (drop (i + j + k) r) → length r ≡ i + j + k + l → p ++ q ++ s ++ t ≡ r
put_together r i j k l e f g h z =
    rw (e, f, g, h, ← take-add i j r, ← take-add (i + j) k r, ← take-add (i + j + k) l r) (take_all (i + j + k + l) r (omega arith))

-- its first two bytes
first_two : (r : List ℕ) → 2 ≤ length r → get_or r 0 0 ∷ get_or r 1 0 ∷ [] ≡ take 2 r
first_two [] l = absurd (omega arith)
first_two (x ∷ []) l = absurd (omega arith)
first_two (x ∷ y ∷ r) l = refl

-- a record that is read is written again as the same bytes
module _ (r : List ℕ) (b : Bytes r) (s : 1 ≤ holes_in r) (e : nodes_in r ≡ nodes_of (holes_in r)) where
  pub view_fits : Fits (view_of r)
  unfolding view_of
  view_fits =
      let n : nodes_in r < 65_536 = be_small 2 r (node_count_at (holes_in r)) b in
      record {
        a_small = b 0;
        b_small = b 1;
        flat = view_flat r;
        coordinates = coordinates_small 2 r holes_start (holes_in r) b;
        some = rw (view_holes r) s;
        nodes_right = rw (view_holes r) (view_nodes r);
        nodes_few = rw (view_nodes r) (omega arith);
        nodes_small = numbers_small r (nodes_start (holes_in r)) (nodes_of (holes_in r)) b;
        pairs_few = rw (view_pairs r) (be_small 4 r (pair_count_at (holes_in r)) b);
        pairs_small = numbers_small r (pairs_start (holes_in r)) (pairs_in r) b;
      }

  pub written_again : length r ≡ whole (holes_in r) (pairs_in r) → written (view_of r) ≡ r
  unfolding view_of holes_at front holes_section nodes_section pairs-section
  written_again l =
      let n = holes_in r in
      let u = 2 + 4 * n in
      let w = 2 + 4 * nodes_of n in
      let at-nodes : node_count_at n ≡ 2 + u = omega arith in
      let at-pairs : pair_count_at n ≡ 2 + u + w = omega arith in
      let two = two_again r b in
      sections (view_of r)
      ∙ put_together r 2 u w (4 + 4 * pairs_in r) (first_two r (omega arith))
      (section_again hole_bytes (hole_at 2) 4 2 r b (hole_again 2 r b) 2 holes_start n refl refl (omega arith))
      (section_again two_numbers two_numbers_at 4 2 r b two (2 + u) (nodes_start n) (nodes_of n) (omega arith) (rw at-nodes at e) (omega arith))
      (section_again two_numbers two_numbers_at 4 4 r b two (2 + u + w) (pairs_start n) (pairs_in r) (omega arith) (rw at-pairs) (omega arith))
      (omega arith)

-- the coordinate list, for holes of any number of coordinates
pub coordinates_back : (d : ℕ) (H : Field) → Each (λ h. length h ≡ d) H → Each (Each (λ x. x < 65_536)) H
    → holes_at d (joined hole_bytes H) 0 (length H) ≡ H
unfolding holes_at
coordinates_back d H f s = rw append-nil at (list_back hole_bytes (hole_at d) (2 * d) (hole_ahead d) [] H [] 0 refl (holes_kept d H f s))

pub coordinates_again : (d n : ℕ) (c : List ℕ) → Bytes c → length c ≡ 2 * d * n → joined hole_bytes (holes_at d c 0 n) ≡ c
unfolding holes_at
coordinates_again d n c b e =
    list_again hole_bytes (hole_at d) (2 * d) c (hole_again d c b) 0 n (omega arith) ∙ take_all (2 * d * n) c (omega arith)
