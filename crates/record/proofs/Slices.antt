-- The slices of a record that `cut` finds, and what they say when they are read from their own start. A reading that looks at nothing but the
-- bytes from its place on reads the same from a slice as from the record. Assumes nothing.
use mathlib.Core.Path.{◌≡◌, refl, sym, ap₂, ◌∙◌}
use mathlib.Core.List.{List, ◌∷◌, map}
use Prim.Native.Nat.{ℕ, zero, suc, ◌+◌, ◌*◌, ◌≤◌, ◌<◌}
use native.Mathlib.Nat.{add_assoc, zero-add, mul-le-mul_left}
use native.Mathlib.Omega.{arith}
use lib.ListN.{length, get_or, take, drop, length-take, length-drop}
use lib.Seq.{get_or-take, get_or-drop}
use Rattle.words.specs.Words.{be}
use Rattle.words.proofs.Laws.{be-same}
use Rattle.paper.specs.Lists.{from}
use Rattle.paper.specs.Field.{list_at, hole_at, holes_at}
use Rattle.paper.specs.Record.{two_numbers_at, holes_start, nodes_start, pairs_start, holes_in, pairs_in, nodes_of, view_of}
use Rattle.paper.specs.Rules.{node, pair}
use Rattle.theory.proofs.RoundTrip.{view_node, view_pair}
use Rattle.record.specs.Cutting.{Framing, holes_slice, nodes_slice, pairs_slice}

-- a reading that looks at nothing but the w bytes from its place on
abbrev pub Looks : {B : Type 0} → ℕ → (List ℕ → ℕ → B) → Type 0
Looks w read = (s t : List ℕ) (i j : ℕ) → ((k : ℕ) → k < w → get_or s (i + k) 0 ≡ get_or t (j + k) 0) → read s i ≡ read t j

-- n bytes from the place o on
slice_length : (n o : ℕ) (r : List ℕ) → o + n ≤ length r → length (take n (drop o r)) ≡ n
slice_length n o r l = simp (length-take, length-drop) (omega arith)

slice_byte : (n o : ℕ) (r : List ℕ) (k : ℕ) → k < n → get_or (take n (drop o r)) k 0 ≡ get_or r (o + k) 0
slice_byte n o r k l = rw (get_or-take, get_or-drop)

-- thing k is w bytes that stand below w * n
inside : (w n k x : ℕ) → k < n → x < w → w * k + x < w * n
inside w n k x l h = let m : k + 1 ≤ n = omega arith in omega (arith, mul-le-mul_left w m)

module _ {B : Type 0} (read : List ℕ → ℕ → B) (w : ℕ) (looks : Looks w read) where
  pub list_looks : (n : ℕ) → Looks (w * n) (λ r o. list_at read w r o n)
  unfolding list_at
  list_looks n s t i j same =
      each 0 n (λ k h l. looks s t (i + w * k) (j + w * k)
      (λ x m. rw (add_assoc i, add_assoc j) (same (w * k + x) (inside w n k x (omega arith) m))))
    where
      each : (a n : ℕ) → ((k : ℕ) → a ≤ k → k < a + n → read s (i + w * k) ≡ read t (j + w * k))
          → map (λ k. read s (i + w * k)) (from a n) ≡ map (λ k. read t (j + w * k)) (from a n)
      each a zero f = refl
      each a (suc n) f =
          ap₂ {C = List B} (λ x xs. x ∷ xs) (f a (omega arith) (omega arith)) (each (suc a) n (λ k h l. f k (omega arith) (omega arith)))

  -- the n things from the place o on, and thing k of them
  pub slice_list : (r : List ℕ) (o n : ℕ) → list_at read w (take (w * n) (drop o r)) 0 n ≡ list_at read w r o n
  slice_list r o n = list_looks n (take (w * n) (drop o r)) r 0 o (λ k l. rw zero-add (slice_byte (w * n) o r k l))

  pub slice_thing : (r : List ℕ) (o n k : ℕ) → k < n → read (take (w * n) (drop o r)) (w * k) ≡ read r (o + w * k)
  slice_thing r o n k l =
      looks (take (w * n) (drop o r)) r (w * k) (o + w * k) (λ x m. rw add_assoc (slice_byte (w * n) o r (w * k + x) (inside w n k x l m)))

pub two_looks : Looks 4 two_numbers_at
two_looks s t i j same =
    ap₂ {C = ℕ × ℕ} (λ x y. (x, y)) (be-same 2 s t i j (λ k l. same k (omega arith)))
    (be-same 2 s t (i + 2) (j + 2) (λ k l. rw (add_assoc i, add_assoc j) (same (2 + k) (omega arith))))

pub hole_looks : (d : ℕ) → Looks (2 * d) (hole_at d)
unfolding hole_at
hole_looks d = list_looks (be 2) 2 (be-same 2) d

-- the slices
module _ (r : List ℕ) where
  module _ (f : Framing r) where
    pub holes-length : length (holes_slice r) ≡ 4 * holes_in r
    holes-length = slice_length _ holes_start r (omega arith)

    pub nodes_length : length (nodes_slice r) ≡ 4 * nodes_of (holes_in r)
    nodes_length = slice_length _ (nodes_start (holes_in r)) r (omega arith)

    pub pairs-length : length (pairs_slice r) ≡ 4 * pairs_in r
    pairs-length = slice_length _ (pairs_start (holes_in r)) r (omega arith)

  pub holes_said : (view_of r).holes ≡ holes_at 2 (holes_slice r) 0 (holes_in r)
  unfolding view_of holes_at
  holes_said = sym (slice_list (hole_at 2) 4 (hole_looks 2) r holes_start (holes_in r))

  pub nodes_said : (view_of r).nodes ≡ list_at two_numbers_at 4 (nodes_slice r) 0 (nodes_of (holes_in r))
  unfolding view_of
  nodes_said = sym (slice_list two_numbers_at 4 two_looks r (nodes_start (holes_in r)) (nodes_of (holes_in r)))

  pub pairs_said : (view_of r).pairs ≡ list_at two_numbers_at 4 (pairs_slice r) 0 (pairs_in r)
  unfolding view_of
  pairs_said = sym (slice_list two_numbers_at 4 two_looks r (pairs_start (holes_in r)) (pairs_in r))

  pub node_said : (k : ℕ) → k < nodes_of (holes_in r) → node (view_of r) k ≡ two_numbers_at (nodes_slice r) (4 * k)
  node_said k l = view_node r k l ∙ sym (slice_thing two_numbers_at 4 two_looks r (nodes_start (holes_in r)) (nodes_of (holes_in r)) k l)

  pub pair_said : (k : ℕ) → k < pairs_in r → pair (view_of r) k ≡ two_numbers_at (pairs_slice r) (4 * k)
  pair_said k l = view_pair r k l ∙ sym (slice_thing two_numbers_at 4 two_looks r (pairs_start (holes_in r)) (pairs_in r) k l)
