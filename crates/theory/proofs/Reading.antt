-- Reading and writing of things of w bytes each. What is written is read back, and what is read is written again as the bytes that it was
-- read from: one law each way for a list of such things, by induction from its first thing on, and so for coordinates, holes, nodes and pairs.
-- Assumes nothing.
use mathlib.Core.Path.{◌≡◌, refl, sym, ap₂, ◌∙◌}
use mathlib.Core.List.{List, [], ◌∷◌, ◌++◌, map, append_assoc}
use Prim.Native.Nat.{ℕ, zero, suc, ◌+◌, ◌*◌, ◌^◌, ◌≤◌, ◌<◌}
use native.Mathlib.Nat.{mul-zero}
use native.Mathlib.Omega.{arith}
use lib.ListN.{length, get_or, take, drop, length-append}
use lib.Seq.{take-add, drop-drop}
use Rattle.words.specs.Words.{be, bytes, Bytes}
use Rattle.words.proofs.Laws.{be_ahead, be-bytes, bytes-be, length-bytes, be_small}
use Rattle.paper.specs.Lists.{joined, from}
use Rattle.paper.specs.Field.{Hole, Field, hole, hole_bytes, list_at, hole_at, holes_at}
use Rattle.paper.specs.Record.{two_numbers, two_numbers_at}
use Rattle.theory.specs.Trees.{Each}
use Rattle.theory.proofs.EachLaws.{each_map, each_map₂, length-joined}
use Rattle.theory.proofs.Lengths.{length_two}

-- a reading that only looks ahead of its place
abbrev pub Ahead : {B : Type 0} → (List ℕ → ℕ → B) → Type 0
Ahead at = (p r : List ℕ) (i : ℕ) → at (p ++ r) (length p + i) ≡ at r i

-- x is written in w bytes, and read back from them
pub record Kept {B : Type 0} (put : B → List ℕ) (at : List ℕ → ℕ → B) (w : ℕ) (x : B) : Type 0 where
  pub wide : length (put x) ≡ w
  pub back : (r : List ℕ) → at (put x ++ r) 0 ≡ x

-- what is read from w bytes of r is written as those bytes
abbrev pub Again : {B : Type 0} → (B → List ℕ) → (List ℕ → ℕ → B) → ℕ → List ℕ → Type 0
Again put at w r = (o : ℕ) → o + w ≤ length r → put (at r o) ≡ take w (drop o r)

module _ {B : Type 0} (at : List ℕ → ℕ → B) (w : ℕ) where
  -- no thing; and the first thing, then the others from w bytes further on
  list_none : (r : List ℕ) (o : ℕ) → list_at at w r o 0 ≡ []
  unfolding list_at
  list_none r o = refl

  list_cons : (r : List ℕ) (o n : ℕ) → list_at at w r o (suc n) ≡ at r o ∷ list_at at w r (o + w) n
  unfolding list_at
  list_cons r o n = ap₂ {C = List B} (λ x xs. x ∷ xs) (let e : o + w * 0 ≡ o = omega arith in rw e) (further 0 n)
    where
      further : (i n : ℕ) → map (λ k. at r (o + w * k)) (from (suc i) n) ≡ map (λ k. at r (o + w + w * k)) (from i n)
      further i zero = refl
      further i (suc n) =
          let e : o + w * suc i ≡ o + w + w * i = omega arith in
          ap₂ {C = List B} (λ x xs. x ∷ xs) (rw e) (further (suc i) n)

  pub length_list : (r : List ℕ) (o n : ℕ) → length (list_at at w r o n) ≡ n
  length_list r o zero = rw list_none
  length_list r o (suc n) = rw (list_cons, length_list r (o + w) n)

  -- thing k
  pub get_or-list_at : (r : List ℕ) (o n k : ℕ) (d : B) → k < n → get_or (list_at at w r o n) k d ≡ at r (o + w * k)
  get_or-list_at r o zero k d l = absurd (omega arith)
  get_or-list_at r o (suc n) zero d l = let e : o + w * 0 ≡ o = omega arith in rw (list_cons, e)
  get_or-list_at r o (suc n) (suc k) d l =
      let e : o + w * suc k ≡ o + w + w * k = omega arith in
      rw (list_cons, e) (get_or-list_at r (o + w) n k d (omega arith))

  pub each_list : (P : B → Type 0) (r : List ℕ) → ((o : ℕ) → P (at r o)) → (o n : ℕ) → Each P (list_at at w r o n)
  each_list P r f o zero = rw list_none tt
  each_list P r f o (suc n) = rw list_cons (f o, each_list P r f (o + w) n)

  list_ahead : Ahead at → (n : ℕ) → Ahead (λ r o. list_at at w r o n)
  list_ahead a zero p r i = rw (list_none, list_none)
  list_ahead a (suc n) p r i =
      let e : length p + i + w ≡ length p + (i + w) = omega arith in
      rw (list_cons (p ++ r), list_cons r, e, a p r i, list_ahead a n p r (i + w))

module _ {B : Type 0} (put : B → List ℕ) (at : List ℕ → ℕ → B) (w : ℕ) where
  -- written after p and read back
  pub list_back : Ahead at → (p : List ℕ) (xs : List B) (r : List ℕ) (o : ℕ) → length p ≡ o → Each (Kept put at w) xs
      → list_at at w (p ++ (joined put xs ++ r)) o (length xs) ≡ xs
  list_back a p [] r o e h = list_none at w (p ++ r) o
  list_back a p (x ∷ xs) r o e h =
      let f : o ≡ length p + 0 = omega arith in
      list_cons at w (p ++ (put x ++ joined put xs ++ r)) o (length xs)
      ∙ ap₂ {C = List B} (λ y ys. y ∷ ys)
      (rw (f, a p (put x ++ joined put xs ++ r) 0, append_assoc) (h.0.back _))
      (rw (append_assoc (put x), ← append_assoc p) (list_back a (p ++ put x) xs r (o + w) (rw length-append (omega (arith, h.0.wide))) h.1))

  -- read and written again
  pub list_again : (r : List ℕ) → Again put at w r → (o n : ℕ) → o + w * n ≤ length r → joined put (list_at at w r o n) ≡ take (w * n) (drop o r)
  list_again r a o zero l = rw (list_none, mul-zero)
  list_again r a o (suc n) l =
      let e : w * suc n ≡ w + w * n = omega arith in
      rw (list_cons, e, a o (omega arith), list_again r a (o + w) n (omega arith), take-add, drop-drop)

  -- a list of things that are kept is kept as one thing
  list_kept : Ahead at → (xs : List B) → Each (Kept put at w) xs → Kept (joined put) (λ r o. list_at at w r o (length xs)) (w * length xs) xs
  list_kept a xs h =
      record { wide = length-joined w put xs (each_map (λ x k. k.wide) xs h); back = λ r. list_back a [] xs r 0 refl h }

-- numbers of c bytes
number_kept : (c x : ℕ) → x < 256 ^ c → Kept (bytes c) (be c) c x
number_kept c x l = record { wide = length-bytes c x; back = λ r. be-bytes c x r l }

number_again : (c : ℕ) (r : List ℕ) → Bytes r → Again (bytes c) (be c) c r
number_again c r b o l = bytes-be c r o b l

-- two numbers of two bytes
abbrev pub Small : ℕ × ℕ → Type 0
Small p = (p.0 < 65_536) × (p.1 < 65_536)

pub two_ahead : Ahead two_numbers_at
two_ahead p r i =
    let e : length p + i + 2 ≡ length p + (i + 2) = omega arith in
    rw (e, be_ahead 2 p r i, be_ahead 2 p r (i + 2))

pub two_kept : (x : ℕ × ℕ) → Small x → Kept two_numbers two_numbers_at 4 x
two_kept x s =
    record {
      wide = length_two x;
      back = λ r.
          let e = rw length-bytes at (be_ahead 2 (bytes 2 x.0) (bytes 2 x.1 ++ r) 0) in
          rw (append_assoc, be-bytes 2 x.0 (bytes 2 x.1 ++ r) s.0, e, be-bytes 2 x.1 r s.1);
    }

pub two_again : (r : List ℕ) → Bytes r → Again two_numbers two_numbers_at 4 r
two_again r b o l = rw (bytes-be 2 r o b (omega arith), bytes-be 2 r (o + 2) b (omega arith), ← drop-drop) (sym (take-add 2 2 (drop o r)))

pub numbers_small : (r : List ℕ) (o n : ℕ) → Bytes r → Each Small (list_at two_numbers_at 4 r o n)
numbers_small r o n b = each_list two_numbers_at 4 Small r (λ i. (be_small 2 r i b, be_small 2 r (i + 2) b)) o n

-- holes of d coordinates
pub hole_ahead : (d : ℕ) → Ahead (hole_at d)
unfolding hole_at
hole_ahead d = list_ahead (be 2) 2 (be_ahead 2) d

hole_kept : (d : ℕ) (h : Hole) → length h ≡ d → Each (λ x. x < 65_536) h → Kept hole_bytes (hole_at d) (2 * d) h
unfolding hole_at
hole_kept d h e s = rw (← e) (list_kept (bytes 2) (be 2) 2 (be_ahead 2) h (each_map (number_kept 2) h s))

pub holes_kept : (d : ℕ) (H : Field) → Each (λ h. length h ≡ d) H → Each (Each (λ x. x < 65_536)) H → Each (Kept hole_bytes (hole_at d) (2 * d)) H
holes_kept d H f s = each_map₂ (hole_kept d) H f s

pub hole_again : (d : ℕ) (r : List ℕ) → Bytes r → Again hole_bytes (hole_at d) (2 * d) r
unfolding hole_at
hole_again d r b o l = list_again (bytes 2) (be 2) 2 r (number_again 2 r b) o d l

-- a field of them: how many, hole i, and its coordinate x
pub length_holes : (d : ℕ) (r : List ℕ) (o n : ℕ) → length (holes_at d r o n) ≡ n
unfolding holes_at
length_holes d r o n = length_list (hole_at d) (2 * d) r o n

pub hole_read : (d : ℕ) (r : List ℕ) (o n i : ℕ) → i < n → hole (holes_at d r o n) i ≡ hole_at d r (o + 2 * d * i)
unfolding holes_at
hole_read d r o n i l = get_or-list_at (hole_at d) (2 * d) r o n i [] l

pub coordinate_read : (d : ℕ) (r : List ℕ) (o x : ℕ) → x < d → get_or (hole_at d r o) x 0 ≡ be 2 r (o + 2 * x)
unfolding hole_at
coordinate_read d r o x l = get_or-list_at (be 2) 2 r o d x 0 l

-- each has d coordinates, and they are small
pub holes_flat : (d : ℕ) (r : List ℕ) (o n : ℕ) → Each (λ h. length h ≡ d) (holes_at d r o n)
unfolding holes_at hole_at
holes_flat d r o n = each_list (hole_at d) (2 * d) (λ h. length h ≡ d) r (λ i. length_list (be 2) 2 r i d) o n

pub coordinates_small : (d : ℕ) (r : List ℕ) (o n : ℕ) → Bytes r → Each (Each (λ x. x < 65_536)) (holes_at d r o n)
unfolding holes_at hole_at
coordinates_small d r o n b =
    each_list (hole_at d) (2 * d) (Each (λ x. x < 65_536)) r (λ i. each_list (be 2) 2 (λ x. x < 65_536) r (λ j. be_small 2 r j b) i d) o n

-- "each after its count": how many things there are, in c bytes, and then the things
abbrev pub counted : {B : Type 0} → ℕ → (B → List ℕ) → List B → List ℕ
counted c put xs = bytes c (length xs) ++ joined put xs

-- the count at o and the things at t say xs
pub record Says {B : Type 0} (at : List ℕ → ℕ → B) (w c : ℕ) (s : List ℕ) (o t : ℕ) (xs : List B) : Type 0 where
  pub count : be c s o ≡ length xs
  pub things : list_at at w s t (length xs) ≡ xs

module _ {B : Type 0} (put : B → List ℕ) (at : List ℕ → ℕ → B) (w c : ℕ) where
  pub section_back : Ahead at → (p : List ℕ) (xs : List B) (r : List ℕ) (o t : ℕ) → length p ≡ o → o + c ≡ t → length xs < 256 ^ c
      → Each (Kept put at w) xs → Says at w c (p ++ (counted c put xs ++ r)) o t xs
  section_back a p xs r o t e f l h =
      let z : o ≡ length p + 0 = omega arith in
      record {
        count = rw (append_assoc, z, be_ahead c p (bytes c (length xs) ++ (joined put xs ++ r)) 0) (be-bytes c (length xs) (joined put xs ++ r) l);
        things = rw (append_assoc, ← append_assoc p)
            (list_back put at w a (p ++ bytes c (length xs)) xs r t (rw (length-append, length-bytes, e) f) h);
      }

  pub section_again : (r : List ℕ) → Bytes r → Again put at w r → (o t n : ℕ) → o + c ≡ t → be c r o ≡ n → o + (c + w * n) ≤ length r
      → counted c put (list_at at w r t n) ≡ take (c + w * n) (drop o r)
  section_again r b a o t n f e l =
      rw (length_list at w r t n, ← e, bytes-be c r o b (omega arith), e, list_again put at w r a t n (omega arith), take-add, drop-drop, f)
