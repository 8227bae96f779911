-- Document 01, "Questions over a taken record". Assumes nothing.
use Rattle.std.specs.Prelude.{◌≡◌, Bool, true, false, not, List, [], ◌∷◌, ℕ, ◌*◌, min, max, ◌≤◌, ◌<◌, ltb, eqb, length}
use Rattle.paper.specs.Lists.{some_of, first_passing, joined, twos}
use Rattle.paper.specs.Field.{Field, hole, square, distance²}
use Rattle.paper.specs.Record.{View, Part, two_numbers, view_of}
use Rattle.paper.specs.Rules.{hole_count, pair_count, under_node}
use Rattle.paper.specs.Refusals.{Answer, refused, given, in_order◌else◌, single, low, room, check}

-- "Each later question runs the checker first and gives its refusals"
abbrev pub after : {A B : Type 0} → Answer A → Answer B → Answer B
after (refused n v) x = refused n v
after (given a) x = x

-- the squared distance of two holes
unfoldable pub apart : Field → ℕ × ℕ → ℕ
apart H q = distance² (hole H q.0) (hole H q.1)

-- "holes i < j ..; least distance, then least i, then least j": the first two, by i and then by j, that no other two are nearer than
unfoldable pub nearer : Field → ℕ × ℕ → Bool
nearer H p = some_of (λ q. ltb (apart H q) (apart H p)) (twos (length H))

unfoldable pub nearest : Field → ℕ × ℕ
nearest H = first_passing (λ p. not (nearer H p)) (twos (length H)) (0, 0)

-- the same as a statement
pub record Nearest (H : Field) (q : ℕ × ℕ) : Type 0 where
  pub order : q.0 < q.1
  pub within : q.1 < length H
  pub least : (i j : ℕ) → i < j → j < length H → apart H q ≤ apart H (i, j)
  pub first : (i j : ℕ) → i < j → j < length H → apart H (i, j) ≡ apart H q → (i < q.0 → ⊥) × (i ≡ q.0 → j < q.1 → ⊥)

-- "Order: 15, then 16 if a <= 2b"
unfoldable pub closest : List ℕ → ℕ → Answer (ℕ × ℕ × ℕ)
closest r w =
    let v = view_of r in
    let q = nearest v.holes in
    after (check r w)
    (in_order
    single (hole_count v)
    ∷ low 2 v.a v.b
    ∷ []
    else given (q.0, q.1, apart v.holes q))

-- "yes exactly when every two holes' squared distance is at least p²"
unfoldable pub keeps : Field → ℕ → Bool
keeps H p = not (some_of (λ q. ltb (apart H q) (square p)) (twos (length H)))

-- "One hole: yes at every ratio; otherwise 16 if a <= 2b"
unfoldable pub pitch : List ℕ → ℕ → ℕ → Answer Bool
pitch r p w =
    let v = view_of r in
    after (check r w)
    (elim (eqb (hole_count v) 1) [
      | true ↦ given true
      | false ↦ in_order low 2 v.a v.b ∷ [] else given (keeps v.holes p)
    ])

-- the least number of a list
unfoldable pub lowest : List ℕ → ℕ
lowest [] = 0
lowest (x ∷ []) = x
lowest (x ∷ y ∷ l) = min x (lowest (y ∷ l))

-- "for each pair in order, the lowest-numbered hole on each side, smaller number first"
unfoldable pub link : View → ℕ × ℕ → ℕ × ℕ
link v p =
    let i = lowest (under_node v p.0) in
    let j = lowest (under_node v p.1) in
    (min i j, max i j)

-- "two bytes each. Order: 16 if a <= 4b, then 7 if the output is under 4m bytes"
unfoldable pub links : List ℕ → ℕ → ℕ → Answer (List ℕ)
links r w o =
    let v = view_of r in
    after (check r w)
    (in_order
    low 4 v.a v.b
    ∷ room o (4 * pair_count v)
    ∷ []
    else given (joined (λ p. two_numbers (link v p)) v.pairs))

-- "the part of the caller's record that holds them, without the count. For a refused record it is the empty part at the record's start"
unfoldable pub section : (List ℕ → Part) → List ℕ → ℕ → Part
section part r w = elim (check r w) [ refused x y ↦ record { start = 0; size = 0 } | given t ↦ part r ]
