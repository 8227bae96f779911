-- Document 01's table of refusals once more, its conditions as statements: what "exactly when its condition holds and none before it in
-- order does" means without any test. Assumes nothing.
use Rattle.std.specs.Prelude.{◌≡◌, ◌≢◌, List, [], ◌∷◌, ◌++◌, ℕ, ◌+◌, ◌*◌, ◌-◌, ◌/◌, ◌%◌, ◌≤◌, ◌<◌, get_or, length}
use Rattle.paper.specs.Field.{Field, holes_at, most_holes, Ratio, least_work}
use Rattle.paper.specs.Record.{View, written, built, holes_start, nodes_start, pairs_start, whole, holes_in, nodes_in, pairs_in, nodes_of, view_of}
use Rattle.paper.specs.Rules.{hole_count, node_count, pair_count, pair, Repeats, Names, NodeRule, PairRule, OnePair}
use Rattle.paper.specs.Refusals.{Least, LeastTwo, most_input}

-- a refusal's number, and that it is due with a value
pub record Condition : Type 1 where
  pub number : ℕ
  pub due : ℕ → Type 0

-- the refusal n with the value x is the first that is due
pub data First : List Condition → ℕ → ℕ → Type 1 where
  here : {c : Condition} {cs : List Condition} {n x : ℕ} → n ≡ c.number → c.due x → First (c ∷ cs) n x
  later : {c : Condition} {cs : List Condition} {n x : ℕ} → ((y : ℕ) → c.due y → ⊥) → First cs n x → First (c ∷ cs) n x

-- none is due
infixr 5 ◌also◌
pub data NoneDue : List Condition → Type 1 where
  all : NoneDue []
  ◌also◌ : {c : Condition} {cs : List Condition} → ((y : ℕ) → c.due y → ⊥) → NoneDue cs → NoneDue (c ∷ cs)

-- the table
abbrev pub odd : ℕ → ℕ → Condition
odd width l = record { number = 1; due = λ x. (l % width ≢ 0) × (x ≡ l) }

abbrev pub none : ℕ → Condition
none n = record { number = 2; due = λ x. (n ≡ 0) × (x ≡ 0) }

abbrev pub many : ℕ → Condition
many n = record { number = 3; due = λ x. (most_holes < n) × (x ≡ n) }

abbrev pub ratio : ℕ → ℕ → Condition
ratio a b = record { number = 4; due = λ x. (Ratio a b → ⊥) × (x ≡ 0) }

abbrev pub work : ℕ → Condition
work l = record { number = 5; due = λ x. (l < least_work) × (x ≡ least_work) }

abbrev pub twice : Field → Condition
twice H = record { number = 6; due = Least (Repeats H) (length H) }

abbrev pub room : ℕ → ℕ → Condition
room l needed = record { number = 7; due = λ x. (l < needed) × (x ≡ needed) }

abbrev pub short : ℕ → ℕ → Condition
short l called = record { number = 8; due = λ x. (l < called) × (x ≡ called) }

abbrev pub count_nodes : ℕ → ℕ → Condition
count_nodes n c = record { number = 9; due = λ x. (c ≢ nodes_of n) × (x ≡ c) }

abbrev pub count_pairs : ℕ → ℕ → Condition
count_pairs n m = record { number = 9; due = λ x. (n * (n - 1) / 2 < m) × (x ≡ m) }

abbrev pub over : ℕ → ℕ → Condition
over l end = record { number = 10; due = λ x. (end < l) × (x ≡ l) }

abbrev pub tree : View → Condition
tree v = record { number = 11; due = Least (λ k. NodeRule v k → ⊥) (node_count v) }

abbrev pub loosely : View → Condition
loosely v =
    record {
      number = 12;
      due = Least (λ k. (0 < k) × ((j : ℕ) → j < node_count v → Names v j k → ⊥)) (node_count v);
    }

abbrev pub paired : View → Condition
paired v = record { number = 13; due = Least (λ k. PairRule v (pair v k) → ⊥) (pair_count v) }

abbrev pub cover : View → Condition
cover v =
    record {
      number = 14;
      due = λ x. (q : ℕ × ℕ) × LeastTwo (λ p. OnePair v p.0 p.1 → ⊥) (hole_count v) q × (x ≡ most_holes * q.0 + q.1);
    }

abbrev pub single : ℕ → Condition
single n = record { number = 15; due = λ x. (n ≡ 1) × (x ≡ 0) }

abbrev pub low : ℕ → ℕ → ℕ → Condition
low times a b = record { number = 16; due = λ x. (a ≤ times * b) × (x ≡ 256 * a + b) }

abbrev pub too_long : ℕ → Condition
too_long l = record { number = 17; due = λ x. (most_input < l) × (x ≡ most_input) }

-- the orders
abbrev pub builder : List ℕ → ℕ → ℕ → ℕ → ℕ → List Condition
builder c a b w o =
    let n = length c / 4 in
    let H = holes_at 2 c 0 n in
    work w ∷ odd 4 (length c) ∷ none n ∷ many n ∷ ratio a b ∷ twice H ∷ room o (length (written (built a b H))) ∷ []

abbrev pub cutting : List ℕ → List Condition
cutting r =
    let l = length r in
    let n = holes_in r in
    let m = pairs_in r in
    short l holes_start
    ∷ ratio (get_or r 0 0) (get_or r 1 0)
    ∷ none n
    ∷ many n
    ∷ short l (nodes_start n)
    ∷ count_nodes n (nodes_in r)
    ∷ short l (pairs_start n)
    ∷ count_pairs n m
    ∷ short l (whole n m)
    ∷ over l (whole n m)
    ∷ []

abbrev pub framing : List ℕ → ℕ → List Condition
framing r w = work w ∷ cutting r

abbrev pub content : View → List Condition
content v = twice v.holes ∷ tree v ∷ loosely v ∷ paired v ∷ cover v ∷ []

abbrev pub checker : List ℕ → ℕ → List Condition
checker r w = framing r w ++ content (view_of r)

abbrev pub closest_order : List ℕ → ℕ → List Condition
closest_order r w = let v = view_of r in checker r w ++ (single (hole_count v) ∷ low 2 v.a v.b ∷ [])

-- "One hole: yes at every ratio; otherwise 16 if a <= 2b"
abbrev pub low_of_more : View → Condition
low_of_more v = record { number = 16; due = λ x. ((hole_count v ≢ 1) × (v.a ≤ 2 * v.b)) × (x ≡ 256 * v.a + v.b) }

abbrev pub pitch_order : List ℕ → ℕ → List Condition
pitch_order r w = checker r w ++ (low_of_more (view_of r) ∷ [])

abbrev pub links_order : List ℕ → ℕ → ℕ → List Condition
links_order r w o = let v = view_of r in checker r w ++ (low 4 v.a v.b ∷ room o (4 * pair_count v) ∷ [])
