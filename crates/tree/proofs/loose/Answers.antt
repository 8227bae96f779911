-- The search starts at 1, so what it finds is above 0. Assumes nothing.
use Rattle.std.proofs.Common.{◌≡◌, List, ℕ, ◌<◌, ◌≤◌, Option, Some, None, MatchOption, rules, tests, arith}
use Rattle.std.proofs.lemmas.Iterator.{first_from_Range}
use Rattle.slate.specs.Columns.{MARKS}
use Rattle.slate.specs.Slate.{cell}
use Rattle.field.specs.Found.{Finds}
use Rattle.tree.proofs.loose.Goals as goal

abbrev Free : List ℕ → ℕ → Type 0
Free w k = cell w MARKS k ≡ 0

found : (w : List ℕ) (n : ℕ) (r : Option ℕ)
    → MatchOption r ((k : ℕ) → 1 ≤ k → k < n → Free w k → ⊥) (λ i. (1 ≤ i) × (i < n) × Free w i × ((k : ℕ) → 1 ≤ k → k < i → Free w k → ⊥))
    → Finds (λ k. (0 < k) × Free w k) n r
found w n None h = λ k l p. h k (omega arith) l p.1
found w n (Some i) h = record { within = h.1; holds = (omega arith, h.2); none_before = λ k l p. h.3 k (omega arith) l p.1 }

pub returns : goal.returns
returns c =
    let w = c.args.work.now in
    found w _ _
    (first_from_Range _ _ _ _ (Free w) (λ k. Free w k → ⊥) c.find.ensures.ran (λ k q s. search (rules, tests)) (λ k q s. search (rules, tests)))
