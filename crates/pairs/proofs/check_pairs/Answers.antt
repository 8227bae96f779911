-- The search finds the least pair that is not good. Assumes nothing.
use Rattle.std.proofs.Common.{◌≡◌, ℕ, ◌*◌, ◌<◌, ◌≤◌, Option, Some, None, MatchOption, rules, tests, arith}
use Rattle.std.proofs.lemmas.Iterator.{first_from_Range}
use Rattle.paper.specs.Record.{two_numbers_at}
use Rattle.field.specs.Found.{Finds}
use Rattle.pairs.specs.Checking.{PairOn}
use Rattle.pairs.proofs.check_pairs.Goals as goal

-- what a search up to n finds is the least of m pairs, where n is m
found : (P : ℕ → Type 0) (n m : ℕ) (r : Option ℕ)
    → MatchOption r ((k : ℕ) → 0 ≤ k → k < n → P k) (λ i. (0 ≤ i) × (i < n) × (P i → ⊥) × ((k : ℕ) → 0 ≤ k → k < i → P k)) → n ≡ m
    → Finds (λ k. P k → ⊥) m r
found P n m None h e = λ k l f. f (h k (omega arith) (omega arith))
found P n m (Some i) h e = record { within = omega (arith, h.1); holds = h.2; none_before = λ k l f. f (h.3 k (omega arith) l) }

pub returns : goal.returns
returns c =
    let good : ℕ → Type 0 = λ k. PairOn c.args.work.now c.args.d c.args.ratio.a c.args.ratio.b c.args.n (two_numbers_at c.args.pairs.now (4 * k)) in
    found good _ _ _
    (first_from_Range _ _ _ _ (λ k. good k → ⊥) good c.find.ensures.ran (λ k q s. search (rules, tests)) (λ k q s. search (rules, tests)))
    (search (rules, arith))
