-- What `cut` says at each of its returns. The tests are made in document 01's order, so what was tested before a return keeps every earlier
-- refusal from being due. Assumes nothing.
use mathlib.Core.Path.{◌≡◌, refl, sym, ◌∙◌}
use mathlib.Core.Logic.{◌↔◌}
use mathlib.Core.List.{List}
use Prim.Native.Nat.{ℕ, ◌+◌, ◌*◌, ◌-◌, ◌/◌, ◌≤◌, ◌<◌}
use native.Mathlib.Omega.{arith}
use lib.ListN.{length, get_or, drop}
use Rattle.words.specs.Words.{Read}
use Rattle.paper.specs.Field.{Ratio as InRange}
use Rattle.paper.specs.Record.{holes_in, nodes_in, pairs_in, nodes_of}
use Rattle.paper.specs.Refusals.{refused}
use Rattle.paper.specs.Answers.{refuses}
use Rattle.paper.specs.declared.Refusal.{Refusal}
use Rattle.paper.specs.declared.Refusal.TheVariants as R
use Rattle.theory.specs.Conditions.{First, here, later}
use Rattle.theory.specs.Conditions as due
use Rattle.theory.proofs.Orders.{refused_is, cutting_agrees}
use Rattle.field.specs.declared.ratio.Ratio.{Ratio}
use Rattle.record.specs.Cutting.{Begun, cut_answer}

module _ (r : List ℕ) where
  -- the answer is the first refusal that is due
  pub cut-refuses : (k x : ℕ) → cut_answer r ≡ refused k x ↔ First (due.cutting r) k x
  unfolding cut_answer
  cut-refuses = refused_is {A = ℕ × ℕ} (holes_in r, pairs_in r) (cutting_agrees r)

  -- where the first i are not due, it is the first of the others
  abbrev Passed : ℕ → Type 1
  Passed i = (k x : ℕ) → First (drop i (due.cutting r)) k x → cut_answer r ≡ refused k x

  pub short-head : length r < 4 → cut_answer r ≡ refused 8 4
  short-head l = (cut-refuses _ _).1 (here refl (l, refl))

  passed_head : 4 ≤ length r → Passed 1
  passed_head l k x f = (cut-refuses k x).1 (later (λ y d. omega (arith, d.0)) f)

  pub right_ratio : (ratio : Ratio) → (ratio.a ≡ get_or r 0 0) × (ratio.b ≡ get_or r 1 0) → InRange (get_or r 0 0) (get_or r 1 0)
  right_ratio ratio same = rw (same.0, same.1) at ratio.in_range

  passed_ratio : 4 ≤ length r → InRange (get_or r 0 0) (get_or r 1 0) → Passed 2
  passed_ratio l ratio k x f = passed_head l k x (later (λ y d. d.0 ratio) f)

  -- the ratio
  pub wrong-ratio : {x : Refusal} → 4 ≤ length r → (InRange (get_or r 0 0) (get_or r 1 0) → ⊥) × (x ≡ R.Ratio) → cut_answer r ≡ refuses x
  wrong-ratio l f = rw f.1 (passed_head l _ _ (here refl (f.0, refl)))

  -- the hole count
  module _ {n : ℕ} (l : 4 ≤ length r) (read : Read 2 r 2 n) where
    pub no_holes : InRange (get_or r 0 0) (get_or r 1 0) → n ≡ 0 → cut_answer r ≡ refused 2 0
    no_holes ratio z = passed_ratio l ratio _ _ (here refl (omega arith, refl))

    pub many-holes : InRange (get_or r 0 0) (get_or r 1 0) → 1_024 < n → cut_answer r ≡ refused 3 n
    many-holes ratio m = passed_ratio l ratio _ _ (later (λ y d. omega (arith, d.0)) (here refl (omega arith, read.is)))

    pub begins : {ratio : Ratio} → (ratio.a ≡ get_or r 0 0) × (ratio.b ≡ get_or r 1 0) → (n ≡ 0 → ⊥) → n ≤ 1_024 → Begun r ratio n
    begins same z m = record { head = l; a_is = same.0; b_is = same.1; n_is = read.is; some = omega arith; few = m }

  module _ {ratio : Ratio} {n : ℕ} (begun : Begun r ratio n) where
    in_range : InRange (get_or r 0 0) (get_or r 1 0)
    in_range = right_ratio ratio (begun.a_is, begun.b_is)

    passed-holes : Passed 4
    passed-holes k x f = passed_ratio begun.head in_range k x (later (λ y d. omega (arith, d.0)) (later (λ y d. omega (arith, d.0)) f))

    pub short-nodes : length r < 6 + 4 * n → cut_answer r ≡ refused 8 (6 + 4 * n)
    short-nodes l = passed-holes _ _ (here refl (omega arith, omega arith))

    -- the node count
    module _ {x : ℕ} (read : Read 2 r (4 + 4 * n) x) where
      nodes-read : x ≡ nodes_in r
      nodes-read = rw begun.n_is at read.is

      pub wrong-nodes : (x ≡ 2 * n - 1 → ⊥) → 6 + 4 * n ≤ length r → cut_answer r ≡ refused 9 x
      wrong-nodes ne l = passed-holes _ _ (later (λ y d. omega (arith, d.0)) (here refl (λ e. ne (nodes-read ∙ e ∙ omega arith), nodes-read)))

      module _ (e : x ≡ 2 * n - 1) where
        right-nodes : nodes_in r ≡ nodes_of (holes_in r)
        right-nodes = sym nodes-read ∙ e ∙ omega arith

        passed-nodes : 6 + 4 * n ≤ length r → Passed 6
        passed-nodes l k x f = passed-holes k x (later (λ y d. omega (arith, d.0)) (later (λ y d. d.0 right-nodes) f))

        pub short-pairs : 6 + 4 * n ≤ length r → length r < 6 + 12 * n → cut_answer r ≡ refused 8 (6 + 12 * n)
        short-pairs l s = passed-nodes l _ _ (here refl (omega arith, omega arith))

        -- the pair count and the end
        module _ {m : ℕ} (l : 6 + 12 * n ≤ length r) (pairs : Read 4 r (2 + 12 * n) m) where
          pairs-read : m ≡ pairs_in r
          pairs-read = rw begun.n_is at pairs.is

          passed-pairs : Passed 7
          passed-pairs k x f = passed-nodes (omega arith) k x (later (λ y d. omega (arith, d.0)) f)

          pub wrong-pairs : n * (n - 1) / 2 < m → cut_answer r ≡ refused 9 m
          wrong-pairs s = passed-pairs _ _ (here refl (rw (begun.n_is, pairs-read) at s, pairs-read))

          module _ (few : m ≤ n * (n - 1) / 2) where
            right-pairs : pairs_in r ≤ holes_in r * (holes_in r - 1) / 2
            right-pairs = rw (begun.n_is, pairs-read) at few

            pub short-end : length r < 6 + 12 * n + 4 * m → cut_answer r ≡ refused 8 (6 + 12 * n + 4 * m)
            short-end s =
                passed-pairs _ _
                (later (λ y d. omega (arith, d.0, right-pairs)) (here refl (omega (arith, pairs-read), omega (arith, pairs-read))))

            pub over-end : 6 + 12 * n + 4 * m < length r → cut_answer r ≡ refused 10 (length r)
            over-end s =
                passed-pairs _ _
                (later (λ y d. omega (arith, d.0, right-pairs))
                (later (λ y d. omega (arith, d.0, pairs-read)) (here refl (omega (arith, pairs-read), refl))))
