-- The ratio 2 is not enough for `ClosestPair`: P2's record at 2/1 is taken and its nearest two holes are 0 and 1, yet no listed pair is the pair
-- of their leaves, and the least of its one-hole pairs is 0 and 3. By computation. Assumes nothing.
use mathlib.Core.Path.{◌≡◌, refl}
use mathlib.Core.Logic.{◌⊎◌, inl, inr, ⊎_elim}
use mathlib.Core.List.{[], ◌∷◌}
use Prim.Native.Nat.{ℕ, zero, suc, ◌<◌}
use native.Mathlib.Omega.{arith}
use Rattle.words.specs.Words.{be, bytes}
use Rattle.paper.specs.Field.{Field, list_at, hole_at, holes_at, distance², ratio_ok, least_work}
use Rattle.paper.specs.Tree.{around, box_of, longest, axis, number, under, cut, tree_from, box_at, first, tree_of}
use Rattle.paper.specs.Separation.{G, C, D, separated, far, side}
use Rattle.paper.specs.Pairs.{compared, comparisons, pairs, pairs_of}
use Rattle.paper.specs.Record.{View, leaf_mark, entries, written, built, view_of}
use Rattle.paper.specs.Rules.{pair, repeats, names, holds, part_ok, node_ok, loose, under_from, under_node, pair_ok, covers, covered_once}
use Rattle.paper.specs.Refusals.{given, when◌refuse◌, in_order◌else◌, first_uncovered, check}
use Rattle.paper.specs.Questions.{apart, nearer, nearest}
use Rattle.theory.proofs.ClosestPair.{Sides, OneHole, LeastOneHole}

abbrev pub P2 : Field
P2 = (4 ∷ 0 ∷ []) ∷ (2 ∷ 0 ∷ []) ∷ (0 ∷ 0 ∷ []) ∷ (6 ∷ 0 ∷ []) ∷ []

-- what its record says
P2_view : View
P2_view =
    record {
      a = 2;
      b = 1;
      holes = P2;
      nodes = (1, 4) ∷ (2, 3) ∷ (leaf_mark, 2) ∷ (leaf_mark, 1) ∷ (5, 6) ∷ (leaf_mark, 0) ∷ (leaf_mark, 3) ∷ [];
      pairs = (1, 4) ∷ (2, 3) ∷ (5, 6) ∷ [];
    }

P2_built : built 2 1 P2 ≡ P2_view
unfolding P2_view distance² around box_of longest axis number under cut tree_from box_at first tree_of G C D separated far side
    compared comparisons pairs pairs_of entries built
P2_built = refl

pub P2_taken : check (written (built 2 1 P2)) least_work ≡ given (4, 3)
unfolding be bytes list_at hole_at holes_at distance² ratio_ok around box_of longest axis number under cut tree_from box_at first tree_of
    G C D separated far side compared comparisons pairs pairs_of entries written built view_of repeats names holds part_ok node_ok loose
    under_from under_node pair_ok covers covered_once when◌refuse◌ in_order◌else◌ first_uncovered check
P2_taken = refl

pub P2_nearest : nearest P2 ≡ (0, 1)
unfolding nearest nearer apart distance²
P2_nearest = refl

-- its one-hole pairs
one_holes : (i j : ℕ) → OneHole P2_view i j → ((i ≡ 0) × (j ≡ 3)) ⊎ ((i ≡ 1) × (j ≡ 2))
unfolding P2_view
one_holes i j o = go o.which o.listed o.sides
  where
    go : (k : ℕ) → k < 3 → Sides P2_view i j (pair P2_view k) → ((i ≡ 0) × (j ≡ 3)) ⊎ ((i ≡ 1) × (j ≡ 2))
    go zero l (inl u) = absurd (omega (arith, u.0.0))
    go zero l (inr u) = absurd (omega (arith, u.0.0))
    go (suc zero) l (inl u) = absurd (omega (arith, u.0.1, u.1.1, o.order))
    go (suc zero) l (inr u) = inr (omega (arith, u.1.1), omega (arith, u.0.1))
    go (suc (suc zero)) l (inl u) = inl (omega (arith, u.0.1), omega (arith, u.1.1))
    go (suc (suc zero)) l (inr u) = absurd (omega (arith, u.0.1, u.1.1, o.order))
    go (suc (suc (suc k))) l s = absurd (omega arith)

pub P2_least : LeastOneHole (built 2 1 P2) (0, 3)
unfolding P2_view apart distance²
P2_least =
    rw P2_built
    (record {
      one_hole = record { order = omega arith; which = 2; listed = omega arith; sides = inl ((refl, refl), (refl, refl)) };
      least = λ i j o. ⊎_elim (λ u. rw (u.0, u.1) (omega arith)) (λ u. rw (u.0, u.1) (omega arith)) (one_holes i j o);
      first = λ i j o e. (omega arith, λ f l. ⊎_elim (λ u. omega arith) (λ u. omega arith) (one_holes i j o));
    })

pub P2_not_listed : OneHole (built 2 1 P2) 0 1 → ⊥
unfolding built apart distance²
P2_not_listed o = (P2_least.first 0 1 o refl).1 refl (omega arith)
