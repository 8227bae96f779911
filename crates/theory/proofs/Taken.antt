-- What holds of every record that is taken, whoever made it: the sides of a pair have no hole in common, and at a ratio above 2 the closest of the
-- one-hole pairs is the closest of all holes. The rules of the record give the rest. Assumes nothing.
use mathlib.Core.Path.{◌≡◌, refl, sym}
use mathlib.Core.Logic.{◌↔◌}
use mathlib.Core.List.{List, [], ◌∷◌, Memᴰ}
use Prim.Native.Nat.{ℕ, ◌*◌, ◌≤◌, ◌<◌}
use native.Mathlib.Omega.{arith}
use lib.ListN.{length}
use borrow.Author.Tests.{eq-eqb}
use Rattle.paper.specs.Field.{hole, least_work}
use Rattle.paper.specs.Record.{View, holes_in, view_of}
use Rattle.paper.specs.Rules.{hole_count, node_count, pair_count, pair, Leaf, Under, under_node, NodeRule, Record}
use Rattle.paper.specs.Questions.{nearest}
use Rattle.theory.specs.Trees.{often}
use Rattle.theory.proofs.EachLaws.{each_at}
use Rattle.theory.proofs.Often.{often_is}
use Rattle.theory.proofs.Grown.{one_hole, under-below}
use Rattle.theory.proofs.Foreign.{under_at_most}
use Rattle.theory.proofs.RoundTrip.{view_holes, view_flat}
use Rattle.theory.proofs.Separation.{sets_disjoint}
use Rattle.theory.proofs.ClosestPair.{OneHole, LeastOneHole, closest-listed, closest-least}
use Rattle.theory.proofs.Checker.{Meant, record_is}

-- a list of one number alone has it as often as it is long
alone_often : (x : ℕ) (l : List ℕ) → ((y : ℕ) → Memᴰ y l → y ≡ x) → often x l ≡ length l
unfolding often
alone_often x [] f = refl
alone_often x (y ∷ l) f =
    rw (eq-eqb x y (sym (f y (Memᴰ.head refl))), alone_often x l (λ z m. f z (Memᴰ.tail m))) (omega arith)

-- a node with one hole alone is a leaf
pub leaf_alone : (v : View) → ((k : ℕ) → k < node_count v → NodeRule v k) → (k : ℕ) → k < node_count v → (x : ℕ) → Under v x k
    → ((y : ℕ) → Under v y k → y ≡ x) → Leaf v k
leaf_alone v rules k l x u f =
    let o = under_at_most v rules k l x in
    let s = (often_is x (under_node v k)).1 u in
    (one_hole v rules k l).0 (omega (arith, alone_often x (under_node v k) f))

module _ (r : List ℕ) (ok : Record r) where
  said : Meant (view_of r)
  said = ((record_is r least_work).1 (omega arith, ok)).1

  flat : (i : ℕ) → i < hole_count (view_of r) → length (hole (view_of r).holes i) ≡ 2
  flat i l = each_at (λ h. length h ≡ 2) (view_of r).holes (view_flat r) i [] l

  holes_below : (k : ℕ) → k < node_count (view_of r) → (x : ℕ) → Under (view_of r) x k → x < hole_count (view_of r)
  holes_below = under-below (view_of r) said.nodes

  -- no hole is under both sides of a pair
  pub sides_disjoint : (k : ℕ) → k < pair_count (view_of r) → (x : ℕ) → Under (view_of r) x (pair (view_of r) k).0 → Under (view_of r) x (pair (view_of r) k).1 → ⊥
  sides_disjoint k l =
      let p = said.pairs k l in
      sets_disjoint (view_of r).holes 2 (view_of r).a (view_of r).b _ _
      (λ i m. flat i (holes_below _ p.left i m))
      (λ i m. flat i (holes_below _ p.right i m))
      p.far ok.ratio.a_low

  module _ (more : 2 ≤ holes_in r) (ratio : 2 * (view_of r).b < (view_of r).a) where
    -- the closest two holes are a listed pair of leaves
    pub taken-closest-listed : OneHole (view_of r) (nearest (view_of r).holes).0 (nearest (view_of r).holes).1
    taken-closest-listed =
        closest-listed (view_of r) 2 flat (rw (view_holes r) more) ratio holes_below (leaf_alone (view_of r) said.nodes) said.pairs said.covered

    -- the least of the one-hole pairs is the least of all
    pub taken-closest : (q : ℕ × ℕ) → LeastOneHole (view_of r) q ↔ (q ≡ nearest (view_of r).holes)
    taken-closest =
        closest-least (view_of r) 2 flat (rw (view_holes r) more) ratio holes_below (leaf_alone (view_of r) said.nodes) said.pairs said.covered
