-- The tree of a field whose holes stand at different places, for any number of coordinates. Its root's set has every hole once, and no cut
-- changes how often a hole is there. Leaves have no width, so they are always separated; a set of two or more holes has some.
-- Assumes nothing.
use mathlib.Core.Path.{◌≡◌, refl, sym, ap₂, ◌∙◌}
use mathlib.Core.Logic.{◌↔◌, ◌≢◌}
use mathlib.Core.Bool.{true, false}
use mathlib.Core.List.{List, [], ◌∷◌}
use Prim.Native.Nat.{ℕ, zero, suc, ◌+◌, ◌*◌, ◌≤◌, ◌<◌}
use native.Mathlib.Nat.{le_refl, max-eq_left, sub_self, mul-zero}
use native.Mathlib.Omega.{arith}
use lib.Dec.{ltb}
use lib.ListN.{length}
use borrow.Author.Tests.{eq-eqb, ne_eqb, ltb-true, ltb-false, le-leb}
use Rattle.paper.specs.Lists.{some_of, below}
use Rattle.paper.specs.Field.{Field, Hole, hole, gap, square, distance²}
use Rattle.paper.specs.Tree.{Tree, leaf, fork, under, spot, box_of, box_at, longest, first, tree_of}
use Rattle.paper.specs.Separation.{G, C, D, separated, far, side}
use Rattle.paper.specs.Record.{entries, nodes_of}
use Rattle.paper.specs.Rules.{repeats}
use Rattle.paper.proofs.ListLaws.{cases, both, not_so}
use Rattle.theory.proofs.Statements.{least_is, none_is, repeats_is}
use Rattle.theory.specs.Trees.{Each, leaves, Met, times, often}
use Rattle.theory.proofs.EachLaws.{each_map, each_map₂, each_at, length_from, each_below}
use Rattle.theory.proofs.Often.{never_from, once_from, often-below, below-often, each_other, each_often}
use Rattle.theory.proofs.Cutting.{leaves-cut, met-cut, times_cut}
use Rattle.theory.proofs.Halving.{around_nil, Apart, Good, some-width, halved}
use Rattle.theory.proofs.Subtrees.{Sub, some_leaf, length-under, often-under}
use Rattle.theory.proofs.Nodes.{length-entries, Once, once_sub}

-- ---- leaves

-- the box of a leaf is its hole's place, which has no side and no diagonal
leaf_box : (H : Field) (k x : ℕ) → box_at H (under (leaf k x)) ≡ spot (hole H x)
unfolding box_at box_of under
leaf_box H k x = around_nil (spot (hole H x))

no_side : (h : Hole) → longest (spot h) ≡ 0
unfolding longest
no_side [] = refl
no_side (x ∷ h) = omega (arith, no_side h)

pub leaf_side : (H : Field) (k x : ℕ) → side H (leaf k x) ≡ 0
unfolding side
leaf_side H k x = rw (leaf_box H k x) (no_side (hole H x))

no_diagonal : (h : Hole) → G (spot h) ≡ 0
unfolding G
no_diagonal [] = refl
no_diagonal (x ∷ h) = rw (no_diagonal h, sub_self x)

no_root : (n : ℕ) → square n ≡ 0 → n ≡ 0
no_root zero e = refl
no_root (suc n) e = absurd (omega arith)

no_distance : (g h : Hole) → length g ≡ length h → D (spot g) (spot h) ≡ 0 → g ≡ h
unfolding D C distance²
no_distance [] [] e z = refl
no_distance [] (y ∷ h) e z = absurd (omega arith)
no_distance (x ∷ g) [] e z = absurd (omega arith)
no_distance (x ∷ g) (y ∷ h) e z =
    ap₂ {C = Hole} (λ a b. a ∷ b) (omega (arith, no_root (gap (x + x) (y + y)) (omega arith))) (no_distance g h (omega arith) (omega arith))

spots_far : (a b : ℕ) (g h : Hole) → length g ≡ length h → g ≢ h → separated a b (spot g) (spot h) ≡ true
unfolding separated
spots_far a b g h e ne =
    let z = D (spot g) (spot h) in
    simp (ne_eqb z 0 (λ f. ne (no_distance g h e f)), no_diagonal g, no_diagonal h, max-eq_left (le_refl 0), mul-zero)
    (le-leb 0 (square b * z) (omega arith))

-- ---- a field

-- no two holes stand at one place
abbrev pub Distinct : Field → Type 0
Distinct H = (i j : ℕ) → i < j → j < length H → hole H i ≢ hole H j

pub distinct_is : (H : Field) → some_of (repeats H) (below (length H)) ≡ false ↔ Distinct H
distinct_is H = (
  λ e i j l h q. both ((repeats_is H j).1 (record { other = i; lower = l; place = q })) (none_is (repeats H) (length H) e j h),
  λ f. not_so (λ s.
      let w = least_is (repeats H) (length H) s in
      let r = (repeats_is H _).0 w.holds in
      f r.other _ r.lower w.within r.place),
)

-- what each hole of a field has, each of a set has
pub each_hole : (P : Hole → Type 0) (H : Field) → Each P H → (s : List ℕ) → Each (λ i. i < length H) s → Each (λ i. P (hole H i)) s
each_hole P H w s l = each_map (λ i h. each_at P H w i [] h) s l

module _ (H : Field) (distinct : Distinct H) where
  different : (i j : ℕ) → i < length H → j < length H → i ≢ j → hole H i ≢ hole H j
  different i j h l ne =
      cases (ltb i j) (λ e. distinct i j (ltb-true i j e) l) (λ e q. distinct j i (omega (arith, ltb-false i j e)) h (sym q))

  apart-set : (s : List ℕ) → Each (λ i. i < length H) s → ((q : ℕ) → often q s ≤ 1) → Apart H s
  unfolding often
  apart-set [] l o = tt
  apart-set (i ∷ s) l o =
      let f : 1 + often i s ≤ 1 = rw (eq-eqb i i refl) at (o i) in (
        each_map₂ (λ j h ne. different i j l.0 h ne) s l.1 (each_other i s (omega arith)),
        apart-set s l.1 (λ q. omega (arith, o q)),
      )

module _ (H : Field) (d : ℕ) (sized : Each (λ h. length h ≡ d) H) (distinct : Distinct H) where
  -- a set of the field's holes that has each at most once
  pub good_set : (s : List ℕ) → Each (λ i. i < length H) s → ((q : ℕ) → often q s ≤ 1) → Good H d s
  good_set s l o = (each_hole (λ h. length h ≡ d) H sized s l, apart-set H distinct s l o)

  -- two leaves of different holes are separated, whatever the ratio
  pub leaves_far : (a b i x j y : ℕ) → x < length H → y < length H → x ≢ y → far H a b (leaf i x) (leaf j y) ≡ true
  unfolding far
  leaves_far a b i x j y l m ne =
      rw (leaf_box H i x, leaf_box H j y)
      (spots_far a b (hole H x) (hole H y) (each_at _ H sized x [] l ∙ sym (each_at _ H sized y [] m)) (different H distinct x y l m ne))

  -- a node that is no leaf has a side of at least 1
  pub fork_side : (k : ℕ) (a b : Tree) → Once (length H) (fork k a b) → 1 ≤ side H (fork k a b)
  unfolding side leaves
  fork_side k a b o =
      let t = fork k a b in
      some-width H d (under t)
      (good_set (under t)
      (each_often (λ i. i < length H) (under t) (λ q h. o.within q (rw (often-under q t) at h)))
      (λ q. rw (often-under q t) (o.once q)))
      (rw (length-under t) (omega (arith, some_leaf a, some_leaf b)))

  -- all of the field's holes are such a set
  pub good_all : Good H d (below (length H))
  good_all = good_set (below (length H)) (each_below (λ i. i < length H) (length H) (λ k h. h)) (λ q. often-below q (length H))

  module _ (some : 1 ≤ length H) where
    holes-all : 1 ≤ length (below (length H))
    holes-all = rw length_from some

    pub leaves-tree : leaves (tree_of H) ≡ length H
    unfolding tree_of
    leaves-tree = leaves-cut (first H) (Good H d) (halved H d) 0 (below (length H)) good_all holes-all ∙ length_from 0 (length H)

    -- "A field of n holes has 2n - 1 nodes"
    pub nodes-tree : length (entries (tree_of H)) ≡ nodes_of (length H)
    nodes-tree = omega (arith, length-entries (tree_of H), leaves-tree)

    -- numbered from 0 as its nodes are met
    pub met-tree : Met 0 (tree_of H)
    unfolding tree_of
    met-tree = met-cut (first H) (Good H d) (halved H d) 0 (below (length H)) good_all holes-all

    often-tree : (p : ℕ) → times p (tree_of H) ≡ often p (below (length H))
    unfolding tree_of
    often-tree p = times_cut (first H) (Good H d) (halved H d) p 0 (below (length H)) good_all holes-all

    -- each of the field's holes is under the root once, and no other number is
    pub times-tree : (p : ℕ) → p < length H → times p (tree_of H) ≡ 1
    times-tree p h = often-tree p ∙ once_from p 0 (length H) (omega arith) (omega arith)

    pub no-others : (p : ℕ) → length H ≤ p → times p (tree_of H) ≡ 0
    no-others p h = often-tree p ∙ never_from p 0 (length H) (λ k l. omega arith)

    pub once-tree : Once (length H) (tree_of H)
    once-tree =
        record {
          within = λ p h. below-often p (length H) (rw (often-tree p) at h);
          once = λ p. rw (often-tree p) (often-below p (length H));
        }

    -- a node of the tree that is no leaf has a side of at least 1
    pub fork-tree-side : (k : ℕ) (a b : Tree) → Sub (fork k a b) (tree_of H) → 1 ≤ side H (fork k a b)
    fork-tree-side k a b u = fork_side k a b (once_sub u once-tree)
