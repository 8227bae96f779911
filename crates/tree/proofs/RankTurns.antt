-- Ranking, node by node. The holes under a node are a stretch of those under the root: a node's two parts share its stretch, and a leaf's is
-- its hole. Each node is named by a lower one, so its stretch is known when its turn comes. Assumes nothing.
use Rattle.std.proofs.lemmas.Grind.{common_steps}
use mathlib.Core.Path.{◌≡◌, refl, sym, ap, ◌∙◌}
use mathlib.Core.Logic.{◌≢◌, ⊎_elim}
use mathlib.Core.List.{List, ◌++◌}
use Prim.Native.Nat.{ℕ, ◌+◌, ◌*◌, ◌≤◌, ◌<◌}
use native.Mathlib.Omega.{arith}
use lib.Dec.{eqb}
use lib.ListN.{length, get_or}
use lib.Seq.{ext_get_or}
use borrow.Author.Count.{below_more}
use borrow.Author.Tests.{eqb-true, eqb-false}
use Rattle.words.proofs.AreaLaws.{length_run, get_d_run}
use Rattle.slate.specs.Columns.{FIRST, SECOND, HOLES, FROM, ORDER, MARKS}
use Rattle.slate.specs.Slate.{cell, column, Grid, Kept}
use Rattle.paper.specs.Record.{View}
use Rattle.paper.specs.Rules.{hole_count, node_count, node, Leaf, Names, NodeRule, under_node}
use Rattle.paper.proofs.ListLaws.{cases}
use Rattle.theory.proofs.Named.{kind, named_once, held_once}
use Rattle.theory.proofs.Grown.{under_leaf, under_fork, some_under, under-below}
use Rattle.theory.proofs.Foreign.{under_at_most}
use Rattle.tree.specs.Standing.{tree_on, Stands}
use Rattle.tree.specs.Steps.{Counted}
use Rattle.tree.specs.Ranking.{AllBut, LeafReady, ForkReady, NodeReady, HoleRanked, HoleSet, PartsSet, NodeRanked}
use Rattle.tree.proofs.Views.{on_holes, on_node}
use Rattle.tree.proofs.Places.{at_place, one_place, all_under}
use Rattle.tree.proofs.Stretches.{Stretch, whole, first_part, second_part, stretch_fits, stretch-head}

-- the slate shows a tree that meets its rules, with its counts
pub record Shows (w : List ℕ) (t : View) : Type 0 where
  pub grid : Grid w
  pub some : 1 ≤ hole_count t
  pub few : hole_count t ≤ 1_024
  pub rules : (k : ℕ) → k < node_count t → NodeRule t k
  pub first : (k : ℕ) → k < node_count t → cell w FIRST k ≡ (node t k).0
  pub second : (k : ℕ) → k < node_count t → cell w SECOND k ≡ (node t k).1
  pub holes : (k : ℕ) → k < node_count t → cell w HOLES k ≡ length (under_node t k)

pub shows : {w : List ℕ} {n : ℕ} → Stands w n → Counted w n → Shows w (tree_on w n)
shows {w} {n} s c = grind (arith, common_steps, on_holes, on_node)

pub shows_still : {w new : List ℕ} {t : View} → Shows w t → Kept w new (2_048 * FROM) (2_048 * MARKS) → Shows new t
shows_still s p = grind (arith, common_steps)

-- every word but two is kept, so every word but those of any bounds around them
all_but_kept : {old new : List ℕ} {a b lo hi : ℕ} → AllBut old new a b → lo ≤ a → a < hi → lo ≤ b → b < hi
    → Kept old new lo hi
all_but_kept p l m n o = grind (arith, common_steps)

-- the holes under node c are the stretch that starts at its FROM
abbrev pub Placed : View → List ℕ → ℕ → Type 0
Placed t w c = Stretch (under_node t 0) (under_node t c) (cell w FROM c)

-- the nodes below k are ranked: the root and what they name is placed, and the leaves among them have their holes ranked
pub record RankedTo (t : View) (k : ℕ) (w : List ℕ) : Type 0 where
  pub shown : Shows w t
  pub root : Placed t w 0
  pub parts : (j : ℕ) → j < k → (c : ℕ) → c < node_count t → Names t j c → Placed t w c
  pub leaves : (j : ℕ) → j < k → Leaf t j → HoleRanked w (cell w FROM j) (node t j).1

pub start : {t : View} {w : List ℕ} → Shows w t → cell w FROM 0 ≡ 0 → RankedTo t 0 w
start {t} s e =
    record { shown = s; root = rw e (whole (under_node t 0)); parts = λ j a. absurd (omega arith); leaves = λ j a. absurd (omega arith) }

module _ {t : View} {k : ℕ} {w : List ℕ} (r : RankedTo t k w) where
  -- the nodes up to k are placed, within the ranks
  pub placed : (j : ℕ) → j ≤ k → j < node_count t → Placed t w j
  placed j a b =
      cases (eqb 0 j)
      (λ e. rw (← eqb-true 0 j e) r.root)
      (λ e.
      let o = named_once t r.shown.rules j (omega (arith, eqb-false 0 j e)) b in
      r.parts o.by (omega (arith, o.lower)) j b o.names)

  pub fits : (j : ℕ) → j ≤ k → j < node_count t → cell w FROM j + length (under_node t j) ≤ hole_count t
  fits j a b = omega (arith, stretch_fits (placed j a b), all_under t r.shown.rules (omega arith))

  in_ranks : (j : ℕ) → j ≤ k → j < node_count t → cell w FROM j < hole_count t
  in_ranks j a b = grind (arith, common_steps, fits, some_under)

  -- at a leaf's rank stands its hole
  leaf_place : (j : ℕ) → j ≤ k → j < node_count t → Leaf t j → get_or (under_node t 0) (cell w FROM j) 0 ≡ (node t j).1
  leaf_place j a b l = stretch-head (rw (under_leaf t j b l) at (placed j a b))

  -- node k's turn
  module _ (b : k < node_count t) where
    leaf-ready : Leaf t k → LeafReady w k (cell w SECOND k)
    leaf-ready l =
        record {
          grid = r.shown.grid;
          row = omega arith;
          from = omega (arith, in_ranks k (omega arith) b);
          hole = rw (r.shown.second k b) (omega (arith, ((r.shown.rules k b).leaf l).hole));
        }

    parts-placed : (Leaf t k → ⊥) → Stretch (under_node t 0) (under_node t (node t k).0 ++ under_node t (node t k).1) (cell w FROM k)
    parts-placed i = rw (under_fork t r.shown.rules k b i) at (placed k (omega arith) b)

    fork-ready : (Leaf t k → ⊥) → ForkReady w k (cell w FIRST k) (cell w SECOND k)
    fork-ready i =
        let f = (r.shown.rules k b).fork i in
        let one = under_node t (node t k).0 in
        let two = under_node t (node t k).1 in
        let e = stretch_fits (first_part one two (parts-placed i)) in
        let h = r.shown.holes (node t k).0 f.first.node in
        record {
          grid = r.shown.grid;
          row = omega arith;
          first = rw (r.shown.first k b) (omega (arith, f.first.node));
          second = rw (r.shown.second k b) (omega (arith, f.second.node));
          different = rw (r.shown.first k b, r.shown.second k b) f.different;
          fits = rw (r.shown.first k b) (omega (arith, all_under t r.shown.rules (omega arith)));
        }

    pub ready : NodeReady w k
    ready = grind (arith, common_steps, leaf-ready, fork-ready)

    module _ {new : List ℕ} (p : NodeRanked w new k) where
      as-leaf : Leaf t k → HoleSet w new (cell w FROM k) (node t k).1
      as-leaf l = rw (r.shown.second k b) at (p.leaf (rw (r.shown.first k b) l))

      as-fork : (Leaf t k → ⊥) → PartsSet w new (cell w FROM k) (cell w HOLES (node t k).0) (node t k).0 (node t k).1
      as-fork i = rw (r.shown.first k b, r.shown.second k b) at (p.fork (rw (r.shown.first k b) i))

      pub turn-kept : Kept w new (2_048 * FROM) (2_048 * MARKS)
      turn-kept =
          kind t k
          (λ l.
          let y = leaf-ready l in
          all_but_kept (p.leaf (rw (r.shown.first k b) l)).kept (omega arith) (omega arith) (omega arith) (omega arith))
          (λ i.
          let y = fork-ready i in
          all_but_kept (p.fork (rw (r.shown.first k b) i)).kept (omega arith) (omega arith) (omega arith) (omega arith))

      -- no lower leaf holds the hole of a leaf, so none has its rank
      leaf-turn : Leaf t k → RankedTo t (k + 1) new
      leaf-turn l =
          let y = leaf-ready l in
          let z = r.shown.second k b in
          let q = as-leaf l in
          let same : (c : ℕ) → c < node_count t → cell new FROM c ≡ cell w FROM c
          = λ c a. q.kept.rest _ (omega arith) (omega arith) in
          record {
            shown = shows_still r.shown turn-kept;
            root = rw (same 0 (omega arith)) r.root;
            parts = below_more _ _ (λ j a c d m. rw (same c d) (r.parts j a c d m)) (λ c d m. absurd (m.0 l));
            leaves = below_more _ _
                (λ j a m.
                let c : j < node_count t = omega arith in
                let d = ((r.shown.rules k b).leaf l).new j a m in
                let f : cell w FROM j ≢ cell w FROM k = λ e. d (sym (leaf_place j (omega arith) c m) ∙ rw e (leaf_place k (omega arith) b l)) in
                let g = in_ranks j (omega arith) c in
                let o = r.leaves j a m in
                rw (same j c)
                (record {
                  order = q.kept.rest _ (λ e. f (omega arith)) (omega arith) ∙ o.order;
                  rank = q.kept.rest _ (omega arith) (λ e. d (omega arith)) ∙ o.rank;
                }))
                (λ _. rw (same k b) q.ranked);
          }

      -- the parts of any other node are above it, and no lower node names them
      fork-turn : (Leaf t k → ⊥) → RankedTo t (k + 1) new
      fork-turn i =
          let f = (r.shown.rules k b).fork i in
          let y = fork-ready i in
          let one = (node t k).0 in
          let two = (node t k).1 in
          let u = f.first.above in
          let v = f.second.above in
          let h = r.shown.holes one f.first.node in
          let q = as-fork i in
          let same : (j : ℕ) → j ≢ one → j ≢ two → cell new FROM j ≡ cell w FROM j
          = λ j x y. q.kept.rest _ (λ e. x (omega arith)) (λ e. y (omega arith)) in
          record {
            shown = shows_still r.shown turn-kept;
            root = rw (same 0 (omega arith) (omega arith)) r.root;
            parts = below_more _ _
                (λ j a c d m. rw (same c (λ e. f.first.new j a (rw e at m)) (λ e. f.second.new j a (rw e at m))) (r.parts j a c d m))
                (λ c d m.
                ⊎_elim
                (λ e. rw (← e, q.first) (first_part (under_node t one) (under_node t two) (parts-placed i)))
                (λ e. rw (← e, q.second, h) (second_part (under_node t one) (under_node t two) (parts-placed i)))
                m.1);
            leaves = below_more _ _
                (λ j a m.
                let o = r.leaves j a m in
                rw (same j (omega arith) (omega arith))
                (record {
                  order = q.kept.rest _ (omega arith) (omega arith) ∙ o.order;
                  rank = q.kept.rest _ (omega arith) (omega arith) ∙ o.rank;
                }))
                (λ l. absurd (i l));
          }

      pub turn : RankedTo t (k + 1) new
      turn = kind t k leaf-turn fork-turn

  -- at the end each hole has its rank, which is its place
  module _ (all : node_count t ≤ k) where
    pub ranked-hole : (h : ℕ) → h < hole_count t
        → (x : ℕ) × (x < hole_count t) × (get_or (under_node t 0) x 0 ≡ h) × HoleRanked w x h
    ranked-hole h b =
        let o = held_once t r.shown.rules h b in (
          cell w FROM o.by,
          in_ranks o.by (omega (arith, o.listed)) o.listed,
          leaf_place o.by (omega (arith, o.listed)) o.listed o.leaf ∙ o.hole,
          rw o.hole at (r.leaves o.by (omega (arith, o.listed)) o.leaf),
        )

    -- a hole has one place in the order, so each place has its hole
    in_order : (x : ℕ) → x < hole_count t → cell w ORDER x ≡ get_or (under_node t 0) x 0
    in_order x b =
        let l = under_node t 0 in
        let e = all_under t r.shown.rules (omega arith) in
        let h = get_or l x 0 in
        let g = ranked-hole h (under-below t r.shown.rules 0 (omega arith) h (at_place l x (omega arith))) in
        let i = one_place l (under_at_most t r.shown.rules 0 (omega arith) h) x g.0 (omega arith) (omega (arith, g.1)) refl g.2 in
        ap (λ (y : ℕ). cell w ORDER y) i ∙ g.3.order

    pub order_is : column w ORDER (hole_count t) ≡ under_node t 0
    order_is =
        let e = length_run w (2_048 * ORDER) (hole_count t) in
        ext_get_or 0 (column w ORDER (hole_count t)) (under_node t 0) (e ∙ sym (all_under t r.shown.rules (omega arith)))
        (λ x b. get_d_run w (2_048 * ORDER) (hole_count t) x (omega arith) ∙ in_order x (omega arith))
