-- Planting. A node's row is put before its first part's rows, and those before its second part's, so the rows from node k on are the tree's
-- entries in its order; a part's stretch of ORDER, and its rows, are its own, so what is planted of one leaves the other. Assumes nothing.
use Rattle.std.proofs.lemmas.Grind.{common_steps}
use mathlib.Core.Path.{◌≡◌, refl, ◌∙◌}
use mathlib.Core.Bool.{Bool, not}
use mathlib.Core.List.{List}
use Prim.Native.Nat.{ℕ, suc, ◌+◌, ◌*◌, ◌-◌, ◌≤◌, ◌<◌}
use native.Mathlib.Nat.{zero-add}
use native.Mathlib.Omega.{arith}
use Rattle.words.specs.Area.{run}
use Rattle.words.proofs.AreaLaws.{length_run, run-same}
use Rattle.slate.specs.Columns.{FIRST, SECOND, ORDER}
use Rattle.slate.specs.Slate.{cell, Grid, Held, Set}
use Rattle.slate.proofs.Frames.{set_more}
use Rattle.paper.specs.Lists.{keep, below}
use Rattle.paper.specs.Field.{Field, holes_at}
use Rattle.paper.specs.Tree.{first, first_part, second_part, tree_from, tree_of}
use Rattle.paper.specs.Record.{entries, leaf_mark, nodes_of}
use Rattle.theory.specs.Trees.{Each}
use Rattle.theory.proofs.EachLaws.{each_keep, each_below, length_parts}
use Rattle.theory.proofs.Cutting.{Halved, cut_one, number_cut, cut-law}
use Rattle.theory.proofs.Halving.{Good, halved}
use Rattle.theory.proofs.Fields.{good_all}
use Rattle.theory.proofs.Reading.{length_holes, holes_flat}
use Rattle.tree.specs.Standing.{tree_on}
use Rattle.tree.specs.Loading.{NodePut}
use Rattle.tree.specs.Planting.{stretch, rows, CutInTwo, Plantable, Forked, Planted, FieldIn, Numbered, Grown}
use Rattle.paper.proofs.ListLaws.{from-append}
use Rattle.tree.proofs.PlantLaws.{rows_fork, rows_same, each_stretch, stretch_split, plantable}

-- ---- a leaf

pub a_leaf : {hs old new : List ℕ} {d n lo m k h : ℕ} → Plantable old hs d n lo m k → m ≡ 1 → Held old ORDER lo h
    → NodePut old new k leaf_mark h → Planted (holes_at d hs 0 n) lo m k old new
unfolding run entries
a_leaf {hs} {old} {d} {n} {lo} {k} p e q t = grind (arith, common_steps, cut_one)

-- ---- a node of two parts

-- planting leaves the rows of the nodes that are not planted
node_kept : {H : Field} {lo m k : ℕ} {old new : List ℕ} → Planted H lo m k old new → k + nodes_of m ≤ 2_048
    → (c i : ℕ) → c ≤ SECOND → i < 2_048 → (k ≤ i → i < k + nodes_of m → ⊥) → cell new c i ≡ cell old c i
node_kept t fits c i l b h = grind (arith, common_steps)

module _ {hs old : List ℕ} {d n lo m k : ℕ} (p : Plantable old hs d n lo m k) where
  abbrev H : Field
  H = holes_at d hs 0 n

  abbrev set : List ℕ
  set = stretch old lo m

  abbrev part_one : List ℕ
  part_one = first_part (first H) set

  abbrev part_two : List ℕ
  part_two = second_part (first H) set

  halves : 2 ≤ m → Halved (first H) (Good H d) set
  halves many = halved H d set p.good (rw length_run many)

  each_part : (f : ℕ → Bool) → Each (λ i. i < n) (keep f set)
  each_part f = each_keep f (λ i h e. h) set (each_stretch p.on)

  module _ {mid : List ℕ} {r : ℕ} (many : 2 ≤ m) (q : CutInTwo H lo m old mid r) where
    -- both parts have a hole
    pub some-both : (1 ≤ r) × (r < m)
    some-both = let w = halves many in omega (arith, length_parts (first H set) set, length_run old (2_048 * ORDER + lo) m)

    pub forked : {new : List ℕ} → NodePut mid new k (k + 1) (k + 2 * r) → Forked H lo m k old new r
    forked {new} t =
        let b = some-both in
        let w = stretch_split mid lo m r part_one part_two (omega arith) q.parts q.size in
        record {
          len = t.len ∙ q.len;
          some = b.0;
          fewer = b.1;
          size = q.size;
          one = t.first;
          two = t.second;
          front = kept lo r (omega arith) ∙ w.0;
          back = kept (lo + r) (m - r) (omega arith) ∙ w.1;
          rest = λ i x y z u l. t.rest i x y ∙ q.rest i z u l;
        }
      where
        kept : (at c : ℕ) → at + c ≤ 2_048 → stretch new at c ≡ stretch mid at c
        kept at c b = run-same new mid (2_048 * ORDER + at) c (λ i x y. t.rest i (omega arith) (omega arith))

  -- the first part may be planted behind node k
  pub ready_first : {mid : List ℕ} {r : ℕ} → Forked H lo m k old mid r → Plantable mid hs d n lo r (k + 1)
  ready_first f =
      plantable part_one f.front (omega (arith, f.len)) p.on.holes f.some (omega arith) (omega arith)
      (each_part (first H set)) (halves (omega arith)).good-first

  module _ {mid new : List ℕ} {r : ℕ} (f : Forked H lo m k old mid r) (q : Planted H lo r (k + 1) mid new) where
    -- planting it leaves the second part's stretch, which may be planted behind it
    second-stretch : stretch new (lo + r) (m - r) ≡ part_two
    second-stretch = grind (arith, common_steps, run-same)

    pub ready-second : Plantable new hs d n (lo + r) (m - r) (k + 2 * r)
    ready-second =
        plantable part_two second-stretch (omega (arith, f.len, q.len)) p.on.holes (omega arith) (omega arith) (omega arith)
        (each_part (λ i. not (first H set i))) (halves (omega arith)).good-second

    module _ {end : List ℕ} (u : Planted H (lo + r) (m - r) (k + 2 * r) new end) where
      -- planting the second leaves node k and the first part's rows
      node_k : (c : ℕ) → c ≤ SECOND → cell end c k ≡ cell mid c k
      node_k c l = grind (arith, common_steps)

      first_rows : rows end (k + 1) (nodes_of r) ≡ entries (tree_from (first H) (k + 1) part_one)
      first_rows = grind (arith, common_steps, rows_same, node_kept)

      second-rows : rows end (k + 1 + nodes_of r) (nodes_of (m - r)) ≡ entries (tree_from (first H) (k + 2 * r) part_two)
      second-rows = let e : k + 1 + nodes_of r ≡ k + 2 * r = omega arith in rw e (u.nodes ∙ rw second-stretch)

      all-rows : rows end k (nodes_of m) ≡ entries (tree_from (first H) k set)
      unfolding entries
      all-rows =
          let e : nodes_of m ≡ suc (nodes_of r + nodes_of (m - r)) = omega arith in
          let law = cut-law (first H) (Good H d) (halved H d) k set p.good (rw length_run (omega arith)) in
          let one = node_k FIRST (omega arith) ∙ f.one in
          let two = node_k SECOND (omega arith) ∙ f.two in
          rw (e, rows_fork end k (nodes_of r) (nodes_of (m - r)), one, two, first_rows, second-rows)
          (rw (law, ← f.size, number_cut (first H) (k + 1) part_one, number_cut (first H) (k + 2 * r) part_two))

      pub a-fork : Planted H lo m k old end
      a-fork = grind (arith, common_steps, all-rows)

-- ---- the holes by their numbers

pub numbered_none : {w : List ℕ} → Numbered 0 w w
unfolding run
numbered_none = record { len = refl; order = refl }

pub numbered_more : {old mid new : List ℕ} {i : ℕ} → Numbered i old mid → Set mid new ORDER i i → Numbered (i + 1) old new
numbered_more {i} p s = record { len = s.len ∙ p.len; order = set_more ORDER i s ∙ rw (p.order, from-append 0 i 1, zero-add) }

-- ---- the whole field

module _ {hs old mid : List ℕ} {d n : ℕ} (p : FieldIn hs d n) (q : Numbered n old mid) where
  pub ready_all : Grid old → Plantable mid hs d n 0 n 0
  ready_all g =
      plantable (below n) q.order (omega (arith, q.len)) p.holes p.some (omega arith) (omega (arith, p.holes.few))
      (each_below (λ i. i < n) n (λ k h. h))
      (rw (length_holes d hs 0 n) at (good_all (holes_at d hs 0 n) d (holes_flat d hs 0 n) p.distinct))

  pub grown : {new : List ℕ} → Planted (holes_at d hs 0 n) 0 n 0 mid new → Grown (holes_at d hs 0 n) n old new
  unfolding tree_on tree_of
  grown t = record { len = t.len ∙ q.len; nodes = t.nodes ∙ rw (q.order, length_holes) }
