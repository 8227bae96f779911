-- The holes and the nodes of a record, by what the steps found in its parts: which refusal is due, or that the rules of both are met and the sums
-- stand on the slate. hs and ns are the parts of the record r that hold the holes and the nodes. Assumes nothing.
use mathlib.Core.Path.{◌≡◌, refl, sym, ap, ◌∙◌}
use mathlib.Core.Logic.{◌↔◌}
use mathlib.Core.List.{List}
use Prim.Native.Nat.{ℕ, ◌+◌, ◌*◌, ◌<◌, ◌≤◌}
use native.Mathlib.Omega.{arith}
use lib.ListN.{length, get_or}
use Rattle.slate.specs.Columns.{FIRST, SECOND, MARKS}
use Rattle.slate.specs.Slate.{cell, Grid}
use Rattle.paper.specs.Field.{holes_at, list_at}
use Rattle.paper.specs.Record.{holes_in, nodes_of, two_numbers_at, view_of}
use Rattle.paper.specs.Rules.{node_count, Repeats, Names, NodeRule, under_node}
use Rattle.paper.specs.Tree.{box_at}
use Rattle.paper.specs.Refusals.{Least}
use Rattle.paper.specs.Questions.{lowest}
use Rattle.paper.proofs.ListLaws.{both}
use Rattle.theory.specs.Trees.{Alike}
use Rattle.theory.specs.Conditions.{First, here, later}
use Rattle.theory.specs.Conditions as due
use Rattle.theory.proofs.Alike.{alike_back, alike_more, alike_rule, alike-rules, alike-under}
use Rattle.theory.proofs.Statements.{node_is}
use Rattle.theory.proofs.Checker.{stable}
use Rattle.theory.proofs.Orders.{loose_is}
use Rattle.theory.proofs.Named.{not_loose}
use Rattle.theory.proofs.Reading.{length_holes}
use Rattle.theory.proofs.RoundTrip.{view_holes}
use Rattle.std.specs.Prelude.{None}
use Rattle.tree.specs.Standing.{tree_on, tree_in, Stands}
use Rattle.tree.specs.Steps.{Loading, Summed}
use Rattle.tree.proofs.Views.{in_holes, same-tree}
use Rattle.record.specs.Inspecting.{Measured}

-- the least number with a property, of two that agree
pub least-same : {P Q : ℕ → Type 0} {k l x : ℕ} → k ≡ l → ((i : ℕ) → i < k → P i ↔ Q i) → Least P k x → Least Q l x
least-same {k} {l} {x} e same d =
    record {
      within = rw (← e) d.within;
      holds = (same x d.within).0 d.holds;
      none_before = λ j b q. d.none_before j b ((same j (omega (arith, d.within))).1 q);
    }

pub nodes_count : (r : List ℕ) → node_count (view_of r) ≡ nodes_of (holes_in r)
nodes_count r = ap nodes_of (view_holes r)

-- hs and ns hold what the record says
pub record Shown (r hs ns : List ℕ) : Type 0 where
  pub holes : (view_of r).holes ≡ holes_at 2 hs 0 (holes_in r)
  pub nodes : (view_of r).nodes ≡ list_at two_numbers_at 4 ns 0 (nodes_of (holes_in r))

module _ {r hs ns : List ℕ} (s : Shown r hs ns) where
  -- the record's tree is the one in its part
  in_alike : Alike (view_of r) (tree_in ns (holes_in r))
  unfolding tree_in
  in_alike =
      record {
        holes = view_holes r ∙ sym (in_holes ns (holes_in r));
        nodes = λ k l. ap (λ (e : List (ℕ × ℕ)). get_or e k (0, 0)) s.nodes;
      }

  -- a rule that a node breaks in one it breaks in the other
  broken : (k : ℕ) → k < nodes_of (holes_in r) → (NodeRule (tree_in ns (holes_in r)) k → ⊥) ↔ (NodeRule (view_of r) k → ⊥)
  broken k l =
      let a = in_alike in
      let b = alike_back in_alike in (
        λ f u. f (alike_rule a k (omega (arith, nodes_count r)) u),
        λ f u. f (alike_rule b k (omega (arith, ap nodes_of (in_holes ns (holes_in r)))) u),
      )

  -- 6
  pub due_twice : {i : ℕ} → Least (Repeats (holes_at 2 hs 0 (holes_in r))) (holes_in r) i → First (due.content (view_of r)) 6 i
  due_twice {i} d =
      let t : Least (Repeats (view_of r).holes) (length (view_of r).holes) i = rw (s.holes, length_holes 2 hs 0 (holes_in r)) d in
      here refl t

  module _ (single : (k : ℕ) → k < holes_in r → Repeats (holes_at 2 hs 0 (holes_in r)) k → ⊥) where
    none-twice : (x : ℕ) → Least (Repeats (view_of r).holes) (length (view_of r).holes) x → ⊥
    none-twice x d = single x (omega (arith, d.within, view_holes r)) (rw s.holes at d.holds)

    -- 11
    pub due-tree : {k : ℕ} → Least (λ j. NodeRule (tree_in ns (holes_in r)) j → ⊥) (nodes_of (holes_in r)) k → First (due.content (view_of r)) 11 k
    due-tree d = later none-twice (here refl (least-same (sym (nodes_count r)) broken d))

    -- 12: the marks tell the nodes that none names
    module _ {old new : List ℕ} (l : Loading ns (holes_in r) old new None) where
      met : (k : ℕ) → k < nodes_of (holes_in r) → NodeRule (tree_in ns (holes_in r)) k
      met k b = stable (node_is (tree_in ns (holes_in r)) k) (l.found k b)

      record-rules : (k : ℕ) → k < node_count (view_of r) → NodeRule (view_of r) k
      record-rules =
          alike-rules (alike_back in_alike) (λ k b. met k (omega (arith, ap nodes_of (in_holes ns (holes_in r)))))

      none-tree : (x : ℕ) → Least (λ k. NodeRule (view_of r) k → ⊥) (node_count (view_of r)) x → ⊥
      none-tree x d = d.holds (record-rules x d.within)

      -- a node that nothing names would be loose, and none is
      pub due-loose : {k : ℕ} → Least (λ j. (0 < j) × (cell new MARKS j ≡ 0)) (nodes_of (holes_in r)) k → First (due.content (view_of r)) 12 k
      due-loose {k} d =
          let b : k < node_count (view_of r) = omega (arith, d.within, nodes_count r) in
          let unnamed : (j : ℕ) → j < node_count (view_of r) → Names (view_of r) j k → ⊥
          = λ j c n. (l.marks refl k d.within).0 d.holds.1 j (omega (arith, nodes_count r)) (rw (in_alike.nodes j c) at n) in
          absurd (both ((loose_is (view_of r) k).1 (d.holds.0, unnamed)) (not_loose (view_of r) record-rules k b))

      -- the tree stands on the slate
      there : Alike (view_of r) (tree_on new (holes_in r))
      there = alike_more in_alike (l.tree refl)

      pub stands : Grid new → 1 ≤ holes_in r → holes_in r ≤ 1_024 → Stands new (holes_in r)
      stands g o f = record { grid = g; some = o; few = f; rules = alike-rules there record-rules }

      -- and with the sums
      module _ {last : List ℕ} (m : Summed hs 2 (holes_in r) new last) where
        still : holes_in r ≤ 1_024 → tree_on new (holes_in r) ≡ tree_on last (holes_in r)
        still few =
            same-tree new last (holes_in r)
            (λ k b. sym (m.rest (2_048 * FIRST + k) (omega arith) (omega arith)))
            (λ k b. sym (m.rest (2_048 * SECOND + k) (omega arith) (omega arith)))

        pub measured : holes_in r ≤ 1_024 → Grid last → Measured r last
        measured few g =
            let at : (k : ℕ) → k < node_count (view_of r) → k < nodes_of (holes_in r) = λ k b. omega (arith, nodes_count r) in
            let same : (k : ℕ) → k < node_count (view_of r) → under_node (tree_on new (holes_in r)) k ≡ under_node (view_of r) k
            = λ k b. sym (alike-under there record-rules k b) in
            record {
              grid = g;
              distinct = λ i j b c e. single j (omega (arith, view_holes r)) (record { other = i; lower = b; place = rw s.holes at e });
              rules = record-rules;
              tree = rw (← still few) there;
              holes = λ k b. m.holes k (at k b) ∙ ap length (same k b);
              lowest = λ k b. m.lowest k (at k b) ∙ ap lowest (same k b);
              box = λ k b. m.box k (at k b) ∙ rw (← s.holes) (ap (box_at (view_of r).holes) (same k b));
            }
