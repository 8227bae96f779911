-- The pairs of a record, by what the steps found in its part ps: which refusal is due, or that all the rules are met and the slate is filled. A
-- pair's boxes on the slate are the boxes of its nodes; a hole is under a node exactly where its rank is in the node's span, so that the pairs cover two
-- holes as often by ranks as by the record's rule. Assumes nothing.
use mathlib.Core.Path.{◌≡◌, refl, sym, ap, ◌∙◌}
use mathlib.Core.Logic.{◌↔◌}
use mathlib.Core.Bool.{Bool, true, ◌&&◌}
use mathlib.Core.List.{List, []}
use Prim.Native.Nat.{ℕ, ◌+◌, ◌*◌, ◌<◌, ◌≤◌}
use native.Mathlib.Nat.{zero-add}
use native.Mathlib.Omega.{arith}
use lib.Dec.{leb, ltb}
use lib.ListN.{length, get_or}
use borrow.Author.Tests.{leb-true, le-leb, ltb-true, ltb-false, lt-ltb, eqb-true, eq-eqb}
use Rattle.words.proofs.AreaLaws.{run-same}
use Rattle.slate.specs.Columns.{HOLES, FROM, ORDER, RANK, MARKS}
use Rattle.slate.specs.Slate.{cell}
use Rattle.paper.specs.Lists.{below, count, has}
use Rattle.paper.specs.Field.{hole, holes_at, list_at}
use Rattle.paper.specs.Tree.{Box, box_at}
use Rattle.paper.specs.Separation.{Separated}
use Rattle.paper.specs.Record.{holes_in, pairs_in, nodes_of, two_numbers_at, view_of}
use Rattle.paper.specs.Rules.{hole_count, node_count, pair_count, pair, Repeats, Names, NodeRule, PairRule, under_node, Under, covers, covered_once, OnePair}
use Rattle.paper.specs.Refusals.{Least, LeastTwo}
use Rattle.paper.specs.Questions.{lowest}
use Rattle.paper.proofs.ListLaws.{both, cases, not_so, and_is, has_is}
use Rattle.theory.specs.Trees.{Each}
use Rattle.theory.specs.Conditions.{First, here, later}
use Rattle.theory.specs.Conditions as due
use Rattle.theory.proofs.Alike.{alike-rules, alike-under}
use Rattle.theory.proofs.EachLaws.{each_at, each_mapped, each_from}
use Rattle.theory.proofs.FieldPairs.{count_same}
use Rattle.theory.proofs.Named.{not_loose}
use Rattle.theory.proofs.Orders.{equal, loose_is}
use Rattle.theory.proofs.Statements.{pair_is, covered_is}
use Rattle.theory.proofs.Checker.{stable, turned, Meant}
use Rattle.theory.proofs.RoundTrip.{view_holes, view_pairs, view_flat}
use Rattle.theory.proofs.Grown.{under-below}
use Rattle.theory.proofs.Separation.{sets_disjoint}
use Rattle.tree.specs.Standing.{tree_on, Stands}
use Rattle.tree.specs.Steps.{Summed, Counted, Ranked}
use Rattle.tree.proofs.Ranked.{ranked_tree, ranked_holes, rank_under, under_rank}
use Rattle.tree.proofs.Summed.{summed_tree}
use Rattle.tree.proofs.Views.{same-tree}
use Rattle.pairs.specs.Checking.{PairOn}
use Rattle.cover.specs.Spans.{spans, in_span, covers_on, coverings, Ready, Covering}
use Rattle.std.specs.Prelude.{None}
use Rattle.record.specs.Inspecting.{Measured, Filled}
use Rattle.record.proofs.NodesMeant.{least-same, nodes_count}

-- two tests that say the same are equal
same_test : {s t : Bool} {P : Type 0} → s ≡ true ↔ P → t ≡ true ↔ P → s ≡ t
same_test {s} {t} e f = cases t (λ h. e.1 (f.0 h) ∙ sym h) (λ h. not_so (λ g. both (f.1 (e.0 g)) h) ∙ sym h)

same-far : {a a' b b' : ℕ} {A A' B B' : Box} → a ≡ a' → b ≡ b' → A ≡ A' → B ≡ B' → Separated a b A B → Separated a' b' A' B'
same-far e f g h s = rw (← e, ← f, ← g, ← h) s

-- what holds of each pair of a list of bytes
pub each_listed : (P : ℕ × ℕ → Type 0) (ps : List ℕ) (m : ℕ) → ((i : ℕ) → i < m → P (two_numbers_at ps (4 * i))) → Each P (list_at two_numbers_at 4 ps 0 m)
unfolding list_at
each_listed P ps m f = each_mapped P (λ i. two_numbers_at ps (0 + 4 * i)) (below m) (each_from _ 0 m (λ i h l. rw zero-add (f i (omega arith))))

-- ps holds the pairs, at the ratio a/b
pub record Listed (r ps : List ℕ) (a b : ℕ) : Type 0 where
  pub pairs : (view_of r).pairs ≡ list_at two_numbers_at 4 ps 0 (pairs_in r)
  pub pair : (k : ℕ) → k < pairs_in r → pair (view_of r) k ≡ two_numbers_at ps (4 * k)
  pub a_is : (view_of r).a ≡ a
  pub b_is : (view_of r).b ≡ b

module _ {r w : List ℕ} (m : Measured r w) where
  pub standing : 1 ≤ holes_in r → holes_in r ≤ 1_024 → Stands w (holes_in r)
  standing o f = record { grid = m.grid; some = o; few = f; rules = alike-rules m.tree m.rules }

  pub counted : Counted w (holes_in r)
  counted k b =
      let c : k < node_count (view_of r) = omega (arith, nodes_count r) in
      m.holes k c ∙ ap length (alike-under m.tree m.rules k c)

  none-twice : (x : ℕ) → Least (Repeats (view_of r).holes) (hole_count (view_of r)) x → ⊥
  none-twice x d = m.distinct d.holds.other x d.holds.lower d.within d.holds.place

  none-tree : (x : ℕ) → Least (λ k. NodeRule (view_of r) k → ⊥) (node_count (view_of r)) x → ⊥
  none-tree x d = d.holds (m.rules x d.within)

  none-loose : (x : ℕ) → Least (λ k. (0 < k) × ((j : ℕ) → j < node_count (view_of r) → Names (view_of r) j k → ⊥)) (node_count (view_of r)) x → ⊥
  none-loose x d = both ((loose_is (view_of r) x).1 d.holds) (not_loose (view_of r) m.rules x d.within)

  module _ {ps : List ℕ} {a b : ℕ} (s : Listed r ps a b) where
    -- a pair is right on the slate exactly where it meets the rule
    right : (k : ℕ) → k < pairs_in r → PairOn w 2 a b (holes_in r) (two_numbers_at ps (4 * k)) ↔ PairRule (view_of r) (pair (view_of r) k)
    right k l =
        let n = nodes_count r in (
          λ p. rw (s.pair k l)
              (let x : (two_numbers_at ps (4 * k)).0 < node_count (view_of r) = omega (arith, p.left) in
              let y : (two_numbers_at ps (4 * k)).1 < node_count (view_of r) = omega (arith, p.right) in
              record { left = x; right = y; far = same-far (sym s.a_is) (sym s.b_is) (m.box _ x) (m.box _ y) p.far }),
          λ q.
              let p : PairRule (view_of r) (two_numbers_at ps (4 * k)) = rw (s.pair k l) at q in
              record {
                left = omega (arith, p.left);
                right = omega (arith, p.right);
                far = same-far s.a_is s.b_is (sym (m.box _ p.left)) (sym (m.box _ p.right)) p.far;
              },
        )

    -- 13
    pub due-pair : {k : ℕ} → Least (λ i. PairOn w 2 a b (holes_in r) (two_numbers_at ps (4 * i)) → ⊥) (pairs_in r) k → First (due.content (view_of r)) 13 k
    due-pair {k} d =
        let t : Least (λ i. PairRule (view_of r) (pair (view_of r) i) → ⊥) (pair_count (view_of r)) k
        = least-same (sym (view_pairs r)) (λ i l. (λ f q. f ((right i l).1 q), λ f p. f ((right i l).0 p))) d in
        later none-twice (later none-tree (later none-loose (here refl t)))

    module _ (good : (k : ℕ) → k < pairs_in r → (PairOn w 2 a b (holes_in r) (two_numbers_at ps (4 * k)) → ⊥) → ⊥) where
      pub pair-rules : (k : ℕ) → k < pair_count (view_of r) → PairRule (view_of r) (pair (view_of r) k)
      pair-rules k l =
          let c : k < pairs_in r = omega (arith, view_pairs r) in
          stable (pair_is (view_of r) (pair (view_of r) k)) (λ f. good k c (λ p. f ((right k c).0 p)))

      none-pair : (x : ℕ) → Least (λ k. PairRule (view_of r) (pair (view_of r) k) → ⊥) (pair_count (view_of r)) x → ⊥
      none-pair x d = d.holds (pair-rules x d.within)

      -- the ranks
      module _ {last : List ℕ} (some : 1 ≤ holes_in r) (few : holes_in r ≤ 1_024) (k : Ranked (holes_in r) w last) where
        stood : Stands w (holes_in r)
        stood = standing some few

        -- a hole is under a node exactly where its rank is in the span
        in-span : (x h : ℕ) → x < node_count (view_of r) → h < holes_in r → in_span last x h ≡ has h (under_node (view_of r) x)
        unfolding spans
        in-span x h l b =
            let c : x < nodes_of (holes_in r) = omega (arith, nodes_count r) in
            let e = under_rank stood counted k h x b c in
            let u = alike-under m.tree m.rules x l in
            let hs = ranked_holes stood k x c in
            same_test (
              λ t.
                  let q = (and_is (leb (cell last FROM x) (cell last RANK h)) (ltb (cell last RANK h) (cell last FROM x + cell last HOLES x))).0 t in
                  rw u (e.1 (leb-true _ _ q.0, omega (arith, hs, ltb-true (cell last RANK h) (cell last FROM x + cell last HOLES x) q.1))),
              λ y.
                  let q = e.0 (rw u at y) in
                  (and_is (leb (cell last FROM x) (cell last RANK h)) (ltb (cell last RANK h) (cell last FROM x + cell last HOLES x))).1
                  (le-leb _ _ q.0, lt-ltb (cell last RANK h) (cell last FROM x + cell last HOLES x) (omega (arith, hs, q.1))),
            )
            (has_is h (under_node (view_of r) x))

        -- so the pairs cover two holes as often by ranks as by the rule
        covers-same : (p q : ℕ) → p < holes_in r → q < holes_in r → (x : ℕ × ℕ) → x.0 < node_count (view_of r) → x.1 < node_count (view_of r)
            → covers_on last (p, q) x ≡ covers (view_of r) (p, q) x
        unfolding covers_on covers
        covers-same p q l b x c d = rw (in-span x.0 p c l, in-span x.1 q d b, in-span x.0 q c b, in-span x.1 p d l)

        each-pair : (i : ℕ) → i < pairs_in r → ((two_numbers_at ps (4 * i)).0 < node_count (view_of r)) × ((two_numbers_at ps (4 * i)).1 < node_count (view_of r))
        each-pair i l =
            let p : PairRule (view_of r) (two_numbers_at ps (4 * i)) = rw (s.pair i l) at (pair-rules i (omega (arith, view_pairs r))) in
            (p.left, p.right)

        coverings-is : (p q : ℕ) → p < holes_in r → q < holes_in r → coverings last ps (pairs_in r) (p, q) ≡ count (covers (view_of r) (p, q)) (view_of r).pairs
        unfolding coverings
        coverings-is p q l b =
            count_same (covers_on last (p, q)) (covers (view_of r) (p, q)) (list_at two_numbers_at 4 ps 0 (pairs_in r))
            (each_listed (λ x. covers_on last (p, q) x ≡ covers (view_of r) (p, q) x) ps (pairs_in r)
            (λ i h. let w = each-pair i h in covers-same p q l b (two_numbers_at ps (4 * i)) w.0 w.1))
            ∙ ap (count (covers (view_of r) (p, q))) (sym s.pairs)

        once_is : (p q : ℕ) → p < holes_in r → q < holes_in r → (coverings last ps (pairs_in r) (p, q) ≡ 1) ↔ OnePair (view_of r) p q
        unfolding covered_once
        once_is p q l b =
            let e = coverings-is p q l b in
            let c = covered_is (view_of r) p q in
            (λ h. c.0 (eq-eqb _ _ (sym e ∙ h)), λ o. e ∙ eqb-true _ _ (c.1 o))

        -- 14
        pub due-cover : {i j : ℕ} → LeastTwo (λ q. coverings last ps (pairs_in r) q ≡ 1 → ⊥) (holes_in r) (i, j)
            → First (due.content (view_of r)) 14 (1_024 * i + j)
        due-cover {i} {j} d =
            let n = view_holes r in
            let t : LeastTwo (λ q. OnePair (view_of r) q.0 q.1 → ⊥) (hole_count (view_of r)) (i, j) = record {
              order = d.order;
              within = omega (arith, d.within);
              holds = λ o. d.holds ((once_is i j (omega (arith, d.within, d.order)) d.within).1 o);
              none_before = λ p q a b f. d.none_before p q a (omega arith) (λ h. f ((once_is p q (omega arith) (omega arith)).0 h));
            } in
            let x : (due.cover (view_of r)).due (1_024 * i + j) = ((i, j), t, refl) in
            later none-twice (later none-tree (later none-loose (later none-pair (here refl x))))

        -- no rank is in the spans of both sides of a pair
        apart : 1 ≤ a → (i : ℕ) → i < pairs_in r → (h : ℕ) → spans last (two_numbers_at ps (4 * i)).0 h ≡ true
            → spans last (two_numbers_at ps (4 * i)).1 h ≡ true → ⊥
        unfolding spans
        apart pos i l h x y =
            let p = two_numbers_at ps (4 * i) in
            let b = each-pair i l in
            let g : ℕ = get_or (under_node (tree_on w (holes_in r)) 0) h 0 in
            let at : (q : ℕ) → q < node_count (view_of r) → (leb (cell last FROM q) h && ltb h (cell last FROM q + cell last HOLES q)) ≡ true → Under (view_of r) g q
            = λ q c t.
            let z = (and_is (leb (cell last FROM q) h) (ltb h (cell last FROM q + cell last HOLES q))).0 t in
            let d : q < nodes_of (holes_in r) = omega (arith, nodes_count r) in
            rw (alike-under m.tree m.rules q c)
            (rank_under stood counted k q d h (leb-true _ _ z.0)
            (omega (arith, ranked_holes stood k q d, ltb-true h (cell last FROM q + cell last HOLES q) z.1))) in
            let f : PairRule (view_of r) p = rw (s.pair i l) at (pair-rules i (omega (arith, view_pairs r))) in
            sets_disjoint (view_of r).holes 2 (view_of r).a (view_of r).b (under_node (view_of r) p.0) (under_node (view_of r) p.1)
            (λ z u. flat z (under-below (view_of r) m.rules p.0 b.0 z u))
            (λ z u. flat z (under-below (view_of r) m.rules p.1 b.1 z u))
            f.far (rw s.a_is pos) g (at p.0 b.0 x) (at p.1 b.1 y)
          where
            flat : (z : ℕ) → z < hole_count (view_of r) → length (hole (view_of r).holes z) ≡ 2
            flat z u = each_at (λ c. length c ≡ 2) (view_of r).holes (view_flat r) z [] u

        pub ready : 1 ≤ a → length ps ≡ 4 * pairs_in r → pairs_in r ≤ 523_776 → Ready last ps (holes_in r) (pairs_in r)
        ready pos e most =
            record {
              given = record { grid = omega (arith, m.grid, k.len); some = some; few = few; all = omega arith; most = most };
              within = λ x b. omega (arith, k.fits x b, ranked_holes stood k x b);
              ranks = k.rank;
              places = λ i j b c f. sym (k.place i b) ∙ rw f (k.place j c);
              left = λ i l. omega (arith, each-pair i l, nodes_count r);
              right = λ i l. omega (arith, each-pair i l, nodes_count r);
              apart = apart pos;
            }

        -- every two are covered once: all the rules are met, and the slate is filled
        module _ {end : List ℕ} (g : Covering ps (holes_in r) (pairs_in r) last end None) where
          once : (i j : ℕ) → i < j → j < holes_in r → OnePair (view_of r) i j
          once i j l h = (once_is i j (omega arith) h).0 (stable (equal (coverings last ps (pairs_in r) (i, j)) 1) (g.found i j l h))

          pub meant : Meant (view_of r)
          meant =
              record {
                distinct = m.distinct;
                nodes = m.rules;
                pairs = pair-rules;
                covered = λ p q l h ne.
                    cases (ltb p q)
                    (λ e. once p q (ltb-true p q e) (omega (arith, view_holes r)))
                    (λ e. turned (view_of r) q p (once q p (omega (arith, ltb-false p q e)) (omega (arith, view_holes r))));
              }

          -- what covering leaves of the slate is all that is below MARKS
          same-cell : (c j : ℕ) → c < MARKS → j < 2_048 → cell end c j ≡ cell last c j
          same-cell c j l b = g.rest (2_048 * c + j) (omega arith)

          same_nodes : tree_on end (holes_in r) ≡ tree_on w (holes_in r)
          same_nodes =
              same-tree end last (holes_in r) (λ j b. same-cell 0 j (omega arith) (omega arith)) (λ j b. same-cell 1 j (omega arith) (omega arith))
              ∙ ranked_tree stood k

          pub stands-still : Stands end (holes_in r)
          stands-still = record { grid = omega (arith, m.grid, k.len, g.len); some = some; few = few; rules = rw same_nodes stood.rules }

          -- and summing up once more leaves the ranks
          module _ {full hs : List ℕ} (u : Summed hs 2 (holes_in r) end full) (said : (view_of r).holes ≡ holes_at 2 hs 0 (holes_in r)) where
            under : (j : ℕ) → j < node_count (view_of r) → under_node (tree_on w (holes_in r)) j ≡ under_node (view_of r) j
            under j b = sym (alike-under m.tree m.rules j b)

            under-still : (j : ℕ) → j < node_count (view_of r) → under_node (tree_on end (holes_in r)) j ≡ under_node (view_of r) j
            under-still j b = rw same_nodes (under j b)

            left-cell : (c j : ℕ) → FROM ≤ c → c < MARKS → j < 2_048 → cell full c j ≡ cell last c j
            left-cell c j o l b = u.rest (2_048 * c + j) (omega arith) (omega arith) ∙ same-cell c j l b

            pub filled : Filled r full
            filled =
                let at : (j : ℕ) → j < node_count (view_of r) → j < nodes_of (holes_in r) = λ j b. omega (arith, nodes_count r) in
                let root = under 0 (omega (arith, nodes_count r)) in
                let holes : (j : ℕ) → j < node_count (view_of r) → cell full HOLES j ≡ length (under_node (view_of r) j)
                = λ j b. u.holes j (at j b) ∙ ap length (under-still j b) in
                let hs : (j : ℕ) → j < node_count (view_of r) → cell full HOLES j ≡ cell w HOLES j = λ j b. holes j b ∙ sym (m.holes j b) in
                let fs : (j : ℕ) → j < node_count (view_of r) → cell full FROM j ≡ cell last FROM j
                = λ j b. left-cell FROM j (omega arith) (omega arith) (omega (arith, nodes_count r)) in
                record {
                  grid = omega (arith, m.grid, k.len, g.len, u.len);
                  tree = rw (summed_tree u few, same_nodes) m.tree;
                  holes = holes;
                  lowest = λ j b. u.lowest j (at j b) ∙ ap lowest (under-still j b);
                  box = λ j b. u.box j (at j b) ∙ rw (← said) (ap (box_at (view_of r).holes) (under-still j b));
                  order = run-same full last (2_048 * ORDER) (holes_in r) (λ i l h. u.rest i (omega arith) (omega arith) ∙ g.rest i (omega arith)) ∙ k.order ∙ root;
                  fits = λ j b. rw (fs j b, hs j b) (k.fits j (at j b));
                  stretch = λ j b. rw (fs j b, hs j b, ← under j b, ← root) (k.stretch j (at j b));
                  rank = λ h l. rw (left-cell RANK h (omega arith) (omega arith) (omega arith)) (k.rank h l);
                  place = λ h l. rw (left-cell RANK h (omega arith) (omega arith) (omega arith), ← root) (k.place h l);
                }
