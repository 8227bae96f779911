-- Build, then check: the checker takes every record that the builder finishes, and it reads back to the same ratio, field, tree and list. A
-- finished build's holes are few, distinct and in range, so what the record says fits its bytes and meets the rules. Assumes nothing.
use mathlib.Core.Path.{◌≡◌, refl, sym, ap, ◌∙◌}
use mathlib.Core.List.{List}
use Prim.Native.Nat.{ℕ, ◌+◌, ◌*◌, ◌-◌, ◌/◌, ◌%◌, ◌≤◌, ◌<◌}
use native.Mathlib.Nat.{mul-le-mul}
use native.Mathlib.Omega.{arith}
use lib.ListN.{length, length-map}
use borrow.Author.Tests.{eq-eqb}
use Rattle.words.specs.Words.{Bytes}
use Rattle.paper.specs.Lists.{joined}
use Rattle.paper.specs.Field.{Field, hole_bytes, holes_at, Ratio, most_holes, least_work}
use Rattle.paper.specs.Tree.{Tree, leaf, fork, number, tree_of}
use Rattle.paper.specs.Separation.{far, side}
use Rattle.paper.specs.Pairs.{pairs_of, numbers}
use Rattle.paper.specs.Record.{View, leaf_mark, entries, written, built, nodes_of, holes_in, pairs_in, view_of}
use Rattle.paper.specs.Rules.{repeats, Record}
use Rattle.theory.proofs.Statements.{ratio_is, repeats_is}
use Rattle.paper.specs.Refusals.{given, build, check}
use Rattle.theory.specs.Trees.{Each, Met, leaves, times, grow}
use Rattle.theory.specs.Conditions.{NoneDue, all, ◌also◌}
use Rattle.theory.specs.Conditions as due
use Rattle.theory.proofs.EachLaws.{each_append, each_map, each_mapped}
use Rattle.theory.proofs.Subtrees.{some_leaf, number_met}
use Rattle.theory.proofs.PairsFit.{pairs-numbers}
use Rattle.theory.proofs.Fields.{Distinct, leaves-tree, nodes-tree, met-tree, once-tree}
use Rattle.theory.proofs.FieldPairs.{field_few, built-meant, built-tree}
use Rattle.theory.proofs.Lengths.{length_whole}
use Rattle.theory.proofs.Reading.{Small, length_holes, holes_flat, coordinates_small}
use Rattle.theory.proofs.RoundTrip.{Fits, a_back, b_back, hole_count_back, node_count_back, pair_count_back, view_back, coordinates_again}
use Rattle.theory.proofs.Orders.{equal, build_gives}
use Rattle.theory.proofs.Checker.{stable, at_most, none-least, Framed, record_is, taken_is}

-- a field that a record has room for
pub record Fine (a b : ℕ) (H : Field) : Type 0 where
  pub ratio : Ratio a b
  pub some : 1 ≤ length H
  pub few : length H ≤ most_holes
  pub flat : Each (λ h. length h ≡ 2) H
  pub coordinates : Each (Each (λ x. x < 65_536)) H
  pub distinct : Distinct H

-- the entries of a tree that is numbered as it is met fit two bytes
entries_small : (k : ℕ) (t : Tree) → Met k t → k + 2 * leaves t ≤ leaf_mark → ((p : ℕ) → 1 ≤ times p t → p < leaf_mark) → Each Small (entries t)
unfolding entries leaves times
entries_small k (leaf j x) m l h = ((omega arith, omega (arith, h x (rw (eq-eqb x x refl) (omega arith)))), tt)
entries_small k (fork j a b) m l h =
    let na = number_met (k + 1) a m.1 in
    let nb = number_met (k + 2 * leaves a) b m.2 in
    let sa = some_leaf a in
    let sb = some_leaf b in (
      (omega arith, omega arith),
      each_append Small (entries a) (entries b)
          (entries_small (k + 1) a m.1 (omega arith) (λ p q. h p (omega arith)))
          (entries_small (k + 2 * leaves a) b m.2 (omega arith) (λ p q. h p (omega arith))),
    )

module _ (a b : ℕ) (H : Field) (f : Fine a b H) where
  -- the tree has n leaves, and each of the n holes once
  tree-leaves : leaves (tree_of H) ≡ length H
  tree-leaves = leaves-tree H 2 f.flat f.distinct f.some

  few_pairs : length (pairs_of H a b) < 4_294_967_296
  few_pairs =
      let p = field_few 2 H f.flat f.distinct f.some a b in
      let l : length H - 1 ≤ 1_024 = omega (arith, f.few) in
      let q : length H * (length H - 1) ≤ 1_024 * 1_024 = mul-le-mul f.few l in
      omega arith

  small_pair : (r : Tree × Tree) → (number r.0 < number r.1) × (number r.1 < 2 * leaves (tree_of H) - 1) → Small (numbers r)
  small_pair r w = (omega (arith, f.few, tree-leaves), omega (arith, f.few, tree-leaves))

  pub built_fits : Fits (built a b H)
  unfolding built pairs_of
  built_fits =
      let o = once-tree H 2 f.flat f.distinct f.some in
      let m = met-tree H 2 f.flat f.distinct f.some in
      record {
        a_small = omega (arith, f.ratio.a_high);
        b_small = omega (arith, f.ratio.b_high);
        flat = f.flat;
        coordinates = f.coordinates;
        some = f.some;
        nodes_right = nodes-tree H 2 f.flat f.distinct f.some;
        nodes_few = omega (arith, nodes-tree H 2 f.flat f.distinct f.some, f.few);
        nodes_small = entries_small 0 (tree_of H) m (omega (arith, tree-leaves, f.few)) (λ p h. omega (arith, o.within p h, f.few));
        pairs_few = rw (length-map (pairs_of H a b) numbers) few_pairs;
        pairs_small = each_mapped Small numbers (pairs_of H a b)
            (each_map small_pair (pairs_of H a b) (pairs-numbers (far H a b) (side H) (tree_of H) m));
      }

  -- what was written reads back to the same ratio, field and list, and the same tree grows from it
  pub record_back : view_of (written (built a b H)) ≡ built a b H
  record_back = view_back (built a b H) built_fits

  small_tree : nodes_of (length H) < leaf_mark
  small_tree = omega (arith, f.few)

  pub tree_back : grow (view_of (written (built a b H))) 0 ≡ tree_of H
  tree_back = rw record_back (built-tree 2 H f.flat f.distinct f.some a b small_tree)

  -- and the record meets the rules
  pub record_right : Record (written (built a b H))
  unfolding built
  record_right =
      let v = built a b H in
      let r = written v in
      let n : holes_in r ≡ length H = hole_count_back v built_fits in
      let m : pairs_in r ≡ length v.pairs = pair_count_back v built_fits in
      let e : length v.pairs ≡ length (pairs_of H a b) = length-map (pairs_of H a b) numbers in
      let framed : Framed r least_work = record {
        work = omega arith;
        ratio = rw (a_back v, b_back v) f.ratio;
        some = rw n f.some;
        few = rw n f.few;
        nodes_right = node_count_back v built_fits ∙ built_fits.nodes_right ∙ ap nodes_of (sym n);
        pairs_right = rw (m, e, n) (field_few 2 H f.flat f.distinct f.some a b);
        end = rw (m, n) (length_whole v f.flat f.some built_fits.nodes_right);
      } in
      ((record_is r least_work).0 (framed, rw record_back (built-meant 2 H f.flat f.distinct f.some a b small_tree))).1

-- a call that finishes: c is the coordinate list, r the record
module _ (c : List ℕ) (small : Bytes c) (a b w o : ℕ) where
  abbrev H : Field
  H = holes_at 2 c 0 (length c / 4)

  -- what none of the builder's refusals means
  fine : NoneDue (due.builder c a b w o) → Fine a b (holes_at 2 c 0 (length c / 4))
  fine (work also odd also none also many also ratio also twice also room also all) =
      let n = length c / 4 in
      let l : length (holes_at 2 c 0 n) ≡ n = length_holes 2 c 0 n in
      record {
        ratio = stable (ratio_is a b) (λ g. ratio 0 (g, refl));
        some = omega (arith, at_most {a = n} {b = 1} (λ h. none 0 (omega arith, refl)));
        few = rw l (at_most (λ h. many n (h, refl)));
        flat = holes_flat 2 c 0 n;
        coordinates = coordinates_small 2 c 0 n small;
        distinct = λ i j h k e.
            none-least (repeats (holes_at 2 c 0 n)) (repeats_is (holes_at 2 c 0 n)) (length (holes_at 2 c 0 n)) twice j k
            (record { other = i; lower = h; place = e });
      }

  even : NoneDue (due.builder c a b w o) → length c ≡ 4 * (length c / 4)
  even (work also odd also more) = let e : length c % 4 ≡ 0 = stable (equal _ _) (λ g. odd (length c) (g, refl)) in omega arith

  module _ (r : List ℕ) (finished : build c a b w o ≡ given r) where
    done : Fine a b H × (written (built a b H) ≡ r)
    done = let g = (build_gives c a b w o r).0 finished in (fine g.0, g.1)

    -- `check` takes what `build` finishes
    pub build-check : (w' : ℕ) → least_work ≤ w' → check r w' ≡ given (length c / 4, length (pairs_of (holes_at 2 c 0 (length c / 4)) a b))
    unfolding built
    build-check w' enough =
        let f = done.0 in
        (taken_is r w' _ _).1 (
          (enough, rw (← done.1) (record_right a b H f)),
          rw (← done.1) (hole_count_back (built a b H) (built_fits a b H f) ∙ length_holes 2 c 0 (length c / 4)),
          rw (← done.1) (pair_count_back (built a b H) (built_fits a b H f) ∙ length-map (pairs_of H a b) numbers),
        )

    -- reading the record gives the same ratio, field, tree and list, and writing that again the same bytes
    pub read_back : view_of r ≡ built a b (holes_at 2 c 0 (length c / 4))
    read_back = rw (← done.1) (record_back a b H done.0)

    pub grown-back : grow (view_of r) 0 ≡ tree_of (holes_at 2 c 0 (length c / 4))
    grown-back = rw (← done.1) (tree_back a b H done.0)

    pub written_back : written (view_of r) ≡ r
    written_back = ap written read_back ∙ done.1

    -- and the holes are those of the list
    pub holes-back : joined hole_bytes (view_of r).holes ≡ c
    unfolding built
    holes-back =
        let g = (build_gives c a b w o r).0 finished in
        ap (λ (v : View). joined hole_bytes v.holes) read_back ∙ coordinates_again 2 (length c / 4) c small (even g.0)
