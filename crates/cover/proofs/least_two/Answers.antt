-- SCRATCH says 1 exactly where the count that it caps at two is 1, and a rank that is kept is good. Assumes nothing.
use Rattle.std.proofs.Common.{◌≡◌, List, ℕ, ◌≤◌, ◌<◌, ◌+◌, min, sym, ap, ◌∙◌, Some, below_more, rules, arith}
use Rattle.slate.specs.Columns.{RANK, SCRATCH, SKIP}
use Rattle.slate.specs.Slate.{cell, Held}
use Rattle.slate.proofs.Frames.{kept_both, kept_cell}
use Rattle.cover.specs.Spans.{coverings, Ready, Covering}
use Rattle.cover.specs.Rows.{Beside, Row, said}
use Rattle.cover.specs.Marks.{Goods}
use Rattle.cover.proofs.SpanLaws.{ready-kept, coverings_are, coverings-kept}
use Rattle.cover.proofs.least_two.Invariants.{OnceBelow, OnceUpTo}
use Rattle.cover.proofs.least_two.Goals as goal

module _ {old w ps : List ℕ} {n m i : ℕ} (g : Ready old ps n m) (k : Beside old w) where
  module _ (d : OnceBelow old ps n m i) where
    once_more : ((b : ℕ) → i < b → b < n → coverings old ps m (i, b) ≡ 1) → OnceBelow old ps n m (i + 1)
    once_more h = record { once = λ a b l. below_more (λ a. a < b → b < n → coverings old ps m (a, b) ≡ 1) i (λ a l. d.once a b l) (h b) a l }

    -- a hole whose rank is kept is covered exactly once with every other
    passed_over : {x v : ℕ} → Goods old ps n m → i < n → Held w RANK i x → Held w SKIP x v → v ≡ 0 → OnceBelow old ps n m (i + 1)
    passed_over {x} s l p q e =
        let y : cell old RANK i ≡ x = sym (p.is ∙ kept_cell k RANK i (omega arith)) in
        let z : cell old SKIP x ≡ 0 = omega (arith, q.is, kept_cell k SKIP x (omega arith)) in
        let good = s.good (cell old RANK i) (g.ranks i l) (rw y z) in
        once_more
        (λ b u f. coverings_are old ps m i b ∙ good.once (cell old RANK b) (g.ranks b f) (λ c. absurd (omega (arith, g.places b i f l c))))

    module _ {w' : List ℕ} {j : ℕ} (s : Row ps n m i w w') (o : OnceUpTo w' i j) where
      kept : Beside old w'
      kept = kept_both k s.kept

      told : (b : ℕ) → i < b → b < n → said w' b ≡ min 2 (coverings old ps m (i, b))
      told b h l = s.row.capped b l ∙ ap (min 2) (coverings-kept kept g i b (omega arith) l)

      below_turn : n ≤ j → OnceBelow old ps n m (i + 1)
      below_turn e = once_more (λ b l f. omega (arith, told b l f, o.once b (omega arith) (omega arith)))

      found_two : {r v : ℕ} → i + 1 ≤ j → j < n → Held w' RANK j r → Held w' SCRATCH r v → (v ≡ 1 → ⊥) → Covering ps n m old w' (Some (i, j))
      found_two h l p q ne =
          record {
            len = kept.len;
            found = record {
              order = omega arith;
              within = l;
              holds = λ e. ne (q.is ∙ rw p.is (told j (omega arith) l ∙ ap (min 2) e));
              none_before = λ a b f t no. (
                λ x. no (d.once a b x f t),
                λ e x. no (rw e (let y : i < b = omega arith in omega (arith, told b y t, o.once b (omega arith) x))),
              );
            };
            rest = λ c o. kept.rest c (λ x y. o x (omega arith));
          }

pub search-preserved-then-cell-eq0 : goal.search-preserved-then-cell-eq0
search-preserved-then-cell-eq0 c =
    let k = c.search.invariant in
    (k.0, k.1, passed_over c.requires.ready k.1 k.2 c.requires.goods (omega arith) c.cell-x.ensures c.cell.ensures c.if-cell-eq0.true)

pub row-requires-clause-ready : goal.row-requires-clause-ready
row-requires-clause-ready c = ready-kept c.search.invariant.1 c.requires.ready

pub search-preserved : goal.search-preserved
search-preserved c =
    let k = c.search.invariant in
    let j = c.loop-j.invariant.1 in
    (search rules, kept c.requires.ready k.1 k.2 c.row.ensures j, below_turn c.requires.ready k.1 k.2 c.row.ensures j (omega arith))

pub returns-then-cell-ne1 : goal.returns-then-cell-ne1
returns-then-cell-ne1 c =
    let k = c.search.invariant in
    found_two c.requires.ready k.1 k.2 c.row.ensures c.loop-j.invariant.1 (omega arith) (omega arith) c.cell-r.ensures c.cell-in-loop-j.ensures c.if-cell-ne1.true
