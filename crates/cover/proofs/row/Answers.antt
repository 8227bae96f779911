-- With nothing counted before, as many spans are open at a rank as pairs cover its hole and hole i. Assumes nothing.
use Rattle.std.proofs.Common.{List, ℕ, ◌<◌, arith, rules}
use Rattle.slate.specs.Columns.{RANK}
use Rattle.slate.specs.Slate.{cell, Held}
use Rattle.slate.proofs.Frames.{kept_wider, kept_both, kept_cell}
use Rattle.cover.specs.Spans.{Ready}
use Rattle.cover.specs.Rows.{Emptied, Counted, Spread, Row}
use Rattle.cover.proofs.SpanLaws.{ready-kept, coverings_are, coverings-kept}
use Rattle.cover.proofs.row.Goals as goal

done : {a b d e ps : List ℕ} {n m i x : ℕ} → Ready a ps n m → Emptied n a b → Held b RANK i x → Counted ps n m x b d → Spread n d e
    → i < n → Row ps n m i a e
done {b} {i} g p o t s l =
    let k = kept_both t.kept (kept_wider s.kept (omega arith) (omega arith)) in
    let q = ready-kept p.kept g in
    record {
      kept = kept_both p.kept k;
      row = record {
        ready = ready-kept k q;
        capped = λ j h.
            let r = q.ranks j h in
            rw (kept_cell k RANK j (omega arith), coverings-kept k q i j l h, coverings_are b, ← o.is)
            (s.capped (cell b RANK j) _ r (t.ranks (cell b RANK j) r));
      };
    }

ruleset all = (ready-kept, done, rules)

pub tally_pairs-requires : goal.tally_pairs-requires
tally_pairs-requires c = search all

pub returns : goal.returns
returns c = search all
