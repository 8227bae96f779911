-- Words that are 0 have no bit, and a SKIP that is 0 passes over nothing. Assumes nothing.
use Rattle.std.proofs.Common.{◌≡◌, ◌∙◌, List, ℕ, ◌<◌, ◌≤◌, ◌+◌, ◌-◌, ◌*◌, ◌/◌, ◌%◌, arith, rules}
use Rattle.words.specs.Area.{word}
use Rattle.slate.specs.Columns.{MARKS, SKIP}
use Rattle.slate.specs.Slate.{cell, WordsCleared}
use Rattle.slate.proofs.Frames.{kept_more}
use Rattle.cover.specs.Marks.{marked, row_at, Block, Blank}
use Rattle.cover.proofs.BitLaws.{no_bit}
use Rattle.cover.proofs.empty_rows.Goals as goal

module _ {a b : List ℕ} {start end : ℕ} (g : Block a start end) (p : WordsCleared a b (2_048 * MARKS) (64 * (end - start))) where
  module _ {d : List ℕ} (q : WordsCleared b d (2_048 * SKIP + start) (end - start)) where
    skip : (x : ℕ) → start ≤ x → x < end → cell d SKIP x ≡ 0
    skip x l h =
        let e : 2_048 * SKIP + start + (x - start) ≡ 2_048 * SKIP + x = omega arith in
        rw e at (q.zero (x - start) (omega arith))

    blank-word : (x r : ℕ) → start ≤ x → x < end → r < 1_024 → word d (row_at start x + r / 16) ≡ 0
    blank-word x r l h m =
        let e : 2_048 * MARKS + (64 * (x - start) + r / 16) ≡ row_at start x + r / 16 = omega arith in
        q.kept.rest _ (omega arith) ∙ (rw e at (p.zero (64 * (x - start) + r / 16) (omega arith)))

    blank : Blank start end a d
    unfolding marked
    blank =
        record {
          kept = kept_more p.kept q.kept (omega arith) (omega arith) (omega arith) (omega arith);
          skips = record { gone = λ x i l h m o. absurd (omega (arith, skip x l (omega arith))) };
          rows = λ x l h. record { is = λ z r m. rw (blank-word x r l h m) (no_bit (r % 16)) };
        }

pub returns : goal.returns
returns c = search (blank, rules)
