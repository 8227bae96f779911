-- A rank at or after the start of a span is in it, or at or after its end. Assumes nothing.
use Rattle.std.proofs.Common.{◌≡◌, List, ℕ, ◌≤◌, ◌+◌, ltb, ◌∙◌, arith}
use Rattle.std.proofs.lemmas.Bool.Decides.{nat_tests}
use Rattle.slate.specs.Columns.{MARKS, TALLY}
use Rattle.slate.proofs.Frames.{kept_more}
use Rattle.theory.specs.Trees.{one_if}
use Rattle.cover.specs.Bits.{between}
use Rattle.cover.specs.Rows.{upto, Counting, OneMore, Tallying, Tallied}
use Rattle.cover.proofs.RowLaws.{one_if_most, upto_kept, counting_kept}
use Rattle.cover.proofs.tally_span.Goals as goal

in_it : (a e r : ℕ) → a ≤ e → one_if (ltb a (r + 1)) ≡ one_if (ltb e (r + 1)) + between a e r
unfolding between
in_it a e r l = grind (arith, nat_tests)

module _ {a b : List ℕ} {n from : ℕ} (s : OneMore MARKS n from a b) (p : Tallying a n) where
  ends_still : Counting b TALLY n
  ends_still = counting_kept s.kept p.ends (omega arith)

  span : {d : List ℕ} {end : ℕ} → from ≤ end → OneMore TALLY n end b d → Tallied n 1 (between from end) a d
  span {d} {end} l t =
      let marks : (i : ℕ) → i ≤ n → upto d MARKS i ≡ upto a MARKS i + one_if (ltb from i) =
      λ i l. upto_kept t.kept MARKS i (omega arith) ∙ s.sums i l in
      let tallies : (i : ℕ) → i ≤ n → upto d TALLY i ≡ upto a TALLY i + one_if (ltb end i) =
      λ i l. rw (← upto_kept s.kept TALLY i (omega arith)) (t.sums i l) in
      record {
        kept = kept_more s.kept t.kept (omega arith) (omega arith) (omega arith) (omega arith);
        starts = omega (arith, marks n (omega arith), one_if_most (ltb from n));
        ends = omega (arith, tallies n (omega arith), one_if_most (ltb end n));
        ranks = λ r x b o. record { is = omega (arith, marks (r + 1) (omega arith), tallies (r + 1) (omega arith), in_it from end r l) };
      }

pub count_one-requires-2 : goal.count_one-requires-2
count_one-requires-2 c = ends_still c.count_one.ensures c.requires.tallying

pub returns : goal.returns
returns c = span c.count_one.ensures c.requires.tallying c.requires.order c.count_one-2.ensures
