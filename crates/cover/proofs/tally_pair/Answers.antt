-- No rank is in the spans of both nodes, so where x is in one of them the pair covers it with the ranks of the other, and with no rank where x is in
-- neither. Assumes nothing.
use Rattle.std.proofs.Common.{◌≡◌, Bool, true, false, ◌&&◌, List, ℕ, leb, ltb, sym, ◌∙◌, arith, rules}
use Rattle.paper.proofs.ListLaws.{not_so}
use Rattle.cover.specs.Bits.{between}
use Rattle.cover.specs.Rows.{pair_at, meeting, SpansOf, PairSpans, Tallied}
use Rattle.cover.proofs.RowLaws.{tallied_none, tallied_as}
use Rattle.cover.proofs.SpanLaws.{spans_apart, meeting-is}
use Rattle.cover.proofs.tally_pair.Goals as goal

module _ {w ps : List ℕ} {n k a b d e : ℕ} {u : Bool} (x : ℕ) (g : PairSpans w ps k) (s : SpansOf w ps k a b d e) (f : u ≡ (leb a x && ltb x b)) where
  first : {w' : List ℕ} → u ≡ true → Tallied n 1 (between d e) w w' → Tallied n 1 (meeting w x (pair_at ps k)) w w'
  unfolding between
  first h m = tallied_as (λ r. rw (meeting-is g s x r, sym f ∙ h, not_so (spans_apart g s x (sym f ∙ h))) (omega arith)) m

  module _ {v : Bool} (h : u ≡ false) (i : v ≡ (leb d x && ltb x e)) where
    second : {w' : List ℕ} → v ≡ true → Tallied n 1 (between a b) w w' → Tallied n 1 (meeting w x (pair_at ps k)) w w'
    unfolding between
    second j m = tallied_as (λ r. rw (meeting-is g s x r, sym f ∙ h, sym i ∙ j) (omega arith)) m

    none : v ≡ false → Tallied n 1 (meeting w x (pair_at ps k)) w w
    unfolding between
    none j = tallied_as (λ r. rw (meeting-is g s x r, sym f ∙ h, sym i ∙ j) (omega arith)) tallied_none

ruleset all = (first, second, none, rules)

pub returns-then-contains : goal.returns-then-contains
returns-then-contains c = search all

pub returns-then-contains-2 : goal.returns-then-contains-2
returns-then-contains-2 c = search all

pub returns-else-contains-2 : goal.returns-else-contains-2
returns-else-contains-2 c = search all
