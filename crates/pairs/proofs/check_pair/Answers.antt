-- A pair of two nodes is good where their boxes are separated. Assumes nothing.
use Rattle.std.proofs.Common.{◌≡◌, ◌↔◌, Bool, List, ℕ, ◌<◌, IsTrue, sym, ◌∙◌}
use Rattle.paper.specs.Separation.{separated}
use Rattle.paper.specs.Record.{nodes_of}
use Rattle.theory.proofs.Statements.{separated_is}
use Rattle.field.specs.Boxes.{box_on}
use Rattle.pairs.specs.Checking.{PairOn}
use Rattle.pairs.proofs.check_pair.Goals as goal

judged : {w : List ℕ} {d a b n : ℕ} {p pair : ℕ × ℕ} {r : Bool} → p ≡ pair → p.0 < nodes_of n → p.1 < nodes_of n
    → r ≡ separated a b (box_on w d p.0) (box_on w d p.1) → IsTrue r ↔ PairOn w d a b n pair
judged e l m f =
    rw (← e) (
      λ t. record { left = l; right = m; far = (separated_is _ _ _ _).0 (sym f ∙ t) },
      λ g. f ∙ (separated_is _ _ _ _).1 g.far,
    )

pub returns-then-q-count : goal.returns-then-q-count
returns-then-q-count c =
    judged c.two_numbers_at-p.ensures.is c.if-q-count.true.0 c.if-q-count.true.1 c.is_separated.ensures
