-- The filter changes neither spans nor ranks, so that what is covered exactly once after it was so before. Assumes nothing.
use Rattle.std.proofs.Common.{◌≡◌, sym, ◌∙◌, List, ℕ, ◌<◌, arith, rules, Option, Some, None}
use Rattle.cover.specs.Spans.{coverings, Ready, FindsTwo, Covering}
use Rattle.cover.specs.Marks.{Sifted, Goods}
use Rattle.cover.proofs.SpanLaws.{ready-kept, meetings-kept, coverings-kept}
use Rattle.cover.proofs.uncovered.Goals as goal

module _ {old mid ps : List ℕ} {n m : ℕ} (g : Ready old ps n m) (s : Sifted ps n m 0 n old mid) where
  next : Ready mid ps n m
  next = ready-kept s.kept g

  goods : Goods mid ps n m
  goods =
      record {
        good = λ x l z. record {
          once = λ r b o. meetings-kept s.kept g m x r (omega arith) ∙ (s.good x (omega arith) l z).once r b o;
        };
      }

  same : (i j : ℕ) → i < j → j < n → coverings mid ps m (i, j) ≡ coverings old ps m (i, j)
  same i j l h = coverings-kept s.kept g i j (omega arith) h

  found-same : (t : Option (ℕ × ℕ)) → FindsTwo (λ q. coverings mid ps m q ≡ 1 → ⊥) n t → FindsTwo (λ q. coverings old ps m q ≡ 1 → ⊥) n t
  found-same (Some (i, j)) f =
      record {
        order = f.order;
        within = f.within;
        holds = λ e. f.holds (same i j f.order f.within ∙ e);
        none_before = λ a b h l no. f.none_before a b h l (λ e. no (sym (same a b h l) ∙ e));
      }
  found-same None f = λ i j l h no. f i j l h (λ e. no (sym (same i j l h) ∙ e))

  whole : {new : List ℕ} {t : Option (ℕ × ℕ)} → Covering ps n m mid new t → Covering ps n m old new t
  whole {t} c =
      record {
        len = c.len ∙ s.kept.len;
        found = found-same t c.found;
        rest = λ i h. c.rest i h ∙ s.kept.rest i (λ x y. h x (omega arith));
      }

ruleset all = (next, goods, whole, rules)

pub least_two-requires : goal.least_two-requires
least_two-requires c = search all

pub returns : goal.returns
returns c = search all
