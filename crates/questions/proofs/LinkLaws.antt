-- The links that stand in the output after k pairs: a turn writes one more behind them. Assumes nothing.
use mathlib.Core.Path.{◌≡◌, ap, ◌∙◌}
use mathlib.Core.List.{List, ◌++◌}
use Prim.Native.Nat.{ℕ, suc, ◌+◌, ◌*◌}
use native.Mathlib.Numerals.{add-one}
use native.Mathlib.Omega.{arith}
use lib.ListN.{length}
use Rattle.words.specs.Words.{Written}
use Rattle.words.proofs.Laws.{written_none, written_more}
use Rattle.paper.specs.Field.{list_at}
use Rattle.paper.specs.Record.{two_numbers, two_numbers_at}
use Rattle.theory.proofs.EachLaws.{each, length-joined}
use Rattle.theory.proofs.Lengths.{length_two}
use Rattle.theory.proofs.Reading.{length_list}
use Rattle.record.proofs.PutLaws.{joined_more}
use Rattle.questions.specs.Linking.{link_on, links_on}

module _ (w ps : List ℕ) where
  pub length-links : (m : ℕ) → length (links_on w ps m) ≡ 4 * m
  unfolding links_on
  length-links m =
      let l = list_at two_numbers_at 4 ps 0 m in
      length-joined 4 (λ p. two_numbers (link_on w p)) l (each (λ p. length_two (link_on w p)) l)
      ∙ ap (λ (n : ℕ). 4 * n) (length_list two_numbers_at 4 ps 0 m)

  links_more : (k : ℕ) → links_on w ps (suc k) ≡ links_on w ps k ++ two_numbers (link_on w (two_numbers_at ps (4 * k)))
  unfolding links_on list_at
  links_more k =
      let e : 0 + 4 * k ≡ 4 * k = omega arith in
      rw e at (joined_more (λ p. two_numbers (link_on w p)) (λ j. two_numbers_at ps (0 + 4 * j)) 0 k k (omega arith))

  pub no_link : {a : List ℕ} → Written a a 0 (links_on w ps 0)
  unfolding links_on list_at
  no_link = written_none

  pub link_more : (k : ℕ) {a b c : List ℕ} → Written a b 0 (links_on w ps k) → Written b c (4 * k) (two_numbers (link_on w (two_numbers_at ps (4 * k))))
      → Written a c 0 (links_on w ps (k + 1))
  link_more k s t = rw (add-one, links_more k) (written_more s t (omega (arith, length-links k)))
