-- What `links` answers for a record that is taken, and what it leaves in an output that was all zero. A link on the slate is the record's, since the
-- lowest holes stand there. Assumes nothing.
use mathlib.Core.Path.{◌≡◌, refl, sym, ap, ◌∙◌}
use mathlib.Core.Bool.{false}
use mathlib.Core.List.{List, [], ◌∷◌}
use Prim.Native.Nat.{ℕ, ◌+◌, ◌*◌, ◌<◌, ◌≤◌}
use native.Mathlib.Omega.{arith}
use lib.Dec.{leb}
use lib.ListN.{length}
use borrow.Author.Tests.{le-leb, lt-leb, lt-ltb, le-ltb}
use Rattle.std.specs.Prelude.{Ok, Err}
use Rattle.words.specs.Words.{Written}
use Rattle.paper.specs.Lists.{joined}
use Rattle.paper.specs.Field.{list_at}
use Rattle.paper.specs.Record.{two_numbers, two_numbers_at, pairs_in, view_of}
use Rattle.paper.specs.Rules.{node_count, pair_count}
use Rattle.paper.specs.Refusals.{given}
use Rattle.paper.specs.Questions.{link, links}
use Rattle.paper.specs.declared.Refusal.{Refusal}
use Rattle.paper.specs.declared.Refusal.TheVariants as R
use Rattle.paper.proofs.Tables.{stop, pass, passed}
use Rattle.theory.specs.Trees.{Each}
use Rattle.theory.proofs.RoundTrip.{view_pairs}
use Rattle.record.specs.Cutting.{pairs_slice}
use Rattle.record.specs.Inspecting.{Refusing}
use Rattle.record.specs.Outputs.{Blank, Made}
use Rattle.record.specs.declared.Parts.{Parts}
use Rattle.record.proofs.Slices.{pairs_said}
use Rattle.record.proofs.PairsMeant.{each_listed}
use Rattle.record.proofs.Outputs.{refused_blank, finished}
use Rattle.questions.specs.Asking.{Known}
use Rattle.questions.specs.Linking.{link_on, links_on, LinksFit}
use Rattle.questions.proofs.Meaning.{left_node, right_node, pairs_there}
use Rattle.questions.proofs.LinkLaws.{length-links}
use Rattle.questions.proofs.Replies.{a_is, b_is}

joined_same : {A : Type 0} (f g : A → List ℕ) (xs : List A) → Each (λ x. f x ≡ g x) xs → joined f xs ≡ joined g xs
joined_same f g [] e = refl
joined_same f g (x ∷ xs) e = rw (e.0, joined_same f g xs e.1)

module _ {bytes w : List ℕ} {p : Parts} (k : Known bytes w p) where
  m_is : pair_count (view_of bytes) ≡ p.m
  m_is = view_pairs bytes ∙ sym k.parts.m_is

  same-link : (q : ℕ × ℕ) → q.0 < node_count (view_of bytes) → q.1 < node_count (view_of bytes) → link_on w q ≡ link (view_of bytes) q
  unfolding link
  same-link q l r = rw (k.filled.lowest q.0 l, k.filled.lowest q.1 r) refl

  links_are : {ps : List ℕ} → ps ≡ pairs_slice bytes
      → links_on w ps p.m ≡ joined (λ q. two_numbers (link (view_of bytes) q)) (view_of bytes).pairs
  unfolding links_on
  links_are e =
      let f : ℕ × ℕ → List ℕ = λ q. two_numbers (link_on w q) in
      let g : ℕ × ℕ → List ℕ = λ q. two_numbers (link (view_of bytes) q) in
      rw (e, k.parts.m_is)
      (joined_same f g (list_at two_numbers_at 4 (pairs_slice bytes) 0 (pairs_in bytes))
      (each_listed (λ q. f q ≡ g q) (pairs_slice bytes) (pairs_in bytes)
      (λ t l. ap two_numbers (same-link (two_numbers_at (pairs_slice bytes) (4 * t)) (left_node k t l) (right_node k t l))))
      ∙ ap (joined g) (sym (pairs_said bytes)))

  pub links_fit : {out ps : List ℕ} → ps ≡ pairs_slice bytes → 4 * p.m ≤ length out → LinksFit out w ps p.m
  links_fit e l = record { there = pairs_there k e; room = l }

  module _ {out : List ℕ} (blank : Blank out) where
    pub links-low : p.ratio.a ≤ 4 * p.ratio.b → Made (links bytes) (length w) out out (Err (R.Low (256 * p.ratio.a + p.ratio.b)))
    unfolding links
    links-low l = refused_blank _ blank (rw (k.taken, a_is k, b_is k) (stop _ (le-leb _ _ l) (R.Low (256 * p.ratio.a + p.ratio.b)) _))

    module _ (high : 4 * p.ratio.b < p.ratio.a) where
      ratio-high : leb (view_of bytes).a (4 * (view_of bytes).b) ≡ false
      ratio-high = rw (a_is k, b_is k) (lt-leb _ _ high)

      pub links-short : length out < 4 * p.m → Made (links bytes) (length w) out out (Err (R.Room (4 * p.m)))
      unfolding links
      links-short l =
          refused_blank _ blank
          (rw (k.taken, m_is)
          (pass _ ratio-high (R.Low (256 * (view_of bytes).a + (view_of bytes).b)) _ ∙ stop _ (lt-ltb _ _ l) (R.Room (4 * p.m)) _))

      asked-links : 4 * p.m ≤ length out
          → links bytes (length w) (length out) ≡ given (joined (λ q. two_numbers (link (view_of bytes) q)) (view_of bytes).pairs)
      unfolding links
      asked-links l =
          rw (k.taken, m_is)
          (pass _ ratio-high (R.Low (256 * (view_of bytes).a + (view_of bytes).b)) _ ∙ pass _ (le-ltb _ _ l) (R.Room (4 * p.m)) _ ∙ passed _)

      pub links-made : {ps out' : List ℕ} → 4 * p.m ≤ length out → ps ≡ pairs_slice bytes → Written out out' 0 (links_on w ps p.m)
          → Made (links bytes) (length w) out out' (Ok (4 * p.m))
      links-made {ps} l e s =
          let size = length-links w ps p.m in
          finished blank (rw (links_are e) (asked-links l)) (sym size) (omega arith) s

-- a record that is refused
pub links_refused : (bytes old new : List ℕ) {x : Refusal} {out : List ℕ} → Refusing bytes old new x → Blank out
    → Made (links bytes) (length old) out out (Err x)
unfolding links
links_refused bytes old new {x} s blank = refused_blank x blank (rw s.refused refl)
