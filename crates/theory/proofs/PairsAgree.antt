-- The pairs of a tree depend on nothing but the separation and the sides of its own nodes: two tests that agree on those list the same pairs.
-- Assumes nothing.
use mathlib.Core.Path.{◌≡◌, sym, ◌∙◌}
use mathlib.Core.Bool.{Bool}
use Prim.Native.Nat.{ℕ}
use native.Mathlib.Omega.{arith}
use Rattle.paper.specs.Lists.{keep}
use Rattle.paper.specs.Tree.{Tree, leaf, fork}
use Rattle.paper.specs.Pairs.{pairs}
use Rattle.theory.proofs.EachLaws.{keep_split}
use Rattle.theory.proofs.Subtrees.{
  Sub,
  whole,
  in_first,
  in_second,
  sub_first,
  sub_second,
  Facing,
  facing_parts,
  facing_first,
  facing_second,
  facing_down,
}
use Rattle.theory.proofs.PairRules.{apart, listed_by, rule_far, rule_first, rule_second, pairs_leaf, pairs_fork}
use Rattle.theory.proofs.Pairing.{Regular, facing-ind}

module _ (far far' : Tree → Tree → Bool) (side side' : Tree → ℕ) {t : Tree} (regular : Regular far side t)
    (same-far : (A B : Tree) → Sub A t → Sub B t → far A B ≡ far' A B) (same-side : (A : Tree) → Sub A t → side A ≡ side' A) where
  told : {A B : Tree} {x : Bool} → Facing t A B → far A B ≡ x → far' A B ≡ x
  told {A} {B} f e = sym (same-far A B (facing_first f) (facing_second f)) ∙ e

  listed_agree : (A B : Tree) → Facing t A B → Facing t A B → listed_by far side A B ≡ listed_by far' side' A B
  listed_agree =
      let kept = apart far in
      facing-ind far side regular (λ A B l. Facing t A B → keep kept l ≡ listed_by far' side' A B)
      (λ A B e f. rw (rule_far far' side' A B (told f e), e, keep))
      (λ i a b B l r e h v w f.
      let s = same-side (fork i a b) (facing_first f) in
      let u = same-side B (facing_second f) in
      rw (
        keep_split kept (fork i a b, B) l r e,
        rule_first far' side' i a b B (told f e) (omega (arith, s, u, h)),
        v (facing_down f (in_first whole) whole),
        w (facing_down f (in_second whole) whole),
      ))
      (λ A j c d l r e h v w f.
      let s = same-side A (facing_first f) in
      let u = same-side (fork j c d) (facing_second f) in
      rw (
        keep_split kept (A, fork j c d) l r e,
        rule_second far' side' A j c d (told f e) (omega (arith, s, u, h)),
        v (facing_down f whole (in_first whole)),
        w (facing_down f whole (in_second whole)),
      ))

  node_agree : (s : Tree) → Sub s t → pairs far side s ≡ pairs far' side' s
  node_agree (leaf k x) q = pairs_leaf far side k x ∙ sym (pairs_leaf far' side' k x)
  node_agree (fork k a b) q =
      let f = facing_parts q in
      rw (pairs_fork far side k a b, pairs_fork far' side' k a b, listed_agree a b f f, node_agree a (sub_first q), node_agree b (sub_second q))

  pub pairs_agree : pairs far side t ≡ pairs far' side' t
  pairs_agree = node_agree t whole
