use Rattle.std.proofs.Common.{◌≡◌, List, ℕ, ◌≤◌, min, max, ◌∙◌, arith, rules}
use Rattle.cover.specs.Bits.{between}
use Rattle.cover.specs.Marks.{crossing, BlockIn, Marked, Advanced}
use Rattle.cover.proofs.BitLaws.{between_none, between-same, between_more}
use Rattle.cover.proofs.MarkLaws.{marked-none, marked_as, marked_more, block_kept}
use Rattle.cover.proofs.mark_rows.Goals as goal

begin : {w : List ℕ} {start end : ℕ} (lo c d : ℕ) → Marked start end (crossing lo lo c d) w w
unfolding crossing
begin lo c d = marked-none (λ i r a b. let z = between_none lo lo i (omega arith) in rw z (omega arith))

module _ {w₀ w : List ℕ} {start end lo c d at : ℕ} (g : BlockIn w₀ start end c d) (l : lo ≤ at)
    (m : Marked start end (crossing lo at c d) w₀ w) where
  turn : {w' : List ℕ} {hi next : ℕ} → start ≤ lo → hi ≤ end → Advanced start at hi c d w w' next → Marked start end (crossing lo next c d) w₀ w'
  unfolding crossing
  turn {next} e f s =
      marked_as (λ i r p q. rw (← between_more lo at next i l (omega arith)) (omega arith))
      (marked_more m (s.rows.block end (block_kept g.block m) (m.skips g.skips) (omega arith) (omega arith)))

  done : {hi : ℕ} (x y : ℕ) → lo ≡ max x start → hi ≡ min y end → at ≤ max lo hi → hi ≤ at → Marked start end (crossing x y c d) w₀ w
  unfolding crossing
  done x y e f a b =
      marked_as
      (λ i r p q.
      let same : between lo at i ≡ between x y i = between-same _ _ _ _ _ _ (λ u v. (omega arith, omega arith)) (λ u v. (omega arith, omega arith)) in
      rw same)
      m

pub loop-left-preserved : goal.loop-left-preserved
loop-left-preserved c =
    let i = c.loop-left.invariant in
    (i.0, omega arith, omega arith, turn c.requires i.1 i.3 (omega arith) (omega arith) c.mark_next.ensures)

pub returns : goal.returns
returns c =
    let i = c.loop-left.invariant in
    done c.requires i.1 i.3 _ _ c.meet-left.ensures.from (i.0 ∙ c.meet-left.ensures.end) i.2 c.loop-left-test.false

pub loop-left-init : goal.loop-left-init
loop-left-init c = search (begin, rules)
