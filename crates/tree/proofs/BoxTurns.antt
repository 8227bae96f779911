-- The box of a stretch, hole by hole: setting a node's box leaves ORDER, and the box of one hole more is the one around both. Assumes nothing.
use Rattle.std.proofs.lemmas.Grind.{common_steps}
use mathlib.Core.Path.{◌≡◌, refl, sym, ap, ◌∙◌}
use mathlib.Core.List.{List, [], ◌∷◌}
use Prim.Native.Nat.{ℕ, ◌+◌, ◌*◌, ◌<◌, ◌≤◌}
use native.Mathlib.Nat.{zero-add, add-zero}
use native.Mathlib.Omega.{arith}
use Rattle.words.specs.Area.{run}
use Rattle.words.proofs.AreaLaws.{run-same}
use Rattle.slate.specs.Columns.{ORDER}
use Rattle.slate.specs.Slate.{cell, Held}
use Rattle.paper.specs.Field.{hole_at, holes_at}
use Rattle.paper.specs.Tree.{Box, spot, around, box_at}
use Rattle.theory.proofs.Reading.{hole_read}
use Rattle.field.specs.Boxes.{HoleIn, box_on, Boxed}
use Rattle.field.proofs.Boxes.{boxed_kept, boxed-cell}
use Rattle.field.proofs.Places.{hole_in}
use Rattle.tree.specs.Planting.{stretch, StretchOn, PartReady, Parted, CutInTwo}
use Rattle.tree.proofs.Totals.{totals_one, box_append}
use Rattle.tree.proofs.PartTurns.{stretch_more}

-- ---- a stretch where a node's box has been set

module _ {old new : List ℕ} {d k : ℕ} {B : Box} (p : Boxed old new d k B) (row : k < 2_048) where
  boxed-stretch : (lo m : ℕ) → lo + m ≤ 2_048 → stretch new lo m ≡ stretch old lo m
  boxed-stretch lo m l = run-same new old (2_048 * ORDER + lo) m (λ j a b. (boxed_kept p row).rest j (omega arith))

  pub boxed_on : {hs : List ℕ} {n lo m : ℕ} → StretchOn old hs d n lo m → StretchOn new hs d n lo m
  boxed_on s = grind (arith, common_steps)

boxed_again : {a b c : List ℕ} {d k : ℕ} {A B : Box} → Boxed a b d k A → Boxed b c d k B → Boxed a c d k B
boxed_again p q = record { len = q.len ∙ p.len; box = q.box; rest = λ i h. q.rest i h ∙ p.rest i h }

-- ---- the box of the first i holes, from a slate w on that holds the stretch

pub record BoxTo (hs : List ℕ) (d n lo m k : ℕ) (w new : List ℕ) (i : ℕ) : Type 0 where
  pub on : StretchOn w hs d n lo m
  pub row : k < 2_048
  pub boxed : Boxed w new d k (box_at (holes_at d hs 0 n) (stretch w lo i))

-- the first hole
module _ {hs w : List ℕ} {d n lo m h : ℕ} (s : StretchOn w hs d n lo m) (l : Held w ORDER lo h) where
  first_below : h < n
  first_below = rw l.is (rw add-zero at (s.each 0 (omega (arith, s.some))))

  pub hole-first : HoleIn hs d h
  hole-first = hole_in s.holes first_below

  pub box_start : {new : List ℕ} {k : ℕ} → k < 2_048 → Boxed w new d k (spot (hole_at d hs (2 * d * h))) → BoxTo hs d n lo m k new new 1
  unfolding run
  box_start {new} row p =
      let fits : lo + 1 ≤ 2_048 = omega (arith, s.some, s.end, s.holes.few) in
      let one = (totals_one (rw zero-add at (hole_read d hs 0 n h first_below))).box in
      let e : stretch new lo 1 ≡ h ∷ [] = boxed-stretch p row lo 1 fits ∙ ap (λ (x : ℕ). x ∷ []) (sym l.is) in
      record { on = boxed_on p row s; row = row; boxed = record { len = refl; box = rw e (p.box ∙ one); rest = λ i f. refl } }

-- one hole more
module _ {hs w mid : List ℕ} {d n lo m k i h : ℕ} (s : BoxTo hs d n lo m k w mid i) (b : i < m) (l : Held mid ORDER (lo + i) h) where
  next_is : h ≡ cell w ORDER (lo + i)
  next_is = l.is ∙ boxed-cell s.boxed ORDER (lo + i) (omega arith) (omega (arith, s.on.end, s.on.holes.few))

  next_below : h < n
  next_below = rw next_is (s.on.each i b)

  pub hole_next : HoleIn hs d h
  hole_next = hole_in s.on.holes next_below

  pub box_turn : {new : List ℕ} → Boxed mid new d k (around (box_on mid d k) (spot (hole_at d hs (2 * d * h)))) → BoxTo hs d n lo m k w new (i + 1)
  box_turn q =
      let one = (totals_one {H = holes_at d hs 0 n} {h = h} (rw zero-add at (hole_read d hs 0 n h next_below))).box in
      let more : box_at (holes_at d hs 0 n) (stretch w lo (i + 1)) ≡ around (box_on mid d k) (spot (hole_at d hs (2 * d * h)))
      = rw (stretch_more w lo i, ← next_is, box_append, ← s.boxed.box, ← one) in
      record { on = s.on; row = s.row; boxed = rw more (boxed_again s.boxed q) }

pub box_done : {hs old w new : List ℕ} {d n lo m k i : ℕ} {A : Box} → Boxed old w d k A → BoxTo hs d n lo m k w new i → i ≤ m → m ≤ i
    → Boxed old new d k (box_at (holes_at d hs 0 n) (stretch old lo m))
box_done {lo} {m} {i} p s a b =
    let e : i ≡ m = omega arith in
    rw (← boxed-stretch p s.row lo m (omega (arith, s.on.end, s.on.holes.few)), ← e) (boxed_again p s.boxed)

-- ---- and so the stretch is ready to be cut

module _ {hs old mid : List ℕ} {d n lo m k : ℕ} (s : StretchOn old hs d n lo m) (row : k < 2_048)
    (p : Boxed old mid d k (box_at (holes_at d hs 0 n) (stretch old lo m))) where
  same-stretch : stretch mid lo m ≡ stretch old lo m
  same-stretch = boxed-stretch p row lo m (omega (arith, s.end, s.holes.few))

  pub part_ready : PartReady mid hs d n lo m k
  part_ready = record { on = boxed_on p row s; row = row; box = rw same-stretch p.box }

  pub cut_both : {new : List ℕ} {r : ℕ} → Parted (holes_at d hs 0 n) lo m mid new r → CutInTwo (holes_at d hs 0 n) lo m old new r
  cut_both q = grind (arith, common_steps, boxed_kept, same-stretch)
