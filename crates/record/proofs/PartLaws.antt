-- The sections by the parts that `cut` names: no size wraps, and each place is that of document 01's part. Assumes nothing.
use mathlib.Core.Path.{◌≡◌, ap}
use mathlib.Core.List.{List}
use Prim.Native.Nat.{ℕ, ◌+◌, ◌*◌, ◌-◌, ◌/◌, ◌≤◌}
use native.Mathlib.Nat.{mul-le-mul}
use native.Mathlib.Omega.{arith}
use lib.ListN.{length}
use Rattle.paper.specs.Record.{holes_part, nodes_part, pairs_part, holes_in, pairs_in}
use Rattle.record.specs.Cutting.{PartsOf, CountsFit}
use Rattle.record.specs.Sections.{part_of, named_place}
use Rattle.record.specs.declared.Parts.{Parts}
use Rattle.record.specs.declared.Section.{Section}
use Rattle.record.specs.declared.Section.TheVariants as S

-- the counts that `cut` names
few_pairs : (n m : ℕ) → n ≤ 1_024 → m ≤ n * (n - 1) / 2 → m ≤ 523_776
few_pairs n m l h =
    let below : n - 1 ≤ 1_023 = omega arith in
    let g : n * (n - 1) ≤ 1_024 * 1_023 = mul-le-mul l below in
    omega arith

module _ {r : List ℕ} {p : Parts} (k : PartsOf r p) where
  pub counts_fit : CountsFit p
  counts_fit =
      let f = k.framing in
      record { some = rw k.n_is f.some; few = rw k.n_is f.few; pairs = rw k.m_is (few_pairs (holes_in r) (pairs_in r) f.few f.pairs_right) }

  -- a section's place
  pub start_named : (w : Section) → (named_place p w).start ≡ (part_of w r).start
  unfolding holes_part nodes_part pairs_part
  start_named S.Holes = k.holes_is
  start_named S.Nodes = k.nodes_is
  start_named S.Pairs = k.pairs_is

  pub size_named : (w : Section) → (named_place p w).size ≡ (part_of w r).size
  unfolding holes_part nodes_part pairs_part
  size_named S.Holes = ap (λ (n : ℕ). 4 * n) k.n_is
  size_named S.Nodes = ap (λ (n : ℕ). 4 * (2 * n - 1)) k.n_is
  size_named S.Pairs = ap (λ (m : ℕ). 4 * m) k.m_is

  pub inside_record : (w : Section) → (named_place p w).start + (named_place p w).size ≤ length r
  inside_record S.Holes = omega (arith, k.holes_is, k.n_is, k.framing.end)
  inside_record S.Nodes = omega (arith, k.nodes_is, k.n_is, k.framing.some, k.framing.end)
  inside_record S.Pairs = omega (arith, k.pairs_is, k.m_is, k.framing.end)
