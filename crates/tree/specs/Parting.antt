-- Cutting a stretch of ORDER in two, hole by hole: what goes first is put in front, and what does not waits in SCRATCH. Assumes nothing.
use Rattle.std.specs.Prelude.{◌≡◌, Bool, not, List, ℕ, ◌+◌, ◌-◌, ◌*◌, ◌<◌, ◌≤◌, length}
use Rattle.words.specs.Area.{word}
use Rattle.slate.specs.Columns.{ORDER, SCRATCH}
use Rattle.slate.specs.Slate.{column}
use Rattle.paper.specs.Lists.{keep}
use Rattle.tree.specs.Planting.{stretch}

-- of the first i holes of the stretch at lo, the a that meet the test stand in front, and the others in SCRATCH; every other word is as it was
pub record Sifted (t : ℕ → Bool) (lo i : ℕ) (old new : List ℕ) (a : ℕ) : Type 0 where
  pub len : length new ≡ length old
  pub most : a ≤ i
  pub front : stretch new lo a ≡ keep t (stretch old lo i)
  pub back : column new SCRATCH (i - a) ≡ keep (λ h. not (t h)) (stretch old lo i)
  pub rest : (j : ℕ) → (2_048 * ORDER + lo ≤ j → j < 2_048 * ORDER + lo + a → ⊥) → (2_048 * SCRATCH ≤ j → j < 2_048 * SCRATCH + (i - a) → ⊥)
      → word new j ≡ word old j

-- the first m cells of SCRATCH stand in ORDER from place lo on; every other word is as it was
pub record TakenBack (lo m : ℕ) (old new : List ℕ) : Type 0 where
  pub len : length new ≡ length old
  pub there : stretch new lo m ≡ column old SCRATCH m
  pub rest : (j : ℕ) → (2_048 * ORDER + lo ≤ j → j < 2_048 * ORDER + lo + m → ⊥) → word new j ≡ word old j
