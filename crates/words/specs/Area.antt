-- An area of bytes as words of two bytes, word i at byte 2 * i, low byte first: nobody outside sees an area, and so a machine reads a word in one
-- step. Assumes nothing.
use Rattle.std.specs.Prelude.{◌≡◌, List, [], ◌∷◌, ℕ, zero, suc, ◌+◌, ◌*◌, ◌<◌, length, get_or}

-- word i
unfoldable pub word : List ℕ → ℕ → ℕ
word w i = get_or w (2 * i) 0 + 256 * get_or w (2 * i + 1) 0

-- the n words from word i on
unfoldable pub run : List ℕ → ℕ → ℕ → List ℕ
run w i zero = []
run w i (suc n) = word w i ∷ run w (i + 1) n

pub record Loaded (w : List ℕ) (i r : ℕ) : Type 0 where
  pub is : r ≡ word w i
  pub small : r < 65_536

-- word i is v; every other word is as it was
pub record Saved (old new : List ℕ) (i v : ℕ) : Type 0 where
  pub len : length new ≡ length old
  pub here : word new i ≡ v
  pub rest : (k : ℕ) → (k ≡ i → ⊥) → word new k ≡ word old k
