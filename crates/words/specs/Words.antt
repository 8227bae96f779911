-- Numbers in bytes, high byte first. The bytes of a slice are a list of numbers. Assumes nothing.
use Rattle.std.specs.Prelude.{◌≡◌, List, [], ◌∷◌, ℕ, zero, suc, ◌+◌, ◌*◌, ◌/◌, ◌%◌, ◌^◌, ◌<◌, ◌≤◌, length, get_or}

-- the number that the w bytes from `at` on say
unfoldable pub be : ℕ → List ℕ → ℕ → ℕ
be zero s at = 0
be (suc w) s at = 256 ^ w * get_or s at 0 + be w s (at + 1)

-- the last w bytes of v
unfoldable pub bytes : ℕ → ℕ → List ℕ
bytes zero v = []
bytes (suc w) v = v / 256 ^ w % 256 ∷ bytes w v

-- every element is a byte, as in each list that a slice of bytes holds
abbrev pub Bytes : List ℕ → Type 0
Bytes s = (k : ℕ) → get_or s k 0 < 256

-- r is the number in the w bytes at `at`
pub record Read (w : ℕ) (s : List ℕ) (at r : ℕ) : Type 0 where
  pub is : r ≡ be w s at
  pub small : r < 256 ^ w

-- `new` is `old` with bs from `at` on; every other byte is as it was
pub record Written (old new : List ℕ) (at : ℕ) (bs : List ℕ) : Type 0 where
  pub len : length new ≡ length old
  pub got : (i : ℕ) → i < length bs → get_or new (at + i) 0 ≡ get_or bs i 0
  pub rest : (k : ℕ) → (at ≤ k → k < at + length bs → ⊥) → get_or new k 0 ≡ get_or old k 0
