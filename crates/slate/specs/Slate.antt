-- The work area as 16 columns of 2,048 cells: cell k of column c is word 2,048 * c + k, so every address is linear. Assumes nothing.
use Rattle.std.specs.Prelude.{◌≡◌, List, ℕ, zero, suc, ◌+◌, ◌*◌, ◌^◌, ◌<◌, ◌≤◌, length}
use Rattle.words.specs.Area.{word, run, Loaded, Saved}

-- cell k of column c
abbrev pub cell : List ℕ → ℕ → ℕ → ℕ
cell w c k = word w (2_048 * c + k)

-- the first n cells of column c
abbrev pub column : List ℕ → ℕ → ℕ → List ℕ
column w c n = run w (2_048 * c) n

-- the area holds the 16 columns
abbrev pub Grid : List ℕ → Type 0
Grid w = 65_536 ≤ length w

-- there is a cell k in a column c
pub record Within (w : List ℕ) (c k : ℕ) : Type 0 where
  pub grid : Grid w
  pub column : c < 16
  pub row : k < 2_048

-- there is an entry k of n cells, counted from column c on
pub record CellsWithin (n : ℕ) (w : List ℕ) (c k : ℕ) : Type 0 where
  pub grid : Grid w
  pub there : 2_048 * c + n * k + n ≤ 32_768

-- there are n words from word i on; n cells in a column c
pub record WordsIn (w : List ℕ) (i n : ℕ) : Type 0 where
  pub grid : Grid w
  pub there : i + n ≤ 32_768

pub record Columned (w : List ℕ) (c n : ℕ) : Type 0 where
  pub grid : Grid w
  pub column : c < 16
  pub rows : n ≤ 2_048

-- r is what cell k of column c holds
abbrev pub Held : List ℕ → ℕ → ℕ → ℕ → Type 0
Held w c k r = Loaded w (2_048 * c + k) r

-- cell k of column c is v; every other word is as it was
abbrev pub Set : List ℕ → List ℕ → ℕ → ℕ → ℕ → Type 0
Set old new c k v = Saved old new (2_048 * c + k) v

-- every word but those from lo up to, not including, hi is as it was
pub record Kept (old new : List ℕ) (lo hi : ℕ) : Type 0 where
  pub len : length new ≡ length old
  pub rest : (k : ℕ) → (lo ≤ k → k < hi → ⊥) → word new k ≡ word old k

-- the n words from word i on are 0, and so the first n cells of column c; every other word is as it was
pub record WordsCleared (old new : List ℕ) (i n : ℕ) : Type 0 where
  pub kept : Kept old new i (i + n)
  pub zero : (k : ℕ) → k < n → word new (i + k) ≡ 0

abbrev pub Cleared : List ℕ → List ℕ → ℕ → ℕ → Type 0
Cleared old new c n = WordsCleared old new (2_048 * c) n

-- the number in the n words from word i on, low word first, so that a machine reads it in one step
abbrev pub number : ℕ → List ℕ → ℕ → ℕ
number zero w i = 0
number (suc n) w i = word w i + 65_536 * number n w (i + 1)

pub record NumberHeld (n : ℕ) (w : List ℕ) (i r : ℕ) : Type 0 where
  pub is : r ≡ number n w i
  pub small : r < 65_536 ^ n

-- the n words from word i on are v; every other word is as it was
pub record NumberSet (n : ℕ) (old new : List ℕ) (i v : ℕ) : Type 0 where
  pub here : number n new i ≡ v
  pub kept : Kept old new i (i + n)

-- entry k of n cells, counted from column c on, as one number: a wide cell at n = 2, a large cell at n = 4
abbrev pub cells : ℕ → List ℕ → ℕ → ℕ → ℕ
cells n w c k = number n w (2_048 * c + n * k)

abbrev pub CellsHeld : ℕ → List ℕ → ℕ → ℕ → ℕ → Type 0
CellsHeld n w c k r = NumberHeld n w (2_048 * c + n * k) r

abbrev pub CellsSet : ℕ → List ℕ → List ℕ → ℕ → ℕ → ℕ → Type 0
CellsSet n old new c k v = NumberSet n old new (2_048 * c + n * k) v
