-- What reading the start of an input leaves. Assumes nothing.
use Rattle.std.specs.Prelude.{◌≡◌, ◌≤◌, ℕ, List, length, take, Option, IfSome}

-- the buffer begins with n bytes, which are all of the input, or as many of its first as the buffer holds
pub record Filled (input : Option (List ℕ)) (buffer : List ℕ) (n : ℕ) : Type 0 where
  pub fits : n ≤ length buffer
  pub start : IfSome input (λ bs. take n buffer ≡ take (length buffer) bs)
