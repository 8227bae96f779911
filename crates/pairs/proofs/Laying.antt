-- Pairs laid one after the other into an output that may be too short: what is laid first is written before what is laid next, and where all
-- of it fits, each part does. Assumes nothing.
use Rattle.std.proofs.lemmas.Grind.{common_steps}
use mathlib.Core.Path.{◌≡◌, refl}
use mathlib.Core.List.{List, [], ◌∷◌, ◌++◌, append_assoc}
use Prim.Native.Nat.{ℕ}
use native.Mathlib.Omega.{arith}
use Rattle.words.proofs.Laws.{written_none, written_more, written_is}
use Rattle.paper.specs.Lists.{joined}
use Rattle.theory.proofs.Lengths.{length-numbers}
use Rattle.pairs.specs.Listing.{Listed}
use Rattle.pairs.specs.Comparing.{Laid}

joined-append : {A B : Type 0} (f : B → List A) (xs ys : List B) → joined f (xs ++ ys) ≡ joined f xs ++ joined f ys
joined-append f [] ys = refl
joined-append f (x ∷ xs) ys = rw (joined-append f xs ys, append_assoc)

pub laid_none : {o : List ℕ} {at : ℕ} → Laid [] at o o at
laid_none = record { len = refl; next = omega arith; there = λ l. written_none }

-- some pairs, and then more of them
pub laid_more : {o o₁ o₂ : List ℕ} {at m r : ℕ} {ps qs : List (ℕ × ℕ)} → Laid ps at o o₁ m → Laid qs m o₁ o₂ r → Laid (ps ++ qs) at o o₂ r
laid_more {ps} {qs} u v = grind (arith, common_steps, joined-append, written_more, length-numbers)

-- laid as the list is promised
pub laid_listed : {o o' : List ℕ} {at r : ℕ} {ps : List (ℕ × ℕ)} → Laid ps at o o' r → Listed ps at o o' r
laid_listed {ps} u =
    record {
      len = u.len;
      next = u.next;
      there = λ l. rw (length-numbers ps) at (written_is (u.there l) (rw (length-numbers ps) l));
    }
