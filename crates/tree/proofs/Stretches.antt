-- A stretch of a list: it stands there from a place on. Where two lists joined are a stretch, each of them is. Assumes nothing.
use Rattle.std.proofs.lemmas.Grind.{common_steps}
use mathlib.Core.Path.{◌≡◌, refl, sym, ◌∙◌}
use mathlib.Core.List.{List, [], ◌∷◌, ◌++◌, append_assoc, append-nil}
use Prim.Native.Nat.{ℕ, ◌+◌, ◌≤◌}
use native.Mathlib.Omega.{arith}
use lib.ListN.{length, get_or, take, drop, length-append}
use lib.Seq.{get_or_at}

pub record Stretch (all xs : List ℕ) (at : ℕ) : Type 0 where
  pub before : List ℕ
  pub after : List ℕ
  pub is : all ≡ before ++ (xs ++ after)
  pub place : length before ≡ at

pub whole : (l : List ℕ) → Stretch l l 0
whole l = record { before = []; after = []; is = sym (append-nil l); place = refl }

pub first_part : {all : List ℕ} {at : ℕ} (xs ys : List ℕ) → Stretch all (xs ++ ys) at → Stretch all xs at
first_part xs ys s = record { before = s.before; after = ys ++ s.after; is = s.is ∙ simp append_assoc; place = s.place }

pub second_part : {all : List ℕ} {at : ℕ} (xs ys : List ℕ) → Stretch all (xs ++ ys) at → Stretch all ys (at + length xs)
second_part xs ys s =
    record { before = s.before ++ xs; after = s.after; is = s.is ∙ simp append_assoc; place = rw (length-append, s.place) }

module _ {all xs : List ℕ} {at : ℕ} (s : Stretch all xs at) where
  pub stretch_fits : at + length xs ≤ length all
  stretch_fits = rw (s.is, length-append, length-append) (omega arith)

  pub stretch_is : xs ≡ take (length xs) (drop at all)
  stretch_is = grind (arith, common_steps)

pub stretch-head : {all : List ℕ} {x at : ℕ} → Stretch all (x ∷ []) at → get_or all at 0 ≡ x
stretch-head {x} {at} s = rw s.is (get_or_at s.before x s.after 0 at s.place)
