-- What the questions answer for a record that is taken: each refusal where its test holds and none before it does. Assumes nothing.
use mathlib.Core.Path.{◌≡◌, refl, sym, ◌∙◌}
use mathlib.Core.Bool.{Bool, true}
use mathlib.Core.List.{List}
use Prim.Native.Nat.{ℕ, ◌+◌, ◌*◌, ◌<◌, ◌≤◌}
use native.Mathlib.Omega.{arith}
use lib.Dec.{leb}
use lib.ListN.{length}
use borrow.Author.Tests.{eq-eqb, ne_eqb, le-leb, lt-leb, leb-true}
use Rattle.std.specs.Prelude.{Ok, Err}
use Rattle.std.proofs.lemmas.Bool.Decides.{same_from_decides}
use Rattle.paper.specs.Field.{square}
use Rattle.paper.specs.Record.{view_of}
use Rattle.paper.specs.Rules.{hole_count}
use Rattle.paper.specs.Refusals.{Answer, refused, given, when◌refuse◌, in_order◌else◌}
use Rattle.paper.specs.Questions.{closest, pitch}
use Rattle.paper.specs.Answers.{told}
use Rattle.paper.specs.declared.Refusal.{Refusal}
use Rattle.paper.specs.declared.Refusal.TheVariants as R
use Rattle.paper.proofs.ListLaws.{by_case₂}
use Rattle.paper.proofs.Tables.{stop, pass, passed}
use Rattle.theory.proofs.ClosestPair.{pitch-nearest}
use Rattle.theory.proofs.RoundTrip.{view_holes}
use Rattle.record.specs.Inspecting.{Refusing}
use Rattle.record.specs.declared.Parts.{Parts}
use Rattle.questions.specs.declared.Near.{Near}
use Rattle.questions.specs.Nearest.{NearestHoles}
use Rattle.questions.specs.Asking.{Known, LooksOn}

-- the pitch test by what is answered of the closest pair
abbrev pub by_far : ℕ → Answer (ℕ × ℕ × ℕ) → Answer Bool
by_far q (refused x y) = refused x y
by_far q (given t) = given (leb (square q) t.2)

module _ {bytes w : List ℕ} {p : Parts} (k : Known bytes w p) where
  n_is : hole_count (view_of bytes) ≡ p.n
  n_is = view_holes bytes ∙ sym k.parts.n_is

  pub a_is : (view_of bytes).a ≡ p.ratio.a
  unfolding view_of
  a_is = sym k.parts.a_is

  pub b_is : (view_of bytes).b ≡ p.ratio.b
  unfolding view_of
  b_is = sym k.parts.b_is

  -- the closest pair
  pub is_single : p.n ≡ 1 → told (Err R.Single) ≡ closest bytes (length w)
  unfolding closest
  is_single e = sym (rw k.taken (stop _ (eq-eqb _ _ (n_is ∙ e)) R.Single _))

  pub is_low : (p.n ≡ 1 → ⊥) → p.ratio.a ≤ 2 * p.ratio.b → told (Err (R.Low (256 * p.ratio.a + p.ratio.b))) ≡ closest bytes (length w)
  unfolding closest
  is_low n l =
      sym (rw (k.taken, a_is, b_is)
      (pass _ (ne_eqb _ _ (λ e. n (sym n_is ∙ e))) R.Single _ ∙ stop _ (le-leb _ _ l) (R.Low (256 * p.ratio.a + p.ratio.b)) _))

  pub is-closest : {x : Near} → (p.n ≡ 1 → ⊥) → 2 * p.ratio.b < p.ratio.a → NearestHoles bytes x → told (Ok (x.first, x.second, x.far)) ≡ closest bytes (length w)
  unfolding closest
  is-closest n l s =
      sym (rw (k.taken, s.is, a_is, b_is)
      (pass _ (ne_eqb _ _ (λ e. n (sym n_is ∙ e))) R.Single _ ∙ pass _ (lt-leb _ _ l) (R.Low (256 * p.ratio.a + p.ratio.b)) _ ∙ passed _))

  -- the pitch
  pub pitch-single : (q : ℕ) → p.n ≡ 1 → told (Ok true) ≡ pitch bytes q (length w)
  unfolding pitch
  pitch-single q e = sym (rw (k.taken, eq-eqb _ _ (n_is ∙ e), pitch) refl)

  -- of two holes or more, it is told by the closest two
  pub is-pitch : (q : ℕ) {c : Answer (ℕ × ℕ × ℕ)} → (p.n ≡ 1 → ⊥) → c ≡ closest bytes (length w) → by_far q c ≡ pitch bytes q (length w)
  unfolding closest pitch in_order◌else◌ when◌refuse◌
  is-pitch q n e =
      let one = ne_eqb _ _ (λ e. n (sym n_is ∙ e)) in
      let far = pitch-nearest (view_of bytes).holes (omega (arith, n, n_is, view_holes bytes, k.rules.some)) q in
      rw (e, k.taken, one, in_order◌else◌, pitch)
      (by_case₂ (λ c t. by_far q c ≡ t) (leb (view_of bytes).a (2 * (view_of bytes).b)) (λ _. refl)
      (λ _. rw (same_from_decides _ (leb (square q) _) far (leb-true _ _, le-leb _ _)) refl))

-- a record that is refused is refused to every question
module _ (bytes old new : List ℕ) {x : Refusal} (s : Refusing bytes old new x) where
  pub none_looked : LooksOn bytes (length old) (record { checked = Err x; closest = Err x })
  unfolding closest
  none_looked = record { checks = sym s.refused; finds = sym (rw s.refused refl) }

  pub no_pitch : (p : ℕ) → told (Err x) ≡ pitch bytes p (length old)
  unfolding pitch
  no_pitch p = sym (rw s.refused refl)
