-- What `inspect_pairs` asks of each step and answers at each return, over plain variables: the steps' findings are the record's. Assumes nothing.
use mathlib.Core.Path.{◌≡◌, refl, sym, ◌∙◌}
use mathlib.Core.List.{List}
use Prim.Native.Nat.{ℕ, ◌+◌, ◌*◌, ◌<◌, ◌≤◌}
use lib.ListN.{length}
use Rattle.paper.specs.Record.{holes_in, pairs_in, two_numbers_at, view_of}
use Rattle.paper.specs.declared.Refusal.TheVariants as R
use Rattle.theory.proofs.Checker.{record_is, taken_is}
use Rattle.field.specs.Found.{Finds}
use Rattle.std.specs.Prelude.{Option, Some, None}
use Rattle.tree.specs.Standing.{Stands}
use Rattle.tree.specs.Steps.{Summed, Counted, Ranked}
use Rattle.pairs.specs.Checking.{PairOn}
use Rattle.cover.specs.Spans.{Ready, FindsTwo, Covering, coverings}
use Rattle.record.specs.Cutting.{PartsOf, holes_slice, pairs_slice}
use Rattle.record.specs.Inspecting.{Measured, Inspection, Refusing}
use Rattle.record.specs.declared.Parts.{Parts}
use Rattle.record.proofs.Slices.{holes_said, pairs-length, pairs_said, pair_said}
use Rattle.record.proofs.PartLaws.{counts_fit}
use Rattle.record.proofs.Answers.{framed, content_refused}
use Rattle.record.proofs.PairsMeant.{Listed, standing, counted, due-pair, ready, due-cover, meant, stands-still, filled}

module _ {r w ps : List ℕ} {p : Parts} (k : PartsOf r p) (m : Measured r w) (e : ps ≡ pairs_slice r) where
  listed : Listed r ps p.ratio.a p.ratio.b
  unfolding view_of
  listed = rw e (record { pairs = pairs_said r; pair = pair_said r; a_is = sym k.a_is; b_is = sym k.b_is })

  few : p.m ≤ 523_776
  few = (counts_fit k).pairs

  pub stood : Stands w p.n
  stood = rw k.n_is (standing m k.framing.some k.framing.few)

  pub holes_counted : Counted w p.n
  holes_counted = rw k.n_is (counted m)

  refused : {number value : ℕ} → Rattle.theory.specs.Conditions.First (Rattle.theory.specs.Conditions.content (view_of r)) number value
      → Rattle.paper.specs.Refusals.check r (length w) ≡ Rattle.paper.specs.Refusals.refused number value
  refused f = content_refused r (length w) (framed r (length w) k.framing m.grid) f

  -- 13
  pub is_pair : {f : Option ℕ} {i : ℕ} → Finds (λ j. PairOn w 2 p.ratio.a p.ratio.b p.n (two_numbers_at ps (4 * j)) → ⊥) p.m f → f ≡ Some i
      → Refusing r w w (R.Pair i)
  is_pair {i} d q =
      let t : Finds (λ j. PairOn w 2 p.ratio.a p.ratio.b p.n (two_numbers_at ps (4 * j)) → ⊥) p.m (Some i) = rw q at d in
      record { len = refl; refused = refused (due-pair m listed (rw (k.n_is, k.m_is) at t)) }

  -- from here on no pair is bad
  module _ {f : Option ℕ} (d : Finds (λ j. PairOn w 2 p.ratio.a p.ratio.b p.n (two_numbers_at ps (4 * j)) → ⊥) p.m f) (q : f ≡ None)
      {last : List ℕ} (l : Ranked p.n w last) where
    good : (j : ℕ) → j < pairs_in r → (PairOn w 2 p.ratio.a p.ratio.b (holes_in r) (two_numbers_at ps (4 * j)) → ⊥) → ⊥
    good =
        let t : Finds (λ j. PairOn w 2 p.ratio.a p.ratio.b p.n (two_numbers_at ps (4 * j)) → ⊥) p.m None = rw q at d in
        rw (k.n_is, k.m_is) at t

    ranked : Ranked (holes_in r) w last
    ranked = rw k.n_is at l

    pub all-ready : Ready last ps p.n p.m
    all-ready =
        rw (k.n_is, k.m_is)
        (ready m listed good k.framing.some k.framing.few ranked p.ratio.in_range.a_low (rw e (pairs-length r k.framing)) (rw k.m_is at few))

    -- 14
    module _ {end : List ℕ} {t : Option (ℕ × ℕ)} (g : Covering ps p.n p.m last end t) where
      pub is-cover : {i j : ℕ} → t ≡ Some (i, j) → Refusing r w end (R.Cover (1_024 * i + j))
      is-cover {i} {j} b =
          let x : FindsTwo (λ q. coverings last ps p.m q ≡ 1 → ⊥) p.n (Some (i, j)) = rw b at g.found in
          record {
            len = g.len ∙ l.len;
            refused = refused (due-cover m listed good k.framing.some k.framing.few ranked (rw (k.n_is, k.m_is) at x));
          }

      module _ (b : t ≡ None) where
        covered : Covering ps (holes_in r) (pairs_in r) last end None
        covered = rw (b, k.n_is, k.m_is) at g

        pub stands-again : Stands end p.n
        stands-again = rw k.n_is (stands-still m listed good k.framing.some k.framing.few ranked covered)

        -- the record is taken
        pub is-fine : {full hs : List ℕ} → hs ≡ holes_slice r → Summed hs 2 p.n end full → Inspection r w full p
        is-fine h u =
            let f = framed r (length w) k.framing m.grid in
            let c = meant m listed good k.framing.some k.framing.few ranked covered in
            let o = (record_is r (length w)).0 (f, c) in
            record {
              len = u.len ∙ g.len ∙ l.len;
              parts = k;
              rules = o.1;
              taken = (taken_is r (length w) (holes_in r) (pairs_in r)).1 (o, refl, refl);
              filled = filled m listed good k.framing.some k.framing.few ranked covered (rw (h, k.n_is) at u) (holes_said r);
            }
