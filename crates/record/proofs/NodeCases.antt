-- What `inspect_nodes` asks of each step and answers at each return, over plain variables: the steps' findings are the record's. Assumes nothing.
use mathlib.Core.Path.{◌≡◌, ◌∙◌}
use mathlib.Core.List.{List}
use Prim.Native.Nat.{ℕ, ◌<◌}
use native.Mathlib.Omega.{arith}
use lib.ListN.{length}
use Rattle.slate.specs.Columns.{MARKS}
use Rattle.slate.specs.Slate.{cell, Grid}
use Rattle.paper.specs.Field.{holes_at}
use Rattle.paper.specs.Record.{holes_in, nodes_of, view_of}
use Rattle.paper.specs.Rules.{Repeats}
use Rattle.paper.specs.Refusals.{refused, check}
use Rattle.paper.specs.declared.Refusal.TheVariants as R
use Rattle.theory.specs.Conditions.{First}
use Rattle.theory.specs.Conditions as due
use Rattle.field.specs.Found.{Finds}
use Rattle.field.specs.Buckets.{Searched}
use Rattle.std.specs.Prelude.{Option, Some, None}
use Rattle.tree.specs.Standing.{Stands}
use Rattle.tree.specs.Steps.{Loading, Summed}
use Rattle.record.specs.Cutting.{PartsOf, holes_slice, nodes_slice}
use Rattle.record.specs.Inspecting.{Measured, Refusing}
use Rattle.record.specs.declared.Parts.{Parts}
use Rattle.record.proofs.Slices.{holes_said, nodes_said}
use Rattle.record.proofs.Answers.{framed, content_refused}
use Rattle.record.proofs.NodesMeant.{Shown, due_twice, due-tree, due-loose, stands, measured}

module _ {r hs ns old w : List ℕ} {p : Parts} {f : Option ℕ} (k : PartsOf r p) (s : Searched hs 2 p.n old w f) (g : Grid old)
    (eh : hs ≡ holes_slice r) (en : ns ≡ nodes_slice r) where
  shown : Shown r hs ns
  shown = rw (eh, en) (record { holes = holes_said r; nodes = nodes_said r })

  answers : {number value : ℕ} → First (due.content (view_of r)) number value → check r (length old) ≡ refused number value
  answers d = content_refused r (length old) (framed r (length old) k.framing g) d

  -- 6
  pub is_twice : {i : ℕ} → f ≡ Some i → Refusing r old w (R.Twice i)
  is_twice {i} q =
      let t : Finds (Repeats (holes_at 2 hs 0 p.n)) p.n (Some i) = rw q at s.found in
      record { len = s.len; refused = answers (due_twice shown (rw k.n_is at t)) }

  module _ (q : f ≡ None) where
    single : (j : ℕ) → j < holes_in r → Repeats (holes_at 2 hs 0 (holes_in r)) j → ⊥
    single =
        let t : Finds (Repeats (holes_at 2 hs 0 p.n)) p.n None = rw q at s.found in
        rw k.n_is at t

    module _ {u : List ℕ} {f' : Option ℕ} (l : Loading ns p.n w u f') where
      -- 11
      pub is-tree : {i : ℕ} → f' ≡ Some i → Refusing r old u (R.Tree i)
      is-tree {i} x =
          let t : Loading ns (holes_in r) w u (Some i) = rw (x, k.n_is) at l in
          record { len = l.len ∙ s.len; refused = answers (due-tree shown single t.found) }

      module _ (x : f' ≡ None) where
        loaded : Loading ns (holes_in r) w u None
        loaded = rw (x, k.n_is) at l

        pub stood : Stands u p.n
        stood =
            let g' : Grid u = omega (arith, g, s.len, l.len) in
            rw k.n_is (stands shown single loaded g' k.framing.some k.framing.few)

        -- 12
        pub is-loose : {f'' : Option ℕ} {i : ℕ} → Finds (λ j. (0 < j) × (cell u MARKS j ≡ 0)) (nodes_of p.n) f'' → f'' ≡ Some i → Refusing r old u (R.Loose i)
        is-loose {i} z y =
            let t : Finds (λ j. (0 < j) × (cell u MARKS j ≡ 0)) (nodes_of p.n) (Some i) = rw y at z in
            record { len = l.len ∙ s.len; refused = answers (due-loose shown single loaded (rw k.n_is at t)) }

        pub all-measured : {v : List ℕ} → Summed hs 2 p.n u v → Measured r v
        all-measured {v} m =
            let g'' : Grid v = omega (arith, g, s.len, l.len, m.len) in
            measured shown single loaded (rw k.n_is at m) k.framing.few g''
