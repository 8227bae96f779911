-- What `inspect` refuses before it looks at the parts, and the place of a section, over plain variables: what `cut` and `inspect` said is the checker's
-- answer. Assumes nothing.
use mathlib.Core.Path.{◌≡◌, refl}
use mathlib.Core.List.{List}
use Prim.Native.Nat.{ℕ, ◌≤◌, ◌<◌}
use native.Mathlib.Omega.{arith}
use lib.ListN.{length}
use Rattle.paper.specs.Record.{Part}
use Rattle.paper.specs.Questions.{section}
use Rattle.paper.specs.Answers.{refuses}
use Rattle.paper.specs.declared.Refusal.{Refusal}
use Rattle.paper.specs.declared.Refusal.TheVariants as R
use Rattle.record.specs.Cutting.{cut_answer}
use Rattle.record.specs.Sections.{part_of, named_place}
use Rattle.record.specs.Inspecting.{Refusing, Taking, Declining, Located}
use Rattle.record.specs.declared.Parts.{Parts}
use Rattle.record.specs.declared.Place.{Place}
use Rattle.record.specs.declared.Section.{Section}
use Rattle.record.proofs.PartLaws.{start_named, size_named, inside_record}
use Rattle.record.proofs.Answers.{short-work, cut_refused}

-- inspect
module _ (r w : List ℕ) where
  pub is_short : length w < 65_536 → Refusing r w w R.Work
  is_short l = record { len = refl; refused = short-work r (length w) l }

  pub is_cut : {x : Refusal} → cut_answer r ≡ refuses x → 65_536 ≤ length w → Refusing r w w x
  is_cut c l = record { len = refl; refused = cut_refused r (length w) c l }

-- a section
module _ (r old new : List ℕ) where
  module _ {x : Refusal} (declined : Declining r old new x) where
    pub nowhere : (part : List ℕ → Part) → Located part r old new (record { start = 0; size = 0 })
    unfolding section
    nowhere part =
        record {
          start_is = rw (section, declined.refused) refl;
          size_is = rw (section, declined.refused) refl;
          inside = omega arith;
          wiped = declined.wiped;
        }

  module _ {p : Parts} (held : Taking r old new p) where
    pub there : (w : Section) {l : Place} → l ≡ named_place p w → Located (part_of w) r old new l
    unfolding section
    there w e =
        let k = held.parts in
        record {
          start_is = rw (section, held.taken, e) (start_named k w);
          size_is = rw (section, held.taken, e) (size_named k w);
          inside = rw e (inside_record k w);
          wiped = held.wiped;
        }
