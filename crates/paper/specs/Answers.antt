-- What each public call promises: its whole answer, every byte of its output and of its work area, as a function of the input bytes and of
-- the lengths of work area and output, never of what these held. Assumes nothing.
use Rattle.std.specs.Prelude.{◌≡◌, Bool, List, ◌++◌, ℕ, ◌+◌, ◌-◌, length, replicate, take, drop, Result, Ok, Err}
use Rattle.std.specs.Borrow.{Bor}
use Rattle.paper.specs.Record.{Part}
use Rattle.paper.specs.Refusals.{number, value, Answer, refused, given, build, check}
use Rattle.paper.specs.Questions.{closest, pitch, links, section}
use Rattle.paper.specs.declared.Refusal.{Refusal}

-- a refusal in this paper's numbers; what a call answers, a value or a refusal
abbrev pub refuses : {A : Type 0} → Refusal → Answer A
refuses x = refused (number x) (value x)

abbrev pub told : {A : Type 0} → Result A Refusal → Answer A
told (Ok t) = given t
told (Err x) = refuses x

-- "A call that finishes an output answers with the bytes it wrote, zeros after them not counted"
abbrev pub counted : Answer (List ℕ) → Answer ℕ
counted (refused n v) = refused n v
counted (given r) = given (length r)

-- "A refused output is all zero; a finished one is zero after its last byte." An output of o bytes
unfoldable pub left_in : ℕ → Answer (List ℕ) → List ℕ
left_in o (refused n v) = replicate o 0
left_in o (given r) = r ++ replicate (o - length r) 0

-- a call without an output: the answer, and "Refused or not, the work area ends all zero"
pub record Answered {A : Type 0} (said asked : Answer A) (work work' : List ℕ) : Type 0 where
  pub answer : said ≡ asked
  pub wiped : work' ≡ replicate (length work) 0

-- a call with one
pub record Finished (said : Answer ℕ) (asked : Answer (List ℕ)) (work work' out out' : List ℕ) : Type 0 where
  pub answer : said ≡ counted asked
  pub wiped : work' ≡ replicate (length work) 0
  pub output : out' ≡ left_in (length out) asked

-- the part of s at p: the same memory, and what stands there
pub record PartAt (s r : Bor (List ℕ)) (p : Part) : Type 0 where
  pub block : r.ref_ptr.0 ≡ s.ref_ptr.0
  pub place : r.ref_ptr.1 ≡ p.start + s.ref_ptr.1
  pub bytes : r.now ≡ take p.size (drop p.start s.now)

-- the public calls. work and out stand for what the areas held before, work' and out' for what they hold then. A taken record is answered with its
-- holes and its pairs, the closest pair is two holes and their squared distance
abbrev pub Builds : List ℕ → ℕ → ℕ → Result ℕ Refusal → List ℕ → List ℕ → List ℕ → List ℕ → Type 0
Builds c a b r work work' out out' = Finished (told r) (build c a b (length work) (length out)) work work' out out'

abbrev pub Checks : List ℕ → Result (ℕ × ℕ) Refusal → List ℕ → List ℕ → Type 0
Checks bytes r work work' = Answered (told r) (check bytes (length work)) work work'

abbrev pub FindsClosest : List ℕ → Result (ℕ × ℕ × ℕ) Refusal → List ℕ → List ℕ → Type 0
FindsClosest bytes r work work' = Answered (told r) (closest bytes (length work)) work work'

abbrev pub TestsPitch : List ℕ → ℕ → Result Bool Refusal → List ℕ → List ℕ → Type 0
TestsPitch bytes p r work work' = Answered (told r) (pitch bytes p (length work)) work work'

abbrev pub WritesLinks : List ℕ → Result ℕ Refusal → List ℕ → List ℕ → List ℕ → List ℕ → Type 0
WritesLinks bytes r work work' out out' = Finished (told r) (links bytes (length work) (length out)) work work' out out'

-- a section: `part` is holes_part, nodes_part or pairs_part
pub record HandsBack (part : List ℕ → Part) (bytes r : Bor (List ℕ)) (work work' : List ℕ) : Type 0 where
  pub section : PartAt bytes r (section part bytes.now (length work))
  pub wiped : work' ≡ replicate (length work) 0
