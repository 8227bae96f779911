-- What C gets of each answer: four numbers, or the place of a part, and the work area all zero. Assumes nothing.
use Rattle.std.specs.Prelude.{◌≡◌, Bool, true, false, List, ℕ, length, replicate}
use Rattle.paper.specs.Record.{Part}
use Rattle.paper.specs.Refusals.{Answer, refused, given}
use Rattle.paper.specs.Questions.{section}
use Rattle.paper.specs.Answers.{counted, left_in}
use Rattle.press.specs.declared.Answer as said
use Rattle.press.specs.declared.Part as handed

-- four numbers
pub record Numbers : Type 0 where
  pub number : ℕ
  pub first : ℕ
  pub second : ℕ
  pub third : ℕ

-- a refusal's number and value; or 0 and the values that are given
abbrev pub flat : {A : Type 0} → (A → Numbers) → Answer A → Numbers
flat values (refused n v) = record { number = n; first = v; second = 0; third = 0 }
flat values (given t) = values t

-- the holes and the pairs of a taken record
abbrev pub counts : ℕ × ℕ → Numbers
counts t = record { number = 0; first = t.0; second = t.1; third = 0 }

-- three numbers, as the closest two holes and their squared distance
abbrev pub three : ℕ × ℕ × ℕ → Numbers
three t = record { number = 0; first = t.0; second = t.1; third = t.2 }

-- whether the pitch is kept
abbrev pub yes_or_no : Bool → Numbers
yes_or_no true = record { number = 0; first = 1; second = 0; third = 0 }
yes_or_no false = record { number = 0; first = 0; second = 0; third = 0 }

-- the bytes that a call wrote
abbrev pub bytes_written : ℕ → Numbers
bytes_written n = record { number = 0; first = n; second = 0; third = 0 }

-- C's answer is these numbers
pub record Says (asked : Numbers) (r : said.Answer) : Type 0 where
  pub number : r.number ≡ asked.number
  pub first : r.first ≡ asked.first
  pub second : r.second ≡ asked.second
  pub third : r.third ≡ asked.third

-- a call that answers with numbers
pub record Tells (asked : Numbers) (r : said.Answer) (work work' : List ℕ) : Type 0 where
  pub says : Says asked r
  pub wiped : work' ≡ replicate (length work) 0

-- a call that answers with a section: `part` is holes_part, nodes_part or pairs_part
pub record HandsOver (part : List ℕ → Part) (bytes : List ℕ) (r : handed.Part) (work work' : List ℕ) : Type 0 where
  pub start : r.start ≡ (section part bytes (length work)).start
  pub size : r.length ≡ (section part bytes (length work)).size
  pub wiped : work' ≡ replicate (length work) 0

-- a call that finishes an output
pub record Finishes (asked : Answer (List ℕ)) (r : said.Answer) (work work' out out' : List ℕ) : Type 0 where
  pub says : Says (flat bytes_written (counted asked)) r
  pub wiped : work' ≡ replicate (length work) 0
  pub output : out' ≡ left_in (length out) asked
