-- An input is read at most one byte past the longest record: what is printed for those bytes is what is printed for all of them. Assumes nothing.
use Rattle.std.proofs.Common.{◌≡◌, ◌≤◌, ◌<◌, ◌-◌, ℕ, ⊎_elim, List, [], length, take, replicate, arith, ap, sym, ◌∙◌, Option, None, Some, Result, Ok, Err, OnOk, IfSome}
use Rattle.std.proofs.lemmas.List.{take_all, length-take-le}
use Rattle.std.proofs.lemmas.Bool.{cases_lt}
use Rattle.std.proofs.Math.Seq.{take-append_seam}
use borrow.Author.Tests.{lt-ltb}
use Rattle.paper.specs.Field.{least_work}
use Rattle.paper.specs.Refusals.{Answer, check}
use Rattle.paper.specs.Questions.{closest}
use Rattle.paper.specs.Program.{lines, printed}
use Rattle.paper.specs.Answers.{refuses}
use Rattle.paper.specs.declared.Refusal.TheVariants as R
use Rattle.paper.proofs.Tables.{stop}
use Rattle.std.specs.Io.KnownBytes.{Appends}
use Rattle.lines.specs.Printing.{Holds}
use Rattle.lines.specs.Reading.{Filled}

-- the line of a refused record says nothing of a closest pair
long_printed : (bs : List ℕ) → 65_536 < length bs → printed bs ≡ lines (refuses R.Long) (refuses R.Long)
unfolding printed lines
long_printed bs l = ap (λ (a : Answer (ℕ × ℕ)). lines a (closest bs least_work)) (stop (check bs least_work) (lt-ltb 65_536 (length bs) l) R.Long [])

-- a longer input is refused whatever it holds, and so is as much of it as is over the most
cut_long : (m : ℕ) (bs : List ℕ) → 65_536 < m → m ≤ length bs → printed (take m bs) ≡ printed bs
cut_long m bs g l =
    let t : length (take m bs) ≡ m = length-take-le m bs l in
    long_printed (take m bs) (omega arith) ∙ sym (long_printed bs (omega arith))

pub printed_cut : (m : ℕ) (bs : List ℕ) → 65_536 < m → printed (take m bs) ≡ printed bs
printed_cut m bs g = ⊎_elim (λ l. ap printed (take_all m bs (omega arith))) (λ l. cut_long m bs g l) (cases_lt (length bs) m)

-- what stands at the start of the output
pub holds_start : {bs out : List ℕ} {r : ℕ} → Holds bs out r → take r out ≡ bs
holds_start {bs} h = rw (h.is, h.output) (take-append_seam bs (replicate (128 - length bs) 0))

-- the input, of which as much was read as is wanted, the lines for what was read in the output, and what the output's writer then holds
pub judged : {E : Type 0} (input before after : Option (List ℕ)) (buffer out : List ℕ) {n r : ℕ} (w : Result (Unit {0}) E)
    → Filled input buffer n → 65_536 < length buffer → Holds (printed (take n buffer)) out r → OnOk w (Appends before after (take r out))
    → OnOk w (IfSome input (λ bs. Appends before after (printed bs)))
judged input before after buffer out (Err x) f l h w = tt
judged None before after buffer out (Ok x) f l h w = tt
judged (Some bs) before after buffer out (Ok x) f l h w =
    rw (← printed_cut (length buffer) bs l, ← f.start, ← holds_start h) w
