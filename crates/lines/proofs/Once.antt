-- Two results that meet a promise are the same: the number of bytes, the output and the work area. Assumes nothing.
use mathlib.Core.Path.{◌≡◌, sym, ◌∙◌}
use mathlib.Core.List.{List}
use Prim.Native.Nat.{ℕ}
use Rattle.lines.specs.Printing.{Holds, Reports}

pub holds_once : {bs o p : List ℕ} {r s : ℕ} → Holds bs o r → Holds bs p s → (r ≡ s) × (o ≡ p)
holds_once h k = (h.is ∙ sym k.is, h.output ∙ sym k.output)

pub reports_once : {bytes v w o p : List ℕ} {r s : ℕ} → Reports bytes v o r → Reports bytes w p s → (r ≡ s) × (o ≡ p) × (v ≡ w)
reports_once h k =
    let e = holds_once h.holds k.holds in
    (e.0, e.1, h.wiped ∙ sym k.wiped)
