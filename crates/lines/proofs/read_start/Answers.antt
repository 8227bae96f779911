-- A read gives the next bytes of the input, and they come to stand behind those before. One that gives none is at the end. Assumes nothing.
use Rattle.std.proofs.Common.{◌≡◌, ◌+◌, ◌≤◌, ◌∙◌, ℕ, List, ◌++◌, length, take, Option, None, Some, arith, append_assoc, length-append, sym, ap}
use Rattle.std.proofs.lemmas.List.{take-append-le, length-take-le}
use Rattle.std.proofs.Math.Seq.{take-append-add}
use Rattle.std.specs.Io.KnownBytes.{Consumes}
use borrow.Rule.Slice.PartMut.{put_mid, post_of}
use Rattle.lines.proofs.read_start.Goals as goal

-- the bytes before n and the bytes behind them
taken : (n got k : ℕ) (xs ys : List ℕ) → n ≤ length xs → got ≤ length ys → take (n + got) (put_mid n k xs ys) ≡ take n xs ++ take got ys
taken n got k xs ys a b =
    let l : length (take n xs) ≡ n = length-take-le n xs a in
    let e : take (length (take n xs) + got) (put_mid n k xs ys) ≡ take n xs ++ take got (ys ++ post_of n k xs) =
    take-append-add (take n xs) (ys ++ post_of n k xs) got in
    rw l at e ∙ ap (λ (zs : List ℕ). take n xs ++ zs) (take-append-le got ys (post_of n k xs) b)

room : (n got k m : ℕ) (xs ys : List ℕ) → n ≤ length xs → got ≤ length ys → m ≡ n + got → m ≤ length (put_mid n k xs ys)
room n got k m xs ys a b e =
    omega (arith, length-append (take n xs) (ys ++ post_of n k xs), length-append ys (post_of n k xs), length-take-le n xs a)

turn : (a b c : Option (List ℕ)) (n got k m : ℕ) (xs ys : List ℕ) → n ≤ length xs → got ≤ length ys → m ≡ n + got → Consumes a b (take n xs)
    → Consumes b c (take got ys) → Consumes a c (take m (put_mid n k xs ys))
turn None b c n got k m xs ys f g e p q = tt
turn (Some is) None c n got k m xs ys f g e p q = absurd p
turn (Some is) (Some js) None n got k m xs ys f g e p q = absurd q
turn (Some is) (Some js) (Some ks) n got k m xs ys f g e p q = rw (e, taken) (p ∙ rw q (sym (append_assoc (take n xs) (take got ys) ks)))

pub loop-n-preserved : goal.loop-n-preserved
loop-n-preserved g c =
    let held = c.loop-n.invariant in
    let given = c.in_ok-got.ensures in
    record {
      fits = room _ _ _ _ c.loop-n.buffer c.read.new.buf held.fits given.bound.0 (omega arith);
      read = turn _ _ _ _ _ _ _ c.loop-n.buffer c.read.new.buf held.fits given.bound.0 (omega arith) held.read given.bytes.0;
    }
