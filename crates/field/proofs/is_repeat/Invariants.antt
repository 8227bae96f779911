-- A lower-numbered hole that stands where hole i does is ahead of c, until it is met; c falls. Assumes nothing.
use Rattle.field.proofs.Chains.{Ahead}
use Rattle.field.proofs.is_repeat.Given as goal

abbrev pub invariant-loop-c : goal.invariant-loop-c
invariant-loop-c l = Ahead l.d l.holes l.work l.i l.c

abbrev pub decreases-loop-c : goal.decreases-loop-c
decreases-loop-c l = l.c
