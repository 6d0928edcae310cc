-- The invariants of `try_kit::nets::fill_nets`.
use mathlib.Core.Path.{◌≡◌}
use lib.ListN.{length}
use lib.Seq.{sets}
use Rattle.try_kit.specs.Paint.{pattern_of}
use Rattle.try_kit.specs.Nets.{net_at_of}
use Rattle.try_kit.proofs.Turns.{left}
use Rattle.try_kit.proofs.nets.fill_nets.Given as goal

abbrev pub invariant-loop-i : goal.invariant-loop-i
invariant-loop-i l = (length l.s ≡ length l.initial.s) × (sets l.s l.i (left (λ k. net_at_of l.next k l.turn) (length l.initial.s) l.i) ≡ pattern_of (λ k. net_at_of l.next k l.turn) (length l.initial.s))
