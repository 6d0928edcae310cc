-- The invariants of `net_logic::write_gate`: what is left is to be stored from here on.
use Rattle.std.proofs.Common.{◌≡◌, ◌+◌, length}
use Rattle.std.proofs.lemmas.List.Edits.{sets}
use Rattle.rules.specs.Logic.{tritwise}
use Rattle.net_logic.proofs.write_gate.Given as goal

abbrev pub invariant-loop-i : goal.invariant-loop-i
invariant-loop-i g l =
    let i = l.i-iterator.count in
    let xs = l.i-iterator.iter.a.rest.now in
    let ys = l.i-iterator.iter.b.rest.now in
    record {
      same : length xs ≡ length ys;
      room : i + length xs ≡ length l.a;
      done : sets l.out i (tritwise g.G.Gate.op xs ys) ≡ sets l.initial.out 0 (tritwise g.G.Gate.op l.a l.b);
    }
