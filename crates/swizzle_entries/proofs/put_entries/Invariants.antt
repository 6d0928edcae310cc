-- The invariants of `swizzle_entries::put_entries`.
use Rattle.std.proofs.Common.{◌≡◌, ◌≤◌, ◌+◌, ◌*◌, length}
use Rattle.std.proofs.lemmas.List.Edits.{sets}
use Rattle.rules.specs.Geometry.{make_data_swizzle}
use Rattle.net_memory.specs.Given.{mem_of}
use Rattle.swizzle_entries.proofs.Entries.{left}
use Rattle.swizzle_entries.proofs.put_entries.Given as goal

abbrev pub invariant-loop-bit : goal.invariant-loop-bit
invariant-loop-bit l = record {
  most : l.n ≤ l.bit * 258;
  count : l.n + length (left l.given.memory l.given.nets.now l.given.trits.now l.gs l.n l.bit) ≡ length (make_data_swizzle (mem_of l.given) l.gs);
  stored : sets l.out l.n (left l.given.memory l.given.nets.now l.given.trits.now l.gs l.n l.bit) ≡ sets l.initial.out 0 (make_data_swizzle (mem_of l.given) l.gs);
}
