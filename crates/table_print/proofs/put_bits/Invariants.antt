-- The invariants of `table_print::put_bits`.
use Rattle.table_print.specs.Rows.{bits_text}
use lib.Seq.{sets}
use Prim.Native.Nat.{◌+◌}
use mathlib.Core.List.{[]}
use mathlib.Core.Path.{◌≡◌}
use Rattle.table_print.proofs.put_bits.Given as goal

abbrev pub invariant-loop-left : goal.invariant-loop-left
invariant-loop-left l =
    let before = l.initial.text in
    let text = l.text in
    (text.out.ghost_name ≡ before.out.ghost_name) × (text.at + l.left ≡ before.at + l.fn.size.width)
    × (sets text.out.now text.at (bits_text l.rows l.from l.left []) ≡ sets before.out.now before.at (bits_text l.rows l.from l.fn.size.width []))
