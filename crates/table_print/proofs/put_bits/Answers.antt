-- `table_print::put_bits` meets its contract.
use Rattle.table_print.proofs.Putting.{bits_turn, bits_end, length_bits}
use Rattle.table_print.specs.Rows.{bits_text}
use lib.Seq.{sets}
use Prim.Native.Nat.{ℕ, ◌-◌}
use mathlib.Core.List.{[]}
use native.Mathlib.Omega.{arith}
use mathlib.Core.Path.{refl, sym, ap, ◌∙◌}
use Rattle.table_print.proofs.put_bits.Goals as goal

pub loop-left-init : goal.loop-left-init
loop-left-init c = (refl, refl, refl)

pub overflow_add-from : goal.overflow_add-from
overflow_add-from c = omega (arith, c.requires, c.args.size.within)

pub loop-left-preserved : goal.loop-left-preserved
loop-left-preserved c =
    let l = c.loop-left in
    let a = c.args in
    let p = c.put_byte.ensures (omega (arith, l.invariant.1, c.requires, a.size.within)) in
    let x = c.put_byte.new.self in (
      p.name ∙ l.invariant.0,
      omega (arith, p.put.place, l.invariant.1),
      ap (λ (n : ℕ). sets x.out.now n (bits_text a.rows.now a.from (l.left - 1) [])) p.put.place
          ∙ bits_turn a.rows.now l.text.out.now x.out.now a.from l.text.at l.left c.char_of.result c.trit_at.result (l.left - 1) (omega arith) refl c.trit_at.ensures c.char_of.ensures p.put.stored
          ∙ l.invariant.2,
    )

pub returns : goal.returns
returns c =
    let l = c.loop-left in
    let a = c.args in
    record {
      put = record {
        stored = sym (bits_end a.rows.now l.text.out.now a.from l.text.at l.left (omega arith)) ∙ l.invariant.2;
        place = omega (arith, l.invariant.1, length_bits a.rows.now a.from a.size.width);
      };
      name = l.invariant.0;
    }
