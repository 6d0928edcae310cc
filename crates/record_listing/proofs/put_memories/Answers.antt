-- `record_listing::put_memories` meets its contract.
use Rattle.record_listing.specs.Summary.{view_summary}
use Rattle.record_listing.proofs.Puts.{added_as}
use Rattle.record_listing.proofs.Memories.{few, at_first, starts, next_max, next_start, rest_end, rest_all, line_stored, line_place}
use Rattle.rules.specs.Record.{size_mems}
use mathlib.Core.Path.{refl, sym, ap, ◌∙◌}
use Prim.Native.Nat.{◌<◌}
use native.Mathlib.Omega.{arith}
use lib.ListN.{length}
use lib.Seq.{sets}
use Rattle.record_listing.proofs.put_memories.Goals as goal

pub loop-i-init : goal.loop-i-init
loop-i-init c =
    (refl, omega arith, at_first c.args.bytes.now c.args.s c.requires.0, refl, refl)

pub summary_in-y-requires : goal.summary_in-y-requires
summary_in-y-requires c =
    let l = c.loop-i in
    starts c.args.bytes.now c.args.s c.requires.0 l.i l.from (omega (arith, c.requires.1)) l.invariant.2

pub put_memory-requires : goal.put_memory-requires
put_memory-requires c =
    omega (arith, c.loop-i.invariant.1, c.requires.1, c.requires.2, few c.args.bytes.now c.args.s c.requires.0)

pub overflow_mul-from : goal.overflow_mul-from
overflow_mul-from c =
    let l = c.loop-i in
    omega (arith, next_max c.args.bytes.now c.args.s c.requires.0 l.i l.from (omega (arith, c.requires.1)) l.invariant.2 (view_summary c.summary_in-y.result) c.summary_in-y.ensures)

pub overflow_add-from : goal.overflow_add-from
overflow_add-from c =
    let l = c.loop-i in
    omega (arith, next_max c.args.bytes.now c.args.s c.requires.0 l.i l.from (omega (arith, c.requires.1)) l.invariant.2 (view_summary c.summary_in-y.result) c.summary_in-y.ensures)

pub loop-i-preserved : goal.loop-i-preserved
loop-i-preserved c =
    let l = c.loop-i in
    let bs = c.args.bytes.now in
    let v = view_summary c.summary_in-y.result in
    let e = c.summary_in-y.ensures in
    let w = c.put_memory.ensures.0 in
    let x = c.put_memory.new.text in
    let h : l.i < c.args.count = omega arith in (
      w.name ∙ l.invariant.0,
      omega (arith, l.invariant.1, c.put_memory.ensures.1),
      next_start bs c.args.s c.requires.0 l.i l.from (omega (arith, c.requires.1)) l.invariant.2 v e,
      line_stored bs c.args.count l.text.out.now x.out.now l.text.at x.at l.i v h e w.put ∙ l.invariant.3,
      line_place bs c.args.count l.text.out.now x.out.now l.text.at x.at l.i v h e w.put ∙ l.invariant.4,
    )

pub returns : goal.returns
returns c =
    let l = c.loop-i in
    let bs = c.args.bytes.now in
    let n = c.args.count in
    let z = rest_end bs n l.i (omega arith) in
    let a = rest_all bs n (c.requires.1 ∙ ap size_mems c.requires.0.sizes) in
    (added_as _ a (record { put = record { stored = sym (ap (sets l.text.out.now l.text.at) z) ∙ l.invariant.3; place = omega (arith, l.invariant.4, ap length z) }; name = l.invariant.0 }), omega (arith, l.invariant.1))
