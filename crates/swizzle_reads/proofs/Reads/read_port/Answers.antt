-- `swizzle_reads::Reads::read_port` meets its contract.
use mathlib.Core.Path.{refl, sym, ◌∙◌}
use lib.ListN.{length, take}
use Rattle.swizzle_reads.specs.Going.{going_of}
use Rattle.swizzle_reads.proofs.Fitting.{refused_port, cut_port, port_refused, port_not, nets_hold, trits_hold, port_done_lem, port_kept}
use Rattle.swizzle_reads.proofs.Reads.read_port.Goals as goal

pub returns-in_default-clause-ports_after : goal.returns-in_default-clause-ports_after
returns-in_default-clause-ports_after c =
    let q = c.args.rows.layout in
    let x = c.args.port in
    let o = c.split_addr-split in
    port_refused q.params q.entries.now x.wide x.read.port x.read.nets.now x.read.trits.now (length c.args.scratch.now) x.number x.output.now (going_of c.args.log.now c.args.self.now) (refused_port q.params q.entries.now x.wide x.read.port x.read.nets.now o.result _ _ o.new.hw o.new.mux c.addr-addr.ensures c.wide_log-old.ensures.0 (o.ensures q.entries.now) c.in_default.is)

pub invariant_of-x : goal.invariant_of-x
invariant_of-x c =
    let q = c.args.rows.layout in
    let x = c.args.port in
    let o = c.split_addr-split in
    let k = cut_port q.params q.entries.now x.wide x.read.port x.read.nets.now o.result _ _ o.new.hw o.new.mux c.addr-addr.ensures c.wide_log-old.ensures.0 (o.ensures q.entries.now) c.in-Some.s c.in-Some.is _ _ refl refl in
    record { old_low = k.old_low; new_low = k.new_low }

pub returns-then-not-fits-clause-ports_after : goal.returns-then-not-fits-clause-ports_after
returns-then-not-fits-clause-ports_after c =
    let q = c.args.rows.layout in
    let x = c.args.port in
    let o = c.split_addr-split in
    let s = c.in-Some.s in
    let k = cut_port q.params q.entries.now x.wide x.read.port x.read.nets.now o.result _ _ o.new.hw o.new.mux c.addr-addr.ensures c.wide_log-old.ensures.0 (o.ensures q.entries.now) s c.in-Some.is _ _ refl refl in
    port_not q.params q.entries.now x.wide x.read.port x.read.nets.now x.read.trits.now (length c.args.scratch.now) x.number x.output.now (going_of c.args.log.now c.args.self.now) c.args.rows.sizes (take s.hw_len o.new.hw) (take s.mux_len o.new.mux) s c.args.rows.measures k.same k.can (sym c.fits.ensures ∙ c.if-not-fits.true)

pub read_split-requires : goal.read_split-requires
read_split-requires c =
    let q = c.args.rows.layout in
    let x = c.args.port in
    let o = c.split_addr-split in
    let s = c.in-Some.s in
    let k = cut_port q.params q.entries.now x.wide x.read.port x.read.nets.now o.result _ _ o.new.hw o.new.mux c.addr-addr.ensures c.wide_log-old.ensures.0 (o.ensures q.entries.now) s c.in-Some.is c.part-hw.result.now c.part-mux.result.now c.part-hw.ensures.part c.part-mux.ensures.part in
    record { nets_hold = nets_hold q.params q.entries.now x.wide x.read.port x.read.nets.now x.read.trits.now (length c.args.scratch.now) x.number x.output.now (going_of c.args.log.now c.args.self.now) c.args.rows.sizes c.part-hw.result.now c.part-mux.result.now s c.args.rows.measures k.same k.can (sym c.fits.ensures ∙ c.if-not-fits.false); trits_hold = trits_hold q.params q.entries.now x.wide x.read.port x.read.nets.now x.read.trits.now (length c.args.scratch.now) x.number x.output.now (going_of c.args.log.now c.args.self.now) c.args.rows.sizes c.part-hw.result.now c.part-mux.result.now s c.args.rows.measures k.same k.can (sym c.fits.ensures ∙ c.if-not-fits.false) }

pub returns-clause-ports_after : goal.returns-clause-ports_after
returns-clause-ports_after c =
    let q = c.args.rows.layout in
    let x = c.args.port in
    let o = c.split_addr-split in
    let s = c.in-Some.s in
    let k = cut_port q.params q.entries.now x.wide x.read.port x.read.nets.now o.result _ _ o.new.hw o.new.mux c.addr-addr.ensures c.wide_log-old.ensures.0 (o.ensures q.entries.now) s c.in-Some.is c.part-hw.result.now c.part-mux.result.now c.part-hw.ensures.part c.part-mux.ensures.part in
    port_done_lem q.params q.entries.now x.wide x.read.port x.read.nets.now x.read.trits.now (length c.args.scratch.now) x.number x.output.now (going_of c.args.log.now c.args.self.now) c.args.rows.sizes c.part-hw.result.now c.part-mux.result.now s c.args.rows.measures k.same k.can (sym c.fits.ensures ∙ c.if-not-fits.false) c.args.scratch.now refl (going_of c.read_split.new.log c.read_split.new.self) c.read_split.ensures.ports_after

pub returns-clause-scratch_kept : goal.returns-clause-scratch_kept
returns-clause-scratch_kept c =
    let q = c.args.rows.layout in
    let x = c.args.port in
    let o = c.split_addr-split in
    let s = c.in-Some.s in
    let k = cut_port q.params q.entries.now x.wide x.read.port x.read.nets.now o.result _ _ o.new.hw o.new.mux c.addr-addr.ensures c.wide_log-old.ensures.0 (o.ensures q.entries.now) s c.in-Some.is c.part-hw.result.now c.part-mux.result.now c.part-hw.ensures.part c.part-mux.ensures.part in
    port_kept q.params q.entries.now x.wide x.read.port x.read.nets.now x.read.trits.now (length c.args.scratch.now) x.number x.output.now (going_of c.args.log.now c.args.self.now) c.args.rows.sizes c.part-hw.result.now c.part-mux.result.now s c.args.rows.measures k.same k.can (sym c.fits.ensures ∙ c.if-not-fits.false) c.args.scratch.now refl c.read_split.new.scratch c.read_split.ensures.scratch_after
