-- `port_emulate::emulate_read_before_write` meets its contract.
use Rattle.std.proofs.Common.{rules}
use mathlib.Core.Path.{refl, sym}
use lib.ListN.{length}
use Rattle.std.proofs.lemmas.Result.{err_from_is_err_and}
use Rattle.log_entries.specs.View.{state_of}
use Rattle.net_memory.proofs.Sized.{write_ports_8}
use Rattle.port_emulate.proofs.Bounds.{fits_all, nets_there}
use Rattle.port_emulate.proofs.Number.{refused_input, all_x_is, refused_log}
use Rattle.port_emulate.proofs.Call.{call_refused, call_done, all_new, log_name, done_unnamed}
use Rattle.port_emulate.proofs.emulate_read_before_write.Goals as goal

pub returns-in_err-input_refusal : goal.returns-in_err-input_refusal
returns-in_err-input_refusal c =
    let v = c.args in
    let m = v.m in
    let x = v.nets.now in
    let y = v.trits.now in
    let n = refused_input m x y (length v.log.now) (state_of v.st) _ c.in_err-input_refusal.ensures in
    let e = err_from_is_err_and c.from_residual.result c.from_residual.ensures.1 in
    rw (e.1, e.2) (record { log_after = call_refused m x y v.log.now v.st _ n; emulated = refl })

pub invariant_of-emulation : goal.invariant_of-emulation
invariant_of-emulation c = record { eight = write_ports_8 c.args.m _ c.well_formed.1.1.1.0 }

pub dry_refusal-requires : goal.dry_refusal-requires
dry_refusal-requires c =
    let v = c.args in
    fits_all v.st.next v.m v.nets.now v.trits.now (sym c.in_ok-input_refusal.ensures)

pub returns-in_err-dry_refusal : goal.returns-in_err-dry_refusal
returns-in_err-dry_refusal c =
    let v = c.args in
    let m = v.m in
    let x = v.nets.now in
    let y = v.trits.now in
    let b = all_x_is m x y c.init_size.result c.part.result.now c.is_undef-all_x.result c.init_size.ensures.0 c.part.ensures.part c.is_undef-all_x.ensures in
    let n = refused_log m x y (length v.log.now) (state_of v.st) _ (sym c.in_ok-input_refusal.ensures) (c.in_err-dry_refusal.ensures y (sym c.in_ok-input_refusal.ensures) b) in
    let e = err_from_is_err_and c.from_residual-in_err-dry_refusal.result c.from_residual-in_err-dry_refusal.ensures.1 in
    rw (e.1, e.2) (record { log_after = call_refused m x y v.log.now v.st _ n; emulated = refl })

pub delay_ports-requires : goal.delay_ports-requires
delay_ports-requires c =
    let v = c.args in
    (fits_all v.st.next v.m v.nets.now v.trits.now (sym c.in_ok-input_refusal.ensures), nets_there v.st.next v.m v.nets.now v.trits.now (sym c.in_ok-input_refusal.ensures))

pub returns : goal.returns
returns c =
    let v = c.args in
    let m = v.m in
    let x = v.nets.now in
    let y = v.trits.now in
    let log = v.log.now in
    let b = all_x_is m x y c.init_size.result c.part.result.now c.is_undef-all_x.result c.init_size.ensures.0 c.part.ensures.part c.is_undef-all_x.ensures in
    let z = c.in_ok-dry_refusal.ensures y (sym c.in_ok-input_refusal.ensures) b in
    let n = refused_log m x y (length log) (state_of v.st) 0 (sym c.in_ok-input_refusal.ensures) z in
    let d = c.delay_ports in
    let t = c.turn_clocks-turned in
    let w = c.settle_relations in
    let u = log_name m x c.is_undef-all_x.result d.new.nets _ _ d.ensures in
    let k = call_done m x y log v.st c.is_undef-all_x.result d.new.nets d.new.log.words.now d.new.log.state b z (done_unnamed m c.is_undef-all_x.result x d.new.nets _ _ d.ensures) t.result w.result n (t.ensures.by_index x d.new.nets y) (w.ensures.by_index x d.new.nets y) in
    record { log_after = search rules; emulated = all_new m x d.new.nets t.result w.result d.new.log.state t.ensures.by_index_2 w.ensures.by_index_2 d.ensures.size }
