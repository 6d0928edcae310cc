-- `port_mux::transparency_mux` meets its contract.
use mathlib.Core.Path.{refl, sym, ap, ◌∙◌}
use Prim.Native.Nat.{ℕ}
use native.Mathlib.Omega.{arith}
use lib.ListN.{length}
use lib.Seq.{sets}
use Rattle.std.specs.Prelude.{is_some}
use Rattle.std.proofs.lemmas.Result.{err_from_is_err_and}
use Rattle.rules.specs.Ports.{transparency_mux}
use Rattle.rules.specs.Refusals.{log_refusal, overlay_refusal}
use Rattle.log_entries.specs.View.{state_of}
use Rattle.log_entries.proofs.Emission.{run_name}
use Rattle.std.proofs.Common.{rules}
use Rattle.net_memory.specs.Given.{mem_of}
use Rattle.net_memory.proofs.Sized.{reads_length}
use Rattle.port_transparency.proofs.Gave.{gave_unnamed}
use Rattle.port_overlay.proofs.Bounds.{chains_mux_at}
use Rattle.port_mux.specs.Call.{asked_of, given_mask}
use Rattle.port_mux.proofs.Passed.{passed, bits_fit, mask_fit, len_is, data_few}
use Rattle.port_mux.proofs.Act.{input_refused, room_refused, log_last, overlaid_refused, overlaid-done}
use Rattle.port_mux.proofs.transparency_mux.Goals as goal

pub returns-in_err-refusal : goal.returns-in_err-refusal
returns-in_err-refusal c =
    let v = c.args in
    let o = v.asked in
    let e = err_from_is_err_and c.from_residual.result c.from_residual.ensures.1 in
    rw (e.1, e.2) (input_refused (is_some o.mask) v.given.memory v.given.nets.now v.given.trits.now v.read v.write o.bits.now (given_mask o.mask) v.bits_to.now v.mask_to.now v.log.now v.st (length o.bits.now) _ c.in_err-refusal.ensures)

pub returns-in_err-room_refusal : goal.returns-in_err-room_refusal
returns-in_err-room_refusal c =
    let v = c.args in
    let o = v.asked in
    let z = sym c.in_ok-refusal.ensures in
    let g = passed v.st.next v.given.memory v.given.nets.now v.given.trits.now v.read v.write (is_some o.mask) o.bits.now (given_mask o.mask) z (reads_length v.given.memory _ c.well_formed.1.1.1.1.0.1.1.0 v.given.nets.now v.given.trits.now) in
    let d = len_is v.given.memory v.given.nets.now v.given.trits.now v.read v.write (is_some o.mask) o.bits.now (given_mask o.mask) g in
    let r = c.in_err-room_refusal.ensures ∙ ap (λ (n : ℕ). overlay_refusal (record { bits = length v.bits_to.now; mask = length v.mask_to.now }) n (asked_of o)) d in
    let e = err_from_is_err_and c.from_residual-in_err-room_refusal.result c.from_residual-in_err-room_refusal.ensures.1 in
    rw (e.1, e.2) (room_refused (is_some o.mask) v.given.memory v.given.nets.now v.given.trits.now v.read v.write o.bits.now (given_mask o.mask) v.bits_to.now v.mask_to.now v.log.now v.st z (length o.bits.now) _ r)

pub dry_refusal-requires : goal.dry_refusal-requires
dry_refusal-requires c =
    let v = c.args in
    let o = v.asked in
    passed v.st.next v.given.memory v.given.nets.now v.given.trits.now v.read v.write (is_some o.mask) o.bits.now (given_mask o.mask) (sym c.in_ok-refusal.ensures) (reads_length v.given.memory _ c.well_formed.1.1.1.1.0.1.1.0 v.given.nets.now v.given.trits.now)

pub returns-in_err-dry_refusal : goal.returns-in_err-dry_refusal
returns-in_err-dry_refusal c =
    let v = c.args in
    let o = v.asked in
    let z = sym c.in_ok-refusal.ensures in
    let g = passed v.st.next v.given.memory v.given.nets.now v.given.trits.now v.read v.write (is_some o.mask) o.bits.now (given_mask o.mask) z (reads_length v.given.memory _ c.well_formed.1.1.1.1.0.1.1.0 v.given.nets.now v.given.trits.now) in
    let d = len_is v.given.memory v.given.nets.now v.given.trits.now v.read v.write (is_some o.mask) o.bits.now (given_mask o.mask) g in
    let r = c.in_ok-room_refusal.ensures ∙ ap (λ (n : ℕ). overlay_refusal (record { bits = length v.bits_to.now; mask = length v.mask_to.now }) n (asked_of o)) d in
    let e = err_from_is_err_and c.from_residual-in_err-dry_refusal.result c.from_residual-in_err-dry_refusal.ensures.1 in
    let t = transparency_mux (mem_of v.given) v.read v.write (asked_of o) in
    rw (e.1, e.2) (log_last (is_some o.mask) v.given.memory v.given.nets.now v.given.trits.now v.read v.write o.bits.now (given_mask o.mask) v.bits_to.now v.mask_to.now v.log.now v.st z _ (sym r)
    (overlaid_refused (is_some o.mask) (length o.bits.now) (log_refusal (length v.log.now) (state_of v.st) t) _ v.bits_to.now v.mask_to.now v.log.now (state_of v.st) t c.in_err-dry_refusal.ensures))

pub emit-requires : goal.emit-requires
emit-requires c =
    let v = c.args in
    let o = v.asked in
    passed v.st.next v.given.memory v.given.nets.now v.given.trits.now v.read v.write (is_some o.mask) o.bits.now (given_mask o.mask) (sym c.in_ok-refusal.ensures) (reads_length v.given.memory _ c.well_formed.1.1.1.1.0.1.1.0 v.given.nets.now v.given.trits.now)

pub returns : goal.returns
returns c =
    let v = c.args in
    let o = v.asked in
    let u = c.emit in
    let n = length o.bits.now in
    let z = sym c.in_ok-refusal.ensures in
    let g = passed v.st.next v.given.memory v.given.nets.now v.given.trits.now v.read v.write (is_some o.mask) o.bits.now (given_mask o.mask) z (reads_length v.given.memory _ c.well_formed.1.1.1.1.0.1.1.0 v.given.nets.now v.given.trits.now) in
    let d = len_is v.given.memory v.given.nets.now v.given.trits.now v.read v.write (is_some o.mask) o.bits.now (given_mask o.mask) g in
    let f = data_few v.given.memory v.given.nets.now v.given.trits.now v.read v.write (is_some o.mask) o.bits.now (given_mask o.mask) g in
    let k = sym c.in_ok-room_refusal.ensures in
    let r = c.in_ok-room_refusal.ensures ∙ ap (λ (n : ℕ). overlay_refusal (record { bits = length v.bits_to.now; mask = length v.mask_to.now }) n (asked_of o)) d in
    let t = transparency_mux (mem_of v.given) v.read v.write (asked_of o) in
    let x = length v.bits_to.now in
    let y = length v.mask_to.now in
    let named = run_name t _ _ u.ensures.ran in
    let w = log_last (is_some o.mask) v.given.memory v.given.nets.now v.given.trits.now v.read v.write o.bits.now (given_mask o.mask) v.bits_to.now v.mask_to.now v.log.now v.st z _ (sym r)
    (overlaid-done (is_some o.mask) n v.bits_to.now c.copy.new.to v.mask_to.now c.store_mask.new.to u.new.overlay.under u.new.over v.log.now u.new.log.words.now v.st u.new.log.state t (chains_mux_at (mem_of v.given) v.read v.write (asked_of o))
    n refl c.in_ok-dry_refusal.ensures (gave_unnamed 0 t _ _ _ u.ensures) (c.copy.ensures ∙ ap (sets v.bits_to.now 0) c.part.ensures.part) c.store_mask.ensures.to_after (bits_fit x y n (is_some o.mask) o.bits.now (given_mask o.mask) k) (λ q. mask_fit x y n (is_some o.mask) o.bits.now (given_mask o.mask) k q)
    (omega (arith, g.bits_like, f)) (omega (arith, g.bits_like, f))) in
    search rules
