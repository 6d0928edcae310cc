-- `merge_dff::Trits::emit_kept` meets its contract.
use mathlib.Core.Path.{◌≡◌, refl, ◌∙◌}
use native.Mathlib.Omega.{arith}
use mathlib.Core.List.{map}
use lib.ListN.{length, take}
use Rattle.log_entries.specs.View.{lent_of}
use Rattle.net_flip_flop.specs.View.{controls_of}
use Rattle.merge_dff.specs.Packs.{packed_byte}
use Rattle.merge_dff.proofs.Dff.{part-kept, kept_run, kept-results}
use Rattle.merge_dff.proofs.Trits.emit_kept.Goals as goal

pub returns : goal.returns
returns c =
    let v = c.args in
    let s = v.self.now in
    let k = v.kept in
    let ps = k.y.now in
    let n = length ps in
    let ec : take n c.unpack_part.new.to ≡ map (packed_byte 256) ps = part-kept s.clear c.unpack_part.new.to ps 256 n c.unpack_part.ensures refl (omega arith) in
    let er : take n c.unpack_part-2.new.to ≡ map (packed_byte 1) ps = part-kept s.reset c.unpack_part-2.new.to ps 1 n c.unpack_part-2.ensures refl (omega arith) in
    let ei : take n c.unpack_part-3.new.to ≡ map (packed_byte 65536) ps = part-kept s.init c.unpack_part-3.new.to ps 65536 n c.unpack_part-3.ensures refl (omega arith) in
    let p = c.emit_dff in
    let l = lent_of v.log.now in
    let l1 = lent_of p.new.self in
    record { log_after = kept_run (controls_of v.c) k.x.now ps k.at.now v.out.now _ _ _ l l1 ec er ei p.ensures; out_after = c.spread_results.ensures ∙ kept-results (controls_of v.c) k.x.now ps k.at.now v.out.now _ _ _ l l1 ec er ei p.ensures }
