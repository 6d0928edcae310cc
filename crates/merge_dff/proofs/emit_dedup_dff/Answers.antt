-- `merge_dff::emit_dedup_dff` meets its contract.
use Rattle.std.proofs.Common.{◌≡◌, arith, length}
use Rattle.rules.specs.Limits.{max_merge}
use Rattle.log_entries.specs.View.{lent_of}
use Rattle.net_flip_flop.specs.View.{controls_of}
use Rattle.merge_dff.proofs.Dff.{column, rules_merge, kept_few, merged-run, merged-results}
use Rattle.merge_dff.proofs.emit_dedup_dff.Goals as goal

pub emit_kept-requires : goal.emit_kept-requires
emit_kept-requires c = kept_few c.args.f.bits.now _ c.merge-kept.result c.merge-kept.ensures

pub returns : goal.returns
returns c =
    let v = c.args in
    let f = v.f in
    let k = c.merge-kept in
    let p = c.emit_kept in
    let x = controls_of f.controls in
    let q = c.pack_trits-n.ensures in
    let z : length v.trits.now.packed ≡ max_merge = omega arith in
    let e = column v.trits.now.packed c.pack_trits-n.new.to _ _ q.to_after z q.value in
    let r = rules_merge x f.bits.now f.clear.now f.reset.now f.init.now _ q.bytes e in
    record {
      log_after = rw r at (merged-run f.bits.now _ k.result k.ensures x v.out.now _ (lent_of v.log.now) (lent_of p.new.log) p.ensures.log_after p.ensures.out_after);
      out_after = rw r at (merged-results f.bits.now _ k.result k.ensures x v.out.now _ (lent_of v.log.now) (lent_of p.new.log) p.ensures.log_after p.ensures.out_after);
    }
