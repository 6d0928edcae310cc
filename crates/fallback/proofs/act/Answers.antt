-- `fallback::act` meets its contract.
use mathlib.Core.Path.{refl, ◌∙◌}
use native.Mathlib.Omega.{arith}
use lib.ListN.{length}
use lib.Seq.{sets}
use Rattle.rules.specs.Fallback.{lower_fallback}
use Rattle.net_memory.specs.View.{memory_of}
use Rattle.log_entries.specs.View.{lent, lent_of}
use Rattle.log_entries.proofs.Emission.{named, unnamed, renamed, run_name, run_long}
use Rattle.port_transparency.specs.Gave.{Gave}
use Rattle.port_transparency.proofs.Gave.{gave_unnamed}
use Rattle.port_unmap_all.specs.All.{unmapped_all}
use Rattle.fallback_bare.specs.Bare.{bare_of}
use Rattle.fallback.specs.Split.{split_lowered}
use Rattle.fallback.proofs.Acts.{flat_ran, rows_ready, rows_ran}
use Rattle.fallback.proofs.act.Goals as goal

pub returns-then-given-eq0 : goal.returns-then-given-eq0
returns-then-given-eq0 c =
    let v = c.args in
    let l = v.log.now in
    let e = c.emit_unmap_all in
    let t = unmapped_all (memory_of v.given.memory v.given.nets.now v.given.trits.now) v.output.now (sets v.room.now.outputs 0 v.output.now) in
    let g : Gave t (lent l.state l.words.now) (lent e.new.log.state e.new.log.words.now) e.new.after = gave_unnamed 0 t _ _ _ e.ensures in
    let r = flat_ran v.given.memory v.given.nets.now v.given.trits.now v.output.now l.state l.words.now v.tables.now c.requires c.if-given-eq0.true v.room.now.outputs e.new.after e.new.log.state e.new.log.words.now (omega arith) g in
    record { log_after = renamed (lower_fallback (memory_of v.given.memory v.given.nets.now v.given.trits.now) v.output.now) (lent_of l) (lent_of e.new.log) (run_name t _ _ e.ensures.ran) r; tables_unchanged = refl }

pub lower_rows-requires : goal.lower_rows-requires
lower_rows-requires c =
    let v = c.args in
    let l = v.log.now in
    let e = c.emit_unmap_all in
    let t = unmapped_all (memory_of v.given.memory v.given.nets.now v.given.trits.now) v.output.now (sets v.room.now.outputs 0 v.output.now) in
    let g : Gave t (lent l.state l.words.now) (lent e.new.log.state e.new.log.words.now) e.new.after = gave_unnamed 0 t _ _ _ e.ensures in
    rows_ready v.given.memory v.given.nets.now v.given.trits.now v.output.now l.state l.words.now v.tables.now c.requires c.if-given-eq0.false v.room.now.outputs e.new.after e.new.log.state e.new.log.words.now (run_long t _ _ e.ensures.ran) (omega arith) g (length v.output.now) refl c.part-outs.result.now c.part-outs.ensures.part

pub returns : goal.returns
returns c =
    let v = c.args in
    let l = v.log.now in
    let e = c.emit_unmap_all in
    let p = c.lower_rows in
    let t = unmapped_all (memory_of v.given.memory v.given.nets.now v.given.trits.now) v.output.now (sets v.room.now.outputs 0 v.output.now) in
    let s = split_lowered (memory_of (bare_of v.given.memory) v.given.nets.now v.given.trits.now) c.part-outs.result.now in
    let g : Gave t (lent l.state l.words.now) (lent e.new.log.state e.new.log.words.now) e.new.after = gave_unnamed 0 t _ _ _ e.ensures in
    let r = rows_ran v.given.memory v.given.nets.now v.given.trits.now v.output.now l.state l.words.now v.tables.now c.requires c.if-given-eq0.false v.room.now.outputs e.new.after e.new.log.state e.new.log.words.now (run_long t _ _ e.ensures.ran) (omega arith) g (length v.output.now) refl c.part-outs.result.now c.part-outs.ensures.part (named 0 (lent_of p.new.log)) (unnamed s 0 _ _ p.ensures.log_after) in
    record {
      log_after = renamed (lower_fallback (memory_of v.given.memory v.given.nets.now v.given.trits.now) v.output.now) (lent_of l) (lent_of p.new.log) (run_name s _ _ p.ensures.log_after ∙ run_name t _ _ e.ensures.ran) r;
      tables_unchanged = p.ensures.tables_unchanged;
    }
