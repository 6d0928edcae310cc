-- `fallback::lower_rows` meets its contract.
use mathlib.Core.List.{[]}
use Rattle.std.specs.Prelude.{Ok}
use Rattle.rules.specs.Fallback.{lower_rows}
use Rattle.rules.proofs.Answers.{number_nonzero}
use Rattle.log_entries.specs.View.{lent_of}
use Rattle.log_entries.proofs.Emission.{named, unnamed, renamed, run_name}
use Rattle.net_memory.specs.View.{memory_of}
use Rattle.swizzle_result.specs.View.{results_of}
use Rattle.swizzle_call.specs.Told.{told}
use Rattle.fallback_bare.specs.Bare.{bare_of}
use Rattle.fallback.specs.Split.{split_lowered}
use Rattle.fallback.proofs.Made.{given_passes, given_thin, part_made, split_ran, tables_kept}
use Rattle.fallback.proofs.lower_rows.Goals as goal

pub split_rows-split-requires : goal.split_rows-split-requires
split_rows-split-requires c =
    let v = c.args in
    let l = v.log.now in
    (given_passes v.given.memory v.given.nets.now v.given.trits.now v.outs.now l.state l.words.now v.tables.now c.requires c.bare_memory.result c.bare_memory.ensures.value, given_thin v.given.memory v.given.nets.now v.given.trits.now v.outs.now l.state l.words.now v.tables.now c.requires c.bare_memory.result c.bare_memory.ensures.value)

pub returns-in_default : goal.returns-in_default
returns-in_default c = absurd (number_nonzero c.in_default.field-0 c.in_default.ensures.passed)

pub lower_made-requires : goal.lower_made-requires
lower_made-requires c =
    let v = c.args in
    let l = v.log.now in
    let s = c.split_rows-split in
    part_made v.given.memory v.given.nets.now v.given.trits.now v.outs.now l.state l.words.now v.tables.now c.requires c.bare_memory.result c.bare_memory.ensures.value (told l.state (Ok c.in-Ok.x)) s.new.log s.new.tables s.new.image c.in-Ok.ensures c.init_size-n.result c.init_size-n.ensures.0 c.part.result.now c.part-2.result.now c.part.ensures.part c.part-2.ensures.part

pub returns : goal.returns
returns c =
    let v = c.args in
    let l = v.log.now in
    let s = c.split_rows-split in
    let p = c.lower_made in
    let x = told l.state (Ok c.in-Ok.x) in
    let t = lower_rows (results_of x.made.memory c.part.result.now [] c.part-2.result.now) in
    let e = split_ran v.given.memory v.given.nets.now v.given.trits.now v.outs.now l.state l.words.now v.tables.now c.requires c.bare_memory.result c.bare_memory.ensures.value x s.new.log s.new.tables s.new.image c.in-Ok.ensures c.init_size-n.result c.init_size-n.ensures.0 c.part.result.now c.part-2.result.now c.part.ensures.part c.part-2.ensures.part (named 0 (lent_of p.new.log)) (unnamed t 0 _ _ p.ensures) in
    record {
      log_after = renamed (split_lowered (memory_of (bare_of v.given.memory) v.given.nets.now v.given.trits.now) v.outs.now) (lent_of l) (lent_of p.new.log) (run_name t _ _ p.ensures) e;
      tables_unchanged = tables_kept v.given.memory v.given.nets.now v.given.trits.now v.outs.now l.state l.words.now v.tables.now c.requires c.bare_memory.result c.bare_memory.ensures.value x s.new.log s.new.tables s.new.image c.in-Ok.ensures;
    }
