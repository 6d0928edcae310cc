-- `port_unmap_all::emit_clocked` meets its contract.
use mathlib.Core.Path.{refl}
use Prim.Native.Nat.{◌≤◌}
use native.Mathlib.Omega.{arith}
use Rattle.rules.specs.Limits.{max_merge}
use Rattle.rules.specs.Cell.{read_at_of}
use Rattle.log_entries.specs.View.{lent_of}
use Rattle.net_memory.specs.Given.{mem_of}
use Rattle.port_unmap.specs.Ready.{flip_flop_in}
use Rattle.port_unmap_all.proofs.Port.{clocked-many, clocked_few}
use Rattle.port_unmap_all.proofs.emit_clocked.Goals as goal

pub returns-then-read_data_len-gt-MAX_MERGE : goal.returns-then-read_data_len-gt-MAX_MERGE
returns-then-read_data_len-gt-MAX_MERGE c =
    let v = c.args in
    let p = v.port in
    let n = c.read_data_len.ensures.by_index p.given.nets.now p.given.trits.now in
    clocked-many (mem_of p.given) p.i v.output.now (flip_flop_in p) v.after.now _ (lent_of v.log.now) n c.if-read_data_len-gt-MAX_MERGE.true

pub returns : goal.returns
returns c =
    let v = c.args in
    let p = v.port in
    let u = c.emit-last in
    let n = c.read_data_len.ensures.by_index p.given.nets.now p.given.trits.now in
    let few : (read_at_of (mem_of p.given) p.i).data_len ≤ max_merge = omega (arith, n, c.if-read_data_len-gt-MAX_MERGE.false) in
    clocked_few (mem_of p.given) p.i v.output.now (flip_flop_in p) v.after.now _ u.result c.output_start-start.result (lent_of v.log.now) (lent_of u.new.log) c.store_run.new.to refl few (u.ensures.log_after c.requires) (u.ensures.last_value few) (c.output_start-start.ensures.by_index p.given.nets.now p.given.trits.now) c.store_run.ensures
