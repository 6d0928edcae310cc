-- `fallback::Lowering::dry_unmapped` meets its contract.
use native.Mathlib.Omega.{arith}
use mathlib.Core.List.{[]}
use lib.Seq.{sets}
use Rattle.net_memory.specs.View.{memory_of}
use Rattle.log_entries.specs.View.{lent}
use Rattle.port_transparency.specs.Gave.{Gave}
use Rattle.port_transparency.proofs.Gave.{gave_unnamed}
use Rattle.port_unmap_all.specs.All.{unmapped_all}
use Rattle.fallback.proofs.Acts.{dry_done}
use Rattle.fallback.proofs.Lowering.dry_unmapped.Goals as goal

pub returns : goal.returns
returns c =
    let v = c.args in
    let e = c.emit_unmap_all in
    let t = unmapped_all (memory_of v.self.now.given.memory v.self.now.given.nets.now v.self.now.given.trits.now) v.self.now.output.now (sets v.room.now.outputs 0 v.self.now.output.now) in
    let g : Gave t (lent c.dry_start.result []) (lent e.new.log.state e.new.log.words.now) e.new.after = gave_unnamed 0 t _ _ _ e.ensures in
    dry_done v.self.now.given.memory v.self.now.given.nets.now v.self.now.given.trits.now v.self.now.output.now v.self.now.st v.self.now.asked.number v.room.now.outputs [] e.new.after c.dry_start.result e.new.log.state e.new.log.words.now (omega arith) c.dry_start.ensures g
