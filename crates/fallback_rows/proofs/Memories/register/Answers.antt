-- `fallback_rows::Memories::register` meets its contract.
use mathlib.Core.Path.{refl, subst}
use native.Mathlib.Omega.{arith}
use lib.ListN.{take}
use Rattle.rules.specs.Value.{Value}
use Rattle.log_entries.specs.View.{lent_of}
use Rattle.port_transparency.specs.Gave.{Gave}
use Rattle.swizzle_parts.specs.Parts.{memory_at}
use Rattle.fallback_rows.specs.Rows.{writes_by, write_numbers}
use Rattle.fallback_rows.proofs.Rows.{register_gave}
use Rattle.fallback_rows.proofs.Memories.register.Goals as goal

pub returns : goal.returns
returns c =
    let v = c.args in
    let s = v.self.now in
    let a = c.emit_start in
    let b = c.over_all in
    let h = c.emit_held in
    let q = take s.g.unit a.new.out in
    let r = take s.g.unit b.new.row.nets in
    λ trits image.
    let m = (memory_at s.g s.nets.now trits image v.n).memory in
    register_gave s.g m v.init.now s.g.unit refl s.narrow q (take s.g.unit v.room.now.held) r
    (lent_of v.log.now) (lent_of a.new.log) (lent_of b.new.log) (lent_of h.new.log) a.ensures.nets
    (subst (λ (x : Value). Gave (writes_by s.g.unit m (write_numbers s.g) x) (lent_of a.new.log) (lent_of b.new.log) r) (a.ensures.row (omega (arith, s.narrow))) (b.ensures trits image))
    h.ensures.log_after
