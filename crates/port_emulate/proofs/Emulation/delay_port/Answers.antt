-- `port_emulate::Emulation::delay_port` meets its contract.
use mathlib.Core.Path.{sym, ap, ◌∙◌, subst}
use Prim.Native.Nat.{ℕ}
use native.Mathlib.Omega.{arith}
use mathlib.Core.List.{List, []}
use Rattle.lists.specs.Lists.{any, part}
use Rattle.port_relations.specs.Clocked.{has_relation, flip_flops_from}
use Rattle.log_entries.specs.View.{lent_of}
use Rattle.net_memory.specs.View.{write_by, write_size}
use Rattle.port_emulate.proofs.Bounds.{writes_by}
use Rattle.port_transparency.specs.Gave.{Gave}
use Rattle.port_delay.specs.Delay.{cut}
use Rattle.port_settle.specs.Settled.{is_read}
use Rattle.port_emulate.specs.Delays.{delayed_by, cut_by}
use Rattle.port_emulate.proofs.Stored.{few_lens, kept-done, stored_done}
use Rattle.port_emulate.proofs.Emulation.delay_port.Goals as goal

pub returns-else-relates_to : goal.returns-else-relates_to
returns-else-relates_to c =
    let v = c.args in
    let e = c.emit_port in
    let l = lent_of v.log.now in
    let l1 = lent_of e.new.log in
    let own = c.part-own.ensures.part ∙ ap (λ (n : ℕ). part v.at n v.nets.now) c.write_size.ensures.0 in
    kept-done v.self.memory.now v.nets.now v.j v.at v.p c.requires v.self.all_x (cut (write_by v.p (part v.at (write_size v.p) v.nets.now) []) v.room.now.addr v.room.now.bits v.room.now.mask) e.new.room.addr e.new.room.bits e.new.room.mask l l1
    (λ x y. sym (c.relates_to.ensures x y ∙ (λ i. any (has_relation (c.from-before.ensures i) v.j) (flip_flops_from v.self.memory.now x y 0))) ∙ c.if-relates_to.false)
    (λ x y. subst (λ (o : List ℕ). Gave (delayed_by (is_read v.self.memory.now x y v.j) v.self.all_x (write_by v.p o []) (cut (write_by v.p o []) v.room.now.addr v.room.now.bits v.room.now.mask)) l l1 (cut_by (is_read v.self.memory.now x y v.j) (write_by v.p o []) e.new.room.addr e.new.room.bits e.new.room.mask)) own (e.ensures x y))

pub store_port-requires : goal.store_port-requires
store_port-requires c =
    let v = c.args in
    few_lens v.self.memory.now v.nets.now v.j v.at v.p c.requires

pub returns-then-relates_to : goal.returns-then-relates_to
returns-then-relates_to c =
    let v = c.args in
    let e = c.emit_port in
    let l = lent_of v.log.now in
    let l1 = lent_of e.new.log in
    let s = c.store_port in
    let f = few_lens v.self.memory.now v.nets.now v.j v.at v.p c.requires in
    let n = writes_by v.self.memory.now v.self.eight v.nets.now in
    let own = c.part-own.ensures.part ∙ ap (λ (n : ℕ). part v.at n v.nets.now) c.write_size.ensures.0 in
    stored_done v.self.memory.now v.nets.now v.j v.at v.p c.requires s.new.nets e.new.room.addr e.new.room.bits e.new.room.mask (omega (arith, f.1, s.ensures.lens.0)) (omega (arith, f.2, s.ensures.lens.1)) (omega (arith, f.3, s.ensures.lens.2)) s.ensures.nets_after v.self.all_x (cut (write_by v.p (part v.at (write_size v.p) v.nets.now) []) v.room.now.addr v.room.now.bits v.room.now.mask) l l1 (omega (arith, n, c.requires.there))
    (λ x y. sym (c.relates_to.ensures x y ∙ (λ i. any (has_relation (c.from-before.ensures i) v.j) (flip_flops_from v.self.memory.now x y 0))) ∙ c.if-relates_to.true)
    (λ x y. subst (λ (o : List ℕ). Gave (delayed_by (is_read v.self.memory.now x y v.j) v.self.all_x (write_by v.p o []) (cut (write_by v.p o []) v.room.now.addr v.room.now.bits v.room.now.mask)) l l1 (cut_by (is_read v.self.memory.now x y v.j) (write_by v.p o []) e.new.room.addr e.new.room.bits e.new.room.mask)) own (e.ensures x y))
