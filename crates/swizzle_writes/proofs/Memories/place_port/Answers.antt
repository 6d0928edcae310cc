-- `swizzle_writes::Memories::place_port` meets its contract.
use mathlib.Core.Path.{◌≡◌, ap, ◌∙◌}
use Prim.Native.Nat.{ℕ}
use native.Mathlib.Omega.{arith}
use mathlib.Core.List.{List}
use lib.ListN.{length, replicate}
use Rattle.lists.proofs.Stores.{take_stored}
use Rattle.log_entries.specs.View.{lent_of}
use Rattle.image_geometry.specs.View.{layout_of}
use Rattle.rules.specs.Cell.{wide_log2}
use Rattle.rules.specs.Swizzle.{split_addr}
use Rattle.net_memory.specs.Ports.{write_of}
use Rattle.swizzle_split.proofs.Limits.{can_fits}
use Rattle.swizzle_split.proofs.Lengths.{addr_low, mux_low}
use Rattle.swizzle_writes.proofs.Steps.{refused_by_lem, accepted_by, port_not, port_gave, wide_by}
use Rattle.swizzle_writes.proofs.Memories.place_port.Goals as goal

pub returns-in_default : goal.returns-in_default
returns-in_default c =
    let v = c.args in
    let q = layout_of v.self.layout in
    let w = write_of v.write in
    let e : c.wide_log-old.result ≡ wide_log2 v.width (length w.bits) = c.wide_log-old.ensures.0 ∙ ap (λ (l : List ℕ). wide_log2 v.width (length l)) c.bits-bits.ensures.0 in
    port_not q v.self.mems (wide_log2 v.width (length w.bits)) v.new w.addr w.bits w.mask v.at v.to.now (lent_of v.log.now)
    (rw (e, c.addr-addr.ensures) at (refused_by_lem q c.wide_log-old.result v.new c.addr-addr.result.now _ _ _ _ _ (c.split_addr-split.ensures v.self.layout.entries.now) c.in_default.is))

pub returns : goal.returns
returns c =
    let v = c.args in
    let q = layout_of v.self.layout in
    let a = c.addr-addr.result.now in
    let old = c.wide_log-old.result in
    let z : List ℕ = replicate 64 0 in
    let x = c.split_addr-split in
    let g = accepted_by q old v.new a z x.new.hw z x.new.mux x.result (x.ensures v.self.layout.entries.now) c.in-Some.s c.in-Some.is in
    let t = split_addr q old v.new a in
    let f = can_fits q old v.new (length a) g.can in
    let h = take_stored z x.new.hw t.addr _ g.splits.hw_is (g.splits.hw_len) (omega (arith, g.splits.hw_len, addr_low q old v.new a f)) in
    let m = take_stored z x.new.mux t.mux_addr _ g.splits.mux_is (g.splits.mux_len) (omega (arith, g.splits.mux_len, mux_low q old v.new a f)) in
    let e : old ≡ wide_log2 v.width (length (write_of v.write).bits) = c.wide_log-old.ensures.0 ∙ ap (λ (l : List ℕ). wide_log2 v.width (length l)) c.bits-bits.ensures.0 in
    rw (e, c.addr-addr.ensures, c.bits-bits.ensures.0, c.mask.ensures) at (port_gave q v.self.mems old v.new a c.bits-bits.result.now c.mask.result.now v.at v.to.now (lent_of v.log.now) _ _ _ _ _ g.can (wide_by q v.self.mems old v.new a z x.new.hw z x.new.mux c.in-Some.s _ g.splits c.of.ensures) (c.part.ensures.part ∙ h) (c.part-2.ensures.part ∙ m) c.place.ensures)
