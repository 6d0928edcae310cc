-- `swizzle_split::Splitter::split` meets its contract.
use Rattle.std.proofs.Common.{[], arith, refl, sym, subst}
use Rattle.lists.proofs.Powers.{two_to_is}
use Rattle.image_geometry.specs.View.{layout_by}
use Rattle.swizzle_split.specs.declared.Taking.{Taking}
use Rattle.swizzle_split.specs.Steps.{Starts, Took}
use Rattle.swizzle_split.proofs.Splitting.{starts_is, pieces_fit_lem, split_is, doubled_max}
use Rattle.swizzle_split.proofs.Splitter.split.Goals as goal

pub start-requires : goal.start-requires
start-requires c =
    let f = c.requires [] in
    (omega (arith, f.old_max), f.enough, f.new_hard)

pub take_all-t-requires : goal.take_all-t-requires
take_all-t-requires c =
    let v = c.args in
    subst (λ (x : Taking). Starts x v.addr.now) (sym c.start.ensures) (starts_is v.self.p.soft_mask v.self.p.hard v.self.old v.self.new v.addr.now (c.requires []).short)

pub all_chunks-requires : goal.all_chunks-requires
all_chunks-requires c = (c.requires []).hard_max

pub overflow_cast-pieces : goal.overflow_cast-pieces
overflow_cast-pieces c =
    let v = c.args in
    let q = layout_by v.self.p [] in
    let f = c.requires [] in
    let t = c.take_all-t in
    let w = subst (λ (x : Taking). Took x t.result v.addr.now v.hw.now t.new.hw v.mux.now t.new.mux) c.start.ensures t.ensures in
    let p = two_to_is t.result.doubled c.two_to.result (omega (arith, w.doubled_is, doubled_max q v.self.old v.self.new v.addr.now f)) c.two_to.ensures.value in
    omega (arith, pieces_fit_lem q v.self.old v.self.new v.addr.now f t.result v.hw.now t.new.hw t.new.hw v.mux.now t.new.mux t.new.mux w c.all_chunks.result c.two_to.result _ (c.all_chunks.ensures.value []) p refl)

pub overflow_sub-self : goal.overflow_sub-self
overflow_sub-self c = (c.requires []).new_hard

pub returns : goal.returns
returns c =
    λ es.
    let v = c.args in
    let q = layout_by v.self.p es in
    let f = c.requires es in
    let t = c.take_all-t in
    let w = subst (λ (x : Taking). Took x t.result v.addr.now v.hw.now t.new.hw v.mux.now t.new.mux) c.start.ensures t.ensures in
    let p = two_to_is t.result.doubled c.two_to.result (omega (arith, w.doubled_is, doubled_max q v.self.old v.self.new v.addr.now f)) c.two_to.ensures.value in
    let a = c.pad-hw_len in
    let b = c.pad-mux_len in
    split_is q v.self.old v.self.new v.addr.now f t.result v.hw.now t.new.hw a.new.to v.mux.now t.new.mux b.new.to w c.all_chunks.result c.two_to.result _ (c.all_chunks.ensures.value es) p refl c.bits_for-useful.result a.result b.result _ c.bits_for-useful.ensures a.ensures.value a.ensures.to_after b.ensures.value b.ensures.to_after refl
