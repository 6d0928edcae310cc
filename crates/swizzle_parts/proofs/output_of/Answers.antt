-- `swizzle_parts::output_of` meets its contract.
use Rattle.std.proofs.Common.{List, ℕ, get_or, ◌≤◌, ◌<◌, ap, sym, subst, ◌∙◌}
use Rattle.swizzle_result.specs.View.{own}
use Rattle.swizzle_result.specs.declared.WideMemory.{WideMemory}
use Rattle.swizzle_parts.specs.Parts.{read_port}
use Rattle.swizzle_parts.proofs.Sized.{read_ports_8}
use Rattle.swizzle_parts.proofs.Found.{read_known}
use Rattle.swizzle_parts.proofs.Outs.{net_past, slice_is, no_slice}
use Rattle.swizzle_parts.proofs.output_of.Goals as goal

pub returns-in_default : goal.returns-in_default
returns-in_default c =
    let v = c.args in
    λ nets trits image. sym (ap (λ (l : List ℕ). get_or l v.bit 0) (no_slice v.g v.n v.i nets trits image c.in_default.ensures))

pub returns-then-own-bit : goal.returns-then-own-bit
returns-then-own-bit c =
    let v = c.args in
    let l : own v.g (read_port v.g v.i).wide ≤ v.bit = subst (λ (x : ℕ). x ≤ v.bit) (c.own.ensures.0 ∙ ap (λ (g : WideMemory). own g (read_port v.g v.i).wide) c.in-Some.ensures.1) c.if-own-bit.true in
    λ nets trits image. net_past v.g v.n (read_port v.g v.i) v.bit l ∙ sym (ap (λ (l : List ℕ). get_or l v.bit 0) (slice_is v.g v.n v.i nets trits image c.in-Some.ensures.0 (read_ports_8 v.g _ c.well_formed.0)))

pub net_of-requires : goal.net_of-requires
net_of-requires c =
    let v = c.args in
    let k = read_known v.g v.n v.i c.in-Some.ensures.0 in
    let s = k.0.small.reads_small v.i k.1 in
    (k.0, s.0, s.1, subst (λ (x : ℕ). v.bit < x) (c.own.ensures.0 ∙ ap (λ (g : WideMemory). own g (read_port v.g v.i).wide) c.in-Some.ensures.1) c.if-own-bit.false)

pub returns : goal.returns
returns c =
    let v = c.args in
    λ nets trits image. c.net_of.ensures ∙ sym (ap (λ (l : List ℕ). get_or l v.bit 0) (slice_is v.g v.n v.i nets trits image c.in-Some.ensures.0 (read_ports_8 v.g _ c.well_formed.0)))
