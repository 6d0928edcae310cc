-- `image_geometry::Params::chunk_mux_bits` meets its contract.
use Prim.Native.Nat.{ℕ, ◌+◌, ◌-◌, ◌^◌, ◌≤◌, ◌<◌}
use mathlib.Core.Logic.{inl, inr}
use mathlib.Core.Path.{◌≡◌, sym, ap, ◌∙◌, subst}
use Rattle.lists.proofs.Powers.{two_to_is}
use Rattle.rules.specs.Limits.{addr_bits}
use Rattle.rules.specs.Numbers.{ceil_div, top_bits}
use Rattle.image_geometry.proofs.Bits.{ceil_is}
use Rattle.image_geometry.proofs.Fields.{depth_word}
use Rattle.image_geometry.proofs.Sizing.{soft_max, none_mux, mux_is}
use native.Mathlib.Omega.{arith}
use Rattle.image_geometry.proofs.Params.chunk_mux_bits.Goals as goal
use Rattle.image_geometry.proofs.Params.chunk_mux_bits.Goals.{then-self-eq0-via-then-self-eq0, then-self-eq0-via-else-self-eq0+then-self-gt-ADDR_BITS, then-self-eq0-via-else-self-eq0+else-self-gt-ADDR_BITS+then-soft-self-gt-ADDR_BITS}

pub overflow_add-soft : goal.overflow_add-soft
overflow_add-soft c =
    let small_soft : c.soft_bits-soft.result ≤ 32 = subst (λ (n : ℕ). n ≤ 32) (sym c.soft_bits-soft.ensures) (soft_max _) in
    omega (arith, small_soft, c.if-self-gt-ADDR_BITS.false)

pub returns-then-self-eq0 : goal.returns-then-self-eq0
returns-then-self-eq0 c =
    let word : c.args.self.depth < 4294967296 = depth_word c.args.self _ c.well_formed.0 in
    let none = none_mux c.args.self c.soft_bits-soft.result c.soft_bits-soft.ensures word in
    elim c.then-self-eq0.branch [
      | then-self-eq0-via-then-self-eq0 w ↦ none (inl w.if-self-eq0.true)
      | then-self-eq0-via-else-self-eq0+then-self-gt-ADDR_BITS w ↦ none (inr (omega (arith, w.if-self-gt-ADDR_BITS.true)))
      | then-self-eq0-via-else-self-eq0+else-self-gt-ADDR_BITS+then-soft-self-gt-ADDR_BITS w ↦ none (inr w.if-soft-self-gt-ADDR_BITS.true)
    ]

pub returns : goal.returns
returns c =
    let chunks_are : c.div_ceil-chunks.result ≡ ceil_div c.args.self.depth (2 ^ (c.soft_bits-soft.result + c.args.self.hard)) = c.div_ceil-chunks.ensures ∙ ceil_is _ _ c.two_to.ensures.positive ∙ (λ k. ceil_div (c.from.ensures k) (two_to_is _ _ c.if-soft-self-gt-ADDR_BITS.false c.two_to.ensures.value k)) in
    λ es. c.top_bits.ensures ∙ ap (λ (n : ℕ). top_bits addr_bits (n - 1)) chunks_are ∙ mux_is c.args.self es _ c.soft_bits-soft.ensures
