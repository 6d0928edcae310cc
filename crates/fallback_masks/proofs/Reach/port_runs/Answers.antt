-- `fallback_masks::Reach::port_runs` meets its contract.
use mathlib.Core.Path.{◌≡◌, ap, ◌∙◌}
use Prim.Native.Nat.{ℕ, ◌^◌, min}
use native.Mathlib.Omega.{arith}
use mathlib.Core.List.{List}
use lib.ListN.{length}
use Rattle.rules.specs.Cell.{wide_log2}
use Rattle.net_memory.specs.Ports.{write_of}
use Rattle.fallback_masks.specs.Sizes.{mask_runs}
use Rattle.fallback_masks.proofs.Numbers.{port_is}
use Rattle.fallback_masks.proofs.Reach.port_runs.Goals as goal

pub returns : goal.returns
returns c =
    let v = c.args in
    let k = c.wide_log-k.result in
    let low : min k 32 ≡ k = omega (arith, c.wide_log-k.ensures.1) in
    let wide = c.two_to-wide.ensures.value ∙ ap (λ (n : ℕ). 2 ^ n) low in (
      port_is v.self.depth v.self.width v.self.rows _ k _ _ _ (write_of v.p) (c.wide_log-k.ensures.0 ∙ ap (λ (l : List ℕ). wide_log2 v.self.width (length l)) c.bits.ensures.0) (ap length c.addr.ensures)
          (c.mask_runs-runs.ensures.0 ∙ ap (mask_runs v.self.width) c.mask.ensures) (c.pieces.ensures.0 k wide) (c.spread_runs.ensures.0 k wide),
      c.spread_runs.ensures.1,
    )
