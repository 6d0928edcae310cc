-- `record_codec::middle_of` meets its contract.
use Rattle.rules.specs.Record.{array_bytes}
use Rattle.record_codec.proofs.Heads.{array_bytes_lem}
use mathlib.Core.Path.{ap, ◌∙◌}
use Prim.Native.Nat.{ℕ, ◌+◌}
use native.Mathlib.Omega.{arith}
use Rattle.record_codec.proofs.middle_of.Goals as goal

pub returns : goal.returns
returns c =
    let h = c.head_trits in
    (ap (λ (n : ℕ). 12 + n) (c.div_ceil.ensures ∙ array_bytes_lem h.result ∙ ap array_bytes h.ensures.0), omega (arith, c.div_ceil.ensures, h.ensures.1))
