-- `record_codec::value_array` meets its contract.
use Rattle.rules.specs.Record.{array_bytes, size_trits, head_sizes}
use Rattle.lists.proofs.Parts.{drop_most}
use lib.Seq.{take_all}
use mathlib.Core.Path.{ap, ◌∙◌}
use Prim.Native.Nat.{ℕ, ◌+◌, ◌-◌, min}
use native.Mathlib.Omega.{arith}
use lib.ListN.{length, drop, length-drop}
use Rattle.record_codec.proofs.value_array.Goals as goal

pub returns : goal.returns
returns c =
    let s = c.min-start in
    let b = c.args.bytes.now in
    let n = array_bytes (size_trits (head_sizes b)) in
    take_all (length b - s.result) (drop s.result b) (omega (arith, length-drop s.result b))
    ∙ ap (λ (k : ℕ). drop k b) (s.ensures ∙ ap (λ (k : ℕ). min k (length b)) c.middle_of.ensures.0) ∙ drop_most (12 + n) b
