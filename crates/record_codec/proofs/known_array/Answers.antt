-- `record_codec::known_array` meets its contract.
use Rattle.rules.specs.Record.{array_bytes, size_trits, head_sizes}
use Rattle.lists.proofs.Parts.{part-between}
use mathlib.Core.Path.{◌≡◌, ap, ◌∙◌}
use Prim.Native.Nat.{ℕ, ◌+◌, ◌-◌, min}
use native.Mathlib.Omega.{arith}
use lib.ListN.{length, drop, length-take}
use Rattle.record_codec.proofs.known_array.Goals as goal

pub returns : goal.returns
returns c =
    let s = c.min-start in
    let e = c.min-end in
    let b = c.args.bytes.now in
    let n = array_bytes (size_trits (head_sizes b)) in
    let p : e.result ≡ min (12 + n) (length b) = e.ensures ∙ ap (λ (k : ℕ). min k (length b)) c.middle_of.ensures.0 in
    (part-between 12 n s.result e.result b p s.ensures, omega (arith, length-take (e.result - s.result) (drop s.result b), e.ensures, c.middle_of.ensures.1))
