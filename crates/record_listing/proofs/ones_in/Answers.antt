-- `record_listing::ones_in` meets its contract.
use Rattle.lists.specs.Lists.{sum_by, part}
use Rattle.rules.specs.Record.{bits_of}
use Rattle.record_listing.proofs.Memories.{ones_turn, ones_end}
use mathlib.Core.Path.{◌≡◌}
use Prim.Native.Nat.{ℕ, ◌+◌, ◌-◌}
use native.Mathlib.Omega.{arith}
use native.Mathlib.Nat.{zero-add}
use Rattle.record_listing.proofs.ones_in.Goals as goal

pub loop-j-init : goal.loop-j-init
loop-j-init c =
    let a = c.args in
    let y : a.from + a.count - a.from ≡ a.count = omega arith in
    (omega arith, omega arith, rw (y, zero-add (sum_by (λ (b : ℕ). b) (part a.from a.count (bits_of a.array.now)))))

pub overflow_add-sum : goal.overflow_add-sum
overflow_add-sum c = omega (arith, c.bit_at.type_inv)

pub loop-j-preserved : goal.loop-j-preserved
loop-j-preserved c =
    let l = c.loop-j in
    let a = c.args in
    let t = ones_turn a.array.now (a.from + a.count) l.j (omega arith) c.requires.0 c.bit_at.result c.bit_at.ensures in
    (omega arith, omega (arith, c.bit_at.type_inv), omega (arith, t))

pub returns : goal.returns
returns c =
    let l = c.loop-j in
    let a = c.args in
    omega (arith, ones_end a.array.now (a.from + a.count) l.j (omega arith))
