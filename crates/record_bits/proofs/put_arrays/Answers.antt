-- `record_bits::put_arrays` meets its contract.
use Rattle.rules.specs.Numbers.{ceil_div}
use Rattle.rules.specs.Record.{byte_of, array_bytes, known_bit, value_bit}
use Rattle.record_bits.proofs.Packs.{stored, stored_start, stored_turn, stored_end, eight_bits}
use Rattle.lists.proofs.Store.{sets_out}
use mathlib.Core.Path.{◌≡◌, refl, sym, ap, ◌∙◌}
use Prim.Native.Nat.{ℕ, ◌+◌, ◌*◌, ◌/◌, ◌%◌, min}
use native.Mathlib.Omega.{arith}
use mathlib.Core.List.{List, map}
use lib.ListN.{length, set}
use Rattle.record_bits.proofs.put_arrays.Invariants.{whole}
use Rattle.record_bits.proofs.put_arrays.Goals as goal

bytes_are : (n : ℕ) → n / 8 + min 1 (n % 8) ≡ array_bytes n
unfolding array_bytes ceil_div
bytes_are n = omega arith

pub returns-then-out-at : goal.returns-then-out-at
returns-then-out-at c =
    let a = c.args in
    sym (sets_out (whole a.ts.now) a.out.now a.at c.if-out-at.true)

pub loop-j-init : goal.loop-j-init
loop-j-init c =
    let a = c.args in
    let bs = map known_bit a.ts.now in
    let cs = map value_bit a.ts.now in
    (refl, ap (λ (n : ℕ). stored a.out.now bs cs a.at n 0) (c.div_ceil-n.ensures ∙ bytes_are (length a.ts.now)) ∙ stored_start a.out.now bs cs a.at (array_bytes (length a.ts.now)))

pub loop-j-preserved : goal.loop-j-preserved
loop-j-preserved c =
    let q = c in
    let p = q in
    let g = p in
    let l = g.loop-j in
    let a = g.args in
    let ts = a.ts.now in
    let n = g.div_ceil-n.result in
    let e : q.put-in-loop-j.new.to ≡ set (set l.out (a.at + l.j) g.pack-group.result.known) (a.at + n + l.j) g.pack-group.result.value =
    q.put-in-loop-j.ensures ∙ ap (λ (m : List ℕ). set m (a.at + n + l.j) g.pack-group.result.value) p.put.ensures in (
      q.put-in-loop-j.auto.to ∙ p.put.auto.to ∙ l.invariant.0,
      ap (λ (m : List ℕ). stored m (map known_bit ts) (map value_bit ts) a.at n (l.j + 1)) e
          ∙ stored_turn l.out (map known_bit ts) (map value_bit ts) a.at n l.j g.pack-group.result.known g.pack-group.result.value (omega arith)
          (g.pack-group.ensures.0 ∙ ap byte_of (eight_bits known_bit (8 * l.j) ts)) (g.pack-group.ensures.1 ∙ ap byte_of (eight_bits value_bit (8 * l.j) ts))
          ∙ l.invariant.1,
    )

pub shape_of-out : goal.shape_of-out
shape_of-out c = c.loop-j.invariant.0

pub returns : goal.returns
returns c =
    let l = c.loop-j in
    let a = c.args in
    sym (stored_end l.out (map known_bit a.ts.now) (map value_bit a.ts.now) a.at _ l.j c.loop-j-test.false) ∙ l.invariant.1
