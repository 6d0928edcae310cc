-- `swizzle_entries::put_entries` meets its contract.
use Rattle.std.proofs.Common.{◌≡◌, ◌≤◌, ◌+◌, ℕ, List, [], ◌∷◌, length, take, replicate, arith, sym, ap, ◌∙◌}
use native.Mathlib.Nat.{zero-add}
use lib.ListN.{set, length-replicate}
use Rattle.lists.proofs.Store.{sets_at}
use Rattle.std.proofs.lemmas.List.Edits.{sets}
use Rattle.rules.specs.Limits.{None}
use Rattle.rules.specs.Geometry.{padded, changing}
use Rattle.lists.specs.Views.{views}
use Rattle.net_memory.specs.View.{write_size, no_trits, write_by}
use Rattle.net_memory.specs.Given.{mem_of}
use Rattle.swizzle_entries.proofs.Entries.{width_is, start, turn_length, turn_store, last}
use Rattle.swizzle_entries.proofs.put_entries.Goals as goal

pub loop-bit-init : goal.loop-bit-init
loop-bit-init c =
    let v = c.args in
    record { most = omega arith; count = ap (λ (l : List ℕ). 0 + length l) (start v.given.now.memory v.given.now.nets.now v.given.now.trits.now v.gs.now) ∙ zero-add _; stored = ap (sets v.out.now 0) (start v.given.now.memory v.given.now.nets.now v.given.now.trits.now v.gs.now) }

pub loop-bit-preserved : goal.loop-bit-preserved
loop-bit-preserved c =
    let v = c.args in
    let l = c.loop-bit in
    let g = v.given.now in
    let e = c.bit_padding-count.ensures.value (mem_of g) (width_is g.memory g.nets.now g.trits.now v.gs.now) ∙ (λ i. padded (changing (mem_of g) l.bit (views write_size no_trits write_by (take (c.ports_used.ensures.0 i) g.memory.write_ports) g.nets.now []) v.gs.now) l.n) in
    let k = c.bit_padding-count.result in
    let r : l.n + (k + 1) ≡ l.n + k + 1 = omega arith in
    let o = c.put.ensures ∙ ap (λ (x : List ℕ). set x (l.n + k) l.bit) c.fill.ensures ∙ sets_at l.out l.n (l.n + k) (replicate k None) (l.bit ∷ []) (ap (λ (j : ℕ). l.n + j) (sym (length-replicate k None))) in
    record {
      most = omega arith;
      count = turn_length v.given.now.memory v.given.now.nets.now v.given.now.trits.now v.gs.now l.n l.bit k _ c.loop-bit-test.true e r _ l.invariant.count;
      stored = turn_store v.given.now.memory v.given.now.nets.now v.given.now.trits.now v.gs.now l.n l.bit k _ c.loop-bit-test.true e r _ _ _ o l.invariant.stored;
    }

pub returns : goal.returns
returns c =
    let v = c.args in
    let l = c.loop-bit in
    let d : v.given.now.memory.width ≤ l.bit = omega arith in
    let p = c.padding_of-last.ensures.0 in
    record { value = omega (arith, l.invariant.count, ap length (last v.given.now.memory v.given.now.nets.now v.given.now.trits.now v.gs.now l.n l.bit d), length-replicate {A = ℕ} (padded v.gs.now l.n) None, p); out_after = c.fill-2.ensures ∙ ap (λ (k : ℕ). sets l.out l.n (replicate k None)) p ∙ sym (ap (sets l.out l.n) (last v.given.now.memory v.given.now.nets.now v.given.now.trits.now v.gs.now l.n l.bit d)) ∙ l.invariant.stored }
