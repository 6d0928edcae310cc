-- `swizzle_entries::writes::Writes::changing` meets its contract.
use Rattle.std.proofs.Common.{◌≡◌, ◌+◌, ℕ, List, [], length, arith, sym, ap, ◌∙◌}
use mathlib.Core.Logic.{⊎_elim}
use Rattle.std.proofs.lemmas.List.Edits.{sets}
use Rattle.lists.specs.Lists.{part}
use Rattle.rules.specs.Cell.{Mem}
use Rattle.net_memory.specs.View.{write_size, write_by}
use Rattle.swizzle_entries.specs.Calls.{unchanged}
use Rattle.swizzle_entries.proofs.Changes.{left, left_none, left_over, turn_length, turn_store}
use Rattle.swizzle_entries.proofs.writes.Writes.changing.Goals as goal

pub loop-port-preserved : goal.loop-port-preserved
loop-port-preserved c =
    let b = c.args.bit in
    let nets = c.args.self.nets.now in
    let l = c.loop-port in
    let p = c.in-Some.port.now in
    let g = c.in-Some.granularity.now in
    let s = c.in-Some.ensures.steps in
    let z = c.write_size-size.ensures.0 in
    let a : l.at + c.write_size-size.result ≡ l.at + write_size p = ap (λ (k : ℕ). l.at + k) z in
    let x : c.part-nets.result.now ≡ part l.at (write_size p) nets = c.part-nets.ensures.part ∙ ap (λ (k : ℕ). part l.at k nets) z in
    let u : (m : Mem) → m.width ≡ c.args.self.width → c.port_same-same.result ≡ unchanged m b (write_by p (part l.at (write_size p) nets) []) = λ m w. c.port_same-same.ensures m w ∙ ap (λ (n : List ℕ). unchanged m b (write_by p n [])) x in
    let ps = l.port-iterator.a.rest.now in
    let ps' = c.next.new.self.a.rest.now in
    let gs = l.port-iterator.b.rest.now in
    let gs' = c.next.new.self.b.rest.now in
    record {
      most = omega (arith, ap length s.0, l.invariant.most);
      few = omega (arith, ap length s.0, l.invariant.few);
      count = λ m w. turn_length m b nets p ps ps' l.at (l.at + c.write_size-size.result) g gs gs' l.found _ _ s.0 s.1 a (u m w) c.keep-found.ensures.value.0 _ (l.invariant.count m w);
      stored = λ m w. turn_store m b nets p ps ps' l.at (l.at + c.write_size-size.result) g gs gs' l.found _ _ s.0 s.1 a (u m w) c.keep-found.ensures.value.0 _ _ _ c.keep-found.ensures.out_after (l.invariant.stored m w);
    }

pub returns : goal.returns
returns c =
    let b = c.args.bit in
    let nets = c.args.self.nets.now in
    let l = c.loop-port in
    let ps = l.port-iterator.a.rest.now in
    let gs = l.port-iterator.b.rest.now in
    let e : (m : Mem) → left m b nets ps l.at gs ≡ [] = λ m. ⊎_elim (λ h. left_none m b nets ps l.at gs h.1.0) (λ h. left_over m b nets ps l.at gs h.1.0) c.in-None.ensures.steps in
    record { value = λ m w. omega (arith, l.invariant.count m w, ap length (e m)); out_after = λ m w. sym (ap (sets l.out l.found) (e m)) ∙ l.invariant.stored m w }
