-- `port_relations::input_refusal` meets its contract.
use mathlib.Core.Path.{refl, sym, ◌∙◌}
use mathlib.Core.Bool.{not}
use lib.ListN.{take}
use Rattle.std.specs.List.{range_with_len}
use Rattle.std.proofs.lemmas.Result.{err_from_is_err_and}
use Rattle.lists.specs.Lists.{any}
use Rattle.lists.proofs.Choice.{hit, miss}
use Rattle.net_memory.specs.declared.MemoryReadPort.{MemoryReadPort}
use Rattle.net_memory.specs.Given.{clocked}
use Rattle.net_memory.proofs.Sized.{writes_length}
use Rattle.port_relations.specs.Clocked.{clocks_differ_of, mixed_ports}
use Rattle.port_relations.proofs.Clocks.{clocks_are, mixed_are, open_are, num_err, num_12, num_13, num_last}
use Rattle.port_relations.proofs.input_refusal.Goals as goal

pub returns-in_err-call_refusal : goal.returns-in_err-call_refusal
returns-in_err-call_refusal c =
    let v = c.args in
    let e = err_from_is_err_and c.from_residual.result c.from_residual.ensures.1 in
    rw (e.1, e.2) (num_err v.next v.given.memory v.given.nets.now v.given.trits.now _ c.in_err-call_refusal.ensures)

pub returns-then-clocks_differ : goal.returns-then-clocks_differ
returns-then-clocks_differ c =
    let v = c.args in
    num_12 v.next v.given.memory v.given.nets.now v.given.trits.now (sym c.in_ok-call_refusal.ensures) (sym (c.clocks_differ.ensures ∙ (λ i. clocks_differ_of (take (c.ports_used.ensures.0 i) v.given.memory.read_ports)) ∙ clocks_are v.given.memory v.given.nets.now v.given.trits.now) ∙ c.if-clocks_differ.true)

pub returns-then-any_mixed : goal.returns-then-any_mixed
returns-then-any_mixed c =
    let v = c.args in
    num_13 v.next v.given.memory v.given.nets.now v.given.trits.now (sym c.in_ok-call_refusal.ensures) (sym (c.clocks_differ.ensures ∙ (λ i. clocks_differ_of (take (c.ports_used.ensures.0 i) v.given.memory.read_ports)) ∙ clocks_are v.given.memory v.given.nets.now v.given.trits.now) ∙ c.if-clocks_differ.false) (sym (c.any_mixed.ensures ∙ (λ i. any (mixed_ports (take (c.ports_used.ensures.0 i) v.given.memory.read_ports)) (range_with_len 0 (c.ports_used-2.ensures.0 i))) ∙ mixed_are v.given.memory v.given.nets.now v.given.trits.now (writes_length v.given.memory _ c.well_formed.0.1.1.0 v.given.nets.now)) ∙ c.if-any_mixed.true)

pub returns-then-any_unclocked : goal.returns-then-any_unclocked
returns-then-any_unclocked c =
    let v = c.args in
    num_last v.next v.given.memory v.given.nets.now v.given.trits.now (sym c.in_ok-call_refusal.ensures) 22 (sym (c.clocks_differ.ensures ∙ (λ i. clocks_differ_of (take (c.ports_used.ensures.0 i) v.given.memory.read_ports)) ∙ clocks_are v.given.memory v.given.nets.now v.given.trits.now) ∙ c.if-clocks_differ.false) (sym (c.any_mixed.ensures ∙ (λ i. any (mixed_ports (take (c.ports_used.ensures.0 i) v.given.memory.read_ports)) (range_with_len 0 (c.ports_used-2.ensures.0 i))) ∙ mixed_are v.given.memory v.given.nets.now v.given.trits.now (writes_length v.given.memory _ c.well_formed.0.1.1.0 v.given.nets.now)) ∙ c.if-any_mixed.false) (hit 22 0 (sym (c.any_unclocked.ensures ∙ (λ i. any (λ (p : MemoryReadPort). not (clocked p.flip_flop)) (take (c.ports_used.ensures.0 i) v.given.memory.read_ports)) ∙ open_are v.given.memory v.given.nets.now v.given.trits.now) ∙ c.if-any_unclocked.true))

pub returns : goal.returns
returns c =
    let v = c.args in
    num_last v.next v.given.memory v.given.nets.now v.given.trits.now (sym c.in_ok-call_refusal.ensures) 0 (sym (c.clocks_differ.ensures ∙ (λ i. clocks_differ_of (take (c.ports_used.ensures.0 i) v.given.memory.read_ports)) ∙ clocks_are v.given.memory v.given.nets.now v.given.trits.now) ∙ c.if-clocks_differ.false) (sym (c.any_mixed.ensures ∙ (λ i. any (mixed_ports (take (c.ports_used.ensures.0 i) v.given.memory.read_ports)) (range_with_len 0 (c.ports_used-2.ensures.0 i))) ∙ mixed_are v.given.memory v.given.nets.now v.given.trits.now (writes_length v.given.memory _ c.well_formed.0.1.1.0 v.given.nets.now)) ∙ c.if-any_mixed.false) (miss 22 0 0 (sym (c.any_unclocked.ensures ∙ (λ i. any (λ (p : MemoryReadPort). not (clocked p.flip_flop)) (take (c.ports_used.ensures.0 i) v.given.memory.read_ports)) ∙ open_are v.given.memory v.given.nets.now v.given.trits.now) ∙ c.if-any_unclocked.false) refl)
