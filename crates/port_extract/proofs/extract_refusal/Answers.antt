-- `port_extract::extract_refusal` meets its contract.
use mathlib.Core.Path.{sym, ap, ◌∙◌}
use mathlib.Core.Bool.{Bool}
use Rattle.rules.specs.Limits.{max_nets}
use Rattle.net_memory.proofs.Sized.{reads_length}
use Rattle.port_extract.proofs.Refused.{ready, by_port, by_room, by_none, long_by}
use Rattle.rules.specs.Refusals.{driving_number}
use Rattle.net_memory.specs.Given.{given_of}
use Rattle.port_extract.proofs.extract_refusal.Goals as goal

pub returns-then-port_missing : goal.returns-then-port_missing
returns-then-port_missing c =
    let v = c.args in
    by_port v.given.memory v.given.nets.now v.given.trits.now v.list.now v.output.now (record { nets = v.a; trits = v.b; output = v.c }) (sym (c.in_ok-driving_refusal.ensures ∙ ap (λ (t : Bool). driving_number t max_nets (given_of v.given.memory v.given.nets.now v.given.trits.now) v.output.now) (long_by v.list.now))) (sym (c.port_missing.ensures v.given.nets.now v.given.trits.now) ∙ c.if-port_missing.true)

pub rooms_bad-requires : goal.rooms_bad-requires
rooms_bad-requires c =
    let y = c in
    let v = y.args in
    ready v.given.memory v.given.nets.now v.given.trits.now v.list.now v.output.now (reads_length v.given.memory _ y.well_formed.0.1.1.0 v.given.nets.now v.given.trits.now) (sym (c.in_ok-driving_refusal.ensures ∙ ap (λ (t : Bool). driving_number t max_nets (given_of v.given.memory v.given.nets.now v.given.trits.now) v.output.now) (long_by v.list.now))) (sym (c.port_missing.ensures v.given.nets.now v.given.trits.now) ∙ c.if-port_missing.false)

pub invariant_of-extraction : goal.invariant_of-extraction
invariant_of-extraction c =
    let y = c in
    let v = y.args in
    record { few = (ready v.given.memory v.given.nets.now v.given.trits.now v.list.now v.output.now (reads_length v.given.memory _ y.well_formed.0.1.1.0 v.given.nets.now v.given.trits.now) (sym (c.in_ok-driving_refusal.ensures ∙ ap (λ (t : Bool). driving_number t max_nets (given_of v.given.memory v.given.nets.now v.given.trits.now) v.output.now) (long_by v.list.now))) (sym (c.port_missing.ensures v.given.nets.now v.given.trits.now) ∙ c.if-port_missing.false)).listed.few }

pub returns-then-rooms_bad : goal.returns-then-rooms_bad
returns-then-rooms_bad c =
    let v = c.args in
    by_room v.given.memory v.given.nets.now v.given.trits.now v.list.now v.output.now (record { nets = v.a; trits = v.b; output = v.c }) (sym (c.in_ok-driving_refusal.ensures ∙ ap (λ (t : Bool). driving_number t max_nets (given_of v.given.memory v.given.nets.now v.given.trits.now) v.output.now) (long_by v.list.now))) (sym (c.port_missing.ensures v.given.nets.now v.given.trits.now) ∙ c.if-port_missing.false) (sym c.rooms_bad.ensures ∙ c.if-rooms_bad.true)

pub returns : goal.returns
returns c =
    let v = c.args in
    by_none v.given.memory v.given.nets.now v.given.trits.now v.list.now v.output.now (record { nets = v.a; trits = v.b; output = v.c }) (sym (c.in_ok-driving_refusal.ensures ∙ ap (λ (t : Bool). driving_number t max_nets (given_of v.given.memory v.given.nets.now v.given.trits.now) v.output.now) (long_by v.list.now))) (sym (c.port_missing.ensures v.given.nets.now v.given.trits.now) ∙ c.if-port_missing.false) (sym c.rooms_bad.ensures ∙ c.if-rooms_bad.false)
