-- `port_extract::Extraction::rooms_bad` meets its contract.
use Rattle.port_extract.proofs.Refused.{nets_short, trits_short, output_short}
use Rattle.port_extract.proofs.Extraction.rooms_bad.Goals as goal

pub returns-then-a-put_nets : goal.returns-then-a-put_nets
returns-then-a-put_nets c =
    let y = c in
    let v = y.args in
    nets_short v.self.given.now.memory v.self.given.now.nets.now v.self.given.now.trits.now v.self.list.now v.self.output.now (record { nets = v.a; trits = v.b; output = v.c }) y.requires _ c.put_nets.ensures.value c.if-a-put_nets.true

pub returns-then-b-put_trits : goal.returns-then-b-put_trits
returns-then-b-put_trits c =
    let y = c in
    let v = y.args in
    trits_short v.self.given.now.memory v.self.given.now.nets.now v.self.given.now.trits.now v.self.list.now v.self.output.now (record { nets = v.a; trits = v.b; output = v.c }) y.requires _ _ c.put_nets.ensures.value c.if-a-put_nets.false c.put_trits.ensures.value c.if-b-put_trits.true

pub returns : goal.returns
returns c =
    let y = c in
    let v = y.args in
    output_short v.self.given.now.memory v.self.given.now.nets.now v.self.given.now.trits.now v.self.list.now v.self.output.now (record { nets = v.a; trits = v.b; output = v.c }) y.requires _ _ _ c.put_nets.ensures.value c.if-a-put_nets.false c.put_trits.ensures.value c.if-b-put_trits.false (c.put_outputs.ensures.by_index v.self.given.now.nets.now v.self.given.now.trits.now)
