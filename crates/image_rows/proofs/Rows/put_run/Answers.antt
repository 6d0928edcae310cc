-- `image_rows::Rows::put_run` meets its contract.
use Rattle.image_rows.proofs.Runs.{put_copy}
use Rattle.image_rows.proofs.Rows.put_run.Goals as goal

pub returns-then-to-trits : goal.returns-then-to-trits
returns-then-to-trits c =
    let a = c.args in
    let r = c.requires.run_of in
    put_copy a.trits.now a.self.layout.entries.now a.at a.from a.to a.self.plain a.image.now _ c.args.self.ready.plain_are c.if-to-self.true r.forward r.within r.short c.if-to-trits.true c.copy.ensures
