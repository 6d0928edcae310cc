-- `swizzle_counts::refusal::needs_refusal` meets its contract.
use Rattle.log_entries.specs.View.{state_of}
use Rattle.swizzle_counts.specs.Refusal.{rooms_of}
use Rattle.swizzle_counts.proofs.Refusing.{need_image, need_nets, need_trits, need_scratch, need_log}
use Rattle.swizzle_counts.proofs.refusal.needs_refusal.Goals.{then-r-image-via-then-r-image, then-r-image-via-else-r-image+then-r-n, then-r-image-via-else-r-image+else-r-n+then-r-n-2, then-r-image-via-else-r-image+else-r-n+else-r-n-2+then-r-n-3}
use Rattle.swizzle_counts.proofs.refusal.needs_refusal.Goals as goal

pub returns-then-r-image : goal.returns-then-r-image
returns-then-r-image c =
    let v = c.args in
    elim c.then-r-image.branch [
      | then-r-image-via-then-r-image w ↦ need_image (rooms_of v.r) v.r.log (state_of v.r.state) v.n v.image w.if-r-image.true
      | then-r-image-via-else-r-image+then-r-n w ↦ need_nets (rooms_of v.r) v.r.log (state_of v.r.state) v.n v.image w.if-r-image.false w.if-r-n.true
      | then-r-image-via-else-r-image+else-r-n+then-r-n-2 w ↦ need_trits (rooms_of v.r) v.r.log (state_of v.r.state) v.n v.image w.if-r-image.false w.if-r-n.false w.if-r-n-2.true
      | then-r-image-via-else-r-image+else-r-n+else-r-n-2+then-r-n-3 w ↦ need_scratch (rooms_of v.r) v.r.log (state_of v.r.state) v.n v.image w.if-r-image.false w.if-r-n.false w.if-r-n-2.false w.if-r-n-3.true
    ]

pub returns : goal.returns
returns c =
    let v = c.args in
    need_log (rooms_of v.r) v.r.log (state_of v.r.state) v.n v.image c.if-r-image.false c.if-r-n.false c.if-r-n-2.false c.if-r-n-3.false _ c.room_refusal.ensures
