-- `record_listing::put_head` meets its contract.
use Rattle.rules.specs.Lister.{head_line, memories_text, trits_text}
use Rattle.record_sizes.specs.View.{view_sizes}
use Rattle.record_listing.proofs.Puts.{added_then, added_as, head_text}
use native.Mathlib.Omega.{arith}
use Rattle.record_listing.proofs.put_head.Goals as goal

pub returns : goal.returns
unfolding memories_text trits_text
returns c =
    let a = c.put.ensures (omega (arith, c.requires.2)) in
    let b = c.put_number.ensures (omega (arith, c.requires.2, a.put.place)) in
    let t = c.put-2.ensures (omega (arith, c.requires.2, a.put.place, b.1)) in
    let d = c.put_number-2.ensures (omega (arith, c.requires.2, a.put.place, b.1, t.put.place)) in
    let e = c.put-3.ensures (omega (arith, c.requires.2, a.put.place, b.1, t.put.place, d.1)) in
    let p = added_then (added_then (added_then (added_then a b.0) t) d.0) e in (
      added_as (head_line (view_sizes c.args.s)) (head_text (view_sizes c.args.s) c.args.memories c.args.trits c.requires.0 c.requires.1) p,
      omega (arith, e.put.place, d.1, t.put.place, b.1, a.put.place),
    )
