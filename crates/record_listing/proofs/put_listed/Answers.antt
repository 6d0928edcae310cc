-- `record_listing::put_listed` meets its contract.
use Rattle.rules.specs.Record.{size_trits}
use Rattle.rules.specs.Lister.{listed, head_line}
use Rattle.record_listing.proofs.Puts.{added_then, added_as}
use Rattle.record_listing.proofs.Memories.{few}
use mathlib.Core.Path.{sym, ap, ◌∙◌}
use native.Mathlib.Omega.{arith}
use borrow.Author.Rules.{rules}
use Rattle.record_listing.proofs.put_listed.Goals as goal

pub put_head-requires : goal.put_head-requires
put_head-requires c =
    (c.memories-count.ensures, c.head_trits.ensures.0 ∙ ap size_trits (sym c.head_sizes-s.ensures.0), omega arith)

pub put_memories-requires : goal.put_memories-requires
put_memories-requires c =
    (record { good = c.requires; sizes = c.head_sizes-s.ensures.0 }, c.memories-count.ensures, omega (arith, c.put_head.ensures.1))

pub returns : goal.returns
unfolding listed
returns c =
    let p = added_then (added_as _ (ap head_line c.head_sizes-s.ensures.0) c.put_head.ensures.0) c.put_memories.ensures.0 in
    let s = p.put.stored in
    let n = p.name in (
      record { stored = search rules; place = p.put.place },
      omega (arith, c.put_memories.ensures.1, c.put_head.ensures.1, c.memories-count.ensures, few c.args.bytes.now c.head_sizes-s.result (record { good = c.requires; sizes = c.head_sizes-s.ensures.0 })),
    )
