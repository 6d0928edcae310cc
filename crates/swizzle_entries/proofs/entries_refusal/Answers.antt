-- `swizzle_entries::entries_refusal` meets its contract.
use mathlib.Core.Path.{sym, ◌∙◌}
use Rattle.swizzle_entries.proofs.Entries.{by_five, by_six, by_room, by_none}
use Rattle.swizzle_entries.proofs.entries_refusal.Goals as goal

pub returns-then-granularities_bad : goal.returns-then-granularities_bad
returns-then-granularities_bad c =
    let v = c.args in
    by_five v.given.memory v.given.nets.now v.given.trits.now v.gs.now v.room c.in_ok-memory_refusal.ensures (sym c.granularities_bad.ensures ∙ c.if-granularities_bad.true)

pub returns-then-count-gt-MAX_ROW : goal.returns-then-count-gt-MAX_ROW
returns-then-count-gt-MAX_ROW c =
    let v = c.args in
    by_six v.given.memory v.given.nets.now v.given.trits.now v.gs.now v.room c.in_ok-memory_refusal.ensures (sym c.granularities_bad.ensures ∙ c.if-granularities_bad.false) _ c.put_entries-count.ensures.value c.if-count-gt-MAX_ROW.true

pub returns-then-room-count : goal.returns-then-room-count
returns-then-room-count c =
    let v = c.args in
    by_room v.given.memory v.given.nets.now v.given.trits.now v.gs.now v.room c.in_ok-memory_refusal.ensures (sym c.granularities_bad.ensures ∙ c.if-granularities_bad.false) _ c.put_entries-count.ensures.value c.if-count-gt-MAX_ROW.false c.if-room-count.true

pub returns : goal.returns
returns c =
    let v = c.args in
    by_none v.given.memory v.given.nets.now v.given.trits.now v.gs.now v.room c.in_ok-memory_refusal.ensures (sym c.granularities_bad.ensures ∙ c.if-granularities_bad.false) _ c.put_entries-count.ensures.value c.if-count-gt-MAX_ROW.false c.if-room-count.false
