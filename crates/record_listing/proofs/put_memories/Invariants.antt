-- The invariants of `record_listing::put_memories`.
use Rattle.record_listing.proofs.Memories.{rest}
use Rattle.rules.specs.Lister.{size_start}
use Rattle.record_sizes.specs.View.{view_sizes}
use mathlib.Core.Path.{◌≡◌}
use Prim.Native.Nat.{◌+◌, ◌*◌, ◌≤◌}
use lib.ListN.{length}
use lib.Seq.{sets}
use Rattle.record_listing.proofs.put_memories.Given as goal

abbrev pub invariant-loop-i : goal.invariant-loop-i
invariant-loop-i l =
    let before = l.initial.text in
    let text = l.text in
    (text.out.ghost_name ≡ before.out.ghost_name) × (text.at ≤ before.at + 50 * l.i) × (l.from ≡ size_start (view_sizes l.s) l.i)
    × (sets text.out.now text.at (rest l.bytes l.count l.i) ≡ sets before.out.now before.at (rest l.bytes l.count 0))
    × (text.at + length (rest l.bytes l.count l.i) ≡ before.at + length (rest l.bytes l.count 0))
