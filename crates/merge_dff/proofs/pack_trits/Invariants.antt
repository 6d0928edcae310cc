-- The invariants of `merge_dff::pack_trits`.
use mathlib.Core.Path.{◌≡◌}
use lib.ListN.{length, take}
use lib.Seq.{sets}
use Rattle.merge_dff.specs.Packs.{packs}
use Rattle.merge_dff.proofs.pack_trits.Given as goal

abbrev pub invariant-loop-i : goal.invariant-loop-i
invariant-loop-i l =
    let t = l.i-iterator.iter in
    let left = packs t.a.rest.now t.b.a.rest.now t.b.b.rest.now in
    (length l.to ≡ length l.initial.to) × (sets l.to l.i-iterator.count left ≡ sets l.initial.to 0 (packs (take l.n l.reset) (take l.n l.clear) (take l.n l.init)))
