-- `port_extract::Extraction::put_parts` meets its contract.
use mathlib.Core.Path.{refl, ap, ◌∙◌}
use Prim.Native.Nat.{ℕ, ◌+◌, ◌<◌}
use native.Mathlib.Omega.{arith}
use mathlib.Core.List.{List}
use lib.ListN.{length, take, get_or, length-append}
use lib.Seq.{sets, take_all}
use Rattle.lists.specs.Lists.{concat_map}
use Rattle.lists.proofs.Concat.{concat_more, concat_stored}
use Rattle.port_extract.proofs.Extraction.put_parts.Goals as goal

pub loop-k-init : goal.loop-k-init
loop-k-init g c = (omega arith, λ f e. omega arith, λ f e. refl)

pub overflow_add-at : goal.overflow_add-at
overflow_add-at g c = omega (arith, c.loop-k.invariant.0, c.requires.low, c.args.self.few, c.loop-k-test.true, c.requires.small _ _ c.part-bits.ensures)

pub loop-k-preserved : goal.loop-k-preserved
loop-k-preserved g c =
    let h = c.loop-k in
    let v = c.args in
    let l : List ℕ = v.self.list.now in
    let i : h.k-index < length l = c.loop-k-test.true in (
      omega (arith, h.invariant.0, c.requires.small _ _ c.part-bits.ensures),
      λ f e. omega (arith, ap length (concat_more f l h.k-index 0 i), length-append (concat_map f (take h.k-index l)) (f (get_or l h.k-index 0)), ap length (e _ _ c.part-bits.ensures), h.invariant.1 f e),
      λ f e. c.copy.ensures ∙ (λ k. sets (h.invariant.2 f e k) h.at (e _ _ c.part-bits.ensures k)) ∙ concat_stored f v.room.now v.start h.at l h.k-index 0 i (h.invariant.1 f e),
    )

pub returns-clause-value : goal.returns-clause-value
returns-clause-value g c =
    let h = c.loop-k in
    λ f e. h.invariant.1 f e ∙ ap (λ (l : List ℕ). c.args.start + length (concat_map f l)) (take_all h.k-index c.args.self.list.now (omega arith))

pub returns-clause-room_after : goal.returns-clause-room_after
returns-clause-room_after g c =
    let h = c.loop-k in
    λ f e. h.invariant.2 f e ∙ ap (λ (l : List ℕ). sets c.args.room.now c.args.start (concat_map f l)) (take_all h.k-index c.args.self.list.now (omega arith))
