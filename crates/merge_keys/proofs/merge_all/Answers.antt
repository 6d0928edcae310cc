-- `merge_keys::merge_all` meets its contract.
use Rattle.std.proofs.Common.{◌≡◌, sym, arith, take}
use lib.Seq.{length-take-le, take_all}
use mathlib.Core.Logic.{⊎_elim, inl, inr}
use Rattle.merge_keys.proofs.Pairs.{key_inside, key_is, walk_on, all_seen}
use Rattle.merge_keys.proofs.Turn.{few, lengths, in_columns, standing, room_left, place_few, turn, place_then, bound_then}
use Rattle.merge_keys.specs.Columns.{keys_in}
use Rattle.merge_keys.proofs.merge_all.Goals as goal

pub slice_bounds-kept-end : goal.slice_bounds-kept-end
slice_bounds-kept-end c = (in_columns c.requires c.loop-i.invariant.merged).0

pub slice_bounds-kept-end-in-loop-i : goal.slice_bounds-kept-end-in-loop-i
slice_bounds-kept-end-in-loop-i c = sym (length-take-le _ _ (in_columns c.requires c.loop-i.invariant.merged).0)

pub slice_bounds-kept-end-in-loop-i-2 : goal.slice_bounds-kept-end-in-loop-i-2
slice_bounds-kept-end-in-loop-i-2 c = (in_columns c.requires c.loop-i.invariant.merged).1

pub slice_bounds-kept-end-in-loop-i-3 : goal.slice_bounds-kept-end-in-loop-i-3
slice_bounds-kept-end-in-loop-i-3 c = sym (length-take-le _ _ (in_columns c.requires c.loop-i.invariant.merged).1)

pub place_of-place-requires : goal.place_of-place-requires
place_of-place-requires c = rw (standing c.requires c.loop-i.invariant.merged) c.loop-i.invariant.knows

pub keep-count-requires : goal.keep-count-requires
keep-count-requires c =
    let n = c.loop-i.invariant in
    let s = c.in-Some.ensures.steps.0 in
    room_left c.requires n.merged (key_inside n.walk s.0 s.1)

pub overflow_cast-at : goal.overflow_cast-at
overflow_cast-at c =
    let n = c.loop-i.invariant in
    let s = c.in-Some.ensures.steps.0 in
    let i = key_inside n.walk s.0 s.1 in
    let k = key_is n.walk s.0 s.1 in
    let e = rw (standing c.requires n.merged) at c.place_of-place.ensures in
    omega (arith, place_few c.requires n.merged i k c.place_of-place.result e, few c.requires n.merged, i, c.requires.few)

pub bounds-at-i : goal.bounds-at-i
bounds-at-i c =
    let n = c.loop-i.invariant in
    let s = c.in-Some.ensures.steps in
    omega (arith, key_inside n.walk s.0.0 s.0.1, s.1, c.requires.in_at, (lengths c.requires n.merged).2)

pub loop-i-preserved : goal.loop-i-preserved
loop-i-preserved c =
    let n = c.loop-i.invariant in
    let s = c.in-Some.ensures.steps in
    let i = key_inside n.walk s.0.0 s.0.1 in
    let k = key_is n.walk s.0.0 s.0.1 in
    let e = rw (standing c.requires n.merged) at c.place_of-place.ensures in
    let q = c.keep-count.ensures in
    record {
      merged = rw (q.value, q.kx_after, q.ky_after, s.1, s.2) (turn c.requires n.merged i k c.place_of-place.result e);
      knows = record {
        placed = rw s.2 (place_then c.requires n.merged i k c.place_of-place.result e);
        most = rw (s.2, c.max.ensures) (bound_then c.requires n.merged i k c.place_of-place.result e c.loop-i.seen.most n.knows.most);
      };
      walk = rw s.2 (walk_on n.walk s.0.0 s.0.1);
    }

pub returns : goal.returns
returns c =
    let v = c.args in
    let n = c.loop-i.invariant in
    let g = ⊎_elim (λ h. all_seen n.walk (inl h.1.0)) (λ h. all_seen n.walk (inr h.1.0)) c.in-None.ensures.steps.0 in
    let e : take c.loop-i.i-iterator.count (keys_in v.given) ≡ keys_in v.given = take_all _ (keys_in v.given) g in
    record { value = rw e at n.merged.counted; kx_after = rw e at n.merged.in_kx; ky_after = rw e at n.merged.in_ky; at_after = rw e at n.merged.in_at }
