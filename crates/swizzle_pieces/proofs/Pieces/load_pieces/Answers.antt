-- `swizzle_pieces::Pieces::load_pieces` meets its contract.
use mathlib.Core.Path.{refl, sym, ap, ◌∙◌}
use Prim.Native.Nat.{ℕ, ◌+◌, ◌-◌, ◌*◌}
use native.Mathlib.Nat.{zero-mul, sub-zero}
use native.Mathlib.Omega.{arith}
use lib.ListN.{length}
use Rattle.lists.specs.Lists.{up_from}
use Rattle.swizzle_pieces.specs.Steps.{size_of, load_one, load_each}
use Rattle.swizzle_pieces.proofs.Loaded.{each_turn, each_end, piece_fits, piece_place}
use Rattle.swizzle_pieces.proofs.Pieces.load_pieces.Goals as goal

pub loop-x-init : goal.loop-x-init
loop-x-init c =
    let v = c.args in
    λ i. load_each v.self v.entries.now (up_from 0 (sub-zero v.self.count i)) (zero-mul (size_of v.self) i) v.scratch.now

pub overflow_mul-x : goal.overflow_mul-x
overflow_mul-x c =
    let v = c.args in
    let x = c.loop-x.x in
    let f = piece_fits v.self (length v.entries.now) x (x * c.size-size.result) c.requires (ap (λ (z : ℕ). x * z) c.size-size.ensures) c.loop-x-test.true in
    omega (arith, f.room)

pub load_piece-requires : goal.load_piece-requires
load_piece-requires c =
    let v = c.args in
    let x = c.loop-x.x in
    piece_fits v.self (length v.entries.now) x (x * c.size-size.result) c.requires (ap (λ (z : ℕ). x * z) c.size-size.ensures) c.loop-x-test.true

pub loop-x-preserved : goal.loop-x-preserved
loop-x-preserved c =
    let v = c.args in
    let n = v.self in
    let es = v.entries.now in
    let l = c.loop-x in
    let r = c.load_piece in
    let p = r.ensures ∙ ap (λ (z : ℕ). load_one n es l.x (l.x * z) l.scratch) c.size-size.ensures in
    ap (λ (z : ℕ). load_each n es (up_from (l.x + 1) (n.count - (l.x + 1))) z r.new.scratch) (sym (piece_place (size_of n) l.x (l.x * size_of n) refl))
    ∙ each_turn n es l.x (l.x * size_of n) l.scratch _ l.invariant r.new.scratch c.loop-x-test.true p

pub returns : goal.returns
returns c =
    let v = c.args in
    let l = c.loop-x in
    each_end v.self v.entries.now l.x (l.x * size_of v.self) l.scratch _ l.invariant c.loop-x-test.false
