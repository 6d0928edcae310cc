-- `swizzle_columns::Grid::piece_starts` meets its contract.
use mathlib.Core.Path.{refl}
use native.Mathlib.Omega.{arith}
use lib.ListN.{length, length-set}
use Rattle.swizzle_columns.proofs.Walks.{starts_turn, starts_end, narrow_at}
use Rattle.swizzle_columns.proofs.Grid.piece_starts.Goals as goal

pub overflow_mul-first : goal.overflow_mul-first
overflow_mul-first c = omega (arith, c.requires.numbers)

pub overflow_add-j : goal.overflow_add-j
overflow_add-j c = omega (arith, c.requires.numbers)

pub overflow_cast-j : goal.overflow_cast-j
overflow_cast-j c = omega (arith, c.requires.numbers)

pub start_of-requires : goal.start_of-requires
start_of-requires c =
    let h = c in let k = c in let v = k.args in narrow_at (length v.starts.now) v.self.columns v.self.entries v.x h.loop-j.j k.requires (omega arith)

pub loop-j-preserved : goal.loop-j-preserved
loop-j-preserved c =
    let h = c in
    let v = c.args in
    let w = h.loop-j.invariant in
    (omega arith, simp length-set w.1, starts_turn v.self.chunks v.self.columns v.self.entries (length v.starts.now) v.x v.starts.now h.loop-j.starts h.loop-j.j w.2 _ (omega arith) c.start_of.ensures)

pub returns : goal.returns
returns c =
    let h = c in
    let v = c.args in
    let w = h.loop-j.invariant in
    starts_end v.self.chunks v.self.columns v.self.entries (length v.starts.now) v.x v.starts.now h.loop-j.starts h.loop-j.j w.2 (omega arith) refl
