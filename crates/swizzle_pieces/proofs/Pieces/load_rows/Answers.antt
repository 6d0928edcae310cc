-- `swizzle_pieces::Pieces::load_rows` meets its contract.
use mathlib.Core.Path.{refl}
use Prim.Native.Nat.{◌+◌, ◌*◌}
use native.Mathlib.Omega.{arith}
use lib.ListN.{length}
use Rattle.swizzle_pieces.specs.Steps.{start_of}
use Rattle.swizzle_pieces.proofs.Loaded.{rows_turn, rows_end, place_room}
use Rattle.swizzle_pieces.proofs.Pieces.load_rows.Goals as goal

pub overflow_add-to : goal.overflow_add-to
overflow_add-to c =
    let v = c.args in
    let r = place_room v.at v.self.width v.self.rows c.loop-j.j _ refl c.loop-j-test.true c.requires.room in
    omega arith

pub load_row-requires : goal.load_row-requires
load_row-requires c =
    let v = c.args in
    let r = place_room v.at v.self.width v.self.rows c.loop-j.j _ refl c.loop-j-test.true c.requires.room in
    omega arith

pub loop-j-preserved : goal.loop-j-preserved
loop-j-preserved c =
    let v = c.args in
    let n = v.self in
    let l = c.loop-j in
    rows_turn (start_of n (length v.entries.now) v.x) v.at n.width n.first n.rows l.j (v.at + l.j * n.width) v.entries.now l.scratch _ refl l.invariant c.load_row.new.scratch c.row_first.result c.loop-j-test.true c.row_first.ensures c.load_row.ensures

pub returns : goal.returns
returns c =
    let v = c.args in
    let n = v.self in
    let l = c.loop-j in
    rows_end (start_of n (length v.entries.now) v.x) v.at n.width n.first n.rows l.j (v.at + l.j * n.width) v.entries.now l.scratch _ refl l.invariant c.loop-j-test.false
