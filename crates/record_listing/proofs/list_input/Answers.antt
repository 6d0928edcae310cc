-- `record_listing::list_input` meets its contract.
use Rattle.record_listing.proofs.Rooms.{input_refused, input_accepted}
use Prim.Native.Nat.{◌≤◌}
use native.Mathlib.Omega.{arith}
use lib.ListN.{length}
use Rattle.rules.specs.Beside.Stored.{lister_stored}
use Rattle.record_listing.proofs.list_input.Goals as goal

pub returns-then-out-ge-MAX_TEXT : goal.returns-then-out-ge-MAX_TEXT
returns-then-out-ge-MAX_TEXT c =
    let a = c.args in
    let p = c.put_input in
    let h : length (lister_stored a.first.now a.total) ≤ length a.out.now = omega (arith, p.ensures.0.place, p.ensures.1) in
    input_accepted a.out.now a.first.now a.total p.new.out p.result p.ensures.0 h

pub returns-then-out-input_size : goal.returns-then-out-input_size
returns-then-out-input_size c =
    let a = c.args in
    input_refused a.out.now a.first.now a.total (omega (arith, c.input_size.ensures))

pub returns : goal.returns
returns c =
    let a = c.args in
    let p = c.put_input-2 in
    let h : length (lister_stored a.first.now a.total) ≤ length a.out.now = omega (arith, p.ensures.0.place) in
    input_accepted a.out.now a.first.now a.total p.new.out p.result p.ensures.0 h
