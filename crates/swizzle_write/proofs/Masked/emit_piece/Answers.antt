-- `swizzle_write::Masked::emit_piece` meets its contract.
use mathlib.Core.Path.{◌≡◌, ap, ◌∙◌}
use Prim.Native.Nat.{ℕ, ◌<◌}
use native.Mathlib.Omega.{arith}
use lib.ListN.{length, replicate}
use lib.Seq.{length-take-le}
use Rattle.rules.specs.Value.{from_uint}
use Rattle.log_entries.specs.View.{lent_of}
use Rattle.swizzle_write.proofs.Pieces.{alone-run, alone_value, muxed_run, muxed_value}
use Rattle.swizzle_write.proofs.Masked.emit_piece.Goals as goal

pub returns-then-is_empty : goal.returns-then-is_empty
returns-then-is_empty c =
    let m = c.args.self in
    let n = c.number_bits.new.out in
    let e = c.number_bits.ensures ∙ ap (λ (k : ℕ). from_uint k c.args.x) (length-take-le (length m.mux.now) (replicate 64 0) c.requires.1) in
    let l = lent_of c.args.log.now in
    let l1 = lent_of c.emit_eq.new.self in
    let s : length m.mux.now ≡ 0 = grind arith in
    record {
      log_after = alone-run m.mux.now m.row.now n c.args.x l l1 e c.emit_eq.ensures s;
      piece_after = λ o. alone_value m.mux.now m.row.now n c.args.x l l1 e c.emit_eq.ensures s c.args.piece.now _ c.copy.ensures;
    }

pub returns : goal.returns
returns c =
    let m = c.args.self in
    let k = m.kept in
    let n = c.number_bits.new.out in
    let e = c.number_bits.ensures ∙ ap (λ (j : ℕ). from_uint j c.args.x) (length-take-le (length m.mux.now) (replicate 64 0) c.requires.1) in
    let p = c.emit_kept_mux in
    let l = lent_of c.args.log.now in
    let l1 = lent_of c.emit_eq.new.self in
    let l2 = lent_of p.new.log in
    let s : 0 < length m.mux.now = grind arith in
    record {
      log_after = muxed_run m.mux.now m.row.now n c.args.x l l1 e c.emit_eq.ensures s k c.requires.0 l2 p.ensures.log_after;
      piece_after = muxed_value m.mux.now m.row.now n c.args.x l l1 e c.emit_eq.ensures s k c.requires.0 l2 p.ensures.log_after c.args.piece.now _ p.ensures.out_after;
    }
