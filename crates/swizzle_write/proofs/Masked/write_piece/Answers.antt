-- `swizzle_write::Masked::write_piece` meets its contract.
use mathlib.Core.Path.{sym, ◌∙◌}
use mathlib.Core.List.{List}
use Prim.Native.Nat.{ℕ}
use lib.ListN.{length}
use Rattle.swizzle_columns.proofs.Ports.{stored_all}
use Rattle.swizzle_columns.proofs.Fits.{can_tested, stored_can}
use Rattle.swizzle_write.proofs.Pieces.{piece_length}
use Rattle.swizzle_write.proofs.Masked.write_piece.Goals as goal

pub emit_piece-requires : goal.emit_piece-requires
emit_piece-requires c = (c.requires.job.kept, c.requires.job.short)

pub returns : goal.returns
returns c =
    let v = c.args in
    let m = v.self in
    let j = c.requires.job in
    let e = c.emit_piece in
    let k : List ℕ = e.new.piece in
    record {
      log_after = e.ensures.log_after;
      piece_after = λ o. stored_all v.piece.now k _ (e.ensures.piece_after o) (piece_length m.mux.now m.row.now v.x _ ∙ sym j.piece_len);
      to_after = c.store_nets.ensures ∙ stored_can m.port m.per_row v.x k v.to.now (can_tested m.port m.per_row (length v.to.now) (length k) v.x (record { port = j.port; enough = e.auto.piece ∙ j.piece_len ∙ j.enough; one = c.requires.x_lt_pieces }));
    }
