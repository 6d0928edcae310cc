-- `swizzle_pieces::Pieces::load_piece` meets its contract.
use mathlib.Core.Path.{ap, ◌∙◌}
use Prim.Native.Nat.{ℕ}
use lib.ListN.{replicate}
use lib.Seq.{sets}
use Rattle.swizzle_pieces.proofs.Loaded.{one_is}
use Rattle.swizzle_pieces.proofs.Pieces.load_piece.Goals as goal

pub returns : goal.returns
returns c =
    let v = c.args in
    one_is v.self v.entries.now v.x v.at v.scratch.now c.fill.new.to _ (c.fill.ensures ∙ ap (λ (k : ℕ). sets v.scratch.now v.at (replicate k 4294967295)) c.size.ensures) c.load_rows.ensures
