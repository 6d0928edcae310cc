-- `swizzle_pieces::Pieces::load` meets its contract.
use mathlib.Core.Path.{sym, ◌∙◌}
use lib.ListN.{length}
use Rattle.swizzle_pieces.proofs.Loaded.{held_fits, load_not, load_is}
use Rattle.swizzle_pieces.proofs.Pieces.load.Goals as goal

pub load_pieces-requires : goal.load_pieces-requires
load_pieces-requires c =
    let v = c.args in
    held_fits v.self (length v.entries.now) (length v.scratch.now) (sym c.is_held.ensures ∙ c.if-is_held.true)

pub returns-then-is_held : goal.returns-then-is_held
returns-then-is_held c =
    let v = c.args in
    load_is v.self v.entries.now v.scratch.now _ (sym c.is_held.ensures ∙ c.if-is_held.true) c.load_pieces.ensures

pub returns-else-is_held : goal.returns-else-is_held
returns-else-is_held c =
    let v = c.args in
    load_not v.self v.entries.now v.scratch.now (sym c.is_held.ensures ∙ c.if-is_held.false)
