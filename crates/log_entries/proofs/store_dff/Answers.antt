-- `log_entries::store_dff` meets its contract.
use mathlib.Core.Path.{refl}
use Rattle.net_flip_flop.specs.View.{flip_flop_of}
use Rattle.log_entries.proofs.Dff.{dff_stored}
use Rattle.log_entries.proofs.store_dff.Goals as goal

pub returns : goal.returns
returns c =
    let v = c.args in
    dff_stored (flip_flop_of v.f) v.log.now _ _ _ v.at v.first _ refl c.words-nine.ensures (rw c.word.ensures at c.store_parts.ensures) c.store_trits.ensures
