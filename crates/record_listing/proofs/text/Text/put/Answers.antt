-- `record_listing::text::Text::put` meets its contract.
use Rattle.std.proofs.Common.{arith, refl}
use Rattle.record_listing.proofs.text.Text.put.Goals as goal

pub returns : goal.returns
returns c h = record { put = record { stored = c.copy.ensures; place = omega (arith, c.saturating_add-self.ensures) }; name = refl }
