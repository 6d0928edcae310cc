-- `swizzle_read_trits::Trits::put` meets its contract.
use mathlib.Core.Path.{refl, sym, ◌∙◌}
use Rattle.swizzle_read_trits.proofs.Puts.{three_not, three_all}
use Rattle.swizzle_read_trits.proofs.Trits.put.Goals as goal

pub returns-then-not-holds : goal.returns-then-not-holds
returns-then-not-holds c =
    let v = c.args in
    three_not v.p v.entries.now v.self.clear.now v.self.reset.now v.self.init.now v.at v.size _ v.to.now refl (sym c.holds.ensures ∙ c.if-not-holds.true)

pub returns : goal.returns
returns c =
    let v = c.args in
    three_all v.p v.entries.now v.self.clear.now v.self.reset.now v.self.init.now v.at v.size _ v.to.now refl _ _ _ (sym c.holds.ensures ∙ c.if-not-holds.false) c.put_trits.ensures c.put_trits-2.ensures c.put_trits-3.ensures
