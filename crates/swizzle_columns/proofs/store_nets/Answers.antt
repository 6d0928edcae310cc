-- `swizzle_columns::store_nets` meets its contract.
use Rattle.std.proofs.Common.{◌∙◌, sym, length}
use Rattle.swizzle_columns.proofs.Fits.{can_say, stored_can, stored_not}
use Rattle.swizzle_columns.proofs.store_nets.Goals as goal

pub store_in-requires : goal.store_in-requires
store_in-requires c = let v = c.args in can_say v.p v.len (length v.to.now) (length v.v.now) v.x (sym c.can_store.ensures ∙ c.if-can_store.true)

pub returns-then-can_store : goal.returns-then-can_store
returns-then-can_store c = let v = c.args in c.store_in.ensures ∙ sym (stored_can v.p v.len v.x v.v.now v.to.now (sym c.can_store.ensures ∙ c.if-can_store.true))

pub returns-else-can_store : goal.returns-else-can_store
returns-else-can_store c = let v = c.args in stored_not v.p v.len v.x v.v.now v.to.now (sym c.can_store.ensures ∙ c.if-can_store.false)
