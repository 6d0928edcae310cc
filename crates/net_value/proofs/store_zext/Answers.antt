-- `net_value::store_zext` meets its contract.
use mathlib.Core.Path.{ap, ◌∙◌}
use Prim.Native.Nat.{ℕ, ◌-◌}
use mathlib.Core.List.{List}
use lib.ListN.{length, replicate}
use lib.Seq.{sets}
use Rattle.net_value.proofs.Stores.{zext-filled, zext-whole}
use Rattle.net_value.proofs.store_zext.Goals as goal

pub returns-then-v-n : goal.returns-then-v-n
returns-then-v-n c =
    let k = c in
    let m = k in
    let v = m.args in
    k.fill.ensures ∙ ap (λ (l : List ℕ). sets l (length v.v.now) (replicate (v.n - length v.v.now) 0)) m.copy.ensures ∙ zext-filled v.v.now v.n v.out.now

pub returns-else-v-n : goal.returns-else-v-n
returns-else-v-n c =
    let m = c in
    m.copy.ensures ∙ zext-whole _ _ _ c.if-v-n.false
