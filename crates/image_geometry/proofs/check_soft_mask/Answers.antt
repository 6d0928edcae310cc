-- `image_geometry::check_soft_mask` meets its contract.
use Prim.Native.Nat.{ℕ, ◌%◌, ◌^◌, ◌≤◌}
use mathlib.Core.Path.{◌≡◌, sym, ap, ◌∙◌, subst}
use Rattle.lists.proofs.Powers.{two_to_is}
use Rattle.rules.specs.Limits.{addr_bits}
use Rattle.rules.specs.Numbers.{top_bits}
use Rattle.rules.proofs.Walks.{tops_le}
use Rattle.rules.proofs.Shaping.{soft_8, soft_0}
use Rattle.image_geometry.proofs.check_soft_mask.Goals as goal

pub returns-then-from-two_to-ne0 : goal.returns-then-from-two_to-ne0
returns-then-from-two_to-ne0 c =
    let rest : c.from.result % c.two_to.result ≡ c.args.depth % 2 ^ top_bits addr_bits c.args.mask = (λ k. c.from.ensures k % (two_to_is _ _ (subst (λ (n : ℕ). n ≤ 32) (sym c.top_bits.ensures) (tops_le 32 _)) c.two_to.ensures.value ∙ ap (λ (n : ℕ). 2 ^ n) c.top_bits.ensures) k) in
    sym (soft_8 c.args.depth c.args.mask (λ e. c.if-from-two_to-ne0.true (rest ∙ e)))

pub returns : goal.returns
returns c =
    let rest : c.from.result % c.two_to.result ≡ c.args.depth % 2 ^ top_bits addr_bits c.args.mask = (λ k. c.from.ensures k % (two_to_is _ _ (subst (λ (n : ℕ). n ≤ 32) (sym c.top_bits.ensures) (tops_le 32 _)) c.two_to.ensures.value ∙ ap (λ (n : ℕ). 2 ^ n) c.top_bits.ensures) k) in
    sym (soft_0 c.args.depth c.args.mask (sym rest ∙ c.if-from-two_to-ne0.false))
