-- `swizzle_counts::Sized::writes_needs` meets its contract.
use Rattle.std.proofs.Common.{ℕ, rules}
use Rattle.swizzle_counts.specs.declared.Needs.{Needs}
use Rattle.swizzle_counts.specs.Needs.{write_needs}
use Rattle.swizzle_counts.proofs.Numbers.{writes_are}
use Rattle.swizzle_counts.proofs.Sized.writes_needs.Goals as goal

pub returns : goal.returns
returns c =
    let s = c.args.self.now in
    let f : ℕ → ℕ → Needs = λ i new. write_needs s.given.memory s.given.nets.now s.layout.params s.columns s.layout.entries.now new i in
    (writes_are _ s.given.memory s.given.nets.now s.layout.params s.columns s.layout.entries.now c.args.writes.now (c.needs_of.ensures.sum f (λ i new r q. search rules)), c.needs_of.ensures.most)
