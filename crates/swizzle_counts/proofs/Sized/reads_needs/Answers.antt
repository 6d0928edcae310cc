-- `swizzle_counts::Sized::reads_needs` meets its contract.
use Rattle.std.proofs.Common.{ℕ, rules}
use Rattle.swizzle_counts.specs.declared.Needs.{Needs}
use Rattle.swizzle_counts.specs.Needs.{read_needs}
use Rattle.swizzle_counts.proofs.Numbers.{reads_are}
use Rattle.swizzle_counts.proofs.Sized.reads_needs.Goals as goal

pub returns : goal.returns
returns c =
    let s = c.args.self.now in
    let f : ℕ → ℕ → Needs = λ i new. read_needs s.given.memory s.given.nets.now s.layout.params s.columns new i in
    (reads_are _ s.given.memory s.given.nets.now s.layout.params s.columns c.args.reads.now (c.needs_of.ensures.sum f (λ i new r q. search rules)), c.needs_of.ensures.most)
