-- `swizzle_sizes::write_bits` meets its contract.
use Rattle.std.proofs.Common.{ℕ, List, map, min, ◌+◌, ◌-◌, length, arith, ap, ◌∙◌, rules}
use Rattle.lists.specs.Lists.{pairs}
use Rattle.lists.proofs.UpFrom.{length_up}
use Rattle.rules.specs.Limits.{max_ports}
use Rattle.rules.specs.Cell.{write_wide_log2, write_at}
use Rattle.net_memory.specs.Given.{mem_of}
use Rattle.net_memory.proofs.Sized.{writes_length}
use Rattle.swizzle_plan.specs.Numbers.{in_eight}
use Rattle.swizzle_plan.proofs.WideLogs.{writes_count, write_logs_by}
use Rattle.swizzle_sizes.proofs.write_bits.Goals as goal

pub bits_of-requires-clause-counted : goal.bits_of-requires-clause-counted
bits_of-requires-clause-counted c = record { small = c.requires; few = omega (arith, ap length c.ports_in_use-ports.ensures, length_up 0 (min max_ports c.args.given.memory.write_count)) }

pub returns : goal.returns
returns c =
    let v = c.args in
    let g = v.given in
    let m = mem_of g in
    c.bits_of.ensures (λ (i : ℕ). write_wide_log2 m (write_at m i)) (λ x r q. search rules)
    ∙ ap (λ (l : List ℕ). in_eight (map (λ (x : ℕ × ℕ). v.base + x.1 - x.0) (pairs l v.news.now)))
    (ap (map (λ (i : ℕ). write_wide_log2 m (write_at m i))) c.ports_in_use-ports.ensures ∙ write_logs_by m _ (writes_count g.memory g.nets.now g.trits.now ∙ writes_length g.memory _ c.well_formed.0.1.1.0 g.nets.now))
