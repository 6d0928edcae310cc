-- `fallback_plan::largest_write` meets its contract.
use Rattle.std.proofs.Common.{◌≡◌, sym, ◌∙◌}
use borrow.Author.Rules.{rules}
use Rattle.rules.specs.Cell.{write_wide_log2, write_at}
use native.Mathlib.Omega.{arith}
use Rattle.net_memory.specs.Given.{mem_of}
use Rattle.net_memory.specs.View.{memory_of}
use Rattle.net_memory.proofs.Sized.{writes_length}
use Rattle.swizzle_plan.specs.Numbers.{write_logs}
use Rattle.swizzle_plan.proofs.WideLogs.{logs_length, write_log_at}
use Rattle.fallback_plan.proofs.Logs.{write_log_any}
use Rattle.fallback_plan.proofs.largest_write.Goals as goal

pub returns : goal.returns
returns c trits =
    let g = c.args.given in
    let n = logs_length g.memory g.nets.now trits ∙ writes_length g.memory _ c.well_formed.0.1.1.0 g.nets.now in
    let m = memory_of g.memory g.nets.now trits in
    c.largest_by.ensures (write_logs m) (omega (arith, n)) (λ port found h p.
    let e : found ≡ write_wide_log2 (mem_of g) (write_at (mem_of g) port) = search rules in
    e ∙ write_log_any g.memory g.nets.now g.trits.now trits port ∙ sym (write_log_at m port (omega (arith, n, h, c.ports_used-count.ensures.0))))
