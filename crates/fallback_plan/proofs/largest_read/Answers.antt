-- `fallback_plan::largest_read` meets its contract.
use Rattle.std.proofs.Common.{◌≡◌}
use borrow.Author.Rules.{rules}
use native.Mathlib.Omega.{arith}
use Rattle.rules.specs.Cell.{read_wide_log2, read_at_of}
use Rattle.net_memory.proofs.Sized.{reads_length}
use Rattle.fallback_plan.proofs.Logs.{M, read_logs, read_log_lem, reads_long, logs_long}
use Rattle.fallback_plan.proofs.largest_read.Goals as goal

pub returns : goal.returns
returns c =
    let m = c.args.m in
    λ nets trits. let n = reads_length m _ c.well_formed.0 nets trits in
    c.largest_by.ensures (read_logs m nets trits) (omega (arith, logs_long m nets trits n)) (λ port found h p.
    let e : found ≡ read_wide_log2 (M m nets trits) (read_at_of (M m nets trits) port) = search rules in
    read_log_lem m nets trits port found (omega (arith, reads_long m nets trits n, h, c.ports_used-count.ensures.0)) e)
