-- `fallback_bare::bare_memory` meets its contract.
use mathlib.Core.Path.{ap, ◌∙◌}
use Rattle.net_memory.specs.declared.Memory.{Memory}
use Rattle.net_memory.specs.View.{memory_of}
use Rattle.fallback_bare.specs.Bare.{with_ports}
use Rattle.fallback_bare.proofs.Bare.{memory-bare}
use Rattle.fallback_bare.proofs.bare_memory.Goals as goal

pub returns-clause-by_index : goal.returns-clause-by_index
returns-clause-by_index c nets trits =
    ap (λ (x : Memory). memory_of x nets trits) (ap (with_ports c.args.m) c.bare_ports.ensures) ∙ memory-bare c.args.m nets trits
