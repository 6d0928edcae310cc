-- `unmap_read_init_reset_transparency` on a machine's memory: the struct and the trits after it.
use Rattle.std.specs.Prelude.{◌≡◌, Bool, ℕ, List, Result, Ok, Err}
use Rattle.rules.specs.declared.numbers.Refusal.{Refusal}
use Rattle.net_flip_flop.specs.declared.Controls.{Controls}
use Rattle.net_memory.specs.declared.Memory.{Memory}
use Rattle.net_memory.specs.View.{read_port}
use Rattle.port_unmap.specs.declared.Driven.{Driven}
use Rattle.port_unreset.specs.Struct.{unreset, blanked, struct_after, trits_after}

-- a port that is unmapped: the struct and the trits of an accepted call; a refused one leaves the trits as they were
abbrev pub Acted : Memory → ℕ → Controls → Bool → Result Driven Refusal → List ℕ → List ℕ → Type 0
Acted m i c incl (Ok d) trits trits' = (d.memory ≡ unreset m i c incl) × (trits' ≡ blanked m i trits)
Acted m i c incl (Err e) trits trits' = trits' ≡ trits

-- the same of any port
abbrev pub ResetStruct : Memory → ℕ → Bool → Result Driven Refusal → List ℕ → List ℕ → Type 0
ResetStruct m i incl (Ok d) trits trits' =
    (d.memory ≡ struct_after (read_port m i).flip_flop m trits i incl) × (trits' ≡ trits_after (read_port m i).flip_flop m trits i incl)
ResetStruct m i incl (Err e) trits trits' = trits' ≡ trits
