-- A write port half a cycle later, by the values that the code reads of it.
use Rattle.std.specs.Prelude.{◌≡◌, ℕ, ◌≤◌, Bool, false, List, length, take, eqb, ltb}
use Rattle.lists.specs.Choice.{when◌then◌else◌}
use Rattle.rules.specs.Limits.{max_merge, trit_x}
use Rattle.rules.specs.Logic.{undef, zeros}
use Rattle.rules.specs.Value.{Value, Control, inverse}
use Rattle.rules.specs.Cell.{FlipFlop, WritePort, new_flip_flop, with_init}
use Rattle.rules.specs.Log.{Trace, done}
use Rattle.rules.specs.Ports.{delayed}

-- the trit that a delayed mask starts with: X for an all-X image, else 0
abbrev pub start_trit : Bool → ℕ
start_trit allX = when allX then trit_x else 0

-- the flip-flop of a mask
unfoldable pub mask_delay : Bool → ℕ → Value → Control → FlipFlop
mask_delay allX n mask clock = with_init (new_flip_flop mask clock) (when allX then undef n else zeros n)

abbrev pub port_of : Value → Value → Value → Control → WritePort
port_of a d k clock = record { addr = a; bits = d; mask = k; clock = clock }

-- a port as long as p, with the first nets of three arrays, at the other edge of the clock
abbrev pub cut : WritePort → List ℕ → List ℕ → List ℕ → WritePort
cut p a d k = record { addr = take (length p.addr) a; bits = take (length p.bits) d; mask = take (length p.mask) k; clock = inverse p.clock }

-- the nets fit the scratch, and the mask is as long as the data
unfoldable pub delayable : ℕ → ℕ → ℕ → Bool
delayable addr bits mask = when ltb max_merge addr then false else when ltb max_merge bits then false else eqb mask bits

-- a port that does not, which no memory has, gives nothing
unfoldable pub delayed_if : Bool → WritePort → WritePort → Trace WritePort
delayed_if allX p q = when delayable (length p.addr) (length p.bits) (length p.mask) then delayed allX p else done q

pub record Delayable (addr bits mask : ℕ) : Type 0 where
  pub short : addr ≤ max_merge
  pub few : bits ≤ max_merge
  pub masked : mask ≡ bits
