-- Reading a case of the call format: words to numbers, values, ports, memories and plans. Every length word of a case is true.
use Rattle.std.specs.Prelude.{ℕ, zero, suc, Bool, List, [], ◌∷◌, get_or, take, drop, eqb}
use Rattle.std.proofs.Math.Option.{Option, none, some}
use Rattle.lists.specs.Choice.{when◌then◌else◌}
use Rattle.rules.specs.Value.{Control, Pos, Neg}
use Rattle.rules.specs.Cell.{Controls, FlipFlop, WritePort, ReadFlipFlop, ReadPort, Mem, Plan}
use Rattle.rules.specs.Log.{LogState}
use Rattle.rules.specs.Image.{Patch}
use Rattle.rules.specs.Record.{Sizes}

-- what is read, and the words after it
pub record Got (A : Type 0) : Type 0 where
  pub value : A
  pub rest : List ℕ

abbrev pub Reader : Type 0 → Type 0
Reader A = List ℕ → Got A

module _ {A B : Type 0} where
  infixl 15 ◌>>=◌
  unfoldable pub ◌>>=◌ : Reader A → (A → Reader B) → Reader B
  ◌>>=◌ r f l = let g = r l in f g.value g.rest

module _ {A : Type 0} where
  unfoldable pub give : A → Reader A
  give a l = record { value = a; rest = l }

-- so many of a kind
module _ {A : Type 0} where
  unfoldable pub many : Reader A → ℕ → Reader (List A)
  many r zero = give []
  many r (suc n) = do
    a ← r
    more ← many r n
    give (a ∷ more)

unfoldable pub word : Reader ℕ
word l = record { value = get_or l 0 0; rest = drop 1 l }

unfoldable pub words_of : ℕ → Reader (List ℕ)
words_of n l = record { value = take n l; rest = drop n l }

unfoldable pub list : Reader (List ℕ)
list = do
  n ← word
  words_of n

unfoldable pub test : Reader Bool
test = do
  n ← word
  give (eqb n 1)

unfoldable pub control : Reader Control
control = do
  sign ← word
  n ← word
  give (when eqb sign 0 then Pos n else Neg n)

-- an option: a flag, and the thing if it is 1
unfoldable pub option : {A : Type 0} → Reader A → Reader (Option A)
option r = do
  is ← test
  when is then (do
    a ← r
    give (some a)) else give none

-- the log's room, and its state
pub record Log : Type 0 where
  pub room : ℕ
  pub state : LogState

unfoldable pub log : Reader Log
log = do
  room ← word
  used ← word
  next ← word
  give (record { room = room; state = record { used = used; next = next } })

unfoldable pub controls : Reader Controls
controls = do
  clock ← control
  clear ← control
  reset ← control
  enable ← control
  over ← test
  give (record { clock = clock; clear = clear; reset = reset; enable = enable; reset_over_enable = over })

unfoldable pub flip_flop : Reader FlipFlop
flip_flop = do
  v ← list
  c ← controls
  clear ← list
  reset ← list
  init ← list
  give (record { bits = v; controls = c; clear_value = clear; reset_value = reset; init_value = init })

unfoldable pub write_port : Reader WritePort
write_port = do
  addr ← list
  v ← list
  mask ← list
  clock ← control
  give (record { addr = addr; bits = v; mask = mask; clock = clock })

unfoldable pub read_flip_flop : Reader ReadFlipFlop
read_flip_flop = do
  c ← controls
  clear ← list
  reset ← list
  init ← list
  relations ← list
  give (record { controls = c; clear_value = clear; reset_value = reset; init_value = init; relations = relations })

unfoldable pub read_port : Reader ReadPort
read_port = do
  addr ← list
  n ← word
  f ← option read_flip_flop
  give (record { addr = addr; data_len = n; flip_flop = f })

unfoldable pub memory : Reader Mem
memory = do
  depth ← word
  width ← word
  init ← list
  w ← word
  r ← word
  ws ← many write_port w
  rs ← many read_port r
  give (record { depth = depth; width = width; init = init; writes = ws; reads = rs })

unfoldable pub plan : Reader Plan
plan = do
  es ← list
  mask ← word
  ws ← list
  rs ← list
  hard ← word
  unit ← word
  give (record { entries = es; soft_mask = mask; write_wide = ws; read_wide_of = rs; hard = hard; unit = unit })

unfoldable pub patch : Reader Patch
patch = do
  room ← word
  row ← word
  ts ← list
  give (record { row = row; trits = ts; room = room })

unfoldable pub sizes : Reader Sizes
sizes = do
  unit ← word
  full ← word
  full_depth_of ← word
  part ← word
  part_depth_of ← word
  give (record { unit = unit; full = full; full_depth_of = full_depth_of; partial = part; partial_depth = part_depth_of })
