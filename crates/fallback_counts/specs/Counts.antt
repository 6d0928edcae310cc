-- The words and nets of the rows of a fallback, by the runs of their masks: no muxes are merged, as the nets below differ.
use Rattle.std.specs.Prelude.{◌≡◌, ℕ, suc, ◌+◌, ◌*◌, List, [], ◌∷◌, length}
use Rattle.lists.specs.Lists.{sum_by}
use Rattle.rules.specs.Cell.{WritePort, Mem}
use Rattle.rules.specs.Merge.{runs}
use Rattle.rules.specs.Ports.{Driving}

-- the muxes of these write ports over a row of w nets
unfoldable pub mux_words : ℕ → List WritePort → ℕ
mux_words w ps = sum_by (λ p. 5 * length (runs p.mask) + 2 * w) ps

-- a row's void nets, muxes, flip-flop and replace; nothing without write ports
unfoldable pub row_words_of : ℕ → List WritePort → ℕ
row_words_of w [] = 0
row_words_of w (p ∷ ps) = 4 + (mux_words w (p ∷ ps) + (13 + 4 * w + (4 + 2 * w)))

unfoldable pub row_nets : ℕ → List WritePort → ℕ
row_nets w [] = 0
row_nets w (p ∷ ps) = w + (length (p ∷ ps) * w + w)

-- a replace for each read port
unfoldable pub drive_words : ℕ → ℕ → ℕ
drive_words w reads = reads * (4 + 2 * w)

-- all rows
unfoldable pub lower_words : List Driving → ℕ
lower_words ds = sum_by (λ d. row_words_of d.memory.width d.memory.writes + drive_words d.memory.width (length d.memory.reads)) ds

unfoldable pub lower_nets : List Driving → ℕ
lower_nets ds = sum_by (λ d. row_nets d.memory.width d.memory.writes) ds

-- a write port and a memory of one row, and the outputs of its read ports
abbrev pub Wide : ℕ → WritePort → Type 0
Wide w p = (length p.mask ≡ w) × (length p.bits ≡ w)

unfoldable pub AllWide : ℕ → List WritePort → Type 0
AllWide w [] = Unit
AllWide w (p ∷ ps) = Wide w p × AllWide w ps

pub record OneRow (d : Driving) : Type 0 where
  pub writes : AllWide d.memory.width d.memory.writes
  pub init : length d.memory.init ≡ d.memory.width
  pub outputs : length d.output ≡ length d.memory.reads * d.memory.width

unfoldable pub AllRows : List Driving → Type 0
AllRows [] = Unit
AllRows (d ∷ ds) = OneRow d × AllRows ds
