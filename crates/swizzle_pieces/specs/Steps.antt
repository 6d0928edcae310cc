-- The pieces of a read port, loaded one after the other.
use Rattle.std.specs.Prelude.{ℕ, ◌+◌, ◌*◌, ◌≤◌, min, Bool, ◌&&◌, leb, List, [], ◌∷◌, length, replicate}
use Rattle.lists.specs.Choice.{when◌then◌else◌}
use Rattle.std.proofs.lemmas.List.Edits.{sets}
use Rattle.lists.specs.Lists.{up_from}
use Rattle.rules.specs.Limits.{addr_bits, X}
use Rattle.rules.specs.Geometry.{walk}
use Rattle.swizzle_laws.specs.Loads.{restore_from}
use Rattle.swizzle_pieces.specs.declared.Pieces.{Pieces}

-- where row j of piece x starts among the columns
abbrev pub start_of : Pieces → ℕ → ℕ → ℕ → ℕ
start_of n len x j = (walk addr_bits n.mask addr_bits (j + n.rows * x)).row * n.columns + (walk addr_bits n.mask addr_bits (j + n.rows * x)).chunk * len

-- the nets of a piece
abbrev pub size_of : Pieces → ℕ
size_of n = n.rows * n.width

-- the nets from `first` on to their places, where they are all below X
unfoldable pub guarded : ℕ → List ℕ → ℕ → List ℕ → List ℕ
guarded at es first acc = when leb (first + length es) X then restore_from at es first acc else acc

-- the rows of a port; a first net that would pass X is X
unfoldable pub guard_rows : (ℕ → ℕ) → ℕ → ℕ → List ℕ → ℕ → List ℕ → List ℕ → List ℕ
guard_rows start at width es first [] acc = acc
guard_rows start at width es first (j ∷ js) acc = guard_rows start at width es first js (guarded (at + j * width) es (min X (first + start j)) acc)

-- piece x from `at` on
unfoldable pub load_one : Pieces → List ℕ → ℕ → ℕ → List ℕ → List ℕ
load_one n es x at acc = guard_rows (start_of n (length es) x) at n.width es n.first (up_from 0 n.rows) (sets acc at (replicate (size_of n) X))

-- these pieces, one after the other
unfoldable pub load_each : Pieces → List ℕ → List ℕ → ℕ → List ℕ → List ℕ
load_each n es [] at acc = acc
load_each n es (x ∷ xs) at acc = load_each n es xs (at + size_of n) (load_one n es x at acc)

-- the numbers of the pieces and of their rows are 32-bit numbers, and the scratch holds them
unfoldable pub held : Pieces → ℕ → ℕ → Bool
held n len room = leb len X && (leb (n.rows * n.count) 4294967296 && (leb (size_of n) X && leb (n.count * size_of n) (min room 4294967296)))

-- all pieces at the scratch's front, where it holds them
unfoldable pub load_of : Pieces → List ℕ → List ℕ → List ℕ
load_of n es acc = when held n (length es) (length acc) then load_each n es (up_from 0 n.count) 0 acc else acc

-- ---- what the parts ask
pub record RowsFit (n : Pieces) (len x at : ℕ) : Type 0 where
  pub numbers : n.rows * x + n.rows ≤ 4294967296
  pub room : at + size_of n ≤ 4294967296
  pub few : len ≤ X

pub record PiecesFit (n : Pieces) (len : ℕ) : Type 0 where
  pub numbers : n.rows * n.count ≤ 4294967296
  pub room : n.count * size_of n ≤ 4294967296
  pub few : len ≤ X
