-- The entries of a row for each old row of a port, and where pieces start.
use Rattle.std.specs.Prelude.{ℕ, ◌+◌, ◌*◌, ◌<◌, ◌≤◌, List, [], ◌∷◌, map, get_or, eqb}
use Rattle.lists.specs.Choice.{when◌then◌else◌}
use Rattle.lists.specs.Lists.{up_from, concat_map}
use Rattle.rules.specs.Limits.{X, None, addr_bits}
use Rattle.rules.specs.Geometry.{walk}

-- the entries of an old row whose bits start at base
abbrev pub source_of : ℕ → ℕ → ℕ
source_of base e = when eqb e None then None else base + e

unfoldable pub row_sources : ℕ → List ℕ → List ℕ
row_sources base es = map (source_of base) es

-- of so many old rows, each of so many bits
unfoldable pub sources_from : ℕ → ℕ → ℕ → List ℕ → List ℕ
sources_from j more width es = concat_map (λ i. row_sources (i * width) es) (up_from j more)

unfoldable pub all_sources : ℕ → ℕ → List ℕ → List ℕ
all_sources olds width es = sources_from 0 olds width es

-- the last net of a row's mask
unfoldable pub last_of : ℕ → List ℕ → List ℕ → ℕ
last_of last [] v = last
last_of last (e ∷ es) v = last_of (when eqb e None then last else get_or v e X) es v

-- few and narrow rows, whose entries have room
pub record Bases (olds width size room : ℕ) : Type 0 where
  pub low : olds * width < 4294967296
  pub enough : olds * size ≤ room

-- where a piece starts, by the bits of its number that are chunk bits
unfoldable pub start_of : ℕ → ℕ → ℕ → ℕ → ℕ
start_of chunks C L n = (walk addr_bits chunks addr_bits n).row * C + (walk addr_bits chunks addr_bits n).chunk * L

unfoldable pub starts_by : ℕ → ℕ → ℕ → ℕ → ℕ → List ℕ
starts_by chunks C L olds x = map (λ j. start_of chunks C L (j + olds * x)) (up_from 0 olds)
