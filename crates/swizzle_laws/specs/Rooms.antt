-- The room for a mux address.
use Rattle.std.specs.Prelude.{ℕ}

-- the nets of a mux address that a read or write port has room for
abbrev pub mux_room : ℕ
mux_room = 64
