-- What one read port of a swizzle logs, by its numbers.
use Rattle.std.specs.Prelude.{◌≡◌, ℕ, ◌*◌, ◌<◌, ◌≤◌, Bool, false, ◌&&◌, Option, None, Some, List, [], leb, ltb, length}
use Rattle.std.proofs.lemmas.List.Edits.{sets}
use Rattle.lists.specs.Choice.{when◌then◌else◌}
use Rattle.rules.specs.Value.{Value}
use Rattle.rules.specs.Cell.{FlipFlop, new_flip_flop, with_enable}
use Rattle.rules.specs.Log.{Trace, ◌>>=◌, done, add_dff_of, replace_value_of}
use Rattle.rules.specs.Swizzle.{add_voids}
use Rattle.net_value.specs.View.{control_of}
use Rattle.net_flip_flop.specs.declared.Controls.{Controls}
use Rattle.log_entries.specs.Emission.{Lent, is_over, run}
use Rattle.swizzle_laws.specs.Rooms.{mux_room}
use Rattle.swizzle_tree.specs.Scratch.{tree_in}
use Rattle.swizzle_pieces.specs.declared.Pieces.{Pieces}
use Rattle.swizzle_pieces.specs.Steps.{load_of}

-- the flip-flop of a mux address, of a port with these controls
abbrev pub addr_flip_flop : Controls → Value → FlipFlop
addr_flip_flop c a = with_enable (new_flip_flop a (control_of c.clock)) (control_of c.enable)

-- the mux address, by a flip-flop where the port has one
unfoldable pub addr_by : Option Controls → Value → Trace Value
addr_by None a = done a
addr_by (Some c) a = add_dff_of (addr_flip_flop c a)

-- what the code leaves of it: the nets at the front of the room, unless the emission overflowed
pub record Addressed (t : Trace Value) (room₀ room : List ℕ) (l₀ l : Lent) : Type 0 where
  pub log : l ≡ run t l₀
  pub value : is_over l.state ≡ false → room ≡ sets room₀ 0 (t l₀.state.next).value

-- the voids, the mux address, the tree over the pieces loaded into the scratch, and the replace
unfoldable pub read_trace : Pieces → ℕ → Option Controls → Value → List ℕ → Value → ℕ → List ℕ → Trace Value
read_trace n voids f mux es output w scratch =
    add_voids voids n.columns >>= λ v.
    (addr_by f mux >>= λ a.
    (tree_in a w n.count (load_of n es scratch) >>= λ t.
    replace_value_of output t))

-- a mux address that there is room for, and a scratch that holds the pieces
pub record Ready (n : Pieces) (mux : Value) (w : ℕ) (scratch : List ℕ) : Type 0 where
  pub short : length mux ≤ mux_room
  pub some : 0 < n.count
  pub holds : n.count * w ≤ length scratch
  pub whole : w ≤ length scratch

-- ---- any numbers
-- the same numbers with another first net
abbrev pub with_first : Pieces → ℕ → Pieces
with_first n first = record { first = first; width = n.width; columns = n.columns; mask = n.mask; rows = n.rows; count = n.count }

-- there is room for the mux address, and the scratch holds the pieces
unfoldable pub can_read : Pieces → Value → ℕ → List ℕ → Bool
can_read n mux w scratch = leb (length mux) mux_room && (ltb 0 n.count && leb (n.count * w) (length scratch))

-- what is logged, and what is loaded into the scratch; nothing where it does not hold them
unfoldable pub read_of : Pieces → ℕ → Option Controls → Value → List ℕ → Value → ℕ → List ℕ → Trace Value
read_of n voids f mux es output w scratch next =
    (when can_read n mux w scratch then read_trace (with_first n next) voids f mux es output w scratch else done []) next

unfoldable pub scratch_of : Pieces → Value → List ℕ → ℕ → List ℕ → ℕ → List ℕ
scratch_of n mux es w scratch next = when can_read n mux w scratch then load_of (with_first n next) es scratch else scratch
