-- What the read ports of a swizzle ask of a memory, its plan and the lent rooms; a plan with number 0 and rooms that are not refused have it.
use Rattle.std.specs.Prelude.{◌≡◌, ℕ, ◌+◌, ◌-◌, ◌*◌, ◌^◌, ◌<◌, ◌≤◌, false, List, [], length, get_or, eqb}
use Rattle.std.proofs.Math.Option.{none}
use Rattle.lists.specs.Lists.{pairs, concat_map, sum_by}
use Rattle.rules.specs.Limits.{X, addr_bits, max_wide, max_columns, max_words}
use Rattle.rules.specs.Numbers.{softs}
use Rattle.rules.specs.Value.{Value}
use Rattle.rules.specs.Cell.{ReadPort, Mem, read_wide_log2}
use Rattle.rules.specs.Log.{LogState}
use Rattle.rules.specs.Conditions.{bad_layout}
use Rattle.rules.specs.Geometry.{Layout, all_chunks, soft, columns}
use Rattle.rules.specs.Swizzle.{split_addr}
use Rattle.swizzle_laws.proofs.ReadsCounts.{read_split_of, reads_count_of}
use Rattle.swizzle_reads.specs.Going.{port_trits}

abbrev pub no_port : ReadPort
no_port = record { addr = []; data_len = 0; flip_flop = none }

-- the addresses of the read ports, one after the other, and the trits of the clocked ones
abbrev pub addrs_of : Mem → Layout → List ReadPort → List ℕ → Value
addrs_of m q ps ns = concat_map (λ x. (read_split_of m q x.0 x.1).addr) (pairs ps ns)

abbrev pub trits_of : Mem → Layout → List ReadPort → List ℕ → List ℕ
trits_of m q ps ns = concat_map (λ x. port_trits q (read_split_of m q x.0 x.1) x.0) (pairs ps ns)

-- a port with its wide logs, and a scratch of `room` nets
pub record PortPlanned (q : Layout) (old new : ℕ) (p : ReadPort) (room : ℕ) : Type 0 where
  pub old_max : old ≤ max_wide
  pub new_max : new ≤ max_wide
  pub new_hard : new ≤ q.hard
  pub enough : old - softs old q.soft_mask ≤ new
  pub short : old + length p.addr ≤ addr_bits
  pub data_is : p.data_len ≡ 2 ^ old * q.width
  pub holds : (split_addr q old new p.addr).pieces * p.data_len ≤ room

-- the layout
pub record LayoutPlanned (m : Mem) (q : Layout) : Type 0 where
  pub width_is : m.width ≡ q.width
  pub layout_good : bad_layout q ≡ false
  pub width_some : eqb q.width 0 ≡ false
  pub few : all_chunks q * 2 ^ soft q ≤ max_columns
  pub some : 0 < all_chunks q
  pub columns_some : 0 < columns q

-- ports with their new wide logs and outputs, the state of the log, and what is left of the rooms for nets and for trits
pub record ReadPlanned (m : Mem) (q : Layout) (ps : List ReadPort) (ns : List ℕ) (output : Value) (room : ℕ) (st : LogState) (nets trits : ℕ) : Type 0 where
  pub wides : length ns ≡ length ps
  pub each : (i : ℕ) → i < length ps → PortPlanned q (read_wide_log2 m (get_or ps i no_port)) (get_or ns i 0) (get_or ps i no_port) room
  pub outputs : length output ≡ sum_by (λ p. p.data_len) ps
  pub nets_room : length (addrs_of m q ps ns) ≤ nets
  pub trits-room : length (trits_of m q ps ns) ≤ trits
  pub nets_low : st.next + (reads_count_of m q ps ns).nets < X
  pub words_low : st.used + (reads_count_of m q ps ns).words ≤ max_words
