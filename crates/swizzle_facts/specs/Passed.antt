-- What number 0 of a swizzle says, as plain inequalities over the rules' terms.
use Rattle.std.specs.Prelude.{◌≡◌, ℕ, ◌+◌, ◌-◌, ◌*◌, ◌^◌, ◌%◌, ◌≤◌, ◌<◌, List, [], ◌∷◌, length, get_or}
use Rattle.rules.specs.Limits.{None, addr_bits, max_wide, max_mask, max_columns, max_image}
use Rattle.rules.specs.Numbers.{softs, top_bits}
use Rattle.rules.specs.Value.{Value}
use Rattle.rules.specs.Cell.{WritePort, ReadPort, Mem, write_wide_log2, read_wide_log2}
use Rattle.rules.specs.Geometry.{Layout, row_len_of, soft, all_chunks, all_mems, columns}
use Rattle.rules.specs.Image.{trits, image_size}
use Rattle.rules.specs.Swizzle.{Split}
use Rattle.rules.specs.Beside.Shape.{Small}

-- a layout of a memory whose width and depth are not 0
pub record LayoutPassed (q : Layout) : Type 0 where
  pub small : Small q.depth q.width (row_len_of q) q.unit q.hard
  pub mask_max : q.soft_mask ≤ max_mask
  pub names : (i : ℕ) → i < row_len_of q → (get_or q.entries i 0 ≡ None → ⊥) → get_or q.entries i 0 < q.width
  pub aligned : q.depth % 2 ^ top_bits addr_bits q.soft_mask ≡ 0
  pub entries_some : 0 < row_len_of q
  pub chunks_some : 0 < all_chunks q
  pub chunks_max : all_chunks q * 2 ^ soft q ≤ max_columns
  pub mems_some : 0 < all_mems q
  pub columns_some : 0 < columns q
  pub columns_max : columns q ≤ max_columns
  pub trits_max : trits q ≤ max_image
  pub image_is : image_size q ≡ trits q

-- a port with an old and a new wide log, this address, and data of `size` bits
pub record PortPassed (q : Layout) (old new : ℕ) (addr : Value) (size : ℕ) : Type 0 where
  pub old_max : old ≤ max_wide
  pub new_max : new ≤ max_wide
  pub new_hard : new ≤ q.hard
  pub enough : old - softs old q.soft_mask ≤ new
  pub short : old + length addr ≤ addr_bits
  pub size_is : size ≡ 2 ^ old * q.width

-- its split
pub record SplitPassed (q : Layout) (old new : ℕ) (s : Split) : Type 0 where
  pub old_is : s.old ≡ old
  pub new_is : s.new ≡ new
  pub addr_len : length s.addr ≡ q.hard - new
  pub mux_max : length s.mux_addr ≤ addr_bits
  pub pieces_some : 0 < s.pieces
  pub pieces_max : s.pieces ≤ 524288
  pub pieces_few : s.pieces ≤ 2 ^ length s.mux_addr
  pub numbers_max : 2 ^ old * s.pieces ≤ 8388608
  pub size_max : 2 ^ old * q.width ≤ 2048
  pub nets_max : s.pieces * (2 ^ old * q.width) ≤ 1073741824
  pub entries_max : 2 ^ old * row_len_of q ≤ 4096
  pub wide_max : 2 ^ new ≤ 16
  pub columns_max : 2 ^ new * columns q ≤ 524288

-- ---- of a memory's ports
abbrev pub WritePassed : Mem → Layout → WritePort → ℕ → Type 0
WritePassed m q w n = PortPassed q (write_wide_log2 m w) n w.addr (length w.bits) × (length w.mask ≡ length w.bits)

abbrev pub ReadPassed : Mem → Layout → ReadPort → ℕ → Type 0
ReadPassed m q r n = PortPassed q (read_wide_log2 m r) n r.addr r.data_len

module _ {A : Type 0} where
  -- as many of one list as of the other, and P of each pair
  unfoldable pub EachPair : (A → ℕ → Type 0) → List A → List ℕ → Type 0
  EachPair P [] [] = Unit
  EachPair P [] (n ∷ ns) = ⊥
  EachPair P (a ∷ l) [] = ⊥
  EachPair P (a ∷ l) (n ∷ ns) = P a n × EachPair P l ns
