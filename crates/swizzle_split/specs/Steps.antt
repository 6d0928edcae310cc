-- One bit of an address after the other.
use Rattle.std.specs.Prelude.{◌≡◌, ℕ, ◌+◌, ◌-◌, ◌*◌, ◌/◌, ◌^◌, ◌≤◌, ◌<◌, Bool, true, false, Option, None, Some, ◌&&◌, leb, List, length, set}
use Rattle.std.proofs.lemmas.List.Edits.{sets}
use Rattle.rules.specs.Limits.{addr_bits, max_wide, max_columns}
use Rattle.rules.specs.Numbers.{softs}
use Rattle.rules.specs.Value.{Value}
use Rattle.rules.specs.Geometry.{Layout, all_chunks, soft}
use Rattle.rules.specs.Swizzle.{Role, Soft, Wide, Row, High, roles, low_roles, row_nets, mux_nets, mux_roles, count_doubles, split_addr}
use Rattle.swizzle_laws.specs.Masks.{rows_mask}
use Rattle.swizzle_split.specs.declared.Taking.{Taking}
use Rattle.swizzle_split.specs.declared.Low.{Low}
use Rattle.swizzle_split.specs.declared.Split.{Split}

-- what a bit of this role leaves
abbrev pub taken : Role → Taking → Taking
taken Soft t = record { mask = t.mask / 2; wide = t.wide; rows = t.rows; hw = t.hw; mux = t.mux + 1; doubled = t.doubled + 1; weight = 2 * t.weight; row_mask = t.row_mask }
taken Wide t = record { mask = t.mask / 2; wide = t.wide - 1; rows = t.rows; hw = t.hw; mux = t.mux + 1; doubled = t.doubled + 1; weight = 2 * t.weight; row_mask = t.row_mask + t.weight }
taken Row t = record { mask = t.mask / 2; wide = t.wide; rows = t.rows - 1; hw = t.hw + 1; mux = t.mux; doubled = t.doubled; weight = t.weight; row_mask = t.row_mask }
taken High t = record { mask = t.mask / 2; wide = t.wide; rows = t.rows; hw = t.hw; mux = t.mux + 1; doubled = t.doubled; weight = 2 * t.weight; row_mask = t.row_mask }

-- a net of the result's address, or of the mux address
abbrev pub to_row : Role → Taking → ℕ → List ℕ → List ℕ
to_row Soft t a l = l
to_row Wide t a l = l
to_row Row t a l = set l t.hw a
to_row High t a l = l

abbrev pub to_mux : Role → Taking → ℕ → List ℕ → List ℕ
to_mux Soft t a l = set l t.mux a
to_mux Wide t a l = set l t.mux a
to_mux Row t a l = l
to_mux High t a l = set l t.mux a

-- the roles of the bits that are left
abbrev pub roles_of : Taking → Value → List Role
roles_of t rest = roles t.mask t.wide t.rows rest

-- a bit more can be counted
pub record Roomy (t : Taking) : Type 0 where
  pub hw_max : t.hw ≤ 4294967294
  pub mux_max : t.mux ≤ 4294967294
  pub doubled_max : t.doubled ≤ 4294967294
  pub weight_max : t.weight ≤ 4294967296
  pub mask_max : t.row_mask ≤ 4294967296

-- where the walk over an address may start
pub record Starts (t : Taking) (addr : Value) : Type 0 where
  pub hw_none : t.hw ≡ 0
  pub mux_none : t.mux ≡ 0
  pub doubled_none : t.doubled ≡ 0
  pub short : length addr ≤ 4294967294
  pub fits : t.weight * 2 ^ length addr ≤ 4294967296
  pub low : t.row_mask < t.weight

-- what the walk over an address leaves
pub record Took (t₀ t : Taking) (addr hw₀ hw mux₀ mux : Value) : Type 0 where
  pub hw_is : hw ≡ sets hw₀ 0 (row_nets (roles_of t₀ addr) addr)
  pub hw_count : t.hw ≡ length (row_nets (roles_of t₀ addr) addr)
  pub mux_is : mux ≡ sets mux₀ 0 (mux_nets (roles_of t₀ addr) addr)
  pub mux_count : t.mux ≡ length (mux_nets (roles_of t₀ addr) addr)
  pub doubled_is : t.doubled ≡ count_doubles (roles_of t₀ addr)
  pub mask_is : t.row_mask ≡ t₀.row_mask + t₀.weight * rows_mask (mux_roles (roles_of t₀ addr))
  pub mask_low : t.row_mask < 4294967296

-- the bits below the address
abbrev pub low_by : ℕ → ℕ → Low
low_by old mask = record { mask = mask / 2 ^ old; softs = softs old mask; weight = 2 ^ old; row_mask = rows_mask (low_roles old mask) }

-- where the walk over an address starts
abbrev pub start_by : ℕ → ℕ → ℕ → ℕ → Taking
start_by mask hard old new = record {
  mask = mask / 2 ^ old;
  wide = new - (old - softs old mask);
  rows = hard - new;
  hw = 0;
  mux = 0;
  doubled = 0;
  weight = 2 ^ old;
  row_mask = rows_mask (low_roles old mask);
}

-- ---- the whole split
pub record Fits (q : Layout) (old new len : ℕ) : Type 0 where
  pub old_max : old ≤ max_wide
  pub new_max : new ≤ max_wide
  pub new_hard : new ≤ q.hard
  pub hard_max : q.hard ≤ addr_bits
  pub enough : old - softs old q.soft_mask ≤ new
  pub short : old + len ≤ addr_bits
  pub few : all_chunks q * 2 ^ soft q ≤ max_columns

-- the bits of a piece's number that select a row
abbrev pub row_bits : Layout → ℕ → ℕ → Value → ℕ
row_bits q old new addr =
    rows_mask (low_roles old q.soft_mask) + 2 ^ old * rows_mask (mux_roles (roles (q.soft_mask / 2 ^ old) (new - (old - softs old q.soft_mask)) (q.hard - new) addr))

-- what is left in the two lent rooms, and the numbers
pub record Splits (q : Layout) (old new : ℕ) (addr hw₀ hw mux₀ mux : Value) (r : Split) : Type 0 where
  pub old_is : r.old ≡ old
  pub new_is : r.new ≡ new
  pub hw_is : hw ≡ sets hw₀ 0 (split_addr q old new addr).addr
  pub hw_len : r.hw_len ≡ length (split_addr q old new addr).addr
  pub mux_is : mux ≡ sets mux₀ 0 (split_addr q old new addr).mux_addr
  pub mux_len : r.mux_len ≡ length (split_addr q old new addr).mux_addr
  pub pieces_are : r.pieces ≡ (split_addr q old new addr).pieces
  pub mask_is : r.mask ≡ 2 ^ addr_bits - 1 - row_bits q old new addr

-- ---- any numbers
-- the limits within which an address is split
unfoldable pub can_split : Layout → ℕ → ℕ → ℕ → Bool
can_split q old new len =
    leb old max_wide && (leb new max_wide && (leb new q.hard && (leb q.hard addr_bits
    && (leb (old - softs old q.soft_mask) new && (leb (old + len) addr_bits && leb (all_chunks q * 2 ^ soft q) max_columns)))))

-- what a split gives and leaves: nothing is changed where it is refused
pub record Refuses (q : Layout) (old new : ℕ) (addr hw₀ hw mux₀ mux : Value) : Type 0 where
  pub cannot : can_split q old new (length addr) ≡ false
  pub hw_kept : hw ≡ hw₀
  pub mux_kept : mux ≡ mux₀

pub record Gives (q : Layout) (old new : ℕ) (addr hw₀ hw mux₀ mux : Value) (r : Split) : Type 0 where
  pub can : can_split q old new (length addr) ≡ true
  pub splits : Splits q old new addr hw₀ hw mux₀ mux r

abbrev pub Answers : Layout → ℕ → ℕ → Value → Value → Value → Value → Value → Option Split → Type 0
Answers q old new addr hw₀ hw mux₀ mux None = Refuses q old new addr hw₀ hw mux₀ mux
Answers q old new addr hw₀ hw mux₀ mux (Some r) = Gives q old new addr hw₀ hw mux₀ mux r
