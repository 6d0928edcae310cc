-- A write port by its steps, and the loop over the ports.
use mathlib.Core.Path.{◌≡◌, refl, sym, ap, ◌∙◌, subst}
use Prim.Native.Nat.{ℕ, suc, ◌+◌, ◌*◌, ◌<◌, ◌≤◌, min}
use native.Mathlib.Numerals.{add-one}
use native.Mathlib.Omega.{arith}
use mathlib.Core.Bool.{true, false}
use mathlib.Core.List.{List, [], ◌∷◌, ◌++◌}
use lib.ListN.{length, take, drop, get_or, drop_of_length-le, length-take, length-drop}
use lib.Seq.{sets, drop-cons, get_or-take}
use lib.Dec.{leb}
use borrow.Author.Tests.{le-leb, leb-true}
use Rattle.lists.proofs.Choice.{and_true}
use Rattle.lists.specs.Lists.{part}
use Rattle.rules.specs.Limits.{max_columns}
use Rattle.rules.specs.Value.{Value}
use Rattle.rules.specs.Cell.{WritePort, Mem, wide_log2, write_wide_log2, write_at}
use Rattle.rules.specs.Geometry.{Layout}
use Rattle.rules.specs.Log.{Trace, ◌>>=◌, done}
use Rattle.rules.specs.Swizzle.{split_addr}
use Rattle.rules.specs.Beside.Chain.{Chains}
use Rattle.rules.proofs.Chain.{chains_bind, chains_done, chains_if}
use Rattle.log_entries.specs.Emission.{Lent}
use Rattle.port_transparency.specs.Gave.{Gave}
use Rattle.port_transparency.proofs.Gave.{gave_done, gave_bind, gave_same}
use Rattle.net_memory.specs.declared.MemoryWritePort.{MemoryWritePort}
use Rattle.net_memory.specs.declared.Memory.{Memory}
use Rattle.net_memory.specs.View.{no_write_port, memory_of}
use Rattle.net_memory.proofs.Ports.{write_of_view}
use Rattle.swizzle_laws.specs.Stores.{spill_at, spill_masks, piece_by}
use Rattle.swizzle_split.specs.declared.Split.{Split}
use Rattle.std.specs.Prelude.{Option, None, Some, set}
use Rattle.swizzle_split.specs.Rows.{rows_of}
use Rattle.swizzle_split.specs.Steps.{can_split, Answers, Gives, Splits}
use Rattle.swizzle_columns.specs.declared.WidePort.{WidePort}
use Rattle.swizzle_columns.specs.Wide.{bits_of}
use Rattle.swizzle_write.specs.Wide.{can_write, port_masks, masks_of}
use Rattle.swizzle_write.proofs.Pieces.{chains_piece}
use Rattle.swizzle_writes.specs.Placed.{addr_room, size_of, nets_of, Placed, roomy, wide_by_of, placed, placed_if, placed_at, Filled, filled_by, placed_from}
use Rattle.swizzle_writes.proofs.Rooms.{part_back}

-- ---- the entries are in sequence
chains_spill : (M R U L : ℕ) (starts : ℕ → List ℕ) (mux mask : Value) (xs l : List ℕ) → Chains (spill_masks M R U L starts mux mask xs l)
unfolding spill_masks
chains_spill M R U L starts mux mask [] l = chains_done l
chains_spill M R U L starts mux mask (x ∷ xs) l = chains_bind (piece_by mux mask x) _ (chains_piece mux mask x) (λ k. chains_spill M R U L starts mux mask xs (spill_at M R U L (starts x) k l))

chains_port : (p : WidePort) (mux es mask : List ℕ) (size : ℕ) → Chains (port_masks p mux es mask size)
unfolding port_masks
chains_port p mux es mask size = chains_spill _ _ _ _ _ mux _ _ _

chains_masks : (p : WidePort) (mux es mask room : List ℕ) → Chains (masks_of p mux es mask room)
unfolding masks_of
chains_masks p mux es mask room = chains_if (can_write p (length es) (length mux) (length room)) _ _ (chains_port p mux es mask (length room)) (chains_done room)

chains_nets : (p : WidePort) (mux es bits mask : List ℕ) (from size : ℕ) (room : List ℕ) → Chains (nets_of p mux es bits mask from size room)
unfolding nets_of
chains_nets p mux es bits mask from size room = chains_bind _ _ (chains_masks p mux es mask _) (λ k. chains_done _)

chains_placed : (p : WidePort) (hw mux es bits mask : List ℕ) (at : ℕ) (room : List ℕ) → Chains (placed p hw mux es bits mask at room)
unfolding placed
chains_placed p hw mux es bits mask at room = chains_if (roomy p (length hw) at (length room)) _ _ (chains_bind _ _ (chains_nets p mux es bits mask _ _ _) (λ r. chains_done _)) (chains_done _)

chains_placed_if : (q : Layout) (mems old new : ℕ) (addr bits mask : Value) (at : ℕ) (room : List ℕ) → Chains (placed_if q mems old new addr bits mask at room)
unfolding placed_if
chains_placed_if q mems old new addr bits mask at room = chains_if (can_split q old new (length addr)) _ _ (chains_placed _ _ _ _ bits mask at room) (chains_done _)

pub chains_placed_at : (m : Mem) (q : Layout) (mems j new at : ℕ) (room : List ℕ) → Chains (placed_at m q mems j new at room)
unfolding placed_at
chains_placed_at m q mems j new at room = chains_placed_if q mems _ new _ _ _ at room

-- ---- data and mask
pub data_back : (p : WidePort) (es bits : List ℕ) (from size n : ℕ) (room ys : List ℕ) → n ≡ size → from + (size + size) ≤ length room → length ys ≡ length (take n (drop from room))
    → ys ≡ bits_of p es bits (take n (drop from room)) → take from room ++ (ys ++ drop n (drop from room)) ≡ sets room from (bits_of p es bits (part from size room))
data_back p es bits from size n room ys en h el e =
    part_back from n room ys (el ∙ part_length) (omega arith) ∙ ap (λ (v : List ℕ). sets room from v) e ∙ ap (λ (k : ℕ). sets room from (bits_of p es bits (part from k room))) en
  where
    part_length : length (take n (drop from room)) ≡ n
    part_length = omega (arith, length-take n (drop from room), length-drop from room)

-- the same for the mask
pub mask_back : (mid size n : ℕ) (room ys : List ℕ) → n ≡ size → mid + size ≤ length room → length ys ≡ length (take n (drop mid room)) → take mid room ++ (ys ++ drop n (drop mid room)) ≡ sets room mid ys
mask_back mid size n room ys en h el = part_back mid n room ys (el ∙ part_length) (omega arith)
  where
    part_length : length (take n (drop mid room)) ≡ n
    part_length = omega (arith, length-take n (drop mid room), length-drop mid room)

pub nets_gave : (p : WidePort) (mux es bits mask : List ℕ) (from size n : ℕ) (room r1 r2 k : List ℕ) (l l1 : Lent) → n ≡ size
    → r1 ≡ sets room from (bits_of p es bits (part from size room)) → Gave (masks_of p mux es mask (part (from + size) n r1)) l l1 k → r2 ≡ sets r1 (from + size) k
    → Gave (nets_of p mux es bits mask from size room) l l1 r2
unfolding nets_of
nets_gave p mux es bits mask from size n room r1 r2 k l l1 en e g f =
    let r = sets room from (bits_of p es bits (part from size room)) in
    let h : Gave (masks_of p mux es mask (part (from + size) size r)) l l1 k = rw (en, e) at g in
    let s : r2 ≡ sets r (from + size) k = f ∙ ap (λ (x : List ℕ). sets x (from + size) k) e in
    rw s (gave_same (masks_of p mux es mask (part (from + size) size r)) (λ x. sets r (from + size) x) l l1 k (chains_masks p mux es mask (part (from + size) size r)) h)

-- ---- a port with its address and mux address
module _ (p : WidePort) (len at room : ℕ) where
  pub roomy_fits : len ≤ addr_room → p.mems * p.unit ≤ max_columns → at + len + (size_of p + size_of p) ≤ room → roomy p len at room ≡ true
  unfolding roomy
  roomy_fits a b c = rw (le-leb len addr_room a, le-leb (p.mems * p.unit) max_columns b, le-leb (at + len + (size_of p + size_of p)) room c)

  -- what the test says
  pub roomy_says : roomy p len at room ≡ true → (len ≤ addr_room) × (p.mems * p.unit ≤ max_columns) × (at + len + (size_of p + size_of p) ≤ room)
  unfolding roomy
  roomy_says e =
      let a = and_true (leb len addr_room) _ e in
      let b = and_true (leb (p.mems * p.unit) max_columns) _ a.1 in
      (leb-true _ _ a.0, leb-true _ _ b.0, leb-true _ _ b.1)

module _ (p : WidePort) (hw mux es bits mask : List ℕ) (at : ℕ) (room : List ℕ) (l : Lent) where
  pub placed_not : roomy p (length hw) at (length room) ≡ false → Gave (placed p hw mux es bits mask at room) l l (record { room = room; next = at; addr_len_of = 0 })
  unfolding placed
  placed_not e = rw e (gave_done {A = Placed} (record { room = room; next = at; addr_len_of = 0 }) l)

  pub placed_gave : (s : ℕ) (l1 : Lent) (r1 r2 : List ℕ) → s ≡ size_of p → roomy p (length hw) at (length room) ≡ true → r1 ≡ sets room at hw
      → Gave (nets_of p mux es bits mask (at + length hw) s r1) l l1 r2 → Gave (placed p hw mux es bits mask at room) l l1 (record { room = r2; next = at + length hw + (s + s); addr_len_of = length hw })
  unfolding placed
  placed_gave s l1 r1 r2 es' e f g =
      let t = nets_of p mux es bits mask (at + length hw) (size_of p) (sets room at hw) in
      let h : Gave t l l1 r2 = rw (es', f) at g in
      rw (e, es') (gave_same t (λ r. record { room = r; next = at + length hw + (size_of p + size_of p); addr_len_of = length hw }) l l1 r2 (chains_nets p mux es bits mask _ _ _) h)

-- ---- from its address
module _ (q : Layout) (mems old new : ℕ) (addr bits mask : Value) (at : ℕ) (room : List ℕ) (l : Lent) where
  pub port_not : can_split q old new (length addr) ≡ false → Gave (placed_if q mems old new addr bits mask at room) l l (record { room = room; next = at; addr_len_of = 0 })
  unfolding placed_if
  port_not e = rw e (gave_done {A = Placed} (record { room = room; next = at; addr_len_of = 0 }) l)

  pub port_gave : (l1 : Lent) (v : Placed) (p : WidePort) (hw mux : Value) → can_split q old new (length addr) ≡ true → p ≡ wide_by_of q mems old new addr
      → hw ≡ (split_addr q old new addr).addr → mux ≡ (split_addr q old new addr).mux_addr → Gave (placed p hw mux q.entries bits mask at room) l l1 v → Gave (placed_if q mems old new addr bits mask at room) l l1 v
  unfolding placed_if
  port_gave l1 v p hw mux e ep eh em g = rw e (rw (ep, eh, em) at g)

-- ---- write port j of a memory: its nets are those that every list of trits has it with
wide_is : (m : Mem) (w : WritePort) → wide_log2 m.width (length w.bits) ≡ write_wide_log2 m w
unfolding write_wide_log2
wide_is m w = refl

same_width : (m : Memory) (nets trits : List ℕ) → m.width ≡ (memory_of m nets trits).width
unfolding memory_of
same_width m nets trits = refl

pub at_gave : (m : Memory) (nets own trits : List ℕ) (q : Layout) (mems j new at : ℕ) (room : List ℕ) (w : WritePort) (l l1 : Lent) (v : Placed) → w ≡ write_at (memory_of m nets own) j
    → Gave (placed_if q mems (wide_log2 m.width (length w.bits)) new w.addr w.bits w.mask at room) l l1 v → Gave (placed_at (memory_of m nets trits) q mems j new at room) l l1 v
unfolding placed_at
at_gave m nets own trits q mems j new at room w l l1 v e g =
    let M = memory_of m nets trits in
    let same : w ≡ write_at M j = e ∙ write_of_view m nets own j ∙ sym (write_of_view m nets trits j) in
    let k : wide_log2 m.width (length w.bits) ≡ write_wide_log2 M (write_at M j) = (λ i. wide_log2 (same_width m nets trits i) (length (same i).bits)) ∙ wide_is M (write_at M j) in
    subst (λ (t : Trace Placed). Gave t l l1 v) (λ i. placed_if q mems (k i) new (same i).addr (same i).bits (same i).mask at room) g

-- ---- the loop: what is left from port j on gives the whole
module _ (m : Mem) (q : Layout) (mems : ℕ) (ps : List MemoryWritePort) (ns : List ℕ) where
  abbrev pub Going : Filled → Lent → ℕ → Filled → Lent → Type 0
  Going f₀ l₀ j f l = (l' : Lent) (v : Filled) → Gave (placed_from m q mems ps j (drop j ns) f) l l' v → Gave (placed_from m q mems ps 0 ns f₀) l₀ l' v

  from_cons : (j : ℕ) (f : Filled) → j < length ns
      → placed_from m q mems ps j (drop j ns) f ≡ (placed_at m q mems j (get_or ns j 0) f.at f.room >>= λ x. placed_from m q mems ps (j + 1) (drop (j + 1) ns) (filled_by ps j (get_or ns j 0) f x))
  unfolding placed_from
  from_cons j f h =
      let n = get_or ns j 0 in
      ap (λ (xs : List ℕ). placed_from m q mems ps j xs f) (drop-cons ns j 0 h)
      ∙ ap (λ (k : ℕ). placed_at m q mems j n f.at f.room >>= λ x. placed_from m q mems ps k (drop (suc j) ns) (filled_by ps j n f x)) (sym (add-one j))
      ∙ ap (λ (k : ℕ). placed_at m q mems j n f.at f.room >>= λ x. placed_from m q mems ps (j + 1) (drop k ns) (filled_by ps j n f x)) (sym (add-one j))

  pub going_turn : (f₀ : Filled) (l₀ : Lent) (j : ℕ) (f : Filled) (x : Placed) (l l1 : Lent) → j < length ns → Going f₀ l₀ j f l
      → Gave (placed_at m q mems j (get_or ns j 0) f.at f.room) l l1 x → Going f₀ l₀ (j + 1) (filled_by ps j (get_or ns j 0) f x) l1
  going_turn f₀ l₀ j f x l l1 h inv g =
      let n = get_or ns j 0 in
      λ l' v k. inv l' v (rw (from_cons j f h)
      (gave_bind (placed_at m q mems j n f.at f.room) (λ y. placed_from m q mems ps (j + 1) (drop (j + 1) ns) (filled_by ps j n f y)) l l1 l' x v (chains_placed_at m q mems j n f.at f.room) g k))

  from_nil : (j : ℕ) (f : Filled) → length ns ≤ j → placed_from m q mems ps j (drop j ns) f ≡ done f
  unfolding placed_from
  from_nil j f h = ap (λ (xs : List ℕ). placed_from m q mems ps j xs f) (drop_of_length-le ns h)

  pub going_end : (f₀ : Filled) (l₀ : Lent) (j : ℕ) (f : Filled) (l : Lent) → length ns ≤ j → Going f₀ l₀ j f l → Gave (placed_from m q mems ps 0 ns f₀) l₀ l f
  going_end f₀ l₀ j f l h inv = inv l f (rw (from_nil j f h) (gave_done f l))

-- ---- what a split answers
module _ (q : Layout) (old new : ℕ) (addr hw₀ hw mux₀ mux : Value) (r : Option Split) (a : Answers q old new addr hw₀ hw mux₀ mux r) where
  pub refused_by_lem : r ≡ None → can_split q old new (length addr) ≡ false
  refused_by_lem e = (rw e at a).cannot

  pub accepted_by : (s : Split) → r ≡ Some s → Gives q old new addr hw₀ hw mux₀ mux s
  accepted_by s e = rw e at a

pub wide_by : (q : Layout) (mems old new : ℕ) (addr hw₀ hw mux₀ mux : Value) (s : Split) (p : WidePort) → Splits q old new addr hw₀ hw mux₀ mux s
    → p ≡ record { mems = mems; unit = q.unit; rows = rows_of s.new; olds = rows_of s.old; width = q.width; chunks = s.mask; pieces = s.pieces } → p ≡ wide_by_of q mems old new addr
wide_by q mems old new addr hw₀ hw mux₀ mux s p g e =
    e ∙ (λ i. record { mems = mems; unit = q.unit; rows = rows_of (g.new_is i); olds = rows_of (g.old_is i); width = q.width; chunks = g.mask_is i; pieces = g.pieces_are i })

-- a turn, with the new wide log by its place among all, and the port of the result by the memory's own
pub turn_by : (m : Mem) (q : Layout) (mems : ℕ) (ps : List MemoryWritePort) (k : ℕ) (wide : List ℕ) (f₀ : Filled) (l₀ : Lent) (j n : ℕ) (own : MemoryWritePort) (f : Filled) (x : Placed) (l l1 : Lent)
    → j < k → j < length wide → n ≡ get_or wide j 0 → own ≡ get_or ps j no_write_port → Going m q mems ps (take k wide) f₀ l₀ j f l → Gave (placed_at m q mems j n f.at f.room) l l1 x
    → Going m q mems ps (take k wide) f₀ l₀ (j + 1) (record { room = x.room; at = x.next; ports = set f.ports j (record { addr_len = x.addr_len_of; wide = n; clock = own.clock }) }) l1
turn_by m q mems ps k wide f₀ l₀ j n own f x l l1 h g en eo inv d =
    let t : get_or (take k wide) j 0 ≡ get_or wide j 0 = rw get_or-take in
    let e : get_or (take k wide) j 0 ≡ n = t ∙ sym en in
    let b : j < length (take k wide) = omega (arith, length-take k wide) in
    subst (λ (p : MemoryWritePort). Going m q mems ps (take k wide) f₀ l₀ (j + 1) (record { room = x.room; at = x.next; ports = set f.ports j (record { addr_len = x.addr_len_of; wide = n; clock = p.clock }) }) l1) (sym eo)
    (subst (λ (w : ℕ). Going m q mems ps (take k wide) f₀ l₀ (j + 1) (filled_by ps j w f x) l1) e
    (going_turn m q mems ps (take k wide) f₀ l₀ j f x l l1 b inv (subst (λ (w : ℕ). Gave (placed_at m q mems j w f.at f.room) l l1 x) (sym e) d)))

pub end_by : (m : Mem) (q : Layout) (mems : ℕ) (ps : List MemoryWritePort) (k : ℕ) (wide : List ℕ) (f₀ : Filled) (l₀ : Lent) (j : ℕ) (f : Filled) (l : Lent)
    → min k (length wide) ≤ j → Going m q mems ps (take k wide) f₀ l₀ j f l → Gave (placed_from m q mems ps 0 (take k wide) f₀) l₀ l f
end_by m q mems ps k wide f₀ l₀ j f l h inv = going_end m q mems ps (take k wide) f₀ l₀ j f l (omega (arith, length-take k wide)) inv
