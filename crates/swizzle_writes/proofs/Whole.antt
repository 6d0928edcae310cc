-- All write ports of a plan whose number is 0: the machine's trace is the rules', and the room holds the ports' nets one after the other.
use mathlib.Core.Path.{◌≡◌, refl, sym, ap, ◌∙◌}
use Prim.Native.Nat.{ℕ, suc, ◌+◌, ◌*◌, ◌^◌, ◌<◌, ◌≤◌, min}
use native.Mathlib.Nat.{add-zero, mul_left_comm}
use native.Mathlib.Omega.{arith}
use mathlib.Core.Bool.{false}
use mathlib.Core.List.{List, [], ◌∷◌, ◌++◌}
use lib.ListN.{length, drop, get_or, set, length-append}
use lib.Seq.{sets, length-sets, get_or-drop, drop-drop}
use native.Mathlib.Numerals.{add-one}
use Rattle.lists.specs.Lists.{concat_map}
use Rattle.lists.proofs.Store.{sets_at}
use Rattle.rules.specs.Limits.{max_ports}
use Rattle.rules.specs.Value.{Value, Pos}
use Rattle.rules.specs.Cell.{WritePort, Mem, write_at, write_wide_log2}
use Rattle.rules.specs.Log.{Trace, ◌>>=◌, done}
use Rattle.rules.specs.Geometry.{Layout, all_mems, columns}
use Rattle.rules.specs.Swizzle.{Split, split_addr, swizzle_write, swizzle_writes, WideWrite}
use Rattle.rules.proofs.Traces.{bind_value}
use Rattle.rules.proofs.Done.{done_value}
use Rattle.log_entries.specs.Emission.{Lent, is_over, run}
use Rattle.log_entries.proofs.Emission.{run-done, run_then, run_same, run_next, run-held}
use Rattle.port_transparency.specs.Gave.{Gave}
use Rattle.net_value.specs.View.{control_of}
use Rattle.net_memory.specs.declared.MemoryWritePort.{MemoryWritePort}
use Rattle.net_memory.specs.declared.Memory.{Memory}
use Rattle.net_memory.specs.View.{no_write_port, memory_of}
use Rattle.net_memory.proofs.Ports.{write_of_view, writes_at}
use Rattle.swizzle_laws.specs.Order.{ordered}
use Rattle.swizzle_laws.proofs.Parts.{length_ordered}
use Rattle.swizzle_laws.proofs.Whole.{mask_whole}
use Rattle.swizzle_laws.proofs.WriteCounts.{counted_write}
use Rattle.swizzle_writes.specs.Placed.{size_of, wide_by_of, Placed, placed_if, placed_at, Filled, port_by, filled_by, placed_from, none_filled}
use Rattle.swizzle_writes.specs.Planned.{LayoutPlanned, PortPlanned, port_nets, total_nets, PortsPlanned, WritePlanned, wide_nets, ports_by, filled_with}
use Rattle.swizzle_split.proofs.Rows.{rows_are}
use Rattle.swizzle_writes.proofs.Planned.{new_is, columns_are, bits_size, planned_run, planned_value}
use Rattle.swizzle_writes.proofs.Steps.{chains_placed_at}

-- ---- the next write port
pub write_at_lem : (m : Mem) (j : ℕ) (w : WritePort) (ws : List WritePort) → drop j m.writes ≡ w ∷ ws → write_at m j ≡ w
unfolding write_at
write_at_lem m j w ws e =
    let d : WritePort = record { addr = []; bits = []; mask = []; clock = Pos 0 } in
    sym (get_or-drop j m.writes 0 d ∙ ap (λ (k : ℕ). get_or m.writes k d) (add-zero j)) ∙ ap (λ (l : List WritePort). get_or l 0 d) e

pub write_rest : (m : Mem) (j : ℕ) (w : WritePort) (ws : List WritePort) → drop j m.writes ≡ w ∷ ws → drop (suc j) m.writes ≡ ws
write_rest m j w ws e = sym (drop-drop 1 j m.writes ∙ ap (λ (k : ℕ). drop k m.writes) (add-one j)) ∙ ap (λ (l : List WritePort). drop 1 l) e

-- ---- one port of the rules
wide_nets_lem : (q : Layout) (s : Split) (w : WritePort) (n : ℕ)
    → wide_nets q (swizzle_write q s w n).value ≡ s.addr ++ (ordered q s (swizzle_write q s w n).value.port.bits ++ ordered q s (swizzle_write q s w n).value.port.mask)
unfolding wide_nets swizzle_write ◌>>=◌ done
wide_nets_lem q s w n = refl

writes_cons : (m : Mem) (q : Layout) (w : WritePort) (ws : List WritePort) (n : ℕ) (ns : List ℕ)
    → swizzle_writes m q (w ∷ ws) (n ∷ ns) ≡ (swizzle_write q (split_addr q (write_wide_log2 m w) n w.addr) w >>= λ x. (swizzle_writes m q ws ns >>= λ xs. done (x ∷ xs)))
unfolding swizzle_writes
writes_cons m q w ws n ns = refl

from_cons : (m : Mem) (q : Layout) (mems : ℕ) (ps : List MemoryWritePort) (j n : ℕ) (ns : List ℕ) (f : Filled)
    → placed_from m q mems ps j (n ∷ ns) f ≡ (placed_at m q mems j n f.at f.room >>= λ x. placed_from m q mems ps (suc j) ns (filled_by ps j n f x))
unfolding placed_from
from_cons m q mems ps j n ns f = refl

at_is : (m : Mem) (q : Layout) (mems j n at : ℕ) (room : List ℕ) (w : WritePort) → write_at m j ≡ w → placed_at m q mems j n at room ≡ placed_if q mems (write_wide_log2 m w) n w.addr w.bits w.mask at room
unfolding placed_at
at_is m q mems j n at room w e = λ i. placed_if q mems (write_wide_log2 m (e i)) n (e i).addr (e i).bits (e i).mask at room

size_is : (q : Layout) (old n : ℕ) (addr : Value) → n ≤ 4 → size_of (wide_by_of q (all_mems q) old n addr) ≡ 2 ^ n * columns q
size_is q old n addr h = λ i. rows_are n h i * sym (columns_are q) i

nets_are : (m : Mem) (q : Layout) (w : WritePort) (n : ℕ) → port_nets m q w n ≡ length (split_addr q (write_wide_log2 m w) n w.addr).addr + (2 ^ n * columns q + 2 ^ n * columns q)
unfolding port_nets
nets_are m q w n = refl

total_cons : (m : Mem) (q : Layout) (w : WritePort) (ws : List WritePort) (n : ℕ) (ns : List ℕ) → total_nets m q (w ∷ ws) (n ∷ ns) ≡ port_nets m q w n + total_nets m q ws ns
unfolding total_nets
total_cons m q w ws n ns = refl

-- ---- the whole
module _ (m : Mem) (q : Layout) (ps : List MemoryWritePort) (lp : LayoutPlanned q) where
  pub record Same (j : ℕ) (ws : List WritePort) (ns : List ℕ) (f : Filled) (l : Lent) : Type 0 where
    pub ran : run (placed_from m q (all_mems q) ps j ns f) l ≡ run (swizzle_writes m q ws ns) l
    pub value : is_over (run (swizzle_writes m q ws ns) l).state ≡ false
        → (placed_from m q (all_mems q) ps j ns f l.state.next).value ≡ filled_with m q ps j ws ns f (swizzle_writes m q ws ns l.state.next).value

  none : (j : ℕ) (f : Filled) (l : Lent) → Same j [] [] f l
  unfolding placed_from swizzle_writes filled_with total_nets ports_by done
  none j f l = record {
    ran = run-done f l ∙ sym (run-done {A = List WideWrite} [] l);
    value = λ o. λ i. record { room = f.room; at = sym (add-zero f.at) i; ports = f.ports };
  }

  -- the first port, and then the rest
  module _ (j : ℕ) (w : WritePort) (ws : List WritePort) (n : ℕ) (ns : List ℕ) (f : Filled) (l : Lent) (here : write_at m j ≡ w) (pp : PortPlanned q (write_wide_log2 m w) n w.addr)
      (enough : f.at + port_nets m q w n ≤ length f.room) where
    abbrev old : ℕ
    old = write_wide_log2 m w

    abbrev s : Split
    s = split_addr q old n w.addr

    abbrev t : Trace Placed
    t = placed_at m q (all_mems q) j n f.at f.room

    abbrev t' : Trace WideWrite
    t' = swizzle_write q s w

    abbrev k : ℕ
    k = l.state.next

    abbrev size : ℕ
    size = size_of (wide_by_of q (all_mems q) old n w.addr)

    room_is : f.at + length s.addr + (size + size) ≡ f.at + port_nets m q w n
    room_is = let e = size_is q old n w.addr pp.new_max in omega (arith, nets_are m q w n, e)

    has : f.at + length s.addr + (size + size) ≤ length f.room
    has = omega (arith, room_is, enough)

    first_run : run t l ≡ run t' l
    first_run = ap (λ (x : Trace Placed). run x l) (at_is m q (all_mems q) j n f.at f.room w here) ∙ planned_run q old n w lp pp f.at f.room has l

    abbrev pub after : Placed
    after = record { room = sets f.room f.at (wide_nets q (t' k).value); next = f.at + port_nets m q w n; addr_len_of = length s.addr }

    first_value : (t k).value ≡ after
    first_value =
        ap (λ (x : Trace Placed). (x k).value) (at_is m q (all_mems q) j n f.at f.room w here) ∙ planned_value q old n w lp pp f.at f.room has k
        ∙ (λ i. record { room = sets f.room f.at (sym (wide_nets_lem q s w k) i); next = room_is i; addr_len_of = length s.addr })

    abbrev pub g : Filled
    g = filled_by ps j n f after

    nets_size : length (wide_nets q (t' k).value) ≡ port_nets m q w n
    nets_size =
        let a = ordered q s (t' k).value.port.bits in
        let b = ordered q s (t' k).value.port.mask in
        let x = bits_size q old n w lp pp k in
        let y : length b ≡ size = length_ordered q s (t' k).value.port.mask (mask_whole q s w k) ∙ mul_left_comm (all_mems q) (2 ^ s.new) q.unit
        ∙ ap (λ (i : ℕ). i * (all_mems q * q.unit)) (ap (λ (i : ℕ). 2 ^ i) (new_is q old n w.addr) ∙ sym (rows_are n pp.new_max)) in
        ap length (wide_nets_lem q s w k) ∙ omega (arith, length-append s.addr (a ++ b), length-append a b, x, y, room_is)

    pub rest_fits : f.at + total_nets m q (w ∷ ws) (n ∷ ns) ≤ length f.room → g.at + total_nets m q ws ns ≤ length g.room
    rest_fits h = omega (arith, total_cons m q w ws n ns, length-sets f.room f.at (wide_nets q (t' k).value))

    abbrev F : Placed → Trace Filled
    F x = placed_from m q (all_mems q) ps (suc j) ns (filled_by ps j n f x)

    abbrev G : WideWrite → Trace (List WideWrite)
    G x = (swizzle_writes m q ws ns >>= λ xs. done (x ∷ xs))

    right : run (swizzle_writes m q ws ns) (run t' l) ≡ run (swizzle_writes m q (w ∷ ws) (n ∷ ns)) l
    right =
        sym (run_same (swizzle_writes m q ws ns) (λ xs. (t' k).value ∷ xs) (run t' l))
        ∙ run_then l (run t' l) (run (G (t' k).value) (run t' l)) t' G (t' k).value (counted_write q s w).chain refl (λ o. refl) refl
        ∙ ap (λ (u : Trace (List WideWrite)). run u l) (sym (writes_cons m q w ws n ns))

    left : run (placed_from m q (all_mems q) ps j (n ∷ ns) f) l ≡ run (placed_from m q (all_mems q) ps (suc j) ns g) (run t' l)
    left =
        ap (λ (u : Trace Filled). run u l) (from_cons m q (all_mems q) ps j n ns f)
        ∙ sym (run_then l (run t' l) (run (F after) (run t' l)) t F after (chains_placed_at m q (all_mems q) j n f.at f.room) (sym first_run) (λ o. sym first_value) refl)

    joined : (xs : List WideWrite) → filled_with m q ps (suc j) ws ns g xs ≡ filled_with m q ps j (w ∷ ws) (n ∷ ns) f ((t' k).value ∷ xs)
    unfolding filled_with ports_by
    joined xs =
        let e : f.at + port_nets m q w n ≡ f.at + length (wide_nets q (t' k).value) = ap (λ (i : ℕ). f.at + i) (sym nets_size) in
        let b = sets_at f.room f.at (f.at + port_nets m q w n) (wide_nets q (t' k).value) (concat_map (wide_nets q) xs) e in
        let d : f.at + port_nets m q w n + total_nets m q ws ns ≡ f.at + total_nets m q (w ∷ ws) (n ∷ ns) = omega (arith, total_cons m q w ws n ns) in
        λ i. record { room = b i; at = d i; ports = ports_by m q ps (suc j) ws ns (set f.ports j (port_by ps j n (length s.addr))) }

    module _ (ih : Same (suc j) ws ns g (run t' l)) where
      module _ (o : is_over (run (swizzle_writes m q (w ∷ ws) (n ∷ ns)) l).state ≡ false) where
        abbrev next : ℕ
        next = (run t' l).state.next

        rest_held : is_over (run (swizzle_writes m q ws ns) (run t' l)).state ≡ false
        rest_held = ap (λ (y : Lent). is_over y.state) right ∙ o

        held : is_over (run t' l).state ≡ false
        held = run-held (swizzle_writes m q ws ns) (run t' l) rest_held

        next_rules : next ≡ (t' k).next
        next_rules = run_next t' l (counted_write q s w).chain held

        next_code : next ≡ (t k).next
        next_code = ap (λ (y : Lent). y.state.next) (sym first_run) ∙ run_next t l (chains_placed_at m q (all_mems q) j n f.at f.room) (ap (λ (y : Lent). is_over y.state) first_run ∙ held)

        code : (placed_from m q (all_mems q) ps j (n ∷ ns) f k).value ≡ (placed_from m q (all_mems q) ps (suc j) ns g next).value
        code =
            ap (λ (u : Trace Filled). (u k).value) (from_cons m q (all_mems q) ps j n ns f) ∙ bind_value t F k
            ∙ (λ i. (F (first_value i) (sym next_code i)).value)

        rules : (swizzle_writes m q (w ∷ ws) (n ∷ ns) k).value ≡ (t' k).value ∷ (swizzle_writes m q ws ns next).value
        rules =
            ap (λ (u : Trace (List WideWrite)). (u k).value) (writes_cons m q w ws n ns) ∙ bind_value t' G k
            ∙ bind_value (swizzle_writes m q ws ns) (λ xs. done ((t' k).value ∷ xs)) (t' k).next ∙ done_value ((t' k).value ∷ (swizzle_writes m q ws ns (t' k).next).value) _
            ∙ ap (λ (i : ℕ). (t' k).value ∷ (swizzle_writes m q ws ns i).value) (sym next_rules)

        values : (placed_from m q (all_mems q) ps j (n ∷ ns) f k).value ≡ filled_with m q ps j (w ∷ ws) (n ∷ ns) f (swizzle_writes m q (w ∷ ws) (n ∷ ns) k).value
        values = code ∙ ih.value rest_held ∙ joined (swizzle_writes m q ws ns next).value ∙ ap (filled_with m q ps j (w ∷ ws) (n ∷ ns) f) (sym rules)

      pub step : Same j (w ∷ ws) (n ∷ ns) f l
      step = record { ran = left ∙ ih.ran ∙ right; value = λ o. values o }

  all : (ws : List WritePort) (ns : List ℕ) (j : ℕ) (f : Filled) (l : Lent) → drop j m.writes ≡ ws → PortsPlanned m q ws ns → f.at + total_nets m q ws ns ≤ length f.room → Same j ws ns f l
  unfolding PortsPlanned
  all [] [] j f l e p h = none j f l
  all [] (n ∷ ns) j f l e p h = absurd p
  all (w ∷ ws) [] j f l e p h = absurd p
  all (w ∷ ws) (n ∷ ns) j f l e p h =
      let here = write_at_lem m j w ws e in
      let fits : f.at + port_nets m q w n ≤ length f.room = omega (arith, total_cons m q w ws n ns) in
      step j w ws n ns f l here p.0 fits
      (all ws ns (suc j) (g j w ws n ns f l here p.0 fits) _ (write_rest m j w ws e) p.1 (rest_fits j w ws n ns f l here p.0 fits h))

  -- what the machine gave is what the rules give, and the room from its front on holds the nets of all ports
  module _ (ns room : List ℕ) (wp : PortsPlanned m q m.writes ns) (enough : total_nets m q m.writes ns ≤ length room) (l l1 : Lent) (v : Filled)
      (given : Gave (placed_from m q (all_mems q) ps 0 ns (none_filled room)) l l1 v) where
    same : Same 0 m.writes ns (none_filled room) l
    same = all m.writes ns 0 (none_filled room) l refl wp (omega (arith, enough))

    pub writes_ran : l1 ≡ run (swizzle_writes m q m.writes ns) l
    writes_ran = given.ran ∙ same.ran

    pub writes_value : is_over l1.state ≡ false → v ≡ filled_with m q ps 0 m.writes ns (none_filled room) (swizzle_writes m q m.writes ns l.state.next).value
    writes_value o = given.value o ∙ same.value (sym (ap (λ (y : Lent). is_over y.state) writes_ran) ∙ o)

-- the same from one record of facts
pub writes_planned : (m : Mem) (q : Layout) (ps : List MemoryWritePort) (ns room : List ℕ) → WritePlanned m q ns (length room) → (l l1 : Lent) (v : Filled)
    → Gave (placed_from m q (all_mems q) ps 0 ns (none_filled room)) l l1 v
    → (l1 ≡ run (swizzle_writes m q m.writes ns) l)
    × (is_over l1.state ≡ false → v ≡ filled_with m q ps 0 m.writes ns (none_filled room) (swizzle_writes m q m.writes ns l.state.next).value)
writes_planned m q ps ns room wp l l1 v given =
    (writes_ran m q ps wp.layout ns room wp.ports wp.enough l l1 v given, writes_value m q ps wp.layout ns room wp.ports wp.enough l l1 v given)

-- ---- the ports of the result
-- a port of the result holds the port of the rules, with the clock of the memory's
pub clock_is : (m : Memory) (nets trits : List ℕ) (j : ℕ) → j < min max_ports m.write_count → control_of (get_or m.write_ports j no_write_port).clock ≡ (write_at (memory_of m nets trits) j).clock
clock_is m nets trits j h = sym (ap (λ (w : WritePort). w.clock) (write_of_view m nets trits j ∙ writes_at m nets j h))
