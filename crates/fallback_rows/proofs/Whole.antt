-- Memories of depth 1 whose ports are as wide as a row: the rows as registers are those of the rules.
use mathlib.Core.Path.{◌≡◌, refl, sym, ap, ◌∙◌}
use mathlib.Core.Logic.{◌≢◌, ⊎_elim}
use Prim.Native.Nat.{ℕ, zero, suc, ◌+◌, ◌*◌, ◌^◌, ◌<◌, ◌≤◌, min}
use native.Mathlib.Nat.{zero-add, zero-mul, eq-zero-or-pos}
use native.Mathlib.Omega.{arith}
use mathlib.Core.Bool.{Bool, true, false}
use mathlib.Core.List.{List, [], ◌∷◌, ◌++◌, map, append_assoc, append-nil}
use lib.ListN.{length, drop, length-take, drop_of_length-le}
use lib.Seq.{drop-cons, take_at, drop_at, get_or-take}
use lib.Dec.{eqb}
use borrow.Author.Tests.{le-ltb, eq-eqb, ne_eqb, lt-ltb}
use Rattle.lists.specs.Choice.{when◌then◌else◌}
use Rattle.lists.specs.Lists.{up_from, concat_map}
use Rattle.lists.proofs.UpFrom.{length_up}
use Rattle.lists.proofs.Views.{length_views}
use Rattle.rules.specs.Limits.{max_merge, max_ports, max_unit, max_columns, max_nets}
use Rattle.rules.specs.Value.{Value, Control, of_const}
use Rattle.rules.specs.Cell.{WritePort, ReadPort, Mem, write_at, new_flip_flop, with_init}
use Rattle.rules.specs.Log.{Trace, ◌>>=◌, ◌>>◌, done, request, add_void_of, add_dff_of, replace_value_of}
use Rattle.rules.specs.Merge.{add_bitwise_mux_of}
use Rattle.rules.specs.Ports.{Driving}
use Rattle.rules.specs.Fallback.{write_muxes, row_flip_flop, row_value, drive_outputs, lower_rows}
use Rattle.port_overlay.specs.Laid.{behind}
use Rattle.swizzle_result.specs.declared.WideReadPort.{WideReadPort}
use Rattle.swizzle_result.specs.declared.WideMemory.{WideMemory}
use Rattle.swizzle_result.specs.View.{write_ports_of, read_ports_of, write_size, no_trits, write_by, addr_size, trit_size, read_by, reads_start, output_by, result_of, results_of}
use Rattle.swizzle_parts.specs.Parts.{no_read_of, read_port, is_small, is_there}
use Rattle.swizzle_parts.proofs.Found.{small_is, found, write_found}
use Rattle.fallback_row.specs.Row.{over_if, held_back, driven_by}
use Rattle.fallback_row.proofs.Register.{fit, length_const}
use Rattle.fallback_rows.specs.Rows.{writes_by, write_numbers, clock_of, register_by, row_by, drives, read_numbers, row_trace, mem_at, row_if, rows_of, lowered}

-- ---- traces
module _ {A B C : Type 0} (t : Trace A) (f : A → Trace B) (k : B → Trace C) where
  bind_assoc : ((t >>= f) >>= k) ≡ (t >>= λ x. (f x >>= k))
  unfolding ◌>>=◌
  bind_assoc = λ i n. record {
    value = (k (f (t n).value (t n).next).value (f (t n).value (t n).next).next).value;
    entries = append_assoc (t n).entries (f (t n).value (t n).next).entries (k (f (t n).value (t n).next).value (f (t n).value (t n).next).next).entries i;
    next = (k (f (t n).value (t n).next).value (f (t n).value (t n).next).next).next;
  }

module _ {A B : Type 0} (t : Trace A) (f h : A → Trace B) where
  -- what follows need be the same for the values that come only
  bind_at : ((n : ℕ) → f (t n).value ≡ h (t n).value) → (t >>= f) ≡ (t >>= h)
  unfolding ◌>>=◌
  bind_at e = λ i n. record {
    value = (e n i (t n).next).value;
    entries = (t n).entries ++ (e n i (t n).next).entries;
    next = (e n i (t n).next).next;
  }

-- ---- the write ports
module _ (w : ℕ) (m : Mem) (h : w ≤ max_merge) (lens : (j : ℕ) → j < length m.writes → (length (write_at m j).mask ≡ w) × (length (write_at m j).bits ≡ w)) where
  over_is : (j : ℕ) (v : Value) → j < length m.writes → over_if w (write_at m j).mask (write_at m j).bits v ≡ add_bitwise_mux_of (write_at m j).mask (write_at m j).bits v
  unfolding over_if
  over_is j v l = rw (fit w (write_at m j).mask (write_at m j).bits h (lens j l).0 (lens j l).1)

  muxes_cons : (a : ℕ) (v : Value) → a < length m.writes
      → write_muxes (drop a m.writes) v ≡ (add_bitwise_mux_of (write_at m a).mask (write_at m a).bits v >>= λ x. write_muxes (drop (suc a) m.writes) x)
  unfolding write_muxes write_at
  muxes_cons a v l = ap (λ (ps : List WritePort). write_muxes ps v) (drop-cons m.writes a _ l)

  muxes_nil : (a : ℕ) (v : Value) → length m.writes ≤ a → write_muxes (drop a m.writes) v ≡ done v
  unfolding write_muxes
  muxes_nil a v l = ap (λ (ps : List WritePort). write_muxes ps v) (drop_of_length-le m.writes l)

  -- in order, from port a on
  writes_by_lem : (k a : ℕ) (v : Value) → a + k ≡ length m.writes → writes_by w m (up_from a k) v ≡ write_muxes (drop a m.writes) v
  unfolding writes_by
  writes_by_lem zero a v e = sym (muxes_nil a v (omega (arith, e)))
  writes_by_lem (suc k) a v e =
      (λ i. over_is a v (omega (arith, e)) i >>= λ x. writes_by_lem k (suc a) x (omega (arith, e)) i)
      ∙ sym (muxes_cons a v (omega (arith, e)))

-- ---- the register
held_is : (c c' : Control) (init v q : Value) → c ≡ c' → (held_back c init v q >> done q) ≡ (add_dff_of (with_init (new_flip_flop v c') init) >>= λ f. (replace_value_of q f >> done q))
unfolding behind ◌>>◌ with_init new_flip_flop
held_is c c' init v q e =
    ap (λ (x : Control). held_back x init v q >>= λ a. done q) e
    ∙ bind_assoc (add_dff_of (with_init (new_flip_flop v c') init)) (λ f. replace_value_of q f) (λ a. done q)

no_length : {A : Type 0} (l : List A) → length l ≡ 0 → l ≡ []
no_length [] e = refl
no_length (a ∷ l) e = absurd (omega (arith, e))

value_some : (ws : List WritePort) (m : Mem) → 0 < length ws → row_value ws m ≡ row_flip_flop m
unfolding row_value
value_some [] m h = absurd (omega arith)
value_some (p ∷ ps) m h = refl

value_none : (ws : List WritePort) (m : Mem) → length ws ≡ 0 → row_value ws m ≡ done (of_const m.init)
unfolding row_value
value_none ws m e = ap (λ (l : List WritePort). row_value l m) (no_length ws e)

-- a memory of a struct: as many write ports as it says, each of the width of a row
pub record Row (g : WideMemory) (m : Mem) : Type 0 where
  pub width_is : g.unit ≡ m.width
  pub unit_small : g.unit ≤ max_unit
  pub count_is : min max_ports g.write_count ≡ length m.writes
  pub clock_is : 0 < length m.writes → clock_of g ≡ (write_at m 0).clock
  pub init_row : length m.init ≡ g.unit
  pub lens : (j : ℕ) → j < length m.writes → (length (write_at m j).mask ≡ g.unit) × (length (write_at m j).bits ≡ g.unit)

module _ (g : WideMemory) (m : Mem) (r : Row g m) where
  all_writes : (q : Value) → writes_by g.unit m (write_numbers g) q ≡ write_muxes m.writes q
  all_writes q =
      ap (λ (k : ℕ). writes_by g.unit m (up_from 0 k) q) r.count_is
      ∙ writes_by_lem g.unit m (omega (arith, r.unit_small)) r.lens (length m.writes) 0 q (zero-add (length m.writes))

  register_is : 0 < length m.writes → register_by g m m.init ≡ row_flip_flop m
  unfolding register_by row_flip_flop
  register_is h = λ i. add_void_of (r.width_is i) >>= λ q. (all_writes q i >>= λ v. held_is (clock_of g) (write_at m 0).clock m.init v q (r.clock_is h) i)

  row_some : g.write_count ≢ 0 → row_by g m m.init ≡ row_value m.writes m
  unfolding row_by
  row_some n =
      let h : 0 < length m.writes = omega (arith, r.count_is, n) in
      rw (ne_eqb g.write_count 0 n) (register_is h ∙ sym (value_some m.writes m h))

  row_none : g.write_count ≡ 0 → row_by g m m.init ≡ row_value m.writes m
  unfolding row_by
  row_none z =
      let e : length m.writes ≡ 0 = omega (arith, r.count_is, z) in
      rw (eq-eqb g.write_count 0 z) (sym (value_none m.writes m e))

  row_value_lem : row_by g m m.init ≡ row_value m.writes m
  row_value_lem = ⊎_elim (λ z. row_none z) (λ n. row_some (λ z. omega (arith, n, z))) (eq-zero-or-pos g.write_count)

  register_long : (n : ℕ) → length (register_by g m m.init n).value ≡ g.unit
  unfolding register_by ◌>>=◌ ◌>>◌ done add_void_of request
  register_long n = length_up n g.unit

  const_long : (n : ℕ) → length (done (of_const m.init) n).value ≡ g.unit
  unfolding done
  const_long n = length_const m.init ∙ r.init_row

  chosen_long : (b : Bool) (n : ℕ) → length ((when b then done (of_const m.init) else register_by g m m.init) n).value ≡ g.unit
  chosen_long true n = const_long n
  chosen_long false n = register_long n

  row_long : (n : ℕ) → length (row_by g m m.init n).value ≡ g.unit
  unfolding row_by
  row_long n = chosen_long (eqb g.write_count 0) n

-- ---- the outputs
module _ (g : WideMemory) (n : ℕ) where
  one_output : (p : WideReadPort) → p.wide ≡ 0 → output_by g n p ≡ up_from (p.first + n * g.unit) g.unit
  one_output p e =
      ap (λ (k : ℕ). concat_map (λ r. up_from (p.first + (r * (g.mems * g.unit) + n * g.unit)) g.unit) (up_from 0 (2 ^ k))) e
      ∙ append-nil (up_from (p.first + (0 * (g.mems * g.unit) + n * g.unit)) g.unit)
      ∙ ap (λ (k : ℕ). up_from (p.first + k) g.unit) (ap (λ (k : ℕ). k + n * g.unit) (zero-mul (g.mems * g.unit)) ∙ zero-add (n * g.unit))

  module _ (v : Value) (lv : length v ≡ g.unit) (hu : g.unit ≤ max_unit) (r8 : length g.read_ports ≡ max_ports)
      (flat : (i : ℕ) → i < min max_ports g.read_count → (read_port g i).wide ≡ 0) (low : (i : ℕ) → i < min max_ports g.read_count → (read_port g i).first + n * g.unit ≤ max_nets) where
    ports_long : length (read_ports_of g) ≡ min max_ports g.read_count
    ports_long = omega (arith, length-take (min max_ports g.read_count) g.read_ports, r8)

    driven_is : (i : ℕ) → i < min max_ports g.read_count → driven_by ((read_port g i).first + n * g.unit) g.unit v ≡ replace_value_of (up_from ((read_port g i).first + n * g.unit) g.unit) v
    unfolding driven_by
    driven_is i h = rw (le-ltb max_merge g.unit (omega (arith, hu)), le-ltb max_nets ((read_port g i).first + n * g.unit) (low i h))

    outputs_cons : (i : ℕ) → i < min max_ports g.read_count
        → concat_map (output_by g n) (drop i (read_ports_of g)) ≡ up_from ((read_port g i).first + n * g.unit) g.unit ++ concat_map (output_by g n) (drop (suc i) (read_ports_of g))
    outputs_cons i h =
        ap (concat_map (output_by g n)) (drop-cons (read_ports_of g) i no_read_of (omega (arith, ports_long, h)))
        ∙ ap (λ (p : WideReadPort). output_by g n p ++ concat_map (output_by g n) (drop (suc i) (read_ports_of g))) (get_or-take (min max_ports g.read_count) g.read_ports i no_read_of h)
        ∙ ap (λ (x : List ℕ). x ++ concat_map (output_by g n) (drop (suc i) (read_ports_of g))) (one_output (read_port g i) (flat i h))

    drive_cons : (r : ReadPort) (rs : List ReadPort) (x y : Value) → length x ≡ g.unit → drive_outputs (r ∷ rs) (x ++ y) v ≡ (replace_value_of x v >> drive_outputs rs y v)
    unfolding drive_outputs
    drive_cons r rs x y e =
        λ i. replace_value_of (take_at x y (length v) (e ∙ sym lv) i) v >> drive_outputs rs (drop_at x y (length v) (e ∙ sym lv) i) v

    drive_nil : (y : Value) → drive_outputs [] y v ≡ done tt
    unfolding drive_outputs
    drive_nil y = refl

    drives_by : (k i : ℕ) → i + k ≡ min max_ports g.read_count → (rs : List ReadPort) → length rs ≡ k → drives g n v (up_from i k) ≡ drive_outputs rs (concat_map (output_by g n) (drop i (read_ports_of g))) v
    unfolding drives
    drives_by zero i e [] l = sym (drive_nil _)
    drives_by zero i e (r ∷ rs) l = absurd (omega (arith, l))
    drives_by (suc k) i e [] l = absurd (omega (arith, l))
    drives_by (suc k) i e (r ∷ rs) l =
        let h : i < min max_ports g.read_count = omega (arith, e) in
        (λ j. driven_is i h j >> drives_by k (suc i) (omega (arith, e)) rs (omega (arith, l)) j)
        ∙ sym (ap (λ (x : Value). drive_outputs (r ∷ rs) x v) (outputs_cons i h) ∙ drive_cons r rs _ _ (length_up _ g.unit))

-- ---- all memories
-- what a swizzle with units of a row and no address bits gives
pub record Flat (g : WideMemory) (nets image : List ℕ) : Type 0 where
  pub small : is_small g ≡ true
  pub writes_8 : length g.write_ports ≡ max_ports
  pub reads_8 : length g.read_ports ≡ max_ports
  pub init_row : (n : ℕ) → n < g.mems → length (result_of g nets [] image n).memory.init ≡ g.unit
  pub lens : (n j : ℕ) → n < g.mems → j < length (result_of g nets [] image n).memory.writes
      → (length (write_at (result_of g nets [] image n).memory j).mask ≡ g.unit) × (length (write_at (result_of g nets [] image n).memory j).bits ≡ g.unit)
  pub reads_flat : (i : ℕ) → i < min max_ports g.read_count → (read_port g i).wide ≡ 0
  pub low : (i n : ℕ) → i < min max_ports g.read_count → n < g.mems → (read_port g i).first + n * g.unit ≤ max_nets

module _ (g : WideMemory) (nets image : List ℕ) (f : Flat g nets image) where
  abbrev D : ℕ → Driving
  D n = result_of g nets [] image n

  there : (n : ℕ) → n < g.mems → is_there g n ≡ true
  unfolding is_there
  there n h = rw (f.small, lt-ltb n g.mems h)

  mem_is : (n : ℕ) → n < g.mems → mem_at g nets image n ≡ (D n).memory
  mem_is n h = ap (λ (d : Driving). d.memory) (found g n nets [] image (there n h))

  writes_count : (n : ℕ) → min max_ports g.write_count ≡ length (D n).memory.writes
  writes_count n =
      omega (arith, length_views (write_size g) no_trits (write_by g n) (write_ports_of g) nets [], length-take (min max_ports g.write_count) g.write_ports, f.writes_8)

  reads_count : (n : ℕ) → length (D n).memory.reads ≡ min max_ports g.read_count
  reads_count n =
      omega (arith, length_views addr_size (trit_size g) (read_by g n) (read_ports_of g) (drop (reads_start g) nets) [], length-take (min max_ports g.read_count) g.read_ports, f.reads_8)

  row : (n : ℕ) → n < g.mems → Row g (D n).memory
  row n h = record {
    width_is = refl;
    unit_small = (small_is g f.small).unit_small;
    count_is = writes_count n;
    clock_is = λ k. sym (ap (λ (p : WritePort). p.clock) (write_found g n nets [] image 0 f.writes_8 (omega (arith, writes_count n, k))));
    init_row = f.init_row n h;
    lens = λ j k. f.lens n j h k;
  }

  trace_is : (n : ℕ) → n < g.mems → row_trace g (D n).memory (D n).memory.init n ≡ (row_value (D n).memory.writes (D n).memory >>= λ v. drive_outputs (D n).memory.reads (D n).output v)
  unfolding row_trace
  trace_is n h =
      bind_at (row_by g (D n).memory (D n).memory.init) (λ v. drives g n v (read_numbers g)) (λ v. drive_outputs (D n).memory.reads (D n).output v)
      (λ k. drives_by g n _ (row_long g (D n).memory (row n h) k) (small_is g f.small).unit_small f.reads_8 f.reads_flat (λ i l. f.low i n l h) (min max_ports g.read_count) 0 (zero-add _) (D n).memory.reads (reads_count n))
      ∙ ap (λ (t : Trace Value). t >>= λ v. drive_outputs (D n).memory.reads (D n).output v) (row_value_lem g (D n).memory (row n h))

  row_is : (n : ℕ) → n < g.mems → row_if g nets image n ≡ (row_value (D n).memory.writes (D n).memory >>= λ v. drive_outputs (D n).memory.reads (D n).output v)
  unfolding row_if
  row_is n h =
      ap (λ (m : Mem). when eqb (length m.init) g.unit then row_trace g m m.init n else done tt) (mem_is n h)
      ∙ ap (λ (b : Bool). when b then row_trace g (D n).memory (D n).memory.init n else done tt) (eq-eqb (length (D n).memory.init) g.unit (f.init_row n h))
      ∙ trace_is n h

  rows_by : (k a : ℕ) → a + k ≤ g.mems → rows_of g nets image (up_from a k) ≡ lower_rows (map D (up_from a k))
  unfolding rows_of lower_rows ◌>>◌
  rows_by zero a h = refl
  rows_by (suc k) a h =
      (λ i. row_is a (omega (arith, h)) i >>= λ x. rows_by k (suc a) (omega (arith, h)) i)
      ∙ bind_assoc (row_value (D a).memory.writes (D a).memory) (λ v. drive_outputs (D a).memory.reads (D a).output v) (λ x. lower_rows (map D (up_from (suc a) k)))

  -- the rows as registers are those of the rules
  pub lowered_is : lowered g nets image ≡ lower_rows (results_of g nets [] image)
  unfolding lowered results_of
  lowered_is =
      rw (le-ltb max_unit g.unit (small_is g f.small).unit_small, le-ltb max_columns g.mems (small_is g f.small).mems_small)
      (rows_by g.mems 0 (omega (arith, zero-add g.mems)))
