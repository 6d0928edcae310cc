-- The memories that a struct and its arrays hold are those of the rules.
use mathlib.Core.Path.{◌≡◌, refl, sym, ap, ◌∙◌}
use Prim.Native.Nat.{ℕ, zero, suc, ◌+◌, ◌-◌, ◌*◌, ◌^◌, ◌<◌, ◌≤◌}
use native.Mathlib.Nat.{add-zero, suc-add, add-suc, add-mul, mul-le-mul_right, add_assoc}
use native.Mathlib.Omega.{arith}
use mathlib.Core.Option.{Option, none, some}
use mathlib.Core.List.{List, [], ◌∷◌, ◌++◌, map, append-nil}
use lib.ListN.{length, take, drop, length-append, length-drop}
use lib.Seq.{take_at, drop_at, drop-append-add, drop-append-le, take-append-le, take-length}
use Rattle.lists.specs.Lists.{sum_by, part, up_from, concat_map}
use Rattle.lists.specs.Views.{views}
use Rattle.lists.proofs.Concat.{views_concat}
use Rattle.rules.specs.Cell as rules
use Rattle.rules.specs.Geometry.{Layout, all_mems, columns}
use Rattle.rules.specs.Image.{depth_at, rows_before, mem_start, image_of}
use Rattle.rules.specs.Swizzle.{Split, new_rows, mem_part, write_part, WideRead, flip_flop_part, read_part, mem_depth, result_mem}
use Rattle.net_memory.specs.FlipFlop.{MemoryReadFlipFlop}
use Rattle.std.specs.Prelude.{None, Some}
use Rattle.swizzle_laws.specs.Order.{ordered}
use Rattle.swizzle_laws.proofs.Parts.{mem_part_lem, length_ordered}
use Rattle.swizzle_result.specs.declared.WideReadPort.{WideReadPort}
use Rattle.swizzle_result.specs.declared.WideMemory.{WideMemory}
use Rattle.swizzle_result.specs.View.{own, whole, write_ports_of, read_ports_of, write_size, addr_size, trits_if, trit_size, no_trits, write_by, flip_flop_by, read_by, output_by, reads_start, result_of, results_of}
use Rattle.swizzle_result.specs.Held.{Sized, Columns, HeldWrite, write_nets, HeldFlipFlop, HeldRead, clock_trits, read_trits, read_nets, Holds}

-- ---- parts of lists that are joined
part-after : (a x : List ℕ) (n k m : ℕ) → n ≡ length a → part (n + k) m (a ++ x) ≡ part k m x
part-after a x n k m e = ap (λ (i : ℕ). take m (drop (i + k) (a ++ x))) e ∙ ap (take m) (drop-append-add a x k)

part_front : (b x : List ℕ) (k m : ℕ) → k + m ≤ length b → part k m (b ++ x) ≡ part k m b
part_front b x k m h =
    ap (take m) (drop-append-le k b x (omega arith)) ∙ take-append-le m (drop k b) x (omega (arith, length-drop k b))

part_up : (f K a n : ℕ) → a + n ≤ K → part a n (up_from f K) ≡ up_from (f + a) n
part_up f K zero zero h = refl
part_up f zero zero (suc n) h = absurd (omega arith)
part_up f (suc K) zero (suc n) h =
    λ i. sym (add-zero f) i ∷ (part_up (suc f) K zero n (omega arith) ∙ ap (λ (m : ℕ). up_from m n) (add-zero (suc f) ∙ ap suc (sym (add-zero f)))) i
part_up f zero (suc a) n h = absurd (omega arith)
part_up f (suc K) (suc a) n h = part_up (suc f) K a n (omega arith) ∙ ap (λ (m : ℕ). up_from m n) (suc-add f a ∙ sym (add-suc f a))

-- functions that agree on the first numbers
concat_from : (a K : ℕ) (f g : ℕ → List ℕ) → ((r : ℕ) → r < a + K → f r ≡ g r) → concat_map f (up_from a K) ≡ concat_map g (up_from a K)
concat_from a zero f g e = refl
concat_from a (suc K) f g e = λ i. e a (omega arith) i ++ concat_from (suc a) K f g (λ r h. e r (omega arith)) i

concat_up : (K : ℕ) (f g : ℕ → List ℕ) → ((r : ℕ) → r < K → f r ≡ g r) → concat_map f (up_from 0 K) ≡ concat_map g (up_from 0 K)
concat_up K f g e = concat_from 0 K f g (λ r h. e r (omega arith))

map_from : {B : Type 0} (a K : ℕ) (f g : ℕ → B) → ((r : ℕ) → r < a + K → f r ≡ g r) → map f (up_from a K) ≡ map g (up_from a K)
map_from a zero f g e = refl
map_from a (suc K) f g e = λ i. e a (omega arith) i ∷ map_from (suc a) K f g (λ r h. e r (omega arith)) i

-- ---- a port's parts
module _ (g : WideMemory) (q : Layout) (z : Sized g q) (n : ℕ) (l : n < all_mems q) where
  module _ (s : Split) (w : ℕ) (e : w ≡ s.new) where
    own_is : own g w ≡ 2 ^ s.new * q.unit
    own_is = λ i. 2 ^ e i * z.unit_is i

    whole_is : (cols : List ℕ) → Columns q s cols → whole g w ≡ length (ordered q s cols)
    whole_is cols c = (λ i. z.mems_are i * own_is i) ∙ sym (length_ordered q s cols c)

    in_whole : n * own g w + own g w ≤ whole g w
    in_whole =
        let a : (n + 1) * own g w ≤ g.mems * own g w = mul-le-mul_right (own g w) (omega (arith, z.mems_are)) in
        omega (arith, add-mul n 1 (own g w))

    own-part : (cols : List ℕ) → Columns q s cols → part (n * own g w) (own g w) (ordered q s cols) ≡ mem_part q s n cols
    own-part cols c = (λ i. part (n * own_is i) (own_is i) (ordered q s cols)) ∙ mem_part_lem q s n cols c l

    -- in front of others
    first_part : (cols x : List ℕ) → Columns q s cols → part (n * own g w) (own g w) (ordered q s cols ++ x) ≡ mem_part q s n cols
    first_part cols x c =
        part_front (ordered q s cols) x (n * own g w) (own g w) (omega (arith, in_whole, whole_is cols c)) ∙ own-part cols c

  -- a write port
  pub held_write : (k : HeldWrite q) → write_by g n k.struct (write_nets q k) [] ≡ write_part q n k.port
  unfolding write_nets write_part
  held_write k =
      let s = k.port.split in
      let w = k.struct.wide in
      let e = k.wide_is in
      let a = k.port.port.addr in
      let b = ordered q s k.port.port.bits in
      let m = ordered q s k.port.port.mask in
      let al = k.struct.addr_len in
      let p0 : part 0 al (a ++ (b ++ m)) ≡ a = take_at a (b ++ m) al (sym k.addr_len) in
      let p1 : part (al + n * own g w) (own g w) (a ++ (b ++ m)) ≡ mem_part q s n k.port.port.bits =
      part-after a (b ++ m) al (n * own g w) (own g w) k.addr_len ∙ first_part s w e k.port.port.bits m k.bits_whole in
      let p2 : part (al + whole g w + n * own g w) (own g w) (a ++ (b ++ m)) ≡ mem_part q s n k.port.port.mask =
      ap (λ (i : ℕ). part i (own g w) (a ++ (b ++ m))) (add_assoc al (whole g w) (n * own g w))
      ∙ part-after a (b ++ m) al (whole g w + n * own g w) (own g w) k.addr_len
      ∙ part-after b m (whole g w) (n * own g w) (own g w) (whole_is s w e k.port.port.bits k.bits_whole)
      ∙ own-part s w e k.port.port.mask k.mask_whole in
      λ i. record { addr = p0 i; bits = p1 i; mask = p2 i; clock = k.clock_is i }

  -- a flip-flop
  held-flip_flop : (f : MemoryReadFlipFlop) (p : WideReadPort) (s : Split) (e : p.wide ≡ s.new) (x : Option rules.ReadFlipFlop)
      → HeldFlipFlop f (part 0 p.relations_len p.relations) q s x → flip_flop_by f g n p (clock_trits q s x) ≡ flip_flop_part q s n x
  unfolding flip_flop_part
  held-flip_flop None p s e none h = refl
  held-flip_flop None p s e (some x) h = absurd h
  held-flip_flop (Some f) p s e none h = absurd h
  held-flip_flop (Some f) p s e (some x) h =
      let w = p.wide in
      let a = ordered q s x.clear_value in
      let b = ordered q s x.reset_value in
      let d = ordered q s x.init_value in
      let p1 : part (whole g w + n * own g w) (own g w) (a ++ (b ++ d)) ≡ mem_part q s n x.reset_value =
      part-after a (b ++ d) (whole g w) (n * own g w) (own g w) (whole_is s w e x.clear_value h.clear_whole)
      ∙ first_part s w e x.reset_value d h.reset_whole in
      let p2 : part (whole g w + whole g w + n * own g w) (own g w) (a ++ (b ++ d)) ≡ mem_part q s n x.init_value =
      ap (λ (i : ℕ). part i (own g w) (a ++ (b ++ d))) (add_assoc (whole g w) (whole g w) (n * own g w))
      ∙ part-after a (b ++ d) (whole g w) (whole g w + n * own g w) (own g w) (whole_is s w e x.clear_value h.clear_whole)
      ∙ part-after b d (whole g w) (n * own g w) (own g w) (whole_is s w e x.reset_value h.reset_whole)
      ∙ own-part s w e x.init_value h.init_whole in
      λ i. some (record {
        controls = h.controls_are i;
        clear_value = first_part s w e x.clear_value (b ++ d) h.clear_whole i;
        reset_value = p1 i;
        init_value = p2 i;
        relations = h.relations_are i;
      })

  -- a read port, and its outputs
  pub held_read : (k : HeldRead q) → read_by g n k.struct (read_nets q k) (read_trits q k) ≡ read_part q n k.port
  unfolding read_nets read_trits read_part
  held_read k =
      let p0 : part 0 k.struct.addr_len k.port.split.addr ≡ k.port.split.addr =
      ap (λ (i : ℕ). take i k.port.split.addr) k.addr_len ∙ take-length k.port.split.addr in
      let p1 = held-flip_flop k.struct.flip_flop k.struct k.port.split k.wide_is k.port.flip_flop k.clocked in
      λ i. record { addr = p0 i; data_len = z.unit_is i * 2 ^ k.wide_is i; flip_flop = p1 i }

  row_out : (s : Split) (f r : ℕ) → r < 2 ^ s.new → part (r * columns q + n * q.unit) q.unit (up_from f (2 ^ s.new * columns q)) ≡ up_from (f + (r * columns q + n * q.unit)) q.unit
  unfolding columns
  row_out s f r h =
      let R = 2 ^ s.new in
      let C = all_mems q * q.unit in
      let a : (n + 1) * q.unit ≤ all_mems q * q.unit = mul-le-mul_right q.unit (omega arith) in
      let b : (r + 1) * C ≤ R * C = mul-le-mul_right C (omega arith) in
      part_up f (R * C) (r * C + n * q.unit) q.unit (within a b)
    where
      within : (n + 1) * q.unit ≤ all_mems q * q.unit → (r + 1) * (all_mems q * q.unit) ≤ 2 ^ s.new * (all_mems q * q.unit)
          → r * (all_mems q * q.unit) + n * q.unit + q.unit ≤ 2 ^ s.new * (all_mems q * q.unit)
      within a b = omega (arith, add-mul n 1 q.unit, add-mul r 1 (all_mems q * q.unit))

  pub held_output : (k : HeldRead q) → output_by g n k.struct ≡ mem_part q k.port.split n k.port.output
  unfolding mem_part new_rows columns
  held_output k =
      let s = k.port.split in
      let f = k.struct.first in
      (λ i. concat_map (λ r. up_from (f + (r * (z.mems_are i * z.unit_is i) + n * z.unit_is i)) (z.unit_is i)) (up_from 0 (2 ^ k.wide_is i)))
      ∙ concat_up (2 ^ s.new) _ _ (λ r h. sym (row_out s f r h))
      ∙ ap (λ (o : List ℕ). concat_map (λ r. part (r * (all_mems q * q.unit) + n * q.unit) q.unit o) (up_from 0 (2 ^ s.new))) (sym k.output_is)

-- ---- lists of ports
map_each : {A B : Type 0} (f g : A → B) (l : List A) → ((a : A) → f a ≡ g a) → map f l ≡ map g l
map_each f g [] e = refl
map_each f g (a ∷ l) e = λ i. e a i ∷ map_each f g l e i

map_both : {A B C : Type 0} (f : B → C) (g : A → B) (l : List A) → map (λ a. f (g a)) l ≡ map f (map g l)
map_both f g [] = refl
map_both f g (a ∷ l) = ap (λ r. f (g a) ∷ r) (map_both f g l)

concat_none : {A : Type 0} (l : List A) → concat_map {B = ℕ} (λ a. []) l ≡ []
concat_none [] = refl
concat_none (a ∷ l) = concat_none l

concat_each : {A B : Type 0} (f : A → List ℕ) (h : B → List ℕ) (g : A → B) (l : List A) → ((a : A) → f a ≡ h (g a)) → concat_map f l ≡ concat_map h (map g l)
concat_each f h g [] e = refl
concat_each f h g (a ∷ l) e = λ i. e a i ++ concat_each f h g l e i

concat_size : {A B : Type 0} (x : A → List ℕ) (s : B → ℕ) (p : A → B) → ((a : A) → length (x a) ≡ s (p a)) → (l : List A) → length (concat_map x l) ≡ sum_by s (map p l)
concat_size x s p e [] = refl
concat_size x s p e (a ∷ l) = length-append (x a) (concat_map x l) ∙ (λ i. e a i + concat_size x s p e l i)

module _ (g : WideMemory) (q : Layout) (ws : List (HeldWrite q)) (rs : List (HeldRead q)) (nets trits : List ℕ) (h : Holds g q ws rs nets trits) (n : ℕ) (l : n < all_mems q) where
  write_size_lem : (k : HeldWrite q) → length (write_nets q k) ≡ write_size g k.struct
  unfolding write_nets
  write_size_lem k =
      let s = k.port.split in
      let w = k.struct.wide in
      let a = k.port.port.addr in
      let b = ordered q s k.port.port.bits in
      let m = ordered q s k.port.port.mask in
      length-append a (b ++ m) ∙ ap (λ (i : ℕ). length a + i) (length-append b m)
      ∙ (λ i. sym k.addr_len i + (sym (whole_is g q h.sized n l s w k.wide_is k.port.port.bits k.bits_whole) i + sym (whole_is g q h.sized n l s w k.wide_is k.port.port.mask k.mask_whole) i))

  trit_size_lem : (f : MemoryReadFlipFlop) (rel : List ℕ) (s : Split) (w : ℕ) (e : w ≡ s.new) (x : Option rules.ReadFlipFlop) → HeldFlipFlop f rel q s x
      → length (clock_trits q s x) ≡ trits_if f (whole g w)
  trit_size_lem None rel s w e none c = refl
  trit_size_lem None rel s w e (some x) c = absurd c
  trit_size_lem (Some f) rel s w e none c = absurd c
  trit_size_lem (Some f) rel s w e (some x) c =
      let a = ordered q s x.clear_value in
      let b = ordered q s x.reset_value in
      let d = ordered q s x.init_value in
      length-append a (b ++ d) ∙ ap (λ (i : ℕ). length a + i) (length-append b d)
      ∙ (λ i. sym (whole_is g q h.sized n l s w e x.clear_value c.clear_whole) i + (sym (whole_is g q h.sized n l s w e x.reset_value c.reset_whole) i + sym (whole_is g q h.sized n l s w e x.init_value c.init_whole) i))

  read_size : (k : HeldRead q) → length (read_nets q k) ≡ addr_size k.struct
  unfolding read_nets
  read_size k = sym k.addr_len

  read_trits_lem : (k : HeldRead q) → length (read_trits q k) ≡ trit_size g k.struct
  unfolding read_trits
  read_trits_lem k = trit_size_lem k.struct.flip_flop _ k.port.split k.struct.wide k.wide_is k.port.flip_flop k.clocked

  abbrev back : List ℕ
  back = concat_map (read_nets q) rs

  writes_at : views (write_size g) no_trits (write_by g n) (write_ports_of g) nets [] ≡ map (write_part q n) (map (λ (k : HeldWrite q). k.port) ws)
  writes_at =
      let none : concat_map {B = ℕ} (λ (k : HeldWrite q). []) ws ++ [] ≡ [] = append-nil _ ∙ concat_none ws in
      (λ i. views (write_size g) no_trits (write_by g n) (h.writes_are i) (h.nets_are i) (sym none i))
      ∙ views_concat (write_size g) no_trits (write_by g n) (λ (k : HeldWrite q). k.struct) (write_nets q) (λ k. []) write_size_lem (λ k. refl) ws back []
      ∙ map_each _ _ ws (held_write g q h.sized n l)
      ∙ map_both (write_part q n) (λ (k : HeldWrite q). k.port) ws

  reads_from : drop (reads_start g) nets ≡ back ++ []
  reads_from =
      let e : length (concat_map (write_nets q) ws) ≡ reads_start g = concat_size (write_nets q) (write_size g) (λ (k : HeldWrite q). k.struct) write_size_lem ws ∙ ap (sum_by (write_size g)) (sym h.writes_are) in
      ap (drop (reads_start g)) h.nets_are ∙ drop_at (concat_map (write_nets q) ws) back (reads_start g) e ∙ sym (append-nil back)

  reads_at : views addr_size (trit_size g) (read_by g n) (read_ports_of g) (drop (reads_start g) nets) trits ≡ map (read_part q n) (map (λ (k : HeldRead q). k.port) rs)
  reads_at =
      let t : trits ≡ concat_map (read_trits q) rs ++ [] = h.trits_are ∙ sym (append-nil _) in
      (λ i. views addr_size (trit_size g) (read_by g n) (h.reads_are i) (reads_from i) (t i))
      ∙ views_concat addr_size (trit_size g) (read_by g n) (λ (k : HeldRead q). k.struct) (read_nets q) (read_trits q) read_size read_trits_lem rs [] []
      ∙ map_each _ _ rs (held_read g q h.sized n l)
      ∙ map_both (read_part q n) (λ (k : HeldRead q). k.port) rs

  outputs_at : concat_map (output_by g n) (read_ports_of g) ≡ concat_map (λ (r : WideRead). mem_part q r.split n r.output) (map (λ (k : HeldRead q). k.port) rs)
  outputs_at =
      ap (concat_map (output_by g n)) h.reads_are
      ∙ sym (concat_each (λ (k : HeldRead q). output_by g n k.struct) (output_by g n) (λ (k : HeldRead q). k.struct) rs (λ k. refl))
      ∙ concat_each (λ (k : HeldRead q). output_by g n k.struct) (λ (r : WideRead). mem_part q r.split n r.output) (λ (k : HeldRead q). k.port) rs (held_output g q h.sized n l)

  pub result_held : (image : List ℕ) → result_of g nets trits image n ≡ result_mem q image (map (λ (k : HeldWrite q). k.port) ws) (map (λ (k : HeldRead q). k.port) rs) n
  unfolding result_mem mem_depth image_of mem_start
  result_held image =
      let z = h.sized in
      λ i. record {
        memory = record {
          depth = depth_at (z.full_are i) (z.full_depth i) (z.part_depth i) n;
          width = z.unit_is i;
          init = part (rows_before (z.full_are i) (z.full_depth i) (z.part_depth i) n * z.unit_is i)
              (rows_before (z.full_are i) (z.full_depth i) (z.part_depth i) (suc n) * z.unit_is i - rows_before (z.full_are i) (z.full_depth i) (z.part_depth i) n * z.unit_is i) image;
          writes = writes_at i;
          reads = reads_at i;
        };
        output = outputs_at i;
      }

-- the memories, in order
pub results-held : (g : WideMemory) (q : Layout) (ws : List (HeldWrite q)) (rs : List (HeldRead q)) (nets trits image : List ℕ) → Holds g q ws rs nets trits
    → results_of g nets trits image ≡ map (result_mem q image (map (λ (k : HeldWrite q). k.port) ws) (map (λ (k : HeldRead q). k.port) rs)) (up_from 0 (all_mems q))
unfolding results_of
results-held g q ws rs nets trits image h =
    ap (λ (m : ℕ). map (result_of g nets trits image) (up_from 0 m)) h.sized.mems_are
    ∙ map_from 0 (all_mems q) _ _ (λ n l. result_held g q ws rs nets trits h n (omega arith) image)
