-- The lent room of a result: the nets and the trits of its memories, port after port, and how many there are.
use mathlib.Core.Path.{◌≡◌, refl, sym, ap, ◌∙◌}
use Prim.Native.Nat.{ℕ, zero, suc, ◌+◌, ◌-◌, ◌*◌, ◌^◌, ◌<◌}
use native.Mathlib.Nat.{add-zero, add-suc, suc-add, zero-add, mul_left_comm}
use native.Mathlib.Omega.{arith}
use mathlib.Core.Option.{Option, none, some}
use mathlib.Core.List.{List, [], ◌∷◌, ◌++◌, map}
use lib.ListN.{length, get_or, take, drop, length-append, length-map, get_or-map}
use Rattle.lists.specs.Lists.{sum_by, pairs, up_from, concat_map}
use Rattle.lists.proofs.Parts.{get_d_any}
use Rattle.lists.proofs.Concat.{concat_map_lem}
use Rattle.rules.specs.Logic.{Const}
use Rattle.rules.specs.Value.{Value, Pos}
use Rattle.rules.specs.Cell.{WritePort, ReadFlipFlop, ReadPort, Mem, Plan, write_wide_log2, read_wide_log2, write_at, read_at_of, held}
use Rattle.rules.specs.Log.{Trace, ◌>>=◌, ◌>>◌, done}
use Rattle.rules.specs.Ports.{Driving}
use Rattle.rules.specs.Geometry.{Layout, layout_of, all_mems, columns}
use Rattle.rules.specs.Image.{layout}
use Rattle.rules.specs.Swizzle.{Split, split_addr, new_rows, mem_part, WideWrite, swizzle_write, swizzle_writes, write_part, WideRead, const_columns, wide_flip_flop, swizzle_read, swizzle_reads, flip_flop_part, read_part, result_mem, swizzle_rows, shared_write, shared_nets, shared_read, shared_trits}
use Rattle.swizzle_laws.specs.Order.{gather, by_memory, ordered}
use Rattle.swizzle_laws.proofs.Parts.{length_ordered}
use Rattle.swizzle_laws.proofs.Whole.{bits_whole, mask_whole, const_whole}
use Rattle.swizzle_result.specs.Held.{clock_trits}
use Rattle.swizzle_facts.specs.Passed.{LayoutPassed, SplitPassed, WritePassed, ReadPassed, EachPair}
use Rattle.swizzle_facts.proofs.Splits.{split_passed}
use Rattle.swizzle_counts.specs.Rooms.{wide_of, write_room, read_room, trits_by, trit_room}

-- ---- lists by index
module _ {A : Type 0} (d : A) (f : ℕ → List ℕ) (g : A → List ℕ) where
  concat_from : (l : List A) (a : ℕ) → ((j : ℕ) → j < length l → f (a + j) ≡ g (get_or l j d)) → concat_map f (up_from a (length l)) ≡ concat_map g l
  concat_from [] a h = refl
  concat_from (x ∷ l) a h =
      λ i. (ap f (sym (add-zero a)) ∙ h 0 (omega arith)) i ++ concat_from l (suc a) (λ j k. ap f (suc-add a j ∙ sym (add-suc a j)) ∙ h (suc j) (omega arith)) i

  concat_index : (l : List A) → ((j : ℕ) → j < length l → f j ≡ g (get_or l j d)) → concat_map f (up_from 0 (length l)) ≡ concat_map g l
  concat_index l h = concat_from l 0 (λ j k. ap f (zero-add j) ∙ h j k)

first_mem : (M : ℕ) (h : Driving → Value) (g : ℕ → Driving) → 0 < M → get_or (map h (map g (up_from 0 M))) 0 [] ≡ h (g 0)
first_mem zero h g l = absurd (omega arith)
first_mem (suc M) h g l = refl

single : {A B : Type 0} (h : B → List ℕ) (g : A → B) (l : List A) → concat_map h (concat_map (λ a. g a ∷ []) l) ≡ concat_map (λ a. h (g a)) l
single h g [] = refl
single h g (a ∷ l) = ap (λ (r : List ℕ). h (g a) ++ r) (single h g l)

empty : {A B : Type 0} (l : List A) → concat_map {B = B} (λ a. []) l ≡ []
empty [] = refl
empty (a ∷ l) = empty l

map_at : {A B : Type 0} (f : A → B) (l : List A) (j : ℕ) (d : A) (e : B) → j < length l → get_or (map f l) j e ≡ f (get_or l j d)
map_at f l j d e h = get_d_any (map f l) j e (f d) (omega (arith, length-map l f)) ∙ get_or-map f l j d

-- all memories' parts are the columns in the order of the memories
mem_ordered : (q : Layout) (s : Split) (cols : List ℕ) → concat_map (λ n. mem_part q s n cols) (up_from 0 (all_mems q)) ≡ ordered q s cols
unfolding mem_part ordered by_memory gather new_rows columns
mem_ordered q s cols = refl

-- ---- the nets and trits of a wide port
abbrev pub wide_nets : Layout → WideWrite → Value
wide_nets q w = w.port.addr ++ (ordered q w.split w.port.bits ++ ordered q w.split w.port.mask)

abbrev pub wide_addr : WideRead → Value
wide_addr r = r.split.addr

abbrev pub wide_trits : Layout → WideRead → Const
wide_trits q r = clock_trits q r.split r.flip_flop

module _ (q : Layout) (image : List ℕ) (ws : List WideWrite) (rs : List WideRead) (some-mems : 0 < all_mems q) where
  abbrev memory : ℕ → Driving
  memory n = result_mem q image ws rs n

  abbrev mems : List Driving
  mems = map memory (up_from 0 (all_mems q))

  abbrev no_wide_of : WideWrite
  no_wide_of = record { split = split_addr q 0 0 []; port = record { addr = []; bits = []; mask = []; clock = Pos 0 } }

  abbrev no_read_of : WideRead
  no_read_of = record { split = split_addr q 0 0 []; flip_flop = none; output = [] }

  module _ (j : ℕ) (h : j < length ws) where
    abbrev w : WideWrite
    w = get_or ws j no_wide_of

    at_write : (n : ℕ) → write_at (memory n).memory j ≡ write_part q n w
    unfolding write_at result_mem
    at_write n = map_at (write_part q n) ws j no_wide_of _ h

    write_addr_lem : (n : ℕ) → (write_part q n w).addr ≡ w.port.addr
    unfolding write_part
    write_addr_lem n = refl

    write_bits : (n : ℕ) → (write_part q n w).bits ≡ mem_part q w.split n w.port.bits
    unfolding write_part
    write_bits n = refl

    write_mask_lem : (n : ℕ) → (write_part q n w).mask ≡ mem_part q w.split n w.port.mask
    unfolding write_part
    write_mask_lem n = refl

    part_addr : get_or (map (λ (d : Driving). (write_at d.memory j).addr) mems) 0 [] ≡ w.port.addr
    part_addr = first_mem (all_mems q) (λ (d : Driving). (write_at d.memory j).addr) memory some-mems ∙ ap (λ (p : WritePort). p.addr) (at_write 0) ∙ write_addr_lem 0

    part_bits : concat_map (λ (d : Driving). (write_at d.memory j).bits) mems ≡ ordered q w.split w.port.bits
    part_bits =
        concat_map_lem (λ (d : Driving). (write_at d.memory j).bits) memory (up_from 0 (all_mems q))
        ∙ (λ i. concat_map (λ n. (ap (λ (p : WritePort). p.bits) (at_write n) ∙ write_bits n) i) (up_from 0 (all_mems q)))
        ∙ mem_ordered q w.split w.port.bits

    part_mask : concat_map (λ (d : Driving). (write_at d.memory j).mask) mems ≡ ordered q w.split w.port.mask
    part_mask =
        concat_map_lem (λ (d : Driving). (write_at d.memory j).mask) memory (up_from 0 (all_mems q))
        ∙ (λ i. concat_map (λ n. (ap (λ (p : WritePort). p.mask) (at_write n) ∙ write_mask_lem n) i) (up_from 0 (all_mems q)))
        ∙ mem_ordered q w.split w.port.mask

    shared_write_lem : shared_write mems j ≡ wide_nets q w
    unfolding shared_write
    shared_write_lem = λ i. part_addr i ++ (part_bits i ++ part_mask i)

  module _ (j : ℕ) (h : j < length rs) where
    abbrev r : WideRead
    r = get_or rs j no_read_of

    at_read : (n : ℕ) → read_at_of (memory n).memory j ≡ read_part q n r
    unfolding read_at_of result_mem
    at_read n = map_at (read_part q n) rs j no_read_of _ h

    read_addr_lem : (n : ℕ) → (read_part q n r).addr ≡ r.split.addr
    unfolding read_part
    read_addr_lem n = refl

    read_flip : (n : ℕ) → (read_part q n r).flip_flop ≡ flip_flop_part q r.split n r.flip_flop
    unfolding read_part
    read_flip n = refl

    shared_addr : get_or (map (λ (d : Driving). (read_at_of d.memory j).addr) mems) 0 [] ≡ wide_addr r
    shared_addr = first_mem (all_mems q) (λ (d : Driving). (read_at_of d.memory j).addr) memory some-mems ∙ ap (λ (p : ReadPort). p.addr) (at_read 0) ∙ read_addr_lem 0

    flips : concat_map (λ (d : Driving). held (read_at_of d.memory j).flip_flop) mems ≡ concat_map (λ n. held (flip_flop_part q r.split n r.flip_flop)) (up_from 0 (all_mems q))
    flips =
        concat_map_lem (λ (d : Driving). held (read_at_of d.memory j).flip_flop) memory (up_from 0 (all_mems q))
        ∙ (λ i. concat_map (λ n. held ((ap (λ (p : ReadPort). p.flip_flop) (at_read n) ∙ read_flip n) i)) (up_from 0 (all_mems q)))

    abbrev three : List ReadFlipFlop → Const
    three fs = concat_map (λ (f : ReadFlipFlop). f.clear_value) fs ++ (concat_map (λ (f : ReadFlipFlop). f.reset_value) fs ++ concat_map (λ (f : ReadFlipFlop). f.init_value) fs)

    clocks : (s : Split) (o : Option ReadFlipFlop) → three (concat_map (λ n. held (flip_flop_part q s n o)) (up_from 0 (all_mems q))) ≡ clock_trits q s o
    unfolding flip_flop_part held
    clocks s none = ap three (empty (up_from 0 (all_mems q)))
    clocks s (some f) =
        let part : ℕ → ReadFlipFlop = λ (n : ℕ). record {
          controls = f.controls;
          clear_value = mem_part q s n f.clear_value;
          reset_value = mem_part q s n f.reset_value;
          init_value = mem_part q s n f.init_value;
          relations = f.relations;
        } in
        λ i. (single (λ (x : ReadFlipFlop). x.clear_value) part (up_from 0 (all_mems q)) ∙ mem_ordered q s f.clear_value) i
        ++ ((single (λ (x : ReadFlipFlop). x.reset_value) part (up_from 0 (all_mems q)) ∙ mem_ordered q s f.reset_value) i
        ++ (single (λ (x : ReadFlipFlop). x.init_value) part (up_from 0 (all_mems q)) ∙ mem_ordered q s f.init_value) i)

    shared_read_lem : shared_read mems j ≡ wide_trits q r
    unfolding shared_read
    shared_read_lem = ap three flips ∙ clocks r.split r.flip_flop

  -- the shared arrays, port after port
  module _ (m : Mem) (lw : length ws ≡ length m.writes) (lr : length rs ≡ length m.reads) where
    pub shared_nets_lem : shared_nets m mems ≡ concat_map (wide_nets q) ws ++ concat_map wide_addr rs
    unfolding shared_nets
    shared_nets_lem =
        λ i. (ap (λ (k : ℕ). concat_map (shared_write mems) (up_from 0 k)) (sym lw) ∙ concat_index no_wide_of (shared_write mems) (wide_nets q) ws shared_write_lem) i
        ++ (ap (λ (k : ℕ). concat_map (λ j. get_or (map (λ (d : Driving). (read_at_of d.memory j).addr) mems) 0 []) (up_from 0 k)) (sym lr)
        ∙ concat_index no_read_of (λ j. get_or (map (λ (d : Driving). (read_at_of d.memory j).addr) mems) 0 []) wide_addr rs shared_addr) i

    pub shared_trits_lem : shared_trits m mems ≡ concat_map (wide_trits q) rs
    unfolding shared_trits
    shared_trits_lem = ap (λ (k : ℕ). concat_map (shared_read mems) (up_from 0 k)) (sym lr) ∙ concat_index no_read_of (shared_read mems) (wide_trits q) rs shared_read_lem

-- ---- how many
whole_size : (q : Layout) (s : Split) (n : ℕ) (cols : List ℕ) → s.new ≡ n → length cols ≡ 2 ^ s.new * columns q → length (ordered q s cols) ≡ wide_of q n
unfolding columns
whole_size q s n cols e w = length_ordered q s cols w ∙ mul_left_comm (all_mems q) (2 ^ s.new) q.unit ∙ ap (λ (k : ℕ). 2 ^ k * (all_mems q * q.unit)) e

three_parts : (a b c : ℕ) (u v w : List ℕ) → length u ≡ a → length v ≡ b → length w ≡ c → length (u ++ (v ++ w)) ≡ a + (b + c)
three_parts a b c u v w f g h = omega (arith, length-append u (v ++ w), length-append v w)

module _ (m : Mem) (q : Layout) (l : LayoutPassed q) where
  -- a write port
  module _ (p : WritePort) (n : ℕ) (o : WritePassed m q p n) (k : ℕ) where
    abbrev sw : Split
    sw = split_addr q (write_wide_log2 m p) n p.addr

    abbrev made : WideWrite
    made = (swizzle_write q sw p k).value

    write_split : made.split ≡ sw
    unfolding swizzle_write ◌>>=◌ done
    write_split = refl

    write_to : made.port.addr ≡ sw.addr
    unfolding swizzle_write ◌>>=◌ done
    write_to = refl

    write_size_lem : length (wide_nets q made) ≡ write_room q n
    write_size_lem =
        let s = split_passed q (write_wide_log2 m p) n p.addr (length p.bits) l o.0 in
        let a : length made.port.addr ≡ q.hard - n = ap length write_to ∙ s.addr_len in
        let e : made.split.new ≡ n = ap (λ (x : Split). x.new) write_split ∙ s.new_is in
        let f = ap (λ (x : Split). 2 ^ x.new * columns q) (sym write_split) in
        let b = whole_size q made.split n made.port.bits e (bits_whole q sw p k ∙ f) in
        let c = whole_size q made.split n made.port.mask e (mask_whole q sw p k ∙ f) in
        three_parts _ _ _ made.port.addr (ordered q made.split made.port.bits) (ordered q made.split made.port.mask) a b c ∙ twice (q.hard - n) (wide_of q n)
      where
        twice : (a b : ℕ) → a + (b + b) ≡ a + 2 * b
        twice a b = omega arith

  writes_next : (p : WritePort) (ps : List WritePort) (n : ℕ) (ns : List ℕ) (k : ℕ)
      → (swizzle_writes m q (p ∷ ps) (n ∷ ns) k).value ≡ (swizzle_write q (split_addr q (write_wide_log2 m p) n p.addr) p k).value ∷ (swizzle_writes m q ps ns (swizzle_write q (split_addr q (write_wide_log2 m p) n p.addr) p k).next).value
  unfolding swizzle_writes ◌>>=◌ done
  writes_next p ps n ns k = refl

  writes_none : (ns : List ℕ) (k : ℕ) → (swizzle_writes m q [] ns k).value ≡ []
  unfolding swizzle_writes done
  writes_none ns k = refl

  pub writes_made : (ps : List WritePort) (ns : List ℕ) → EachPair (WritePassed m q) ps ns → (k : ℕ)
      → (length (swizzle_writes m q ps ns k).value ≡ length ps) × (length (concat_map (wide_nets q) (swizzle_writes m q ps ns k).value) ≡ sum_by (write_room q) ns)
  unfolding EachPair
  writes_made [] [] e k = (ap length (writes_none [] k), ap (λ (x : List WideWrite). length (concat_map (wide_nets q) x)) (writes_none [] k))
  writes_made [] (n ∷ ns) e k = absurd e
  writes_made (p ∷ ps) [] e k = absurd e
  writes_made (p ∷ ps) (n ∷ ns) e k =
      let w = swizzle_write q (split_addr q (write_wide_log2 m p) n p.addr) p k in
      let r = writes_made ps ns e.1 w.next in (
        ap length (writes_next p ps n ns k) ∙ ap suc r.0,
        ap (λ (x : List WideWrite). length (concat_map (wide_nets q) x)) (writes_next p ps n ns k)
            ∙ length-append (wide_nets q w.value) _ ∙ (λ i. write_size_lem p n e.0 k i + r.1 i),
      )

  -- a read port
  module _ (p : ReadPort) (n : ℕ) (o : ReadPassed m q p n) (output : Value) (k : ℕ) where
    abbrev sr : Split
    sr = split_addr q (read_wide_log2 m p) n p.addr

    abbrev got : WideRead
    got = (swizzle_read q sr p output k).value

    read_split : got.split ≡ sr
    unfolding swizzle_read ◌>>=◌ ◌>>◌ done
    read_split = refl

    read_clock : got.flip_flop ≡ wide_flip_flop q sr p.flip_flop
    unfolding swizzle_read ◌>>=◌ ◌>>◌ done
    read_clock = refl

    passed : SplitPassed q (read_wide_log2 m p) n sr
    passed = split_passed q (read_wide_log2 m p) n p.addr p.data_len l o

    addr_size_lem : length (wide_addr got) ≡ read_room q n
    addr_size_lem = ap (λ (x : Split). length x.addr) read_split ∙ passed.addr_len

    const_size : (t : Const) → length t ≡ 2 ^ sr.new * columns q → length (ordered q sr t) ≡ wide_of q n
    const_size t w = whole_size q sr n t passed.new_is w

    clock_size : (f : Option ReadFlipFlop) → length (clock_trits q sr (wide_flip_flop q sr f)) ≡ trits_by q f n
    unfolding wide_flip_flop
    clock_size none = refl
    clock_size (some f) =
        let a = const_columns q sr f.clear_value in
        let b = const_columns q sr f.reset_value in
        let c = const_columns q sr f.init_value in
        three_parts _ _ _ (ordered q sr a) (ordered q sr b) (ordered q sr c) (const_size a (const_whole q sr f.clear_value)) (const_size b (const_whole q sr f.reset_value)) (const_size c (const_whole q sr f.init_value))
        ∙ thrice (wide_of q n)
      where
        thrice : (b : ℕ) → b + (b + b) ≡ 3 * b
        thrice b = omega arith

    trit_size_lem : length (wide_trits q got) ≡ trits_by q p.flip_flop n
    trit_size_lem = (λ i. length (clock_trits q (read_split i) (read_clock i))) ∙ clock_size p.flip_flop

  reads_next : (p : ReadPort) (ps : List ReadPort) (n : ℕ) (ns : List ℕ) (output : Value) (k : ℕ)
      → (swizzle_reads m q (p ∷ ps) (n ∷ ns) output k).value
      ≡ (swizzle_read q (split_addr q (read_wide_log2 m p) n p.addr) p (take p.data_len output) k).value
      ∷ (swizzle_reads m q ps ns (drop p.data_len output) (swizzle_read q (split_addr q (read_wide_log2 m p) n p.addr) p (take p.data_len output) k).next).value
  unfolding swizzle_reads ◌>>=◌ done
  reads_next p ps n ns output k = refl

  reads_none : (ns : List ℕ) (output : Value) (k : ℕ) → (swizzle_reads m q [] ns output k).value ≡ []
  unfolding swizzle_reads done
  reads_none ns output k = refl

  pub record ReadsMade (ps : List ReadPort) (ns : List ℕ) (rs : List WideRead) : Type 0 where
    pub long : length rs ≡ length ps
    pub nets : length (concat_map wide_addr rs) ≡ sum_by (read_room q) ns
    pub trits : length (concat_map (wide_trits q) rs) ≡ sum_by (trit_room q) (pairs ps ns)

  pub reads_made : (ps : List ReadPort) (ns : List ℕ) → EachPair (ReadPassed m q) ps ns → (output : Value) (k : ℕ) → ReadsMade ps ns (swizzle_reads m q ps ns output k).value
  unfolding EachPair
  reads_made [] [] e output k =
      let z = reads_none [] output k in
      record { long = ap length z; nets = ap (λ (x : List WideRead). length (concat_map wide_addr x)) z; trits = ap (λ (x : List WideRead). length (concat_map (wide_trits q) x)) z }
  reads_made [] (n ∷ ns) e output k = absurd e
  reads_made (p ∷ ps) [] e output k = absurd e
  reads_made (p ∷ ps) (n ∷ ns) e output k =
      let z = reads_next p ps n ns output k in
      let o = take p.data_len output in
      let w = swizzle_read q (split_addr q (read_wide_log2 m p) n p.addr) p o k in
      let r = reads_made ps ns e.1 (drop p.data_len output) w.next in
      record {
        long = ap length z ∙ ap suc r.long;
        nets = ap (λ (x : List WideRead). length (concat_map wide_addr x)) z ∙ length-append (wide_addr w.value) _ ∙ (λ i. addr_size_lem p n e.0 o k i + r.nets i);
        trits = ap (λ (x : List WideRead). length (concat_map (wide_trits q) x)) z ∙ length-append (wide_trits q w.value) _ ∙ (λ i. trit_size_lem p n e.0 o k i + r.trits i);
      }

-- ---- of a swizzle of rows
module _ (m : Mem) (output : Value) (p : Plan) (l : LayoutPassed (layout_of m p)) (ew : EachPair (WritePassed m (layout_of m p)) m.writes p.write_wide)
    (er : EachPair (ReadPassed m (layout_of m p)) m.reads p.read_wide_of) (k : ℕ) where
  abbrev q : Layout
  q = layout_of m p

  abbrev tw : Trace (List WideWrite)
  tw = swizzle_writes m q m.writes p.write_wide

  abbrev tr : Trace (List WideRead)
  tr = swizzle_reads m q m.reads p.read_wide_of output

  abbrev ws : List WideWrite
  ws = (tw k).value

  abbrev rs : List WideRead
  rs = (tr (tw k).next).value

  pub rows_value : (swizzle_rows m output p k).value ≡ map (result_mem q (layout q m.init) ws rs) (up_from 0 (all_mems q))
  unfolding swizzle_rows ◌>>=◌ done
  rows_value = refl

  abbrev mw : (length ws ≡ length m.writes) × (length (concat_map (wide_nets q) ws) ≡ sum_by (write_room q) p.write_wide)
  mw = writes_made m q l m.writes p.write_wide ew k

  abbrev mr : ReadsMade m q l m.reads p.read_wide_of rs
  mr = reads_made m q l m.reads p.read_wide_of er output (tw k).next

  pub nets_need : length (shared_nets m (swizzle_rows m output p k).value) ≡ sum_by (write_room q) p.write_wide + sum_by (read_room q) p.read_wide_of
  nets_need =
      ap (λ (ds : List Driving). length (shared_nets m ds)) rows_value
      ∙ ap length (shared_nets_lem q (layout q m.init) ws rs l.mems_some m mw.0 mr.long)
      ∙ length-append (concat_map (wide_nets q) ws) (concat_map wide_addr rs) ∙ (λ i. mw.1 i + mr.nets i)

  pub trits_need : length (shared_trits m (swizzle_rows m output p k).value) ≡ sum_by (trit_room q) (pairs m.reads p.read_wide_of)
  trits_need =
      ap (λ (ds : List Driving). length (shared_trits m ds)) rows_value
      ∙ ap length (shared_trits_lem q (layout q m.init) ws rs l.mems_some m mw.0 mr.long)
      ∙ mr.trits
