-- Where a memory and its ports are found.
use mathlib.Core.Path.{◌≡◌, refl, ap, ◌∙◌, subst}
use Prim.Native.Nat.{ℕ, zero, suc, ◌+◌, ◌*◌, ◌<◌, ◌≤◌, min}
use native.Mathlib.Nat.{zero-add}
use native.Mathlib.Numerals.{add-one}
use native.Mathlib.Omega.{arith}
use mathlib.Core.Bool.{Bool, true, false}
use mathlib.Core.Option.{none}
use mathlib.Core.List.{List, [], ◌∷◌, map, append-nil}
use lib.ListN.{length, take, drop, get_or, length-take, length-map, get_or-eq_default}
use lib.Seq.{drop-drop, take-take, get_or-take}
use lib.Dec.{leb}
use borrow.Author.Tests.{leb-true, ltb-true, ltb-false}
use Rattle.lists.specs.Choice.{when◌then◌else◌}
use Rattle.lists.specs.Lists.{sum_by, part, all, up_from, concat_map}
use Rattle.lists.specs.Views.{views}
use Rattle.lists.proofs.Choice.{and_true, and_false, if_true}
use Rattle.lists.proofs.UpFrom.{length_up, get_d_up}
use Rattle.lists.proofs.Views.{length_views}
use Rattle.rules.specs.Limits.{max_ports, max_wide, max_unit, max_columns, max_nets}
use Rattle.rules.specs.Cell.{WritePort, ReadFlipFlop, ReadPort, write_at, read_at_of, held}
use Rattle.rules.specs.Value.{Pos}
use Rattle.rules.specs.Ports.{Driving}
use Rattle.swizzle_result.specs.declared.WideWritePort.{WideWritePort}
use Rattle.swizzle_result.specs.declared.WideReadPort.{WideReadPort}
use Rattle.swizzle_result.specs.declared.WideMemory.{WideMemory}
use Rattle.rules.specs.Image.{depth_at}
use Rattle.net_flip_flop.specs.declared.Controls.{Controls}
use Rattle.net_memory.specs.FlipFlop.{MemoryReadFlipFlop}
use Rattle.std.specs.Prelude.{None, Some}
use Rattle.std.specs.Option.{is_some}
use Rattle.swizzle_parts.specs.declared.Bits.{Bits}
use Rattle.swizzle_parts.specs.declared.Bits.TheVariants.{Data, Mask}
use Rattle.swizzle_parts.specs.declared.Kind.{Kind}
use Rattle.swizzle_parts.specs.declared.Kind.TheVariants.{Clear, Reset, Init}
use Rattle.swizzle_result.specs.View.{own, whole, flip_flop_by, write_ports_of, read_ports_of, write_size, addr_size, trit_size, no_trits, write_by, read_by, reads_start, result_of, results_of}
use Rattle.swizzle_parts.specs.Parts.{no_write_of, no_read_of, no_memory, write_port, read_port, small_write, small_read, is_small, Small, is_there, There, has_port, has_write, has_read, memory_at, clear_at, reset_at, init_at, bits_at, kind_at, write_nets, read_nets, read_trits}

-- ---- lists
all_at : {A : Type 0} (f : A → Bool) (d : A) (l : List A) → all f l ≡ true → f d ≡ true → (i : ℕ) → f (get_or l i d) ≡ true
all_at f d [] e h zero = h
all_at f d [] e h (suc i) = h
all_at f d (a ∷ l) e h zero = (and_true (f a) (all f l) e).0
all_at f d (a ∷ l) e h (suc i) = all_at f d l (and_true (f a) (all f l) e).1 h i

sum_suc : {A : Type 0} (f : A → ℕ) (d : A) (l : List A) (i : ℕ) → i < length l → sum_by f (take (suc i) l) ≡ sum_by f (take i l) + f (get_or l i d)
sum_suc f d [] i h = absurd (omega arith)
sum_suc f d (a ∷ l) zero h = omega arith
sum_suc f d (a ∷ l) (suc i) h = omega (arith, sum_suc f d l i (omega arith))

pub sum_more : {A : Type 0} (f : A → ℕ) (d : A) (l : List A) (i : ℕ) → i < length l → sum_by f (take (i + 1) l) ≡ sum_by f (take i l) + f (get_or l i d)
sum_more f d l i h = rw add-one (sum_suc f d l i h)

either : {P : Type 0} (b : Bool) → (b ≡ true → P) → (b ≡ false → P) → P
either true f g = f refl
either false f g = g refl

none_of : (x : MemoryReadFlipFlop) → is_some x ≡ false → x ≡ None
none_of None h = refl
none_of (Some f) h = cc

module _ {P A B R : Type 0} (s t : P → ℕ) (read : P → List A → List B → R) (d : P) (r : R) where
  views_at : (ps : List P) (i : ℕ) (l : List A) (m : List B) → i < length ps
      → get_or (views s t read ps l m) i r ≡ read (get_or ps i d) (part (sum_by s (take i ps)) (s (get_or ps i d)) l) (part (sum_by t (take i ps)) (t (get_or ps i d)) m)
  views_at [] i l m h = absurd (omega arith)
  views_at (p ∷ ps) zero l m h = refl
  views_at (p ∷ ps) (suc i) l m h =
      views_at ps i (drop (s p) l) (drop (t p) m) (omega arith)
      ∙ rw (drop-drop (sum_by s (take i ps)) (s p) l, drop-drop (sum_by t (take i ps)) (t p) m)

else_none : {A : Type 0} (b : Bool) (x d : A) → (b ≡ true → x ≡ d) → (when b then x else d) ≡ d
else_none true x d h = h refl
else_none false x d h = refl

-- what the rules have where there is no port
abbrev pub no_write_port : WritePort
no_write_port = record { addr = []; bits = []; mask = []; clock = Pos 0 }

abbrev pub no_read_port : ReadPort
no_read_port = record { addr = []; data_len = 0; flip_flop = none }

-- ---- small numbers
module _ (g : WideMemory) where
  pub small_is : is_small g ≡ true → Small g
  unfolding is_small
  small_is e =
      let a = and_true (leb g.mems max_columns) _ e in
      let b = and_true (leb g.unit max_unit) _ a.1 in
      let c = and_true (all small_write (write_ports_of g)) _ b.1 in
      record {
        mems_small = leb-true g.mems max_columns a.0;
        unit_small = leb-true g.unit max_unit b.0;
        writes_small = λ j h. leb-true (write_port g j).wide max_wide
            (subst (λ (p : WideWritePort). small_write p ≡ true) (get_or-take (min max_ports g.write_count) g.write_ports j no_write_of h) (all_at small_write no_write_of (write_ports_of g) c.0 refl j));
        reads_small = λ i h.
            (let q = and_true (leb (read_port g i).wide max_wide) (leb (read_port g i).first max_nets)
            (subst (λ (p : WideReadPort). small_read p ≡ true) (get_or-take (min max_ports g.read_count) g.read_ports i no_read_of h) (all_at small_read no_read_of (read_ports_of g) c.1 refl i)) in
            (leb-true (read_port g i).wide max_wide q.0, leb-true (read_port g i).first max_nets q.1));
      }

  module _ (n : ℕ) where
    pub there_is : is_there g n ≡ true → There g n
    unfolding is_there
    there_is e = record { small = small_is (and_true (is_small g) _ e).0; below = ltb-true n g.mems (and_true (is_small g) _ e).1 }

    module _ (nets trits image : List ℕ) where
      pub found : is_there g n ≡ true → memory_at g nets trits image n ≡ result_of g nets trits image n
      unfolding is_there memory_at results_of
      found e =
          if_true (is_small g) (get_or (results_of g nets trits image) n no_memory) no_memory (and_true (is_small g) _ e).0
          ∙ get_d_up (result_of g nets trits image) 0 g.mems n no_memory (ltb-true n g.mems (and_true (is_small g) _ e).1)
          ∙ ap (result_of g nets trits image) (zero-add n)

      past : g.mems ≤ n → get_or (map (result_of g nets trits image) (up_from 0 g.mems)) n no_memory ≡ no_memory
      past h =
          get_or-eq_default (map (result_of g nets trits image) (up_from 0 g.mems)) no_memory
          (omega (arith, length-map (up_from 0 g.mems) (result_of g nets trits image), length_up 0 g.mems))

      pub gone : is_there g n ≡ false → memory_at g nets trits image n ≡ no_memory
      unfolding is_there memory_at results_of
      gone e = else_none (is_small g) _ no_memory (λ s. past (ltb-false n g.mems (and_false (is_small g) _ s e)))

  -- ---- where there is no port
  module _ (j : ℕ) where
    pub no_writes : write_at no_memory.memory j ≡ no_write_port
    unfolding write_at
    no_writes = get_or-eq_default [] no_write_port {n = j} (omega arith)

    pub no_reads : read_at_of no_memory.memory j ≡ no_read_port
    unfolding read_at_of
    no_reads = get_or-eq_default [] no_read_port {n = j} (omega arith)

  -- ---- a port's nets and trits
  module _ (n : ℕ) (nets trits image : List ℕ) (j : ℕ) where
    pub write_found : length g.write_ports ≡ max_ports → j < min max_ports g.write_count → write_at (result_of g nets trits image n).memory j ≡ write_by g n (write_port g j) (write_nets g nets j) []
    unfolding write_at
    write_found z h =
        views_at (write_size g) no_trits (write_by g n) no_write_of _ (write_ports_of g) j nets [] (omega (arith, z, length-take (min max_ports g.write_count) g.write_ports))
        ∙ rw (get_or-take (min max_ports g.write_count) g.write_ports j no_write_of h, take-take j (min max_ports g.write_count) g.write_ports (omega arith))

    pub write_gone : min max_ports g.write_count ≤ j → write_at (result_of g nets trits image n).memory j ≡ no_write_port
    unfolding write_at
    write_gone h =
        get_or-eq_default (views (write_size g) no_trits (write_by g n) (write_ports_of g) nets []) no_write_port
        (omega (arith, length_views (write_size g) no_trits (write_by g n) (write_ports_of g) nets [], length-take (min max_ports g.write_count) g.write_ports))

    pub read_found : length g.read_ports ≡ max_ports → j < min max_ports g.read_count → read_at_of (result_of g nets trits image n).memory j ≡ read_by g n (read_port g j) (read_nets g nets j) (read_trits g trits j)
    unfolding read_at_of
    read_found z h =
        views_at addr_size (trit_size g) (read_by g n) no_read_of _ (read_ports_of g) j (drop (reads_start g) nets) trits (omega (arith, z, length-take (min max_ports g.read_count) g.read_ports))
        ∙ rw (get_or-take (min max_ports g.read_count) g.read_ports j no_read_of h, take-take j (min max_ports g.read_count) g.read_ports (omega arith), drop-drop (sum_by addr_size (take j g.read_ports)) (reads_start g) nets)

    pub read_gone : min max_ports g.read_count ≤ j → read_at_of (result_of g nets trits image n).memory j ≡ no_read_port
    unfolding read_at_of
    read_gone h =
        get_or-eq_default (views addr_size (trit_size g) (read_by g n) (read_ports_of g) (drop (reads_start g) nets) trits) no_read_port
        (omega (arith, length_views addr_size (trit_size g) (read_by g n) (read_ports_of g) (drop (reads_start g) nets) trits, length-take (min max_ports g.read_count) g.read_ports))

-- ---- a memory's ports
module _ (g : WideMemory) (n j : ℕ) where
  pub write_known : has_write g n j ≡ true → There g n × (j < min max_ports g.write_count)
  unfolding has_port
  write_known e =
      (there_is g n (and_true (is_there g n) _ e).0, ltb-true j (min max_ports g.write_count) (and_true (is_there g n) _ e).1)

  pub read_known : has_read g n j ≡ true → There g n × (j < min max_ports g.read_count)
  unfolding has_port
  read_known e =
      (there_is g n (and_true (is_there g n) _ e).0, ltb-true j (min max_ports g.read_count) (and_true (is_there g n) _ e).1)

  write_there : has_write g n j ≡ true → is_there g n ≡ true
  unfolding has_port
  write_there e = (and_true (is_there g n) _ e).0

  pub read_there : has_read g n j ≡ true → is_there g n ≡ true
  unfolding has_port
  read_there e = (and_true (is_there g n) _ e).0

  write_past : has_write g n j ≡ false → is_there g n ≡ true → min max_ports g.write_count ≤ j
  unfolding has_port
  write_past e h = ltb-false j (min max_ports g.write_count) (and_false (is_there g n) _ h e)

  read_past : has_read g n j ≡ false → is_there g n ≡ true → min max_ports g.read_count ≤ j
  unfolding has_port
  read_past e h = ltb-false j (min max_ports g.read_count) (and_false (is_there g n) _ h e)

  module _ (nets trits image : List ℕ) where
    pub write_at_lem : has_write g n j ≡ true → length g.write_ports ≡ max_ports → write_at (memory_at g nets trits image n).memory j ≡ write_by g n (write_port g j) (write_nets g nets j) []
    write_at_lem e z =
        ap (λ (d : Driving). write_at d.memory j) (found g n nets trits image (write_there e))
        ∙ write_found g n nets trits image j z (write_known e).1

    pub no_write : has_write g n j ≡ false → write_at (memory_at g nets trits image n).memory j ≡ no_write_port
    no_write e =
        either (is_there g n)
        (λ h. ap (λ (d : Driving). write_at d.memory j) (found g n nets trits image h) ∙ write_gone g n nets trits image j (write_past e h))
        (λ h. ap (λ (d : Driving). write_at d.memory j) (gone g n nets trits image h) ∙ no_writes g j)

    pub read_at : has_read g n j ≡ true → length g.read_ports ≡ max_ports → read_at_of (memory_at g nets trits image n).memory j ≡ read_by g n (read_port g j) (read_nets g nets j) (read_trits g trits j)
    read_at e z =
        ap (λ (d : Driving). read_at_of d.memory j) (found g n nets trits image (read_there e))
        ∙ read_found g n nets trits image j z (read_known e).1

    pub no_read : has_read g n j ≡ false → read_at_of (memory_at g nets trits image n).memory j ≡ no_read_port
    no_read e =
        either (is_there g n)
        (λ h. ap (λ (d : Driving). read_at_of d.memory j) (found g n nets trits image h) ∙ read_gone g n nets trits image j (read_past e h))
        (λ h. ap (λ (d : Driving). read_at_of d.memory j) (gone g n nets trits image h) ∙ no_reads g j)

    -- the trits of its flip-flop
    no_kind : (q : ReadFlipFlop → List ℕ) → has_read g n j ≡ false → concat_map q (held (read_at_of (memory_at g nets trits image n).memory j).flip_flop) ≡ []
    unfolding held
    no_kind q e = ap (λ (p : ReadPort). concat_map q (held p.flip_flop)) (no_read e)

    pub no_trits_lem : has_read g n j ≡ false
        → (clear_at (memory_at g nets trits image n).memory j ≡ []) × (reset_at (memory_at g nets trits image n).memory j ≡ []) × (init_at (memory_at g nets trits image n).memory j ≡ [])
    unfolding clear_at reset_at init_at
    no_trits_lem e =
        (no_kind (λ (x : ReadFlipFlop). x.clear_value) e, no_kind (λ (x : ReadFlipFlop). x.reset_value) e, no_kind (λ (x : ReadFlipFlop). x.init_value) e)

    -- those of a port without a flip-flop, and with one
    by_kind : (q : ReadFlipFlop → List ℕ) (f : MemoryReadFlipFlop) → has_read g n j ≡ true → length g.read_ports ≡ max_ports → (read_port g j).flip_flop ≡ f
        → concat_map q (held (read_at_of (memory_at g nets trits image n).memory j).flip_flop) ≡ concat_map q (held (flip_flop_by f g n (read_port g j) (read_trits g trits j)))
    by_kind q f e z h =
        ap (λ (p : ReadPort). concat_map q (held p.flip_flop)) (read_at e z)
        ∙ ap (λ (x : MemoryReadFlipFlop). concat_map q (held (flip_flop_by x g n (read_port g j) (read_trits g trits j)))) h

    module _ (e : has_read g n j ≡ true) (z : length g.read_ports ≡ max_ports) where
      pub unclocked : is_some (read_port g j).flip_flop ≡ false
          → (clear_at (memory_at g nets trits image n).memory j ≡ []) × (reset_at (memory_at g nets trits image n).memory j ≡ []) × (init_at (memory_at g nets trits image n).memory j ≡ [])
      unfolding clear_at reset_at init_at held
      unclocked b =
          let h = none_of (read_port g j).flip_flop b in
          (by_kind (λ (x : ReadFlipFlop). x.clear_value) None e z h, by_kind (λ (x : ReadFlipFlop). x.reset_value) None e z h, by_kind (λ (x : ReadFlipFlop). x.init_value) None e z h)

      module _ (f : Controls) (h : (read_port g j).flip_flop ≡ Some f) where
        abbrev O : ℕ
        O = own g (read_port g j).wide

        abbrev W : ℕ
        W = whole g (read_port g j).wide

        pub clear_is : clear_at (memory_at g nets trits image n).memory j ≡ part (n * O) O (read_trits g trits j)
        unfolding clear_at held
        clear_is = by_kind (λ (x : ReadFlipFlop). x.clear_value) (Some f) e z h ∙ append-nil (part (n * O) O (read_trits g trits j))

        pub reset_is : reset_at (memory_at g nets trits image n).memory j ≡ part (W + n * O) O (read_trits g trits j)
        unfolding reset_at held
        reset_is = by_kind (λ (x : ReadFlipFlop). x.reset_value) (Some f) e z h ∙ append-nil (part (W + n * O) O (read_trits g trits j))

        pub init_is : init_at (memory_at g nets trits image n).memory j ≡ part (W + W + n * O) O (read_trits g trits j)
        unfolding init_at held
        init_is = by_kind (λ (x : ReadFlipFlop). x.init_value) (Some f) e z h ∙ append-nil (part (W + W + n * O) O (read_trits g trits j))

    -- its depth
    pub depth_is : is_there g n ≡ true → (memory_at g nets trits image n).memory.depth ≡ depth_at g.full g.full_depth g.part_depth n
    depth_is e = ap (λ (d : Driving). d.memory.depth) (found g n nets trits image e)

-- ---- a part of a port, where there is none
no_bits_of : (b : Bits) → bits_at b no_write_port ≡ []
no_bits_of Data = refl
no_bits_of Mask = refl

pub no_bits : (b : Bits) (g : WideMemory) (n j : ℕ) (nets trits image : List ℕ) → has_write g n j ≡ false → bits_at b (write_at (memory_at g nets trits image n).memory j) ≡ []
no_bits b g n j nets trits image e = ap (bits_at b) (no_write g n j nets trits image e) ∙ no_bits_of b

pub no_kind_at : (k : Kind) (g : WideMemory) (n i : ℕ) (nets trits image : List ℕ) → has_read g n i ≡ false → kind_at k (memory_at g nets trits image n).memory i ≡ []
no_kind_at Clear g n i nets trits image e = (no_trits_lem g n i nets trits image e).0
no_kind_at Reset g n i nets trits image e = (no_trits_lem g n i nets trits image e).1
no_kind_at Init g n i nets trits image e = (no_trits_lem g n i nets trits image e).2

pub unclocked_at : (k : Kind) (g : WideMemory) (n i : ℕ) (nets trits image : List ℕ) → has_read g n i ≡ true → length g.read_ports ≡ max_ports → is_some (read_port g i).flip_flop ≡ false
    → kind_at k (memory_at g nets trits image n).memory i ≡ []
unclocked_at Clear g n i nets trits image e z b = (unclocked g n i nets trits image e z b).0
unclocked_at Reset g n i nets trits image e z b = (unclocked g n i nets trits image e z b).1
unclocked_at Init g n i nets trits image e z b = (unclocked g n i nets trits image e z b).2
