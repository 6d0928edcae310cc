-- Where numbers 1, 2 and 14 pass, the code's trace is the rules': the entries, the outputs after in the room, and the memory after.
use mathlib.Core.Path.{◌≡◌, refl, sym, ap, ◌∙◌}
use Prim.Native.Nat.{ℕ, suc, ◌*◌, ◌^◌, ◌<◌, ◌≤◌}
use native.Mathlib.Nat.{mul-le-mul}
use native.Mathlib.Omega.{arith}
use lib.Pow.{pow_mono}
use mathlib.Core.Bool.{Bool, true, false, not}
use mathlib.Core.Option.{Option, none, some}
use mathlib.Core.List.{List, [], ◌∷◌, ◌++◌}
use lib.ListN.{length, take, set}
use lib.Seq.{sets, take_all}
use lib.Dec.{eqb, ltb}
use borrow.Author.Tests.{ltb-false, eqb-true, not-false}
use Rattle.lists.specs.Choice.{when◌then◌else◌}
use Rattle.lists.specs.Lists.{any, up_from}
use Rattle.lists.proofs.All.{any_at}
use Rattle.lists.proofs.Choice.{or_false}
use Rattle.lists.proofs.Parts.{take_set}
use Rattle.lists.proofs.Stores.{take_stored}
use Rattle.rules.specs.Limits.{max_merge, max_ports, max_depth, max_width, max_bits}
use Rattle.rules.specs.Value.{Value}
use Rattle.rules.specs.Cell.{ReadFlipFlop, Mem, read_at_of, read_wide_log2, output_start, held, transparent_from, transparent_ports}
use Rattle.rules.specs.Conditions.{too_large, bad_shape, bad_data_len, bad_addr_len, bad_trit_lens, bad_flip_flop_shape, bad_write_shape, bad_read_shape, bad_output_len, bad_value, short_pair, short_port, short_ports}
use Rattle.rules.specs.Log.{Entry, Made, ◌>>=◌, ◌>>◌, done, add_void_of}
use Rattle.rules.specs.Ports.{Overlay, transparencies, unmap_all}
use Rattle.rules.specs.Refusals.{driving_number}
use Rattle.log_entries.specs.Emission.{Lent, emit, run}
use Rattle.net_memory.specs.declared.Memory.{Memory}
use Rattle.net_memory.specs.Given.{given_of}
use Rattle.net_memory.specs.View.{memory_of}
use Rattle.net_check.proofs.Accept.{Valid, valid}
use Rattle.port_transparency.specs.Gave.{Gave}
use Rattle.port_transparency.specs.Pairs.{reading}
use Rattle.port_overlay.specs.Laid.{laid_from}
use Rattle.port_overlay.proofs.Fits.{Shaped, Reads, reads_shaped, from_is}
use Rattle.port_unmap.specs.Trace.{related}
use Rattle.port_unmap_all.specs.All.{unmapped_to, unmapped_of, unmapped_at, unmapped_each, unmapped_all, all_bare, AllReady}
use Rattle.port_unmap_all.proofs.Fold.{Like, Fine, all_like}

-- ---- each clocked port is fine
pub size_few : (width size k : ℕ) → width ≤ 128 → Shaped width size k → size ≤ 2048
size_few width size k h s = rw s.size_is (mul-le-mul {n₁ = width} {m₁ = 2 ^ k} {n₂ = 128} {m₂ = 16} h (pow_mono {i = k} {j = 4} s.few))

held_some : (f : ReadFlipFlop → Bool) (o : Option ReadFlipFlop) (x : ReadFlipFlop) → o ≡ some x → any f (held o) ≡ false → f x ≡ false
unfolding held
held_some f o x e q = (or_false (f x) false (ap (λ (y : Option ReadFlipFlop). any f (held y)) (sym e) ∙ q)).0

module _ (m : Mem) (a : AllReady m) (i : ℕ) (f : ReadFlipFlop) (h : i < length m.reads) (e : (read_at_of m i).flip_flop ≡ some f) where
  read_shape : bad_read_shape m (read_at_of m i) ≡ false
  unfolding read_at_of
  read_shape = any_at (bad_read_shape m) m.reads a.reads_good i _ h

  flip_shape : any (bad_flip_flop_shape m (read_at_of m i).data_len) (held (read_at_of m i).flip_flop) ≡ false
  unfolding bad_read_shape
  flip_shape = (or_false (bad_addr_len (read_at_of m i).addr (read_wide_log2 m (read_at_of m i))) _ (or_false (bad_data_len m.width (read_at_of m i).data_len) _ read_shape).1).1

  related_by : bad_flip_flop_shape m (read_at_of m i).data_len f ≡ false → length f.relations ≡ length m.writes
  unfolding bad_flip_flop_shape
  related_by q = eqb-true _ _ (not-false _ (or_false (bad_trit_lens (read_at_of m i).data_len f.clear_value f.reset_value f.init_value) _ q).1)

  pub as_many : length f.relations ≡ length m.writes
  as_many = related_by (held_some (bad_flip_flop_shape m (read_at_of m i).data_len) (read_at_of m i).flip_flop f e flip_shape)

  short_not : short_port m (read_at_of m i) ≡ false
  unfolding read_at_of short_ports
  short_not = any_at (short_port m) m.reads a.long i _ h

  short_by : any (λ (x : ReadFlipFlop). any (short_pair m (read_at_of m i)) (transparent_ports x)) (held (read_at_of m i).flip_flop) ≡ false
  unfolding short_port
  short_by = short_not

  pairs_long : any (short_pair m (read_at_of m i)) (transparent_from 0 f.relations) ≡ false
  unfolding transparent_ports
  pairs_long = held_some (λ (x : ReadFlipFlop). any (short_pair m (read_at_of m i)) (transparent_ports x)) (read_at_of m i).flip_flop f e short_by

  reads_of_lem : Reads m (read_at_of m i)
  reads_of_lem = reads_shaped m (read_at_of m i) read_shape

  pub data_few : (read_at_of m i).data_len ≤ 2048
  data_few = size_few m.width _ _ a.thin reads_of_lem.shape

  laid_all : (o : Overlay) → laid_from m (read_wide_log2 m (read_at_of m i)) (reading (read_at_of m i).addr (read_at_of m i).data_len) 0 (related f) o ≡ transparencies m i (transparent_ports f) o
  unfolding transparent_ports
  laid_all o =
      let r : related f ≡ f.relations = take_all max_ports f.relations (omega (arith, as_many, a.few)) in
      ap (λ (xs : List ℕ). laid_from m (read_wide_log2 m (read_at_of m i)) (reading (read_at_of m i).addr (read_at_of m i).data_len) 0 xs o) r
      ∙ from_is m i a.writes_good reads_of_lem a.thin 0 f.relations o (omega (arith, as_many)) pairs_long

  fine_at : Fine m i f
  fine_at = record { few = omega (arith, data_few); laid = laid_all }

-- ---- more room than the outputs take
take_sets_all : (n : ℕ) (ws l : List ℕ) (i : ℕ) → take n (sets l i ws) ≡ sets (take n l) i ws
take_sets_all n [] l i = refl
take_sets_all n (w ∷ ws) l i = take_sets_all n ws (set l i w) (suc i) ∙ ap (λ (x : List ℕ). sets x (suc i) ws) (take_set n l i w)

pub record Cut (n : ℕ) (x y : Made Value) : Type 0 where
  pub entries_same : x.entries ≡ y.entries
  pub next_same : x.next ≡ y.next
  pub value_cut : take n x.value ≡ y.value

module _ (m : Mem) (output : Value) (n : ℕ) where
  cut_to : (i : ℕ) (f : ReadFlipFlop) (room : Value) (k : ℕ) → Cut n (unmapped_to m i output f room k) (unmapped_to m i output f (take n room) k)
  unfolding unmapped_to ◌>>=◌ ◌>>◌ done
  cut_to i f room k = record { entries_same = refl; next_same = refl; value_cut = take_sets_all n (add_void_of (read_at_of m i).data_len k).value room (output_start m i) }

  cut_of : (i : ℕ) (o : Option ReadFlipFlop) (room : Value) (k : ℕ) → Cut n (unmapped_of o m i output room k) (unmapped_of o m i output (take n room) k)
  unfolding unmapped_of done
  cut_of i none room k = record { entries_same = refl; next_same = refl; value_cut = refl }
  cut_of i (some f) room k = on (ltb max_merge (read_at_of m i).data_len)
    where
      on : (b : Bool) → Cut n ((when b then done room else unmapped_to m i output f room) k) ((when b then done (take n room) else unmapped_to m i output f (take n room)) k)
      on true = record { entries_same = refl; next_same = refl; value_cut = refl }
      on false = cut_to i f room k

  cut_at : (i : ℕ) (room : Value) (k : ℕ) → Cut n (unmapped_at m i output room k) (unmapped_at m i output (take n room) k)
  unfolding unmapped_at
  cut_at i room k = cut_of i (read_at_of m i).flip_flop room k

  cut_join : (is : List ℕ) (x y : Made Value) → Cut n x y → Cut n (unmapped_each is m output x.value x.next) (unmapped_each is m output (take n x.value) x.next)
      → Cut n (record { value = (unmapped_each is m output x.value x.next).value; entries = x.entries ++ (unmapped_each is m output x.value x.next).entries; next = (unmapped_each is m output x.value x.next).next })
      (record { value = (unmapped_each is m output y.value y.next).value; entries = y.entries ++ (unmapped_each is m output y.value y.next).entries; next = (unmapped_each is m output y.value y.next).next })
  cut_join is x y p q =
      let e : unmapped_each is m output (take n x.value) x.next ≡ unmapped_each is m output y.value y.next = λ j. unmapped_each is m output (p.value_cut j) (p.next_same j) in
      record {
        entries_same = ap (λ (es : List Entry). x.entries ++ es) q.entries_same ∙ (λ j. p.entries_same j ++ (e j).entries);
        next_same = q.next_same ∙ ap (λ (z : Made Value). z.next) e;
        value_cut = q.value_cut ∙ ap (λ (z : Made Value). z.value) e;
      }

  cut_each : (is : List ℕ) (room : Value) (k : ℕ) → Cut n (unmapped_each is m output room k) (unmapped_each is m output (take n room) k)
  unfolding unmapped_each ◌>>=◌ done
  cut_each [] room k = record { entries_same = refl; next_same = refl; value_cut = refl }
  cut_each (i ∷ is) room k =
      let x = unmapped_at m i output room k in
      cut_join is x (unmapped_at m i output (take n room) k) (cut_at i room k) (cut_each is x.value x.next)

  cut_all : (room : Value) (k : ℕ) → Cut n (unmapped_all m output room k) (unmapped_all m output (take n room) k)
  unfolding unmapped_all
  cut_all room k = cut_each (up_from 0 (length m.reads)) room k

-- ---- the laws that callers cite
module _ (m : Mem) (output room : Value) (l l1 : Lent) (v : Value) where
  ran_by : (k : ℕ) → l.state.next ≡ k → Cut (length output) (unmapped_all m output (sets room 0 output) k) (unmapped_all m output output k) → l1 ≡ run (unmapped_all m output (sets room 0 output)) l
      → l1 ≡ run (unmapped_all m output output) l
  unfolding run
  ran_by k e c q = q ∙ (λ j. emit l (unmapped_all m output (sets room 0 output) (e j)).entries) ∙ ap (emit l) c.entries_same ∙ (λ j. emit l (unmapped_all m output output (sym e j)).entries)

  -- the first words of a room are the outputs after, whatever stood in it
  pub room_gave : length output ≤ length room → Gave (unmapped_all m output (sets room 0 output)) l l1 v → Gave (unmapped_all m output output) l l1 (take (length output) v)
  room_gave h g =
      let k = l.state.next in
      let e : take (length output) (sets room 0 output) ≡ output = take_stored room (sets room 0 output) output (length output) refl refl h in
      let c : Cut (length output) (unmapped_all m output (sets room 0 output) k) (unmapped_all m output output k) =
      rw e at (cut_all m output (length output) (sets room 0 output) k) in
      record { ran = ran_by k refl c g.ran; value = λ o. ap (take (length output)) (g.value o) ∙ c.value_cut }

module _ (m : Mem) (a : AllReady m) (output : Value) where
  -- as many entries and nets, the outputs and the memory after
  pub rules_like : (k : ℕ) → Like (all_bare m) (unmap_all m output k) (unmapped_all m output output k)
  rules_like k = all_like m output (λ i f h e. fine_at m a i f h e) k

  rules_ran : (l : Lent) (k : ℕ) → l.state.next ≡ k → Like (all_bare m) (unmap_all m output k) (unmapped_all m output output k) → run (unmapped_all m output output) l ≡ run (unmap_all m output) l
  unfolding run
  rules_ran l k e c = (λ j. emit l (unmapped_all m output output (e j)).entries) ∙ ap (emit l) (sym c.entries_is) ∙ (λ j. emit l (unmap_all m output (sym e j)).entries)

  pub rules_gave : (l l1 : Lent) (v : Value) → Gave (unmapped_all m output output) l l1 v → Gave (unmap_all m output) l l1 (record { memory = all_bare m; output = v })
  rules_gave l l1 v g =
      let c = rules_like l.state.next in
      record {
        ran = g.ran ∙ rules_ran l l.state.next refl c;
        value = λ o. λ j. record { memory = sym c.memory_is j; output = (g.value o ∙ sym c.output_is) j };
      }

  -- what emit_unmap_all promises is the rules' unmapping: its log and state, its outputs at the front of the room, and its memory
  pub unmap_all_gave : (room : Value) (l l1 : Lent) (v : Value) → length output ≤ length room → Gave (unmapped_all m output (sets room 0 output)) l l1 v
      → Gave (unmap_all m output) l l1 (record { memory = all_bare m; output = take (length output) v })
  unmap_all_gave room l l1 v h g = rules_gave l l1 (take (length output) v) (room_gave m output room l l1 v h g)

-- ---- what the numbers leave
module _ (one : Bool) (next : ℕ) (m : Memory) (nets trits output : List ℕ) (z : driving_number one next (given_of m nets trits) output ≡ 0) (s : short_ports (memory_of m nets trits) ≡ false) where
  abbrev M : Mem
  M = memory_of m nets trits

  good : Valid one (bad_output_len M output) (bad_value next output) next m nets trits
  unfolding driving_number
  good = valid one (bad_output_len M output) (bad_value next output) next m nets trits z

  sized : (M.width ≤ 128) × (length M.writes ≤ 8) × (length M.reads ≤ 8)
  unfolding too_large
  sized =
      let x = or_false (ltb max_depth M.depth) _ good.large_not in
      let y = or_false (ltb max_width M.width) _ x.1 in
      let w = or_false (ltb max_bits (M.depth * M.width)) _ y.1 in
      let t = or_false (ltb max_ports (length M.writes)) _ w.1 in
      (ltb-false max_width M.width y.0, ltb-false max_ports (length M.writes) t.0, ltb-false max_ports (length M.reads) t.1)

  shapes : (any (bad_write_shape M) M.writes ≡ false) × (any (bad_read_shape M) M.reads ≡ false)
  unfolding bad_shape
  shapes = or_false (any (bad_write_shape M) M.writes) (any (bad_read_shape M) M.reads) (or_false (not (eqb (length M.init) (M.depth * M.width))) _ good.shape_not).1

  pub all_ready : AllReady M
  all_ready = record { thin = sized.0; few = sized.1; reads_few = sized.2; writes_good = shapes.0; reads_good = shapes.1; long = s }
