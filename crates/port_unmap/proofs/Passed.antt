-- What is known of a call that numbers 1 to 4, 14 and 15 pass, and the call by its number.
use mathlib.Core.Path.{◌≡◌, refl, sym, ap, ◌∙◌}
use Prim.Native.Nat.{ℕ, ◌*◌, ◌<◌, min}
use native.Mathlib.Nat.{add-zero}
use native.Mathlib.Omega.{arith}
use mathlib.Core.Bool.{Bool, false, not}
use mathlib.Core.Option.{Option, none, some}
use mathlib.Core.List.{List}
use lib.ListN.{length}
use lib.Seq.{set-get_or}
use lib.Dec.{eqb, leb}
use borrow.Author.Tests.{leb-false, eqb-true, not-false}
use Rattle.lists.specs.Choice.{when◌then◌else◌}
use Rattle.lists.specs.Lists.{any}
use Rattle.lists.proofs.Choice.{or_false, refused_not, else_zero, else_rest}
use Rattle.lists.proofs.All.{any_at}
use Rattle.rules.specs.Limits.{max_ports}
use Rattle.rules.specs.Value.{Value}
use Rattle.rules.specs.Cell.{ReadFlipFlop, ReadPort, Mem, read_at_of, read_wide_log2, held, transparent_ports}
use Rattle.rules.specs.Log.{Trace, done, added, words, LogState, start_net, state_after, log_after}
use Rattle.rules.specs.Conditions.{bad_write_shape, bad_read_shape, bad_shape, bad_data_len, bad_addr_len, bad_flip_flop_shape, bad_trit_lens, bad_output_len, bad_value, bad_port, not_below, short_pair, short_port}
use Rattle.rules.specs.Refusals.{port_number, room_refusal, log_refusal, driving_number, driving_refusal, driven_refusal, unmap_read_dff_number, unmap_read_dff_refusal}
use Rattle.rules.specs.Answers as rules
use Rattle.rules.specs.Answers.{Accepted, driven, unmap_read_dff_call}
use Rattle.rules.specs.Refusal.{number}
use Rattle.rules.specs.declared.numbers.Refusal.{Refusal}
use Rattle.rules.proofs.Answers.{else_err}
use Rattle.rules.specs.Ports.{Driving, unmap_dff, unmap_read_dff_of, unmap_read_dff}
use Rattle.rules.proofs.Counted.{counted_done, counted_refusal}
use Rattle.net_flip_flop.specs.declared.Controls.{Controls}
use Rattle.log_entries.specs.View.{state_of}
use Rattle.log_entries.specs.declared.LogState as machine
use Rattle.net_memory.specs.declared.Memory.{Memory}
use Rattle.net_memory.specs.declared.MemoryReadPort.{MemoryReadPort}
use Rattle.std.specs.Prelude.{None, Some, Ok, Err}
use Rattle.net_memory.specs.View.{no_read_port, with_read_port, memory_of, reads_of, writes_of, read_port, flip_flop_by, read_trits}
use Rattle.net_memory.proofs.Ports.{read_of_view, reads_at, trits_at}
use Rattle.net_check.proofs.Accept.{Valid, valid, sizes}
use Rattle.net_memory.specs.Given.{given_of}
use Rattle.port_unmap.specs.Ready.{own_flip_flop, PortShape, Ready}
use Rattle.port_unmap.specs.Call.{without, unclocking, driving, rooms_of, driven_of}
use Rattle.port_unmap.proofs.Act.{driven_err, driven_ok}

module _ (m : Memory) (nets trits : List ℕ) (i : ℕ) (h : i < min max_ports m.read_count) where
  flip_at : (read_at_of (memory_of m nets trits) i).flip_flop ≡ flip_flop_by (read_port m i).flip_flop (read_port m i) (read_trits m trits i)
  flip_at =
      ap (λ (r : ReadPort). r.flip_flop) (read_of_view m nets trits i ∙ reads_at m nets trits i h)
      ∙ ap (flip_flop_by (read_port m i).flip_flop (read_port m i)) (sym (trits_at m nets trits i h))

  pub flip_none : (read_port m i).flip_flop ≡ None → (read_at_of (memory_of m nets trits) i).flip_flop ≡ none
  flip_none e = flip_at ∙ (λ k. flip_flop_by (e k) (read_port m i) (read_trits m trits i))

  pub flip_some : (c : Controls) → (read_port m i).flip_flop ≡ Some c → (read_at_of (memory_of m nets trits) i).flip_flop ≡ some (own_flip_flop m trits i c)
  flip_some c e = flip_at ∙ (λ k. flip_flop_by (e k) (read_port m i) (read_trits m trits i))

any_some : (f : ReadFlipFlop → Bool) (o : Option ReadFlipFlop) (x : ReadFlipFlop) → o ≡ some x → any f (held o) ≡ false → f x ≡ false
unfolding held
any_some f o x e q = (or_false (f x) false (ap (λ (y : Option ReadFlipFlop). any f (held y)) (sym e) ∙ q)).0

-- ---- a call that drives nets, of a port that is there
module _ (next : ℕ) (m : Memory) (nets trits : List ℕ) (i : ℕ) (output : List ℕ) (z : driving_number false next (given_of m nets trits) output ≡ 0) (y : port_number (memory_of m nets trits) i ≡ 0)
    (rl : length (reads_of m nets trits) ≡ min max_ports m.read_count) (wl : length (writes_of m nets) ≡ min max_ports m.write_count) where
  abbrev M : Mem
  M = memory_of m nets trits

  reads_are : length M.reads ≡ min max_ports m.read_count
  unfolding memory_of
  reads_are = rl

  writes_are : length M.writes ≡ min max_ports m.write_count
  unfolding memory_of
  writes_are = wl

  below : port_number M i ≡ 0 → i < length M.reads
  unfolding port_number bad_port not_below
  below e = leb-false (length M.reads) i (refused_not (leb (length M.reads) i) 15 0 (omega arith) e).0

  pub port_there : i < min max_ports m.read_count
  port_there = omega (arith, below y, reads_are)

  pub good : Valid false (bad_output_len M output) (bad_value next output) next m nets trits
  unfolding driving_number
  good = valid false (bad_output_len M output) (bad_value next output) next m nets trits z

  shapes : (any (bad_write_shape M) M.writes ≡ false) × (any (bad_read_shape M) M.reads ≡ false)
  unfolding bad_shape
  shapes = or_false (any (bad_write_shape M) M.writes) (any (bad_read_shape M) M.reads) (or_false (not (eqb (length M.init) (M.depth * M.width))) _ good.shape_not).1

  read_shape : bad_read_shape M (read_at_of M i) ≡ false
  unfolding read_at_of
  read_shape = any_at (bad_read_shape M) M.reads shapes.1 i _ (below y)

  flip_shape : any (bad_flip_flop_shape M (read_at_of M i).data_len) (held (read_at_of M i).flip_flop) ≡ false
  unfolding bad_read_shape
  flip_shape = (or_false (bad_addr_len (read_at_of M i).addr (read_wide_log2 M (read_at_of M i))) _ (or_false (bad_data_len M.width (read_at_of M i).data_len) _ read_shape).1).1

  related_by : (f : ReadFlipFlop) (n : ℕ) → bad_flip_flop_shape M n f ≡ false → length f.relations ≡ length M.writes
  unfolding bad_flip_flop_shape
  related_by f n e = eqb-true _ _ (not-false _ (or_false (bad_trit_lens n f.clear_value f.reset_value f.init_value) _ e).1)

  module _ (c : Controls) (e : (read_port m i).flip_flop ≡ Some c) where
    -- the shape of its flip-flop
    pub own_shape : bad_flip_flop_shape M (read_at_of M i).data_len (own_flip_flop m trits i c) ≡ false
    own_shape = any_some (bad_flip_flop_shape M (read_at_of M i).data_len) (read_at_of M i).flip_flop (own_flip_flop m trits i c) (flip_some m nets trits i port_there c e) flip_shape

    pub shaped : PortShape m nets trits i c
    shaped = record {
      there = port_there;
      clocked = e;
      thin = (sizes good).width_ok;
      writes_good = shapes.0;
      read_good = read_shape;
      related = related_by (own_flip_flop m trits i c) (read_at_of M i).data_len own_shape;
      few = omega (arith, writes_are);
    }

-- what 14 tells of a clocked port
pub long_by : (v : Mem) (r : ReadPort) (f : ReadFlipFlop) → r.flip_flop ≡ some f → short_port v r ≡ false → any (short_pair v r) (transparent_ports f) ≡ false
unfolding short_port
long_by v r f e q = any_some (λ (x : ReadFlipFlop). any (short_pair v r) (transparent_ports x)) r.flip_flop f e q

-- ---- unmap_read_dff
module _ (next : ℕ) (m : Memory) (nets trits : List ℕ) (i : ℕ) (output : List ℕ) (z : unmap_read_dff_number next (given_of m nets trits) i output ≡ 0)
    (rl : length (reads_of m nets trits) ≡ min max_ports m.read_count) (wl : length (writes_of m nets) ≡ min max_ports m.write_count) where
  abbrev Mv : Mem
  Mv = memory_of m nets trits

  both : (driving_number false next (given_of m nets trits) output ≡ 0) × ((when short_port Mv (read_at_of Mv i) then 14 else port_number Mv i) ≡ 0)
  unfolding unmap_read_dff_number
  both = else_zero (driving_number false next (given_of m nets trits) output) _ z

  short_not : (short_port Mv (read_at_of Mv i) ≡ false) × (port_number Mv i ≡ 0)
  short_not = refused_not (short_port Mv (read_at_of Mv i)) 14 (port_number Mv i) (omega arith) both.1

  pub is_there_lem : i < min max_ports m.read_count
  is_there_lem = port_there next m nets trits i output both.0 short_not.1 rl wl

  pub ready : (c : Controls) → (read_port m i).flip_flop ≡ Some c → Ready m nets trits i c
  ready c e = record {
    port = shaped next m nets trits i output both.0 short_not.1 rl wl c e;
    long = long_by Mv (read_at_of Mv i) (own_flip_flop m trits i c) (flip_some m nets trits i is_there_lem c e) short_not.0;
  }

-- ---- by the flip-flop
pub dff_some : (v : Mem) (i : ℕ) (output : Value) (f : ReadFlipFlop) → (read_at_of v i).flip_flop ≡ some f → unmap_dff v i output f ≡ unmap_read_dff v i output
unfolding unmap_read_dff unmap_read_dff_of
dff_some v i output f e = ap (λ (o : Option ReadFlipFlop). unmap_read_dff_of o v i output) (sym e)

dff_none : (v : Mem) (i : ℕ) (output : Value) → (read_at_of v i).flip_flop ≡ none → done (record { memory = v; output = output }) ≡ unmap_read_dff v i output
unfolding unmap_read_dff unmap_read_dff_of
dff_none v i output e = ap (λ (o : Option ReadFlipFlop). unmap_read_dff_of o v i output) (sym e)

pub driven_as : (d : Driving) (log : List ℕ) (s : LogState) (room : ℕ) (t u : Trace Driving) (x : rules.Driven) → t ≡ u → x ≡ driven (log_refusal room s t) log s d t → x ≡ driven (log_refusal room s u) log s d u
driven_as d log s room t u x e q = q ∙ (λ k. driven (log_refusal room s (e k)) log s d (e k))

-- nothing done
pub none_ok : (n : ℕ) (d : Driving) (log : List ℕ) (s : LogState) → 0 ≡ n → record { answer = Accepted s; log = log; memory = d.memory; output = d.output } ≡ driven n log s d (done d)
unfolding done log_after state_after added words
none_ok n d log s h = driven_ok n d.memory d.output log s (done d) d.memory d.output log s h refl refl refl (λ k. record { used = sym (add-zero s.used) k; next = s.next })

-- a port without a flip-flop stays as it is
without_same : (p : MemoryReadPort) → p.flip_flop ≡ None → without p ≡ p
without_same p e = λ k. record {
  addr_len = p.addr_len;
  data_len = p.data_len;
  clear_len = p.clear_len;
  reset_len = p.reset_len;
  init_len = p.init_len;
  relations_len = p.relations_len;
  relations = p.relations;
  flip_flop = sym e k;
}

port_same : (m : Memory) (i : ℕ) → with_read_port m i (read_port m i) ≡ m
port_same m i = ap (λ (ps : List MemoryReadPort). record { depth = m.depth; width = m.width; init_len = m.init_len; write_count = m.write_count; read_count = m.read_count; write_ports = m.write_ports; read_ports = ps }) (set-get_or m.read_ports i no_read_port)

pub struct_none : (m : Memory) (i : ℕ) → (read_port m i).flip_flop ≡ None → m ≡ unclocking m i
struct_none m i e = sym (ap (with_read_port m i) (without_same (read_port m i) e) ∙ port_same m i)

module _ (m : Memory) (nets trits : List ℕ) (i : ℕ) (output log : List ℕ) (st : machine.LogState) where
  abbrev d : Driving
  d = driving m nets trits output

  abbrev t : Trace Driving
  t = unmap_read_dff (memory_of m nets trits) i output

  abbrev number_is : ℕ
  number_is = unmap_read_dff_number st.next (given_of m nets trits) i output

  module _ (e : (read_at_of (memory_of m nets trits) i).flip_flop ≡ none) where
    as_room : (n : ℕ) → n ≡ room_refusal (length log) (state_of st) 0 0 → n ≡ log_refusal (length log) (state_of st) (done d)
    as_room n q = q ∙ sym (counted_refusal (done d) 0 0 (counted_done d) (length log) (state_of st))

    pub none_refused : (r : Refusal) → number r ≡ room_refusal (length log) (state_of st) 0 0
        → driven_of m (Err r) nets trits output log ≡ driven (log_refusal (length log) (state_of st) t) log (state_of st) d t
    none_refused r q =
        driven_as d log (state_of st) (length log) (done d) t _ (dff_none (memory_of m nets trits) i output e)
        (driven_err _ (memory_of m nets trits) output log (state_of st) (done d) r (as_room (number r) q))

    pub none_done : 0 ≡ room_refusal (length log) (state_of st) 0 0
        → driven_of m (Ok (record { memory = m; state = st })) nets trits output log ≡ driven (log_refusal (length log) (state_of st) t) log (state_of st) d t
    none_done q =
        driven_as d log (state_of st) (length log) (done d) t _ (dff_none (memory_of m nets trits) i output e)
        (none_ok _ d log (state_of st) (as_room 0 q))

  -- ---- the call
  pub call_refused : (r : Refusal) → number r ≡ number_is
      → driven_of m (Err r) nets trits output log ≡ unmap_read_dff_call (rooms_of nets trits output) log (state_of st) (given_of m nets trits) i output
  unfolding unmap_read_dff_call unmap_read_dff_refusal
  call_refused r e = driven_err _ (memory_of m nets trits) output log (state_of st) t r (else_err r number_is _ e)

  pub call_passed : (x : rules.Driven) → number_is ≡ 0 → driving_refusal (rooms_of nets trits output) (t (start_net (state_of st))).value ≡ 0
      → x ≡ driven (log_refusal (length log) (state_of st) t) log (state_of st) d t
      → x ≡ unmap_read_dff_call (rooms_of nets trits output) log (state_of st) (given_of m nets trits) i output
  unfolding unmap_read_dff_call unmap_read_dff_refusal driven_refusal
  call_passed x z f q = q ∙ ap (λ (n : ℕ). driven n log (state_of st) d t) (sym (else_rest number_is _ z ∙ else_rest (driving_refusal (rooms_of nets trits output) (t (start_net (state_of st))).value) _ f))
