-- What is known of a call that numbers 1 to 4, 14 and 15 pass, and the call by its number.
use mathlib.Core.Path.{◌≡◌, refl, sym, ap, ◌∙◌}
use Prim.Native.Nat.{ℕ, ◌<◌, min}
use native.Mathlib.Nat.{le_refl}
use native.Mathlib.Omega.{arith}
use mathlib.Core.Bool.{Bool, true, false, not, ◌&&◌}
use mathlib.Core.Option.{Option, none, some}
use mathlib.Core.List.{List}
use lib.ListN.{length}
use Rattle.lists.specs.Choice.{when◌then◌else◌, ◌or_else◌}
use Rattle.lists.specs.Lists.{any}
use Rattle.lists.proofs.Choice.{refused_not, else_zero, else_rest, if_true, if_false}
use Rattle.rules.specs.Limits.{max_ports}
use Rattle.rules.specs.Value.{Value}
use Rattle.rules.specs.Cell.{ReadFlipFlop, ReadPort, Mem, read_at_of, is_some}
use Rattle.rules.specs.Log.{Trace, done, start_net}
use Rattle.rules.specs.Conditions.{unclocked, short_pair, short_port}
use Rattle.rules.specs.Ports.{Driving, wanted, is_plain, unmap_reset, unmap_reset_of, unmap_read_init_reset_transparency}
use Rattle.rules.specs.Refusals.{Rooms, port_number, room_refusal, log_refusal, driving_number, driving_refusal, driven_refusal, flip_flop_refusal, unmap_reset_number, unmap_read_init_reset_transparency_refusal}
use Rattle.rules.specs.Answers as rules
use Rattle.rules.specs.Answers.{driven, unmap_reset_call}
use Rattle.rules.proofs.Counted.{counted_done, counted_refusal}
use Rattle.net_flip_flop.specs.declared.Controls.{Controls}
use Rattle.log_entries.specs.View.{state_of}
use Rattle.log_entries.specs.declared.LogState as machine
use Rattle.net_memory.specs.declared.Memory.{Memory}
use Rattle.net_memory.specs.FlipFlop.{MemoryReadFlipFlop}
use Rattle.std.specs.Prelude.{Some, Result, Ok, Err}
use Rattle.rules.specs.Refusal.{number}
use Rattle.rules.specs.declared.numbers.Refusal.{Refusal}
use Rattle.rules.specs.declared.numbers.Refusal.TheVariants.{Unclocked}
use Rattle.rules.proofs.Done.{done_value}
use Rattle.rules.proofs.Answers.{else_err}
use Rattle.net_memory.specs.View.{memory_of, reads_of, writes_of, read_port}
use Rattle.net_memory.specs.Given.{given_of}
use Rattle.net_memory.proofs.Fits.{nets_fit, trits_fit}
use Rattle.port_unmap.proofs.Rooms.{enough}
use Rattle.net_check.proofs.Accept.{exact}
use Rattle.port_unmap.specs.Ready.{own_flip_flop}
use Rattle.port_unmap.specs.Call.{driving, rooms_of, driven_of}
use Rattle.port_unmap.specs.declared.Driven.{Driven}
use Rattle.port_unmap.proofs.Act.{driven_err}
use Rattle.port_unmap.proofs.Passed.{flip_some, port_there, good, own_shape, shaped, long_by, driven_as, none_ok}
use Rattle.port_reset.specs.Ready.{ResetReady}
use Rattle.port_unreset.specs.Struct.{struct_after, trits_after, unreset, blanked}
use Rattle.port_reset.specs.Call.{Acted, ResetStruct}
use Rattle.port_unreset.proofs.View.{trits_there_lem}
use Rattle.port_reset.proofs.Act.{reset_fits}

-- ---- the numbers
long_wanted : (v : Mem) (r : ReadPort) (incl : Bool) (f : ReadFlipFlop) → r.flip_flop ≡ some f → (incl && short_port v r) ≡ false → any (short_pair v r) (wanted incl f) ≡ false
unfolding wanted
long_wanted v r true f e q = long_by v r f e q
long_wanted v r false f e q = refl

module _ (next : ℕ) (m : Memory) (nets trits : List ℕ) (i : ℕ) (incl : Bool) (output : List ℕ) (z : unmap_reset_number next (given_of m nets trits) i incl output ≡ 0)
    (rl : length (reads_of m nets trits) ≡ min max_ports m.read_count) (wl : length (writes_of m nets) ≡ min max_ports m.write_count) where
  abbrev M : Mem
  M = memory_of m nets trits

  both : (driving_number false next (given_of m nets trits) output ≡ 0) × ((when incl && short_port M (read_at_of M i) then 14 else port_number M i) ≡ 0)
  unfolding unmap_reset_number
  both = else_zero (driving_number false next (given_of m nets trits) output) _ z

  short_not : ((incl && short_port M (read_at_of M i)) ≡ false) × (port_number M i ≡ 0)
  short_not = refused_not (incl && short_port M (read_at_of M i)) 14 (port_number M i) (omega arith) both.1

  pub is_there_lem : i < min max_ports m.read_count
  is_there_lem = port_there next m nets trits i output both.0 short_not.1 rl wl

  pub ready : (c : Controls) → (read_port m i).flip_flop ≡ Some c → ResetReady m nets trits i c incl
  ready c e = record {
    port = shaped next m nets trits i output both.0 short_not.1 rl wl c e;
    own_good = own_shape next m nets trits i output both.0 short_not.1 rl wl c e;
    fits = trits_there_lem m trits i is_there_lem (exact (good next m nets trits i output both.0 short_not.1 rl wl)).trits_exact;
    long = long_wanted M (read_at_of M i) incl (own_flip_flop m trits i c) (flip_some m nets trits i is_there_lem c e) short_not.0;
  }

-- ---- 22
flip_22 : (r : ReadPort) → r.flip_flop ≡ none → flip_flop_refusal r ≡ 22
unfolding flip_flop_refusal unclocked is_some
flip_22 r e = ap (λ (o : Option ReadFlipFlop). when not (is_some o) then 22 else 0) e

flip_0 : (r : ReadPort) (f : ReadFlipFlop) → r.flip_flop ≡ some f → flip_flop_refusal r ≡ 0
unfolding flip_flop_refusal unclocked is_some
flip_0 r f e = ap (λ (o : Option ReadFlipFlop). when not (is_some o) then 22 else 0) e

-- ---- by the flip-flop
module _ (v : Mem) (i : ℕ) (incl : Bool) (output : Value) (f : ReadFlipFlop) (e : (read_at_of v i).flip_flop ≡ some f) where
  as_plain : is_plain incl f ≡ true → done (record { memory = v; output = output }) ≡ unmap_read_init_reset_transparency v i incl output
  unfolding unmap_read_init_reset_transparency unmap_reset_of
  as_plain h = sym (ap (λ (o : Option ReadFlipFlop). unmap_reset_of o v i incl output) e ∙ if_true (is_plain incl f) (done (record { memory = v; output = output })) (unmap_reset v i incl output f) h)

  as_unmapped : is_plain incl f ≡ false → unmap_reset v i incl output f ≡ unmap_read_init_reset_transparency v i incl output
  unfolding unmap_read_init_reset_transparency unmap_reset_of
  as_unmapped h = sym (ap (λ (o : Option ReadFlipFlop). unmap_reset_of o v i incl output) e ∙ if_false (is_plain incl f) (done (record { memory = v; output = output })) (unmap_reset v i incl output f) h)

module _ (m : Memory) (nets trits : List ℕ) (i : ℕ) (incl : Bool) (output log : List ℕ) (st : machine.LogState) where
  abbrev Mv : Mem
  Mv = memory_of m nets trits

  abbrev d : Driving
  d = driving m nets trits output

  abbrev t : Trace Driving
  t = unmap_read_init_reset_transparency Mv i incl output

  abbrev r : Rooms
  r = rooms_of nets trits output

  -- 22, 20 and 21
  abbrev late : ℕ
  late = flip_flop_refusal (read_at_of Mv i) or_else driven_refusal r (length log) (state_of st) t

  late_is : flip_flop_refusal (read_at_of Mv i) ≡ 0 → driving_refusal r (t (start_net (state_of st))).value ≡ 0 → log_refusal (length log) (state_of st) t ≡ late
  unfolding driven_refusal
  late_is a b = sym (else_rest (flip_flop_refusal (read_at_of Mv i)) _ a ∙ else_rest (driving_refusal r (t (start_net (state_of st))).value) _ b)

  late_22 : (read_at_of Mv i).flip_flop ≡ none → number Unclocked ≡ late
  late_22 e = else_err Unclocked (flip_flop_refusal (read_at_of Mv i)) _ (sym (flip_22 (read_at_of Mv i) e))

  pub none_refused : (read_at_of Mv i).flip_flop ≡ none → driven_of m (Err Unclocked) nets trits output log ≡ driven late log (state_of st) d t
  none_refused e = driven_err late Mv output log (state_of st) t Unclocked (late_22 e)

  -- where nothing is done
  module _ (f : ReadFlipFlop) (e : (read_at_of Mv i).flip_flop ≡ some f) (h : is_plain incl f ≡ true) where
    as_room : (n : ℕ) → n ≡ room_refusal (length log) (state_of st) 0 0 → n ≡ log_refusal (length log) (state_of st) (done d)
    as_room n q = q ∙ sym (counted_refusal (done d) 0 0 (counted_done d) (length log) (state_of st))

    plain_as : (x : rules.Driven) → x ≡ driven (log_refusal (length log) (state_of st) (done d)) log (state_of st) d (done d) → x ≡ driven late log (state_of st) d t
    plain_as x q =
        let a = as_plain Mv i incl output f e h in
        let b = ap (λ (u : Trace Driving). driving_refusal r (u (start_net (state_of st))).value) (sym a) ∙ ap (driving_refusal r) (done_value d (start_net (state_of st)))
        ∙ enough r d (nets_fit m nets trits) (trits_fit m nets trits) (le_refl (length output)) in
        driven_as d log (state_of st) (length log) (done d) t x a q
        ∙ ap (λ (y : ℕ). driven y log (state_of st) d t) (late_is (flip_0 (read_at_of Mv i) f e) b)

    pub plain_refused : (k : Refusal) → number k ≡ room_refusal (length log) (state_of st) 0 0 → driven_of m (Err k) nets trits output log ≡ driven late log (state_of st) d t
    plain_refused k q = plain_as _ (driven_err _ Mv output log (state_of st) (done d) k (as_room (number k) q))

    pub plain_done : 0 ≡ room_refusal (length log) (state_of st) 0 0 → driven_of m (Ok (record { memory = m; state = st })) nets trits output log ≡ driven late log (state_of st) d t
    plain_done q = plain_as _ (none_ok _ d log (state_of st) (as_room 0 q))

  pub some_done : (c : Controls) (x : rules.Driven) → ResetReady m nets trits i c incl → (read_at_of Mv i).flip_flop ≡ some (own_flip_flop m trits i c) → is_plain incl (own_flip_flop m trits i c) ≡ false
      → x ≡ driven (log_refusal (length log) (state_of st) (unmap_reset Mv i incl output (own_flip_flop m trits i c))) log (state_of st) d (unmap_reset Mv i incl output (own_flip_flop m trits i c))
      → x ≡ driven late log (state_of st) d t
  some_done c x g e h q =
      let f = own_flip_flop m trits i c in
      let a = as_unmapped Mv i incl output f e h in
      let b = ap (λ (u : Trace Driving). driving_refusal r (u (start_net (state_of st))).value) (sym a) ∙ reset_fits m nets trits i c incl g output (start_net (state_of st)) in
      driven_as d log (state_of st) (length log) (unmap_reset Mv i incl output f) t x a q
      ∙ ap (λ (y : ℕ). driven y log (state_of st) d t) (late_is (flip_0 (read_at_of Mv i) f e) b)

  -- ---- the call
  abbrev number_is : ℕ
  number_is = unmap_reset_number st.next (given_of m nets trits) i incl output

  pub call_refused : (k : Refusal) → number k ≡ number_is → driven_of m (Err k) nets trits output log ≡ unmap_reset_call r log (state_of st) (given_of m nets trits) i incl output
  unfolding unmap_reset_call unmap_read_init_reset_transparency_refusal
  call_refused k e = driven_err _ Mv output log (state_of st) t k (else_err k number_is _ e)

  pub call_passed : (x : rules.Driven) → number_is ≡ 0 → x ≡ driven late log (state_of st) d t → x ≡ unmap_reset_call r log (state_of st) (given_of m nets trits) i incl output
  unfolding unmap_reset_call unmap_read_init_reset_transparency_refusal
  call_passed x z q = q ∙ ap (λ (n : ℕ). driven n log (state_of st) d t) (sym (else_rest number_is _ z))

-- ---- the struct and the trits
module _ (m : Memory) (i : ℕ) (incl : Bool) (trits : List ℕ) where
  abbrev own : MemoryReadFlipFlop
  own = (read_port m i).flip_flop

  module _ (c : Controls) (e : own ≡ Some c) where
    pub struct_plain : is_plain incl (own_flip_flop m trits i c) ≡ true → (m ≡ struct_after own m trits i incl) × (trits ≡ trits_after own m trits i incl)
    struct_plain h = (
      sym (ap (λ (f : MemoryReadFlipFlop). struct_after f m trits i incl) e ∙ if_true (is_plain incl (own_flip_flop m trits i c)) m (unreset m i c incl) h),
      sym (ap (λ (f : MemoryReadFlipFlop). trits_after f m trits i incl) e ∙ if_true (is_plain incl (own_flip_flop m trits i c)) trits (blanked m i trits) h),
    )

    pub struct_some : (x : Result Driven Refusal) (trits' : List ℕ) → is_plain incl (own_flip_flop m trits i c) ≡ false → Acted m i c incl x trits trits' → ResetStruct m i incl x trits trits'
    struct_some (Err k) trits' h a = a
    struct_some (Ok x) trits' h a = (
      a.0 ∙ sym (ap (λ (f : MemoryReadFlipFlop). struct_after f m trits i incl) e ∙ if_false (is_plain incl (own_flip_flop m trits i c)) m (unreset m i c incl) h),
      a.1 ∙ sym (ap (λ (f : MemoryReadFlipFlop). trits_after f m trits i incl) e ∙ if_false (is_plain incl (own_flip_flop m trits i c)) trits (blanked m i trits) h),
    )
