-- The number of an emulation: the input's, then those of the log.
use mathlib.Core.Path.{◌≡◌, refl, sym, ap, ◌∙◌}
use Prim.Native.Nat.{ℕ, zero, suc, ◌≤◌, min}
use native.Mathlib.Omega.{arith}
use mathlib.Core.Bool.{Bool}
use mathlib.Core.List.{List}
use lib.ListN.{length}
use Rattle.lists.specs.Choice.{when◌then◌else◌, ◌or_else◌}
use Rattle.lists.specs.Lists.{any, part}
use Rattle.lists.proofs.Choice.{else_first, else_rest}
use Rattle.rules.specs.Limits.{max_ports}
use Rattle.rules.specs.Logic.{is_undef}
use Rattle.rules.specs.Cell.{WritePort, Mem, is_read_before_write}
use Rattle.rules.specs.Log.{Trace, LogState, start_net}
use Rattle.rules.specs.Conditions.{unclocked}
use Rattle.rules.specs.Ports.{relates_to, emulate_read_before_write}
use Rattle.rules.specs.Refusals.{emulate_number, driving_refusal, log_refusal, alone, emulate_read_before_write_refusal}
use Rattle.rules.specs.Refusal.{number}
use Rattle.rules.specs.declared.numbers.Refusal.{Refusal}
use Rattle.rules.proofs.Answers.{else_err}
use Rattle.net_memory.specs.declared.Memory.{Memory}
use Rattle.net_memory.specs.Given.{given_of}
use Rattle.net_memory.specs.View.{writes_of, memory_of}
use Rattle.log_entries.specs.Emission.{Lent, run}
use Rattle.port_relations.proofs.Clocks.{before_is}
use Rattle.port_settle.specs.Settled.{is_read}
use Rattle.port_emulate.specs.Delays.{delays, rooms_of}
use Rattle.port_emulate.proofs.Delays.{emulate_run}
use Rattle.port_emulate.proofs.Rooms.{emulate_fits}

nonzero : (n : ℕ) → suc n ≡ 0 → ⊥
nonzero n e = omega arith

else_assoc : (a b x : ℕ) → ((a or_else b) or_else x) ≡ (a or_else (b or_else x))
else_assoc zero b x = ap (λ (k : ℕ). k or_else x) (else_rest 0 b refl) ∙ sym (else_rest 0 (b or_else x) refl)
else_assoc (suc a) b x =
    ap (λ (k : ℕ). k or_else x) (else_first (suc a) b (nonzero a)) ∙ else_first (suc a) x (nonzero a) ∙ sym (else_first (suc a) (b or_else x) (nonzero a))

module _ (m : Memory) (nets trits : List ℕ) (room : ℕ) (s : LogState) where
  abbrev input : ℕ
  input = emulate_number s.next (given_of m nets trits) or_else (when any unclocked (memory_of m nets trits).reads then 22 else 0)

  abbrev rest : ℕ
  rest = driving_refusal (rooms_of nets trits) (alone (emulate_read_before_write (memory_of m nets trits) (start_net s)).value) or_else log_refusal room s (emulate_read_before_write (memory_of m nets trits))

  whole_is : (input or_else rest) ≡ emulate_read_before_write_refusal (rooms_of nets trits) room s (given_of m nets trits)
  unfolding emulate_read_before_write_refusal
  whole_is = else_assoc (emulate_number s.next (given_of m nets trits)) (when any unclocked (memory_of m nets trits).reads then 22 else 0) rest

  pub refused_input : (e : Refusal) → number e ≡ input → number e ≡ emulate_read_before_write_refusal (rooms_of nets trits) room s (given_of m nets trits)
  refused_input e h = else_err e input rest h ∙ whole_is

  pub refused_log : (n : ℕ) → input ≡ 0 → n ≡ log_refusal room s (emulate_read_before_write (memory_of m nets trits)) → n ≡ emulate_read_before_write_refusal (rooms_of nets trits) room s (given_of m nets trits)
  refused_log n z e = e ∙ sym (else_rest _ _ (emulate_fits m nets trits (start_net s))) ∙ sym (else_rest input rest z) ∙ whole_is

-- ---- the run without a log
module _ (m : Memory) (nets trits : List ℕ) where
  abbrev M : Mem
  M = memory_of m nets trits

  writes_are : writes_of m nets ≡ M.writes
  unfolding memory_of
  writes_are = refl

  init_is : part 0 m.init_len trits ≡ M.init
  unfolding memory_of
  init_is = refl

  pub delays_rules : (allX : Bool) → allX ≡ is_undef M.init → delays (is_read m nets trits) allX 0 (writes_of m nets) ≡ delays (relates_to is_read_before_write M) (is_undef M.init) 0 M.writes
  delays_rules allX e = λ k. delays (λ j. before_is m nets trits j k) (e k) 0 (writes_are k)

  -- as the code finds it
  pub all_x_is : (size : ℕ) (own : List ℕ) (b : Bool) → size ≡ m.init_len → own ≡ part 0 size trits → b ≡ is_undef own → b ≡ is_undef M.init
  all_x_is size own b es eo eb = eb ∙ ap is_undef (eo ∙ ap (λ (n : ℕ). part 0 n trits) es ∙ init_is)

  pub dry_run : (allX : Bool) (l l1 : Lent) → allX ≡ is_undef M.init → l1 ≡ run (delays (is_read m nets trits) allX 0 (writes_of m nets)) l → l1 ≡ run (emulate_read_before_write M) l
  dry_run allX l l1 e q = q ∙ ap (λ (t : Trace (List WritePort)). run t l) (delays_rules allX e) ∙ emulate_run M l

  pub few_writes : length (writes_of m nets) ≡ min max_ports m.write_count → length M.writes ≤ 8
  few_writes n = omega (arith, ap length (sym writes_are), n)
