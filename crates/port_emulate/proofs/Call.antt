-- How the number, the struct, the nets, the log and the state join to the whole answer.
use Rattle.std.specs.Prelude.{Ok, Err}
use mathlib.Core.Path.{◌≡◌, refl, sym, ap, ◌∙◌}
use Prim.Native.Nat.{ℕ, ◌+◌, min}
use mathlib.Core.Bool.{Bool}
use mathlib.Core.List.{List, [], map, append-nil}
use lib.ListN.{length}
use lib.Seq.{sets}
use Rattle.lists.specs.Lists.{part}
use Rattle.rules.specs.Limits.{max_ports}
use Rattle.rules.specs.Logic.{is_undef}
use Rattle.rules.specs.Cell.{WritePort, Mem}
use Rattle.rules.specs.Log.{Entry, words, Trace, ◌>>=◌, done, LogState, added, state_after, log_after}
use Rattle.rules.specs.Ports.{Driving, delay_writes, settled_port, emulate_read_before_write}
use Rattle.rules.specs.Refusals.{alone, log_refusal, emulate_read_before_write_refusal}
use Rattle.rules.specs.Refusal.{number}
use Rattle.rules.specs.declared.numbers.Refusal.{Refusal}
use Rattle.rules.specs.Answers as rules
use Rattle.rules.specs.Answers.{emulate_call}
use Rattle.log_entries.specs.Emission.{Lent, is_over, run}
use Rattle.log_entries.specs.View.{state_of, lent}
use Rattle.log_entries.specs.declared.LogState as machine
use Rattle.log_entries.proofs.Emission.{accepted_run, accepted_held, named, run_name}
use Rattle.net_memory.specs.declared.Memory.{Memory}
use Rattle.net_memory.specs.Given.{given_of}
use Rattle.net_memory.specs.View.{writes_of, memory_of}
use Rattle.port_unmap.specs.Call.{driven_of}
use Rattle.port_transparency.proofs.Gave.{gave_unnamed}
use Rattle.port_unmap.proofs.Act.{driven_err, driven_ok}
use Rattle.port_settle.specs.Settled.{is_read, turned_from, turned_mem, settled_mem, turning, settling}
use Rattle.port_emulate.specs.Delays.{rooms_of, delays, PortsDone, Emulated}
use Rattle.port_emulate.proofs.Delays.{delays_are, chains_emulate}
use Rattle.port_emulate.proofs.Number.{delays_rules, dry_run}

-- ---- a trace whose value stands alone
module _ (t : Trace Mem) (s : LogState) where
  abbrev T : Trace Driving
  T = t >>= λ v. done (alone v)

  alone-memory : (T s.next).value.memory ≡ (t s.next).value
  unfolding ◌>>=◌ done alone
  alone-memory = refl

  alone_output : (T s.next).value.output ≡ []
  unfolding ◌>>=◌ done alone
  alone_output = refl

  alone_state : state_after s (T s.next) ≡ state_after s (t s.next)
  unfolding ◌>>=◌ done state_after added
  alone_state = ap (λ (es : List Entry). record { used = s.used + length (words es); next = (t s.next).next }) (append-nil (t s.next).entries)

  alone-log : (log : List ℕ) → log_after log s (T s.next) ≡ log_after log s (t s.next)
  unfolding ◌>>=◌ done log_after added
  alone-log log = ap (λ (es : List Entry). sets log s.used (words es)) (append-nil (t s.next).entries)

-- ---- the call
module _ (m : Memory) (nets trits log : List ℕ) (st : machine.LogState) where
  abbrev M : Mem
  M = memory_of m nets trits

  abbrev E : Trace Mem
  E = emulate_read_before_write M

  abbrev N : ℕ
  N = emulate_read_before_write_refusal (rooms_of nets trits) (length log) (state_of st) (given_of m nets trits)

  abbrev whole : rules.Driven
  whole = emulate_call (rooms_of nets trits) log (state_of st) (given_of m nets trits)

  pub call_refused : (e : Refusal) → number e ≡ N → driven_of m (Err e) nets trits [] log ≡ whole
  unfolding emulate_call alone
  call_refused e h = driven_err N M [] log (state_of st) (T E (state_of st)) e h

  done_as : (v : Mem) (log' : List ℕ) (s' : LogState) → 0 ≡ N → v ≡ (E st.next).value → log' ≡ log_after log (state_of st) (E st.next) → s' ≡ state_after (state_of st) (E st.next)
      → record { answer = rules.Accepted s'; log = log'; memory = v; output = [] } ≡ whole
  unfolding emulate_call alone
  done_as v log' s' z em el es =
      driven_ok N M [] log (state_of st) (T E (state_of st)) v [] log' s' z (em ∙ sym (alone-memory E (state_of st))) (sym (alone_output E (state_of st)))
      (el ∙ sym (alone-log E (state_of st) log)) (es ∙ sym (alone_state E (state_of st)))

  -- the memory that the trace gives
  value_is : (nets' : List ℕ) → turned_from (is_read m nets trits) 0 (writes_of m nets') ≡ (delay_writes M 0 M.writes st.next).value
      → (memory_of m nets' trits).reads ≡ (memory_of m nets trits).reads → settled_mem M (turned_mem (is_read m nets trits) (memory_of m nets' trits)) ≡ (E st.next).value
  unfolding memory_of emulate_read_before_write ◌>>=◌ done
  value_is nets' e q = λ k. record { depth = m.depth; width = m.width; init = part 0 m.init_len trits; writes = e k; reads = map (settled_port M) (q k) }

  module _ (allX : Bool) (nets' log' : List ℕ) (st' : machine.LogState) (ea : allX ≡ is_undef M.init) (z : 0 ≡ log_refusal (length log) (state_of st) E)
      (d : PortsDone m allX nets nets' (lent st log) (lent st' log')) where
    ran_is : lent st' log' ≡ run E (lent st log)
    ran_is = dry_run m nets trits allX (lent st log) (lent st' log') ea (d.gave nets trits).ran

    writes_is : turned_from (is_read m nets trits) 0 (writes_of m nets') ≡ (delay_writes M 0 M.writes st.next).value
    writes_is =
        (d.gave nets trits).value (ap (λ (x : Lent). is_over x.state) ran_is ∙ accepted_held E (length log) (state_of st) log (chains_emulate M) (sym z))
        ∙ ap (λ (t : Trace (List WritePort)). (t st.next).value) (delays_rules m nets trits allX ea ∙ delays_are M 0 M.writes)

    pub call_done : (v w : Memory) → 0 ≡ N → memory_of v nets' trits ≡ turned_mem (is_read m nets trits) (memory_of m nets' trits) → memory_of w nets' trits ≡ settled_mem M (memory_of v nets' trits)
        → driven_of m (Ok (record { memory = w; state = st' })) nets' trits [] log' ≡ whole
    call_done v w n ev ew =
        let q = ran_is ∙ accepted_run E (length log) (state_of st) log (chains_emulate M) (sym z) in
        done_as (memory_of w nets' trits) log' (state_of st') n (ew ∙ ap (settled_mem M) ev ∙ value_is nets' writes_is (d.kept trits)) (ap (λ (x : Lent). x.log) q) (ap (λ (x : Lent). x.state) q)

-- ---- the struct and the nets themselves
pub all_new : (m : Memory) (nets nets' : List ℕ) (v w : Memory) (st' : machine.LogState) → ((x y : List ℕ) → v ≡ turning (is_read m x y) (min max_ports m.write_count) m)
    → ((x y : List ℕ) → w ≡ settling (is_read m x y) (min max_ports v.read_count) v) → length nets' ≡ length nets → Emulated m nets nets' (Ok (record { memory = w; state = st' }))
all_new m nets nets' v w st' ev ew e = ((λ x y. ew x y ∙ ap (λ (u : Memory). settling (is_read m x y) (min max_ports u.read_count) u) (ev x y)), e)

-- ---- a log and its state apart
module _ (m : Memory) (allX : Bool) (nets nets' : List ℕ) (l l1 : Lent) (d : PortsDone m allX nets nets' l l1) where
  pub done_unnamed : PortsDone m allX nets nets' (named 0 l) (named 0 l1)
  done_unnamed = record {
    gave = λ x y. gave_unnamed 0 (delays (is_read m x y) allX 0 (writes_of m nets)) l l1 _ (d.gave x y);
    kept = d.kept;
    size = d.size;
  }

pub log_name : (m : Memory) (nets : List ℕ) (allX : Bool) (nets' : List ℕ) (l l1 : Lent) → PortsDone m allX nets nets' l l1 → l1.name ≡ l.name
log_name m nets allX nets' l l1 d = run_name (delays (is_read m [] []) allX 0 (writes_of m nets)) l l1 (d.gave [] []).ran
