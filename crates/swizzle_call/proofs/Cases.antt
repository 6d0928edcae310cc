-- The three cases of a swizzle that no number refuses: width 0, depth 0, and rows.
use mathlib.Core.Path.{◌≡◌, refl, sym, ap, ◌∙◌, subst}
use mathlib.Core.Logic.{◌≢◌}
use Prim.Native.Nat.{ℕ, min}
use native.Mathlib.Omega.{arith}
use mathlib.Core.Bool.{Bool, true, false, ◌&&◌}
use mathlib.Core.List.{List, [], ◌∷◌}
use lib.ListN.{length, drop, length-replicate}
use lib.Seq.{sets}
use lib.Dec.{eqb}
use borrow.Author.Tests.{eq-eqb, ne_eqb}
use Rattle.lists.specs.Choice.{when◌then◌else◌}
use Rattle.lists.proofs.Choice.{else_zero}
use Rattle.rules.specs.Limits.{max_ports}
use Rattle.rules.specs.Value.{Value}
use Rattle.rules.specs.Cell.{Mem, Plan}
use Rattle.rules.specs.Log.{Trace, ◌>>=◌, ◌>>◌, done}
use Rattle.rules.specs.Ports.{Driving}
use Rattle.rules.specs.Geometry.{Layout, layout_of}
use Rattle.rules.specs.Image.{layout}
use Rattle.rules.specs.Swizzle.{swizzle, swizzle_rows, swizzle_empty, shared_nets, shared_trits, swizzle_scratch}
use Rattle.rules.specs.Conditions.{plan_too_large, bad_output_len, bad_value, short_ports}
use Rattle.rules.specs.Refusals as rules
use Rattle.rules.specs.Refusals.{driving_number, whole_plan, swizzle_plan_number, swizzle_number, swizzle_refusal}
use Rattle.rules.proofs.Done.{done_value}
use Rattle.std.specs.Borrow.{GName}
use Rattle.log_entries.specs.declared.LogState.{LogState}
use Rattle.log_entries.specs.declared.Log.{Log}
use Rattle.log_entries.specs.Emission.{run}
use Rattle.log_entries.specs.View.{state_of, lent, lent_of}
use Rattle.log_entries.proofs.Emission.{run-done, named, unnamed}
use Rattle.net_memory.specs.declared.Memory.{Memory}
use Rattle.net_memory.specs.View.{memory_of, writes_of, reads_of}
use Rattle.net_memory.specs.Given.{given_of}
use Rattle.net_check.proofs.Accept.{valid}
use Rattle.port_unmap_all.proofs.Rules.{all_ready}
use Rattle.port_empty.specs.Empty.{emptied_if}
use Rattle.port_empty.proofs.Empty.{rules_run}
use Rattle.swizzle_counts.proofs.Refusing.{no_nets_lem, no_trits_lem}
use Rattle.swizzle_result.specs.declared.WideMemory.{WideMemory}
use Rattle.swizzle_result.specs.View.{results_of}
use Rattle.swizzle_result.specs.Held.{HeldWrite, HeldRead, Holds}
use Rattle.swizzle_reads.specs.declared.Reads.{Reads}
use Rattle.swizzle_reads.specs.Going.{Going, going_of, in_ports, has_rows, reads_if, most_need, AllKept}
use Rattle.swizzle_reads.proofs.Layouts.{good_has}
use Rattle.swizzle_rows.specs.Rows.{no_read_of, no_memories, start_going, RowsBy, RowsRan}
use Rattle.swizzle_ready.proofs.Tests.{rows_trace}
use Rattle.swizzle_ready.proofs.Planned.{layout_planned}
use Rattle.swizzle_ready.proofs.Scratch.{scratch_is}
use Rattle.swizzle_ready.proofs.Joined as joined
use Rattle.swizzle_ready.proofs.Joined.{RowsDone, Begun, rows_done}
use Rattle.swizzle_call.specs.declared.Made.{Made}
use Rattle.swizzle_call.specs.Acted.{NoneYet, Acted, PortsHeld}
use Rattle.swizzle_call.specs.Made.{left_by, made_of, none_yet_of}

-- what is lent, by its lengths
abbrev pub rooms_of : ℕ → List ℕ → List ℕ → List ℕ → rules.SwizzleRooms
rooms_of image to kinds scratch = record { image = image; nets = length to; trits = length kinds; scratch = length scratch }

-- ---- no memories
none_of : (l : List ℕ) → length l ≡ 0 → l ≡ []
none_of [] e = refl
none_of (a ∷ l) e = absurd (omega (arith, e))

results_none : (nets trits image : List ℕ) → results_of no_memories nets trits image ≡ []
unfolding results_of
results_none nets trits image = refl

module _ (m : Mem) (q : Layout) (t : Trace (List Driving)) where
  pub none_acted : (before : Log) (made : Reads) → (t before.state.next).value ≡ [] → NoneYet made → (log : Log) → lent_of log ≡ run t (lent_of before) → Acted m q t (going_of before made) (going_of log made)
  none_acted before made v y log e =
      let n = before.state.next in
      record {
        log_is = e;
        nets_are = sym (ap (λ (ds : List Driving). sets made.nets.now 0 (shared_nets m ds)) v ∙ ap (sets made.nets.now 0) (none_of (shared_nets m []) (no_nets_lem m)));
        nets_name_is = refl;
        trits_are = sym (ap (λ (ds : List Driving). sets made.trits.now 0 (shared_trits m ds)) v ∙ ap (sets made.trits.now 0) (none_of (shared_trits m []) (no_trits_lem m)));
        trits_name_is = refl;
        nets_end = y.nets_start ∙ sym (ap (λ (ds : List Driving). length (shared_nets m ds)) v ∙ no_nets_lem m);
        trits_end = y.trits_start ∙ sym (ap (λ (ds : List Driving). length (shared_trits m ds)) v ∙ no_trits_lem m);
        results_are = ap (λ (g : WideMemory). results_of g (shared_nets m (t n).value) (shared_trits m (t n).value) (layout q m.init)) y.memory_is ∙ results_none _ _ _ ∙ sym v;
      }

  -- the same of a log and a state apart
  pub made_acted : (st : LogState) (log : List ℕ) (name : GName) (to kinds : List ℕ) (after : Log) (x : Made) (nets trits : List ℕ) → x.state ≡ after.state
      → Acted m q t (left_by (named name (lent st log)) (none_yet_of st) to kinds) (left_by (lent_of after) x nets trits) → Acted m q t (made_of (none_yet_of st) log to kinds) (made_of x after.words.now nets trits)
  made_acted st log name to kinds after x nets trits e a = record {
    log_is = ap (λ (s : LogState). lent s after.words.now) e ∙ unnamed t 0 (named name (lent st log)) (lent_of after) a.log_is;
    nets_are = a.nets_are;
    nets_name_is = refl;
    trits_are = a.trits_are;
    trits_name_is = refl;
    nets_end = a.nets_end;
    trits_end = a.trits_end;
    results_are = a.results_are;
  }

-- ---- width 0
pub flat_trace : (m : Mem) (output : Value) (p : Plan) → m.width ≡ 0 → swizzle m output p ≡ done []
unfolding swizzle
flat_trace m output p w = rw (eq-eqb m.width 0 w)

pub flat_acted : (m : Mem) (output : Value) (p : Plan) (q : Layout) → m.width ≡ 0 → (made : Reads) → NoneYet made → (log : Log)
    → Acted m q (swizzle m output p) (going_of log made) (going_of log made)
flat_acted m output p q w made y log =
    let e = flat_trace m output p w in
    none_acted m q (swizzle m output p) log made (ap (λ (t : Trace (List Driving)). (t log.state.next).value) e ∙ done_value [] log.state.next) y log
    (sym (ap (λ (t : Trace (List Driving)). run t (lent_of log)) e ∙ run-done [] (lent_of log)))

-- ---- depth 0
pub empty_trace : (m : Mem) (output : Value) (p : Plan) → m.width ≢ 0 → m.depth ≡ 0 → swizzle m output p ≡ swizzle_empty m output
unfolding swizzle
empty_trace m output p w d = rw (ne_eqb m.width 0 w, eq-eqb m.depth 0 d)

empty_value : (m : Mem) (output : Value) (n : ℕ) → (swizzle_empty m output n).value ≡ []
unfolding swizzle_empty ◌>>=◌ ◌>>◌ done
empty_value m output n = refl

not_14 : (t : Bool) → ◌≡◌ {A = ℕ} (when t then 14 else 0) 0 → t ≡ false
not_14 true e = absurd (omega (arith, e))
not_14 false e = refl

module _ (r : rules.SwizzleRooms) (room : ℕ) (st : LogState) (m : Memory) (nets trits output : List ℕ) (p : Plan) (z : swizzle_refusal r room (state_of st) (given_of m nets trits) output p ≡ 0) where
  abbrev M : Mem
  M = memory_of m nets trits

  pub number : swizzle_number st.next (given_of m nets trits) output p ≡ 0
  unfolding swizzle_refusal
  number = (else_zero _ _ z).0

  plan : swizzle_plan_number st.next (given_of m nets trits) output p ≡ 0
  unfolding swizzle_number
  plan = (else_zero _ _ number).0

  short : ◌≡◌ {A = ℕ} (when eqb M.depth 0 && short_ports M then 14 else 0) 0
  unfolding swizzle_number
  short = (else_zero (swizzle_plan_number st.next (given_of m nets trits) output p) _ number).1

  pub driving : driving_number (plan_too_large p) st.next (given_of m nets trits) output ≡ 0
  unfolding swizzle_plan_number
  driving = (else_zero _ (whole_plan M p) plan).0

  pub outputs : bad_output_len M output ≡ false
  unfolding driving_number
  outputs = (valid (plan_too_large p) (bad_output_len M output) (bad_value st.next output) st.next m nets trits driving).two_not

  pub long : M.depth ≡ 0 → short_ports M ≡ false
  long d = sym (ap (λ (b : Bool). b && short_ports M) (eq-eqb M.depth 0 d)) ∙ not_14 _ short

  pub empty_acted : (q : Layout) → M.width ≢ 0 → M.depth ≡ 0 → (made : Reads) → NoneYet made → (before after : Log) → lent_of after ≡ run (emptied_if M output) (lent_of before)
      → Acted M q (swizzle M output p) (going_of before made) (going_of after made)
  empty_acted q w d made y before after e =
      let t = empty_trace M output p w d in
      let l = lent_of before in
      none_acted M q (swizzle M output p) before made (ap (λ (u : Trace (List Driving)). (u l.state.next).value) t ∙ empty_value M output l.state.next) y after
      (e ∙ rules_run M (all_ready (plan_too_large p) st.next m nets trits output driving (long d)) output outputs l ∙ ap (λ (u : Trace (List Driving)). run u l) (sym t))

-- ---- rows
from_rows : (m : Mem) (output : Value) (p : Plan) (before after : Going) → RowsDone m output p before.lent before.nets before.trits after → after.nets_name ≡ before.nets_name → after.trits_name ≡ before.trits_name
    → Acted m (layout_of m p) (swizzle_rows m output p) before after
from_rows m output p before after d u v = record {
  log_is = d.log_is;
  nets_are = d.nets_are;
  nets_name_is = u;
  trits_are = d.trits_are;
  trits_name_is = v;
  nets_end = d.nets_end;
  trits_end = d.trits_end;
  results_are = d.results_are;
}

module _ (r : rules.SwizzleRooms) (room : ℕ) (st : LogState) (m : Memory) (nets trits output : List ℕ) (p : Plan) (z : swizzle_refusal r room (state_of st) (given_of m nets trits) output p ≡ 0)
    (w : (memory_of m nets trits).width ≢ 0) (d : (memory_of m nets trits).depth ≢ 0) (wl : length (writes_of m nets) ≡ min max_ports m.write_count) (rl : length (reads_of m nets trits) ≡ min max_ports m.read_count) where
  abbrev N : Mem
  N = memory_of m nets trits

  abbrev q : Layout
  q = layout_of N p

  -- as many ports as the struct says
  writes_count : min max_ports m.write_count ≡ length N.writes
  unfolding memory_of
  writes_count = sym wl

  reads_count : min max_ports m.read_count ≡ length N.reads
  unfolding memory_of
  reads_count = sym rl

  pub has_rows_lem : has_rows q ≡ true
  has_rows_lem =
      let lp = layout_planned r room (state_of st) (given_of m nets trits) output p z w d in
      good_has q lp.layout_good lp.width_some

  module _ (log to kinds : List ℕ) (name nn tn : GName) (en : length to ≡ r.nets) (et : length kinds ≡ r.trits) (scratch : ℕ) (es : scratch ≡ r.scratch) (n k : ℕ) (g : WideMemory) (after : Going) where
    abbrev before : Going
    before = record { lent = named name (lent st log); nets = to; nets_name = nn; trits = kinds; trits_name = tn; nets_at_of = n; trits_at_of = k; memory = g }

    module _ (b : RowsBy q m nets trits p.write_wide p.read_wide_of output scratch before after) where
      abbrev first : WideMemory
      first = (start_going q m before b.mid b.filled).memory

      begun : Begun N q b.filled.ports first
      begun = record {
        sized = record { mems_are = refl; full_are = refl; full_depth = refl; part_depth = refl; unit_is = refl };
        write_count = writes_count;
        read_count = reads_count;
        ports_are = refl;
        reads_8 = length-replicate max_ports no_read_of;
      }

      abbrev last : Going
      last = reads_if q r.scratch (in_ports m nets trits) p.read_wide_of output (start_going q m before b.mid b.filled)

      done_rows : RowsDone N output p before.lent to kinds last
      done_rows = rows_done r room (state_of st) m nets trits output p z w d log to kinds name en et b.mid b.filled b.gave first begun nn tn

      after_is : after ≡ last
      after_is = b.reads_are ∙ ap (λ (k : ℕ). reads_if q k (in_ports m nets trits) p.read_wide_of output (start_going q m before b.mid b.filled)) es

      last_acted : Acted N q (swizzle_rows N output p) before last
      last_acted =
          from_rows N output p before last done_rows
          (joined.nets_name_is r room (state_of st) m nets trits output p z w d log to kinds name en et b.mid b.filled b.gave first begun nn tn)
          (joined.trits_name_is r room (state_of st) m nets trits output p z w d log to kinds name en et b.mid b.filled b.gave first begun nn tn)

      rows_acted : Acted N q (swizzle N output p) before after
      rows_acted =
          subst (λ (t : Trace (List Driving)). Acted N q t before after) (sym (rows_trace r room (state_of st) (given_of m nets trits) output p z w d))
          (subst (Acted N q (swizzle_rows N output p) before) (sym after_is) last_acted)

      -- the ports that the struct stands for
      abbrev hw : List (HeldWrite q)
      hw = joined.hw r room (state_of st) m nets trits output p z w d log to kinds name en et b.mid b.filled b.gave first begun nn tn

      abbrev hr : List (HeldRead q)
      hr = joined.hr r room (state_of st) m nets trits output p z w d log to kinds name en et b.mid b.filled b.gave first begun nn tn

      abbrev Held : WideMemory → List Driving → Type 0
      Held g ds = Holds g q hw hr (shared_nets N ds) (shared_trits N ds)

      held_rows : Held after.memory (swizzle_rows N output p st.next).value
      held_rows =
          subst (λ (g : WideMemory). Held g (swizzle_rows N output p st.next).value)
          (sym (ap (λ (x : Going). x.memory) after_is ∙ joined.memory-held r room (state_of st) m nets trits output p z w d log to kinds name en et b.mid b.filled b.gave first begun nn tn))
          (joined.rows_hold r room (state_of st) m nets trits output p z w d log to kinds name en et b.mid b.filled b.gave first begun nn tn)

      rows_ports : PortsHeld N output p st.next after.memory
      rows_ports = record {
        writes = hw;
        reads = hr;
        writes_are = joined.ports_held r room (state_of st) m nets trits output p z w d log to kinds name en et b.mid b.filled b.gave first begun nn tn;
        reads_are = joined.reads_held r room (state_of st) m nets trits output p z w d log to kinds name en et b.mid b.filled b.gave first begun nn tn;
        holds = subst (λ (t : Trace (List Driving)). Held after.memory (t st.next).value) (sym (rows_trace r room (state_of st) (given_of m nets trits) output p z w d)) held_rows;
      }

    module _ (x : Layout) (e : x ≡ q) (b : RowsRan x m nets trits p.write_wide p.read_wide_of output scratch before after) where
      by : RowsBy q m nets trits p.write_wide p.read_wide_of output scratch before after
      by = (subst (λ (y : Layout). RowsRan y m nets trits p.write_wide p.read_wide_of output scratch before after) e b).by_rows has_rows_lem

      pub ran_acted : Acted N q (swizzle N output p) before after
      ran_acted = rows_acted by

      pub ran_ports : PortsHeld N output p st.next after.memory
      ran_ports = rows_ports by

  pub scratch_kept : (x : Layout) → x ≡ q → (before after : List ℕ) → AllKept x (in_ports m nets trits) p.read_wide_of before after → drop (swizzle_scratch N p) after ≡ drop (swizzle_scratch N p) before
  scratch_kept x e before after f =
      f (swizzle_scratch N p)
      (omega (arith, ap (λ (y : Layout). most_need y (in_ports m nets trits) p.read_wide_of) e, scratch_is r room (state_of st) m nets trits output p z w d))
