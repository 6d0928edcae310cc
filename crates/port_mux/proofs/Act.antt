-- How the numbers, the log, the state and the rooms join to the whole answer.
use Rattle.std.specs.Prelude.{Ok, Err}
use mathlib.Core.Path.{◌≡◌, refl, sym, ap, ◌∙◌}
use mathlib.Core.Logic.{◌≢◌}
use Prim.Native.Nat.{ℕ, ◌≤◌}
use mathlib.Core.Bool.{Bool, true, false}
use mathlib.Core.List.{List, []}
use lib.ListN.{length, take}
use lib.Seq.{sets, length-take-le}
use Rattle.lists.specs.Choice.{◌or_else◌}
use Rattle.lists.proofs.Choice.{else_first, else_rest, leaves_refused, leaves_accepted}
use Rattle.lists.proofs.Stores.{take_stored}
use Rattle.rules.specs.Cell.{read_at_of, or_empty}
use Rattle.rules.specs.Value.{Value}
use Rattle.rules.specs.Log.{Trace, LogState}
use Rattle.rules.specs.Beside.Chain.{Chains}
use Rattle.rules.specs.Ports.{Overlay, transparency_mux}
use Rattle.rules.specs.Refusals.{log_refusal, transparency_mux_number, overlay_refusal, transparency_mux_refusal}
use Rattle.rules.specs.Answers as rules
use Rattle.rules.specs.Answers.{transparency_mux_call}
use Rattle.log_entries.specs.Emission.{Lent, is_over}
use Rattle.log_entries.specs.View.{state_of, lent}
use Rattle.log_entries.specs.declared.LogState as machine
use Rattle.log_entries.proofs.Emission.{accepted_run, accepted_held}
use Rattle.rules.specs.declared.numbers.Refusal.{Refusal}
use Rattle.rules.specs.Refusal.{number}
use Rattle.rules.proofs.Answers.{number_nonzero, refused_by}
use Rattle.rules.specs.Log.{state_after, log_after}
use borrow.Author.Tests.{ne_eqb}
use Rattle.lists.specs.Choice.{leaves}
use Rattle.net_memory.specs.declared.Memory.{Memory}
use Rattle.net_memory.specs.View.{memory_of}
use Rattle.net_memory.specs.Given.{given_of}
use Rattle.log_requests.specs.Answers.{logged_of}
use Rattle.port_transparency.specs.Gave.{Gave}
use Rattle.port_mux.specs.Call.{overlay_of, wanted_of, overlaid_of, overlaid}

-- ---- the two ways an answer is made
module _ {A : Type 0} (v : A) (N : ℕ) (log : List ℕ) (s : LogState) (t : Trace A) where
  -- a refused call
  pub refused : (e : Refusal) → number e ≡ N → logged_of v (Err e) log ≡ rules.logged N log s t
  unfolding rules.logged rules.answer_of leaves
  refused e h = rw (← h, ne_eqb (number e) 0 (number_nonzero e))

  -- an accepted one
  pub accepted : (after : List ℕ) (r : machine.LogState) → N ≡ 0 → v ≡ (t s.next).value → state_of r ≡ state_after s (t s.next) → after ≡ log_after log s (t s.next)
      → logged_of v (Ok r) after ≡ rules.logged N log s t
  unfolding rules.logged rules.answer_of rules.after leaves
  accepted after r z e f g = rw z (λ i. record { answer = rules.Accepted (record { value = e i; state = f i }); log = g i })

pub overlaid_refused : (masked : Bool) (k N : ℕ) (e : Refusal) (bits mask log : List ℕ) (s : LogState) (t : Trace Overlay) → number e ≡ N
    → overlaid_of masked k (Err e) log bits mask ≡ overlaid N bits mask log s t
unfolding overlaid
overlaid_refused masked k N e bits mask log s t h =
    let z = refused_by e N h in
    λ i. record {
      logged = refused (overlay_of masked (take k bits) (take k mask)) N log s t e h i;
      bits = sym (leaves_refused N bits (sets bits 0 (t s.next).value.bits) z) i;
      mask = sym (leaves_refused N mask (sets mask 0 (or_empty (t s.next).value.mask)) z) i;
    }

-- the rooms' first nets are what was stored
stored_bits : (k : ℕ) (to to' from : List ℕ) → to' ≡ sets to 0 (take k from) → k ≤ length to → k ≤ length from → take k to' ≡ take k from
stored_bits k to to' from e h g = take_stored to to' (take k from) k e (sym (length-take-le k from g)) h

stored_value : (masked : Bool) (k : ℕ) (bits bits' mask mask' under over : List ℕ) → bits' ≡ sets bits 0 (take k under) → mask' ≡ sets mask 0 (wanted_of masked (take k over))
    → k ≤ length bits → (masked ≡ true → k ≤ length mask) → k ≤ length under → k ≤ length over
    → overlay_of masked (take k bits') (take k mask') ≡ overlay_of masked (take k under) (take k over)
stored_value true k bits bits' mask mask' under over eb em hb hm gu go = λ i. overlay_of true (stored_bits k bits bits' under eb hb gu i) (stored_bits k mask mask' over em (hm refl) go i)
stored_value false k bits bits' mask mask' under over eb em hb hm gu go = λ i. overlay_of false (stored_bits k bits bits' under eb hb gu i) []

wanted_is : (masked : Bool) (a b : Value) → wanted_of masked b ≡ or_empty (overlay_of masked a b).mask
unfolding or_empty
wanted_is true a b = refl
wanted_is false a b = refl

module _ (masked : Bool) (k : ℕ) (bits bits' mask mask' under over log log' : List ℕ) (st st' : machine.LogState) (t : Trace Overlay) (c : Chains t) where
  pub overlaid-done : (d : ℕ) → d ≡ k → 0 ≡ log_refusal (length log) (state_of st) t → Gave t (lent st log) (lent st' log') (overlay_of masked (take d under) (take d over))
      → bits' ≡ sets bits 0 (take k under) → mask' ≡ sets mask 0 (wanted_of masked (take k over))
      → k ≤ length bits → (masked ≡ true → k ≤ length mask) → k ≤ length under → k ≤ length over
      → overlaid_of masked k (Ok st') log' bits' mask' ≡ overlaid (log_refusal (length log) (state_of st) t) bits mask log (state_of st) t
  unfolding overlaid
  overlaid-done d ed e g eb em hb hm gu go =
      let s = state_of st in
      let y = sym e in
      let q = g.ran ∙ accepted_run t (length log) s log c y in
      let o = ap (λ (x : Lent). is_over x.state) g.ran ∙ accepted_held t (length log) s log c y in
      let v = ap (λ (x : ℕ). overlay_of masked (take x under) (take x over)) (sym ed) ∙ g.value o in
      λ i. record {
        logged = accepted (overlay_of masked (take k bits') (take k mask')) (log_refusal (length log) s t) log s t log' st' y (stored_value masked k bits bits' mask mask' under over eb em hb hm gu go ∙ v) (ap (λ (x : Lent). x.state) q) (ap (λ (x : Lent). x.log) q) i;
        bits = (eb ∙ ap (λ (x : Overlay). sets bits 0 x.bits) v ∙ sym (leaves_accepted (log_refusal (length log) s t) bits (sets bits 0 (t s.next).value.bits) y)) i;
        mask = (em ∙ ap (sets mask 0) (wanted_is masked (take k under) (take k over)) ∙ ap (λ (x : Overlay). sets mask 0 (or_empty x.mask)) v ∙ sym (leaves_accepted (log_refusal (length log) s t) mask (sets mask 0 (or_empty (t s.next).value.mask)) y)) i;
      }

-- ---- the call by its numbers
module _ (masked : Bool) (m : Memory) (nets trits : List ℕ) (i j : ℕ) (bits mask bits-to mask-to log : List ℕ) (st : machine.LogState) where
  abbrev o : Overlay
  o = overlay_of masked bits mask

  abbrev T : Trace Overlay
  T = transparency_mux (memory_of m nets trits) i j o

  abbrev input : ℕ
  input = transparency_mux_number st.next (given_of m nets trits) i j o

  abbrev room : ℕ
  room = overlay_refusal (record { bits = length bits-to; mask = length mask-to }) (read_at_of (memory_of m nets trits) i).data_len o

  abbrev whole : ℕ
  whole = transparency_mux_refusal (record { bits = length bits-to; mask = length mask-to }) (length log) (state_of st) (given_of m nets trits) i j o

  abbrev call : rules.Overlaid
  call = transparency_mux_call bits-to mask-to log (state_of st) (given_of m nets trits) i j o

  call_is : overlaid whole bits-to mask-to log (state_of st) T ≡ call
  unfolding overlaid transparency_mux_call
  call_is = refl

  first : input ≢ 0 → whole ≡ input
  unfolding transparency_mux_refusal
  first h = else_first input _ h

  pub input_refused : (k : ℕ) (e : Refusal) → number e ≡ input → overlaid_of masked k (Err e) log bits-to mask-to ≡ call
  input_refused k e h = overlaid_refused masked k whole e bits-to mask-to log (state_of st) T (h ∙ sym (first (refused_by e input h))) ∙ call_is

  module _ (z : input ≡ 0) where
    rest : whole ≡ (room or_else log_refusal (length log) (state_of st) T)
    unfolding transparency_mux_refusal
    rest = else_rest input _ z

    pub room_refused : (k : ℕ) (e : Refusal) → number e ≡ room → overlaid_of masked k (Err e) log bits-to mask-to ≡ call
    room_refused k e h = overlaid_refused masked k whole e bits-to mask-to log (state_of st) T (h ∙ sym (rest ∙ else_first room _ (refused_by e room h))) ∙ call_is

    pub log_last : (x : rules.Overlaid) → room ≡ 0 → x ≡ overlaid (log_refusal (length log) (state_of st) T) bits-to mask-to log (state_of st) T → x ≡ call
    log_last x q e = e ∙ ap (λ (n : ℕ). overlaid n bits-to mask-to log (state_of st) T) (sym (rest ∙ else_rest room _ q)) ∙ call_is
