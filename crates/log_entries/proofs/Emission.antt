-- Laws of emission: one trace after another is one; without an overflow the log and the state are the trace's; and 20 and 21 from a dry run.
use mathlib.Core.Path.{◌≡◌, refl, sym, ap, ◌∙◌}
use Prim.Native.Nat.{ℕ, ◌+◌, ◌-◌, ◌<◌, ◌≤◌}
use native.Mathlib.Nat.{add-zero, zero-add}
use native.Mathlib.Omega.{arith}
use mathlib.Core.Bool.{Bool, true, false, ◌&&◌}
use mathlib.Core.List.{List, [], ◌∷◌, ◌++◌, append-nil}
use lib.ListN.{length, length-append}
use lib.Seq.{sets, length-sets}
use lib.Dec.{leb, ltb}
use Rattle.std.specs.Borrow.{GName}
use borrow.Author.Tests.{ne_eqb, eqb-true, leb-true, ltb-true, le-leb, lt-leb, lt-ltb, le-ltb}
use Rattle.lists.specs.Choice.{when◌then◌else◌}
use Rattle.lists.proofs.Choice.{cases_le, and_true}
use Rattle.lists.proofs.Store.{sets_append}
use Rattle.rules.specs.Limits.{max_nets, max_words, X}
use Rattle.rules.specs.Log.{Entry, entry, encode, words, Trace, ◌>>=◌, done, LogState, start_net, added, state_after, log_after}
use Rattle.rules.specs.Beside.Chain.{result_width, Chained, Chains}
use Rattle.rules.specs.Refusals.{room_refusal, log_refusal}
use Rattle.rules.proofs.Entries.{length_entry}
use Rattle.rules.proofs.Traces.{next_after, start_same}
use Rattle.rules.proofs.Chain.{chained_next}
use Rattle.log_entries.specs.Emission.{Lent, counts, advanced, overflowed, is_over, emit_words, emit, run, dry_start, dry_refusal}
use Rattle.log_entries.proofs.Rooms.{Fits, room_20, room_fits}

-- ---- what can be counted
pub count_words : (s : LogState) (w k : ℕ) → max_words < s.used + w → false ≡ counts s w k
unfolding counts
count_words s w k h = rw (lt-leb _ _ h)

pub counted : (s : LogState) (w k : ℕ) → counts s w k ≡ true → (s.used + w ≤ max_words) × (s.next + k < X)
unfolding counts
counted s w k e =
    let x = and_true (leb (s.used + w) max_words) (ltb (s.next + k) X) e in
    (leb-true _ _ x.0, ltb-true _ _ x.1)

-- ---- one entry
module _ (l : Lent) (ws : List ℕ) (k : ℕ) where
  -- it is counted, or not
  pub emit_counted : l.state.used + length ws ≤ max_words → l.state.next + k < X
      → emit_words l ws k ≡ record { log = sets l.log l.state.used ws; state = advanced l.state (length ws) k; name = l.name }
  unfolding emit_words counts
  emit_counted h g = rw (le-leb _ _ h, lt-ltb _ _ g)

  emit_when : counts l.state (length ws) k ≡ true
      → emit_words l ws k ≡ record { log = sets l.log l.state.used ws; state = advanced l.state (length ws) k; name = l.name }
  unfolding emit_words
  emit_when e = rw e

  pub emit-over : counts l.state (length ws) k ≡ false → emit_words l ws k ≡ record { log = l.log; state = overflowed l.state; name = l.name }
  unfolding emit_words
  emit-over e = rw e

-- the words of an entry that are stored, or not
module _ (l : Lent) (kind width first n : ℕ) (ops : List ℕ) (e : n ≡ length ops) where
  entry-words : length (entry kind width first ops) ≡ 4 + n
  entry-words = length_entry kind width first ops ∙ ap (λ (m : ℕ). 4 + m) (sym e)

  pub entry_is : kind ∷ width ∷ first ∷ n ∷ ops ≡ entry kind width first ops
  unfolding entry
  entry_is = ap (λ (m : ℕ). kind ∷ width ∷ first ∷ m ∷ ops) e

  pub entry-over : (s : LogState) → counts l.state (4 + n) width ≡ false → s ≡ overflowed l.state
      → record { log = l.log; state = s; name = l.name } ≡ emit_words l (entry kind width first ops) width
  entry-over s c h = rw h (sym (emit-over l (entry kind width first ops) width (rw entry-words c)))

  pub entry_stored : (log : List ℕ) → counts l.state (4 + n) width ≡ true → log ≡ sets l.log l.state.used (kind ∷ width ∷ first ∷ n ∷ ops)
      → record { log = log; state = advanced l.state (4 + n) width; name = l.name } ≡ emit_words l (entry kind width first ops) width
  entry_stored log c h =
      let w : log ≡ sets l.log l.state.used (entry kind width first ops) = h ∙ ap (sets l.log l.state.used) entry_is in
      let m : 4 + n ≡ length (entry kind width first ops) = sym entry-words in
      (λ i. record { log = w i; state = advanced l.state (m i) width; name = l.name }) ∙ sym (emit_when l (entry kind width first ops) width (rw entry-words c))

-- ---- entries
pub emit_append : (l : Lent) (es fs : List Entry) → emit l (es ++ fs) ≡ emit (emit l es) fs
unfolding emit
emit_append l [] fs = refl
emit_append l (e ∷ es) fs = emit_append (emit_words l (encode e) (result_width e)) es fs

-- X as the next free net stays
over-all : (s : LogState) (w k : ℕ) → s.next ≡ X → counts s w k ≡ false
unfolding counts
over-all s w k e = rw (e, le-ltb (X + k) X (omega arith)) (and_no (leb (s.used + w) max_words))
  where
    and_no : (t : Bool) → (t && false) ≡ false
    and_no true = refl
    and_no false = refl

pub emit_stays : (l : Lent) (es : List Entry) → l.state.next ≡ X → emit l es ≡ l
unfolding emit
emit_stays l [] e = refl
emit_stays l (x ∷ es) e =
    let q : emit_words l (encode x) (result_width x) ≡ l =
    emit-over l (encode x) (result_width x) (over-all l.state _ _ e) ∙ (λ i. record { log = l.log; state = record { used = l.state.used; next = sym e i }; name = l.name }) in
    ap (λ (m : Lent). emit m es) q ∙ emit_stays l es e

-- the entries all stored, and all counted up to m
abbrev whole : Lent → List Entry → ℕ → Lent
whole l es m = record { log = sets l.log l.state.used (words es); state = record { used = l.state.used + length (words es); next = m }; name = l.name }

-- one entry more in front
whole_cons : (l : Lent) (e : Entry) (es : List Entry) (m k : ℕ)
    → whole (record { log = sets l.log l.state.used (encode e); state = advanced l.state (length (encode e)) k; name = l.name }) es m ≡ whole l (e ∷ es) m
unfolding words
whole_cons l e es m k =
    let u = l.state.used in
    let n = length (encode e) in
    let a : sets (sets l.log u (encode e)) (u + n) (words es) ≡ sets l.log u (encode e ++ words es) = sets_append (encode e) (words es) l.log u in
    let b : u + n + length (words es) ≡ u + length (encode e ++ words es) = omega (arith, length-append (encode e) (words es)) in
    λ i. record { log = a i; state = record { used = b i; next = m }; name = l.name }

not_both : true ≡ false → ⊥
not_both e = let z : ◌≡◌ {A = ℕ} 0 1 = cc in omega arith

over_true : (s : LogState) → is_over (overflowed s) ≡ true
unfolding is_over
over_true s = refl

over_emitted : (l : Lent) (e : Entry) (es : List Entry) → counts l.state (length (encode e)) (result_width e) ≡ false
    → is_over (emit (emit_words l (encode e) (result_width e)) es).state ≡ true
over_emitted l e es q =
    let l' : Lent = record { log = l.log; state = overflowed l.state; name = l.name } in
    ap (λ (x : Lent). is_over (emit x es).state) (emit-over l (encode e) (result_width e) q)
    ∙ ap (λ (x : Lent). is_over x.state) (emit_stays l' es refl)
    ∙ over_true l.state

pub not_over : (s : LogState) → (s.next ≡ X → ⊥) → is_over s ≡ false
unfolding is_over
not_over s h = ne_eqb s.next X h

pub is_over_lem : (s : LogState) → is_over s ≡ true → s.next ≡ X
unfolding is_over
is_over_lem s e = eqb-true s.next X e

first_counted : (l : Lent) (e : Entry) (es : List Entry) → is_over (emit (emit_words l (encode e) (result_width e)) es).state ≡ false
    → counts l.state (length (encode e)) (result_width e) ≡ true
first_counted l e es o = on (counts l.state (length (encode e)) (result_width e)) refl
  where
    on : (t : Bool) → counts l.state (length (encode e)) (result_width e) ≡ t → counts l.state (length (encode e)) (result_width e) ≡ true
    on true q = q
    on false q = absurd (not_both (sym (over_emitted l e es q) ∙ o))

-- no overflow: all entries are stored and counted
pub emit_exact : (l : Lent) (es : List Entry) (m : ℕ) → is_over (emit l es).state ≡ false → Chained l.state.next es m → emit l es ≡ whole l es m
unfolding emit Chained words
emit_exact l [] m o c = λ i. record { log = l.log; state = record { used = sym (add-zero l.state.used) i; next = c i }; name = l.name }
emit_exact l (e ∷ es) m o c =
    let l' : Lent = record { log = sets l.log l.state.used (encode e); state = advanced l.state (length (encode e)) (result_width e); name = l.name } in
    let p : emit_words l (encode e) (result_width e) ≡ l' = emit_when l (encode e) (result_width e) (first_counted l e es o) in
    ap (λ (x : Lent). emit x es) p
    ∙ emit_exact l' es m (sym (ap (λ (x : Lent). is_over (emit x es).state) p) ∙ o) c.1
    ∙ whole_cons l e es m (result_width e)

-- as many words and nets as can be counted: no overflow
pub emit_fits : (l : Lent) (es : List Entry) (m : ℕ) → l.state.used + length (words es) ≤ max_words → m < X → Chained l.state.next es m → emit l es ≡ whole l es m
unfolding emit Chained words
emit_fits l [] m h g c = λ i. record { log = l.log; state = record { used = sym (add-zero l.state.used) i; next = c i }; name = l.name }
emit_fits l (e ∷ es) m h g c =
    let l' : Lent = record { log = sets l.log l.state.used (encode e); state = advanced l.state (length (encode e)) (result_width e); name = l.name } in
    let n = length-append (encode e) (words es) in
    let k = chained_next (l.state.next + result_width e) m es c.1 in
    ap (λ (x : Lent). emit x es) (emit_counted l (encode e) (result_width e) (omega arith) (omega arith))
    ∙ emit_fits l' es m (omega arith) g c.1
    ∙ whole_cons l e es m (result_width e)

-- ---- traces
module _ {A : Type 0} where
  -- the log and the state after a trace, as the rules have them
  abbrev pub ran : Trace A → Lent → Lent
  ran t l = record { log = log_after l.log l.state (t l.state.next); state = state_after l.state (t l.state.next); name = l.name }

  pub run_exact : (t : Trace A) (l : Lent) → Chains t → is_over (run t l).state ≡ false → run t l ≡ ran t l
  unfolding run Chains log_after state_after added
  run_exact t l c o = emit_exact l (t l.state.next).entries (t l.state.next).next o (c l.state.next)

  pub run_fits : (t : Trace A) (l : Lent) → Chains t → l.state.used + length (added (t l.state.next)) ≤ max_words → (t l.state.next).next < X → run t l ≡ ran t l
  unfolding run Chains log_after state_after added
  run_fits t l c h g = emit_fits l (t l.state.next).entries (t l.state.next).next h g (c l.state.next)

  -- nothing is logged
  pub run-done : (a : A) (l : Lent) → run (done a) l ≡ l
  unfolding run emit done
  run-done a l = refl

-- where a run does not overflow it did not start so, and its next free net is the trace's
module _ {A : Type 0} (t : Trace A) (l : Lent) where
  pub run_next : Chains t → is_over (run t l).state ≡ false → (run t l).state.next ≡ (t l.state.next).next
  run_next c o = ap (λ (x : Lent). x.state.next) (run_exact t l c o) ∙ next_after l.state (t l.state.next)

  pub run-held : is_over (run t l).state ≡ false → is_over l.state ≡ false
  unfolding run
  run-held o = on (is_over l.state) refl
    where
      on : (b : Bool) → is_over l.state ≡ b → is_over l.state ≡ false
      on true q = ap (λ (x : Lent). is_over x.state) (sym (emit_stays l (t l.state.next).entries (is_over_lem l.state q))) ∙ o
      on false q = q

-- one trace and then the trace of its value are one; the second may take any value where the first overflowed
module _ {A B : Type 0} (l l1 l2 : Lent) (t : Trace A) (f : A → Trace B) (v : A) where
  pub run_then : Chains t → l1 ≡ run t l → (is_over l1.state ≡ false → v ≡ (t l.state.next).value) → l2 ≡ run (f v) l1 → l2 ≡ run (t >>= f) l
  unfolding run ◌>>=◌
  run_then c e g h =
      let a = t l.state.next in
      let join : emit l (a.entries ++ (f a.value a.next).entries) ≡ emit l1 (f a.value a.next).entries =
      emit_append l a.entries (f a.value a.next).entries ∙ ap (λ (x : Lent). emit x (f a.value a.next).entries) (sym e) in
      h ∙ on (is_over l1.state) refl ∙ sym join
    where
      on : (o : Bool) → is_over l1.state ≡ o → emit l1 (f v l1.state.next).entries ≡ emit l1 (f (t l.state.next).value (t l.state.next).next).entries
      on true q = emit_stays l1 _ (is_over_lem l1.state q) ∙ sym (emit_stays l1 _ (is_over_lem l1.state q))
      on false q =
          let n : l1.state.next ≡ (t l.state.next).next = ap (λ (x : Lent). x.state.next) (e ∙ run_exact t l c (sym (ap (λ (x : Lent). is_over x.state) e) ∙ q)) ∙ next_after l.state (t l.state.next) in
          ap (λ (k : ℕ). emit l1 (f v k).entries) n ∙ ap (λ (x : A). emit l1 (f x (t l.state.next).next).entries) (g q)

-- ---- the name of the lent words: no entry looks at it or changes it
abbrev pub named : GName → Lent → Lent
named n l = record { log = l.log; state = l.state; name = n }

words-named : (n : GName) (l : Lent) (ws : List ℕ) (k : ℕ) → emit_words (named n l) ws k ≡ named n (emit_words l ws k)
words-named n l ws k = on (counts l.state (length ws) k) refl
  where
    on : (b : Bool) → counts l.state (length ws) k ≡ b → emit_words (named n l) ws k ≡ named n (emit_words l ws k)
    on true q = emit_when (named n l) ws k q ∙ ap (named n) (sym (emit_when l ws k q))
    on false q = emit-over (named n l) ws k q ∙ ap (named n) (sym (emit-over l ws k q))

emit-named : (n : GName) (l : Lent) (es : List Entry) → emit (named n l) es ≡ named n (emit l es)
unfolding emit
emit-named n l [] = refl
emit-named n l (e ∷ es) =
    ap (λ (x : Lent). emit x es) (words-named n l (encode e) (result_width e)) ∙ emit-named n (emit_words l (encode e) (result_width e)) es

-- ---- the length of the lent words: no entry changes it
words-long : (l : Lent) (ws : List ℕ) (k : ℕ) → length (emit_words l ws k).log ≡ length l.log
words-long l ws k = on (counts l.state (length ws) k) refl
  where
    on : (b : Bool) → counts l.state (length ws) k ≡ b → length (emit_words l ws k).log ≡ length l.log
    on true q = ap (λ (x : Lent). length x.log) (emit_when l ws k q) ∙ length-sets l.log l.state.used ws
    on false q = ap (λ (x : Lent). length x.log) (emit-over l ws k q)

emit-long : (l : Lent) (es : List Entry) → length (emit l es).log ≡ length l.log
unfolding emit
emit-long l [] = refl
emit-long l (e ∷ es) = emit-long (emit_words l (encode e) (result_width e)) es ∙ words-long l (encode e) (result_width e)

module _ {A : Type 0} (t : Trace A) where
  pub run_long : (l k : Lent) → k ≡ run t l → length k.log ≡ length l.log
  unfolding run
  run_long l k e = ap (λ (x : Lent). length x.log) e ∙ emit-long l (t l.state.next).entries

  pub run_named : (n : GName) (l : Lent) → run t (named n l) ≡ named n (run t l)
  unfolding run
  run_named n l = emit-named n l (t l.state.next).entries

  -- what runs on a log, runs on its words and state
  pub unnamed : (n : GName) (l k : Lent) → k ≡ run t l → named n k ≡ run t (named n l)
  unnamed n l k e = ap (named n) e ∙ sym (run_named n l)

  -- and back, where the words kept their name
  pub renamed : (l k : Lent) → k.name ≡ l.name → named 0 k ≡ run t (named 0 l) → k ≡ run t l
  renamed l k n e = (λ i. record { log = k.log; state = k.state; name = n i }) ∙ unnamed l.name (named 0 l) (named 0 k) e

  -- and the log's words are the same lent ones
  pub run_name : (l k : Lent) → k ≡ run t l → k.name ≡ l.name
  run_name l k e = ap (λ (x : Lent). x.name) (e ∙ run_named l.name l)

-- a trace whose value alone is changed
module _ {A B : Type 0} (t : Trace A) (g : A → B) (l : Lent) where
  pub run_same : run (t >>= λ v. done (g v)) l ≡ run t l
  unfolding run ◌>>=◌ done
  run_same = rw append-nil

-- ---- dry runs
module _ (room : ℕ) (s dry : LogState) where
  pub dry_over : is_over dry ≡ true → 20 ≡ dry_refusal room s dry
  unfolding dry_refusal
  dry_over o = rw o

  pub dry_room : (start : LogState) (nets : ℕ) → is_over dry ≡ false → start ≡ dry_start s → nets ≡ dry.next - start.next
      → room_refusal room s dry.used nets ≡ dry_refusal room s dry
  unfolding dry_refusal dry_start
  dry_room start nets o e f = rw o (ap (room_refusal room s dry.used) (f ∙ ap (λ (x : LogState). dry.next - x.next) e))

module _ {A : Type 0} (t : Trace A) (room : ℕ) (s : LogState) (log : List ℕ) (c : Chains t) (h : (t (start_net s)).next < X) where
  abbrev dry : Lent
  dry = record { log = log; state = dry_start s; name = 0 }

  dry_ran : (ran t dry).state ≡ record { used = length (added (t (start_net s))); next = (t (start_net s)).next }
  unfolding state_after dry_start
  dry_ran = λ i. record { used = zero-add (length (added (t (start_net s)))) i; next = (t (start_net s)).next }

  dry_exact : run t dry ≡ ran t dry → (run t dry).state ≡ record { used = length (added (t (start_net s))); next = (t (start_net s)).next }
  dry_exact e = ap (λ (x : Lent). x.state) e ∙ dry_ran

  -- more words than a log has
  dry_full : max_words < length (added (t (start_net s))) → 20 ≡ log_refusal room s t
  unfolding log_refusal
  dry_full g = room_20 room s _ _ (omega arith)

  dry_short : length (added (t (start_net s))) ≤ max_words → (run t dry).state.next ≡ X → ⊥
  unfolding dry_start
  dry_short g e =
      let x : (run t dry).state.next ≡ (t (start_net s)).next = ap (λ (y : LogState). y.next) (dry_exact (run_fits t dry c (rw zero-add g) h)) in
      omega arith

  -- 20 and 21 of a trace that gives too few nets to reach X
  pub dry_number : dry_refusal room s (run t dry).state ≡ log_refusal room s t
  unfolding dry_refusal log_refusal
  dry_number = on (is_over (run t dry).state) refl
    where
      on : (o : Bool) → is_over (run t dry).state ≡ o → (when o then 20 else room_refusal room s (run t dry).state.used ((run t dry).state.next - start_net s)) ≡ log_refusal room s t
      on true q = cases_le (length (added (t (start_net s)))) max_words (λ g. absurd (dry_short g (is_over_lem _ q))) dry_full
      on false q = ap (λ (y : LogState). room_refusal room s y.used (y.next - start_net s)) (dry_exact (run_exact t dry c q))

  -- the same, as a call of code sees it: what the dry run left, and the number by it
  pub dry_called : (front : List ℕ) (start after : LogState) (n : ℕ) → start ≡ dry_start s → record { log = front; state = after; name = 0 } ≡ run t (record { log = log; state = start; name = 0 })
      → n ≡ dry_refusal room s after → n ≡ log_refusal room s t
  dry_called front start after n e f g =
      g ∙ ap (λ (x : Lent). dry_refusal room s x.state) (f ∙ ap (λ (x : LogState). run t (record { log = log; state = x; name = 0 })) e) ∙ dry_number

-- ---- accepted calls
module _ {A : Type 0} (t : Trace A) (room : ℕ) (s : LogState) (log : List ℕ) (c : Chains t) where
  climbs : (n : ℕ) → n ≤ (t n).next
  unfolding Chains
  climbs n = omega (arith, chained_next n (t n).next (t n).entries (c n))

  -- no number of the log: it fits
  accepted_fits : log_refusal room s t ≡ 0 → (s.used + length (added (t s.next)) ≤ max_words) × ((t s.next).next < X)
  unfolding log_refusal
  accepted_fits e =
      let f : Fits room s (length (added (t (start_net s)))) ((t (start_net s)).next - start_net s) = room_fits room s _ _ e in
      let h = start_same s f.low (below _ f.high) in
      (rw h at f.short, last (climbs s.next) (rw h at f.high))
    where
      below : (k : ℕ) → s.next + k ≤ max_nets → s.next ≤ max_nets
      below k h = omega arith

      last : {m : ℕ} → s.next ≤ m → s.next + (m - s.next) ≤ max_nets → m < X
      last h g = omega arith

  -- the run is the trace's, and does not overflow
  pub accepted_run : log_refusal room s t ≡ 0 → run t (record { log = log; state = s; name = 0 }) ≡ ran t (record { log = log; state = s; name = 0 })
  accepted_run e = run_fits t (record { log = log; state = s; name = 0 }) c (accepted_fits e).0 (accepted_fits e).1

  pub accepted_held : log_refusal room s t ≡ 0 → is_over (run t (record { log = log; state = s; name = 0 })).state ≡ false
  accepted_held e =
      ap (λ (x : Lent). is_over x.state) (accepted_run e) ∙ held (state_after s (t s.next)) (next_after s (t s.next))
    where
      held : (x : LogState) → x.next ≡ (t s.next).next → is_over x ≡ false
      held x q = not_over x (λ z. omega (arith, (accepted_fits e).1))
