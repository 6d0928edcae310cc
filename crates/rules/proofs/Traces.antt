-- Traces as a call sees them: two in sequence add their words, advance the state and store into the log as one; and the number of the log
-- by the words and nets that a trace gives.
use mathlib.Core.Path.{◌≡◌, refl, sym, ap, ◌∙◌}
use Prim.Native.Nat.{ℕ, ◌+◌, ◌-◌, ◌≤◌}
use native.Mathlib.Nat.{add_assoc}
use native.Mathlib.Omega.{arith}
use mathlib.Core.List.{List, [], ◌∷◌, ◌++◌, append_assoc, append-nil}
use lib.ListN.{length, length-append}
use lib.Seq.{sets}
use Rattle.lists.proofs.Store.{sets_append}
use Rattle.rules.specs.Limits.{max_nets}
use Rattle.rules.specs.Log.{Entry, words, encode, Made, Trace, ◌>>=◌, done, LogState, start_net, added, state_after, log_after}
use Rattle.rules.specs.Refusals.{room_refusal, log_refusal}

pub words_append : (a b : List Entry) → words (a ++ b) ≡ words a ++ words b
unfolding words
words_append [] b = refl
words_append (e ∷ a) b = ap (λ (l : List ℕ). encode e ++ l) (words_append a b) ∙ sym (append_assoc (encode e) (words a) (words b))

module _ {A B : Type 0} (t : Trace A) (f : A → Trace B) (n : ℕ) where
  pub bind_added : added ((t >>= f) n) ≡ added (t n) ++ added (f (t n).value (t n).next)
  unfolding added ◌>>=◌
  bind_added = words_append (t n).entries (f (t n).value (t n).next).entries

  pub bind_words : length (added ((t >>= f) n)) ≡ length (added (t n)) + length (added (f (t n).value (t n).next))
  bind_words = ap length bind_added ∙ length-append (added (t n)) (added (f (t n).value (t n).next))

  pub bind_next : ((t >>= f) n).next ≡ (f (t n).value (t n).next).next
  unfolding ◌>>=◌
  bind_next = refl

  pub bind_value : ((t >>= f) n).value ≡ (f (t n).value (t n).next).value
  unfolding ◌>>=◌
  bind_value = refl

module _ {A B : Type 0} (s : LogState) (t : Trace A) (f : A → Trace B) where
  -- what the second trace is, after the first
  abbrev pub second : Made B
  second = f (t s.next).value (t s.next).next

  pub bind_state : state_after s ((t >>= f) s.next) ≡ state_after (state_after s (t s.next)) second
  unfolding state_after ◌>>=◌
  bind_state = rw (bind_added t f s.next, length-append) (ap (λ (n : ℕ). record { used = n; next = second.next }) (sym (add_assoc s.used _ _)))

  pub bind_log : (log : List ℕ) → log_after log s ((t >>= f) s.next) ≡ log_after (log_after log s (t s.next)) (state_after s (t s.next)) second
  unfolding log_after state_after
  bind_log log = rw (bind_added t f s.next) (sym (sets_append (added (t s.next)) (added second) log s.used))

-- ---- two traces in sequence as two calls of code see them: each call's state and log by an equation
pub next_after : {A : Type 0} (s : LogState) (t : Made A) → (state_after s t).next ≡ t.next
unfolding state_after
next_after s t = refl

pub then : {A B : Type 0} (s s1 s2 : LogState) (l l1 l2 : List ℕ) (t : Trace A) (f : A → Trace B)
    → s1 ≡ state_after s (t s.next) → l1 ≡ log_after l s (t s.next)
    → s2 ≡ state_after s1 (f (t s.next).value s1.next) → l2 ≡ log_after l1 s1 (f (t s.next).value s1.next)
    → (s2 ≡ state_after s ((t >>= f) s.next)) × (l2 ≡ log_after l s ((t >>= f) s.next))
then s s1 s2 l l1 l2 t f e1 f1 e2 f2 =
    let x : LogState = state_after s (t s.next) in
    let n : s1.next ≡ (t s.next).next = ap (λ (y : LogState). y.next) e1 ∙ next_after s (t s.next) in (
      e2 ∙ ap (λ (k : ℕ). state_after s1 (f (t s.next).value k)) n ∙ ap (λ (y : LogState). state_after y (f (t s.next).value (t s.next).next)) e1 ∙ sym (bind_state s t f),
      f2 ∙ ap (λ (k : ℕ). log_after l1 s1 (f (t s.next).value k)) n ∙ ap (λ (y : LogState). log_after l1 y (f (t s.next).value (t s.next).next)) e1
          ∙ ap (λ (m : List ℕ). log_after m x (f (t s.next).value (t s.next).next)) f1 ∙ sym (bind_log s t f l),
    )

-- ---- a trace whose value alone is changed
module _ {A B : Type 0} (t : Trace A) (g : A → B) (n : ℕ) where
  pub same_added : added ((t >>= λ v. done (g v)) n) ≡ added (t n)
  unfolding added ◌>>=◌ done
  same_added = rw append-nil

  pub same_next : ((t >>= λ v. done (g v)) n).next ≡ (t n).next
  unfolding ◌>>=◌ done
  same_next = refl

-- ---- what is said of a trace goes by its words and its next free net
module _ {A B : Type 0} (t : Made A) (u : Made B) (e : added t ≡ added u) (f : t.next ≡ u.next) where
  pub like_state : (s : LogState) → state_after s t ≡ state_after s u
  unfolding state_after
  like_state s = rw (e, f)

  pub like_log : (l : List ℕ) (s : LogState) → log_after l s t ≡ log_after l s u
  unfolding log_after
  like_log l s = rw e

module _ {A : Type 0} where
  -- the state and the log after a trace, from the words that were stored
  pub stored_state : (s : LogState) (t : Made A) (ws : List ℕ) (u n : ℕ) → added t ≡ ws → u ≡ s.used + length ws → t.next ≡ n
      → record { used = u; next = n } ≡ state_after s t
  unfolding state_after
  stored_state s t ws u n e f g = rw (e, f, g)

  pub stored_log : (log : List ℕ) (s : LogState) (t : Made A) (ws : List ℕ) → added t ≡ ws → sets log s.used ws ≡ log_after log s t
  unfolding log_after
  stored_log log s t ws e = rw e

-- ---- the number of the log
-- inside its limits the next free net is where fresh nets start
pub start_same : (s : LogState) → 2 ≤ s.next → s.next ≤ max_nets → start_net s ≡ s.next
unfolding start_net
start_same s low high = omega arith

module _ {A : Type 0} (t : Trace A) where
  -- by the words and nets of the trace, where it gives as many wherever it starts
  pub log_refusal_lem : (room : ℕ) (s : LogState) (w k : ℕ) → ((n : ℕ) → length (added (t n)) ≡ w) → ((n : ℕ) → (t n).next ≡ n + k)
      → log_refusal room s t ≡ room_refusal room s w k
  unfolding log_refusal
  log_refusal_lem room s w k e f =
      let d : (t (start_net s)).next - start_net s ≡ k = omega (arith, f (start_net s)) in
      rw (e (start_net s), d)

  -- by those that it gives where it starts
  pub log_refusal_at : (room : ℕ) (s : LogState) (w k : ℕ) → length (added (t (start_net s))) ≡ w → (t (start_net s)).next ≡ start_net s + k
      → log_refusal room s t ≡ room_refusal room s w k
  unfolding log_refusal
  log_refusal_at room s w k e f =
      let d : (t (start_net s)).next - start_net s ≡ k = omega (arith, f) in
      rw (e, d)
