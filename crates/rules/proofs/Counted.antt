-- Traces that give the same number of words and nets wherever they start: each request is one.
use mathlib.Core.Path.{◌≡◌, refl, sym, ap, ◌∙◌}
use Prim.Native.Nat.{ℕ, ◌+◌, ◌≤◌}
use native.Mathlib.Nat.{add-zero}
use native.Mathlib.Omega.{arith}
use mathlib.Core.Bool.{Bool, true, false, ◌||◌}
use mathlib.Core.List.{[], ◌∷◌}
use lib.ListN.{length, get_or}
use Rattle.lists.specs.Choice.{when◌then◌else◌}
use Rattle.rules.specs.Limits.{max_nets, X}
use Rattle.rules.specs.Value.{Value, Control, Pos, Neg, is_always}
use Rattle.rules.specs.Cell.{Controls, FlipFlop}
use Rattle.rules.specs.Log.{Trace, ◌>>=◌, done, LogState, start_net, added, words, add_void_of, add_not_of, add_and_of, add_or_of, add_mux_of, add_eq_of, add_shl_of, add_ushr_of, add_dff_of, replace_value_of, request, into_pos_of, with_reset, remap_reset_over_enable_of}
use Rattle.rules.specs.Beside.Chain.{Chains}
use Rattle.rules.specs.Refusals.{room_refusal, log_refusal}
use Rattle.rules.proofs.Entries.{words_void, words_not, words_and, words_or, words_mux, words_eq, words_shl, words_ushr, words_dff, words_replace, next_void, next_not, next_and, next_or, next_mux, next_eq, next_shl, next_ushr, next_dff, next_replace}
use Rattle.rules.proofs.Traces.{same_added, same_next, log_refusal_lem}
use Rattle.rules.proofs.Chain.{chains_done, chains_bind, chains_void, chains_not, chains_and, chains_or, chains_mux, chains_eq, chains_shl, chains_ushr, chains_dff, chains_replace}

-- so many words and nets, and the entries in sequence
pub record Counted {A : Type 0} (t : Trace A) (w k : ℕ) : Type 0 where
  pub words : (n : ℕ) → length (added (t n)) ≡ w
  pub nets : (n : ℕ) → (t n).next ≡ n + k
  pub chain : Chains t

-- 20 and 21 by those numbers
pub counted_refusal : {A : Type 0} (t : Trace A) (w k : ℕ) → Counted t w k → (room : ℕ) (s : LogState) → log_refusal room s t ≡ room_refusal room s w k
counted_refusal t w k c room s = log_refusal_lem t room s w k c.words c.nets

-- ---- nothing, and a value changed
pub counted_done : {A : Type 0} (a : A) → Counted (done a) 0 0
unfolding done added words
counted_done a = record { words = λ n. refl; nets = λ n. sym (add-zero n); chain = chains_done a }

pub counted_same : {A B : Type 0} (t : Trace A) (g : A → B) (w k : ℕ) → Counted t w k → Counted (t >>= λ v. done (g v)) w k
counted_same t g w k c = record {
  words = λ n. ap length (same_added t g n) ∙ c.words n;
  nets = λ n. same_next t g n ∙ c.nets n;
  chain = chains_bind t (λ v. done (g v)) c.chain (λ v. chains_done (g v));
}

-- ---- the requests
pub counted_void : (w : ℕ) → Counted (add_void_of w) 4 w
counted_void w = record { words = words_void w; nets = next_void w; chain = chains_void w }

pub counted_not : (a : Value) → Counted (add_not_of a) (4 + length a) (length a)
counted_not a = record { words = words_not a; nets = next_not a; chain = chains_not a }

pub counted_and : (a b : Value) → Counted (add_and_of a b) (4 + (length a + length b)) (length a)
counted_and a b = record { words = words_and a b; nets = next_and a b; chain = chains_and a b }

pub counted_or : (a b : Value) → Counted (add_or_of a b) (4 + (length a + length b)) (length a)
counted_or a b = record { words = words_or a b; nets = next_or a b; chain = chains_or a b }

pub counted_mux : (c : Control) (a b : Value) → length a ≡ length b → Counted (add_mux_of c a b) (5 + (length a + length b)) (length a)
counted_mux c a b e = record { words = words_mux c a b; nets = λ n. next_mux c a b n e; chain = chains_mux c a b }

pub counted_eq : (a b : Value) → Counted (add_eq_of a b) (4 + (length a + length b)) 1
counted_eq a b = record { words = words_eq a b; nets = next_eq a b; chain = chains_eq a b }

pub counted_shl : (stride : ℕ) (s a : Value) → Counted (add_shl_of stride s a) (6 + (length s + length a)) (length a)
counted_shl stride s a = record { words = words_shl stride s a; nets = next_shl stride s a; chain = chains_shl stride s a }

pub counted_ushr : (stride : ℕ) (s a : Value) → Counted (add_ushr_of stride s a) (6 + (length s + length a)) (length a)
counted_ushr stride s a = record { words = words_ushr stride s a; nets = next_ushr stride s a; chain = chains_ushr stride s a }

pub counted_dff : (f : FlipFlop) → Counted (add_dff_of f) (13 + (length f.bits + length f.clear_value + length f.reset_value + length f.init_value)) (length f.bits)
counted_dff f = record { words = words_dff f; nets = next_dff f; chain = chains_dff f }

pub counted_replace : (from to : Value) → Counted (replace_value_of from to) (4 + (length from + length to)) 0
counted_replace from to = record { words = words_replace from to; nets = next_replace from to; chain = chains_replace from to }

-- ---- traces that give at most so many nets
abbrev pub AtMost : {A : Type 0} → Trace A → ℕ → Type 0
AtMost t k = (n : ℕ) → (t n).next ≤ n + k

pub most_counted : {A : Type 0} (t : Trace A) (w k : ℕ) → Counted t w k → AtMost t k
most_counted t w k c n = omega (arith, c.nets n)

pub most-done : {A : Type 0} (a : A) (k : ℕ) → AtMost (done a) k
unfolding done
most-done a k n = omega arith

pub most_if : {A : Type 0} (b : Bool) (t u : Trace A) (k : ℕ) → AtMost t k → AtMost u k → AtMost (when b then t else u) k
most_if true t u k c d = c
most_if false t u k c d = d

-- one trace and then the trace of its value
pub most_bind : {A B : Type 0} (t : Trace A) (f : A → Trace B) (j k : ℕ) → AtMost t j → ((n : ℕ) → AtMost (f (t n).value) k) → AtMost (t >>= f) (j + k)
unfolding ◌>>=◌
most_bind t f j k c d n = omega (arith, c n, d n (t n).next)

pub most_into_pos : (c : Control) → AtMost (into_pos_of c) 1
unfolding into_pos_of
most_into_pos (Pos n) = most-done (n ∷ []) 1
most_into_pos (Neg n) = most_counted (add_not_of (n ∷ [])) 5 1 (counted_not (n ∷ []))

pub length_into_pos : (c : Control) (n : ℕ) → length (into_pos_of c n).value ≡ 1
unfolding into_pos_of add_not_of request done
length_into_pos (Pos m) n = refl
length_into_pos (Neg m) n = refl

most_and : (a b : Value) (c : Controls) → length a ≡ 1 → AtMost (add_and_of a b >>= λ v. done (with_reset c (Pos (get_or v 0 X)))) 1
most_and a b c e = most_bind (add_and_of a b) _ 1 0 (λ n. omega (arith, next_and a b n, e)) (λ n. most-done _ 0)

pub most_remap : (c : Controls) → AtMost (remap_reset_over_enable_of c) 3
unfolding remap_reset_over_enable_of
most_remap c =
    most_if c.reset_over_enable _ _ 3 (most-done c 3)
    (most_if (is_always 0 c.reset || is_always 1 c.enable) _ _ 3 (most-done _ 3)
    (most_bind (into_pos_of c.reset) _ 1 2 (most_into_pos c.reset) (λ n.
    most_bind (into_pos_of c.enable) _ 1 1 (most_into_pos c.enable) (λ m. most_and _ _ c (length_into_pos c.reset n)))))

-- fresh nets start inside the limit
pub start_le : (s : LogState) → start_net s ≤ max_nets
unfolding start_net
start_le s = omega arith
