-- The delayed ports one after the other, as the loop emits them.
use mathlib.Core.Path.{◌≡◌, refl, sym, ap, ◌∙◌, subst}
use Prim.Native.Nat.{ℕ, suc, ◌+◌, ◌<◌, ◌≤◌}
use native.Mathlib.Omega.{arith}
use native.Mathlib.Numerals.{add-one}
use mathlib.Core.Bool.{Bool, true, false}
use mathlib.Core.List.{List, [], ◌∷◌}
use lib.ListN.{length, drop, get_or, drop_of_length-le}
use lib.Seq.{drop-cons}
use Rattle.lists.specs.Choice.{when◌then◌else◌}
use Rattle.lists.proofs.Choice.{if_true}
use Rattle.rules.specs.Logic.{is_undef}
use Rattle.rules.specs.Cell.{WritePort, Mem, is_read_before_write}
use Rattle.rules.specs.Log.{Trace, ◌>>=◌, done}
use Rattle.rules.specs.Beside.Chain.{Chains}
use Rattle.rules.specs.Ports.{relates_to, delayed, delay_writes, emulate_read_before_write}
use Rattle.rules.proofs.Chain.{chains_dff, chains_dedup_dff, chains_bind, chains_done, chains_if}
use Rattle.log_entries.specs.Emission.{Lent, run}
use Rattle.log_entries.proofs.Emission.{run-done, run_then, run_same}
use Rattle.port_transparency.specs.Gave.{Gave}
use Rattle.port_transparency.proofs.Gave.{gave_done}
use Rattle.port_delay.specs.Delay.{cut, delayable, delayed_if, Delayable}
use Rattle.port_delay.proofs.Delay.{can}
use Rattle.port_emulate.specs.Delays.{delayed_by, cut_by, delays, no_write_of, Fitting}

-- ---- one port by its test
module _ (allX : Bool) (p q : WritePort) (a d k : List ℕ) (l l1 : Lent) where
  pub port_not : (b : Bool) → b ≡ false → Gave (delayed_by b allX p q) l l (cut_by b p a d k)
  port_not true e = let z : ◌≡◌ {A = ℕ} 0 1 = cc in absurd (omega arith)
  port_not false e = gave_done p l

  pub port_yes : (b : Bool) → b ≡ true → Gave (delayed_if allX p q) l l1 (cut p a d k) → Gave (delayed_by b allX p q) l l1 (cut_by b p a d k)
  port_yes true e g = g
  port_yes false e g = let z : ◌≡◌ {A = ℕ} 0 1 = cc in absurd (omega arith)

-- ---- in sequence
chains_delayed : (allX : Bool) (p : WritePort) → Chains (delayed allX p)
unfolding delayed
chains_delayed allX p = chains_bind _ _ (chains_dff _) (λ a. chains_bind _ _ (chains_dff _) (λ v. chains_bind _ _ (chains_dedup_dff _) (λ k. chains_done _)))

pub chains_step : (b allX : Bool) (p : WritePort) → Chains (when b then delayed allX p else done p)
chains_step b allX p = chains_if b (delayed allX p) (done p) (chains_delayed allX p) (chains_done p)

pub chains_delays : (is : ℕ → Bool) (allX : Bool) (j : ℕ) (ps : List WritePort) → Chains (delays is allX j ps)
unfolding delays
chains_delays is allX j [] = chains_done []
chains_delays is allX j (p ∷ ps) =
    chains_bind _ _ (chains_step (is j) allX p) (λ q. chains_bind (delays is allX (suc j) ps) _ (chains_delays is allX (suc j) ps) (λ qs. chains_done (q ∷ qs)))

-- ---- the loop
module _ (is : ℕ → Bool) (allX : Bool) (W : List WritePort) (j : ℕ) where
  module _ (h : j < length W) (fit : Fitting W) (P q v : WritePort) (e : P ≡ get_or W j no_write_of) (l l1 : Lent) (g : Gave (delayed_by (is j) allX P q) l l1 v) where
    can_be : delayable (length P.addr) (length P.bits) (length P.mask) ≡ true
    can_be = can _ _ _ (subst (λ (w : WritePort). Delayable (length w.addr) (length w.bits) (length w.mask)) (sym e) (fit j h))

    if_is : delayed_if allX P q ≡ delayed allX P
    unfolding delayed_if
    if_is = if_true (delayable (length P.addr) (length P.bits) (length P.mask)) (delayed allX P) (done q) can_be

    step_is : (b : Bool) → Gave (delayed_by b allX P q) l l1 v → Gave (when b then delayed allX P else done P) l l1 v
    step_is true x = subst (λ (t : Trace WritePort). Gave t l l1 v) if_is x
    step_is false x = x

    drop_is : drop j W ≡ P ∷ drop (j + 1) W
    drop_is = drop-cons W j no_write_of h ∙ (λ k. sym e k ∷ drop (sym (add-one j) k) W)

    abbrev rest : Trace (List WritePort)
    rest = delays is allX (suc j) (drop (j + 1) W)

    abbrev step : Trace WritePort
    step = when is j then delayed allX P else done P

    joined : run rest l1 ≡ run (step >>= λ x. (rest >>= λ qs. done (x ∷ qs))) l
    joined =
        let s = step_is (is j) g in
        run_then l l1 (run rest l1) step (λ x. (rest >>= λ qs. done (x ∷ qs))) v (chains_step (is j) allX P) s.ran s.value (sym (run_same rest (λ qs. v ∷ qs) l1))

    delays_cons : (step >>= λ x. (rest >>= λ qs. done (x ∷ qs))) ≡ delays is allX j (P ∷ drop (j + 1) W)
    unfolding delays
    delays_cons = refl

    pub turn : run (delays is allX (j + 1) (drop (j + 1) W)) l1 ≡ run (delays is allX j (drop j W)) l
    turn =
        ap (λ (n : ℕ). run (delays is allX n (drop (j + 1) W)) l1) (add-one j) ∙ joined
        ∙ ap (λ (t : Trace (List WritePort)). run t l) delays_cons ∙ ap (λ (ws : List WritePort). run (delays is allX j ws) l) (sym drop_is)

  delays_none : (l : Lent) (ws : List WritePort) → ws ≡ [] → run (delays is allX j ws) l ≡ l
  unfolding delays
  delays_none l ws e = ap (λ (x : List WritePort). run (delays is allX j x) l) e ∙ run-done [] l

  pub ends : (l : Lent) → length W ≤ j → run (delays is allX j (drop j W)) l ≡ l
  ends l h = delays_none l (drop j W) (drop_of_length-le W h)

-- ---- as the rules have them
pub delays_are : (m : Mem) (j : ℕ) (ps : List WritePort) → delays (relates_to is_read_before_write m) (is_undef m.init) j ps ≡ delay_writes m j ps
unfolding delays delay_writes
delays_are m j [] = refl
delays_are m j (p ∷ ps) =
    ap (λ (t : Trace (List WritePort)). (when relates_to is_read_before_write m j then delayed (is_undef m.init) p else done p) >>= λ q. (t >>= λ qs. done (q ∷ qs))) (delays_are m (suc j) ps)

module _ (m : Mem) where
  abbrev all : Trace (List WritePort)
  all = delays (relates_to is_read_before_write m) (is_undef m.init) 0 m.writes

  pub emulate_run : (l : Lent) → run all l ≡ run (emulate_read_before_write m) l
  unfolding emulate_read_before_write
  emulate_run l = ap (λ (t : Trace (List WritePort)). run t l) (delays_are m 0 m.writes) ∙ sym (run_same (delay_writes m 0 m.writes) _ l)

  pub chains_emulate : Chains (emulate_read_before_write m)
  unfolding emulate_read_before_write
  chains_emulate = chains_bind (delay_writes m 0 m.writes) _ (subst (λ (t : Trace (List WritePort)). Chains t) (delays_are m 0 m.writes) (chains_delays _ _ 0 m.writes)) (λ ws. chains_done _)
