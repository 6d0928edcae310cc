-- The flip-flops of a delayed port: each with the nets that it gives, and all three.
use mathlib.Core.Path.{◌≡◌, refl, sym, ap, ◌∙◌, subst}
use Prim.Native.Nat.{ℕ, ◌≤◌}
use native.Mathlib.Omega.{arith}
use mathlib.Core.Bool.{Bool, true, false}
use mathlib.Core.List.{List, []}
use lib.ListN.{length, take, replicate, length-replicate}
use lib.Seq.{sets}
use lib.Dec.{eqb, ltb}
use borrow.Author.Tests.{le-ltb, ltb-false, eqb-true, eq-eqb}
use Rattle.lists.specs.Choice.{when◌then◌else◌}
use Rattle.lists.specs.Lists.{pairs}
use Rattle.lists.specs.Distinct.{places}
use Rattle.lists.proofs.Choice.{if_true, if_false}
use Rattle.lists.proofs.Pairs.{pairs_size}
use Rattle.lists.proofs.Distinct.{length_places}
use Rattle.lists.proofs.Stores.{take_stored}
use Rattle.rules.specs.Limits.{max_merge}
use Rattle.rules.specs.Logic.{undef, zeros}
use Rattle.rules.specs.Value.{Control}
use Rattle.rules.specs.Cell.{Controls, FlipFlop, WritePort, plain_controls, new_flip_flop, with_init}
use Rattle.rules.specs.Log.{Trace, ◌>>=◌, done, add_dff_of}
use Rattle.rules.specs.Merge.{same4, dff_keys, add_dedup_dff_of}
use Rattle.rules.specs.Ports.{delayed}
use Rattle.rules.proofs.Chain.{chains_dff, chains_dedup_dff}
use Rattle.net_flip_flop.specs.View.{flip_flop}
use Rattle.log_entries.specs.Emission.{Lent, is_over, run}
use Rattle.merge_mux.specs.Results.{limited, results}
use Rattle.merge_mux.proofs.Limited.{limited-all}
use Rattle.merge_mux.proofs.Spread.{length_spread, results_are}
use Rattle.port_transparency.specs.Gave.{Gave}
use Rattle.port_transparency.proofs.Gave.{gave_done, gave_bind, gave_same}
use Rattle.port_delay.specs.Delay.{start_trit, mask_delay, port_of, cut, delayable, delayed_if, Delayable}

-- trits of one kind, stored at the front of scratch
pub first_filled : (u w : List ℕ) (n t : ℕ) → w ≡ sets u 0 (replicate n t) → n ≤ length u → take n w ≡ replicate n t
first_filled u w n t e h = take_stored u w (replicate n t) n e (sym (length-replicate n t)) h

pub undef_is : (n : ℕ) → replicate n 2 ≡ undef n
unfolding undef
undef_is n = refl

start_is : (b : Bool) (n : ℕ) → replicate n (start_trit b) ≡ (when b then undef n else zeros n)
unfolding undef zeros
start_is true n = refl
start_is false n = refl

-- ---- a plain flip-flop
module _ (bits xs v : List ℕ) (clock : Control) (c : Controls) (l l1 : Lent) (ec : c ≡ plain_controls clock) (ex : xs ≡ undef (length bits)) where
  plain_is : flip_flop c bits xs xs xs ≡ new_flip_flop bits clock
  unfolding new_flip_flop
  plain_is = λ k. record { bits = bits; controls = ec k; clear_value = ex k; reset_value = ex k; init_value = ex k }

  pub plain_gave : Gave (add_dff_of (flip_flop c bits xs xs xs)) l l1 v → Gave (add_dff_of (new_flip_flop bits clock)) l l1 v
  plain_gave g = subst (λ (f : FlipFlop). Gave (add_dff_of f) l l1 v) plain_is g

-- ---- the mask's
module _ (mask trits out out' : List ℕ) (allX : Bool) (clock : Control) (c : Controls) (l l1 : Lent) (ec : c ≡ plain_controls clock)
    (et : trits ≡ replicate (length mask) (start_trit allX)) (h : length mask ≤ max_merge)
    (er : l1 ≡ run (add_dedup_dff_of (flip_flop c (limited mask) trits trits trits)) l)
    (eo : out' ≡ results (is_over l1.state) out 0 (add_dedup_dff_of (flip_flop c (limited mask) trits trits trits) l.state.next).value) (ho : length mask ≤ length out) where
  abbrev F : FlipFlop
  F = mask_delay allX (length mask) mask clock

  mask_is : flip_flop c (limited mask) trits trits trits ≡ F
  unfolding mask_delay with_init new_flip_flop
  mask_is =
      let q = et ∙ start_is allX (length mask) in
      λ k. record { bits = limited-all mask h k; controls = ec k; clear_value = q k; reset_value = q k; init_value = q k }

  start_length : (b : Bool) (n : ℕ) → length (when b then undef n else zeros n) ≡ n
  unfolding undef zeros
  start_length true n = length-replicate n 2
  start_length false n = length-replicate n 0

  keys_length : length (dff_keys F) ≡ length mask
  unfolding dff_keys mask_delay with_init new_flip_flop
  keys_length =
      let t = when allX then undef (length mask) else zeros (length mask) in
      omega (arith, pairs_size (pairs mask t) (pairs t t), pairs_size mask t, pairs_size t t, start_length allX (length mask))

  mask_length : (n : ℕ) → length (add_dedup_dff_of F n).value ≡ length mask
  unfolding add_dedup_dff_of ◌>>=◌ done
  mask_length n = length_spread (places same4 (dff_keys F)) _ ∙ length_places same4 [] (dff_keys F) ∙ keys_length

  pub mask_gave : Gave (add_dedup_dff_of F) l l1 (take (length mask) out')
  mask_gave = record {
    ran = er ∙ ap (λ (f : FlipFlop). run (add_dedup_dff_of f) l) mask_is;
    value = λ o.
        let v = (add_dedup_dff_of F l.state.next).value in
        take_stored out out' v (length mask)
        (eo ∙ ap (λ (f : FlipFlop). results (is_over l1.state) out 0 (add_dedup_dff_of f l.state.next).value) mask_is ∙ results_are (is_over l1.state) out 0 v o)
        (sym (mask_length l.state.next)) ho;
  }

-- ---- all three
module _ (allX : Bool) (addr bits mask a d k : List ℕ) (clock : Control) (l l1 l2 l3 : Lent) (e : length mask ≡ length bits)
    (g1 : Gave (add_dff_of (new_flip_flop addr clock)) l l1 (take (length addr) a)) (g2 : Gave (add_dff_of (new_flip_flop bits clock)) l1 l2 (take (length bits) d))
    (g3 : Gave (add_dedup_dff_of (mask_delay allX (length mask) mask clock)) l2 l3 (take (length mask) k)) where
  as_data : Gave (add_dedup_dff_of (mask_delay allX (length bits) mask clock)) l2 l3 (take (length mask) k)
  as_data = subst (λ (n : ℕ). Gave (add_dedup_dff_of (mask_delay allX n mask clock)) l2 l3 (take (length mask) k)) e g3

  three_gave : Gave (delayed allX (port_of addr bits mask clock)) l l3 (cut (port_of addr bits mask clock) a d k)
  unfolding delayed mask_delay
  three_gave =
      gave_bind (add_dff_of (new_flip_flop addr clock)) _ l l1 l3 (take (length addr) a) _ (chains_dff _) g1
      (gave_bind (add_dff_of (new_flip_flop bits clock)) _ l1 l2 l3 (take (length bits) d) _ (chains_dff _) g2
      (gave_same (add_dedup_dff_of (with_init (new_flip_flop mask clock) (when allX then undef (length bits) else zeros (length bits)))) _ l2 l3 (take (length mask) k) (chains_dedup_dff _) as_data))

-- ---- by the test
pub can_by : (addr bits mask : ℕ) → addr ≤ max_merge → bits ≤ max_merge → eqb mask bits ≡ delayable addr bits mask
unfolding delayable
can_by addr bits mask g h = sym (if_false (ltb max_merge addr) _ _ (le-ltb max_merge addr g) ∙ if_false (ltb max_merge bits) _ _ (le-ltb max_merge bits h))

on_if : (t u : Bool) → (when t then false else u) ≡ true → (t ≡ false) × (u ≡ true)
on_if true u e = let z : ◌≡◌ {A = ℕ} 0 1 = cc in absurd (omega arith)
on_if false u e = (refl, e)

can_told : (addr bits mask : ℕ) → delayable addr bits mask ≡ true → Delayable addr bits mask
unfolding delayable
can_told addr bits mask e =
    let a = on_if (ltb max_merge addr) _ e in
    let b = on_if (ltb max_merge bits) _ a.1 in
    record { short = ltb-false max_merge addr a.0; few = ltb-false max_merge bits b.0; masked = eqb-true mask bits b.1 }

pub can : (addr bits mask : ℕ) → Delayable addr bits mask → delayable addr bits mask ≡ true
can addr bits mask s = sym (can_by addr bits mask s.short s.few) ∙ eq-eqb mask bits s.masked

-- the port as the code reads it
module _ (allX : Bool) (p : WritePort) (addr bits mask : List ℕ) (clock : Control) (ea : addr ≡ p.addr) (eb : bits ≡ p.bits) (em : mask ≡ p.mask) (ec : clock ≡ p.clock) (l l1 : Lent) where
  port_is : port_of addr bits mask clock ≡ p
  port_is = λ k. record { addr = ea k; bits = eb k; mask = em k; clock = ec k }

  can_is : delayable (length addr) (length bits) (length mask) ≡ delayable (length p.addr) (length p.bits) (length p.mask)
  can_is = λ k. delayable (length (ea k)) (length (eb k)) (length (em k))

  pub delayed_not : (q : WritePort) → delayable (length addr) (length bits) (length mask) ≡ false → Gave (delayed_if allX p q) l l q
  unfolding delayed_if
  delayed_not q e = subst (λ (t : Trace WritePort). Gave t l l q) (sym (if_false (delayable (length p.addr) (length p.bits) (length p.mask)) (delayed allX p) (done q) (sym can_is ∙ e))) (gave_done q l)

  pub delayed_yes : (q v : WritePort) → delayable (length addr) (length bits) (length mask) ≡ true → Gave (delayed allX p) l l1 v → Gave (delayed_if allX p q) l l1 v
  unfolding delayed_if
  delayed_yes q v e g = subst (λ (t : Trace WritePort). Gave t l l1 v) (sym (if_true (delayable (length p.addr) (length p.bits) (length p.mask)) (delayed allX p) (done q) (sym can_is ∙ e))) g

  pub three_port : (a d k : List ℕ) (l2 l3 : Lent) → length p.mask ≡ length p.bits → Gave (add_dff_of (new_flip_flop addr clock)) l l1 (take (length addr) a)
      → Gave (add_dff_of (new_flip_flop bits clock)) l1 l2 (take (length bits) d) → Gave (add_dedup_dff_of (mask_delay allX (length mask) mask clock)) l2 l3 (take (length mask) k)
      → Gave (delayed allX p) l l3 (cut p a d k)
  three_port a d k l2 l3 e g1 g2 g3 =
      subst (λ (x : WritePort). Gave (delayed allX x) l l3 (cut x a d k)) port_is
      (three_gave allX addr bits mask a d k clock l l1 l2 l3 (ap length em ∙ e ∙ sym (ap length eb)) g1 g2 g3)

  pub can_fit : delayable (length addr) (length bits) (length mask) ≡ true → Delayable (length p.addr) (length p.bits) (length p.mask)
  can_fit e = can_told _ _ _ (sym can_is ∙ e)
