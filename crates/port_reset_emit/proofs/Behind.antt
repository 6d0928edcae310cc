-- Each step with the nets that it gives, and all of them in turn.
use mathlib.Core.Path.{◌≡◌, refl, sym, ap, ◌∙◌}
use Prim.Native.Nat.{ℕ, ◌+◌, ◌-◌, ◌≤◌, ◌<◌}
use native.Mathlib.Omega.{arith}
use mathlib.Core.Bool.{Bool, true, false}
use mathlib.Core.List.{List, []}
use lib.ListN.{length, take, replicate, length-replicate}
use lib.Seq.{sets}
use borrow.Author.Tests.{lt-ltb, le-ltb}
use Rattle.lists.specs.Choice.{when◌then◌else◌}
use Rattle.lists.specs.Lists.{pairs, up_from}
use Rattle.lists.specs.Distinct.{places}
use Rattle.lists.proofs.Pairs.{pairs_size}
use Rattle.lists.proofs.Distinct.{length_places}
use Rattle.lists.proofs.Stores.{take_stored}
use Rattle.lists.proofs.UpFrom.{count_end}
use Rattle.rules.specs.Limits.{max_merge, X}
use Rattle.rules.specs.Logic.{undef, ones}
use Rattle.rules.specs.Value.{Value, x_nets}
use Rattle.rules.specs.Cell.{Controls, FlipFlop, ReadPort, Mem, or_empty}
use Rattle.rules.specs.Log.{◌>>=◌, ◌>>◌, done, request, add_void_of, add_dff_of, replace_value_of}
use Rattle.rules.specs.Merge.{same4, dff_keys, add_dedup_dff_of, add_bitwise_mux_of}
use Rattle.rules.proofs.Chain.{chains_void, chains_dff, chains_dedup_dff, chains_bitwise_mux, chains_replace}
use Rattle.net_flip_flop.specs.View.{flip_flop}
use Rattle.log_entries.specs.Emission.{Lent, is_over, run}
use Rattle.merge_mux.specs.Results.{limited, results}
use Rattle.merge_mux.specs.Runs.{bitwise_of}
use Rattle.merge_mux.proofs.Limited.{limited-all}
use Rattle.merge_mux.proofs.Spread.{length_spread, results_are}
use Rattle.port_transparency.specs.Gave.{Gave}
use Rattle.port_transparency.specs.Pairs.{with_mask}
use Rattle.port_transparency.proofs.Gave.{gave_done, gave_bind, gave_next, gave_held}
use Rattle.port_transparency.proofs.Covered.{gave_bitwise}
use Rattle.port_overlay.specs.Laid.{laid_from}
use Rattle.port_overlay.proofs.Laid.{chains_laid_from}
use Rattle.port_reset_emit.specs.Behind.{start_trit, mask_behind, choice, reset_behind, reset_laid, reset_if}

-- ---- the mask's
pub first_filled : (u w : List ℕ) (n t : ℕ) → w ≡ sets u 0 (replicate n t) → n ≤ length u → take n w ≡ replicate n t
first_filled u w n t e h = take_stored u w (replicate n t) n e (sym (length-replicate n t)) h

start_is : (b : Bool) (n : ℕ) → replicate n (start_trit b) ≡ (when b then ones n else undef n)
unfolding undef ones
start_is true n = refl
start_is false n = refl

start_length : (b : Bool) (n : ℕ) → length (when b then ones n else undef n) ≡ n
unfolding undef ones
start_length true n = length-replicate n 1
start_length false n = length-replicate n 2

ones_length : (n : ℕ) → length (ones n) ≡ n
unfolding ones
ones_length n = length-replicate n 1

ones_are : (n : ℕ) → replicate n 1 ≡ ones n
unfolding ones
ones_are n = refl

module _ (c : Controls) (initial : Bool) (n : ℕ) (mask : Value) (e : length mask ≡ n) where
  abbrev F : FlipFlop
  F = mask_behind c initial n mask

  keys_length : length (dff_keys F) ≡ n
  unfolding dff_keys mask_behind
  keys_length =
      let t = when initial then ones n else undef n in
      omega (arith, pairs_size (pairs mask (ones n)) (pairs (ones n) t), pairs_size mask (ones n), pairs_size (ones n) t, start_length initial n, ones_length n, e)

  pub mask_length : (k : ℕ) → length (add_dedup_dff_of F k).value ≡ n
  unfolding add_dedup_dff_of ◌>>=◌ done
  mask_length k = length_spread (places same4 (dff_keys F)) _ ∙ length_places same4 [] (dff_keys F) ∙ keys_length

  module _ (xs ys out out' : List ℕ) (l l1 : Lent) (ex : xs ≡ replicate n 1) (ey : ys ≡ replicate n (start_trit initial)) (h : n ≤ max_merge) (ho : n ≤ length out)
      (er : l1 ≡ run (add_dedup_dff_of (flip_flop c (limited mask) xs xs ys)) l)
      (eo : out' ≡ results (is_over l1.state) out 0 (add_dedup_dff_of (flip_flop c (limited mask) xs xs ys) l.state.next).value) where
    mask_is : flip_flop c (limited mask) xs xs ys ≡ F
    unfolding mask_behind
    mask_is =
        let x = ex ∙ ones_are n in
        let y = ey ∙ start_is initial n in
        λ k. record { bits = limited-all mask (rw e h) k; controls = c; clear_value = x k; reset_value = x k; init_value = y k }

    pub mask_gave : Gave (add_dedup_dff_of F) l l1 (take n out')
    mask_gave = record {
      ran = er ∙ ap (λ (f : FlipFlop). run (add_dedup_dff_of f) l) mask_is;
      value = λ o.
          let v = (add_dedup_dff_of F l.state.next).value in
          take_stored out out' v n
          (eo ∙ ap (λ (f : FlipFlop). results (is_over l1.state) out 0 (add_dedup_dff_of f l.state.next).value) mask_is ∙ results_are (is_over l1.state) out 0 v o)
          (sym (mask_length l.state.next)) ho;
    }

pub mask_initial : (c : Controls) (a b : Bool) (n : ℕ) (mask v : Value) (l l1 : Lent) → a ≡ b → Gave (add_dedup_dff_of (mask_behind c a n mask)) l l1 v → Gave (add_dedup_dff_of (mask_behind c b n mask)) l l1 v
mask_initial c a b n mask v l l1 e g = rw e at g

-- ---- the muxes
replaced : (from b v : Value) (l l1 : Lent) → l1 ≡ run (replace_value_of from b) l → Gave (replace_value_of from b >> done v) l l1 v
unfolding ◌>>◌
replaced from b v l l1 e =
    gave_bind (replace_value_of from b) (λ _. done v) l l1 l1 (replace_value_of from b l.state.next).value v (chains_replace from b) (record { ran = e; value = λ o. refl }) (gave_done v l1)

pub choice_gave : (n : ℕ) (k d v from nets nets' : List ℕ) (l l1 l2 : Lent) → n ≤ max_merge → length k ≡ n → length d ≡ n → length v ≡ n → max_merge ≤ length nets
    → l1 ≡ run (bitwise_of k d v) l → (is_over l1.state ≡ false → nets' ≡ sets nets 0 (bitwise_of k d v l.state.next).value) → l2 ≡ run (replace_value_of from (take n nets')) l1
    → Gave (choice k d v from) l l2 v
unfolding choice
choice_gave n k d v from nets nets' l l1 l2 h ek ed ev hn q s e =
    gave_bind (add_bitwise_mux_of k d v) _ l l1 l2 (take n nets') v (chains_bitwise_mux k d v) (gave_bitwise n k d v nets nets' l l1 h ek ed ev hn q s) (replaced from (take n nets') v l1 l2 e)

-- ---- in turn
void_value : (n k : ℕ) → (add_void_of n k).value ≡ up_from k n
unfolding add_void_of request
void_value n k = refl

void_next : (n k : ℕ) → (add_void_of n k).next ≡ k + n
unfolding add_void_of request
void_next n k = refl

less_sum : (a b n : ℕ) → b ≡ a + n → b - a ≡ n
less_sum a b n e = omega arith

module _ (f g : FlipFlop) (n : ℕ) (from : Value) (l l1 l2 l3 l4 : Lent) (d k v : Value)
    (g1 : Gave (add_dff_of f) l l1 d) (g2 : Gave (add_dedup_dff_of g) l1 l2 k) (g3 : Gave (add_void_of n) l2 l3 v) (g4 : Gave (choice k d v from) l3 l4 v) where
  whole : Gave (reset_behind f g n from) l l4 v
  unfolding reset_behind
  whole =
      gave_bind (add_dff_of f) _ l l1 l4 d v (chains_dff f) g1
      (gave_bind (add_dedup_dff_of g) _ l1 l2 l4 k v (chains_dedup_dff g) g2
      (gave_bind (add_void_of n) _ l2 l3 l4 v v (chains_void n) g3 g4))

  abbrev first : ℕ
  first = l2.state.next

  -- the void nets by the two states around them
  void_is : is_over l4.state ≡ false → up_from first (l3.state.next - first) ≡ v
  void_is o =
      let o3 = gave_held (choice k d v from) l3 l4 g4.ran o in
      let e = gave_next (add_void_of n) l2 l3 (chains_void n) g3.ran o3 ∙ void_next n first in
      ap (up_from first) (less_sum first l3.state.next n e) ∙ sym (g3.value o3 ∙ void_value n first)

  pub behind_gave : Gave (reset_behind f g n from) l l4 (up_from first (l3.state.next - first))
  behind_gave = record { ran = whole.ran; value = λ o. void_is o ∙ whole.value o }

-- ---- behind the write ports
x_are : (n : ℕ) → replicate n X ≡ x_nets n
unfolding x_nets
x_are n = refl

module _ (m : Mem) (kr : ℕ) (r : ReadPort) (n : ℕ) (xs : List ℕ) (f g : Value → FlipFlop) (from : Value) where
  pub laid_gave : (l l1 l2 : Lent) (u w u1 w1 : Value) (v : Value) → u ≡ replicate n X → w ≡ replicate n 0
      → Gave (laid_from m kr r 0 xs (with_mask u w)) l l1 (with_mask u1 w1) → Gave (reset_behind (f u1) (g w1) n from) l1 l2 v → Gave (reset_laid m kr r n xs f g from) l l2 v
  unfolding reset_laid or_empty
  laid_gave l l1 l2 u w u1 w1 v eu ew h k =
      let q : Gave (laid_from m kr r 0 xs (with_mask (x_nets n) (replicate n 0))) l l1 (with_mask u1 w1) = rw (eu ∙ x_are n, ew) at h in
      gave_bind (laid_from m kr r 0 xs (with_mask (x_nets n) (replicate n 0))) _ l l1 l2 (with_mask u1 w1) v (chains_laid_from m kr r 0 xs _) q k

  pub if_many : (l : Lent) (i : ℕ) → max_merge < n → Gave (reset_if m kr r n xs f g from) l l (up_from i (i - i))
  unfolding reset_if
  if_many l i h = rw (lt-ltb max_merge n h, count_end i i (same i)) (gave_done [] l)
    where
      same : (j : ℕ) → j ≤ j
      same j = omega arith

  pub if_few : (l l1 : Lent) (v : Value) → n ≤ max_merge → Gave (reset_laid m kr r n xs f g from) l l1 v → Gave (reset_if m kr r n xs f g from) l l1 v
  unfolding reset_if
  if_few l l1 v h k = rw (le-ltb max_merge n h) k
