-- All read ports unmapped: the next free net does not fall, and the outputs after are as many as before and good nets.
use mathlib.Core.Path.{◌≡◌, refl, ap, ◌∙◌}
use Prim.Native.Nat.{ℕ, zero, suc, ◌+◌, ◌<◌, ◌≤◌}
use native.Mathlib.Nat.{le_refl}
use native.Mathlib.Omega.{arith}
use mathlib.Core.Bool.{Bool, true, false, ◌&&◌}
use mathlib.Core.Option.{Option, none, some}
use mathlib.Core.List.{List, [], ◌∷◌}
use lib.ListN.{length, set}
use lib.Seq.{sets, length-sets}
use lib.Dec.{eqb, ltb}
use borrow.Author.Tests.{lt-ltb, le-leb}
use Rattle.lists.specs.Choice.{when◌then◌else◌}
use Rattle.lists.specs.Lists.{all, up_from}
use Rattle.lists.proofs.Choice.{and_true, or_left, or_later, cases_le}
use Rattle.rules.specs.Limits.{X, max_nets, max_merge}
use Rattle.rules.specs.Value.{Value, first_cell, is_cell_net, good_net, good_value}
use Rattle.rules.specs.Cell.{FlipFlop, ReadFlipFlop, Mem, read_at_of, output_start}
use Rattle.rules.specs.Log.{Made, Trace, ◌>>=◌, ◌>>◌, done, request, add_void_of}
use Rattle.rules.specs.Beside.Chain.{Chains}
use Rattle.rules.proofs.Chain.{chained_next, chains_done, chains_bind, chains_then, chains_dff, chains_replace}
use Rattle.rules.proofs.Entries.{next_void}
use Rattle.port_overlay.specs.Laid.{behind}
use Rattle.port_overlay.proofs.Laid.{chains_laid_from}
use Rattle.port_unmap_all.specs.All.{unmapped_to, unmapped_of, unmapped_at, unmapped_each, unmapped_all}

-- ---- good nets in a room
good_below : (N x : ℕ) → x < N → N ≤ max_nets → good_net N x ≡ true
unfolding good_net is_cell_net
good_below N x h g =
    cases_le first_cell x
    (λ l. or_later (ltb x first_cell) (or_later (eqb x X) (λ i. le-leb first_cell x l i && (lt-ltb x N h i && lt-ltb x max_nets (omega arith) i))))
    (λ l. or_left _ (lt-ltb x first_cell l))

up_good : (N k n : ℕ) → k + n ≤ N → N ≤ max_nets → all (good_net N) (up_from k n) ≡ true
up_good N k zero h g = refl
up_good N k (suc n) h g = λ i. good_below N k (omega arith) g i && up_good N (suc k) n (omega arith) g i

all_set : (f : ℕ → Bool) (l : List ℕ) (i x : ℕ) → all f l ≡ true → f x ≡ true → all f (set l i x) ≡ true
all_set f [] i x e q = refl
all_set f (a ∷ l) zero x e q = λ j. q j && (and_true (f a) (all f l) e).1 j
all_set f (a ∷ l) (suc i) x e q =
    let o = and_true (f a) (all f l) e in
    λ j. o.0 j && all_set f l i x o.1 q j

all_sets : (f : ℕ → Bool) (ws l : List ℕ) (i : ℕ) → all f ws ≡ true → all f l ≡ true → all f (sets l i ws) ≡ true
all_sets f [] l i e q = q
all_sets f (w ∷ ws) l i e q =
    let o = and_true (f w) (all f ws) e in
    all_sets f ws (set l i w) (suc i) o.1 (all_set f l i w q o.0)

stored_good : (N k n i : ℕ) (room : Value) → k + n ≤ N → N ≤ max_nets → good_value N room ≡ true → good_value N (sets room i (up_from k n)) ≡ true
unfolding good_value
stored_good N k n i room h g e = all_sets (good_net N) (up_from k n) room i (up_good N k n h g) e

-- ---- entries in sequence give nets from the next free one on
trace_grows : {A : Type 0} (t : Trace A) → Chains t → (n : ℕ) → n ≤ (t n).next
unfolding Chains
trace_grows t c n = omega (arith, chained_next n (t n).next (t n).entries (c n))

after_grows : {A B : Type 0} (t : Trace A) (f : A → Trace B) → ((a : A) → Chains (f a)) → (n : ℕ) → (t n).next ≤ ((t >>= f) n).next
unfolding ◌>>=◌
after_grows t f c n = trace_grows (f (t n).value) (c (t n).value) (t n).next

chains_behind : (f : FlipFlop) (from : Value) → Chains (behind f from)
unfolding behind
chains_behind f from = chains_bind _ _ (chains_dff f) (λ q. chains_replace from q)

-- ---- from a room at a next free net
pub record Kept (k : ℕ) (room : Value) (x : Made Value) : Type 0 where
  pub grows : k ≤ x.next
  pub long : length x.value ≡ length room
  pub good : (N : ℕ) → x.next ≤ N → N ≤ max_nets → good_value N room ≡ true → good_value N x.value ≡ true

kept-done : (k : ℕ) (room : Value) → Kept k room (done room k)
unfolding done
kept-done k room = record { grows = le_refl k; long = refl; good = λ N h g e. e }

module _ (m : Mem) (output : Value) where
  to_next : (i : ℕ) (f : ReadFlipFlop) (room : Value) (k : ℕ) → (add_void_of (read_at_of m i).data_len k).next ≤ (unmapped_to m i output f room k).next
  unfolding unmapped_to
  to_next i f room k = after_grows (add_void_of (read_at_of m i).data_len) _ (λ v. chains_bind _ _ (chains_laid_from m _ _ 0 _ _) (λ o. chains_then _ _ (chains_behind _ _) (chains_done _))) k

  to_value : (i : ℕ) (f : ReadFlipFlop) (room : Value) (k : ℕ) → (unmapped_to m i output f room k).value ≡ sets room (output_start m i) (up_from k (read_at_of m i).data_len)
  unfolding unmapped_to ◌>>=◌ ◌>>◌ done add_void_of request
  to_value i f room k = refl

  kept_to : (i : ℕ) (f : ReadFlipFlop) (room : Value) (k : ℕ) → Kept k room (unmapped_to m i output f room k)
  kept_to i f room k =
      let n = (read_at_of m i).data_len in
      let h : k + n ≤ (unmapped_to m i output f room k).next = omega (arith, to_next i f room k, next_void n k) in
      record {
        grows = omega (arith, h);
        long = ap length (to_value i f room k) ∙ length-sets room (output_start m i) (up_from k n);
        good = λ N l g e. ap (good_value N) (to_value i f room k) ∙ stored_good N k n (output_start m i) room (omega (arith, h, l)) g e;
      }

  kept_of : (i : ℕ) (o : Option ReadFlipFlop) (room : Value) (k : ℕ) → Kept k room (unmapped_of o m i output room k)
  unfolding unmapped_of
  kept_of i none room k = kept-done k room
  kept_of i (some f) room k = on (ltb max_merge (read_at_of m i).data_len)
    where
      on : (b : Bool) → Kept k room ((when b then done room else unmapped_to m i output f room) k)
      on true = kept-done k room
      on false = kept_to i f room k

  kept_at : (i : ℕ) (room : Value) (k : ℕ) → Kept k room (unmapped_at m i output room k)
  unfolding unmapped_at
  kept_at i room k = kept_of i (read_at_of m i).flip_flop room k

  kept_then : (k : ℕ) (room : Value) (x y : Made Value) → Kept k room x → Kept x.next x.value y → Kept k room y
  kept_then k room x y a b = record {
    grows = omega (arith, a.grows, b.grows);
    long = b.long ∙ a.long;
    good = λ N h g e. b.good N h g (a.good N (omega (arith, b.grows, h)) g e);
  }

  each_next : (i : ℕ) (is : List ℕ) (room : Value) (k : ℕ) → Kept k room (unmapped_each is m output (unmapped_at m i output room k).value (unmapped_at m i output room k).next)
      → Kept k room (unmapped_each (i ∷ is) m output room k)
  unfolding unmapped_each ◌>>=◌
  each_next i is room k c = record { grows = c.grows; long = c.long; good = c.good }

  kept_each : (is : List ℕ) (room : Value) (k : ℕ) → Kept k room (unmapped_each is m output room k)
  unfolding unmapped_each
  kept_each [] room k = kept-done k room
  kept_each (i ∷ is) room k =
      let x = unmapped_at m i output room k in
      each_next i is room k (kept_then k room x (unmapped_each is m output x.value x.next) (kept_at i room k) (kept_each is x.value x.next))

  pub kept-all : (room : Value) (k : ℕ) → Kept k room (unmapped_all m output room k)
  unfolding unmapped_all
  kept-all room k = kept_each (up_from 0 (length m.reads)) room k
