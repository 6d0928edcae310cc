-- Write ports laid over what a port reads: one by its values, and the loop over the relations.
use mathlib.Core.Path.{◌≡◌, refl, sym, ap, ◌∙◌}
use Prim.Native.Nat.{ℕ, suc, ◌+◌, ◌<◌, ◌≤◌}
use native.Mathlib.Numerals.{add-one}
use mathlib.Core.Bool.{Bool, true, false}
use mathlib.Core.List.{List, [], ◌∷◌}
use mathlib.Core.Logic.{◌≢◌}
use borrow.Author.Tests.{lt-ltb, le-ltb, ne_eqb, eq-eqb}
use Rattle.rules.specs.Limits.{max_merge}
use Rattle.net_memory.specs.View.{memory_of}
use Rattle.net_memory.specs.declared.Memory.{Memory}
use Rattle.log_entries.proofs.Emission.{run-done}
use lib.ListN.{length, drop, get_or, drop_of_length-le}
use lib.Seq.{drop-cons}
use Rattle.lists.specs.Choice.{when◌then◌else◌}
use Rattle.rules.specs.Value.{Value}
use Rattle.rules.specs.Cell.{FlipFlop, WritePort, ReadPort, Mem, wide_log2, write_wide_log2, write_at, is_transparent}
use Rattle.rules.specs.Log.{Trace, ◌>>=◌, done, request, add_void_of, add_dff_of, replace_value_of}
use Rattle.rules.specs.Beside.Chain.{Chains}
use Rattle.rules.specs.Ports.{Overlay, seen, seen_wider, seen_narrower}
use Rattle.rules.proofs.Chain.{chains_void, chains_dff, chains_eq, chains_bind, chains_done, chains_if, chains_dedup_mux, chains_bitwise_mux}
use Rattle.log_entries.specs.Emission.{Lent, is_over, run}
use Rattle.port_transparency.specs.Gave.{Gave}
use Rattle.port_transparency.specs.Pairs.{writing, plain, laid_over, laid_if, fitting}
use Rattle.port_transparency.proofs.Gave.{gave_done, gave_bind, gave_next, gave_held}
use Rattle.port_transparency.proofs.Covered.{chains_seen, chains_overlaid}
use Rattle.port_overlay.specs.Laid.{laid_by, laid_as, laid_from, behind, unmapped, unmapped_if}

-- ---- the entries are in sequence
pub chains_laid : (kw kr : ℕ) (w : WritePort) (r : ReadPort) (o : Overlay) → Chains (laid_over kw kr w r o)
unfolding laid_over
chains_laid kw kr w r o =
    chains_bind _ _ (chains_seen kw kr w r) (λ s. chains_bind _ _ (chains_eq _ _) (λ e.
    chains_bind _ _ (chains_dedup_mux _ _ _) (λ x. chains_bind _ _ (chains_bitwise_mux _ _ _) (λ v.
    chains_bind _ _ (chains_overlaid e s.mask o.mask) (λ n. chains_done _)))))

pub chains_laid_if : (kw kr : ℕ) (w : WritePort) (r : ReadPort) (o : Overlay) → Chains (laid_if kw kr w r o)
unfolding laid_if
chains_laid_if kw kr w r o = chains_if (fitting kw kr (length w.addr) (length r.addr) (length w.bits) (length w.mask) r.data_len) _ _ (chains_laid kw kr w r o) (chains_done o)

module _ (m : Mem) (kr : ℕ) (r : ReadPort) where
  pub chains_laid_as : (x j : ℕ) (o : Overlay) → Chains (laid_as m kr r x j o)
  unfolding laid_as laid_by
  chains_laid_as x j o = chains_if (is_transparent x) _ _ (chains_laid_if _ kr _ r o) (chains_done o)

  pub chains_laid_from : (j : ℕ) (xs : List ℕ) (o : Overlay) → Chains (laid_from m kr r j xs o)
  unfolding laid_from
  chains_laid_from j [] o = chains_done o
  chains_laid_from j (x ∷ xs) o = chains_bind (laid_as m kr r x j o) _ (chains_laid_as x j o) (λ p. chains_laid_from (suc j) xs p)

-- ---- one write port by its values
laid_like : (kw kr : ℕ) (w : WritePort) (r : ReadPort) (o : Overlay) → laid_if kw kr (writing w.addr w.bits w.mask) r o ≡ laid_if kw kr w r o
unfolding laid_if laid_over seen seen_wider seen_narrower
laid_like kw kr w r o = refl

wide_is : (m : Mem) (w : WritePort) → wide_log2 m.width (length w.bits) ≡ write_wide_log2 m w
unfolding write_wide_log2
wide_is m w = refl

pub wide_by : (m : Mem) (kw width : ℕ) (bits : Value) (w : WritePort) → bits ≡ w.bits → width ≡ m.width → kw ≡ wide_log2 width (length bits) → kw ≡ write_wide_log2 m w
wide_by m kw width bits w eb ew ek = ek ∙ (λ i. wide_log2 (ew i) (length (eb i))) ∙ wide_is m w

pub pair_by : (m : Mem) (kw kr j : ℕ) (w : WritePort) (r : ReadPort) (o p : Overlay) (l l1 : Lent)
    → kw ≡ write_wide_log2 m (write_at m j) → w ≡ writing (write_at m j).addr (write_at m j).bits (write_at m j).mask
    → Gave (laid_if kw kr w r o) l l1 p → Gave (laid_by m kr r j o) l l1 p
unfolding laid_by
pair_by m kw kr j w r o p l l1 ek ew g =
    let e : laid_if kw kr w r o ≡ laid_if (write_wide_log2 m (write_at m j)) kr (write_at m j) r o =
    (λ i. laid_if (ek i) kr (ew i) r o) ∙ laid_like (write_wide_log2 m (write_at m j)) kr (write_at m j) r o in
    rw e at g

-- ---- by its relation
module _ (m : Mem) (kr : ℕ) (r : ReadPort) (x j : ℕ) (o : Overlay) (l : Lent) where
  pub as_laid : is_transparent x ≡ true → (l1 : Lent) (p : Overlay) → Gave (laid_by m kr r j o) l l1 p → Gave (laid_as m kr r x j o) l l1 p
  unfolding laid_as
  as_laid e l1 p g = rw e g

  pub as_not : is_transparent x ≡ false → Gave (laid_as m kr r x j o) l l o
  unfolding laid_as
  as_not e = rw e (gave_done o l)

-- ---- the loop: what is left from j on gives the whole
module _ (m : Mem) (kr : ℕ) (r : ReadPort) (rels : List ℕ) where
  abbrev pub Going : Overlay → Lent → ℕ → Overlay → Lent → Type 0
  Going o₀ l₀ j o l = (l' : Lent) (v : Overlay) → Gave (laid_from m kr r j (drop j rels) o) l l' v → Gave (laid_from m kr r 0 rels o₀) l₀ l' v

  from_cons : (j : ℕ) (o : Overlay) → j < length rels → laid_from m kr r j (drop j rels) o ≡ (laid_as m kr r (get_or rels j 0) j o >>= λ p. laid_from m kr r (j + 1) (drop (j + 1) rels) p)
  unfolding laid_from
  from_cons j o h =
      ap (λ (xs : List ℕ). laid_from m kr r j xs o) (drop-cons rels j 0 h)
      ∙ ap (λ (k : ℕ). laid_as m kr r (get_or rels j 0) j o >>= λ p. laid_from m kr r k (drop (suc j) rels) p) (sym (add-one j))
      ∙ ap (λ (k : ℕ). laid_as m kr r (get_or rels j 0) j o >>= λ p. laid_from m kr r (j + 1) (drop k rels) p) (sym (add-one j))

  pub going_turn : (o₀ : Overlay) (l₀ : Lent) (j : ℕ) (o p : Overlay) (l l1 : Lent) → j < length rels → Going o₀ l₀ j o l
      → Gave (laid_as m kr r (get_or rels j 0) j o) l l1 p → Going o₀ l₀ (j + 1) p l1
  going_turn o₀ l₀ j o p l l1 h inv g =
      λ l' v k. inv l' v (rw (from_cons j o h)
      (gave_bind (laid_as m kr r (get_or rels j 0) j o) (λ q. laid_from m kr r (j + 1) (drop (j + 1) rels) q) l l1 l' p v (chains_laid_as m kr r (get_or rels j 0) j o) g k))

  from_nil : (j : ℕ) (o : Overlay) → length rels ≤ j → laid_from m kr r j (drop j rels) o ≡ done o
  unfolding laid_from
  from_nil j o h = ap (λ (xs : List ℕ). laid_from m kr r j xs o) (drop_of_length-le rels h)

  pub going_end : (o₀ : Overlay) (l₀ : Lent) (j : ℕ) (o : Overlay) (l : Lent) → length rels ≤ j → Going o₀ l₀ j o l → Gave (laid_from m kr r 0 rels o₀) l₀ l o
  going_end o₀ l₀ j o l h inv = inv l o (rw (from_nil j o h) (gave_done o l))

-- ---- the void nets, and the flip-flop
gave_ran : {A : Type 0} (t : Trace A) (l : Lent) → Gave t l (run t l) (t l.state.next).value
gave_ran t l = record { ran = refl; value = λ o. refl }

pub behind_ran : (f : FlipFlop) (from q : Value) (l l1 l2 : Lent) → Gave (add_dff_of f) l l1 q → l2 ≡ run (replace_value_of from q) l1 → l2 ≡ run (behind f from) l
unfolding behind
behind_ran f from q l l1 l2 g p =
    let t = replace_value_of from q in
    p ∙ (gave_bind (add_dff_of f) (λ x. replace_value_of from x) l l1 (run t l1) q _ (chains_dff f) g (gave_ran t l1)).ran

pub width_is : (m : Memory) (nets trits : List ℕ) → m.width ≡ (memory_of m nets trits).width
unfolding memory_of
width_is m nets trits = refl

pub is_not : (x : ℕ) → x ≢ 2 → is_transparent x ≡ false
unfolding is_transparent
is_not x h = ne_eqb x 2 h

pub is_yes : (x : ℕ) → x ≡ 2 → is_transparent x ≡ true
unfolding is_transparent
is_yes x e = eq-eqb x 2 e

-- ---- the whole
void_next : (n k : ℕ) → (add_void_of n k).next ≡ k + n
unfolding add_void_of request
void_next n k = refl

module _ (m : Mem) (kr : ℕ) (r : ReadPort) (n : ℕ) (xs : List ℕ) (f : Value → FlipFlop) (from : Value) (l l1 l2 l3 : Lent) (u u2 : Value)
    (g : Gave (add_void_of n) l l1 u) (h : Gave (laid_from m kr r 0 xs (plain u)) l1 l2 (plain u2)) (e : l3 ≡ run (behind (f u2) from) l2) where
  pub unmapped_ran : l3 ≡ run (unmapped m kr r n xs f from) l
  unfolding unmapped
  unmapped_ran =
      (gave_bind (add_void_of n) _ l l1 l3 u _ (chains_void n) g
      (gave_bind (laid_from m kr r 0 xs (plain u)) (λ o. behind (f o.bits) from) l1 l2 l3 (plain u2) (behind (f u2) from l2.state.next).value (chains_laid_from m kr r 0 xs (plain u)) h (record { ran = e; value = λ o. refl }))).ran

  pub unmapped_last : is_over l3.state ≡ false → l1.state.next ≡ l.state.next + n
  unmapped_last o =
      let o2 = gave_held (behind (f u2) from) l2 l3 e o in
      let o1 = gave_held (laid_from m kr r 0 xs (plain u)) l1 l2 h.ran o2 in
      gave_next (add_void_of n) l l1 (chains_void n) g.ran o1 ∙ void_next n l.state.next

module _ (m : Mem) (kr : ℕ) (r : ReadPort) (n : ℕ) (xs : List ℕ) (f : Value → FlipFlop) (from : Value) (l : Lent) where
  pub if_many : max_merge < n → l ≡ run (unmapped_if m kr r n xs f from) l
  unfolding unmapped_if
  if_many h = sym (ap (λ (b : Bool). run (when b then done [] else unmapped m kr r n xs f from) l) (lt-ltb max_merge n h) ∙ run-done [] l)

  pub if_few : (l1 : Lent) → n ≤ max_merge → l1 ≡ run (unmapped m kr r n xs f from) l → l1 ≡ run (unmapped_if m kr r n xs f from) l
  unfolding unmapped_if
  if_few l1 h e = e ∙ sym (ap (λ (b : Bool). run (when b then done [] else unmapped m kr r n xs f from) l) (le-ltb max_merge n h))
