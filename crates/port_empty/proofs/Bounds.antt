-- Whatever the memory, the entries of depth 0 are in sequence and give few nets, so that a run without a log never reaches X.
use mathlib.Core.Path.{◌≡◌, refl, sym, subst}
use Prim.Native.Nat.{ℕ, suc, ◌+◌, ◌*◌, ◌<◌, ◌≤◌}
use native.Mathlib.Omega.{arith}
use mathlib.Core.Bool.{Bool, true, false}
use mathlib.Core.Option.{Option, none, some}
use mathlib.Core.List.{List, [], ◌∷◌}
use lib.ListN.{length, replicate, length-take}
use lib.Dec.{ltb}
use borrow.Author.Tests.{ltb-false}
use Rattle.lists.specs.Choice.{when◌then◌else◌}
use Rattle.lists.specs.Lists.{up_from}
use Rattle.lists.proofs.UpFrom.{length_up}
use Rattle.rules.specs.Limits.{X, max_merge, max_ports, max_outputs}
use Rattle.rules.specs.Value.{Value, Control, Pos, zext}
use Rattle.rules.specs.Cell.{FlipFlop, WritePort, ReadPort, ReadFlipFlop, Mem, read_wide_log2, read_at_of, is_transparent, flip_flop_of}
use Rattle.rules.specs.Log.{Trace, ◌>>=◌, ◌>>◌, done, request, add_shl_of, add_ushr_of, add_eq_of, add_void_of, add_dff_of, replace_value_of, LogState, start_net}
use Rattle.rules.specs.Merge.{add_dedup_mux_of, add_bitwise_mux_of}
use Rattle.rules.specs.Ports.{Seen, seen, seen_wider, seen_narrower, Overlay, overlaid_mask}
use Rattle.rules.proofs.Counted.{AtMost, most_counted, most-done, most_bind, most_if, counted_shl, counted_ushr, counted_eq, counted_void, counted_dff, counted_replace, start_le}
use Rattle.port_transparency.specs.Pairs.{reading, plain, laid_over, laid_if, fitting, Fit}
use Rattle.port_transparency.proofs.Covered.{zext_length, fits}
use Rattle.port_overlay.specs.Laid.{laid_by, laid_as, laid_from, behind}
use Rattle.port_overlay.proofs.Bounds.{most_dedup_mux, most_bitwise, bitwise_few}
use Rattle.port_unmap.specs.Trace.{related}
use Rattle.port_unmap_all.specs.All.{unmapped_to, unmapped_of, unmapped_at, unmapped_each, unmapped_all}
use Rattle.port_empty.specs.Empty.{emptied, emptied_if}

-- ---- what a port sees of a write port that fits it
record Few (w : WritePort) (n : ℕ) : Type 0 where
  in_bits : length w.bits ≤ 4096
  in_mask : length w.mask ≤ 4096
  in_read : n ≤ 4096

record Sees (v : Seen) : Type 0 where
  sees_bits : length v.bits ≤ 4096
  sees_mask : length v.mask ≤ 4096

zext_few : (v : Value) (n : ℕ) → length v ≤ 4096 → n ≤ 4096 → length (zext v n) ≤ 4096
zext_few v n h g = omega (arith, zext_length v n)

shl_few : (stride : ℕ) (x v : Value) → length v ≤ 4096 → AtMost (add_shl_of stride x v) 4096
shl_few stride x v h n = omega (arith, (counted_shl stride x v).nets n)

ushr_few : (stride : ℕ) (x v : Value) → length v ≤ 4096 → AtMost (add_ushr_of stride x v) 4096
ushr_few stride x v h n = omega (arith, (counted_ushr stride x v).nets n)

sees_if : (b : Bool) (t u : Trace Seen) (k : ℕ) → Sees (t k).value → Sees (u k).value → Sees ((when b then t else u) k).value
sees_if true t u k p q = p
sees_if false t u k p q = q

module _ (kw kr : ℕ) (w : WritePort) (r : ReadPort) (s : Few w r.data_len) where
  most_wider : (x : Value) (d : ℕ) → AtMost (seen_wider x d w r) 8192
  unfolding seen_wider
  most_wider x d =
      most_bind (add_shl_of (length w.bits) x (zext w.bits r.data_len)) _ 4096 4096 (shl_few _ x _ (zext_few w.bits r.data_len s.in_bits s.in_read)) (λ i.
      most_bind (add_shl_of (length w.mask) x (zext w.mask r.data_len)) _ 4096 0 (shl_few _ x _ (zext_few w.mask r.data_len s.in_mask s.in_read)) (λ j. most-done _ 0))

  most_narrower : (x : Value) (d : ℕ) → AtMost (seen_narrower x d w r) 8192
  unfolding seen_narrower
  most_narrower x d =
      most_bind (add_ushr_of r.data_len x w.bits) _ 4096 4096 (ushr_few _ x _ s.in_bits) (λ i.
      most_bind (add_ushr_of r.data_len x w.mask) _ 4096 0 (ushr_few _ x _ s.in_mask) (λ j. most-done _ 0))

  most-seen : AtMost (seen kw kr w r) 8192
  unfolding seen
  most-seen = most_if (ltb kw kr) _ _ 8192 (most_wider _ _) (most_if (ltb kr kw) _ _ 8192 (most_narrower _ _) (most-done _ 8192))

  sees_wider : (x : Value) (d k : ℕ) → Sees (seen_wider x d w r k).value
  unfolding seen_wider ◌>>=◌ done add_shl_of request
  sees_wider x d k = record {
    sees_bits = omega (arith, length_up k (length (zext w.bits r.data_len)), zext_few w.bits r.data_len s.in_bits s.in_read);
    sees_mask = omega (arith, length_up (k + length (zext w.bits r.data_len)) (length (zext w.mask r.data_len)), zext_few w.mask r.data_len s.in_mask s.in_read);
  }

  sees_narrower : (x : Value) (d k : ℕ) → Sees (seen_narrower x d w r k).value
  unfolding seen_narrower ◌>>=◌ done add_ushr_of request
  sees_narrower x d k = record {
    sees_bits = omega (arith, length-take r.data_len (up_from k (length w.bits)), s.in_read);
    sees_mask = omega (arith, length-take r.data_len (up_from (k + length w.bits) (length w.mask)), s.in_read);
  }

  sees : (k : ℕ) → Sees (seen kw kr w r k).value
  unfolding seen done
  sees k = sees_if (ltb kw kr) _ _ k (sees_wider _ _ k) (sees_if (ltb kr kw) _ _ k (sees_narrower _ _ k) (record { sees_bits = s.in_bits; sees_mask = s.in_mask }))

-- ---- few nets, and data of few bits without a mask
record Lays (t : Trace Overlay) : Type 0 where
  nets : AtMost t 16385
  short : (k : ℕ) → length (t k).value.bits ≤ 4096
  unmasked : (k : ℕ) → (t k).value ≡ plain (t k).value.bits

lays_done : (o : Value) → length o ≤ 4096 → Lays (done (plain o))
unfolding done
lays_done o h = record { nets = most-done (plain o) 16385; short = λ k. h; unmasked = λ k. refl }

lays_if : (b : Bool) (t u : Trace Overlay) → Lays t → Lays u → Lays (when b then t else u)
lays_if true t u p q = p
lays_if false t u p q = q

dedup_most : (c : Control) (a b : Value) → length a ≤ 4096 → AtMost (add_dedup_mux_of c a b) 4096
dedup_most c a b h n = omega (arith, most_dedup_mux c a b n)

bitwise_most : (s a b : Value) → length a ≤ 4096 → AtMost (add_bitwise_mux_of s a b) 4096
bitwise_most s a b h n = omega (arith, most_bitwise s a b n)

module _ (kw kr : ℕ) (w : WritePort) (r : ReadPort) (o : Value) where
  over_nets : Few w r.data_len → AtMost (laid_over kw kr w r (plain o)) 16385
  unfolding laid_over overlaid_mask
  over_nets s n =
      most_bind (seen kw kr w r) _ 8192 8193 (most-seen kw kr w r s) (λ a.
      most_bind (add_eq_of _ _) _ 1 8192 (most_counted _ _ _ (counted_eq _ _)) (λ b.
      most_bind (add_dedup_mux_of _ _ _) _ 4096 4096 (dedup_most _ _ _ (sees kw kr w r s a).sees_mask) (λ d.
      most_bind (add_bitwise_mux_of _ _ _) _ 4096 0 (bitwise_most _ _ _ (sees kw kr w r s a).sees_bits) (λ e.
      most_bind (done none) _ 0 0 (most-done none 0) (λ f. most-done _ 0))))) n

  over_short : Few w r.data_len → (k : ℕ) → length (laid_over kw kr w r (plain o) k).value.bits ≤ 4096
  unfolding laid_over ◌>>=◌ done
  over_short s k =
      let a = seen kw kr w r k in
      let e = add_eq_of (zext a.value.read_addr (length a.value.write_addr)) (zext a.value.write_addr (length a.value.read_addr)) a.next in
      let x = add_dedup_mux_of (Pos e.value) a.value.mask (replicate (length a.value.mask) 0) e.next in
      omega (arith, bitwise_few x.value a.value.bits o x.next, (sees kw kr w r s k).sees_bits)

  over_unmasked : (k : ℕ) → (laid_over kw kr w r (plain o) k).value ≡ plain (laid_over kw kr w r (plain o) k).value.bits
  unfolding laid_over overlaid_mask ◌>>=◌ done
  over_unmasked k = refl

  few_of : Fit kw kr (length w.addr) (length r.addr) (length w.bits) (length w.mask) r.data_len → Few w r.data_len
  few_of f = record { in_bits = f.few_bits; in_mask = omega (arith, f.masked, f.few_bits); in_read = f.few }

  lays_laid : length o ≤ 4096 → Lays (laid_if kw kr w r (plain o))
  unfolding laid_if
  lays_laid h = on (fitting kw kr (length w.addr) (length r.addr) (length w.bits) (length w.mask) r.data_len) refl
    where
      on : (b : Bool) → fitting kw kr (length w.addr) (length r.addr) (length w.bits) (length w.mask) r.data_len ≡ b → Lays (when b then laid_over kw kr w r (plain o) else done (plain o))
      on true e =
          let s = few_of (fits kw kr (length w.addr) (length r.addr) (length w.bits) (length w.mask) r.data_len e) in
          record { nets = over_nets s; short = over_short s; unmasked = over_unmasked }
      on false e = lays_done o h

module _ (m : Mem) (kr : ℕ) (r : ReadPort) where
  lays_as : (x j : ℕ) (o : Value) → length o ≤ 4096 → Lays (laid_as m kr r x j (plain o))
  unfolding laid_as laid_by
  lays_as x j o h = lays_if (is_transparent x) _ _ (lays_laid _ kr _ r o h) (lays_done o h)

  from_nets : (j : ℕ) (xs : List ℕ) (o : Value) → length o ≤ 4096 → AtMost (laid_from m kr r j xs (plain o)) (length xs * 16385)
  unfolding laid_from ◌>>=◌ done
  from_nets j [] o h n = omega arith
  from_nets j (x ∷ xs) o h n =
      let a = laid_as m kr r x j (plain o) n in
      let s = lays_as x j o h in
      let e : (laid_from m kr r (suc j) xs a.value a.next).next ≤ a.next + length xs * 16385 =
      subst (λ (v : Overlay). (laid_from m kr r (suc j) xs v a.next).next ≤ a.next + length xs * 16385) (sym (s.unmasked n)) (from_nets (suc j) xs a.value.bits (s.short n) a.next) in
      step n a.next _ (length xs) (s.nets n) e
    where
      step : (n x y k : ℕ) → x ≤ n + 16385 → y ≤ x + k * 16385 → y ≤ n + suc k * 16385
      step n x y k p q = omega (arith, p, q)

  from_short : (j : ℕ) (xs : List ℕ) (o : Value) (k : ℕ) → length o ≤ 4096 → length (laid_from m kr r j xs (plain o) k).value.bits ≤ 4096
  unfolding laid_from ◌>>=◌ done
  from_short j [] o k h = h
  from_short j (x ∷ xs) o k h =
      let a = laid_as m kr r x j (plain o) k in
      let s = lays_as x j o h in
      subst (λ (v : Overlay). length (laid_from m kr r (suc j) xs v a.next).value.bits ≤ 4096) (sym (s.unmasked k)) (from_short (suc j) xs a.value.bits a.next (s.short k))

-- ---- a port
replace_nets : (a b : Value) → AtMost (replace_value_of a b) 0
replace_nets a b n = omega (arith, (counted_replace a b).nets n)

behind_nets : (f : FlipFlop) (from : Value) → length f.bits ≤ 4096 → AtMost (behind f from) 4096
unfolding behind
behind_nets f from h = most_bind (add_dff_of f) _ 4096 0 (λ n. omega (arith, (counted_dff f).nets n)) (λ q. replace_nets _ _)

void_short : (n k : ℕ) → n ≤ 4096 → length (add_void_of n k).value ≤ 4096
unfolding add_void_of request
void_short n k h = omega (arith, length_up k n)

few_related : (f : ReadFlipFlop) → length (related f) ≤ 8
few_related f = omega (arith, length-take max_ports f.relations)

module _ (m : Mem) (output : Value) where
  to_nets : (i : ℕ) (f : ReadFlipFlop) (room : Value) → (read_at_of m i).data_len ≤ 4096 → AtMost (unmapped_to m i output f room) 139272
  unfolding unmapped_to ◌>>◌ flip_flop_of
  to_nets i f room h =
      most_bind (add_void_of (read_at_of m i).data_len) _ 4096 135176 (λ x. omega (arith, (counted_void (read_at_of m i).data_len).nets x)) (λ a.
      most_bind (laid_from m (read_wide_log2 m (read_at_of m i)) (reading (read_at_of m i).addr (read_at_of m i).data_len) 0 (related f) (plain (add_void_of (read_at_of m i).data_len a).value)) _ 131080 4096 (λ x. laid_nets a x) (λ b.
      most_bind (behind _ _) _ 4096 0 (behind_nets _ _ (from_short m _ _ 0 (related f) (add_void_of (read_at_of m i).data_len a).value b (void_short (read_at_of m i).data_len a h))) (λ e. most-done _ 0)))
    where
      laid_nets : (a x : ℕ) → (laid_from m (read_wide_log2 m (read_at_of m i)) (reading (read_at_of m i).addr (read_at_of m i).data_len) 0 (related f) (plain (add_void_of (read_at_of m i).data_len a).value) x).next ≤ x + 131080
      laid_nets a x =
          omega (arith, from_nets m (read_wide_log2 m (read_at_of m i)) (reading (read_at_of m i).addr (read_at_of m i).data_len) 0 (related f) (add_void_of (read_at_of m i).data_len a).value (void_short (read_at_of m i).data_len a h) x, few_related f)

  of_nets : (i : ℕ) (o : Option ReadFlipFlop) (room : Value) → AtMost (unmapped_of o m i output room) 139272
  unfolding unmapped_of
  of_nets i none room = most-done room 139272
  of_nets i (some f) room = on (ltb max_merge (read_at_of m i).data_len) refl
    where
      on : (b : Bool) → ltb max_merge (read_at_of m i).data_len ≡ b → AtMost (when b then done room else unmapped_to m i output f room) 139272
      on true e = most-done room 139272
      on false e = to_nets i f room (ltb-false max_merge (read_at_of m i).data_len e)

  at_nets : (i : ℕ) (room : Value) → AtMost (unmapped_at m i output room) 139272
  unfolding unmapped_at
  at_nets i room = of_nets i (read_at_of m i).flip_flop room

  each_nets : (is : List ℕ) (room : Value) → AtMost (unmapped_each is m output room) (length is * 139272)
  unfolding unmapped_each ◌>>=◌ done
  each_nets [] room n = omega arith
  each_nets (i ∷ is) room n =
      let a = unmapped_at m i output room n in
      step n a.next _ (length is) (at_nets i room n) (each_nets is a.value a.next)
    where
      step : (n x y k : ℕ) → x ≤ n + 139272 → y ≤ x + k * 139272 → y ≤ n + suc k * 139272
      step n x y k p q = omega (arith, p, q)

  all_nets : (room : Value) → length m.reads ≤ 8 → AtMost (unmapped_all m output room) 1114176
  unfolding unmapped_all
  all_nets room h n = omega (arith, each_nets (up_from 0 (length m.reads)) room n, length_up 0 (length m.reads))

  emptied_nets : length m.reads ≤ 8 → AtMost (emptied m output) 1114176
  unfolding emptied ◌>>◌
  emptied_nets h =
      most_bind (unmapped_all m output output) _ 1114176 0 (all_nets output h) (λ a. most_bind (replace_value_of _ _) _ 0 0 (replace_nets _ _) (λ b. most-done _ 0))

  empty_nets : length m.reads ≤ 8 → AtMost (emptied_if m output) 1114176
  unfolding emptied_if
  empty_nets h = most_if (ltb max_outputs (length output)) _ _ 1114176 (most-done [] 1114176) (emptied_nets h)

  pub empty_below : length m.reads ≤ 8 → (s : LogState) → (emptied_if m output (start_net s)).next < X
  empty_below h s = omega (arith, empty_nets h (start_net s), start_le s)
