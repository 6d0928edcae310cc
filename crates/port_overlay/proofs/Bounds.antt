-- An unmapping is in sequence and gives few nets, so that a run without a log never reaches X.
use mathlib.Core.Path.{◌≡◌, sym, ap, ◌∙◌}
use Prim.Native.Nat.{ℕ, suc, ◌+◌, ◌*◌, ◌≤◌}
use native.Mathlib.Omega.{arith}
use mathlib.Core.Bool.{Bool, true, false}
use mathlib.Core.Option.{Option, none, some}
use mathlib.Core.List.{List, [], ◌∷◌, ◌++◌, map, append-nil}
use lib.ListN.{length, take, drop, get_or, replicate, length-map, length-take, length-drop, length-append}
use lib.Dec.{ltb}
use Rattle.lists.specs.Choice.{when◌then◌else◌}
use Rattle.lists.specs.Lists.{pairs, up_from}
use Rattle.lists.specs.Distinct.{kept, places}
use Rattle.lists.proofs.UpFrom.{length_up}
use Rattle.lists.proofs.Distinct.{length_kept}
use Rattle.lists.proofs.Pairs.{pairs_size}
use Rattle.rules.specs.Limits.{X}
use Rattle.rules.specs.Value.{Value, Control, Pos, zext}
use Rattle.rules.specs.Cell.{FlipFlop, WritePort, ReadPort, ReadFlipFlop, Mem, write_wide_log2, read_wide_log2, write_at, read_at_of, is_transparent, transparent_from, transparent_ports, flip_flop_of, output_slice, or_empty}
use Rattle.rules.specs.Log.{Trace, ◌>>=◌, ◌>>◌, done, request, add_or_of, add_mux_of, add_shl_of, add_ushr_of, add_eq_of, add_void_of, add_dff_of, replace_value_of}
use Rattle.rules.specs.Beside.Chain.{Chains}
use Rattle.rules.specs.Merge.{same2, spread, add_dedup_mux_of, mux_runs, runs, add_bitwise_mux_of}
use Rattle.rules.specs.Ports.{Seen, seen, seen_wider, seen_narrower, Overlay, overlaid_mask, transparency_mux, transparencies, unmap_dff}
use Rattle.rules.proofs.Chain.{chains_void, chains_dff, chains_replace, chains_eq, chains_bind, chains_then, chains_done, chains_dedup_mux, chains_bitwise_mux}
use Rattle.rules.proofs.Counted.{AtMost, most_counted, most-done, most_bind, most_if, counted_mux, counted_shl, counted_ushr, counted_eq, counted_or, counted_void, counted_dff, counted_replace}
use Rattle.log_entries.specs.Emission.{Lent, emit, run}
use Rattle.port_transparency.specs.Pairs.{plain}
use Rattle.port_transparency.proofs.Covered.{chains_seen, chains_overlaid, dedup_length, zext_length}
use Rattle.port_overlay.specs.Laid.{laid_from, behind, unmapped}

-- ---- merges
pub most_dedup_mux : (c : Control) (a b : Value) → AtMost (add_dedup_mux_of c a b) (length a)
unfolding add_dedup_mux_of
most_dedup_mux c a b n =
    let ks = kept same2 (pairs a b) in
    let e : length (map (λ k. k.0) ks) ≡ length (map (λ k. k.1) ks) = length-map ks (λ k. k.0) ∙ sym (length-map ks (λ k. k.1)) in
    let t = add_mux_of c (map (λ k. k.0) ks) (map (λ k. k.1) ks) in
    let m = most_bind t (λ v. done (spread (places same2 (pairs a b)) v)) (length (map (λ k. k.0) ks)) 0 (most_counted t _ _ (counted_mux c (map (λ k. k.0) ks) (map (λ k. k.1) ks) e)) (λ k. most-done (spread (places same2 (pairs a b)) (t k).value) 0) n in
    omega (arith, m, length-map ks (λ k. k.0), length_kept same2 [] (pairs a b), pairs_size a b)

most_mux_runs : (ns : List ℕ) (s a b : Value) → AtMost (mux_runs ns s a b) (length a)
unfolding mux_runs
most_mux_runs [] s a b k = most-done [] (length a) k
most_mux_runs (n ∷ ns) s a b k =
    let t = add_dedup_mux_of (Pos (get_or s 0 X)) (take n a) (take n b) in
    let u = mux_runs ns (drop n s) (drop n a) (drop n b) in
    let m = most_bind t (λ v. u >>= λ w. done (v ++ w)) (length (take n a)) (length (drop n a) + 0) (most_dedup_mux (Pos (get_or s 0 X)) (take n a) (take n b)) (λ i.
    most_bind u (λ w. done ((t i).value ++ w)) (length (drop n a)) 0 (most_mux_runs ns (drop n s) (drop n a) (drop n b)) (λ j. most-done ((t i).value ++ (u j).value) 0)) k in
    omega (arith, m, length-take n a, length-drop n a)

pub most_bitwise : (s a b : Value) → AtMost (add_bitwise_mux_of s a b) (length a)
unfolding add_bitwise_mux_of
most_bitwise s a b = most_mux_runs (runs s) s a b

dedup_most : (c : Control) (a b : Value) → length a ≤ 2048 → AtMost (add_dedup_mux_of c a b) 2048
dedup_most c a b h n = omega (arith, most_dedup_mux c a b n)

pub bitwise_most : (s a b : Value) → length a ≤ 2048 → AtMost (add_bitwise_mux_of s a b) 2048
bitwise_most s a b h n = omega (arith, most_bitwise s a b n)

-- as many results as bits at most
runs_few : (ns : List ℕ) (s a b : Value) (k : ℕ) → length (mux_runs ns s a b k).value ≤ length a
unfolding mux_runs ◌>>=◌ done
runs_few [] s a b k = omega arith
runs_few (n ∷ ns) s a b k =
    let t = add_dedup_mux_of (Pos (get_or s 0 X)) (take n a) (take n b) k in
    let u = mux_runs ns (drop n s) (drop n a) (drop n b) t.next in
    omega (arith, length-append t.value u.value, runs_few ns (drop n s) (drop n a) (drop n b) t.next, dedup_length (Pos (get_or s 0 X)) (take n a) (take n b) k, length-take n a, length-drop n a)

pub bitwise_few : (s a b : Value) (k : ℕ) → length (add_bitwise_mux_of s a b k).value ≤ length a
unfolding add_bitwise_mux_of
bitwise_few s a b k = runs_few (runs s) s a b k

-- ---- what a port sees
pub record Small (w : WritePort) (n : ℕ) : Type 0 where
  pub in_bits : length w.bits ≤ 2048
  pub in_mask : length w.mask ≤ 2048
  pub in_read : n ≤ 2048

zext_few : (v : Value) (n : ℕ) → length v ≤ 2048 → n ≤ 2048 → length (zext v n) ≤ 2048
zext_few v n h g = omega (arith, zext_length v n)

module _ (kw kr : ℕ) (w : WritePort) (r : ReadPort) (s : Small w r.data_len) where
  shl_few : (stride : ℕ) (x v : Value) → length v ≤ 2048 → AtMost (add_shl_of stride x v) 2048
  shl_few stride x v h n = omega (arith, (counted_shl stride x v).nets n)

  ushr_few : (stride : ℕ) (x v : Value) → length v ≤ 2048 → AtMost (add_ushr_of stride x v) 2048
  ushr_few stride x v h n = omega (arith, (counted_ushr stride x v).nets n)

  most_wider : (x : Value) (d : ℕ) → AtMost (seen_wider x d w r) 4096
  unfolding seen_wider
  most_wider x d =
      most_bind (add_shl_of (length w.bits) x (zext w.bits r.data_len)) _ 2048 2048 (shl_few _ x _ (zext_few w.bits r.data_len s.in_bits s.in_read)) (λ i.
      most_bind (add_shl_of (length w.mask) x (zext w.mask r.data_len)) _ 2048 0 (shl_few _ x _ (zext_few w.mask r.data_len s.in_mask s.in_read)) (λ j. most-done _ 0))

  most_narrower : (x : Value) (d : ℕ) → AtMost (seen_narrower x d w r) 4096
  unfolding seen_narrower
  most_narrower x d =
      most_bind (add_ushr_of r.data_len x w.bits) _ 2048 2048 (ushr_few _ x _ s.in_bits) (λ i.
      most_bind (add_ushr_of r.data_len x w.mask) _ 2048 0 (ushr_few _ x _ s.in_mask) (λ j. most-done _ 0))

  most-seen : AtMost (seen kw kr w r) 4096
  unfolding seen
  most-seen = most_if (ltb kw kr) _ _ 4096 (most_wider _ _) (most_if (ltb kr kw) _ _ 4096 (most_narrower _ _) (most-done _ 4096))

  -- as many bits
  pub record Sees (v : Seen) : Type 0 where
    pub sees_bits : length v.bits ≤ 2048
    pub sees_mask : length v.mask ≤ 2048

  sees_wider : (x : Value) (d k : ℕ) → Sees (seen_wider x d w r k).value
  unfolding seen_wider ◌>>=◌ done add_shl_of request
  sees_wider x d k = record {
    sees_bits = omega (arith, length_up k (length (zext w.bits r.data_len)), zext_few w.bits r.data_len s.in_bits s.in_read);
    sees_mask = omega (arith, length_up (k + length (zext w.bits r.data_len)) (length (zext w.mask r.data_len)), zext_few w.mask r.data_len s.in_mask s.in_read);
  }

  sees_narrower : (x : Value) (d k : ℕ) → Sees (seen_narrower x d w r k).value
  unfolding seen_narrower ◌>>=◌ done add_ushr_of request
  sees_narrower x d k = record {
    sees_bits = omega (arith, length-take r.data_len (up_from k (length w.bits)), s.in_read);
    sees_mask = omega (arith, length-take r.data_len (up_from (k + length w.bits) (length w.mask)), s.in_read);
  }

  sees_if : (b : Bool) (t u : Trace Seen) (k : ℕ) → Sees (t k).value → Sees (u k).value → Sees ((when b then t else u) k).value
  sees_if true t u k p q = p
  sees_if false t u k p q = q

  sees : (k : ℕ) → Sees (seen kw kr w r k).value
  unfolding seen done
  sees k = sees_if (ltb kw kr) _ _ k (sees_wider _ _ k) (sees_if (ltb kr kw) _ _ k (sees_narrower _ _ k) (record { sees_bits = s.in_bits; sees_mask = s.in_mask }))

-- ---- the mask
-- the mask of an overlay, where there is one, has few bits
abbrev pub FewMask : Overlay → Type 0
FewMask o = length (or_empty o.mask) ≤ 2048

pub plain_few : (v : Value) → FewMask (plain v)
unfolding or_empty
plain_few v = omega arith

or_few : (a b : Value) (k : ℕ) → length a ≤ 2048 → length (add_or_of a b k).value ≤ 2048
unfolding add_or_of request
or_few a b k h = omega (arith, length_up k (length a))

most_or : (a b : Value) → length a ≤ 2048 → AtMost (add_or_of a b) 2048
most_or a b h n = omega (arith, (counted_or a b).nets n)

most-overlaid : (e : ℕ) (w : Value) (k : Option Value) → length (or_empty k) ≤ 2048 → AtMost (overlaid_mask e w k) 4096
unfolding overlaid_mask or_empty
most-overlaid e w none h = most-done none 4096
most-overlaid e w (some m) h =
    most_bind (add_or_of m w) _ 2048 2048 (most_or m w h) (λ a. most_bind (add_dedup_mux_of _ _ _) _ 2048 0 (dedup_most _ _ _ (or_few m w a h)) (λ b. most-done _ 0))

overlaid_few : (e : ℕ) (w : Value) (k : Option Value) (n : ℕ) → length (or_empty k) ≤ 2048 → length (or_empty (overlaid_mask e w k n).value) ≤ 2048
unfolding overlaid_mask or_empty ◌>>=◌ done
overlaid_few e w none n h = h
overlaid_few e w (some m) n h = let a = add_or_of m w n in omega (arith, h, dedup_length (Pos e) a.value m a.next)

-- ---- one write port
module _ (m : Mem) (i j : ℕ) (o : Overlay) (s : Small (write_at m j) (read_at_of m i).data_len) where
  abbrev kw : ℕ
  kw = write_wide_log2 m (write_at m j)

  abbrev kr : ℕ
  kr = read_wide_log2 m (read_at_of m i)

  pub most_mux : FewMask o → AtMost (transparency_mux m i j o) 12289
  unfolding transparency_mux
  most_mux f n =
      let w = write_at m j in
      let r = read_at_of m i in
      most_bind (seen kw kr w r) _ 4096 8193 (most-seen kw kr w r s) (λ a.
      most_bind (add_eq_of _ _) _ 1 8192 (most_counted _ _ _ (counted_eq _ _)) (λ b.
      most_bind (add_dedup_mux_of _ _ _) _ 2048 6144 (dedup_most _ _ _ (sees kw kr w r s a).sees_mask) (λ d.
      most_bind (add_bitwise_mux_of _ _ _) _ 2048 4096 (bitwise_most _ _ _ (sees kw kr w r s a).sees_bits) (λ e.
      most_bind (overlaid_mask _ _ o.mask) _ 4096 0 (most-overlaid _ _ o.mask f) (λ g. most-done _ 0))))) n

  pub mux_few : (k : ℕ) → length (transparency_mux m i j o k).value.bits ≤ 2048
  unfolding transparency_mux ◌>>=◌ done
  mux_few k =
      let a = seen kw kr (write_at m j) (read_at_of m i) k in
      let e = add_eq_of (zext a.value.read_addr (length a.value.write_addr)) (zext a.value.write_addr (length a.value.read_addr)) a.next in
      let x = add_dedup_mux_of (Pos e.value) a.value.mask (replicate (length a.value.mask) 0) e.next in
      omega (arith, bitwise_few x.value a.value.bits o.bits x.next, (sees kw kr (write_at m j) (read_at_of m i) s k).sees_bits)

  pub mux_mask_few : FewMask o → (k : ℕ) → FewMask (transparency_mux m i j o k).value
  unfolding transparency_mux ◌>>=◌ done
  mux_mask_few f k = overlaid_few _ _ o.mask _ f

-- ---- the whole: in sequence
pub chains_mux_at : (m : Mem) (i j : ℕ) (o : Overlay) → Chains (transparency_mux m i j o)
unfolding transparency_mux
chains_mux_at m i j o =
    chains_bind _ _ (chains_seen _ _ _ _) (λ s. chains_bind _ _ (chains_eq _ _) (λ e.
    chains_bind _ _ (chains_dedup_mux _ _ _) (λ x. chains_bind _ _ (chains_bitwise_mux _ _ _) (λ v.
    chains_bind _ _ (chains_overlaid e s.mask o.mask) (λ n. chains_done _)))))

pub chains_all : (m : Mem) (i : ℕ) (js : List ℕ) (o : Overlay) → Chains (transparencies m i js o)
unfolding transparencies
chains_all m i [] o = chains_done o
chains_all m i (j ∷ js) o = chains_bind (transparency_mux m i j o) _ (chains_mux_at m i j o) (λ p. chains_all m i js p)

pub chains_unmap : (m : Mem) (i : ℕ) (output : Value) (f : ReadFlipFlop) → Chains (unmap_dff m i output f)
unfolding unmap_dff
chains_unmap m i output f =
    chains_bind _ _ (chains_void _) (λ v. chains_bind _ _ (chains_all m i (transparent_ports f) _) (λ o.
    chains_bind _ _ (chains_dff _) (λ q. chains_then _ _ (chains_replace _ _) (chains_done _))))

-- ---- and few nets
dff_most : (f : FlipFlop) → length f.bits ≤ 2048 → AtMost (add_dff_of f) 32408
dff_most f h n = omega (arith, (counted_dff f).nets n)

replace_most : (a b : Value) → AtMost (replace_value_of a b) 0
replace_most a b n = omega (arith, (counted_replace a b).nets n)

module _ (m : Mem) (i : ℕ) (s : (j : ℕ) → Small (write_at m j) (read_at_of m i).data_len) where
  pub most-all : (js : List ℕ) (o : Overlay) → FewMask o → AtMost (transparencies m i js o) (length js * 12289)
  unfolding transparencies ◌>>=◌ done
  most-all [] o f n = omega arith
  most-all (j ∷ js) o f n =
      let a = transparency_mux m i j o n in
      most_step n a.next _ (length js) (most_mux m i j o (s j) f n) (most-all js a.value (mux_mask_few m i j o (s j) f n) a.next)
    where
      most_step : (n x y k : ℕ) → x ≤ n + 12289 → y ≤ x + k * 12289 → y ≤ n + suc k * 12289
      most_step n x y k p q = omega (arith, p, q)

  pub all_few : (js : List ℕ) (o : Overlay) (k : ℕ) → length o.bits ≤ 2048 → length (transparencies m i js o k).value.bits ≤ 2048
  unfolding transparencies ◌>>=◌ done
  all_few [] o k h = h
  all_few (j ∷ js) o k h = let a = transparency_mux m i j o k in all_few js a.value a.next (mux_few m i j o (s j) k)

  pub all_mask_few : (js : List ℕ) (o : Overlay) (k : ℕ) → FewMask o → FewMask (transparencies m i js o k).value
  unfolding transparencies ◌>>=◌ done
  all_mask_few [] o k f = f
  all_mask_few (j ∷ js) o k f = let a = transparency_mux m i j o k in all_mask_few js a.value a.next (mux_mask_few m i j o (s j) f k)

  pub from_few : (j : ℕ) (xs : List ℕ) → length (transparent_from j xs) ≤ length xs
  unfolding transparent_from
  from_few j [] = omega arith
  from_few j (x ∷ xs) = on (is_transparent x) (from_few (suc j) xs)
    where
      on : (b : Bool) → length (transparent_from (suc j) xs) ≤ length xs → length (when b then j ∷ transparent_from (suc j) xs else transparent_from (suc j) xs) ≤ suc (length xs)
      on true h = omega arith
      on false h = omega arith

  pub most_unmap : (output : Value) (f : ReadFlipFlop) → length f.relations ≤ 8 → (read_at_of m i).data_len ≤ 2048 → AtMost (unmap_dff m i output f) 132768
  unfolding unmap_dff ◌>>◌ add_void_of request transparent_ports flip_flop_of
  most_unmap output f h g =
      most_bind (add_void_of (read_at_of m i).data_len) _ 2048 130720 (λ x. omega (arith, (counted_void (read_at_of m i).data_len).nets x)) (λ a.
      most_bind (transparencies m i (transparent_ports f) (plain (add_void_of (read_at_of m i).data_len a).value)) _ 98312 32408 (λ x. most_ports a x) (λ b.
      most_bind (add_dff_of _) _ 32408 0 (dff_most _ (all_few (transparent_ports f) (plain (add_void_of (read_at_of m i).data_len a).value) b (void_few a))) (λ d.
      most_bind (replace_value_of _ _) _ 0 0 (replace_most _ _) (λ e. most-done _ 0))))
    where
      void_length : (a : ℕ) → length (add_void_of (read_at_of m i).data_len a).value ≡ (read_at_of m i).data_len
      void_length a = length_up a (read_at_of m i).data_len

      void_few : (a : ℕ) → length (add_void_of (read_at_of m i).data_len a).value ≤ 2048
      void_few a = omega (arith, void_length a)

      ports_few : length (transparent_ports f) ≤ 8
      ports_few = omega (arith, from_few 0 f.relations)

      most_ports : (a x : ℕ) → (transparencies m i (transparent_ports f) (plain (add_void_of (read_at_of m i).data_len a).value) x).next ≤ x + 98312
      most_ports a x = omega (arith, most-all (transparent_ports f) (plain (add_void_of (read_at_of m i).data_len a).value) (plain_few (add_void_of (read_at_of m i).data_len a).value) x, ports_few)

-- ---- the rules' trace and the code's give the same entries
module _ {A B C : Type 0} (t : Trace A) (f : A → Trace B) (g : A → Trace C) where
  like_bind : ((a : A) (k : ℕ) → (f a k).entries ≡ (g a k).entries) → (k : ℕ) → ((t >>= f) k).entries ≡ ((t >>= g) k).entries
  unfolding ◌>>=◌
  like_bind h k = ap (λ es. (t k).entries ++ es) (h (t k).value (t k).next)

like_then : {B : Type 0} (t : Trace Value) (b : B) (k : ℕ) → ((t >> done b) k).entries ≡ (t k).entries
unfolding ◌>>◌ ◌>>=◌ done
like_then t b k = append-nil (t k).entries

run_like : {A B : Type 0} (t : Trace A) (u : Trace B) (l : Lent) → ((k : ℕ) → (t k).entries ≡ (u k).entries) → run t l ≡ run u l
unfolding run
run_like t u l h = ap (emit l) (h l.state.next)

pub unmap_runs : (m : Mem) (i kr : ℕ) (r : ReadPort) (output : Value) (f : ReadFlipFlop) (l : Lent)
    → ((o : Overlay) → laid_from m kr r 0 f.relations o ≡ transparencies m i (transparent_from 0 f.relations) o)
    → run (unmapped m kr r (read_at_of m i).data_len f.relations (flip_flop_of f) (output_slice m i output)) l ≡ run (unmap_dff m i output f) l
unfolding unmapped unmap_dff behind transparent_ports
unmap_runs m i kr r output f l e =
    run_like _ _ l (like_bind (add_void_of (read_at_of m i).data_len) _ _ (λ v k.
    ap (λ (t : Trace Overlay). ((t >>= λ o. (add_dff_of (flip_flop_of f o.bits) >>= λ q. replace_value_of (output_slice m i output) q)) k).entries) (e (plain v))
    ∙ like_bind (transparencies m i (transparent_from 0 f.relations) (plain v)) _ _ (λ o j.
    like_bind (add_dff_of (flip_flop_of f o.bits)) _ _ (λ q n. sym (like_then (replace_value_of (output_slice m i output) q) _ n)) j) k))
