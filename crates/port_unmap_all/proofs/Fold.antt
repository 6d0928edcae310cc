-- The rules unmap one port after the other in a memory and outputs that change; the code reads those that it was given. Both give the same.
use mathlib.Core.Path.{◌≡◌, refl, sym, ap, ◌∙◌, subst}
use Prim.Native.Nat.{ℕ, zero, suc, ◌+◌, ◌<◌, ◌≤◌}
use native.Mathlib.Numerals.{add-one}
use native.Mathlib.Nat.{add-zero, zero-add, add-suc, suc-add}
use native.Mathlib.Omega.{arith}
use mathlib.Core.Bool.{Bool, true, false}
use mathlib.Core.Option.{Option, none, some}
use mathlib.Core.List.{List, [], ◌∷◌, ◌++◌}
use lib.ListN.{length, take, drop, set}
use lib.Seq.{sets}
use lib.Dec.{ltb}
use borrow.Author.Tests.{le-ltb}
use Rattle.lists.specs.Choice.{when◌then◌else◌}
use Rattle.lists.specs.Lists.{sum_by, part, up_from}
use Rattle.lists.proofs.UpFrom.{length_up}
use Rattle.lists.proofs.Store.{drop_sets}
use Rattle.lists.proofs.Parts.{same_back}
use Rattle.lists.proofs.Sum.{sum_take_more}
use Rattle.rules.specs.Limits.{max_merge}
use Rattle.rules.specs.Value.{Value}
use Rattle.rules.specs.Cell.{FlipFlop, ReadFlipFlop, ReadPort, Mem, write_wide_log2, read_wide_log2, write_at, read_at_of, flip_flop_of, output_start, output_slice, with_output, with_reads, with_flip_flop, transparent_ports}
use Rattle.rules.specs.Log.{Entry, Made, Trace, ◌>>=◌, ◌>>◌, done, request, add_void_of, add_dff_of, replace_value_of}
use Rattle.rules.specs.Ports.{Overlay, transparency_mux, transparencies, Driving, unmap_dff, unmap_read_dff_of, unmap_read_dff, unmap_each, unmap_all}
use Rattle.port_transparency.specs.Pairs.{reading, plain, laid_over}
use Rattle.port_overlay.specs.Laid.{laid_from, behind}
use Rattle.port_unmap.specs.Trace.{related}
use Rattle.port_unmap_all.specs.All.{unmapped_to, unmapped_of, unmapped_at, unmapped_each, unmapped_all, bare, all_bare}
use Rattle.port_unmap_all.proofs.Bare.{bare_to, bare_at, bare_sum, bare_set, bare_none, bare-all}

-- a port's trace, with any value of its void nets
abbrev core : {A : Type 0} → Mem → ℕ → Value → ReadFlipFlop → (Value → A) → Trace A
core m i from f g = do
  v ← add_void_of (read_at_of m i).data_len
  o ← transparencies m i (transparent_ports f) (plain v)
  q ← add_dff_of (flip_flop_of f o.bits)
  replace_value_of from q
  done (g v)

dff_core : (m : Mem) (i : ℕ) (output : Value) (f : ReadFlipFlop)
    → unmap_dff m i output f ≡ core m i (output_slice m i output) f (λ v. record { memory = with_flip_flop m i none; output = with_output m i v output })
unfolding unmap_dff
dff_core m i output f = refl

-- a flip-flop and its replacement, and then a value
behind_then : {A : Type 0} (f : FlipFlop) (from : Value) (a : A) → (behind f from >> done a) ≡ (add_dff_of f >>= λ q. (replace_value_of from q >> done a))
unfolding behind ◌>>=◌ ◌>>◌ done add_dff_of replace_value_of request
behind_then f from a = refl

to_core : (m : Mem) (i : ℕ) (output : Value) (f : ReadFlipFlop) (room : Value)
    → ((o : Overlay) → laid_from m (read_wide_log2 m (read_at_of m i)) (reading (read_at_of m i).addr (read_at_of m i).data_len) 0 (related f) o ≡ transparencies m i (transparent_ports f) o)
    → unmapped_to m i output f room ≡ core m i (output_slice m i output) f (λ v. sets room (output_start m i) v)
unfolding unmapped_to
to_core m i output f room e =
    λ k. add_void_of (read_at_of m i).data_len >>= λ v. (e (plain v) k >>= λ o. behind_then (flip_flop_of f o.bits) (output_slice m i output) (sets room (output_start m i) v) k)

-- ---- ports before it without flip-flops change nothing
abbrev mux_by : Mem → ReadPort → ℕ → Overlay → Trace Overlay
mux_by m r j o = laid_over (write_wide_log2 m (write_at m j)) (read_wide_log2 m r) (write_at m j) r o

mux_is : (m : Mem) (i j : ℕ) (o : Overlay) → transparency_mux m i j o ≡ mux_by m (read_at_of m i) j o
unfolding transparency_mux laid_over
mux_is m i j o = refl

mux_reads : (m : Mem) (rs : List ReadPort) (r : ReadPort) (j : ℕ) (o : Overlay) → mux_by (with_reads m rs) r j o ≡ mux_by m r j o
unfolding with_reads write_wide_log2 read_wide_log2 write_at
mux_reads m rs r j o = refl

module _ (m : Mem) where
  -- the memory whose first n read ports have lost their flip-flops
  abbrev pub bared : ℕ → Mem
  bared n = with_reads m (bare_to n m.reads)

  at_bared : (n i : ℕ) → n ≤ i → read_at_of (bared n) i ≡ read_at_of m i
  unfolding read_at_of with_reads
  at_bared n i h = bare_at n m.reads i _ h

  start_bared : (n j : ℕ) → output_start (bared n) j ≡ output_start m j
  unfolding output_start with_reads
  start_bared n j = bare_sum j n m.reads

  mux_bared : (n i j : ℕ) (o : Overlay) → n ≤ i → transparency_mux (bared n) i j o ≡ transparency_mux m i j o
  mux_bared n i j o h =
      mux_is (bared n) i j o ∙ ap (λ (r : ReadPort). mux_by (bared n) r j o) (at_bared n i h) ∙ mux_reads m (bare_to n m.reads) (read_at_of m i) j o ∙ sym (mux_is m i j o)

  all_bared : (n i : ℕ) (js : List ℕ) (o : Overlay) → n ≤ i → transparencies (bared n) i js o ≡ transparencies m i js o
  unfolding transparencies
  all_bared n i [] o h = refl
  all_bared n i (j ∷ js) o h = λ k. mux_bared n i j o h k >>= λ p. all_bared n i js p h k

  core_bared : {A : Type 0} (n i : ℕ) (from : Value) (f : ReadFlipFlop) (g : Value → A) → n ≤ i → core (bared n) i from f g ≡ core m i from f g
  core_bared n i from f g h =
      λ k. add_void_of (at_bared n i h k).data_len >>= λ v. (all_bared n i (transparent_ports f) (plain v) h k >>= λ o. (add_dff_of (flip_flop_of f o.bits) >>= λ q. (replace_value_of from q >> done (g v))))

  -- the slice of a port is not touched by those before it
  slice_bared : (n : ℕ) (out output : Value) → drop (output_start m n) out ≡ drop (output_start m n) output → output_slice (bared n) n out ≡ output_slice m n output
  unfolding output_slice
  slice_bared n out output e =
      (λ k. part (start_bared n n k) (at_bared n n (omega arith) k).data_len out) ∙ ap (take (read_at_of m n).data_len) e

  -- the memory after it
  set_next : (n : ℕ) → n < length m.reads → set (bare_to n m.reads) n (bare (read_at_of m n)) ≡ bare_to (suc n) m.reads
  unfolding read_at_of
  set_next n h = bare_set n m.reads _ h

  memory_next : (n : ℕ) → n < length m.reads → with_flip_flop (bared n) n none ≡ bared (suc n)
  unfolding with_flip_flop with_reads
  memory_next n h = ap (with_reads m) (ap (λ (r : ReadPort). set (bare_to n m.reads) n (bare r)) (at_bared n n (omega arith)) ∙ set_next n h)

  memory_none : (n : ℕ) → (read_at_of m n).flip_flop ≡ none → bared n ≡ bared (suc n)
  unfolding read_at_of
  memory_none n e = ap (with_reads m) (bare_none n m.reads _ e)

  memory-all : bared (length m.reads) ≡ all_bare m
  unfolding all_bare
  memory-all = ap (with_reads m) (bare-all m.reads)

  memory_first : bared 0 ≡ m
  unfolding with_reads bare_to
  memory_first = refl

  start_next : (n : ℕ) → output_start m (suc n) ≡ output_start m n + (read_at_of m n).data_len
  unfolding output_start read_at_of
  start_next n = ap (λ (k : ℕ). sum_by (λ (p : ReadPort). p.data_len) (take k m.reads)) (sym (add-one n)) ∙ sum_take_more (λ (p : ReadPort). p.data_len) _ refl m.reads n

-- ---- the two traces side by side
pub record Like (after : Mem) (d : Made Driving) (x : Made Value) : Type 0 where
  pub entries_is : d.entries ≡ x.entries
  pub next_is : d.next ≡ x.next
  pub output_is : d.value.output ≡ x.value
  pub memory_is : d.value.memory ≡ after

core_like : (m after : Mem) (i : ℕ) (from : Value) (f : ReadFlipFlop) (g : Value → Driving) (h : Value → Value) (k : ℕ)
    → ((v : Value) → (g v).output ≡ h v) → ((v : Value) → (g v).memory ≡ after) → Like after (core m i from f g k) (core m i from f h k)
unfolding ◌>>=◌ ◌>>◌ done
core_like m after i from f g h k eo em = record { entries_is = refl; next_is = refl; output_is = eo _; memory_is = em _ }

-- each port's numbers and its relations are in order
pub record Fine (m : Mem) (i : ℕ) (f : ReadFlipFlop) : Type 0 where
  pub few : (read_at_of m i).data_len ≤ max_merge
  pub laid : (o : Overlay) → laid_from m (read_wide_log2 m (read_at_of m i)) (reading (read_at_of m i).addr (read_at_of m i).data_len) 0 (related f) o ≡ transparencies m i (transparent_ports f) o

module _ (m : Mem) (output : Value) (fine : (i : ℕ) (f : ReadFlipFlop) → i < length m.reads → (read_at_of m i).flip_flop ≡ some f → Fine m i f) where
  with_start : (n : ℕ) (v out : Value) → with_output (bared m n) n v out ≡ sets out (output_start m n) v
  unfolding with_output
  with_start n v out = ap (λ (k : ℕ). sets out k v) (start_bared m n n)

  few_to : (i : ℕ) (f : ReadFlipFlop) (room : Value) → (read_at_of m i).data_len ≤ max_merge → unmapped_of (some f) m i output room ≡ unmapped_to m i output f room
  unfolding unmapped_of
  few_to i f room h = ap (λ (b : Bool). when b then done room else unmapped_to m i output f room) (le-ltb max_merge (read_at_of m i).data_len h)

  some_like : (n : ℕ) (f : ReadFlipFlop) (out : Value) (k : ℕ) → n < length m.reads → Fine m n f → drop (output_start m n) out ≡ drop (output_start m n) output
      → Like (bared m (suc n)) (unmap_dff (bared m n) n out f k) (unmapped_of (some f) m n output out k)
  some_like n f out k h g e =
      let G : Value → Driving = λ v. record { memory = with_flip_flop (bared m n) n none; output = with_output (bared m n) n v out } in
      let H : Value → Value = λ v. sets out (output_start m n) v in
      let a : unmap_dff (bared m n) n out f ≡ core m n (output_slice m n output) f G =
      dff_core (bared m n) n out f ∙ core_bared m n n (output_slice (bared m n) n out) f G (omega arith) ∙ ap (λ (x : Value). core m n x f G) (slice_bared m n out output e) in
      let b : unmapped_of (some f) m n output out ≡ core m n (output_slice m n output) f H = few_to n f out g.few ∙ to_core m n output f out g.laid in
      subst (λ (t : Trace Driving). Like (bared m (suc n)) (t k) (unmapped_of (some f) m n output out k)) (sym a)
      (subst (λ (t : Trace Value). Like (bared m (suc n)) (core m n (output_slice m n output) f G k) (t k)) (sym b)
      (core_like m (bared m (suc n)) n (output_slice m n output) f G H k (λ v. with_start n v out) (λ v. memory_next m n h)))

  none_like : (n : ℕ) (out : Value) (k : ℕ) → (read_at_of m n).flip_flop ≡ none → Like (bared m (suc n)) (unmap_read_dff_of none (bared m n) n out k) (unmapped_of none m n output out k)
  unfolding unmap_read_dff_of unmapped_of done
  none_like n out k e = record { entries_is = refl; next_is = refl; output_is = refl; memory_is = memory_none m n e }

  some_of : (n : ℕ) (f : ReadFlipFlop) (out : Value) (k : ℕ) → Like (bared m (suc n)) (unmap_dff (bared m n) n out f k) (unmapped_of (some f) m n output out k)
      → Like (bared m (suc n)) (unmap_read_dff_of (some f) (bared m n) n out k) (unmapped_of (some f) m n output out k)
  unfolding unmap_read_dff_of
  some_of n f out k x = x

  port_like : (n : ℕ) (out : Value) (k : ℕ) → n < length m.reads → drop (output_start m n) out ≡ drop (output_start m n) output
      → Like (bared m (suc n)) (unmap_read_dff (bared m n) n out k) (unmapped_at m n output out k)
  unfolding unmap_read_dff unmapped_at
  port_like n out k h e =
      subst (λ (o : Option ReadFlipFlop). Like (bared m (suc n)) (unmap_read_dff_of o (bared m n) n out k) (unmapped_of (read_at_of m n).flip_flop m n output out k))
      (sym (ap (λ (r : ReadPort). r.flip_flop) (at_bared m n n (omega arith)))) (on (read_at_of m n).flip_flop refl)
    where
      on : (o : Option ReadFlipFlop) → (read_at_of m n).flip_flop ≡ o → Like (bared m (suc n)) (unmap_read_dff_of o (bared m n) n out k) (unmapped_of o m n output out k)
      on none q = none_like n out k q
      on (some f) q = some_of n f out k (some_like n f out k h (fine n f h q) e)

  -- the outputs of later ports are those given
  kept_to : (n : ℕ) (f : ReadFlipFlop) (out : Value) (k : ℕ) → drop (output_start m (suc n)) (unmapped_to m n output f out k).value ≡ drop (output_start m (suc n)) out
  unfolding unmapped_to ◌>>=◌ ◌>>◌ done add_void_of request
  kept_to n f out k = drop_sets (output_start m (suc n)) (up_from k (read_at_of m n).data_len) out (output_start m n) (omega (arith, start_next m n, length_up k (read_at_of m n).data_len))

  kept_of : (n : ℕ) (o : Option ReadFlipFlop) (out : Value) (k : ℕ) → drop (output_start m (suc n)) (unmapped_of o m n output out k).value ≡ drop (output_start m (suc n)) out
  unfolding unmapped_of done
  kept_of n none out k = refl
  kept_of n (some f) out k = on (ltb max_merge (read_at_of m n).data_len)
    where
      on : (b : Bool) → drop (output_start m (suc n)) ((when b then done out else unmapped_to m n output f out) k).value ≡ drop (output_start m (suc n)) out
      on true = refl
      on false = kept_to n f out k

  kept_at : (n : ℕ) (out : Value) (k : ℕ) → drop (output_start m (suc n)) (unmapped_at m n output out k).value ≡ drop (output_start m (suc n)) out
  unfolding unmapped_at
  kept_at n out k = kept_of n (read_at_of m n).flip_flop out k

  later : (n : ℕ) (out : Value) → drop (output_start m n) out ≡ drop (output_start m n) output → drop (output_start m (suc n)) out ≡ drop (output_start m (suc n)) output
  later n out e = same_back (output_start m n) (output_start m (suc n)) output out (omega (arith, start_next m n)) e

  join : (is : List ℕ) (after middle : Mem) (d : Made Driving) (x : Made Value) → Like middle d x
      → Like after (unmap_each is middle x.value x.next) (unmapped_each is m output x.value x.next)
      → Like after (record { value = (unmap_each is d.value.memory d.value.output d.next).value; entries = d.entries ++ (unmap_each is d.value.memory d.value.output d.next).entries; next = (unmap_each is d.value.memory d.value.output d.next).next })
      (record { value = (unmapped_each is m output x.value x.next).value; entries = x.entries ++ (unmapped_each is m output x.value x.next).entries; next = (unmapped_each is m output x.value x.next).next })
  join is after middle d x p q =
      let e : unmap_each is d.value.memory d.value.output d.next ≡ unmap_each is middle x.value x.next = λ j. unmap_each is (p.memory_is j) (p.output_is j) (p.next_is j) in
      record {
        entries_is = (λ j. p.entries_is j ++ (e j).entries) ∙ ap (λ (es : List Entry). x.entries ++ es) q.entries_is;
        next_is = ap (λ (y : Made Driving). y.next) e ∙ q.next_is;
        output_is = ap (λ (y : Made Driving). y.value.output) e ∙ q.output_is;
        memory_is = ap (λ (y : Made Driving). y.value.memory) e ∙ q.memory_is;
      }

  each_like : (c n : ℕ) (out : Value) (k : ℕ) → n + c ≡ length m.reads → drop (output_start m n) out ≡ drop (output_start m n) output
      → Like (bared m (n + c)) (unmap_each (up_from n c) (bared m n) out k) (unmapped_each (up_from n c) m output out k)
  unfolding unmap_each unmapped_each ◌>>=◌ done
  each_like zero n out k h e = record { entries_is = refl; next_is = refl; output_is = refl; memory_is = ap (bared m) (sym (add-zero n)) }
  each_like (suc c) n out k h e =
      let x = unmapped_at m n output out k in
      join (up_from (suc n) c) (bared m (n + suc c)) (bared m (suc n)) (unmap_read_dff (bared m n) n out k) x (port_like n out k (omega arith) e)
      (subst (λ (j : ℕ). Like (bared m j) (unmap_each (up_from (suc n) c) (bared m (suc n)) x.value x.next) (unmapped_each (up_from (suc n) c) m output x.value x.next)) (suc-add n c ∙ sym (add-suc n c))
      (each_like c (suc n) x.value x.next (omega arith) (kept_at n out k ∙ later n out e)))

  pub all_like : (k : ℕ) → Like (all_bare m) (unmap_all m output k) (unmapped_all m output output k)
  unfolding unmap_all unmapped_all
  all_like k =
      let c = length m.reads in
      let x = each_like c 0 output k (zero-add c) refl in
      subst (λ (v : Mem). Like (all_bare m) (unmap_each (up_from 0 c) v output k) (unmapped_each (up_from 0 c) m output output k)) (memory_first m)
      (subst (λ (v : Mem). Like v (unmap_each (up_from 0 c) (bared m 0) output k) (unmapped_each (up_from 0 c) m output output k)) (ap (bared m) (zero-add c) ∙ memory-all m) x)
