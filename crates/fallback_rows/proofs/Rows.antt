-- The loops over the ports and the memories, and a row from its parts.
use mathlib.Core.Path.{◌≡◌, refl, sym, ap, ◌∙◌, subst}
use mathlib.Core.Logic.{◌≢◌}
use Prim.Native.Nat.{ℕ, ◌+◌, ◌-◌, ◌*◌, ◌<◌, ◌≤◌}
use native.Mathlib.Nat.{mul-le-mul}
use native.Mathlib.Omega.{arith}
use mathlib.Core.Bool.{Bool, true, false, ◌||◌}
use mathlib.Core.List.{List, []}
use lib.ListN.{length, take}
use lib.Seq.{sets, length-take-le}
use lib.Dec.{eqb, ltb}
use borrow.Author.Tests.{lt-ltb, le-ltb, eq-eqb, ne_eqb}
use Rattle.lists.specs.Choice.{when◌then◌else◌}
use Rattle.lists.specs.Lists.{part, up_from}
use Rattle.lists.proofs.UpFrom.{count_step, count_end}
use Rattle.lists.proofs.Stores.{take_stored}
use Rattle.rules.specs.Limits.{max_merge, max_unit, max_columns, max_nets}
use Rattle.rules.specs.Logic.{Const}
use Rattle.rules.specs.Value.{Value, Control, of_const}
use Rattle.rules.specs.Cell.{Mem, write_at}
use Rattle.rules.specs.Log.{Trace, ◌>>=◌, ◌>>◌, done, add_void_of, replace_value_of}
use Rattle.rules.specs.Beside.Chain.{Chains}
use Rattle.rules.proofs.Chain.{chains_void}
use Rattle.log_entries.specs.Emission.{Lent, run}
use Rattle.log_entries.proofs.Emission.{run-done, run_then}
use Rattle.port_transparency.specs.Gave.{Gave}
use Rattle.port_transparency.proofs.Gave.{gave_done, gave_bind, gave_same}
use Rattle.swizzle_result.specs.declared.WideMemory.{WideMemory}
use Rattle.swizzle_parts.specs.Parts.{read_port}
use Rattle.fallback_row.specs.Row.{start_if, over_if, held_back, held_if, driven_by}
use Rattle.fallback_row.proofs.Register.{length_const}
use Rattle.fallback_rows.specs.Rows.{writes_by, write_numbers, clock_of, register_by, row_by, drives, read_numbers, row_trace, mem_at, row_if, rows_of, lowered}
use Rattle.fallback_rows.proofs.Chained.{chains_over, chains_writes, chains_held, chains_row_by, chains_driven, chains_row_if}

-- one trace after the other
seq_ran : {A B : Type 0} (t : Trace A) (u : Trace B) (l l1 l2 : Lent) → Chains t → l1 ≡ run t l → l2 ≡ run u l1 → l2 ≡ run (t >> u) l
unfolding ◌>>◌
seq_ran t u l l1 l2 c e f = run_then l l1 l2 t (λ a. u) (t l.state.next).value c e (λ o. refl) f

sub_zero : (n : ℕ) → n - 0 ≡ n
sub_zero n = omega arith

-- ---- the loop over the write ports: what is left from j on gives the whole
module _ (w : ℕ) (m : Mem) (count : ℕ) where
  abbrev pub Going : Value → Lent → ℕ → Value → Lent → Type 0
  Going v₀ l₀ j v l = (l' : Lent) (x : Value) → Gave (writes_by w m (up_from j (count - j)) v) l l' x → Gave (writes_by w m (up_from 0 count) v₀) l₀ l' x

  from_cons : (j : ℕ) (v : Value) → j < count
      → writes_by w m (up_from j (count - j)) v ≡ (over_if w (write_at m j).mask (write_at m j).bits v >>= λ x. writes_by w m (up_from (j + 1) (count - (j + 1))) x)
  unfolding writes_by
  from_cons j v h = ap (λ (js : List ℕ). writes_by w m js v) (count_step j count h)

  pub going_turn : (v₀ : Value) (l₀ : Lent) (j : ℕ) (v x mask bits : Value) (l l1 : Lent) → j < count → Going v₀ l₀ j v l → mask ≡ (write_at m j).mask → bits ≡ (write_at m j).bits
      → Gave (over_if w mask bits v) l l1 x → Going v₀ l₀ (j + 1) x l1
  going_turn v₀ l₀ j v x mask bits l l1 h inv em eb g =
      let k : Gave (over_if w (write_at m j).mask (write_at m j).bits v) l l1 x = subst (λ (t : Trace Value). Gave t l l1 x) (λ i. over_if w (em i) (eb i) v) g in
      λ l' y r. inv l' y (subst (λ (t : Trace Value). Gave t l l' y) (sym (from_cons j v h))
      (gave_bind (over_if w (write_at m j).mask (write_at m j).bits v) (λ z. writes_by w m (up_from (j + 1) (count - (j + 1))) z) l l1 l' x y (chains_over w _ _ v) k r))

  pub going_start : (v : Value) (l : Lent) → Going v l 0 v l
  going_start v l = λ l' x r. subst (λ (k : ℕ). Gave (writes_by w m (up_from 0 k) v) l l' x) (sub_zero count) r

  from_nil : (j : ℕ) (v : Value) → count ≤ j → writes_by w m (up_from j (count - j)) v ≡ done v
  unfolding writes_by
  from_nil j v h = ap (λ (js : List ℕ). writes_by w m js v) (count_end j count h)

  pub going_end : (v₀ : Value) (l₀ : Lent) (j : ℕ) (v : Value) (l : Lent) → count ≤ j → Going v₀ l₀ j v l → Gave (writes_by w m (up_from 0 count) v₀) l₀ l v
  going_end v₀ l₀ j v l h inv = inv l v (subst (λ (t : Trace Value). Gave t l l v) (sym (from_nil j v h)) (gave_done v l))

-- ---- the register
start_is : (w : ℕ) (v : Value) → w ≤ max_merge → start_if w v ≡ add_void_of w
unfolding start_if
start_is w v h = rw (le-ltb max_merge w h)

held_is : (w : ℕ) (clock : Control) (init v q : Value) → w ≤ max_merge → held_if w clock init v q ≡ held_back clock init v q
unfolding held_if
held_is w clock init v q h = rw (le-ltb max_merge w h)

module _ (g : WideMemory) (m : Mem) (init : Const) (w : ℕ) (ew : w ≡ g.unit) (hw : g.unit ≤ max_unit) where
  pub register_gave : (q v r : Value) (l l1 l2 l3 : Lent) → Gave (start_if g.unit v) l l1 q → Gave (writes_by w m (write_numbers g) q) l1 l2 r → l3 ≡ run (held_if w (clock_of g) init r q) l2
      → Gave (register_by g m init) l l3 q
  unfolding register_by ◌>>◌
  register_gave q v r l l1 l2 l3 a b c =
      let s : Gave (add_void_of g.unit) l l1 q = subst (λ (t : Trace Value). Gave t l l1 q) (start_is g.unit v (omega arith)) a in
      let k : Gave (writes_by g.unit m (write_numbers g) q) l1 l2 r = subst (λ (x : ℕ). Gave (writes_by x m (write_numbers g) q) l1 l2 r) ew b in
      let h : l3 ≡ run (held_back (clock_of g) init r q) l2 = c ∙ ap (λ (t : Trace Value). run t l2) (held_is w (clock_of g) init r q (omega arith)) in
      gave_bind (add_void_of g.unit) _ l l1 l3 q q (chains_void g.unit) s
      (gave_bind (writes_by g.unit m (write_numbers g) q) (λ x. held_back (clock_of g) init x q >>= λ y. done q) l1 l2 l3 r q (chains_writes g.unit m (write_numbers g) q) k
      (gave_same (held_back (clock_of g) init r q) (λ y. q) l2 l3 _ (chains_held (clock_of g) init r q) (record { ran = h; value = λ o. refl })))

module _ (g : WideMemory) (m : Mem) (init : Const) where
  pub row_const : (l : Lent) (q q' : List ℕ) → g.write_count ≡ 0 → q' ≡ sets q 0 (of_const init) → length init ≡ g.unit → g.unit ≤ length q → Gave (row_by g m init) l l (take g.unit q')
  unfolding row_by
  row_const l q q' z e k h =
      let t : take g.unit q' ≡ of_const init = take_stored q q' (of_const init) g.unit e (omega (arith, k, length_const init)) h in
      rw (eq-eqb g.write_count 0 z) (subst (λ (x : Value). Gave (done (of_const init)) l l x) (sym t) (gave_done (of_const init) l))

  pub row_register : (l l1 : Lent) (q : Value) → g.write_count ≢ 0 → Gave (register_by g m init) l l1 q → Gave (row_by g m init) l l1 q
  unfolding row_by
  row_register l l1 q n h = rw (ne_eqb g.write_count 0 n) h

-- ---- the outputs
pub product_small : (n w : ℕ) → n ≤ 32768 → w ≤ 256 → n * w ≤ 8388608
product_small n w h k = mul-le-mul {n₂ = 32768} {m₂ = 256} h k

pub driven_past : (first before w : ℕ) (v : Value) (l : Lent) → max_nets < first → l ≡ run (driven_by (first + before) w v) l
unfolding driven_by
driven_past first before w v l h = sym (ap (λ (b : Bool). run (when b then done [] else replace_value_of (up_from (first + before) w) v) l) (or_right (ltb max_merge w) (lt-ltb max_nets (first + before) (omega arith))) ∙ run-done [] l)
  where
    or_right : (a : Bool) {b : Bool} → b ≡ true → (a || b) ≡ true
    or_right true e = refl
    or_right false e = e

module _ (g : WideMemory) (n : ℕ) (v : Value) (count : ℕ) where
  abbrev pub Driving : Lent → ℕ → Lent → Type 0
  Driving l₀ i l = (l' : Lent) → l' ≡ run (drives g n v (up_from i (count - i))) l → l' ≡ run (drives g n v (up_from 0 count)) l₀

  drives_cons : (i : ℕ) → i < count → drives g n v (up_from i (count - i)) ≡ (driven_by ((read_port g i).first + n * g.unit) g.unit v >> drives g n v (up_from (i + 1) (count - (i + 1))))
  unfolding drives
  drives_cons i h = ap (drives g n v) (count_step i count h)

  pub driving_turn : (l₀ : Lent) (i : ℕ) (l l1 : Lent) → i < count → Driving l₀ i l → l1 ≡ run (driven_by ((read_port g i).first + n * g.unit) g.unit v) l → Driving l₀ (i + 1) l1
  driving_turn l₀ i l l1 h inv e =
      λ l' r. inv l' (seq_ran (driven_by ((read_port g i).first + n * g.unit) g.unit v) (drives g n v (up_from (i + 1) (count - (i + 1)))) l l1 l' (chains_driven _ _ v) e r
      ∙ ap (λ (t : Trace Unit). run t l) (sym (drives_cons i h)))

  pub driving_start : (l : Lent) → Driving l 0 l
  driving_start l = λ l' r. r ∙ ap (λ (k : ℕ). run (drives g n v (up_from 0 k)) l) (sub_zero count)

  drives_nil : (i : ℕ) → count ≤ i → drives g n v (up_from i (count - i)) ≡ done tt
  unfolding drives
  drives_nil i h = ap (drives g n v) (count_end i count h)

  pub driving_end : (l₀ : Lent) (i : ℕ) (l : Lent) → count ≤ i → Driving l₀ i l → l ≡ run (drives g n v (up_from 0 count)) l₀
  driving_end l₀ i l h inv = inv l (sym (ap (λ (t : Trace Unit). run t l) (drives_nil i h) ∙ run-done tt l))

-- ---- one memory
module _ (g : WideMemory) (nets image : List ℕ) (n m : ℕ) (k : m ≡ n) (init : Const) (f : init ≡ (mem_at g nets image m).init) where
  e : init ≡ (mem_at g nets image n).init
  e = f ∙ ap (λ (j : ℕ). (mem_at g nets image j).init) k

  pub row_not : (l : Lent) → length init ≢ g.unit → l ≡ run (row_if g nets image n) l
  unfolding row_if
  row_not l h =
      sym (ap (λ (b : Bool). run (when b then row_trace g (mem_at g nets image n) (mem_at g nets image n).init n else done tt) l) (ap (λ (c : Const). eqb (length c) g.unit) (sym e) ∙ ne_eqb (length init) g.unit h) ∙ run-done tt l)

  row_is : length init ≡ g.unit → row_if g nets image n ≡ row_trace g (mem_at g nets image n) init n
  unfolding row_if
  row_is h =
      ap (λ (b : Bool). when b then row_trace g (mem_at g nets image n) (mem_at g nets image n).init n else done tt) (ap (λ (c : Const). eqb (length c) g.unit) (sym e) ∙ eq-eqb (length init) g.unit h)
      ∙ ap (λ (c : Const). row_trace g (mem_at g nets image n) c n) (sym e)

  pub row_ran : (l l1 l2 : Lent) (v : Value) → length init ≡ g.unit → Gave (row_by g (mem_at g nets image m) init) l l1 v → l2 ≡ run (drives g n v (read_numbers g)) l1 → l2 ≡ run (row_if g nets image n) l
  unfolding row_trace
  row_ran l l1 l2 v h x b =
      let a : Gave (row_by g (mem_at g nets image n) init) l l1 v = subst (λ (j : ℕ). Gave (row_by g (mem_at g nets image j) init) l l1 v) k x in
      run_then l l1 l2 (row_by g (mem_at g nets image n) init) (λ y. drives g n y (read_numbers g)) v (chains_row_by g _ init) a.ran a.value b
      ∙ ap (λ (t : Trace Unit). run t l) (sym (row_is h))

-- ---- the loop over the memories
module _ (g : WideMemory) (nets image : List ℕ) (count : ℕ) where
  abbrev pub Lowering : Lent → ℕ → Lent → Type 0
  Lowering l₀ n l = (l' : Lent) → l' ≡ run (rows_of g nets image (up_from n (count - n))) l → l' ≡ run (rows_of g nets image (up_from 0 count)) l₀

  rows_cons : (n : ℕ) → n < count → rows_of g nets image (up_from n (count - n)) ≡ (row_if g nets image n >> rows_of g nets image (up_from (n + 1) (count - (n + 1))))
  unfolding rows_of
  rows_cons n h = ap (rows_of g nets image) (count_step n count h)

  pub lowering_turn : (l₀ : Lent) (n : ℕ) (l l1 : Lent) → n < count → Lowering l₀ n l → l1 ≡ run (row_if g nets image n) l → Lowering l₀ (n + 1) l1
  lowering_turn l₀ n l l1 h inv e =
      λ l' r. inv l' (seq_ran (row_if g nets image n) (rows_of g nets image (up_from (n + 1) (count - (n + 1)))) l l1 l' (chains_row_if g nets image n) e r
      ∙ ap (λ (t : Trace Unit). run t l) (sym (rows_cons n h)))

  pub lowering_start : (l : Lent) → Lowering l 0 l
  lowering_start l = λ l' r. r ∙ ap (λ (k : ℕ). run (rows_of g nets image (up_from 0 k)) l) (sub_zero count)

  rows_nil : (n : ℕ) → count ≤ n → rows_of g nets image (up_from n (count - n)) ≡ done tt
  unfolding rows_of
  rows_nil n h = ap (rows_of g nets image) (count_end n count h)

  pub lowering_end : (l₀ : Lent) (n : ℕ) (l : Lent) → count ≤ n → Lowering l₀ n l → l ≡ run (rows_of g nets image (up_from 0 count)) l₀
  lowering_end l₀ n l h inv = inv l (sym (ap (λ (t : Trace Unit). run t l) (rows_nil n h) ∙ run-done tt l))

-- ---- the limits
module _ (g : WideMemory) (nets image : List ℕ) (l : Lent) where
  abbrev chosen : Bool → Trace Unit
  chosen b = when b then done tt else rows_of g nets image (up_from 0 g.mems)

  pub unit_past : max_unit < g.unit → l ≡ run (lowered g nets image) l
  unfolding lowered
  unit_past h = sym (ap (λ (b : Bool). run (chosen (b || ltb max_columns g.mems)) l) (lt-ltb max_unit g.unit h) ∙ run-done tt l)

  pub mems_past : g.unit ≤ max_unit → max_columns < g.mems → l ≡ run (lowered g nets image) l
  unfolding lowered
  mems_past h k = sym ((λ i. run (chosen (le-ltb max_unit g.unit h i || lt-ltb max_columns g.mems k i)) l) ∙ run-done tt l)

  pub within : (l1 : Lent) → g.unit ≤ max_unit → g.mems ≤ max_columns → l1 ≡ run (rows_of g nets image (up_from 0 g.mems)) l → l1 ≡ run (lowered g nets image) l
  unfolding lowered
  within l1 h k e = e ∙ sym (λ i. run (chosen (le-ltb max_unit g.unit h i || le-ltb max_columns g.mems k i)) l)
