-- The parts of a row's register: the cases of their tests, and a write port over the row.
use mathlib.Core.Path.{◌≡◌, sym, ap, ◌∙◌, subst}
use mathlib.Core.Logic.{◌≢◌}
use Prim.Native.Nat.{ℕ, ◌+◌, ◌-◌, ◌<◌, ◌≤◌, min}
use native.Mathlib.Nat.{zero-add}
use native.Mathlib.Omega.{arith}
use mathlib.Core.Bool.{Bool, true, false, ◌||◌}
use mathlib.Core.List.{List, []}
use lib.ListN.{length, take, get_or, set, length-map, get_or-map}
use lib.Seq.{sets}
use lib.Dec.{ltb}
use borrow.Author.Tests.{lt-ltb, le-ltb, eq-eqb, ne_eqb}
use Rattle.lists.specs.Choice.{when◌then◌else◌}
use Rattle.lists.specs.Lists.{up_from}
use Rattle.lists.proofs.Stores.{take_stored}
use Rattle.lists.proofs.UpFrom.{length_up}
use Rattle.lists.proofs.Store.{copy_turn, copy_done}
use Rattle.rules.specs.Limits.{max_merge, max_nets}
use Rattle.rules.specs.Value.{Value, Control, net_of_trit, of_const}
use Rattle.rules.specs.Log.{Trace, done, add_void_of, replace_value_of}
use Rattle.log_entries.specs.Emission.{Lent, is_over, run}
use Rattle.log_entries.proofs.Emission.{run-done}
use Rattle.merge_mux.specs.Runs.{bitwise_of}
use Rattle.port_transparency.specs.Gave.{Gave}
use Rattle.port_transparency.proofs.Gave.{gave_done}
use Rattle.port_transparency.proofs.Covered.{gave_bitwise}
use Rattle.fallback_row.specs.Row.{start_if, over, unfit, over_if, held_back, held_if, driven_by}

-- ---- the void nets
module _ (w : ℕ) (v : Value) (l : Lent) where
  pub start_many : max_merge < w → Gave (start_if w v) l l v
  unfolding start_if
  start_many h = rw (lt-ltb max_merge w h) (gave_done v l)

  pub start_few : (l1 : Lent) (x : Value) → w ≤ max_merge → Gave (add_void_of w) l l1 x → Gave (start_if w v) l l1 x
  unfolding start_if
  start_few l1 x h g = rw (le-ltb max_merge w h) g

-- ---- a write port
module _ (w : ℕ) (mask bits : Value) where
  pub unfit-many : max_merge < w → unfit w mask bits ≡ true
  unfolding unfit
  unfit-many h = rw (lt-ltb max_merge w h)

  pub unfit_mask : w ≤ max_merge → length mask ≢ w → unfit w mask bits ≡ true
  unfolding unfit
  unfit_mask h n = rw (le-ltb max_merge w h, ne_eqb (length mask) w n)

  pub unfit_bits : w ≤ max_merge → length mask ≡ w → length bits ≢ w → unfit w mask bits ≡ true
  unfolding unfit
  unfit_bits h e n = rw (le-ltb max_merge w h, eq-eqb (length mask) w e, ne_eqb (length bits) w n)

  pub fit : w ≤ max_merge → length mask ≡ w → length bits ≡ w → unfit w mask bits ≡ false
  unfolding unfit
  fit h e k = rw (le-ltb max_merge w h, eq-eqb (length mask) w e, eq-eqb (length bits) w k)

  pub over_not : (v : Value) (l : Lent) → unfit w mask bits ≡ true → Gave (over_if w mask bits v) l l v
  unfolding over_if
  over_not v l e = rw e (gave_done v l)

  pub over_does : (v x : Value) (l l1 : Lent) → unfit w mask bits ≡ false → Gave (over mask bits v) l l1 x → Gave (over_if w mask bits v) l l1 x
  unfolding over_if
  over_does v x l l1 e g = rw e g

-- the results go to scratch, and from there over the row
module _ (w : ℕ) (mask bits row row' spare spare' : List ℕ) (l l1 : Lent) (h : w ≤ max_merge) (em : length mask ≡ w) (eb : length bits ≡ w) (rr : max_merge ≤ length row) (rs : max_merge ≤ length spare)
    (er : length (take w row) ≡ w) (es : length (take w spare') ≡ w) where
  pub over_gave : l1 ≡ run (bitwise_of mask bits (take w row)) l → (is_over l1.state ≡ false → spare' ≡ sets spare 0 (bitwise_of mask bits (take w row) l.state.next).value)
      → row' ≡ sets row 0 (take w spare') → Gave (over mask bits (take w row)) l l1 (take w row')
  over_gave q k c =
      subst (λ (x : Value). Gave (over mask bits (take w row)) l l1 x)
      (sym (take_stored row row' (take w spare') w c (sym es) (omega arith)))
      (gave_bitwise w mask bits (take w row) spare spare' l l1 h em eb er rs q k)

-- ---- the flip-flop
module _ (w : ℕ) (clock : Control) (init v q : Value) (l : Lent) where
  pub held-many : max_merge < w → l ≡ run (held_if w clock init v q) l
  unfolding held_if
  held-many h = sym (ap (λ (b : Bool). run (when b then done [] else held_back clock init v q) l) (lt-ltb max_merge w h) ∙ run-done [] l)

  pub held_few : (l1 : Lent) → w ≤ max_merge → l1 ≡ run (held_back clock init v q) l → l1 ≡ run (held_if w clock init v q) l
  unfolding held_if
  held_few l1 h e = e ∙ sym (ap (λ (b : Bool). run (when b then done [] else held_back clock init v q) l) (le-ltb max_merge w h))

-- ---- the outputs
module _ (first w : ℕ) (v : Value) (l : Lent) where
  abbrev driven : Bool → Trace Value
  driven b = when b then done [] else replace_value_of (up_from first w) v

  pub driven-many : max_merge < w → l ≡ run (driven_by first w v) l
  unfolding driven_by
  driven-many h = sym (ap (λ (b : Bool). run (driven (b || ltb max_nets first)) l) (lt-ltb max_merge w h) ∙ run-done [] l)

  pub driven_high : w ≤ max_merge → max_nets < first → l ≡ run (driven_by first w v) l
  unfolding driven_by
  driven_high h n = sym ((λ i. run (driven (le-ltb max_merge w h i || lt-ltb max_nets first n i)) l) ∙ run-done [] l)

  pub driven_few : (l1 : Lent) → w ≤ max_merge → first ≤ max_nets → l1 ≡ run (replace_value_of (up_from first w) v) l → l1 ≡ run (driven_by first w v) l
  unfolding driven_by
  driven_few l1 h n e = e ∙ sym (λ i. run (driven (le-ltb max_merge w h i || le-ltb max_nets first n i)) l)

-- w numbers from `first` on, in scratch
pub fresh_taken : (spare spare' : List ℕ) (first w : ℕ) → spare' ≡ sets spare 0 (up_from first (first + w - first)) → w ≤ length spare → take w spare' ≡ up_from first w
fresh_taken spare spare' first w e h =
    let n : first + w - first ≡ w = omega arith in
    take_stored spare spare' (up_from first w) w (e ∙ ap (λ (k : ℕ). sets spare 0 (up_from first k)) n) (sym (length_up first w)) h

-- ---- the nets of trits
pub length_const : (c : List ℕ) → length (of_const c) ≡ length c
unfolding of_const
length_const c = length-map c net_of_trit

const_at : (c : List ℕ) (i : ℕ) → get_or (of_const c) i (net_of_trit 0) ≡ net_of_trit (get_or c i 0)
unfolding of_const
const_at c i = get_or-map net_of_trit c i 0

module _ (row₀ row : List ℕ) (i : ℕ) (c : List ℕ) (e : row ≡ sets row₀ 0 (take i (of_const c))) where
  pub const_turn : (n : ℕ) → i < length c → n ≡ net_of_trit (get_or c i 0) → set row i n ≡ sets row₀ 0 (take (i + 1) (of_const c))
  const_turn n h f =
      ap (set row i) (f ∙ sym (const_at c i)) ∙ ap (λ (k : ℕ). set row k (get_or (of_const c) i (net_of_trit 0))) (sym (zero-add i))
      ∙ copy_turn row₀ row 0 i (of_const c) e (net_of_trit 0) (omega (arith, length_const c))

  pub const_done : i ≡ min (length row₀) (length c) → row ≡ sets row₀ 0 (of_const c)
  const_done h = copy_done row₀ row 0 i (of_const c) e (omega (arith, h, length_const c))
