-- A struct that holds ports which are not wide, whose memories have one row each: the rows as registers are those of the rules.
use mathlib.Core.Path.{◌≡◌, refl, sym, ap, ◌∙◌, subst}
use Prim.Native.Nat.{ℕ, zero, suc, ◌+◌, ◌*◌, ◌^◌, ◌<◌, ◌≤◌, min}
use native.Mathlib.Nat.{zero-add, one-mul, mul-le-mul_right}
use native.Mathlib.Omega.{arith}
use mathlib.Core.Bool.{Bool, true, ◌&&◌}
use mathlib.Core.List.{List, [], ◌∷◌, map}
use lib.ListN.{length, drop, get_or, length-map, length-take}
use lib.Seq.{get_or-take}
use lib.Dec.{leb}
use borrow.Author.Tests.{le-leb}
use Rattle.lists.specs.Lists.{all, up_from}
use Rattle.lists.proofs.UpFrom.{up_at}
use Rattle.rules.specs.Limits.{max_ports, max_wide, max_unit, max_columns, max_nets}
use Rattle.rules.specs.Cell.{WritePort, write_at}
use Rattle.rules.specs.Ports.{Driving}
use Rattle.rules.specs.Geometry.{Layout, all_mems, columns}
use Rattle.rules.specs.Swizzle.{WideWrite, WideRead}
use Rattle.swizzle_result.specs.declared.WideReadPort.{WideReadPort}
use Rattle.swizzle_result.specs.declared.WideMemory.{WideMemory}
use Rattle.swizzle_result.specs.View.{write_ports_of, read_ports_of, result_of, results_of}
use Rattle.swizzle_result.specs.Held.{HeldWrite, HeldRead, Holds}
use Rattle.swizzle_parts.specs.Parts.{no_read_of, read_port, small_write, small_read, is_small}
use Rattle.fallback_counts.specs.Counts.{Wide, AllWide, OneRow, AllRows}
use Rattle.fallback_rows.proofs.Whole.{Flat}
use Rattle.fallback_flat.proofs.Ports.{no_wides, Fresh, AllFresh}

-- ---- write ports
both_true : (a b : Bool) → a ≡ true → b ≡ true → (a && b) ≡ true
both_true a b e f = λ i. (ap (λ (x : Bool). x && b) e ∙ f) i

module _ (q : Layout) where
  write_small : (k : HeldWrite q) → k.port.split.new ≡ 0 → small_write k.struct ≡ true
  write_small k e = le-leb k.struct.wide max_wide (omega (arith, k.wide_is, e))

  writes_small : {A : Type 0} (ks : List (HeldWrite q)) (l : List A) → map (λ (x : WideWrite). x.split.new) (map (λ (k : HeldWrite q). k.port) ks) ≡ no_wides l → all small_write (map (λ (k : HeldWrite q). k.struct) ks) ≡ true
  writes_small [] l e = refl
  writes_small (k ∷ ks) [] e = absurd (omega (arith, ap length e))
  writes_small (k ∷ ks) (a ∷ l) e =
      both_true (small_write k.struct) _ (write_small k (ap (λ (x : List ℕ). get_or x 0 0) e)) (writes_small ks l (ap (λ (x : List ℕ). drop 1 x) e))

-- ---- read ports
-- a struct's read port: not wide, and its outputs below `top`
pub record FlatRead (columns top : ℕ) (p : WideReadPort) : Type 0 where
  pub wide_none : p.wide ≡ 0
  pub low : p.first + columns ≤ top

module _ (q : Layout) (top : ℕ) (some : 0 < columns q) where
  same_first : (k : HeldRead q) → (f : Fresh q top k.port) → k.struct.first ≡ f.first
  same_first k f =
      let n : 2 ^ k.port.split.new * columns q ≡ columns q = ap (λ (j : ℕ). 2 ^ j * columns q) f.new_none ∙ one-mul (columns q) in
      let e : up_from k.struct.first (columns q) ≡ up_from f.first (columns q) = ap (up_from k.struct.first) (sym n) ∙ sym k.output_is ∙ f.nets_are in
      omega (arith, up_at k.struct.first (columns q) 0 0 some, ap (λ (l : List ℕ). get_or l 0 0) e, up_at f.first (columns q) 0 0 some)

  read_flat : (k : HeldRead q) → Fresh q top k.port → FlatRead (columns q) top k.struct
  read_flat k f = record { wide_none = k.wide_is ∙ f.new_none; low = omega (arith, same_first k f, f.below) }

  cons_fresh : (x : WideRead) (xs : List WideRead) → AllFresh q top (x ∷ xs) → Fresh q top x × AllFresh q top xs
  unfolding AllFresh
  cons_fresh x xs f = f

  reads_flat : (ks : List (HeldRead q)) → AllFresh q top (map (λ (k : HeldRead q). k.port) ks) → (i : ℕ) → i < length ks → FlatRead (columns q) top (get_or (map (λ (k : HeldRead q). k.struct) ks) i no_read_of)
  reads_flat [] f i h = absurd (omega arith)
  reads_flat (k ∷ ks) f zero h = read_flat k (cons_fresh k.port _ f).0
  reads_flat (k ∷ ks) f (suc i) h = reads_flat ks (cons_fresh k.port _ f).1 i (omega arith)

  read_small : (p : WideReadPort) → top ≤ max_nets → FlatRead (columns q) top p → small_read p ≡ true
  read_small p t f = both_true (leb p.wide max_wide) _ (le-leb p.wide max_wide (omega (arith, f.wide_none))) (le-leb p.first max_nets (omega (arith, f.low, t)))

  reads_small : top ≤ max_nets → (ks : List (HeldRead q)) → AllFresh q top (map (λ (k : HeldRead q). k.port) ks) → all small_read (map (λ (k : HeldRead q). k.struct) ks) ≡ true
  reads_small t [] f = refl
  reads_small t (k ∷ ks) f =
      let c = cons_fresh k.port _ f in
      both_true (small_read k.struct) _ (read_small k.struct t (read_flat k c.0)) (reads_small t ks c.1)

-- ---- memories of one row
rows_at : (f : ℕ → Driving) (k a : ℕ) → AllRows (map f (up_from a k)) → (n : ℕ) → n < k → OneRow (f (a + n))
unfolding AllRows
rows_at f zero a r n h = absurd (omega arith)
rows_at f (suc k) a r zero h = subst (λ (i : ℕ). OneRow (f i)) (here a) r.0
  where
    here : (a : ℕ) → a ≡ a + 0
    here a = omega arith
rows_at f (suc k) a r (suc n) h = subst (λ (i : ℕ). OneRow (f i)) (next a n) (rows_at f k (suc a) r.1 n (omega arith))
  where
    next : (a n : ℕ) → suc a + n ≡ a + suc n
    next a n = omega arith

wide_at : (w : ℕ) (ps : List WritePort) → AllWide w ps → (j : ℕ) (d : WritePort) → j < length ps → Wide w (get_or ps j d)
unfolding AllWide
wide_at w [] a j d h = absurd (omega arith)
wide_at w (p ∷ ps) a zero d h = a.0
wide_at w (p ∷ ps) a (suc j) d h = wide_at w ps a.1 j d (omega arith)

-- ---- the struct
module _ (g : WideMemory) (q : Layout) (ws : List (HeldWrite q)) (rs : List (HeldRead q)) (nets trits : List ℕ) (held : Holds g q ws rs nets trits) (top : ℕ) (t : top ≤ max_nets)
    (some : 0 < columns q) (mems-few : all_mems q ≤ max_columns) (unit-few : q.unit ≤ max_unit) (all-columns : columns q ≡ all_mems q * q.unit) {A : Type 0} (l : List A)
    (writes_new : map (λ (x : WideWrite). x.split.new) (map (λ (k : HeldWrite q). k.port) ws) ≡ no_wides l) (fresh : AllFresh q top (map (λ (k : HeldRead q). k.port) rs))
    (w8 : length g.write_ports ≡ max_ports) (r8 : length g.read_ports ≡ max_ports) (own image : List ℕ) (rows : AllRows (results_of g own [] image)) where
  small : is_small g ≡ true
  unfolding is_small
  small =
      both_true (leb g.mems max_columns) _ (le-leb g.mems max_columns (omega (arith, held.sized.mems_are, mems-few)))
      (both_true (leb g.unit max_unit) _ (le-leb g.unit max_unit (omega (arith, held.sized.unit_is, unit-few)))
      (both_true (all small_write (write_ports_of g)) _ (ap (all small_write) held.writes_are ∙ writes_small q ws l writes_new)
      (ap (all small_read) held.reads_are ∙ reads_small q top some t rs fresh)))

  reads_many : length rs ≡ min max_ports g.read_count
  reads_many =
      omega (arith, length-map rs (λ (k : HeldRead q). k.struct), ap length held.reads_are, length-take (min max_ports g.read_count) g.read_ports, r8)

  flat_read : (i : ℕ) → i < min max_ports g.read_count → FlatRead (columns q) top (read_port g i)
  flat_read i h =
      subst (FlatRead (columns q) top)
      (ap (λ (ps : List WideReadPort). get_or ps i no_read_of) (sym held.reads_are) ∙ get_or-take (min max_ports g.read_count) g.read_ports i no_read_of h)
      (reads_flat q top some rs fresh i (omega (arith, reads_many, h)))

  one_row : (n : ℕ) → n < g.mems → OneRow (result_of g own [] image n)
  unfolding results_of
  one_row n h = subst (λ (i : ℕ). OneRow (result_of g own [] image i)) (zero-add n) (rows_at (result_of g own [] image) g.mems 0 rows n h)

  wide : (n j : ℕ) → n < g.mems → j < length (result_of g own [] image n).memory.writes
      → (length (write_at (result_of g own [] image n).memory j).mask ≡ g.unit) × (length (write_at (result_of g own [] image n).memory j).bits ≡ g.unit)
  unfolding write_at
  wide n j h k = wide_at g.unit (result_of g own [] image n).memory.writes (one_row n h).writes j _ k

  last_net : (n : ℕ) → n < g.mems → n * g.unit ≤ columns q
  last_net n h =
      let a : n * g.unit ≤ g.mems * g.unit = mul-le-mul_right g.unit (omega arith) in
      let b : g.mems * g.unit ≡ columns q = (λ i. held.sized.mems_are i * held.sized.unit_is i) ∙ sym all-columns in
      omega (arith, a, b)

  pub flat : Flat g own image
  flat = record {
    small = small;
    writes_8 = w8;
    reads_8 = r8;
    init_row = λ n h. (one_row n h).init;
    lens = wide;
    reads_flat = λ i h. (flat_read i h).wide_none;
    low = λ i n h k. omega (arith, (flat_read i h).low, last_net n k, t);
  }
