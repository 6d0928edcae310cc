-- The walk over an address, in tail form: what is left gives the whole.
use mathlib.Core.Path.{◌≡◌, refl, sym, ap, ◌∙◌, subst}
use Prim.Native.Nat.{ℕ, suc, ◌+◌, ◌*◌, ◌/◌, ◌^◌, ◌<◌, ◌≤◌}
use native.Mathlib.Nat.{zero-add, add_assoc, add-zero, mul-add, mul_assoc, mul_left_comm, mul-one, pow-succ', le_trans, mul-le-mul_left}
use native.Mathlib.Numerals.{add-one}
use native.Mathlib.Omega.{arith}
use lib.Pow.{pow_pos}
use mathlib.Core.List.{List, [], ◌∷◌}
use lib.ListN.{length, drop, get_or, set, drop_of_length-le}
use lib.Seq.{sets, drop-cons}
use Rattle.rules.specs.Log.{flag}
use Rattle.rules.specs.Value.{Value}
use Rattle.rules.specs.Swizzle.{Role, Soft, Wide, Row, High, role_of, is_row, is_chunk, doubles, wide_after, rows_after, roles, row_nets, mux_nets, mux_roles, count_doubles}
use Rattle.swizzle_laws.specs.Masks.{rows_mask}
use Rattle.swizzle_split.specs.declared.Taking.{Taking}
use Rattle.swizzle_split.specs.Steps.{taken, to_row, to_mux, roles_of, Took}

-- ---- one bit
module _ (t : Taking) (a : ℕ) (rs : List Role) (more : Value) where
  row_turn : (r : Role) (hw : List ℕ) → sets (to_row r t a hw) (taken r t).hw (row_nets rs more) ≡ sets hw t.hw (row_nets (r ∷ rs) (a ∷ more))
  unfolding row_nets is_row
  row_turn Soft hw = refl
  row_turn Wide hw = refl
  row_turn Row hw = ap (λ (i : ℕ). sets (set hw t.hw a) i (row_nets rs more)) (add-one t.hw)
  row_turn High hw = refl

  row_count : (r : Role) → (taken r t).hw + length (row_nets rs more) ≡ t.hw + length (row_nets (r ∷ rs) (a ∷ more))
  unfolding row_nets is_row
  row_count Soft = refl
  row_count Wide = refl
  row_count Row = omega arith
  row_count High = refl

  mux_turn : (r : Role) (mux : List ℕ) → sets (to_mux r t a mux) (taken r t).mux (mux_nets rs more) ≡ sets mux t.mux (mux_nets (r ∷ rs) (a ∷ more))
  unfolding mux_nets is_row
  mux_turn Soft mux = ap (λ (i : ℕ). sets (set mux t.mux a) i (mux_nets rs more)) (add-one t.mux)
  mux_turn Wide mux = ap (λ (i : ℕ). sets (set mux t.mux a) i (mux_nets rs more)) (add-one t.mux)
  mux_turn Row mux = refl
  mux_turn High mux = ap (λ (i : ℕ). sets (set mux t.mux a) i (mux_nets rs more)) (add-one t.mux)

  mux_count : (r : Role) → (taken r t).mux + length (mux_nets rs more) ≡ t.mux + length (mux_nets (r ∷ rs) (a ∷ more))
  unfolding mux_nets is_row
  mux_count Soft = omega arith
  mux_count Wide = omega arith
  mux_count Row = refl
  mux_count High = omega arith

  double_count : (r : Role) → (taken r t).doubled + count_doubles rs ≡ t.doubled + count_doubles (r ∷ rs)
  unfolding count_doubles doubles flag
  double_count Soft = omega arith
  double_count Wide = omega arith
  double_count Row = omega arith
  double_count High = omega arith

twice : (w m : ℕ) → 2 * w * m ≡ w * (0 + 2 * m)
twice w m = omega (arith, mul_assoc 2 w m, mul_left_comm w 2 m, ap (λ (k : ℕ). w * k) (zero-add (2 * m)))

once : (w m : ℕ) → w + 2 * w * m ≡ w * (1 + 2 * m)
once w m = omega (arith, mul_assoc 2 w m, mul_left_comm w 2 m, mul-add w 1 (2 * m), mul-one w)

mask_turn : (r : Role) (t : Taking) (rs : List Role)
    → (taken r t).row_mask + (taken r t).weight * rows_mask (mux_roles rs) ≡ t.row_mask + t.weight * rows_mask (mux_roles (r ∷ rs))
unfolding mux_roles is_row rows_mask is_chunk flag
mask_turn Soft t rs = ap (λ (k : ℕ). t.row_mask + k) (twice t.weight (rows_mask (mux_roles rs)))
mask_turn Wide t rs = add_assoc t.row_mask t.weight (2 * t.weight * rows_mask (mux_roles rs)) ∙ ap (λ (k : ℕ). t.row_mask + k) (once t.weight (rows_mask (mux_roles rs)))
mask_turn Row t rs = refl
mask_turn High t rs = ap (λ (k : ℕ). t.row_mask + k) (twice t.weight (rows_mask (mux_roles rs)))

mask_low : (r : Role) (t : Taking) → t.row_mask < t.weight → (taken r t).row_mask < (taken r t).weight
mask_low Soft t h = omega arith
mask_low Wide t h = omega arith
mask_low Row t h = h
mask_low High t h = omega arith

weight_le : (w k m : ℕ) → w * 2 ^ suc k ≤ m → 2 * w * 2 ^ k ≤ m
weight_le w k m h = subst (λ (x : ℕ). x ≤ m) (ap (λ (x : ℕ). w * x) (pow-succ' 2 k) ∙ mul_left_comm w 2 (2 ^ k) ∙ sym (mul_assoc 2 w (2 ^ k))) h

weight_keep : (w k m : ℕ) → w * 2 ^ suc k ≤ m → w * 2 ^ k ≤ m
weight_keep w k m h = omega (arith, weight_le w k m h, mul_assoc 2 w (2 ^ k))

weight_room : (r : Role) (t : Taking) (k m : ℕ) → t.weight * 2 ^ suc k ≤ m → (taken r t).weight * 2 ^ k ≤ m
weight_room Soft t k m h = weight_le t.weight k m h
weight_room Wide t k m h = weight_le t.weight k m h
weight_room Row t k m h = weight_keep t.weight k m h
weight_room High t k m h = weight_le t.weight k m h

pub weight_max : (w k m : ℕ) → w * 2 ^ k ≤ m → w ≤ m
weight_max w k m h = le_trans (subst (λ (x : ℕ). x ≤ w * 2 ^ k) (mul-one w) (mul-le-mul_left w (pow_pos k))) h

taken_left : (r : Role) (t : Taking) (rest : Value) → roles_of (taken r t) rest ≡ roles (t.mask / 2) (wide_after r t.wide) (rows_after r t.rows) rest
unfolding wide_after rows_after
taken_left Soft t rest = refl
taken_left Wide t rest = refl
taken_left Row t rest = refl
taken_left High t rest = refl

roles_cons : (t : Taking) (a : ℕ) (more : Value) (r : Role) → r ≡ role_of t.mask t.wide t.rows → roles_of t (a ∷ more) ≡ r ∷ roles_of (taken r t) more
unfolding roles
roles_cons t a more r e = rw (← e) (ap (λ (l : List Role). r ∷ l) (sym (taken_left r t more)))

counts_low : (r : Role) (t : Taking) (n : ℕ) → t.hw ≤ n → t.mux ≤ n → t.doubled ≤ n → ((taken r t).hw ≤ n + 1) × ((taken r t).mux ≤ n + 1) × ((taken r t).doubled ≤ n + 1)
counts_low Soft t n a b c = (omega arith, omega arith, omega arith)
counts_low Wide t n a b c = (omega arith, omega arith, omega arith)
counts_low Row t n a b c = (omega arith, omega arith, omega arith)
counts_low High t n a b c = (omega arith, omega arith, omega arith)

-- ---- the loop
pub record On (addr hw₀ mux₀ : Value) (t₀ : Taking) (hw mux : Value) (t : Taking) (i : ℕ) : Type 0 where
  pub within : i ≤ length addr
  pub hw_low : t.hw ≤ i
  pub mux_low : t.mux ≤ i
  pub doubled_low : t.doubled ≤ i
  pub rows : sets hw t.hw (row_nets (roles_of t (drop i addr)) (drop i addr)) ≡ sets hw₀ 0 (row_nets (roles_of t₀ addr) addr)
  pub row_count : t.hw + length (row_nets (roles_of t (drop i addr)) (drop i addr)) ≡ length (row_nets (roles_of t₀ addr) addr)
  pub muxes : sets mux t.mux (mux_nets (roles_of t (drop i addr)) (drop i addr)) ≡ sets mux₀ 0 (mux_nets (roles_of t₀ addr) addr)
  pub mux_count : t.mux + length (mux_nets (roles_of t (drop i addr)) (drop i addr)) ≡ length (mux_nets (roles_of t₀ addr) addr)
  pub doubles : t.doubled + count_doubles (roles_of t (drop i addr)) ≡ count_doubles (roles_of t₀ addr)
  pub mask : t.row_mask + t.weight * rows_mask (mux_roles (roles_of t (drop i addr))) ≡ t₀.row_mask + t₀.weight * rows_mask (mux_roles (roles_of t₀ addr))
  pub low : t.row_mask < t.weight
  pub fits : t.weight * 2 ^ length (drop i addr) ≤ 4294967296

module _ (addr hw₀ mux₀ : Value) (t₀ : Taking) (hw mux : Value) (t : Taking) (i : ℕ) (o : On addr hw₀ mux₀ t₀ hw mux t i) (s : length addr ≤ 4294967294) where
  module _ (h : i < length addr) (hw' mux' : Value) (t' : Taking)
      (e : t' ≡ taken (role_of t.mask t.wide t.rows) t)
      (f : hw' ≡ to_row (role_of t.mask t.wide t.rows) t (get_or addr i 0) hw)
      (g : mux' ≡ to_mux (role_of t.mask t.wide t.rows) t (get_or addr i 0) mux) where
    abbrev r : Role
    r = role_of t.mask t.wide t.rows

    abbrev a : ℕ
    a = get_or addr i 0

    abbrev more : Value
    more = drop (i + 1) addr

    cut : drop i addr ≡ a ∷ more
    cut = drop-cons addr i 0 h ∙ ap (λ (n : ℕ). a ∷ drop n addr) (sym (add-one i))

    roles_are : roles_of t (drop i addr) ≡ r ∷ roles_of (taken r t) more
    roles_are = ap (roles_of t) cut ∙ roles_cons t a more r refl

    rest_length : length (drop i addr) ≡ suc (length more)
    rest_length = ap length cut

    low_counts : ((taken r t).hw ≤ i + 1) × ((taken r t).mux ≤ i + 1) × ((taken r t).doubled ≤ i + 1)
    low_counts = counts_low r t i o.hw_low o.mux_low o.doubled_low

    next : On addr hw₀ mux₀ t₀ (to_row r t a hw) (to_mux r t a mux) (taken r t) (i + 1)
    next = record {
      within = omega arith;
      hw_low = low_counts.0;
      mux_low = low_counts.1;
      doubled_low = low_counts.2;
      rows = row_turn t a (roles_of (taken r t) more) more r hw ∙ (λ k. sets hw t.hw (row_nets (sym roles_are k) (sym cut k))) ∙ o.rows;
      row_count = row_count t a (roles_of (taken r t) more) more r ∙ (λ k. t.hw + length (row_nets (sym roles_are k) (sym cut k))) ∙ o.row_count;
      muxes = mux_turn t a (roles_of (taken r t) more) more r mux ∙ (λ k. sets mux t.mux (mux_nets (sym roles_are k) (sym cut k))) ∙ o.muxes;
      mux_count = mux_count t a (roles_of (taken r t) more) more r ∙ (λ k. t.mux + length (mux_nets (sym roles_are k) (sym cut k))) ∙ o.mux_count;
      doubles = double_count t a (roles_of (taken r t) more) more r ∙ (λ k. t.doubled + count_doubles (sym roles_are k)) ∙ o.doubles;
      mask = mask_turn r t (roles_of (taken r t) more) ∙ (λ k. t.row_mask + t.weight * rows_mask (mux_roles (sym roles_are k))) ∙ o.mask;
      low = mask_low r t o.low;
      fits = weight_room r t (length more) 4294967296 (subst (λ (k : ℕ). t.weight * 2 ^ k ≤ 4294967296) rest_length o.fits);
    }

    pub on_turn : On addr hw₀ mux₀ t₀ hw' mux' t' (i + 1)
    on_turn = rw (e, f, g) next

  rest_none : length addr ≤ i → drop i addr ≡ []
  rest_none h = drop_of_length-le addr {i = i} h

  none_row : (v : Value) → v ≡ [] → row_nets (roles_of t v) v ≡ []
  unfolding roles row_nets
  none_row v e = rw e

  none_mux : (v : Value) → v ≡ [] → mux_nets (roles_of t v) v ≡ []
  unfolding roles mux_nets
  none_mux v e = rw e

  none_double : (v : Value) → v ≡ [] → count_doubles (roles_of t v) ≡ 0
  unfolding roles count_doubles
  none_double v e = rw e

  none_mask : (v : Value) → v ≡ [] → rows_mask (mux_roles (roles_of t v)) ≡ 0
  unfolding roles mux_roles rows_mask
  none_mask v e = rw e

  pub on_ends : length addr ≤ i → Took t₀ t addr hw₀ hw mux₀ mux
  on_ends h =
      let d = drop i addr in
      let e = rest_none h in
      record {
        hw_is = sym (ap (sets hw t.hw) (none_row d e)) ∙ o.rows;
        hw_count = sym (ap (λ (v : Value). t.hw + length v) (none_row d e) ∙ add-zero t.hw) ∙ o.row_count;
        mux_is = sym (ap (sets mux t.mux) (none_mux d e)) ∙ o.muxes;
        mux_count = sym (ap (λ (v : Value). t.mux + length v) (none_mux d e) ∙ add-zero t.mux) ∙ o.mux_count;
        doubled_is = sym (ap (λ (n : ℕ). t.doubled + n) (none_double d e) ∙ add-zero t.doubled) ∙ o.doubles;
        mask_is = sym (ap (λ (n : ℕ). t.row_mask + t.weight * n) (none_mask d e) ∙ zeros t.row_mask t.weight) ∙ o.mask;
        mask_low = omega (arith, o.low, weight_max _ _ _ o.fits);
      }
    where
      zeros : (x w : ℕ) → x + w * 0 ≡ x
      zeros x w = omega arith
