-- The whole split: from the walk over an address to the rules' split.
use mathlib.Core.Path.{◌≡◌, refl, sym, ap, ◌∙◌, subst}
use Prim.Native.Nat.{ℕ, ◌+◌, ◌-◌, ◌*◌, ◌/◌, ◌%◌, ◌^◌, ◌<◌, ◌≤◌}
use native.Mathlib.Nat.{mul_assoc, pow-le-pow_right, le_trans, mul-le-mul, mul-le-mul_left}
use native.Mathlib.Omega.{arith}
use lib.Pow.{pow-add}
use mathlib.Core.Bool.{Bool, true, false}
use mathlib.Core.List.{List, [], ◌∷◌, ◌++◌}
use lib.ListN.{length, replicate, length-append, length-replicate}
use lib.Seq.{sets}
use lib.Dec.{eqb, ltb}
use borrow.Author.Tests.{ltb-true}
use Rattle.lists.specs.Choice.{when◌then◌else◌}
use Rattle.lists.proofs.Store.{sets_at}
use Rattle.rules.specs.Limits.{addr_bits}
use Rattle.rules.specs.Numbers.{softs, bits_for}
use Rattle.rules.specs.Log.{flag}
use Rattle.rules.specs.Value.{Value, zext}
use Rattle.rules.specs.Geometry.{Layout, all_chunks, soft, soft_bits}
use Rattle.rules.specs.Swizzle.{Role, Soft, Wide, Row, High, role_of, doubles, wide_after, rows_after, roles, low_roles, row_nets, mux_nets, count_doubles, split_by, split_addr}
use Rattle.swizzle_laws.specs.Masks.{rows_mask}
use Rattle.swizzle_laws.proofs.Masking.{rows_below}
use Rattle.swizzle_laws.proofs.Within.{softs_of, soft-roles, roles_cons}
use Rattle.swizzle_laws.proofs.Places.{softs_add, softs_mono, length_low, length_roles}
use Rattle.swizzle_split.specs.declared.Taking.{Taking}
use Rattle.swizzle_split.specs.Steps.{start_by, Starts, Took, Fits, Splits}

-- ---- where the walk starts
pub starts_is : (mask hard old new : ℕ) (addr : Value) → old + length addr ≤ 32 → Starts (start_by mask hard old new) addr
starts_is mask hard old new addr h = record {
  hw_none = refl;
  mux_none = refl;
  doubled_none = refl;
  short = omega arith;
  fits = subst (λ (n : ℕ). n ≤ 4294967296) (pow-add 2 old (length addr)) (pow-le-pow_right (omega arith) h);
  low = subst (λ (n : ℕ). rows_mask (low_roles old mask) < 2 ^ n) (length_low old mask) (rows_below (low_roles old mask));
}

-- ---- how many bits double the pieces
wide_some : (mask wide rows : ℕ) → role_of mask wide rows ≡ Wide → 0 < wide
unfolding role_of
wide_some mask wide rows e = on (eqb (mask % 2) 1) (ltb 0 wide) (ltb 0 rows) refl e
  where
    on : (a b c : Bool) → ltb 0 wide ≡ b → (when a then Soft else when b then Wide else when c then Row else High) ≡ Wide → 0 < wide
    on true b c q f = let z : ◌≡◌ {A = ℕ} 0 1 = cc in absurd (omega arith)
    on false true c q f = ltb-true 0 wide q
    on false false true q f = let z : ◌≡◌ {A = ℕ} 0 1 = cc in absurd (omega arith)
    on false false false q f = let z : ◌≡◌ {A = ℕ} 0 1 = cc in absurd (omega arith)

doubles-step : (r : Role) (mask wide rows : ℕ) (rs : List Role) → role_of mask wide rows ≡ r → count_doubles rs ≤ softs_of rs + wide_after r wide → count_doubles (r ∷ rs) ≤ softs_of (r ∷ rs) + wide
unfolding count_doubles doubles flag softs_of wide_after
doubles-step Soft mask wide rows rs e h = omega (arith, h)
doubles-step Wide mask wide rows rs e h = omega (arith, h, wide_some mask wide rows e)
doubles-step Row mask wide rows rs e h = omega (arith, h)
doubles-step High mask wide rows rs e h = omega (arith, h)

doubles_none : (mask wide rows : ℕ) → count_doubles (roles mask wide rows []) ≤ softs_of (roles mask wide rows []) + wide
unfolding roles count_doubles softs_of
doubles_none mask wide rows = omega arith

doubles_le : (addr : Value) (mask wide rows : ℕ) → count_doubles (roles mask wide rows addr) ≤ softs_of (roles mask wide rows addr) + wide
doubles_le [] mask wide rows = doubles_none mask wide rows
doubles_le (a ∷ more) mask wide rows =
    let r = role_of mask wide rows in
    rw (roles_cons mask wide rows a more) (doubles-step r mask wide rows _ refl (doubles_le more (mask / 2) (wide_after r wide) (rows_after r rows)))

count_one : (r : Role) → flag (doubles r) ≤ 1
unfolding doubles flag
count_one Soft = omega arith
count_one Wide = omega arith
count_one Row = omega arith
count_one High = omega arith

count_le : (l : List Role) → count_doubles l ≤ length l
unfolding count_doubles
count_le [] = omega arith
count_le (r ∷ l) = omega (arith, count_one r, count_le l)

-- ---- a value filled up with net 0
zext_stored : (l l1 l2 v : Value) (len want : ℕ) → l1 ≡ sets l 0 v → len ≡ length v → l2 ≡ sets l1 len (replicate (want - len) 0) → l2 ≡ sets l 0 (zext v want)
unfolding zext
zext_stored l l1 l2 v len want e f g =
    g ∙ ap (λ (x : Value). sets x len (replicate (want - len) 0)) e ∙ sets_at l 0 len v (replicate (want - len) 0) (f ∙ sym (zero+ (length v)))
    ∙ ap (λ (n : ℕ). sets l 0 (v ++ replicate (want - n) 0)) f
  where
    zero+ : (n : ℕ) → 0 + n ≡ n
    zero+ n = omega arith

zext_length : (v : Value) (len want : ℕ) → len ≡ length v → len + (want - len) ≡ length (zext v want)
unfolding zext
zext_length v len want e = omega (arith, e, length-append v (replicate (want - length v) 0), length-replicate {A = ℕ} (want - length v) 0)

module _ (q : Layout) (old new : ℕ) (addr : Value) (f : Fits q old new (length addr)) where
  abbrev mask : ℕ
  mask = q.soft_mask

  abbrev rs : List Role
  rs = roles (mask / 2 ^ old) (new - (old - softs old mask)) (q.hard - new) addr

  doubles_low : count_doubles rs ≤ soft q + new
  unfolding soft soft_bits
  doubles_low = omega (arith, doubles_le addr (mask / 2 ^ old) (new - (old - softs old mask)) (q.hard - new), soft-roles addr (mask / 2 ^ old) (new - (old - softs old mask)) (q.hard - new), softs_add old (length addr) mask, softs_mono (old + length addr) addr_bits mask f.short)

  -- 2^19 pieces at most
  pub pieces_low : all_chunks q * 2 ^ count_doubles rs ≤ 524288
  pieces_low =
      le_trans (mul-le-mul_left (all_chunks q) (pow-le-pow_right (omega arith) doubles_low))
      (subst (λ (n : ℕ). n ≤ 524288) (mul_assoc (all_chunks q) (2 ^ soft q) (2 ^ new) ∙ ap (λ (n : ℕ). all_chunks q * n) (sym (pow-add 2 (soft q) new)))
      (le_trans (mul-le-mul {n₁ = all_chunks q * 2 ^ soft q} {m₁ = 2 ^ new} {n₂ = 32768} {m₂ = 16} f.few (pow-le-pow_right {n = 2} (omega arith) {i = new} {j = 4} f.new_max)) (omega arith)))

  module _ (t : Taking) (hw hw1 hw2 mux mux1 mux2 : Value) (took : Took (start_by mask q.hard old new) t addr hw hw1 mux mux1) (chunks power pieces : ℕ)
      (ec : chunks ≡ all_chunks q) (ep : power ≡ 2 ^ t.doubled) (en : pieces ≡ chunks * power) where
    counted : chunks * power ≡ all_chunks q * 2 ^ count_doubles rs
    counted = λ i. ec i * (ep ∙ ap (λ (k : ℕ). 2 ^ k) took.doubled_is) i

    pub pieces_fit_lem : chunks * power ≤ 524288
    pieces_fit_lem = subst (λ (n : ℕ). n ≤ 524288) (sym counted) pieces_low

    pub split_is : (useful hl ml m : ℕ) → useful ≡ bits_for pieces → hl ≡ t.hw + (q.hard - new - t.hw) → hw2 ≡ sets hw1 t.hw (replicate (q.hard - new - t.hw) 0)
        → ml ≡ t.mux + (useful - t.mux) → mux2 ≡ sets mux1 t.mux (replicate (useful - t.mux) 0) → m ≡ 4294967295 - t.row_mask
        → Splits q old new addr hw hw2 mux mux2 (record { old = old; new = new; hw_len = hl; mux_len = ml; pieces = pieces; mask = m })
    unfolding split_addr split_by
    split_is useful hl ml m eu eh fh em fm ek =
        let u : useful ≡ bits_for (all_chunks q * 2 ^ count_doubles rs) = eu ∙ ap bits_for (en ∙ counted) in
        record {
          old_is = refl;
          new_is = refl;
          hw_is = zext_stored hw hw1 hw2 (row_nets rs addr) t.hw (q.hard - new) took.hw_is took.hw_count fh;
          hw_len = eh ∙ zext_length (row_nets rs addr) t.hw (q.hard - new) took.hw_count;
          mux_is = zext_stored mux mux1 mux2 (mux_nets rs addr) t.mux useful took.mux_is took.mux_count fm ∙ ap (λ (k : ℕ). sets mux 0 (zext (mux_nets rs addr) k)) u;
          mux_len = em ∙ zext_length (mux_nets rs addr) t.mux useful took.mux_count ∙ ap (λ (k : ℕ). length (zext (mux_nets rs addr) k)) u;
          pieces_are = en ∙ counted;
          mask_is = ek ∙ ap (λ (k : ℕ). 4294967295 - k) took.mask_is;
        }

  -- a walk over an address counts no more than its bits
  pub doubled_max : count_doubles rs ≤ 32
  doubled_max = omega (arith, count_le rs, length_roles addr (mask / 2 ^ old) (new - (old - softs old mask)) (q.hard - new), f.short)
