-- The ports of a memory that numbers 1 and 2 pass fit each other, and the rules' traces are those of the code.
use mathlib.Core.Path.{◌≡◌, refl, ap, ◌∙◌}
use Prim.Native.Nat.{ℕ, suc, ◌+◌, ◌-◌, ◌*◌, ◌^◌, ◌<◌, ◌≤◌}
use native.Mathlib.Nat.{mul-le-mul, le_refl}
use native.Mathlib.Omega.{arith}
use mathlib.Core.Bool.{Bool, true, false, not}
use mathlib.Core.List.{List, [], ◌∷◌}
use lib.ListN.{length}
use lib.Dec.{eqb, ltb, leb}
use lib.Pow.{pow_mono}
use borrow.Author.Tests.{lt-ltb, le-ltb, le-leb, ltb-false, eqb-true, eq-eqb, not-false}
use Rattle.lists.specs.Choice.{when◌then◌else◌}
use Rattle.lists.specs.Lists.{any}
use Rattle.lists.proofs.Choice.{or_false, cases_le}
use Rattle.lists.proofs.All.{any_at}
use Rattle.rules.specs.Limits.{max_merge}
use Rattle.rules.specs.Value.{Value}
use Rattle.rules.specs.Cell.{WritePort, ReadPort, Mem, wide_log2, write_wide_log2, read_wide_log2, write_at, read_at_of, is_transparent, transparent_from}
use Rattle.rules.specs.Log.{Trace, ◌>>=◌, done}
use Rattle.rules.specs.Conditions.{unequal, bad_data_len, bad_addr_len, bad_write_shape, bad_read_shape, too_few_bits, short_pair}
use Rattle.rules.specs.Ports.{Overlay, transparency_mux, transparencies, seen, seen_wider, seen_narrower}
use Rattle.port_transparency.specs.Pairs.{reading, laid_over, laid_if, like_wide, fitting}
use Rattle.port_overlay.specs.Laid.{laid_by, laid_as, laid_from}

-- ---- what a shape tells
pub record Shaped (width size k : ℕ) : Type 0 where
  pub size_is : size ≡ width * 2 ^ k
  pub few : k ≤ 4

pub shaped : (width size : ℕ) → bad_data_len width size ≡ false → Shaped width size (wide_log2 width size)
unfolding bad_data_len
shaped width size e =
    let x = or_false (not (eqb size (width * 2 ^ wide_log2 width size))) _ e in
    record { size_is = eqb-true _ _ (not-false _ x.0); few = ltb-false 4 _ x.1 }

addr_few : (a : Value) (k : ℕ) → bad_addr_len a k ≡ false → length a ≤ 32
unfolding bad_addr_len
addr_few a k e = omega (arith, ltb-false 32 (length a + k) e)

pub record Writes (m : Mem) (w : WritePort) : Type 0 where
  pub shape : Shaped m.width (length w.bits) (write_wide_log2 m w)
  pub masked : length w.mask ≡ length w.bits
  pub short : length w.addr ≤ 32

pub writes_shaped : (m : Mem) (w : WritePort) → bad_write_shape m w ≡ false → Writes m w
unfolding bad_write_shape write_wide_log2 unequal
writes_shaped m w e =
    let x = or_false (bad_data_len m.width (length w.bits)) _ e in
    let y = or_false (not (eqb (length w.mask) (length w.bits))) _ x.1 in
    record { shape = shaped m.width (length w.bits) x.0; masked = eqb-true _ _ (not-false _ y.0); short = addr_few w.addr _ y.1 }

pub record Reads (m : Mem) (r : ReadPort) : Type 0 where
  pub shape : Shaped m.width r.data_len (read_wide_log2 m r)
  pub short : length r.addr ≤ 32

pub reads_shaped : (m : Mem) (r : ReadPort) → bad_read_shape m r ≡ false → Reads m r
unfolding bad_read_shape read_wide_log2
reads_shaped m r e =
    let x = or_false (bad_data_len m.width r.data_len) _ e in
    let y = or_false (bad_addr_len r.addr (wide_log2 m.width r.data_len)) _ x.1 in
    record { shape = shaped m.width r.data_len x.0; short = addr_few r.addr _ y.0 }

-- ---- sizes
pub size_few : (width size k : ℕ) → width ≤ 128 → Shaped width size k → size ≤ 2048
size_few width size k h s = rw s.size_is (mul-le-mul {n₁ = width} {m₁ = 2 ^ k} {n₂ = 128} {m₂ = 16} h (pow_mono {i = k} {j = 4} s.few))

sizes_up : (width a b x y : ℕ) → Shaped width a x → Shaped width b y → x ≤ y → a ≤ b
sizes_up width a b x y s t h = rw (s.size_is, t.size_is) (mul-le-mul {n₁ = width} {m₁ = 2 ^ x} {n₂ = width} {m₂ = 2 ^ y} (le_refl width) (pow_mono {i = x} {j = y} h))

like_by : (width a b x y : ℕ) → Shaped width a x → Shaped width b y → like_wide x y a b ≡ true
unfolding like_wide
like_by width a b x y s t =
    cases_le y x
    (λ h. ap (λ (c : Bool). when c then leb a b else when ltb y x then leb b a else eqb a b) (le-ltb x y h)
    ∙ cases_le x y
    (λ g. ap (λ (c : Bool). when c then leb b a else eqb a b) (le-ltb y x g) ∙ eq-eqb a b (same g h))
    (λ g. ap (λ (c : Bool). when c then leb b a else eqb a b) (lt-ltb y x g) ∙ le-leb b a (sizes_up width b a y x t s h)))
    (λ h. ap (λ (c : Bool). when c then leb a b else when ltb y x then leb b a else eqb a b) (lt-ltb x y h) ∙ le-leb a b (sizes_up width a b x y s t (under h)))
  where
    same : x ≤ y → y ≤ x → a ≡ b
    same g h = omega (arith, sizes_up width a b x y s t g, sizes_up width b a y x t s h)

    under : x < y → x ≤ y
    under h = omega arith

-- ---- a pair
module _ (m : Mem) (w : WritePort) (r : ReadPort) (ws : Writes m w) (rs : Reads m r) (thin : m.width ≤ 128) (few : too_few_bits (write_wide_log2 m w) (read_wide_log2 m r) w.addr r.addr ≡ false) where
  enough : (ltb (length w.addr) (read_wide_log2 m r - write_wide_log2 m w) ≡ false) × (ltb (length r.addr) (write_wide_log2 m w - read_wide_log2 m r) ≡ false)
  unfolding too_few_bits
  enough = or_false _ _ few

  pub pair_fitting : fitting (write_wide_log2 m w) (read_wide_log2 m r) (length w.addr) (length r.addr) (length w.bits) (length w.mask) r.data_len ≡ true
  unfolding fitting
  pair_fitting =
      rw (no (length w.addr) ws.short, no (length r.addr) rs.short, enough.0, enough.1, most r.data_len (size_few _ _ _ thin rs.shape), most (length w.bits) (size_few _ _ _ thin ws.shape), eq-eqb _ _ ws.masked)
      (like_by m.width (length w.bits) r.data_len (write_wide_log2 m w) (read_wide_log2 m r) ws.shape rs.shape)
    where
      no : (n : ℕ) → n ≤ 32 → ltb max_merge n ≡ false
      no n h = le-ltb max_merge n (omega arith)

      most : (n : ℕ) → n ≤ 2048 → ltb max_merge n ≡ false
      most n h = le-ltb max_merge n (omega arith)

-- ---- the rules' traces
laid_reads : (kw kr : ℕ) (w : WritePort) (r : ReadPort) (o : Overlay) → laid_if kw kr w (reading r.addr r.data_len) o ≡ laid_if kw kr w r o
unfolding laid_if laid_over seen seen_wider seen_narrower
laid_reads kw kr w r o = refl

laid_fit : (kw kr : ℕ) (w : WritePort) (r : ReadPort) (o : Overlay) → fitting kw kr (length w.addr) (length r.addr) (length w.bits) (length w.mask) r.data_len ≡ true → laid_if kw kr w r o ≡ laid_over kw kr w r o
unfolding laid_if
laid_fit kw kr w r o e = ap (λ (b : Bool). when b then laid_over kw kr w r o else done o) e

module _ (m : Mem) (i : ℕ) where
  mux_is : (j : ℕ) (o : Overlay) → laid_over (write_wide_log2 m (write_at m j)) (read_wide_log2 m (read_at_of m i)) (write_at m j) (read_at_of m i) o ≡ transparency_mux m i j o
  unfolding laid_over transparency_mux
  mux_is j o = refl

  module _ (shape : any (bad_write_shape m) m.writes ≡ false) (rs : Reads m (read_at_of m i)) (thin : m.width ≤ 128) where
    abbrev r : ReadPort
    r = read_at_of m i

    abbrev kr : ℕ
    kr = read_wide_log2 m (read_at_of m i)

    at_shaped : (j : ℕ) → j < length m.writes → bad_write_shape m (write_at m j) ≡ false
    unfolding write_at
    at_shaped j h = any_at (bad_write_shape m) m.writes shape j _ h

    short_is : (j : ℕ) → short_pair m r j ≡ false → too_few_bits (write_wide_log2 m (write_at m j)) kr (write_at m j).addr r.addr ≡ false
    unfolding short_pair
    short_is j e = e

    pub laid_is : (j : ℕ) (o : Overlay) → j < length m.writes → short_pair m r j ≡ false → laid_by m kr (reading r.addr r.data_len) j o ≡ transparency_mux m i j o
    unfolding laid_by
    laid_is j o h e =
        laid_reads (write_wide_log2 m (write_at m j)) kr (write_at m j) r o
        ∙ laid_fit (write_wide_log2 m (write_at m j)) kr (write_at m j) r o (pair_fitting m (write_at m j) r (writes_shaped m (write_at m j) (at_shaped j h)) rs thin (short_is j e))
        ∙ mux_is j o

    as_yes : (x j : ℕ) (o : Overlay) → is_transparent x ≡ true → laid_as m kr (reading r.addr r.data_len) x j o ≡ laid_by m kr (reading r.addr r.data_len) j o
    unfolding laid_as
    as_yes x j o e = ap (λ (b : Bool). when b then laid_by m kr (reading r.addr r.data_len) j o else done o) e

    as_no : (x j : ℕ) (o : Overlay) → is_transparent x ≡ false → laid_as m kr (reading r.addr r.data_len) x j o ≡ done o
    unfolding laid_as
    as_no x j o e = ap (λ (b : Bool). when b then laid_by m kr (reading r.addr r.data_len) j o else done o) e

    done_bind : (o : Overlay) (f : Overlay → Trace Overlay) → (done o >>= f) ≡ f o
    unfolding ◌>>=◌ done
    done_bind o f = refl

    -- all of a port's transparent relations
    pub from_is : (j : ℕ) (xs : List ℕ) (o : Overlay) → j + length xs ≤ length m.writes → any (short_pair m r) (transparent_from j xs) ≡ false
        → laid_from m kr (reading r.addr r.data_len) j xs o ≡ transparencies m i (transparent_from j xs) o
    unfolding laid_from transparent_from transparencies
    from_is j [] o h e = refl
    from_is j (x ∷ xs) o h e = on (is_transparent x) refl (λ p q. from_is (suc j) xs p (omega arith) q) e
      where
        on : (b : Bool) → is_transparent x ≡ b
            → ((p : Overlay) → any (short_pair m r) (transparent_from (suc j) xs) ≡ false → laid_from m kr (reading r.addr r.data_len) (suc j) xs p ≡ transparencies m i (transparent_from (suc j) xs) p)
            → any (short_pair m r) (when is_transparent x then j ∷ transparent_from (suc j) xs else transparent_from (suc j) xs) ≡ false
            → (laid_as m kr (reading r.addr r.data_len) x j o >>= λ p. laid_from m kr (reading r.addr r.data_len) (suc j) xs p) ≡ transparencies m i (when is_transparent x then j ∷ transparent_from (suc j) xs else transparent_from (suc j) xs) o
        on true t rest q =
            let z = or_false (short_pair m r j) _ (rw t at q) in
            rw t (λ k. (as_yes x j o t ∙ laid_is j o (omega arith) z.0) k >>= λ p. rest p z.1 k)
        on false t rest q = rw t (ap (λ (u : Trace Overlay). u >>= λ p. laid_from m kr (reading r.addr r.data_len) (suc j) xs p) (as_no x j o t) ∙ done_bind o _ ∙ rest o (rw t at q))
