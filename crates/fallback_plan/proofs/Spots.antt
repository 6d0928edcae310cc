-- The split of an address by the plan of a fallback: every bit tells chunks apart, so piece x of old row j starts at row j + 2^k × x.
use mathlib.Core.Path.{◌≡◌, refl, sym, ap, ◌∙◌, subst}
use Prim.Native.Nat.{ℕ, zero, suc, ◌+◌, ◌-◌, ◌*◌, ◌/◌, ◌%◌, ◌^◌, ◌<◌, ◌≤◌}
use native.Mathlib.Nat.{pow-succ', zero-mul, zero-add, mod-one, mod-eq_of_lt}
use native.Mathlib.Omega.{arith}
use lib.Arith.{mod-mul}
use lib.Pow.{pow_pos}
use mathlib.Core.Bool.{Bool, true, false, ◌&&◌}
use mathlib.Core.List.{List, [], ◌∷◌, ◌++◌}
use lib.ListN.{length, replicate}
use lib.Dec.{eqb}
use borrow.Author.Tests.{eq-eqb}
use Rattle.lists.specs.Choice.{when◌then◌else◌}
use Rattle.lists.specs.Lists.{all}
use Rattle.lists.proofs.Choice.{and_true}
use Rattle.rules.specs.Numbers.{softs, bits_for}
use Rattle.rules.specs.Value.{Value}
use Rattle.rules.specs.Geometry.{Layout, Spot, under, row_len_of, all_chunks, columns}
use Rattle.rules.specs.Swizzle.{Role, Soft, Wide, High, role_of, is_chunk, is_row, wide_after, rows_after, roles, low_roles, mux_roles, spot_by, Split, count_doubles, split_by, split_addr, piece_start}
use Rattle.fallback_plan.proofs.Numbers.{half_ones}

abbrev pub Chunks : List Role → Type 0
Chunks rs = all is_chunk rs ≡ true

-- ---- a number is its own chunk where all bits are
halves : (x n : ℕ) → x % 2 + 2 * (x / 2 % 2 ^ n) ≡ x % 2 ^ suc n
halves x n =
    let e : x % (2 ^ n * 2) ≡ (x / 2 % 2 ^ n) * 2 + x % 2 = mod-mul x (pow_pos n) (omega arith) in
    omega (arith, e) ∙ ap (λ (k : ℕ). x % k) (two_last n)
  where
    two_last : (n : ℕ) → 2 ^ n * 2 ≡ 2 ^ suc n
    two_last n = omega (arith, pow-succ' 2 n)

under_true : (x n : ℕ) (p : Spot) → (p.row ≡ 0) × (p.chunk ≡ x / 2 % 2 ^ n) → ((under true (x % 2) p).row ≡ 0) × ((under true (x % 2) p).chunk ≡ x % 2 ^ suc n)
unfolding under
under_true x n p h = (h.0, ap (λ (c : ℕ). x % 2 + 2 * c) h.1 ∙ halves x n)

under_chunk : (b : Bool) (x n : ℕ) (p : Spot) → b ≡ true → (p.row ≡ 0) × (p.chunk ≡ x / 2 % 2 ^ n) → ((under b (x % 2) p).row ≡ 0) × ((under b (x % 2) p).chunk ≡ x % 2 ^ suc n)
under_chunk b x n p e h = subst (λ (t : Bool). ((under t (x % 2) p).row ≡ 0) × ((under t (x % 2) p).chunk ≡ x % 2 ^ suc n)) (sym e) (under_true x n p h)

pub spot_chunks : (rs : List Role) → Chunks rs → (x : ℕ) → ((spot_by rs x).row ≡ 0) × ((spot_by rs x).chunk ≡ x % 2 ^ length rs)
unfolding spot_by
spot_chunks [] c x = (refl, sym (mod-one x))
spot_chunks (r ∷ rs) c x =
    let o = and_true (is_chunk r) (all is_chunk rs) c in
    under_chunk (is_chunk r) x (length rs) (spot_by rs (x / 2)) o.0 (spot_chunks rs o.1 (x / 2))

-- ---- the roles
chosen : (b : Bool) → is_chunk (when b then Soft else High) ≡ true
unfolding is_chunk
chosen true = refl
chosen false = refl

pub wide_none : (b : Bool) → wide_after (when b then Soft else High) 0 ≡ 0
unfolding wide_after
wide_none true = refl
wide_none false = refl

pub rows_none : (b : Bool) → rows_after (when b then Soft else High) 0 ≡ 0
unfolding rows_after
rows_none true = refl
rows_none false = refl

pub roles_chunks : (addr : Value) (mask : ℕ) → Chunks (roles mask 0 0 addr)
unfolding roles role_of
roles_chunks [] mask = refl
roles_chunks (a ∷ more) mask =
    (λ i. chosen (eqb (mask % 2) 1) i && all is_chunk (roles (mask / 2) (wide_none (eqb (mask % 2) 1) i) (rows_none (eqb (mask % 2) 1) i) more))
    ∙ roles_chunks more (mask / 2)

soft_chunk : is_chunk Soft ≡ true
unfolding is_chunk
soft_chunk = refl

pub low_chunks : (old k : ℕ) → old ≤ k → Chunks (low_roles old (2 ^ k - 1))
unfolding low_roles
low_chunks zero k h = refl
low_chunks (suc old) zero h = absurd (omega arith)
low_chunks (suc old) (suc k) h =
    let o = half_ones k (2 ^ suc k - 1) refl in
    (λ i. is_chunk (when eq-eqb ((2 ^ suc k - 1) % 2) 1 o.0 i then Soft else Wide) && all is_chunk (low_roles old (o.1 i)))
    ∙ (λ i. soft_chunk i && all is_chunk (low_roles old (2 ^ k - 1))) ∙ low_chunks old k (omega arith)

high_chunk : is_chunk High ≡ true
unfolding is_chunk
high_chunk = refl

highs_chunks : (n : ℕ) → Chunks (replicate n High)
highs_chunks zero = refl
highs_chunks (suc n) = (λ i. high_chunk i && all is_chunk (replicate n High)) ∙ highs_chunks n

append_chunks : (a b : List Role) → Chunks a → Chunks b → Chunks (a ++ b)
append_chunks [] b ca cb = cb
append_chunks (r ∷ a) b ca cb =
    let o = and_true (is_chunk r) (all is_chunk a) ca in
    (λ i. o.0 i && all is_chunk (a ++ b)) ∙ append_chunks a b o.1 cb

mux_chunks : (rs : List Role) → Chunks rs → Chunks (mux_roles rs)
unfolding mux_roles
mux_chunks [] c = refl
mux_chunks (r ∷ rs) c =
    let o = and_true (is_chunk r) (all is_chunk rs) c in
    picked (is_row r) r (mux_roles rs) o.0 (mux_chunks rs o.1)
  where
    picked : (b : Bool) (r : Role) (l : List Role) → is_chunk r ≡ true → Chunks l → Chunks (when b then l else r ∷ l)
    picked true r l e h = h
    picked false r l e h = (λ i. e i && all is_chunk l) ∙ h

-- ---- a split with no address bits, soft bits up to k, and an old wide log of k at most
module _ (q : Layout) (k old : ℕ) (addr : Value) (hard : q.hard ≡ 0) (mask : q.soft_mask ≡ 2 ^ k - 1) (low : old ≤ k) where
  abbrev s : Split
  s = split_addr q old 0 addr

  wide_0 : 0 - (old - softs old q.soft_mask) ≡ 0
  wide_0 = omega arith

  rows_0 : q.hard - 0 ≡ 0
  rows_0 = omega (arith, hard)

  abbrev rs : List Role
  rs = roles (q.soft_mask / 2 ^ old) (0 - (old - softs old q.soft_mask)) (q.hard - 0) addr

  roles_0 : Chunks rs
  roles_0 = (λ i. all is_chunk (roles (q.soft_mask / 2 ^ old) (wide_0 i) (rows_0 i) addr)) ∙ roles_chunks addr (q.soft_mask / 2 ^ old)

  low_0 : Chunks (low_roles old q.soft_mask)
  low_0 = ap (λ (m : ℕ). all is_chunk (low_roles old m)) mask ∙ low_chunks old k low

  pub pieces_chunks : Chunks s.piece_roles
  unfolding split_addr split_by
  pieces_chunks =
      let n = bits_for (all_chunks q * 2 ^ count_doubles rs) in
      append_chunks (low_roles old q.soft_mask ++ mux_roles rs) (replicate n High) (append_chunks (low_roles old q.soft_mask) (mux_roles rs) low_0 (mux_chunks rs roles_0)) (highs_chunks n)

  old_is : s.old ≡ old
  unfolding split_addr split_by
  old_is = refl

  -- piece x of old row j is row j + 2^k × x
  pub starts_at : (x j : ℕ) → j + 2 ^ old * x < 2 ^ length s.piece_roles → piece_start q s x j ≡ (j + 2 ^ old * x) * row_len_of q
  unfolding piece_start
  starts_at x j h =
      let p = spot_chunks s.piece_roles pieces_chunks (j + 2 ^ s.old * x) in
      let n : j + 2 ^ s.old * x ≡ j + 2 ^ old * x = ap (λ (o : ℕ). j + 2 ^ o * x) old_is in
      (λ i. p.0 i * columns q + p.1 i * row_len_of q)
      ∙ ap (λ (r : ℕ). r + (j + 2 ^ s.old * x) % 2 ^ length s.piece_roles * row_len_of q) (zero-mul (columns q)) ∙ zero-add _
      ∙ ap (λ (m : ℕ). m % 2 ^ length s.piece_roles * row_len_of q) n ∙ ap (λ (m : ℕ). m * row_len_of q) (mod-eq_of_lt h)
