-- A memory without flip-flops has the sizes, the shape and the nets of the memory that it comes from.
use mathlib.Core.Path.{◌≡◌, refl, ap}
use Prim.Native.Nat.{ℕ, ◌+◌, ◌*◌, ◌≤◌}
use mathlib.Core.Bool.{Bool, false, not, ◌||◌}
use mathlib.Core.List.{List, [], ◌∷◌, map}
use lib.ListN.{length, length-map}
use lib.Dec.{eqb, ltb}
use Rattle.lists.specs.Lists.{any, sum_by}
use Rattle.lists.proofs.Choice.{or_false, or_both}
use Rattle.rules.specs.Limits.{max_depth, max_width, max_bits, max_ports}
use Rattle.rules.specs.Cell.{WritePort, ReadPort, Mem, write_wide_log2, read_wide_log2, output_len, with_reads, held}
use Rattle.rules.specs.Conditions.{too_large, bad_data_len, bad_addr_len, bad_write_shape, bad_read_shape, bad_shape, indivisible, bad_depth, bad_value, bad_trits, bad_write_nets, bad_read_nets, bad_nets, short_port, short_ports}
use Rattle.port_unmap_all.specs.All.{bare, all_bare}
use Rattle.fallback_pass.proofs.Growth.{bad_value_lem, bad_write}

-- ---- a test of each port
any_still : {A : Type 0} (f g : A → Bool) → ((a : A) → f a ≡ false → g a ≡ false) → (l : List A) → any f l ≡ false → any g l ≡ false
any_still f g h [] e = refl
any_still f g h (a ∷ l) e = let o = or_false (f a) (any f l) e in or_both (h a o.0) (any_still f g h l o.1)

any-bare : (f g : ReadPort → Bool) → ((p : ReadPort) → f p ≡ false → g (bare p) ≡ false) → (l : List ReadPort) → any f l ≡ false → any g (map bare l) ≡ false
any-bare f g h [] e = refl
any-bare f g h (p ∷ l) e = let o = or_false (f p) (any f l) e in or_both (h p o.0) (any-bare f g h l o.1)

none_bare : (g : ReadPort → Bool) → ((p : ReadPort) → g (bare p) ≡ false) → (l : List ReadPort) → any g (map bare l) ≡ false
none_bare g h [] = refl
none_bare g h (p ∷ l) = or_both (h p) (none_bare g h l)

data_bare : (l : List ReadPort) → sum_by (λ (p : ReadPort). p.data_len) (map bare l) ≡ sum_by (λ (p : ReadPort). p.data_len) l
data_bare [] = refl
data_bare (p ∷ l) = ap (λ (n : ℕ). p.data_len + n) (data_bare l)

module _ (m : Mem) where
  -- 1
  pub large_bare : too_large (all_bare m) ≡ too_large m
  unfolding too_large all_bare with_reads
  large_bare = ap (λ (n : ℕ). ltb max_depth m.depth || (ltb max_width m.width || (ltb max_bits (m.depth * m.width) || (ltb max_ports (length m.writes) || ltb max_ports n)))) (length-map m.reads bare)

  -- 2
  write_shape : (p : WritePort) → bad_write_shape m p ≡ false → bad_write_shape (all_bare m) p ≡ false
  unfolding bad_write_shape write_wide_log2 all_bare with_reads
  write_shape p e = e

  read_shape : (p : ReadPort) → bad_read_shape m p ≡ false → bad_read_shape (all_bare m) (bare p) ≡ false
  unfolding bad_read_shape read_wide_log2 held all_bare with_reads
  read_shape p e =
      let a = or_false (bad_data_len m.width p.data_len) _ e in
      let b = or_false (bad_addr_len p.addr _) _ a.1 in
      or_both a.0 (or_both b.0 refl)

  pub shape_bare : bad_shape m ≡ false → bad_shape (all_bare m) ≡ false
  unfolding bad_shape all_bare with_reads
  shape_bare e =
      let a = or_false (not (eqb (length m.init) (m.depth * m.width))) _ e in
      let b = or_false (any (bad_write_shape m) m.writes) _ a.1 in
      or_both a.0 (or_both (any_still (bad_write_shape m) (bad_write_shape (all_bare m)) write_shape m.writes b.0) (any-bare (bad_read_shape m) (bad_read_shape (all_bare m)) read_shape m.reads b.1))

  pub output_bare : output_len (all_bare m) ≡ output_len m
  unfolding output_len all_bare with_reads
  output_bare = data_bare m.reads

  -- 3
  pub depth_bare : bad_depth m ≡ false → bad_depth (all_bare m) ≡ false
  unfolding bad_depth write_wide_log2 read_wide_log2 all_bare with_reads
  depth_bare e =
      let o = or_false (any (λ (p : WritePort). indivisible m.depth (write_wide_log2 m p)) m.writes) _ e in
      or_both o.0 (any-bare (λ (p : ReadPort). indivisible m.depth (read_wide_log2 m p)) (λ (p : ReadPort). indivisible m.depth (read_wide_log2 m p)) (λ p f. f) m.reads o.1)

  -- 4
  module _ (next next' : ℕ) (h : next ≤ next') where
    read_nets_lem : (p : ReadPort) → bad_read_nets next p ≡ false → bad_read_nets next' (bare p) ≡ false
    unfolding bad_read_nets held
    read_nets_lem p e = or_both (bad_value_lem next next' h p.addr (or_false (bad_value next p.addr) _ e).0) refl

    pub nets_bare : bad_nets next m ≡ false → bad_nets next' (all_bare m) ≡ false
    unfolding bad_nets all_bare with_reads
    nets_bare e =
        let a = or_false (bad_trits m.init) _ e in
        let b = or_false (any (bad_write_nets next) m.writes) _ a.1 in
        or_both a.0 (or_both (any_still (bad_write_nets next) (bad_write_nets next') (bad_write next next' h) m.writes b.0) (any-bare (bad_read_nets next) (bad_read_nets next') read_nets_lem m.reads b.1))

  -- 14
  short_none : (v : Mem) (p : ReadPort) → short_port v (bare p) ≡ false
  unfolding short_port held
  short_none v p = refl

  pub short_bare : short_ports (all_bare m) ≡ false
  unfolding short_ports all_bare with_reads
  short_bare = none_bare (short_port (all_bare m)) (short_none (all_bare m)) m.reads
