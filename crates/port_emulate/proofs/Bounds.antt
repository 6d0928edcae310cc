-- A memory without a number is delayed by few nets, whose lists fit the scratch.
use mathlib.Core.Path.{◌≡◌, refl, subst, ◌∙◌}
use Prim.Native.Nat.{ℕ, suc, ◌+◌, ◌*◌, ◌^◌, ◌<◌, ◌≤◌, min}
use native.Mathlib.Nat.{mul-le-mul}
use native.Mathlib.Omega.{arith}
use mathlib.Core.Bool.{Bool, false, not}
use mathlib.Core.List.{List, [], ◌∷◌}
use lib.ListN.{length, length-take, get_or, length-map}
use lib.Pow.{pow_mono}
use lib.Dec.{eqb}
use Rattle.lists.specs.Choice.{when◌then◌else◌, ◌or_else◌}
use Rattle.lists.specs.Lists.{any, pairs, sum_by}
use Rattle.lists.specs.Distinct.{kept, places}
use Rattle.lists.proofs.Choice.{or_false, else_zero}
use Rattle.lists.proofs.All.{any_at}
use Rattle.lists.proofs.Distinct.{length_kept}
use Rattle.lists.proofs.Pairs.{pairs_size}
use Rattle.lists.proofs.Views.{length_views}
use Rattle.rules.specs.Limits.{max_ports, X}
use Rattle.rules.specs.Logic.{is_undef}
use Rattle.rules.specs.Cell.{FlipFlop, WritePort, Mem, new_flip_flop, with_init, is_read_before_write}
use Rattle.rules.specs.Log.{Trace, ◌>>=◌, done, add_dff_of, LogState, start_net}
use Rattle.rules.specs.Merge.{same4, dff_keys, dff_of, spread, add_dedup_dff_of}
use Rattle.rules.specs.Ports.{relates_to, delayed, delay_writes, emulate_read_before_write}
use Rattle.rules.specs.Conditions.{bad_write_shape, bad_shape, unclocked}
use Rattle.rules.specs.Refusals.{mem_number, emulate_number}
use Rattle.rules.proofs.Counted.{AtMost, most_counted, most-done, most_bind, most_if, counted_dff, start_le}
use Rattle.net_memory.specs.declared.Memory.{Memory}
use Rattle.net_memory.specs.Given.{given_of}
use Rattle.net_memory.specs.View.{write_ports_of, write_size, no_trits, write_by, writes_of, reads_start, nets_total, memory_of}
use Rattle.net_check.proofs.Accept.{Valid, valid, exact, sizes}
use Rattle.port_overlay.proofs.Fits.{Shaped, writes_shaped}
use Rattle.port_emulate.specs.Delays.{delays, no_write_of, Fitting}
use Rattle.port_emulate.proofs.Delays.{delays_are}

-- as many write ports as the count says, up to eight
pub writes_by : (m : Memory) → length m.write_ports ≡ 8 → (nets : List ℕ) → length (writes_of m nets) ≡ min max_ports m.write_count
writes_by m e nets = length_views write_size no_trits write_by (write_ports_of m) nets [] ∙ omega (arith, length-take (min max_ports m.write_count) m.write_ports, e)

abbrev pub nets_of : WritePort → ℕ
nets_of p = length p.addr + (length p.bits + (length p.mask + 0))

most_dff : (f : FlipFlop) → AtMost (add_dff_of f) (length f.bits)
most_dff f = most_counted (add_dff_of f) _ _ (counted_dff f)

few_keys : (f : FlipFlop) → length (kept same4 (dff_keys f)) ≤ length f.bits
unfolding dff_keys
few_keys f =
    omega (arith, length_kept same4 [] (pairs (pairs f.bits f.reset_value) (pairs f.clear_value f.init_value)), pairs_size (pairs f.bits f.reset_value) (pairs f.clear_value f.init_value), pairs_size f.bits f.reset_value)

kept_bits : (f : FlipFlop) → length (dff_of f.controls (kept same4 (dff_keys f))).bits ≡ length (kept same4 (dff_keys f))
unfolding dff_of
kept_bits f = length-map (kept same4 (dff_keys f)) _

most_dedup : (f : FlipFlop) → AtMost (add_dedup_dff_of f) (length f.bits)
unfolding add_dedup_dff_of
most_dedup f n =
    let t = add_dff_of (dff_of f.controls (kept same4 (dff_keys f))) in
    omega (arith, most_bind t (λ v. done (spread (places same4 (dff_keys f)) v)) (length (dff_of f.controls (kept same4 (dff_keys f))).bits) 0 (most_dff (dff_of f.controls (kept same4 (dff_keys f)))) (λ k. most-done (spread (places same4 (dff_keys f)) (t k).value) 0) n, kept_bits f, few_keys f)

most-delayed : (allX : Bool) (p : WritePort) → AtMost (delayed allX p) (nets_of p)
unfolding delayed new_flip_flop with_init
most-delayed allX p =
    most_bind (add_dff_of (new_flip_flop p.addr p.clock)) _ (length p.addr) (length p.bits + (length p.mask + 0)) (most_dff (new_flip_flop p.addr p.clock)) (λ a.
    most_bind (add_dff_of (new_flip_flop p.bits p.clock)) _ (length p.bits) (length p.mask + 0) (most_dff (new_flip_flop p.bits p.clock)) (λ b.
    most_bind (add_dedup_dff_of (with_init (new_flip_flop p.mask p.clock) _)) _ (length p.mask) 0 (most_dedup (with_init (new_flip_flop p.mask p.clock) _)) (λ c. most-done _ 0)))

pub most-delays : (is : ℕ → Bool) (allX : Bool) (j : ℕ) (ps : List WritePort) → AtMost (delays is allX j ps) (sum_by nets_of ps)
unfolding delays
most-delays is allX j [] n = most-done [] 0 n
most-delays is allX j (p ∷ ps) n =
    let t = when is j then delayed allX p else done p in
    let u = delays is allX (suc j) ps in
    omega (
      arith,
      most_bind t (λ q. (u >>= λ qs. done (q ∷ qs))) (nets_of p) (sum_by nets_of ps + 0) (most_if (is j) (delayed allX p) (done p) (nets_of p) (most-delayed allX p) (most-done p (nets_of p))) (λ i.
          most_bind u (λ qs. done ((t i).value ∷ qs)) (sum_by nets_of ps) 0 (most-delays is allX (suc j) ps) (λ k. most-done ((t i).value ∷ (u k).value) 0)) n,
    )

-- ---- sizes
size_few : (width size k : ℕ) → width ≤ 128 → Shaped width size k → size ≤ 2048
size_few width size k h s = rw s.size_is (mul-le-mul {n₁ = width} {m₁ = 2 ^ k} {n₂ = 128} {m₂ = 16} h (pow_mono {i = k} {j = 4} s.few))

module _ (m : Mem) (thin : m.width ≤ 128) where
  pub record Small (p : WritePort) : Type 0 where
    pub in_addr : length p.addr ≤ 32
    pub in_bits : length p.bits ≤ 2048
    pub in_mask : length p.mask ≡ length p.bits

  small : (p : WritePort) → bad_write_shape m p ≡ false → Small p
  small p e = let s = writes_shaped m p e in record { in_addr = s.short; in_bits = size_few _ _ _ thin s.shape; in_mask = s.masked }

  few : (ws : List WritePort) → any (bad_write_shape m) ws ≡ false → sum_by nets_of ws ≤ length ws * 4128
  few [] e = omega arith
  few (p ∷ ps) e =
      let x = or_false (bad_write_shape m p) (any (bad_write_shape m) ps) e in
      let s = small p x.0 in
      step (length p.addr) (length p.bits) (length p.mask) (sum_by nets_of ps) (length ps) s.in_addr s.in_bits s.in_mask (few ps x.1)
    where
      step : (a b k r n : ℕ) → a ≤ 32 → b ≤ 2048 → k ≡ b → r ≤ n * 4128 → a + (b + (k + 0)) + r ≤ suc n * 4128
      step a b k r n p q e h = omega arith

  pub fitting : any (bad_write_shape m) m.writes ≡ false → Fitting m.writes
  fitting e i h =
      let s = small (get_or m.writes i no_write_of) (any_at (bad_write_shape m) m.writes e i no_write_of h) in
      record { short = omega (arith, s.in_addr); few = omega (arith, s.in_bits); masked = s.in_mask }

  pub below : any (bad_write_shape m) m.writes ≡ false → length m.writes ≤ 8 → (s : LogState) → (emulate_read_before_write m (start_net s)).next < X
  unfolding emulate_read_before_write ◌>>=◌ done
  below e h s =
      under (start_net s) (delay_writes m 0 m.writes (start_net s)).next (sum_by nets_of m.writes) (length m.writes) (start_le s)
      (subst (λ (t : Trace (List WritePort)). (t (start_net s)).next ≤ start_net s + sum_by nets_of m.writes) (delays_are m 0 m.writes) (most-delays (relates_to is_read_before_write m) (is_undef m.init) 0 m.writes (start_net s)))
      (few m.writes e) h
    where
      under : (n x r k : ℕ) → n ≤ 16777216 → x ≤ n + r → r ≤ k * 4128 → k ≤ 8 → x < X
      under n x r k a b c d = omega arith

-- ---- a memory without a number
module _ (next : ℕ) (m : Memory) (nets trits : List ℕ) (z : (emulate_number next (given_of m nets trits) or_else (when any unclocked (memory_of m nets trits).reads then 22 else 0)) ≡ 0) where
  mem_zero : mem_number false false false next (given_of m nets trits) ≡ 0
  unfolding emulate_number
  mem_zero = (else_zero (mem_number false false false next (given_of m nets trits)) _ (else_zero (emulate_number next (given_of m nets trits)) _ z).0).0

  abbrev v : Valid false false false next m nets trits
  v = valid false false false next m nets trits mem_zero

  width_is : m.width ≡ (memory_of m nets trits).width
  unfolding memory_of
  width_is = refl

  pub thin_is : (memory_of m nets trits).width ≤ 128
  thin_is = omega (arith, width_is, (sizes v).width_ok)

  pub shapes : any (bad_write_shape (memory_of m nets trits)) (memory_of m nets trits).writes ≡ false
  unfolding bad_shape
  shapes = (or_false _ _ (or_false (not (eqb (length (memory_of m nets trits).init) ((memory_of m nets trits).depth * (memory_of m nets trits).width))) _ v.shape_not).1).0

  pub fits_all : Fitting (writes_of m nets)
  unfolding memory_of
  fits_all = fitting (memory_of m nets trits) thin_is shapes

  pub nets_there : reads_start m ≤ length nets
  unfolding nets_total
  nets_there = omega (arith, (exact v).nets_exact)
