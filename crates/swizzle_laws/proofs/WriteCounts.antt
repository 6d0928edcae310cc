-- The words and nets that a write port of a swizzle adds, in closed form.
use mathlib.Core.Path.{◌≡◌, refl, sym, ap, ◌∙◌}
use Prim.Native.Nat.{ℕ, ◌+◌, ◌*◌}
use native.Mathlib.Nat.{add_assoc, suc-mul, zero-mul}
use native.Mathlib.Omega.{arith}
use mathlib.Core.Bool.{Bool, true, false, ◌&&◌}
use mathlib.Core.List.{List, [], ◌∷◌, map}
use lib.ListN.{length, replicate, length-map}
use lib.Dec.{eqb}
use Rattle.lists.specs.Choice.{when◌then◌else◌}
use Rattle.lists.specs.Lists.{pairs, up_from}
use Rattle.lists.specs.Distinct.{kept}
use Rattle.lists.proofs.UpFrom.{length_up}
use Rattle.lists.proofs.DistinctMap.{Each, each_of, kept_map}
use Rattle.rules.specs.Limits.{X}
use Rattle.rules.specs.Value.{Value, Control, Pos, from_uint}
use Rattle.rules.specs.Cell.{WritePort}
use Rattle.rules.specs.Log.{Trace, ◌>>=◌, done, add_eq_of, add_mux_of}
use Rattle.rules.specs.Merge.{Key2, same2, spread, add_dedup_mux_of}
use Rattle.rules.specs.Ports.{is_empty}
use Rattle.rules.specs.Geometry.{Layout}
use Rattle.rules.specs.Swizzle.{Split, sources, repeating, blank, store_piece, piece_mask, mask_pieces, swizzle_write}
use Rattle.rules.specs.Beside.Counts.{Count, plus, nothing, times_count, mux_count_of, eq_count, mask_nets, write_count_of}
use Rattle.rules.proofs.Traces.{bind_words, bind_next}
use Rattle.rules.proofs.Chain.{chains_bind}
use Rattle.rules.proofs.Counted.{Counted, counted_done, counted_same, counted_mux, counted_eq}
use Rattle.rules.proofs.Written.{length_uint}

-- one trace and then the trace of its value, which gives as much whatever the value is
pub counted_bind : {A B : Type 0} (t : Trace A) (f : A → Trace B) (w v k j : ℕ) → Counted t w k → ((a : A) → Counted (f a) v j) → Counted (t >>= f) (w + v) (k + j)
counted_bind t f w v k j c d = record {
  words = λ n. bind_words t f n ∙ (λ i. c.words n i + (d (t n).value).words (t n).next i);
  nets = λ n. bind_next t f n ∙ (d (t n).value).nets (t n).next ∙ ap (λ (m : ℕ). m + j) (c.nets n) ∙ add_assoc n k j;
  chain = chains_bind t f c.chain (λ a. (d a).chain);
}

-- ---- a merging mux against zeros keeps the nets that differ
with_zero : ℕ → Key2
with_zero n = (n, 0)

zero_pairs : (a : Value) → pairs a (replicate (length a) 0) ≡ map with_zero a
unfolding with_zero
zero_pairs [] = refl
zero_pairs (x ∷ a) = ap (λ (r : List Key2). (x, 0) ∷ r) (zero_pairs a)

and_one : (b : Bool) → (b && true) ≡ b
and_one true = refl
and_one false = refl

every : (a : Value) → Each (λ n. Unit) a
every a = each_of (λ n. Unit) a 0 (λ i h. tt)

zero_kept : (a : Value) → kept same2 (map with_zero a) ≡ map with_zero (kept eqb a)
unfolding with_zero
zero_kept a = kept_map (λ n. Unit) eqb same2 (λ n. (n, 0)) (λ x y p q. and_one (eqb x y)) a (every a)

pub length_zero_kept : (a : Value) → length (kept same2 (pairs a (replicate (length a) 0))) ≡ length (kept eqb a)
length_zero_kept a = ap (λ (l : List Key2). length (kept same2 l)) (zero_pairs a) ∙ ap length (zero_kept a) ∙ length-map (kept eqb a) with_zero

pub counted_dedup_mux : (c : Control) (a b : Value) → Counted (add_dedup_mux_of c a b) (5 + 2 * length (kept same2 (pairs a b))) (length (kept same2 (pairs a b)))
unfolding add_dedup_mux_of
counted_dedup_mux c a b =
    let ks = kept same2 (pairs a b) in
    let x = map (λ (k : Key2). k.0) ks in
    let y = map (λ (k : Key2). k.1) ks in
    let e : length x ≡ length ks = length-map ks _ in
    let f : length y ≡ length ks = length-map ks _ in
    let w : 5 + (length x + length y) ≡ 5 + 2 * length ks = omega arith in
    let m = counted_same (add_mux_of c x y) (spread _) _ _ (counted_mux c x y (e ∙ sym f)) in
    record { words = λ n. m.words n ∙ w; nets = λ n. m.nets n ∙ ap (λ (k : ℕ). n + k) e; chain = m.chain }

-- ---- a piece
module _ (s : Split) (mask : Value) where
  -- the words and nets of its merging mux, and its own
  muxed : Bool → Count
  muxed b = when b then nothing else mux_count_of (length (kept eqb mask))

  abbrev each : Count
  each = plus (eq_count (length s.mux_addr)) (muxed (is_empty s.mux_addr))

  counted_muxed : (b : Bool) (e : ℕ) → Counted (when b then done mask else add_dedup_mux_of (Pos e) mask (replicate (length mask) 0)) (muxed b).words (muxed b).nets
  unfolding muxed nothing mux_count_of
  counted_muxed true e = counted_done mask
  counted_muxed false e =
      let c = counted_dedup_mux (Pos e) mask (replicate (length mask) 0) in
      let k = length_zero_kept mask in
      record { words = λ n. c.words n ∙ ap (λ (m : ℕ). 5 + 2 * m) k; nets = λ n. c.nets n ∙ ap (λ (m : ℕ). n + m) k; chain = c.chain }

  counted_piece : (x : ℕ) → Counted (piece_mask s mask x) each.words each.nets
  unfolding piece_mask plus eq_count
  counted_piece x =
      let m = s.mux_addr in
      let c = counted_eq m (from_uint (length m) x) in
      let e : 4 + (length m + length (from_uint (length m) x)) ≡ 4 + 2 * length m = omega (arith, length_uint (length m) x) in
      counted_bind (add_eq_of m (from_uint (length m) x)) _ (4 + 2 * length m) (muxed (is_empty m)).words 1 (muxed (is_empty m)).nets
      (record { words = λ n. c.words n ∙ e; nets = c.nets; chain = c.chain }) (counted_muxed (is_empty m))

  -- pieces in turn
  counted_pieces : (q : Layout) (xs : List ℕ) (cols : Value) → Counted (mask_pieces q s mask xs cols) (length xs * each.words) (length xs * each.nets)
  unfolding mask_pieces
  counted_pieces q [] cols =
      let c = counted_done cols in
      record { words = λ n. c.words n ∙ sym (zero-mul each.words); nets = λ n. c.nets n ∙ ap (λ (m : ℕ). n + m) (sym (zero-mul each.nets)); chain = c.chain }
  counted_pieces q (x ∷ xs) cols =
      let c = counted_bind (piece_mask s mask x) _ each.words (length xs * each.words) each.nets (length xs * each.nets) (counted_piece x) (λ k. counted_pieces q xs (store_piece q s x k cols)) in
      let e = suc-mul (length xs) each.words in
      let f = suc-mul (length xs) each.nets in
      record { words = λ n. c.words n ∙ omega arith; nets = λ n. c.nets n ∙ omega arith; chain = c.chain }

-- ---- a write port
module _ (q : Layout) (s : Split) (p : WritePort) where
  pub counted_write : Counted (swizzle_write q s p) (write_count_of q s p).words (write_count_of q s p).nets
  unfolding swizzle_write write_count_of times_count mask_nets muxed
  counted_write =
      let mask = repeating X (sources q s) p.mask in
      let c = counted_same (mask_pieces q s mask (up_from 0 s.pieces) (blank q s 0)) _ _ _ (counted_pieces s mask q (up_from 0 s.pieces) (blank q s 0)) in
      let e = length_up 0 s.pieces in
      record {
        words = λ n. c.words n ∙ ap (λ (m : ℕ). m * (each s mask).words) e;
        nets = λ n. c.nets n ∙ ap (λ (m : ℕ). n + m * (each s mask).nets) e;
        chain = c.chain;
      }
