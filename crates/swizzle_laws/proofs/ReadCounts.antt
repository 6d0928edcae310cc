-- What a read port adds to the log: the numbers of `read_count_of`, wherever it starts.
use mathlib.Core.Path.{◌≡◌, refl, sym, ap, ◌∙◌}
use Prim.Native.Nat.{ℕ, zero, suc, ◌+◌, ◌-◌, ◌*◌, ◌/◌, ◌^◌, ◌≤◌, ◌<◌}
use native.Mathlib.Nat.{zero-mul, suc-mul, pow-succ', pow-le-pow_right}
use native.Mathlib.Omega.{arith}
use mathlib.Core.Bool.{Bool, true, false}
use mathlib.Core.Option.{Option, none, some}
use mathlib.Core.List.{List, [], ◌∷◌, ◌++◌, map}
use lib.ListN.{length, set, length-append, length-map, length-set, length-replicate}
use lib.Dec.{eqb}
use borrow.Author.Tests.{eqb-true}
use Rattle.lists.specs.Lists.{up_from}
use Rattle.lists.specs.Choice.{when◌then◌else◌}
use Rattle.lists.proofs.UpFrom.{length_up}
use Rattle.rules.specs.Limits.{None, addr_bits}
use Rattle.rules.specs.Numbers.{top_bits, bits_for}
use Rattle.rules.specs.Logic.{undef}
use Rattle.rules.specs.Value.{Value, x_nets, zext}
use Rattle.rules.specs.Cell.{ReadFlipFlop, ReadPort, new_flip_flop, with_enable}
use Rattle.rules.specs.Log.{Trace, ◌>>=◌, ◌>>◌, done, add_void_of, add_dff_of, replace_value_of}
use Rattle.rules.specs.Beside.Chain.{Chains}
use Rattle.rules.specs.Geometry.{Layout, columns}
use Rattle.rules.specs.Swizzle.{Split, Role, WideRead, wide_flip_flop, split_by, restore, sources, load_piece, mux_tree, add_voids, clocked_addr, swizzle_read}
use Rattle.rules.specs.Beside.Counts.{plus, times_count, mux_count_of, dff_count, void_count, replace_count, nothing, clocked_count, read_count_of}
use Rattle.rules.proofs.Entries.{value_dff}
use Rattle.rules.proofs.Chain.{chains_done, chains_bind, chains_then, chains_void, chains_dff, chains_replace}
use Rattle.rules.proofs.Counted.{Counted, counted_done, counted_void, counted_dff, counted_replace, counted_same}
use Rattle.swizzle_laws.specs.Cuts.{Sized}
use Rattle.swizzle_laws.proofs.Pairs.{counted_bind, counted_as}
use Rattle.swizzle_laws.proofs.Tree.{chains_tree, length_tree, counted_tree}
use Rattle.swizzle_laws.proofs.Within.{halves}

-- ---- voids
pub chains_voids : (n w : ℕ) → Chains (add_voids n w)
unfolding add_voids
chains_voids zero w = chains_done []
chains_voids (suc n) w = chains_bind _ _ (chains_void w) (λ v. chains_bind _ _ (chains_voids n w) (λ vs. chains_done (v ++ vs)))

pub voids_more : (n w : ℕ) → add_voids (suc n) w ≡ (add_void_of w >>= λ v. (add_voids n w >>= λ vs. done (v ++ vs)))
unfolding add_voids
voids_more n w = refl

pub voids_none : (w : ℕ) → add_voids 0 w ≡ done []
unfolding add_voids
voids_none w = refl

pub counted_voids : (n w : ℕ) → Counted (add_voids n w) (n * 4) (n * w)
counted_voids zero w = rw (voids_none w) (counted_as _ _ _ _ _ (sym (zero-mul 4)) (sym (zero-mul w)) (counted_done []))
counted_voids (suc n) w =
    rw (voids_more n w)
    (counted_as _ _ _ _ _ (omega (arith, suc-mul n 4)) (omega (arith, suc-mul n w))
    (counted_bind (add_void_of w) _ 4 w _ _ (counted_void w)
    (λ m. counted_same (add_voids n w) (λ vs. (add_void_of w m).value ++ vs) _ _ (counted_voids n w))
    (λ v. chains_bind _ _ (chains_voids n w) (λ vs. chains_done (v ++ vs)))))

-- ---- the flip-flop of the mux address
pub chains_clocked : (f : Option ReadFlipFlop) (a : Value) → Chains (clocked_addr f a)
unfolding clocked_addr
chains_clocked none a = chains_done a
chains_clocked (some f) a = chains_dff _

pub length_clocked : (f : Option ReadFlipFlop) (a : Value) (n : ℕ) → length (clocked_addr f a n).value ≡ length a
unfolding clocked_addr done with_enable new_flip_flop
length_clocked none a n = refl
length_clocked (some f) a n = ap length (value_dff _ n) ∙ length_up n (length a)

dff_new : (f : ReadFlipFlop) (a : Value) → Counted (add_dff_of (with_enable (new_flip_flop a f.controls.clock) f.controls.enable)) (13 + 4 * length a) (length a)
unfolding with_enable new_flip_flop undef
dff_new f a = counted_as _ _ _ _ _ (simp length-replicate (omega arith)) refl (counted_dff (with_enable (new_flip_flop a f.controls.clock) f.controls.enable))

pub counted_clocked : (f : Option ReadFlipFlop) (a : Value) → Counted (clocked_addr f a) (clocked_count f (length a)).words (clocked_count f (length a)).nets
unfolding clocked_addr clocked_count nothing dff_count
counted_clocked none a = counted_done a
counted_clocked (some f) a = dff_new f a

-- ---- a piece has the port's data length
pub length_restore : (es v acc : List ℕ) → length (restore es v acc) ≡ length acc
unfolding restore
length_restore [] v acc = refl
length_restore (e ∷ es) [] acc = refl
length_restore (e ∷ es) (a ∷ more) acc = length_restore es more (when eqb e None then acc else set acc e a) ∙ on (eqb e None)
  where
    on : (b : Bool) → length (when b then acc else set acc e a) ≡ length acc
    on true = refl
    on false = length-set acc e a

pub length_piece : (q : Layout) (s : Split) (x : ℕ) (cols : Value) → length (load_piece q s x cols) ≡ 2 ^ s.old * q.width
unfolding load_piece x_nets
length_piece q s x cols = length_restore (sources q s) _ _ ∙ length-replicate _ _

pub sized_map : (w : ℕ) (f : ℕ → Value) → ((x : ℕ) → length (f x) ≡ w) → (l : List ℕ) → Sized w (map f l)
unfolding Sized
sized_map w f h [] = tt
sized_map w f h (x ∷ l) = (h x, sized_map w f h l)

-- ---- bits enough for n pieces
doubled : (m p r : ℕ) → r ≡ 2 * p → m / 2 < p → m < r
doubled m p r q g = omega arith

top_step : (b : Bool) (m t : ℕ) → eqb m 0 ≡ b → m / 2 < 2 ^ t → m < 2 ^ (elim b [ true ↦ 0 | false ↦ suc t ])
top_step true m t e h = omega (arith, eqb-true m 0 e)
top_step false m t e h = doubled m (2 ^ t) _ (pow-succ' 2 t) h

top_enough : (k m : ℕ) → m < 2 ^ k → m < 2 ^ top_bits k m
unfolding top_bits
top_enough zero m h = h
top_enough (suc k) m h = top_step (eqb m 0) m (top_bits k (m / 2)) refl (top_enough k (m / 2) (halves m (2 ^ k) _ (pow-succ' 2 k) h))

pub bits_enough : (n : ℕ) → n ≤ 2 ^ addr_bits → n ≤ 2 ^ bits_for n
unfolding bits_for
bits_enough n h = enough (2 ^ addr_bits) (2 ^ top_bits addr_bits (n - 1)) h (top_enough addr_bits (n - 1))
  where
    enough : (p r : ℕ) → n ≤ p → (n - 1 < p → n - 1 < r) → n ≤ r
    enough p r g f = cases n g f
      where
        cases : (n : ℕ) → n ≤ p → (n - 1 < p → n - 1 < r) → n ≤ r
        cases zero g f = omega arith
        cases (suc n) g f = omega (arith, f (omega arith))

pub length_zext : (v : Value) (n : ℕ) → n ≤ length (zext v n)
unfolding zext
length_zext v n = simp (length-append, length-replicate) (omega arith)

module _ (rs : List Role) (q : Layout) (old new : ℕ) (addr : Value) where
  -- the mux address of a split tells all of its pieces apart
  pub split_enough : (split_by rs q old new addr).pieces ≤ 2 ^ addr_bits → (split_by rs q old new addr).pieces ≤ 2 ^ length (split_by rs q old new addr).mux_addr
  unfolding split_by
  split_enough h = within _ _ _ (bits_enough _ h) (pow-le-pow_right (omega arith) (length_zext _ _))
    where
      within : (a b c : ℕ) → a ≤ b → b ≤ c → a ≤ c
      within a b c f g = omega arith

-- ---- a read port
-- its data is as long as its rows, and so is its output; its mux address tells its pieces apart
pub record Readable (q : Layout) (s : Split) (p : ReadPort) (output : Value) : Type 0 where
  pub rows : p.data_len ≡ 2 ^ s.old * q.width
  pub outputs : length output ≡ p.data_len
  pub some : 0 < s.pieces
  pub few : s.pieces ≤ 2 ^ length s.mux_addr

abbrev pub pieces_of : Layout → Split → Value → List Value
pieces_of q s cols = map (λ x. load_piece q s x cols) (up_from 0 s.pieces)

pub length_pieces : (q : Layout) (s : Split) (cols : Value) → length (pieces_of q s cols) ≡ s.pieces
length_pieces q s cols = length-map (up_from 0 s.pieces) (λ x. load_piece q s x cols) ∙ length_up 0 s.pieces

module _ (q : Layout) (s : Split) (p : ReadPort) (output : Value) (r : Readable q s p output) where
  pieces_sized : (cols : Value) → Sized p.data_len (pieces_of q s cols)
  pieces_sized cols = sized_map p.data_len (λ x. load_piece q s x cols) (λ x. length_piece q s x cols ∙ sym r.rows) (up_from 0 s.pieces)

  counted_pieces : (a cols : Value) → length a ≡ length s.mux_addr
      → Counted (mux_tree a (pieces_of q s cols)) ((s.pieces - 1) * (5 + 2 * p.data_len)) ((s.pieces - 1) * p.data_len)
  counted_pieces a cols e =
      let n = length_pieces q s cols in
      rw n at (counted_tree p.data_len a (pieces_of q s cols) (pieces_sized cols) (rw n r.some) (rw (n, e) r.few))

  length_pieced : (a cols : Value) (n : ℕ) → length (mux_tree a (pieces_of q s cols) n).value ≡ p.data_len
  length_pieced a cols n = length_tree p.data_len a (pieces_of q s cols) n (pieces_sized cols) (rw (length_pieces q s cols) r.some)

  -- the steps from the last one back
  abbrev result : Value → WideRead
  result v = record { split = s; flip_flop = wide_flip_flop q s p.flip_flop; output = v }

  abbrev lastly : Value → Value → Trace WideRead
  lastly v t = replace_value_of output t >> done (result v)

  abbrev muxed : Value → Value → Trace WideRead
  muxed v a = mux_tree a (pieces_of q s v) >>= lastly v

  abbrev clocked : Value → Trace WideRead
  clocked v = clocked_addr p.flip_flop s.mux_addr >>= muxed v

  pub read_steps : swizzle_read q s p output ≡ (add_voids (2 ^ s.new) (columns q) >>= clocked)
  unfolding swizzle_read
  read_steps = refl

  chains_last : (v t : Value) → Chains (lastly v t)
  chains_last v t = chains_then (replace_value_of output t) (done (result v)) (chains_replace output t) (chains_done (result v))

  chains_muxed : (v a : Value) → Chains (muxed v a)
  chains_muxed v a = chains_bind _ _ (chains_tree a (pieces_of q s v)) (chains_last v)

  chains_after : (v : Value) → Chains (clocked v)
  chains_after v = chains_bind _ _ (chains_clocked p.flip_flop s.mux_addr) (chains_muxed v)

  counted_last : (v t : Value) → length t ≡ p.data_len → Counted (lastly v t) (4 + 2 * p.data_len) 0
  unfolding ◌>>◌
  counted_last v t e =
      counted_as _ _ _ _ _ (omega (arith, r.outputs)) refl
      (counted_bind (replace_value_of output t) (λ x. done (result v)) _ _ 0 0 (counted_replace output t) (λ n. counted_done (result v)) (λ a. chains_done (result v)))

  abbrev muxes : ℕ
  muxes = s.pieces - 1

  counted_muxed : (v a : Value) → length a ≡ length s.mux_addr → Counted (muxed v a) (muxes * (5 + 2 * p.data_len) + (4 + 2 * p.data_len)) (muxes * p.data_len + 0)
  counted_muxed v a e =
      counted_bind (mux_tree a (pieces_of q s v)) (lastly v) _ _ _ _ (counted_pieces a v e) (λ n. counted_last v _ (length_pieced a v n)) (chains_last v)

  counted_after : (v : Value) → Counted (clocked v) ((clocked_count p.flip_flop (length s.mux_addr)).words + (muxes * (5 + 2 * p.data_len) + (4 + 2 * p.data_len)))
      ((clocked_count p.flip_flop (length s.mux_addr)).nets + (muxes * p.data_len + 0))
  counted_after v =
      counted_bind (clocked_addr p.flip_flop s.mux_addr) (muxed v) _ _ _ _ (counted_clocked p.flip_flop s.mux_addr) (λ n. counted_muxed v _ (length_clocked p.flip_flop s.mux_addr n)) (chains_muxed v)

  -- the counts of the rules are those of the trace
  pub counted_read : Counted (swizzle_read q s p output) (read_count_of q s p).words (read_count_of q s p).nets
  unfolding read_count_of plus times_count void_count mux_count_of replace_count
  counted_read =
      rw read_steps
      (counted_bind (add_voids (2 ^ s.new) (columns q)) clocked (2 ^ s.new * 4) (2 ^ s.new * columns q) _ _ (counted_voids (2 ^ s.new) (columns q)) (λ n. counted_after _) chains_after)
