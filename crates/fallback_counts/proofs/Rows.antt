-- The words and nets of the rows of a fallback.
use mathlib.Core.Path.{◌≡◌, refl, sym, ap, ◌∙◌, subst}
use Prim.Native.Nat.{ℕ, suc, ◌+◌, ◌-◌, ◌*◌, ◌≤◌}
use native.Mathlib.Nat.{suc-mul, zero-mul}
use native.Mathlib.Omega.{arith}
use mathlib.Core.List.{List, [], ◌∷◌}
use lib.ListN.{length, take, drop, length-take, length-drop, length-map}
use Rattle.lists.specs.Lists.{up_from}
use Rattle.lists.proofs.UpFrom.{length_up}
use Rattle.rules.proofs.Done.{done_value}
use Rattle.rules.specs.Value.{Value, net_of_trit, of_const}
use Rattle.rules.specs.Cell.{FlipFlop, WritePort, ReadPort, Mem, new_flip_flop, with_init, write_at}
use Rattle.rules.specs.Log.{Trace, ◌>>=◌, ◌>>◌, done, request, add_void_of, add_dff_of, replace_value_of, LogState}
use Rattle.rules.specs.Merge.{runs, add_bitwise_mux_of}
use Rattle.rules.specs.Ports.{Driving}
use Rattle.rules.specs.Fallback.{write_muxes, row_flip_flop, row_value, drive_outputs, lower_rows}
use Rattle.rules.specs.Refusals.{log_refusal, room_refusal}
use Rattle.rules.specs.Beside.Chain.{Chains}
use Rattle.rules.proofs.Chain.{chains_done, chains_bind, chains_then, chains_void, chains_dff, chains_replace, chains_bitwise_mux}
use Rattle.rules.proofs.Traces.{bind_value}
use Rattle.rules.proofs.Counted.{Counted, counted_refusal, counted_done, counted_same, counted_void, counted_dff, counted_replace}
use Rattle.swizzle_laws.proofs.Pairs.{counted_bind, counted_as}
use Rattle.fallback_counts.specs.Counts.{mux_words, row_words_of, row_nets, drive_words, lower_words, lower_nets, Wide, AllWide, OneRow, AllRows}
use Rattle.fallback_counts.proofs.Merged.{over_counted, over_value}

-- ---- the entries are in sequence
chains_muxes : (ps : List WritePort) (v : Value) → Chains (write_muxes ps v)
unfolding write_muxes
chains_muxes [] v = chains_done v
chains_muxes (p ∷ ps) v = chains_bind _ _ (chains_bitwise_mux p.mask p.bits v) (λ x. chains_muxes ps x)

chains_flip_flop : (m : Mem) → Chains (row_flip_flop m)
unfolding row_flip_flop
chains_flip_flop m =
    chains_bind _ _ (chains_void m.width) (λ q. chains_bind _ _ (chains_muxes m.writes q) (λ v. chains_bind _ _ (chains_dff _) (λ f. chains_then _ _ (chains_replace q f) (chains_done q))))

chains_value : (ws : List WritePort) (m : Mem) → Chains (row_value ws m)
unfolding row_value
chains_value [] m = chains_done _
chains_value (p ∷ ps) m = chains_flip_flop m

chains_drive : (rs : List ReadPort) (output v : Value) → Chains (drive_outputs rs output v)
unfolding drive_outputs
chains_drive [] output v = chains_done tt
chains_drive (r ∷ rs) output v = chains_then _ _ (chains_replace _ v) (chains_drive rs _ v)

pub chains_lower : (ds : List Driving) → Chains (lower_rows ds)
unfolding lower_rows
chains_lower [] = chains_done tt
chains_lower (d ∷ ds) = chains_bind _ _ (chains_value d.memory.writes d.memory) (λ v. chains_then _ _ (chains_drive d.memory.reads d.output v) (chains_lower ds))

-- ---- the write ports
muxes_cons : (p : WritePort) (ps : List WritePort) (v : Value) → write_muxes (p ∷ ps) v ≡ (add_bitwise_mux_of p.mask p.bits v >>= λ x. write_muxes ps x)
unfolding write_muxes
muxes_cons p ps v = refl

muxes_nil : (v : Value) → write_muxes [] v ≡ done v
unfolding write_muxes
muxes_nil v = refl

words_cons : (w : ℕ) (p : WritePort) (ps : List WritePort) → mux_words w (p ∷ ps) ≡ 5 * length (runs p.mask) + 2 * w + mux_words w ps
unfolding mux_words
words_cons w p ps = refl

words_nil : (w : ℕ) → mux_words w [] ≡ 0
unfolding mux_words
words_nil w = refl

muxes_counted : (w : ℕ) (ps : List WritePort) (k : ℕ) → AllWide w ps → Counted (write_muxes ps (up_from k w)) (mux_words w ps) (length ps * w)
unfolding AllWide
muxes_counted w [] k a =
    subst (λ (t : Trace Value). Counted t (mux_words w []) (0 * w)) (sym (muxes_nil (up_from k w))) (counted_as (done (up_from k w)) 0 0 _ _ (sym (words_nil w)) (sym (zero-mul w)) (counted_done (up_from k w)))
muxes_counted w (p ∷ ps) k a =
    subst (λ (t : Trace Value). Counted t (mux_words w (p ∷ ps)) (suc (length ps) * w)) (sym (muxes_cons p ps (up_from k w)))
    (counted_as _ _ _ _ _ (sym (words_cons w p ps)) (omega (arith, suc-mul (length ps) w))
    (counted_bind (add_bitwise_mux_of p.mask p.bits (up_from k w)) (λ x. write_muxes ps x) _ w (mux_words w ps) (length ps * w) (over_counted w p.mask p.bits k a.0.0 a.0.1)
    (λ m. subst (λ (x : Value). Counted (write_muxes ps x) (mux_words w ps) (length ps * w)) (sym (over_value w p.mask p.bits k a.0.0 a.0.1 m)) (muxes_counted w ps m a.1)) (chains_muxes ps)))

muxes_long : (w : ℕ) (ps : List WritePort) (k n : ℕ) → AllWide w ps → length (write_muxes ps (up_from k w) n).value ≡ w
unfolding AllWide
muxes_long w [] k n a = ap (λ (t : Trace Value). length (t n).value) (muxes_nil (up_from k w)) ∙ ap length (done_value (up_from k w) n) ∙ length_up k w
muxes_long w (p ∷ ps) k n a =
    let t = add_bitwise_mux_of p.mask p.bits (up_from k w) in
    ap (λ (u : Trace Value). length (u n).value) (muxes_cons p ps (up_from k w)) ∙ ap length (bind_value t (λ x. write_muxes ps x) n)
    ∙ ap (λ (x : Value). length (write_muxes ps x (t n).next).value) (over_value w p.mask p.bits k a.0.0 a.0.1 n) ∙ muxes_long w ps n (t n).next a.1

-- ---- the register
void_value : (w n : ℕ) → (add_void_of w n).value ≡ up_from n w
unfolding add_void_of request
void_value w n = refl

dff_long : (f : FlipFlop) (n : ℕ) → length (add_dff_of f n).value ≡ length f.bits
unfolding add_dff_of request
dff_long f n = length_up n (length f.bits)

module _ (w : ℕ) (f : FlipFlop) (q : Value) (eb : length f.bits ≡ w) (ec : length f.clear_value ≡ w) (er : length f.reset_value ≡ w) (ei : length f.init_value ≡ w) (eq : length q ≡ w) where
  held_counted : Counted (add_dff_of f >>= λ x. (replace_value_of q x >> done q)) (13 + 4 * w + (4 + 2 * w)) w
  unfolding ◌>>◌
  held_counted =
      counted_as _ _ _ _ _ (omega (arith, eb, ec, er, ei)) (omega (arith, eb))
      (counted_bind (add_dff_of f) (λ x. (replace_value_of q x >>= λ y. done q)) _ _ (4 + 2 * w) 0 (counted_dff f)
      (λ n. counted_same (replace_value_of q (add_dff_of f n).value) (λ y. q) (4 + 2 * w) 0 (counted_as _ _ _ _ _ (omega (arith, eq, dff_long f n, eb)) refl (counted_replace q (add_dff_of f n).value)))
      (λ x. chains_bind _ _ (chains_replace q x) (λ y. chains_done q)))

init_bits : (m : Mem) (v : Value) → length (with_init (new_flip_flop v (write_at m 0).clock) m.init).bits ≡ length v
unfolding with_init new_flip_flop
init_bits m v = refl

init_trits : (m : Mem) (v : Value) → (length (with_init (new_flip_flop v (write_at m 0).clock) m.init).clear_value ≡ length m.init) × (length (with_init (new_flip_flop v (write_at m 0).clock) m.init).reset_value ≡ length m.init) × (length (with_init (new_flip_flop v (write_at m 0).clock) m.init).init_value ≡ length m.init)
unfolding with_init new_flip_flop
init_trits m v = (refl, refl, refl)

module _ (m : Mem) (a : AllWide m.width m.writes) (e : length m.init ≡ m.width) where
  abbrev w : ℕ
  w = m.width

  held : (q v : Value) → length q ≡ w → length v ≡ w → Counted (add_dff_of (with_init (new_flip_flop v (write_at m 0).clock) m.init) >>= λ f. (replace_value_of q f >> done q)) (13 + 4 * w + (4 + 2 * w)) w
  held q v eq ev =
      let t = init_trits m v in
      held_counted w (with_init (new_flip_flop v (write_at m 0).clock) m.init) q (init_bits m v ∙ ev) (t.0 ∙ e) (t.1 ∙ e) (t.2 ∙ e) eq

  chains_held : (q v : Value) → Chains (add_dff_of (with_init (new_flip_flop v (write_at m 0).clock) m.init) >>= λ f. (replace_value_of q f >> done q))
  chains_held q v = chains_bind _ _ (chains_dff _) (λ f. chains_then _ _ (chains_replace q f) (chains_done q))

  over-all : (k : ℕ) → Counted (write_muxes m.writes (up_from k w) >>= λ v. (add_dff_of (with_init (new_flip_flop v (write_at m 0).clock) m.init) >>= λ f. (replace_value_of (up_from k w) f >> done (up_from k w))))
      (mux_words w m.writes + (13 + 4 * w + (4 + 2 * w))) (length m.writes * w + w)
  over-all k =
      counted_bind (write_muxes m.writes (up_from k w)) _ _ _ _ w (muxes_counted w m.writes k a)
      (λ n. held (up_from k w) (write_muxes m.writes (up_from k w) n).value (length_up k w) (muxes_long w m.writes k n a)) (chains_held (up_from k w))

  flip_flop_counted : Counted (row_flip_flop m) (4 + (mux_words w m.writes + (13 + 4 * w + (4 + 2 * w)))) (w + (length m.writes * w + w))
  unfolding row_flip_flop
  flip_flop_counted =
      counted_bind (add_void_of w) (λ q. (write_muxes m.writes q >>= λ v. (add_dff_of (with_init (new_flip_flop v (write_at m 0).clock) m.init) >>= λ f. (replace_value_of q f >> done q)))) 4 w _ _ (counted_void w)
      (λ n. subst (λ (q : Value). Counted (write_muxes m.writes q >>= λ v. (add_dff_of (with_init (new_flip_flop v (write_at m 0).clock) m.init) >>= λ f. (replace_value_of q f >> done q))) (mux_words w m.writes + (13 + 4 * w + (4 + 2 * w))) (length m.writes * w + w)) (sym (void_value w n)) (over-all n))
      (λ q. chains_bind _ _ (chains_muxes m.writes q) (λ v. chains_held q v))

  flip_flop_value : (n : ℕ) → (row_flip_flop m n).value ≡ up_from n w
  unfolding row_flip_flop ◌>>=◌ ◌>>◌ done add_void_of request
  flip_flop_value n = refl

  -- a row's nets, for its write ports
  value_counted : (ws : List WritePort) → ws ≡ m.writes → Counted (row_value ws m) (row_words_of w ws) (row_nets w ws)
  unfolding row_value row_words_of row_nets
  value_counted [] f = counted_done _
  value_counted (p ∷ ps) f = counted_as _ _ _ _ _ (ap (λ (l : List WritePort). 4 + (mux_words w l + (13 + 4 * w + (4 + 2 * w)))) (sym f)) (ap (λ (l : List WritePort). w + (length l * w + w)) (sym f)) flip_flop_counted

  const_long : length (of_const m.init) ≡ w
  unfolding of_const
  const_long = length-map m.init net_of_trit ∙ e

  value_long : (ws : List WritePort) (n : ℕ) → length (row_value ws m n).value ≡ w
  unfolding row_value
  value_long [] n = ap length (done_value (of_const m.init) n) ∙ const_long
  value_long (p ∷ ps) n = ap length (flip_flop_value n) ∙ length_up n w

-- ---- the outputs
drive_counted : (w : ℕ) (rs : List ReadPort) (output v : Value) → length v ≡ w → length output ≡ length rs * w → Counted (drive_outputs rs output v) (length rs * (4 + 2 * w)) 0
unfolding drive_outputs ◌>>◌
drive_counted w [] output v ev eo = counted_as (done tt) 0 0 _ _ (sym (zero-mul (4 + 2 * w))) refl (counted_done tt)
drive_counted w (r ∷ rs) output v ev eo =
    let long : w ≤ length output = omega (arith, eo, suc-mul (length rs) w) in
    let rest : length (drop (length v) output) ≡ length rs * w = omega (arith, length-drop (length v) output, ev, eo, suc-mul (length rs) w) in
    counted_as _ _ _ _ _ (omega (arith, suc-mul (length rs) (4 + 2 * w))) refl
    (counted_bind (replace_value_of (take (length v) output) v) (λ x. drive_outputs rs (drop (length v) output) v) (4 + 2 * w) 0 (length rs * (4 + 2 * w)) 0
    (counted_as _ _ _ _ _ (omega (arith, length-take (length v) output, ev, long)) refl (counted_replace (take (length v) output) v))
    (λ n. drive_counted w rs (drop (length v) output) v ev rest) (λ x. chains_drive rs (drop (length v) output) v))

-- ---- all rows
pub rows_counted : (ds : List Driving) → AllRows ds → Counted (lower_rows ds) (lower_words ds) (lower_nets ds)
unfolding AllRows lower_rows lower_words lower_nets drive_words ◌>>◌
rows_counted [] a = counted_done tt
rows_counted (d ∷ ds) a =
    let m = d.memory in
    let o = a.0 in
    counted_as _ _ _ _ _ (omega arith) (omega arith)
    (counted_bind (row_value m.writes m) (λ v. (drive_outputs m.reads d.output v >>= λ x. lower_rows ds)) _ _ (length m.reads * (4 + 2 * m.width) + lower_words ds) (0 + lower_nets ds)
    (value_counted m o.writes o.init m.writes refl)
    (λ n. counted_bind (drive_outputs m.reads d.output (row_value m.writes m n).value) (λ x. lower_rows ds) _ 0 (lower_words ds) (lower_nets ds)
    (drive_counted m.width m.reads d.output _ (value_long m o.writes o.init m.writes n) o.outputs) (λ x. rows_counted ds a.1) (λ x. chains_lower ds))
    (λ v. chains_bind _ _ (chains_drive m.reads d.output v) (λ x. chains_lower ds)))

-- 20 and 21 of the rows by their counts
pub rows_refusal_lem : (ds : List Driving) → AllRows ds → (room : ℕ) (s : LogState) → log_refusal room s (lower_rows ds) ≡ room_refusal room s (lower_words ds) (lower_nets ds)
rows_refusal_lem ds a room s = counted_refusal (lower_rows ds) (lower_words ds) (lower_nets ds) (rows_counted ds a) room s
