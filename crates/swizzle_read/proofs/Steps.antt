-- The steps of a read port, one after the other.
use mathlib.Core.Path.{◌≡◌, refl, sym, ap, ◌∙◌}
use Prim.Native.Nat.{ℕ, zero, suc, ◌-◌, ◌*◌, ◌<◌, ◌≤◌}
use native.Mathlib.Omega.{arith}
use mathlib.Core.Bool.{Bool, true, false}
use mathlib.Core.List.{List, [], ◌∷◌, ◌++◌}
use lib.ListN.{length, take, replicate}
use lib.Seq.{sets}
use borrow.Author.Tests.{lt-ltb, le-leb, ltb-true, leb-true}
use lib.Dec.{leb, ltb}
use native.Mathlib.Nat.{mul-le-mul_right, one-mul}
use Rattle.lists.proofs.Choice.{and_true}
use Rattle.lists.specs.Lists.{up_from}
use Rattle.lists.proofs.Stores.{take_stored}
use Rattle.lists.proofs.UpFrom.{length_up}
use Rattle.rules.specs.Limits.{trit_x}
use Rattle.rules.specs.Logic.{undef}
use Rattle.rules.specs.Value.{Value}
use Rattle.rules.specs.Cell as rules
use Rattle.rules.specs.Cell.{FlipFlop, new_flip_flop, with_enable}
use Rattle.std.specs.Prelude.{Option, None, Some}
use Rattle.net_value.specs.View.{control_of}
use Rattle.net_flip_flop.specs.declared.Controls.{Controls}
use Rattle.rules.specs.Log.{Trace, ◌>>=◌, done, add_void_of, add_dff_of, replace_value_of}
use Rattle.rules.specs.Beside.Chain.{Chains}
use Rattle.rules.specs.Swizzle.{add_voids}
use Rattle.rules.proofs.Chain.{chains_done, chains_void, chains_dff}
use Rattle.rules.proofs.Entries.{value_dff, next_dff}
use Rattle.log_entries.specs.Emission.{Lent, is_over, run, emit}
use Rattle.log_entries.proofs.Emission.{run-done, run_then, run_same, run_next}
use Rattle.swizzle_laws.specs.Cuts.{cut}
use Rattle.swizzle_laws.proofs.Cutting.{length_cut, sized_cut}
use Rattle.swizzle_laws.proofs.Tree.{chains_tree, length_tree}
use Rattle.swizzle_laws.proofs.ReadCounts.{chains_voids, voids_more, voids_none}
use Rattle.swizzle_tree.specs.Scratch.{tree_in, tree_of, holds, Built}
use Rattle.swizzle_pieces.specs.declared.Pieces.{Pieces}
use Rattle.swizzle_pieces.specs.Steps.{load_of}
use Rattle.swizzle_laws.specs.Rooms.{mux_room}
use Rattle.swizzle_read.specs.Port.{addr_flip_flop, addr_by, Addressed, read_trace, Ready, with_first, can_read, read_of, scratch_of}

-- ---- voids: what is left gives the whole
module _ (width : ℕ) (l l1 : Lent) (e : l1 ≡ run (add_void_of width) l) where
  voids_suc : (k : ℕ) → run (add_voids k width) l1 ≡ run (add_voids (suc k) width) l
  voids_suc k =
      let v = (add_void_of width l.state.next).value in
      sym (run_same (add_voids k width) (λ vs. v ++ vs) l1)
      ∙ run_then l l1 (run (add_voids k width >>= λ vs. done (v ++ vs)) l1) (add_void_of width) (λ u. (add_voids k width >>= λ vs. done (u ++ vs))) v (chains_void width) e (λ o. refl) refl
      ∙ ap (λ (t : Trace Value). run t l) (sym (voids_more k width))

  pub voids_turn : (left n : ℕ) (whole : Lent) → left ≡ suc n → run (add_voids left width) l ≡ whole → run (add_voids n width) l1 ≡ whole
  voids_turn left n whole q f = voids_suc n ∙ ap (λ (k : ℕ). run (add_voids k width) l) (sym q) ∙ f

pub voids_start : (width left count : ℕ) (l : Lent) → left ≡ count → run (add_voids left width) l ≡ run (add_voids count width) l
voids_start width left count l e = ap (λ (k : ℕ). run (add_voids k width) l) e

pub voids_end : (width left : ℕ) (l whole : Lent) → left ≤ 0 → run (add_voids left width) l ≡ whole → l ≡ whole
voids_end width left l whole h f =
    let q : left ≡ 0 = omega arith in
    sym (run-done [] l) ∙ ap (λ (t : Trace Value). run t l) (sym (voids_none width)) ∙ ap (λ (k : ℕ). run (add_voids k width) l) (sym q) ∙ f

-- ---- the mux address
pub addr_dff_is : (mux : Value) (port : Controls) (xs : List ℕ) (c : rules.Controls) → xs ≡ undef (length mux) → c ≡ (with_enable (new_flip_flop [] (control_of port.clock)) (control_of port.enable)).controls
    → record { bits = mux; controls = c; clear_value = xs; reset_value = xs; init_value = xs } ≡ addr_flip_flop port mux
unfolding with_enable new_flip_flop
addr_dff_is mux port xs c e f = rw (e, f)

take_same : (n k : ℕ) (v : ℕ) → n ≤ k → take n (replicate k v) ≡ replicate n v
take_same zero k v h = refl
take_same (suc n) zero v h = absurd (omega arith)
take_same (suc n) (suc k) v h = ap (λ (l : List ℕ). v ∷ l) (take_same n k v (omega arith))

pub x_trits : (m : ℕ) → m ≤ mux_room → take m (replicate mux_room trit_x) ≡ undef m
unfolding undef
x_trits m h = take_same m mux_room trit_x h

module _ (mux room : Value) (l : Lent) where
  pub addr_plain : (room' : Value) → room' ≡ sets room 0 mux → Addressed (addr_by None mux) room room' l l
  unfolding addr_by done
  addr_plain room' e = record { log = sym (run-done mux l); value = λ o. e }

  module _ (port : Controls) where
    abbrev dff : FlipFlop
    dff = addr_flip_flop port mux

    clocked_is : addr_by (Some port) mux ≡ add_dff_of dff
    unfolding addr_by
    clocked_is = refl

    pub addr_over : (l1 : Lent) → l1 ≡ run (add_dff_of dff) l → is_over l1.state ≡ true → Addressed (addr_by (Some port) mux) room room l l1
    addr_over l1 e o = record { log = e ∙ ap (λ (t : Trace Value). run t l) (sym clocked_is); value = λ p. absurd (both o p) }
      where
        both : {b : Bool} → b ≡ true → b ≡ false → ⊥
        both x y = let z : ◌≡◌ {A = ℕ} 0 1 = cc in omega arith

    pub addr_stored : (l1 : Lent) (room' : Value) → l1 ≡ run (add_dff_of dff) l → is_over l1.state ≡ false → room' ≡ sets room 0 (up_from l.state.next (l1.state.next - l.state.next))
        → Addressed (addr_by (Some port) mux) room room' l l1
    addr_stored l1 room' e o f =
        let n : l1.state.next ≡ (add_dff_of dff l.state.next).next = ap (λ (x : Lent). x.state.next) e ∙ run_next (add_dff_of dff) l (chains_dff dff) (sym (ap (λ (x : Lent). is_over x.state) e) ∙ o) in
        let d : l1.state.next - l.state.next ≡ length dff.bits = omega (arith, n ∙ next_dff dff l.state.next) in
        record {
          log = e ∙ ap (λ (t : Trace Value). run t l) (sym clocked_is);
          value = λ p.
              f ∙ ap (λ (k : ℕ). sets room 0 (up_from l.state.next k)) d ∙ ap (sets room 0) (sym (value_dff dff l.state.next))
              ∙ ap (λ (t : Trace Value). sets room 0 (t l.state.next).value) (sym clocked_is);
        }

chains_addr : (fl : Option Controls) (mux : Value) → Chains (addr_by fl mux)
unfolding addr_by
chains_addr None mux = chains_done mux
chains_addr (Some port) mux = chains_dff _

length_addr : (fl : Option Controls) (mux : Value) (n : ℕ) → length (addr_by fl mux n).value ≡ length mux
unfolding addr_by with_enable new_flip_flop done
length_addr None mux n = refl
length_addr (Some port) mux n = ap length (value_dff _ n) ∙ length_up n (length mux)

held_tree : (bits : Value) (w count : ℕ) (p : Value) → 0 < count → count * w ≤ length p → tree_of bits w count p ≡ tree_in bits w count p
unfolding tree_of holds
held_tree bits w count p h g = rw (lt-ltb 0 count h, le-leb (count * w) (length p) g)

-- ---- the whole
module _ (n : Pieces) (voids : ℕ) (fl : Option Controls) (mux : Value) (es : List ℕ) (output : Value) (w : ℕ) (scratch loaded after bits bits' : List ℕ)
    (l0 l1 l2 l3 l4 : Lent) (ready : Ready n mux w scratch) (room : length bits ≡ mux_room)
    (e1 : l1 ≡ run (add_voids voids n.columns) l0)
    (e2 : Addressed (addr_by fl mux) bits bits' l1 l2)
    (ld : loaded ≡ load_of n es scratch) (same : length loaded ≡ length scratch)
    (e3 : Built (take (length mux) bits') w n.count loaded after l2 l3)
    (e4 : l4 ≡ run (replace_value_of output (take w after)) l3) where
  abbrev a : Value
  a = take (length mux) bits'

  addr_given : is_over l2.state ≡ false → a ≡ (addr_by fl mux l1.state.next).value
  addr_given o =
      take_stored bits bits' (addr_by fl mux l1.state.next).value (length mux) (e2.value o) (sym (length_addr fl mux l1.state.next))
      (omega (arith, ready.short, room))

  fits : n.count * w ≤ length loaded
  fits = omega (arith, ready.holds, same)

  tree_is : tree_of a w n.count loaded ≡ tree_in a w n.count loaded
  tree_is = held_tree a w n.count loaded ready.some fits

  tree_run : l3 ≡ run (tree_in a w n.count loaded) l2
  tree_run = e3.log ∙ ap (λ (t : Trace Value). run t l2) tree_is

  tree_length : length (tree_in a w n.count loaded l2.state.next).value ≡ w
  tree_length = length_tree w a (cut w n.count loaded) l2.state.next (sized_cut w n.count loaded fits) (rw (length_cut w n.count loaded) ready.some)

  tree_given : is_over l3.state ≡ false → take w after ≡ (tree_in a w n.count loaded l2.state.next).value
  tree_given o = front _ _ tree_length (ap (λ (t : Trace Value). (t l2.state.next).value) tree_is) (e3.value o)
    where
      front : (v u : Value) → length u ≡ w → v ≡ u → take (length v) after ≡ v → take w after ≡ u
      front v u k q f = sym (ap (λ (m : ℕ). take m after) (ap length q ∙ k)) ∙ f ∙ q

  abbrev last : Value → Trace Value
  last t = replace_value_of output t

  abbrev trees : Value → Trace Value
  trees x = tree_in x w n.count (load_of n es scratch) >>= last

  from_tree : l4 ≡ run (trees a) l2
  from_tree =
      run_then l2 l3 l4 (tree_in a w n.count loaded) last (take w after) (chains_tree a (cut w n.count loaded)) tree_run tree_given e4
      ∙ ap (λ (s : List ℕ). run (tree_in a w n.count s >>= last) l2) ld

  from_addr : l4 ≡ run (addr_by fl mux >>= trees) l1
  from_addr = run_then l1 l2 l4 (addr_by fl mux) trees a (chains_addr fl mux) e2.log addr_given from_tree

  pub read_run : l4 ≡ run (read_trace n voids fl mux es output w scratch) l0
  unfolding read_trace
  read_run = run_then l0 l1 l4 (add_voids voids n.columns) (λ v. (addr_by fl mux >>= trees)) (add_voids voids n.columns l0.state.next).value (chains_voids voids n.columns) e1 (λ o. refl) from_addr

-- ---- any numbers
module _ (n : Pieces) (voids : ℕ) (fl : Option Controls) (mux : Value) (es : List ℕ) (output : Value) (w : ℕ) (scratch : List ℕ) where
  pub nothing_read : (l : Lent) → can_read n mux w scratch ≡ false → l ≡ run (read_of n voids fl mux es output w scratch) l
  unfolding read_of run done emit
  nothing_read l e = rw e

  pub nothing_loaded : (next : ℕ) → can_read n mux w scratch ≡ false → scratch ≡ scratch_of n mux es w scratch next
  unfolding scratch_of
  nothing_loaded next e = rw e

  pub read_all : (l l' : Lent) → can_read n mux w scratch ≡ true
      → l' ≡ run (read_trace (with_first n l.state.next) voids fl mux es output w scratch) l → l' ≡ run (read_of n voids fl mux es output w scratch) l
  unfolding read_of run
  read_all l l' e f = rw e f

  pub load_all : (next : ℕ) → can_read n mux w scratch ≡ true → load_of (with_first n next) es scratch ≡ scratch_of n mux es w scratch next
  unfolding scratch_of
  load_all next e = rw e

  pub ready_all : (next : ℕ) → can_read n mux w scratch ≡ true → Ready (with_first n next) mux w scratch
  unfolding can_read
  ready_all next e =
      let y = and_true (leb (length mux) mux_room) _ e in
      let x = and_true (ltb 0 n.count) _ y.1 in
      let c = ltb-true 0 n.count x.0 in
      let d = leb-true (n.count * w) (length scratch) x.1 in
      record { short = leb-true (length mux) mux_room y.0; some = c; holds = d; whole = least n.count c d }
    where
      least : (k : ℕ) → 0 < k → k * w ≤ length scratch → w ≤ length scratch
      least k c d = omega (arith, mul-le-mul_right {m = 1} {n = k} w c, one-mul w)
