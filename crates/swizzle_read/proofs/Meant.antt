-- The port by its numbers is the port of the rules.
use mathlib.Core.Path.{◌≡◌, refl, sym, ap, ◌∙◌}
use Prim.Native.Nat.{ℕ, ◌*◌, ◌^◌, ◌≤◌}
use native.Mathlib.Omega.{arith}
use mathlib.Core.Bool.{true}
use mathlib.Core.Option.{none, some}
use Rattle.std.specs.Prelude.{Option, None, Some}
use mathlib.Core.List.{List, ◌++◌, append-nil}
use lib.ListN.{length, drop}
use lib.Seq.{sets}
use Rattle.lists.specs.Lists.{up_from}
use Rattle.rules.specs.Value.{Value}
use Rattle.rules.specs.Cell.{ReadFlipFlop, ReadPort, new_flip_flop, with_enable}
use Rattle.net_flip_flop.specs.declared.Controls.{Controls}
use Rattle.net_flip_flop.specs.View.{controls_of}
use Rattle.rules.specs.Log.{Entry, Trace, ◌>>=◌, ◌>>◌, done, add_dff_of, replace_value_of}
use Rattle.rules.specs.Geometry.{Layout, columns}
use Rattle.rules.specs.Swizzle.{Split, WideRead, wide_flip_flop, add_voids, clocked_addr, mux_tree, swizzle_read}
use Rattle.log_entries.specs.Emission.{Lent, run, emit}
use Rattle.swizzle_laws.specs.Cuts.{cut, joined}
use Rattle.swizzle_laws.proofs.Cutting.{length_joined}
use Rattle.swizzle_laws.proofs.ReadCounts.{pieces_of, length_pieces, length_piece, sized_map}
use Rattle.swizzle_tree.specs.Scratch.{tree_in}
use Rattle.swizzle_pieces.specs.declared.Pieces.{Pieces}
use Rattle.swizzle_pieces.specs.Steps.{held, load_of}
use Rattle.swizzle_pieces.proofs.Meaning.{Means, loaded}
use Rattle.swizzle_read.specs.Port.{addr_by, read_trace, with_first, can_read, read_of, scratch_of}
use Rattle.lists.proofs.Store.{drop_sets}
use Rattle.swizzle_laws.proofs.Whole.{voids_up}
use Rattle.swizzle_tree.proofs.Treeing.{cut_stored}

-- ---- the nets of the voids run on
-- ---- traces with the same entries
module _ {A B C : Type 0} (t : Trace A) (f : A → Trace B) (g : A → Trace C) (m : ℕ) where
  bind_same : ((k : ℕ) → (f (t m).value k).entries ≡ (g (t m).value k).entries) → ((t >>= f) m).entries ≡ ((t >>= g) m).entries
  unfolding ◌>>=◌
  bind_same h = ap (λ (es : List Entry). (t m).entries ++ es) (h (t m).next)

last_same : {A : Type 0} (from to : Value) (a : A) (k : ℕ) → (replace_value_of from to k).entries ≡ ((replace_value_of from to >> done a) k).entries
unfolding ◌>>◌ ◌>>=◌ done
last_same from to a k = sym (append-nil (replace_value_of from to k).entries)

run_entries : {A B : Type 0} (t : Trace A) (u : Trace B) (l : Lent) → (t l.state.next).entries ≡ (u l.state.next).entries → run t l ≡ run u l
unfolding run
run_entries t u l e = ap (emit l) e

-- ---- the mux address of a port with a flip-flop, and without
pub addr_none : (a : Value) → addr_by None a ≡ clocked_addr none a
unfolding addr_by clocked_addr
addr_none a = refl

pub addr_some : (c : Controls) (f : ReadFlipFlop) (a : Value) → f.controls ≡ controls_of c → addr_by (Some c) a ≡ clocked_addr (some f) a
unfolding addr_by clocked_addr
addr_some c f a e = λ i. add_dff_of (with_enable (new_flip_flop a (sym e i).clock) (sym e i).enable)

-- ---- the port
-- these numbers are a port's, whose nets start at the log's next free net
pub record Meant (q : Layout) (s : Split) (p : ReadPort) (n : Pieces) (voids : ℕ) (fl : Option Controls) (w : ℕ) (scratch : List ℕ) (next : ℕ) : Type 0 where
  pub numbers : Means q s (2 ^ s.new * columns q) n
  pub voids_are : voids ≡ 2 ^ s.new
  pub columns_are : n.columns ≡ columns q
  pub first_is : n.first ≡ next
  pub width_is : w ≡ 2 ^ s.old * q.width
  pub fits : n.count * w ≤ length scratch
  pub held_is : held n (length q.entries) (length scratch) ≡ true
  pub addr_is : addr_by fl s.mux_addr ≡ clocked_addr p.flip_flop s.mux_addr

module _ (q : Layout) (s : Split) (p : ReadPort) (n : Pieces) (voids : ℕ) (fl : Option Controls) (output : Value) (w : ℕ) (scratch : List ℕ) (l : Lent)
    (m : Meant q s p n voids fl w scratch l.state.next) where
  abbrev first : ℕ
  first = l.state.next

  abbrev cols : Value
  cols = (add_voids (2 ^ s.new) (columns q) first).value

  cols_are : cols ≡ up_from n.first (2 ^ s.new * columns q)
  cols_are = voids_up (2 ^ s.new) (columns q) first ∙ ap (λ (k : ℕ). up_from k (2 ^ s.new * columns q)) (sym m.first_is)

  count_is : n.count ≡ length (pieces_of q s cols)
  count_is = m.numbers.count ∙ sym (length_pieces q s cols)

  pieces_are : cut w n.count (load_of n q.entries scratch) ≡ pieces_of q s cols
  pieces_are =
      ap (cut w n.count) (loaded q s (2 ^ s.new * columns q) n m.numbers scratch m.held_is ∙ ap (λ (c : Value). sets scratch 0 (joined (pieces_of q s c))) (sym cols_are))
      ∙ cut_stored w n.count scratch (pieces_of q s cols) (sized_map w _ (λ x. length_piece q s x cols ∙ sym m.width_is) (up_from 0 s.pieces)) count_is m.fits

  abbrev result : Value → WideRead
  result v = record { split = s; flip_flop = wide_flip_flop q s p.flip_flop; output = v }

  abbrev muxed : Value → Value → Trace WideRead
  muxed v a = mux_tree a (pieces_of q s v) >>= λ t. (replace_value_of output t >> done (result v))

  abbrev trees : Value → Trace Value
  trees a = tree_in a w n.count (load_of n q.entries scratch) >>= λ t. replace_value_of output t

  tree_same : (a : Value) (k : ℕ) → (trees a k).entries ≡ (muxed cols a k).entries
  tree_same a k =
      ap (λ (x : List Value). ((mux_tree a x >>= λ t. replace_value_of output t) k).entries) pieces_are
      ∙ bind_same (mux_tree a (pieces_of q s cols)) (λ t. replace_value_of output t) (λ t. (replace_value_of output t >> done (result cols))) k (λ j. last_same output _ (result cols) j)

  addr_same : (k : ℕ) → ((addr_by fl s.mux_addr >>= trees) k).entries ≡ ((clocked_addr p.flip_flop s.mux_addr >>= muxed cols) k).entries
  addr_same k =
      ap (λ (t : Trace Value). ((t >>= trees) k).entries) m.addr_is
      ∙ bind_same (clocked_addr p.flip_flop s.mux_addr) trees (muxed cols) k (λ j. tree_same _ j)

  trace_same : (read_trace n voids fl s.mux_addr q.entries output w scratch first).entries ≡ (swizzle_read q s p output first).entries
  unfolding read_trace swizzle_read
  trace_same =
      (λ i. ((add_voids (m.voids_are i) (m.columns_are i) >>= λ v. (addr_by fl s.mux_addr >>= trees)) first).entries)
      ∙ bind_same (add_voids (2 ^ s.new) (columns q)) (λ v. (addr_by fl s.mux_addr >>= trees)) (λ v. (clocked_addr p.flip_flop s.mux_addr >>= muxed v)) first addr_same

  -- what the code logs is what the rules log
  pub read_meant : run (read_trace n voids fl s.mux_addr q.entries output w scratch) l ≡ run (swizzle_read q s p output) l
  read_meant = run_entries _ _ l trace_same

  -- what lies past the pieces is kept
  pub load_kept : drop (n.count * w) (load_of n q.entries scratch) ≡ drop (n.count * w) scratch
  load_kept =
      ap (drop (n.count * w)) (loaded q s (2 ^ s.new * columns q) n m.numbers scratch m.held_is ∙ ap (λ (c : Value). sets scratch 0 (joined (pieces_of q s c))) (sym cols_are))
      ∙ drop_sets (n.count * w) (joined (pieces_of q s cols)) scratch 0
      (omega (arith, length_joined w (pieces_of q s cols) (sized_map w _ (λ x. length_piece q s x cols ∙ sym m.width_is) (up_from 0 s.pieces)), ap (λ (k : ℕ). k * w) count_is))

-- ---- the public function: `n` without its first net
reads_of_lem : (n : Pieces) (voids : ℕ) (fl : Option Controls) (mux : Value) (es : List ℕ) (output : Value) (w : ℕ) (scratch : List ℕ) (next : ℕ) → can_read n mux w scratch ≡ true
    → (read_of n voids fl mux es output w scratch next).entries ≡ (read_trace (with_first n next) voids fl mux es output w scratch next).entries
unfolding read_of
reads_of_lem n voids fl mux es output w scratch next e = rw e

loads_of : (n : Pieces) (mux : Value) (es : List ℕ) (w : ℕ) (scratch : List ℕ) (next : ℕ) → can_read n mux w scratch ≡ true → scratch_of n mux es w scratch next ≡ load_of (with_first n next) es scratch
unfolding scratch_of
loads_of n mux es w scratch next e = rw e

module _ (q : Layout) (s : Split) (p : ReadPort) (n : Pieces) (voids : ℕ) (fl : Option Controls) (output : Value) (w : ℕ) (scratch : List ℕ) (l : Lent)
    (can : can_read n s.mux_addr w scratch ≡ true)
    (m : Meant q s p (with_first n l.state.next) voids fl w scratch l.state.next) where
  pub read_rules : run (read_of n voids fl s.mux_addr q.entries output w scratch) l ≡ run (swizzle_read q s p output) l
  read_rules = run_entries _ _ l (reads_of_lem n voids fl s.mux_addr q.entries output w scratch l.state.next can) ∙ read_meant q s p (with_first n l.state.next) voids fl output w scratch l m

  pub scratch_kept : drop (n.count * w) (scratch_of n s.mux_addr q.entries w scratch l.state.next) ≡ drop (n.count * w) scratch
  scratch_kept = ap (drop (n.count * w)) (loads_of n s.mux_addr q.entries w scratch l.state.next can) ∙ load_kept q s p (with_first n l.state.next) voids fl output w scratch l m
