-- The loop over the read ports, in tail form: what is left gives the whole.
use mathlib.Core.Path.{◌≡◌, refl, sym, ap, ◌∙◌, subst}
use Prim.Native.Nat.{ℕ, zero, suc, ◌+◌, ◌<◌, ◌≤◌, min, max}
use native.Mathlib.Nat.{add-zero}
use native.Mathlib.Numerals.{add-one}
use native.Mathlib.Omega.{arith}
use mathlib.Core.List.{List, [], ◌∷◌}
use lib.ListN.{length, take, drop, get_or, drop_of_length-le}
use lib.Seq.{drop-cons, drop-drop, get_or-drop}
use Rattle.lists.specs.Lists.{part}
use Rattle.lists.proofs.Views.{length_views}
use Rattle.rules.specs.Limits.{max_ports}
use Rattle.rules.specs.Value.{Value}
use Rattle.rules.specs.Geometry.{Layout}
use Rattle.net_memory.specs.declared.Memory.{Memory}
use Rattle.net_memory.specs.declared.MemoryReadPort.{MemoryReadPort}
use Rattle.net_memory.specs.View.{no_read_port, addr_size, trit_size, read_ports_of, reads_start, read_port, read_nets, read_trits}
use Rattle.net_memory.proofs.Ports.{part_at}
use Rattle.swizzle_reads.specs.Going.{Going, InPort, in_port, in_ports, port_of, port_if, ports_from, need_of, most_need, ScratchKept, AllKept}

abbrev no_in : InPort
no_in = in_port no_read_port [] []

-- port i of a memory's
pub port_in : (m : Memory) (nets trits : List ℕ) (i : ℕ) → i < min max_ports m.read_count → get_or (in_ports m nets trits) i no_in ≡ port_of m nets trits i
port_in m nets trits i h =
    part_at m in_port (drop (reads_start m) nets) (drop m.init_len trits) i h
    ∙ (λ k. in_port (read_port m i) (sym (part_at {R = List ℕ} m (λ p x y. x) (drop (reads_start m) nets) [] i h) k) (sym (part_at {R = List ℕ} m (λ p x y. y) [] (drop m.init_len trits) i h) k))

pub length_in : (m : Memory) (nets trits : List ℕ) → length (read_ports_of m) ≡ min max_ports m.read_count → length (in_ports m nets trits) ≡ min max_ports m.read_count
length_in m nets trits e = length_views addr_size trit_size in_port (read_ports_of m) (drop (reads_start m) nets) (drop m.init_len trits) ∙ e

from_cons : (q : Layout) (room i : ℕ) (x : InPort) (xs : List InPort) (ns : List ℕ) (output : Value) (g : Going)
    → ports_from q room i (x ∷ xs) ns output g ≡ ports_from q room (suc i) xs (drop 1 ns) (drop x.port.data_len output) (port_if q room i x (get_or ns 0 0) (take x.port.data_len output) g)
unfolding ports_from
from_cons q room i x xs ns output g = refl

from_nil : (q : Layout) (room i : ℕ) (ns : List ℕ) (output : Value) (g : Going) → ports_from q room i [] ns output g ≡ g
unfolding ports_from
from_nil q room i ns output g = refl

module _ (q : Layout) (room : ℕ) (xs : List InPort) (ns : List ℕ) (output : Value) (i at : ℕ) (g whole : Going)
    (e : ports_from q room i (drop i xs) (drop i ns) (drop at output) g ≡ whole) where
  pub ports_turn : (x : InPort) (d : ℕ) (g' : Going) → i < length xs → get_or xs i no_in ≡ x → d ≡ x.port.data_len → g' ≡ port_if q room i x (get_or ns i 0) (part at d output) g
      → ports_from q room (i + 1) (drop (i + 1) xs) (drop (i + 1) ns) (drop (at + d) output) g' ≡ whole
  ports_turn x d g' h f l k =
      let wide : get_or (drop i ns) 0 0 ≡ get_or ns i 0 = get_or-drop i ns 0 0 ∙ ap (λ (j : ℕ). get_or ns j 0) (add-zero i) in
      let list : drop i xs ≡ x ∷ drop (suc i) xs = drop-cons xs i no_in h ∙ ap (λ (y : InPort). y ∷ drop (suc i) xs) f in
      ap (ports_from q room (i + 1) (drop (i + 1) xs) (drop (i + 1) ns) (drop (at + d) output)) (k ∙ (λ j. port_if q room i x (sym wide j) (part at (l j) output) g))
      ∙ (λ j. ports_from q room (add-one i j) (drop (add-one i j) xs) (sym (drop-drop 1 i ns) j) ((sym (drop-drop d at output) ∙ ap (λ (n : ℕ). drop n (drop at output)) l) j)
      (port_if q room i x (get_or (drop i ns) 0 0) (take x.port.data_len (drop at output)) g))
      ∙ sym (from_cons q room i x (drop (suc i) xs) (drop i ns) (drop at output) g)
      ∙ ap (λ (l : List InPort). ports_from q room i l (drop i ns) (drop at output) g) (sym list) ∙ e

  pub ports_end : length xs ≤ i → g ≡ whole
  ports_end h =
      sym (from_nil q room i (drop i ns) (drop at output) g) ∙ ap (λ (l : List InPort). ports_from q room i l (drop i ns) (drop at output) g) (sym (drop_of_length-le xs {i = i} h)) ∙ e

-- ---- the scratch
need_cons : (q : Layout) (x : InPort) (xs : List InPort) (ns : List ℕ) → most_need q (x ∷ xs) ns ≡ max (need_of q x (get_or ns 0 0)) (most_need q xs (drop 1 ns))
unfolding most_need
need_cons q x xs ns = refl

after_one : (ns : List ℕ) (i : ℕ) → get_or (drop 1 ns) i 0 ≡ get_or ns (suc i) 0
after_one [] i = refl
after_one (n ∷ ns) i = refl

left_most : (a b c : ℕ) → c ≡ max a b → a ≤ c
left_most a b c e = omega arith

right_most : (n a b c : ℕ) → n ≤ b → c ≡ max a b → n ≤ c
right_most n a b c h e = omega arith

need_at : (q : Layout) (xs : List InPort) (ns : List ℕ) (i : ℕ) → i < length xs → need_of q (get_or xs i no_in) (get_or ns i 0) ≤ most_need q xs ns
need_at q [] ns i h = absurd (omega arith)
need_at q (x ∷ xs) ns zero h = left_most (need_of q x (get_or ns 0 0)) _ _ (need_cons q x xs ns)
need_at q (x ∷ xs) ns (suc i) h =
    right_most (need_of q (get_or xs i no_in) (get_or ns (suc i) 0)) _ (most_need q xs (drop 1 ns)) _
    (subst (λ (n : ℕ). need_of q (get_or xs i no_in) n ≤ most_need q xs (drop 1 ns)) (after_one ns i) (need_at q xs (drop 1 ns) i (omega arith))) (need_cons q x xs ns)

pub kept_turn : (q : Layout) (xs : List InPort) (ns : List ℕ) (i : ℕ) (x : InPort) (before now after : List ℕ) → i < length xs → get_or xs i no_in ≡ x
    → AllKept q xs ns before now → ScratchKept q x (get_or ns i 0) now after → AllKept q xs ns before after
kept_turn q xs ns i x before now after h e a s k l =
    s k (to (need_of q x (get_or ns i 0)) (most_need q xs ns) (subst (λ (y : InPort). need_of q y (get_or ns i 0) ≤ most_need q xs ns) e (need_at q xs ns i h)) l) ∙ a k l
  where
    to : (a b : ℕ) → a ≤ b → b ≤ k → a ≤ k
    to a b f g = omega arith

-- ---- port i by what the code reads of it
module _ (q : Layout) (m : Memory) (nets trits wide : List ℕ) (i n : ℕ) (r : MemoryReadPort) (a b : List ℕ) (er : r ≡ read_port m i) (ea : a ≡ read_nets m nets i) (eb : b ≡ read_trits m trits i)
    (en : n ≡ get_or wide i 0) where
  pub at_by : (room room' : ℕ) (out : Value) (g g' : Going) → room ≡ room' → g' ≡ port_if q room i (in_port r a b) n out g → g' ≡ port_if q room' i (port_of m nets trits i) (get_or wide i 0) out g
  at_by room room' out g g' e f = f ∙ (λ j. port_if q (e j) i (in_port (er j) (ea j) (eb j)) (en j) out g)

  pub at_kept : (before after : List ℕ) → ScratchKept q (in_port r a b) n before after → ScratchKept q (port_of m nets trits i) (get_or wide i 0) before after
  at_kept before after f k h =
      let e : need_of q (in_port r a b) n ≡ need_of q (port_of m nets trits i) (get_or wide i 0) = (λ j. need_of q (in_port (er j) (ea j) (eb j)) (en j)) in
      f k (subst (λ (l : ℕ). l ≤ k) (sym e) h)
