-- The read ports of the rules are held by their structs, their addresses and their trits.
use mathlib.Core.Path.{◌≡◌, refl, sym, ap, ◌∙◌}
use Prim.Native.Nat.{ℕ, suc, ◌+◌, ◌^◌}
use native.Mathlib.Omega.{arith}
use mathlib.Core.List.{List, [], ◌∷◌, ◌++◌, map}
use lib.ListN.{take, drop}
use Rattle.lists.specs.Lists.{part, concat_map}
use Rattle.lists.specs.Views.{views}
use Rattle.rules.specs.Value.{Value}
use Rattle.rules.specs.Cell.{ReadPort, Mem}
use Rattle.rules.specs.Log.{◌>>=◌, ◌>>◌, done}
use Rattle.rules.specs.Geometry.{Layout, columns}
use Rattle.rules.specs.Swizzle.{Split, WideRead, wide_flip_flop, add_voids, swizzle_read, swizzle_reads}
use Rattle.rules.specs.Beside.Counts.{read_count_of}
use Rattle.std.specs.Prelude as flips
use Rattle.net_memory.specs.FlipFlop.{MemoryReadFlipFlop}
use Rattle.net_memory.specs.declared.MemoryReadPort.{MemoryReadPort}
use Rattle.net_memory.specs.View.{addr_size, trit_size, flip_flop_by}
use Rattle.swizzle_laws.proofs.ReadsCounts.{read_split_of}
use Rattle.swizzle_laws.proofs.Whole.{voids_up}
use Rattle.swizzle_result.specs.declared.WideReadPort.{WideReadPort}
use Rattle.swizzle_result.specs.Held.{HeldRead, read_trits, read_nets}
use Rattle.swizzle_result.proofs.Holding.{SameFlipFlop, holding_clock}
use Rattle.swizzle_reads.specs.Going.{Going, InPort, in_port, wide_of, port_trits, port_done}
use Rattle.swizzle_reads.specs.Planned.{addrs_of, trits_of, LayoutPlanned}
use Rattle.swizzle_reads.proofs.Whole.{ports_of, structs_of, Left, counts, next_is, left_after}

-- each struct stands for its port's flip-flop
abbrev SameClock : InPort → Type 0
SameClock x = SameFlipFlop x.struct.flip_flop (part 0 x.struct.relations_len x.struct.relations) x.port.flip_flop

unfoldable pub EachClock : List InPort → Type 0
EachClock [] = Unit
EachClock (x ∷ xs) = SameClock x × EachClock xs

unfoldable both : (x : InPort) (xs : List InPort) → SameClock x → EachClock xs → EachClock (x ∷ xs)
unfolding EachClock
both x xs c e = (c, e)

unfoldable first : (x : InPort) (xs : List InPort) → EachClock (x ∷ xs) → SameClock x
unfolding EachClock
first x xs e = e.0

unfoldable later : (x : InPort) (xs : List InPort) → EachClock (x ∷ xs) → EachClock xs
unfolding EachClock
later x xs e = e.1

both_is : (x : InPort) (xs : List InPort) (e : EachClock (x ∷ xs)) → e ≡ both x xs (first x xs e) (later x xs e)
unfolding EachClock both first later
both_is x xs e = refl

same_clock : (f : MemoryReadFlipFlop) (r : MemoryReadPort) (y : List ℕ) → SameFlipFlop f (part 0 r.relations_len r.relations) (flip_flop_by f r y)
same_clock flips.None r y = tt
same_clock (flips.Some f) r y = (refl, refl)

pub views_clock : (ps : List MemoryReadPort) (l k : List ℕ) → EachClock (views addr_size trit_size in_port ps l k)
unfolding EachClock
views_clock [] l k = tt
views_clock (r ∷ ps) l k = (same_clock r.flip_flop r _, views_clock ps (drop (addr_size r) l) (drop (trit_size r) k))

-- one port, whose output nets start at the next free net
abbrev pub held_one_of : (q : Layout) (s : Split) (x : InPort) (next : ℕ) → SameClock x → HeldRead q
held_one_of q s x next e = record {
  struct = wide_of s x.struct next;
  port = record { split = s; flip_flop = wide_flip_flop q s x.port.flip_flop; output = (add_voids (2 ^ s.new) (columns q) next).value };
  addr_len = refl;
  wide_is = refl;
  output_is = voids_up (2 ^ s.new) (columns q) next;
  clocked = holding_clock q s x.struct.flip_flop _ x.port.flip_flop e;
}

unfoldable pub held_of : (m : Mem) (q : Layout) (xs : List InPort) → List ℕ → ℕ → EachClock xs → List (HeldRead q)
unfolding EachClock
held_of m q [] ns next e = []
held_of m q (x ∷ xs) [] next e = []
held_of m q (x ∷ xs) (n ∷ ns) next e =
    held_one_of q (read_split_of m q x.port n) x next e.0 ∷ held_of m q xs ns (next + (read_count_of q (read_split_of m q x.port n) x.port).nets) e.1

module _ (m : Mem) (q : Layout) where
  -- their structs, addresses and trits
  pub held_structs : (xs : List InPort) (ns : List ℕ) (next : ℕ) (e : EachClock xs) → map (λ (k : HeldRead q). k.struct) (held_of m q xs ns next e) ≡ structs_of m q xs ns next
  unfolding EachClock held_of structs_of
  held_structs [] ns next e = refl
  held_structs (x ∷ xs) [] next e = refl
  held_structs (x ∷ xs) (n ∷ ns) next e = ap (λ (l : List WideReadPort). wide_of (read_split_of m q x.port n) x.struct next ∷ l) (held_structs xs ns _ e.1)

  pub held_nets : (xs : List InPort) (ns : List ℕ) (next : ℕ) (e : EachClock xs) → concat_map (read_nets q) (held_of m q xs ns next e) ≡ addrs_of m q (ports_of xs) ns
  unfolding EachClock held_of read_nets
  held_nets [] ns next e = refl
  held_nets (x ∷ xs) [] next e = refl
  held_nets (x ∷ xs) (n ∷ ns) next e = ap (λ (l : Value). (read_split_of m q x.port n).addr ++ l) (held_nets xs ns _ e.1)

  pub held-trits : (xs : List InPort) (ns : List ℕ) (next : ℕ) (e : EachClock xs) → concat_map (read_trits q) (held_of m q xs ns next e) ≡ trits_of m q (ports_of xs) ns
  unfolding EachClock held_of read_trits
  held-trits [] ns next e = refl
  held-trits (x ∷ xs) [] next e = refl
  held-trits (x ∷ xs) (n ∷ ns) next e = ap (λ (l : List ℕ). port_trits q (read_split_of m q x.port n) x.port ++ l) (held-trits xs ns _ e.1)

  read_value : (s : Split) (p : ReadPort) (out : Value) (next : ℕ)
      → (swizzle_read q s p out next).value ≡ record { split = s; flip_flop = wide_flip_flop q s p.flip_flop; output = (add_voids (2 ^ s.new) (columns q) next).value }
  unfolding swizzle_read ◌>>=◌ ◌>>◌ done
  read_value s p out next = refl

  reads_value : (p : ReadPort) (ps : List ReadPort) (n : ℕ) (ns : List ℕ) (output : Value) (next : ℕ)
      → (swizzle_reads m q (p ∷ ps) (n ∷ ns) output next).value
      ≡ (swizzle_read q (read_split_of m q p n) p (take p.data_len output) next).value
      ∷ (swizzle_reads m q ps ns (drop p.data_len output) (swizzle_read q (read_split_of m q p n) p (take p.data_len output) next).next).value
  unfolding swizzle_reads ◌>>=◌ done
  reads_value p ps n ns output next = refl

  abbrev ports : List (HeldRead q) → List WideRead
  ports l = map (λ (k : HeldRead q). k.port) l

  held_none : (ns : List ℕ) (output : Value) (next : ℕ) (e : EachClock []) → ports (held_of m q [] ns next e) ≡ (swizzle_reads m q [] ns output next).value
  unfolding held_of swizzle_reads done
  held_none ns output next e = refl

  held_cons : (x : InPort) (xs : List InPort) (n : ℕ) (ns : List ℕ) (next : ℕ) (c : SameClock x) (e : EachClock xs)
      → ports (held_of m q (x ∷ xs) (n ∷ ns) next (both x xs c e))
      ≡ (held_one_of q (read_split_of m q x.port n) x next c).port ∷ ports (held_of m q xs ns (next + (read_count_of q (read_split_of m q x.port n) x.port).nets) e)
  unfolding held_of both
  held_cons x xs n ns next c e = refl

  -- they are the ports that the trace of the rules gives
  pub held_ports : (lp : LayoutPlanned m q) (room : ℕ) (xs : List InPort) (ns : List ℕ) (output : Value) (i : ℕ) (g : Going) → Left m q lp room xs ns output g → (e : EachClock xs)
      → ports (held_of m q xs ns g.lent.state.next e) ≡ (swizzle_reads m q (ports_of xs) ns output g.lent.state.next).value
  held_ports lp room [] ns output i g h e = held_none ns output g.lent.state.next e
  held_ports lp room (x ∷ xs) [] output i g h e = absurd (omega (arith, h.0.wides))
  held_ports lp room (x ∷ xs) (n ∷ ns) output i g h e =
      let p = x.port in
      let s = read_split_of m q p n in
      let out = take p.data_len output in
      let rest = drop p.data_len output in
      let next = g.lent.state.next in
      let nx = next_is m q lp room x xs n ns output i g h in
      let back = held_ports lp room xs ns rest (suc i) (port_done q s i x out g) (left_after m q lp room x xs n ns output i g h) (later x xs e) in
      let tail = ap (λ (k : ℕ). ports (held_of m q xs ns k (later x xs e))) (sym nx) ∙ back
      ∙ ap (λ (k : ℕ). (swizzle_reads m q (ports_of xs) ns rest k).value) (nx ∙ sym ((counts m q lp room x xs n ns output i g h).nets next)) in
      ap (λ (c : EachClock (x ∷ xs)). ports (held_of m q (x ∷ xs) (n ∷ ns) next c)) (both_is x xs e) ∙ held_cons x xs n ns next (first x xs e) (later x xs e)
      ∙ (λ k. sym (read_value s p out next) k ∷ tail k) ∙ sym (reads_value p (ports_of xs) n ns output next)
