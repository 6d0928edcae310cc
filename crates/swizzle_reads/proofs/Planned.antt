-- All read ports of a memory under its plan: what the call leaves, in terms of the rules.
use mathlib.Core.Path.{◌≡◌, refl, sym, ap, ◌∙◌, subst}
use Prim.Native.Nat.{ℕ, ◌+◌, ◌-◌, ◌≤◌}
use mathlib.Core.Bool.{true}
use mathlib.Core.List.{List, [], ◌∷◌, map}
use lib.ListN.{length, take, drop}
use lib.Seq.{sets}
use Rattle.lists.specs.Lists.{concat_map}
use Rattle.lists.specs.Views.{views}
use Rattle.rules.specs.Value.{Value}
use Rattle.rules.specs.Cell as rules
use Rattle.rules.specs.Geometry.{Layout}
use Rattle.rules.specs.Swizzle.{swizzle_reads}
use Rattle.log_entries.specs.Emission.{run}
use Rattle.net_memory.specs.declared.Memory.{Memory}
use Rattle.net_memory.specs.declared.MemoryReadPort.{MemoryReadPort}
use Rattle.net_memory.specs.View.{memory_of, read_ports_of, addr_size, trit_size, read_by, reads_start}
use Rattle.swizzle_result.specs.Held.{HeldRead, read_trits, read_nets}
use Rattle.swizzle_reads.specs.Going.{Going, InPort, in_port, in_ports, ports_from, has_rows, reads_if}
use Rattle.swizzle_reads.specs.Planned.{addrs_of, trits_of, LayoutPlanned, ReadPlanned}
use Rattle.swizzle_reads.proofs.Layouts.{good_has}
use Rattle.swizzle_reads.proofs.Whole.{ports_of, with_read_ports, Left, all_done, reads_done}
use Rattle.swizzle_reads.proofs.Holding.{EachClock, views_clock, held_of, held_structs, held_nets, held-trits, held_ports}

views_ports : (ps : List MemoryReadPort) (l k : List ℕ) → ports_of (views addr_size trit_size in_port ps l k) ≡ views addr_size trit_size read_by ps l k
views_ports [] l k = refl
views_ports (r ∷ ps) l k =
    ap (λ (x : List rules.ReadPort). read_by r (take (addr_size r) l) (take (trit_size r) k) ∷ x) (views_ports ps (drop (addr_size r) l) (drop (trit_size r) k))

-- what the code goes over are the memory's read ports
pub ports_are : (m : Memory) (nets trits : List ℕ) → ports_of (in_ports m nets trits) ≡ (memory_of m nets trits).reads
unfolding memory_of
ports_are m nets trits = views_ports (read_ports_of m) (drop (reads_start m) nets) (drop m.init_len trits)

-- what all read ports leave, with the ports that hold them
pub record ReadsDone (M : rules.Mem) (q : Layout) (ns : List ℕ) (output : Value) (g g' : Going) (rs : List (HeldRead q)) : Type 0 where
  pub log_is : g'.lent ≡ run (swizzle_reads M q M.reads ns output) g.lent
  pub nets_are : g'.nets ≡ sets g.nets g.nets_at_of (addrs_of M q M.reads ns)
  pub trits_are : g'.trits ≡ sets g.trits g.trits_at_of (trits_of M q M.reads ns)
  pub nets_name_is : g'.nets_name ≡ g.nets_name
  pub trits_name_is : g'.trits_name ≡ g.trits_name
  pub nets_end : g'.nets_at_of ≡ g.nets_at_of + length (addrs_of M q M.reads ns)
  pub trits_end : g'.trits_at_of ≡ g.trits_at_of + length (trits_of M q M.reads ns)
  pub memory_is : g'.memory ≡ with_read_ports g.memory 0 (map (λ (k : HeldRead q). k.struct) rs)
  pub ports_held : map (λ (k : HeldRead q). k.port) rs ≡ (swizzle_reads M q M.reads ns output g.lent.state.next).value
  pub addrs_held : concat_map (read_nets q) rs ≡ addrs_of M q M.reads ns
  pub kinds_held : concat_map (read_trits q) rs ≡ trits_of M q M.reads ns

module _ (m : Memory) (nets trits : List ℕ) (q : Layout) (ns : List ℕ) (output : Value) (room : ℕ) (g : Going) where
  abbrev M : rules.Mem
  M = memory_of m nets trits

  abbrev xs : List InPort
  xs = in_ports m nets trits

  rows_done : has_rows q ≡ true → reads_if q room xs ns output g ≡ ports_from q room 0 xs ns output g
  unfolding reads_if
  rows_done e = rw e

  module _ (lp : LayoutPlanned M q) (nets_in : g.nets_at_of ≤ length g.nets) (trits_in_lem : g.trits_at_of ≤ length g.trits)
      (rp : ReadPlanned M q M.reads ns output room g.lent.state (length g.nets - g.nets_at_of) (length g.trits - g.trits_at_of)) where
    pub each : EachClock xs
    each = views_clock (read_ports_of m) (drop (reads_start m) nets) (drop m.init_len trits)

    -- the ports with the structs that hold them
    abbrev pub held_reads : List (HeldRead q)
    held_reads = held_of M q xs ns g.lent.state.next each

    left : Left M q lp room xs ns output g
    left = (
      subst (λ (ps : List rules.ReadPort). ReadPlanned M q ps ns output room g.lent.state (length g.nets - g.nets_at_of) (length g.trits - g.trits_at_of)) (sym (ports_are m nets trits)) rp,
      nets_in,
      trits_in_lem,
    )

    done_is : reads_if q room xs ns output g ≡ all_done M q 0 xs ns output g
    done_is = rows_done (good_has q lp.layout_good lp.width_some) ∙ reads_done M q lp room xs ns output 0 g left

    pub reads_planned : ReadsDone M q ns output g (reads_if q room xs ns output g) held_reads
    reads_planned =
        let e = ports_are m nets trits in
        let next = g.lent.state.next in
        record {
          log_is = ap (λ (x : Going). x.lent) done_is ∙ ap (λ (ps : List rules.ReadPort). run (swizzle_reads M q ps ns output) g.lent) e;
          nets_are = ap (λ (x : Going). x.nets) done_is ∙ ap (λ (ps : List rules.ReadPort). sets g.nets g.nets_at_of (addrs_of M q ps ns)) e;
          trits_are = ap (λ (x : Going). x.trits) done_is ∙ ap (λ (ps : List rules.ReadPort). sets g.trits g.trits_at_of (trits_of M q ps ns)) e;
          nets_name_is = ap (λ (x : Going). x.nets_name) done_is;
          trits_name_is = ap (λ (x : Going). x.trits_name) done_is;
          nets_end = ap (λ (x : Going). x.nets_at_of) done_is ∙ ap (λ (ps : List rules.ReadPort). g.nets_at_of + length (addrs_of M q ps ns)) e;
          trits_end = ap (λ (x : Going). x.trits_at_of) done_is ∙ ap (λ (ps : List rules.ReadPort). g.trits_at_of + length (trits_of M q ps ns)) e;
          memory_is = ap (λ (x : Going). x.memory) done_is ∙ ap (with_read_ports g.memory 0) (sym (held_structs M q xs ns next each));
          ports_held = held_ports M q lp room xs ns output 0 g left each ∙ ap (λ (ps : List rules.ReadPort). (swizzle_reads M q ps ns output next).value) e;
          addrs_held = held_nets M q xs ns next each ∙ ap (λ (ps : List rules.ReadPort). addrs_of M q ps ns) e;
          kinds_held = held-trits M q xs ns next each ∙ ap (λ (ps : List rules.ReadPort). trits_of M q ps ns) e;
        }
