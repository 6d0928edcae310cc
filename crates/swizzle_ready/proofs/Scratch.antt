-- The scratch that the read ports may write is the scratch of the rules.
use mathlib.Core.Path.{◌≡◌, refl, sym, ap, ◌∙◌, subst}
use mathlib.Core.Logic.{◌≢◌}
use Prim.Native.Nat.{ℕ, ◌*◌, max}
use mathlib.Core.List.{List, [], ◌∷◌, map}
use Rattle.lists.specs.Lists.{pairs}
use Rattle.rules.specs.Numbers.{largest}
use Rattle.rules.specs.Value.{Value}
use Rattle.rules.specs.Cell.{ReadPort, Mem, Plan, read_wide_log2}
use Rattle.rules.specs.Log.{LogState}
use Rattle.rules.specs.Geometry.{Layout, layout_of}
use Rattle.rules.specs.Swizzle.{split_addr, piece_nets, swizzle_scratch}
use Rattle.rules.specs.Refusals.{SwizzleRooms, swizzle_refusal}
use Rattle.net_memory.specs.declared.Memory.{Memory}
use Rattle.net_memory.specs.View.{memory_of}
use Rattle.net_memory.specs.Given.{given_of}
use Rattle.swizzle_facts.specs.Passed.{ReadPassed, EachPair}
use Rattle.swizzle_reads.specs.Going.{InPort, in_ports, need_of, most_need}
use Rattle.swizzle_reads.proofs.Whole.{ports_of}
use Rattle.swizzle_reads.proofs.Planned.{ports_are}
use Rattle.swizzle_ready.proofs.Tests.{rows_scratch}
use Rattle.swizzle_ready.proofs.Planned.{read_pairs}

module _ (m : Mem) (p : Plan) where
  abbrev q : Layout
  q = layout_of m p

  one_need : (x : InPort) (n : ℕ) → ReadPassed m q x.port n → need_of q x n ≡ piece_nets m p (x.port, n)
  unfolding piece_nets read_wide_log2 layout_of
  one_need x n o = ap (λ (k : ℕ). (split_addr q (read_wide_log2 m x.port) n x.port.addr).pieces * k) (sym o.size_is)

  pub all_need : (xs : List InPort) (ns : List ℕ) → EachPair (ReadPassed m q) (ports_of xs) ns → most_need q xs ns ≡ largest (map (piece_nets m p) (pairs (ports_of xs) ns))
  unfolding EachPair most_need largest
  all_need [] ns e = refl
  all_need (x ∷ xs) [] e = absurd e
  all_need (x ∷ xs) (n ∷ ns) e = λ i. max (one_need x n e.0 i) (all_need xs ns e.1 i)

module _ (r : SwizzleRooms) (room : ℕ) (s : LogState) (mem : Memory) (nets trits : List ℕ) (output : Value) (p : Plan) (e : swizzle_refusal r room s (given_of mem nets trits) output p ≡ 0)
    (w : (memory_of mem nets trits).width ≢ 0) (d : (memory_of mem nets trits).depth ≢ 0) where
  abbrev M : Mem
  M = memory_of mem nets trits

  pub scratch_is : most_need (layout_of M p) (in_ports mem nets trits) p.read_wide_of ≡ swizzle_scratch M p
  scratch_is =
      all_need M p (in_ports mem nets trits) p.read_wide_of
      (subst (λ (l : List ReadPort). EachPair (ReadPassed M (layout_of M p)) l p.read_wide_of) (sym (ports_are mem nets trits)) (read_pairs r room s (given_of mem nets trits) output p e w d))
      ∙ ap (λ (l : List ReadPort). largest (map (piece_nets M p) (pairs l p.read_wide_of))) (ports_are mem nets trits)
      ∙ sym (rows_scratch r room s (given_of mem nets trits) output p e w d)
