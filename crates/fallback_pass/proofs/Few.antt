-- A bound of the nets of the split, where no number refused the fallback.
use mathlib.Core.Path.{◌≡◌, refl, ap, ◌∙◌}
use mathlib.Core.Logic.{◌≢◌, ⊎_elim}
use Prim.Native.Nat.{ℕ, ◌+◌, ◌*◌, ◌≤◌}
use native.Mathlib.Nat.{mul-le-mul, eq-zero-or-pos}
use native.Mathlib.Omega.{arith}
use mathlib.Core.List.{List, map}
use lib.ListN.{length}
use Rattle.rules.specs.Cell.{Mem, Plan}
use Rattle.rules.specs.Geometry.{Layout, layout_of}
use Rattle.rules.specs.Refusals.{lower_fallback_number}
use Rattle.rules.specs.Fallback.{fallback_plan}
use Rattle.rules.specs.Beside.Counts.{Count, swizzle_count}
use Rattle.net_memory.specs.declared.Memory.{Memory}
use Rattle.net_memory.specs.View.{memory_of}
use Rattle.net_memory.specs.Given.{given_of}
use Rattle.port_unmap_all.specs.All.{bare}
use Rattle.swizzle_laws.proofs.ReadsCounts.{reads_count_of}
use Rattle.swizzle_laws.proofs.WritesCounts.{writes_count_of}
use Rattle.fallback_bare.specs.Bare.{bare_of}
use Rattle.fallback_pass.specs.Split.{split_rows, split_nets}
use Rattle.fallback_pass.proofs.Number.{bare_is, mem_width, mem_depth_lem, depth_not, logs_low, sized}
use Rattle.fallback_pass.proofs.Refusal.{bare_reads, pieces_low, columns-all}
use Rattle.fallback_pass.proofs.Unmapped.{ready}
use Rattle.fallback_pass.proofs.Counts.{count_nets, rows_of, empty_of, count_is}
use Rattle.fallback_pass.proofs.Most.{writes_most, reads_most}

module _ (next : ℕ) (m : Memory) (nets trits output : List ℕ) (z : lower_fallback_number next (given_of m nets trits) output ≡ 0) where
  abbrev M : Mem
  M = memory_of m nets trits

  abbrev B : Mem
  B = memory_of (bare_of m) nets trits

  abbrev P : Plan
  P = fallback_plan B

  abbrev q : Layout
  q = layout_of B P

  -- what the write ports and the read ports take at most
  abbrev most : ℕ
  most = length M.writes * (M.depth + M.depth * M.width) + length M.reads * (2 * (M.depth * M.width))

  reads_are : B.reads ≡ map bare M.reads
  reads_are = ap (λ (v : Mem). v.reads) (bare_is next m nets trits output z) ∙ bare_reads M

  writes_same : length B.writes * (B.depth + B.depth * B.width) ≡ length M.writes * (M.depth + M.depth * M.width)
  unfolding memory_of
  writes_same = refl

  writes_nets : (writes_count_of B q B.writes P.write_wide).nets ≤ length M.writes * (M.depth + M.depth * M.width)
  writes_nets = omega (arith, writes_most B (omega (arith, logs_low next m nets trits output z)) (depth_not next m nets trits output z), writes_same)

  module _ (w : M.width ≢ 0) where
    reads_nets : (reads_count_of B q B.reads P.read_wide_of).nets ≤ length M.reads * (2 * (M.depth * M.width))
    reads_nets = reads_most B (M.depth * M.width) M.reads reads_are (omega (arith, columns-all next m nets trits output z w)) (pieces_low next m nets trits output z)

    rows_nets_lem : M.depth ≢ 0 → split_nets M ≤ most
    rows_nets_lem d =
        let a : (swizzle_count B P).nets ≡ (split_rows M).nets = ap (λ (c : Count). c.nets) (count_is next m nets trits output z) in
        omega (arith, (rows_of M d).1, a, count_nets B P, writes_nets, reads_nets)

    pub split_most : split_nets M ≤ most
    split_most = ⊎_elim (λ d. omega (arith, (empty_of M d).1)) (λ p. rows_nets_lem (λ d. omega (arith, p, d))) (eq-zero-or-pos M.depth)

    bits_max : M.depth * M.width ≤ 32768
    bits_max =
        let e : M.depth * M.width ≡ m.depth * m.width = λ i. mem_depth_lem next m nets trits output z i * mem_width next m nets trits output z i in
        omega (arith, e, (sized next m nets trits output z).bits_ok)

    -- with the limits of a memory
    pub split_max : split_nets M ≤ 1048576
    split_max =
        let r = ready next m nets trits output z in
        let d : M.depth ≤ 32768 = omega (arith, mem_depth_lem next m nets trits output z, (sized next m nets trits output z).depth_ok) in
        let a : length M.writes * (M.depth + M.depth * M.width) ≤ 524288 = mul-le-mul {n₂ = 8} {m₂ = 65536} r.few (omega (arith, d, bits_max)) in
        let b : length M.reads * (2 * (M.depth * M.width)) ≤ 524288 = mul-le-mul {n₂ = 8} {m₂ = 65536} r.reads_few (omega (arith, bits_max)) in
        omega (arith, split_most, a, b)
