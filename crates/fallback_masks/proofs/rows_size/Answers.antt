-- `fallback_masks::rows_size` meets its contract.
use Prim.Native.Nat.{◌≤◌}
use mathlib.Core.Path.{refl}
use native.Mathlib.Omega.{arith}
use Rattle.rules.specs.Limits.{max_depth, max_width}
use Rattle.net_memory.proofs.Sized.{writes_length, reads_length}
use Rattle.fallback_masks.proofs.Numbers.{deep_size, wide_size, flat_size, size_words_lem, size_nets_lem}
use Rattle.fallback_masks.proofs.rows_size.Goals.{then-m-gt-MAX_DEPTH-via-then-m-gt-MAX_DEPTH, then-m-gt-MAX_DEPTH-via-else-m-gt-MAX_DEPTH+then-m-gt-MAX_WIDTH, then-m-gt-MAX_DEPTH-via-else-m-gt-MAX_DEPTH+else-m-gt-MAX_WIDTH+then-m-eq0}
use Rattle.fallback_masks.proofs.rows_size.Goals as goal

pub returns-then-m-gt-MAX_DEPTH : goal.returns-then-m-gt-MAX_DEPTH
returns-then-m-gt-MAX_DEPTH c =
    let g = c.args.given in
    record {
      size = λ trits. elim c.then-m-gt-MAX_DEPTH.branch [
        | then-m-gt-MAX_DEPTH-via-then-m-gt-MAX_DEPTH w ↦ deep_size g.memory g.nets.now trits w.if-m-gt-MAX_DEPTH.true
        | then-m-gt-MAX_DEPTH-via-else-m-gt-MAX_DEPTH+then-m-gt-MAX_WIDTH w ↦ wide_size g.memory g.nets.now trits w.if-m-gt-MAX_WIDTH.true
        | then-m-gt-MAX_DEPTH-via-else-m-gt-MAX_DEPTH+else-m-gt-MAX_WIDTH+then-m-eq0 w ↦ flat_size g.memory g.nets.now trits w.if-m-eq0.true
      ];
      words_bound = (omega arith, omega arith);
    }

pub returns : goal.returns
returns c =
    let g = c.args.given in
    let m = g.memory in
    let nets = g.nets.now in
    let a : m.depth ≤ max_depth = omega (arith, c.if-m-gt-MAX_DEPTH.false) in
    let b : m.width ≤ max_width = omega (arith, c.if-m-gt-MAX_WIDTH.false) in
    let reads = c.ports_used-reads.ensures.0 in
    let writes = c.ports_used-writes.ensures.0 in
    let runs = c.ports_runs-runs.ensures.0 in
    let w = c.if-m-eq0.false in
    let lw = writes_length m _ c.well_formed.0.1.1.0 nets in
    record {
      size = λ trits.
          let lr = reads_length m _ c.well_formed.0.1.1.0 nets trits in
          let rows = c.widest_rows.ensures.0 trits in (
            size_words_lem m nets trits _ _ _ _ _ _ refl refl reads writes lr lw rows runs a b w _ c.words_by.ensures.0,
            size_nets_lem m nets trits _ _ _ _ _ _ refl refl reads writes lr lw rows runs a b w _ c.nets_by.ensures.0,
          );
      words_bound = (c.words_by.ensures.1, c.nets_by.ensures.1);
    }
