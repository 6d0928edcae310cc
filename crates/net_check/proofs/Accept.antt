-- What is known of a memory that no number 1 to 4 refuses.
use mathlib.Core.Path.{◌≡◌}
use Prim.Native.Nat.{ℕ, ◌*◌, ◌≤◌}
use native.Mathlib.Omega.{arith}
use mathlib.Core.Bool.{Bool, false, not, ◌||◌}
use mathlib.Core.List.{List}
use lib.ListN.{length}
use lib.Dec.{eqb, ltb}
use borrow.Author.Tests.{ltb-false, eqb-true, not-false}
use Rattle.lists.specs.Lists.{any}
use Rattle.lists.proofs.Choice.{or_false, refused_not}
use Rattle.rules.specs.Limits.{max_depth, max_width, max_bits, max_ports}
use Rattle.rules.specs.Conditions.{too_large, bad_shape, bad_depth, bad_nets}
use Rattle.rules.specs.Refusals.{mem_number}
use Rattle.net_memory.specs.declared.Memory.{Memory}
use Rattle.net_memory.specs.Given.{too_many_ports, long_relations, bad_lens, given_of}
use Rattle.net_memory.specs.View.{memory_of, nets_total, trits_total, read_ports_of}

pub record Valid (one two four : Bool) (next : ℕ) (m : Memory) (nets trits : List ℕ) : Type 0 where
  pub one_not : one ≡ false
  pub two_not : two ≡ false
  pub four_not : four ≡ false
  pub large_not : too_large (memory_of m nets trits) ≡ false
  pub many_not : too_many_ports m ≡ false
  pub lens_not : bad_lens m (length nets) (length trits) ≡ false
  pub shape_not : bad_shape (memory_of m nets trits) ≡ false
  pub depth_not : bad_depth (memory_of m nets trits) ≡ false
  pub nets_not : bad_nets next (memory_of m nets trits) ≡ false

pub valid : (one two four : Bool) (next : ℕ) (m : Memory) (nets trits : List ℕ) → mem_number one two four next (given_of m nets trits) ≡ 0 → Valid one two four next m nets trits
unfolding mem_number
valid one two four next m nets trits e =
    let a = refused_not _ 1 _ (omega arith) e in
    let b = refused_not _ 2 _ (omega arith) a.1 in
    let c = refused_not _ 3 _ (omega arith) b.1 in
    let d = refused_not _ 4 _ (omega arith) c.1 in
    let a1 = or_false (too_large (memory_of m nets trits)) (too_many_ports m || one) a.0 in
    let a2 = or_false (too_many_ports m) one a1.1 in
    let b1 = or_false (bad_shape (memory_of m nets trits)) (bad_lens m (length nets) (length trits) || two) b.0 in
    let b2 = or_false (bad_lens m (length nets) (length trits)) two b1.1 in
    let d1 = or_false (bad_nets next (memory_of m nets trits)) four d.0 in
    record {
      one_not = a2.1;
      two_not = b2.1;
      four_not = d1.1;
      large_not = a1.0;
      many_not = a2.0;
      lens_not = b2.0;
      shape_not = b1.0;
      depth_not = c.0;
      nets_not = d1.0;
    }

-- as many ports as the struct says, and arrays as long
pub record Exact (m : Memory) (nets trits : List ℕ) : Type 0 where
  pub writes_few : m.write_count ≤ 8
  pub reads_few : m.read_count ≤ 8
  pub nets_exact : length nets ≡ nets_total m
  pub trits_exact : length trits ≡ trits_total m
  pub relations_few : any long_relations (read_ports_of m) ≡ false

pub exact : {one two four : Bool} {next : ℕ} {m : Memory} {nets trits : List ℕ} → Valid one two four next m nets trits → Exact m nets trits
unfolding too_many_ports bad_lens
exact {m = m} {nets = nets} {trits = trits} v =
    let a = or_false (ltb max_ports m.write_count) (ltb max_ports m.read_count) v.many_not in
    let b = or_false (not (eqb (length nets) (nets_total m))) _ v.lens_not in
    let c = or_false (not (eqb (length trits) (trits_total m))) _ b.1 in
    record {
      writes_few = ltb-false 8 m.write_count a.0;
      reads_few = ltb-false 8 m.read_count a.1;
      nets_exact = eqb-true (length nets) (nets_total m) (not-false _ b.0);
      trits_exact = eqb-true (length trits) (trits_total m) (not-false _ c.0);
      relations_few = c.1;
    }

pub record Sizes (m : Memory) : Type 0 where
  pub depth_ok : m.depth ≤ 32768
  pub width_ok : m.width ≤ 128
  pub bits_ok : m.depth * m.width ≤ 32768

pub sizes : {one two four : Bool} {next : ℕ} {m : Memory} {nets trits : List ℕ} → Valid one two four next m nets trits → Sizes m
unfolding too_large memory_of
sizes {m = m} {nets = nets} {trits = trits} v =
    let a = or_false (ltb max_depth m.depth) _ v.large_not in
    let b = or_false (ltb max_width m.width) _ a.1 in
    let c = or_false (ltb max_bits (m.depth * m.width)) _ b.1 in
    record { depth_ok = ltb-false max_depth m.depth a.0; width_ok = ltb-false max_width m.width b.0; bits_ok = ltb-false max_bits (m.depth * m.width) c.0 }
