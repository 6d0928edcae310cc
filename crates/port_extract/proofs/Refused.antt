-- The number of an extraction by its tests, and what is known where there is none.
use mathlib.Core.Path.{◌≡◌, refl, sym, ap, ◌∙◌}
use mathlib.Core.Logic.{◌≢◌}
use Prim.Native.Nat.{ℕ, ◌<◌, ◌≤◌, min}
use native.Mathlib.Omega.{arith}
use mathlib.Core.Bool.{true, false, ◌||◌}
use mathlib.Core.List.{List}
use lib.ListN.{length, get_or}
use lib.Dec.{ltb}
use borrow.Author.Tests.{ltb-false, leb-false, lt-ltb, le-ltb, eqb-true, not-false}
use Rattle.lists.specs.Lists.{any}
use Rattle.lists.proofs.All.{any_at}
use Rattle.lists.proofs.Choice.{else_first, else_rest, else_zero, if_zero, hit, miss, or_false, or_left, or_right}
use Rattle.rules.specs.Limits.{max_ports, max_nets}
use Rattle.rules.specs.Cell.{output_len, flat_nets, flat_trits}
use Rattle.rules.specs.Conditions.{long_list, bad_port, not_below, bad_output_len, bad_value, no_room_of}
use Rattle.rules.specs.Refusals.{Rooms, no_rooms, driving_number, driving_refusal, extract_read_ports_refusal}
use Rattle.net_memory.specs.declared.Memory.{Memory}
use Rattle.net_memory.specs.View.{reads_of, memory_of}
use Rattle.net_memory.specs.Given.{given_of}
use Rattle.net_check.proofs.Accept.{Valid, valid, exact}
use Rattle.port_extract.specs.Extract.{new_nets, new_trits, new_output, extraction_of, Ready}
use Rattle.port_extract.proofs.View.{nets_flat, trits-flat_is}

few_by : (list : List ℕ) → long_list list ≡ false → length list ≤ 8
unfolding long_list
few_by list e = ltb-false 8 (length list) e

pub long_by : (list : List ℕ) → ltb 8 (length list) ≡ long_list list
unfolding long_list
long_by list = refl

module _ (m : Memory) (nets trits list output : List ℕ) where
  abbrev driving : ℕ
  driving = driving_number (long_list list) max_nets (given_of m nets trits) output

  driving_valid : driving ≡ 0
      → Valid (long_list list) (bad_output_len (memory_of m nets trits) output) (bad_value max_nets output) max_nets m nets trits
  unfolding driving_number
  driving_valid e = valid (long_list list) (bad_output_len (memory_of m nets trits) output) (bad_value max_nets output) max_nets m nets trits e

  output_by_lem : bad_output_len (memory_of m nets trits) output ≡ false → length output ≡ output_len (memory_of m nets trits)
  unfolding bad_output_len
  output_by_lem e = eqb-true (length output) (output_len (memory_of m nets trits)) (not-false _ e)

  -- no number for the input
  pub ready : length (reads_of m nets trits) ≡ min max_ports m.read_count → driving ≡ 0 → any (bad_port (memory_of m nets trits)) list ≡ false → Ready m nets trits list
  unfolding bad_port not_below memory_of
  ready n z e =
      let v = driving_valid z in
      let x = exact v in
      record {
        listed = record {
          few = few_by list v.one_not;
          there = λ j h. omega (arith, n, leb-false (length (reads_of m nets trits)) (get_or list j 0) (any_at (bad_port (memory_of m nets trits)) list e j 0 h));
        };
        nets_exact = x.nets_exact;
        trits_exact = x.trits_exact;
      }

  module _ (r : Rooms) where
    pub by_number : (n : ℕ) → n ≡ driving → n ≢ 0 → n ≡ extract_read_ports_refusal r (given_of m nets trits) list output
    unfolding extract_read_ports_refusal
    by_number n e h = e ∙ sym (else_first driving _ (λ z. h (e ∙ z)))

    module _ (z : driving ≡ 0) where
      pub by_port : any (bad_port (memory_of m nets trits)) list ≡ true → 15 ≡ extract_read_ports_refusal r (given_of m nets trits) list output
      unfolding extract_read_ports_refusal
      by_port e = hit 15 _ e ∙ sym (else_rest driving _ z)

      pub by_room : any (bad_port (memory_of m nets trits)) list ≡ false → no_rooms r (extraction_of m nets trits list output) ≡ true
          → 20 ≡ extract_read_ports_refusal r (given_of m nets trits) list output
      unfolding extract_read_ports_refusal driving_refusal
      by_room e f = miss 15 _ 20 e (hit 20 _ f) ∙ sym (else_rest driving _ z)

      pub by_none : any (bad_port (memory_of m nets trits)) list ≡ false → no_rooms r (extraction_of m nets trits list output) ≡ false
          → 0 ≡ extract_read_ports_refusal r (given_of m nets trits) list output
      unfolding extract_read_ports_refusal driving_refusal
      by_none e f = miss 15 _ 0 e (miss 20 _ 0 f refl) ∙ sym (else_rest driving _ z)

    -- no number at all
    pub record Good : Type 0 where
      pub ready_is : Ready m nets trits list
      pub output_exact : length output ≡ output_len (memory_of m nets trits)
      pub nets_fit : length (flat_nets (extraction_of m nets trits list output).memory) ≤ r.nets
      pub trits_fit : length (flat_trits (extraction_of m nets trits list output).memory) ≤ r.trits
      pub output_fits : length (new_output m nets trits list output) ≤ r.output

    pub good : length (reads_of m nets trits) ≡ min max_ports m.read_count → extract_read_ports_refusal r (given_of m nets trits) list output ≡ 0 → Good
    unfolding extract_read_ports_refusal driving_refusal no_rooms no_room_of
    good n e =
        let d = else_zero driving _ e in
        let p = if_zero (any (bad_port (memory_of m nets trits)) list) 14 _ d.1 in
        let q = (if_zero (no_rooms r (extraction_of m nets trits list output)) 19 0 p.1).0 in
        let a = or_false (ltb r.nets (length (flat_nets (extraction_of m nets trits list output).memory))) _ q in
        let b = or_false (ltb r.trits (length (flat_trits (extraction_of m nets trits list output).memory))) _ a.1 in
        record {
          ready_is = ready n d.0 p.0;
          output_exact = output_by_lem (driving_valid d.0).two_not;
          nets_fit = ltb-false r.nets _ a.0;
          trits_fit = ltb-false r.trits _ b.0;
          output_fits = ltb-false r.output _ b.1;
        }

-- the rooms, one after the other
module _ (m : Memory) (nets trits list output : List ℕ) (r : Rooms) (y : Ready m nets trits list) where
  nets_need : (n : ℕ) → n ≡ length (new_nets m nets list) → n ≡ length (flat_nets (extraction_of m nets trits list output).memory)
  nets_need n e = e ∙ ap length (nets_flat m nets trits y.nets_exact y.trits_exact list output)

  trits_need : (k : ℕ) → k ≡ length (new_trits m trits list) → k ≡ length (flat_trits (extraction_of m nets trits list output).memory)
  trits_need k e = e ∙ ap length (trits-flat_is m nets trits y.nets_exact y.trits_exact list output)

  pub nets_short : (n : ℕ) → n ≡ length (new_nets m nets list) → r.nets < n → true ≡ no_rooms r (extraction_of m nets trits list output)
  unfolding no_rooms no_room_of
  nets_short n e h = sym (or_left _ (ap (ltb r.nets) (sym (nets_need n e)) ∙ lt-ltb r.nets n h))

  pub trits_short : (n k : ℕ) → n ≡ length (new_nets m nets list) → n ≤ r.nets → k ≡ length (new_trits m trits list) → r.trits < k
      → true ≡ no_rooms r (extraction_of m nets trits list output)
  unfolding no_rooms no_room_of
  trits_short n k e h f g =
      sym (or_right (ap (ltb r.nets) (sym (nets_need n e)) ∙ le-ltb r.nets n h) (or_left _ (ap (ltb r.trits) (sym (trits_need k f)) ∙ lt-ltb r.trits k g)))

  pub output_short : (n k j : ℕ) → n ≡ length (new_nets m nets list) → n ≤ r.nets → k ≡ length (new_trits m trits list) → k ≤ r.trits
      → j ≡ length (new_output m nets trits list output) → ltb r.output j ≡ no_rooms r (extraction_of m nets trits list output)
  unfolding no_rooms no_room_of
  output_short n k j e h f g q =
      ap (ltb r.output) q
      ∙ sym ((λ i.
      (ap (ltb r.nets) (sym (nets_need n e)) ∙ le-ltb r.nets n h) i
      || ((ap (ltb r.trits) (sym (trits_need k f)) ∙ le-ltb r.trits k g) i || ltb r.output (length (new_output m nets trits list output)))))
