-- The whole answer of `extract_read_ports`, by its number.
use Rattle.std.specs.Prelude.{Ok, Err}
use mathlib.Core.Path.{◌≡◌, ap, ◌∙◌}
use Prim.Native.Nat.{ℕ, ◌+◌, ◌≤◌}
use mathlib.Core.List.{List}
use lib.ListN.{length, take, drop}
use lib.Seq.{sets}
use Rattle.rules.specs.Cell.{Given, output_len, flat_nets, flat_trits}
use Rattle.rules.specs.Ports.{Driving, extract_read_ports}
use Rattle.rules.specs.Refusals.{Rooms, extract_read_ports_refusal}
use Rattle.rules.specs.Answers as rules
use Rattle.rules.specs.Answers.{Refused, Accepted, answer_of, extract_read_ports_call}
use Rattle.rules.proofs.Answers.{answer_err, answer_ok, left_err, left_ok}
use Rattle.net_memory.specs.declared.Memory.{Memory}
use Rattle.net_memory.specs.Given.{given_of}
use Rattle.net_memory.specs.View.{memory_of, nets_total, trits_total}
use Rattle.rules.specs.declared.numbers.Refusal.{Refusal}
use Rattle.rules.specs.Refusal.{number}
use Rattle.port_extract.specs.Extract.{driving_of, extracted_of, with_ports, new_nets, new_trits, new_output, extraction_of, NewStruct}
use Rattle.port_extract.proofs.View.{nets_flat, trits-flat_is, extract_view, extract_nets, extract_trits}
use Rattle.port_extract.proofs.Outputs.{output_long}
use Rattle.port_extract.proofs.Stored.{behind, stored}
use Rattle.port_extract.proofs.Refused.{Good}

-- by the rules alone
module _ (rn rt ro : List ℕ) (g : Given) (list output : List ℕ) where
  abbrev refusal_of : ℕ
  refusal_of = extract_read_ports_refusal (record { nets = length rn; trits = length rt; output = length ro }) g list output

  abbrev d : Driving
  d = extract_read_ports g.mem list output

  call_refused : (e : Refusal) → number e ≡ refusal_of
      → ◌≡◌ {A = rules.Extracted} (record { answer = Refused (number e); nets = rn; trits = rt; output = ro }) (extract_read_ports_call rn rt ro g list output)
  unfolding extract_read_ports_call
  call_refused e h =
      λ i. record {
        answer = answer_err e refusal_of d h i;
        nets = left_err e refusal_of rn (sets rn 0 (flat_nets d.memory)) h i;
        trits = left_err e refusal_of rt (sets rt 0 (flat_trits d.memory)) h i;
        output = left_err e refusal_of ro (sets ro 0 d.output) h i;
      }

  call_accepted : (x : Driving) (rn' rt' ro' : List ℕ) → 0 ≡ refusal_of → x ≡ d
      → rn' ≡ sets rn 0 (flat_nets d.memory) → rt' ≡ sets rt 0 (flat_trits d.memory) → ro' ≡ sets ro 0 d.output
      → ◌≡◌ {A = rules.Extracted} (record { answer = Accepted x; nets = rn'; trits = rt'; output = ro' }) (extract_read_ports_call rn rt ro g list output)
  unfolding extract_read_ports_call
  call_accepted x rn' rt' ro' z e a b c =
      λ i. record {
        answer = answer_ok refusal_of d x z e i;
        nets = (a ∙ left_ok refusal_of rn (sets rn 0 (flat_nets d.memory)) z) i;
        trits = (b ∙ left_ok refusal_of rt (sets rt 0 (flat_trits d.memory)) z) i;
        output = (c ∙ left_ok refusal_of ro (sets ro 0 d.output) z) i;
      }

-- by what the code stores
module _ (rn rt ro : List ℕ) (m : Memory) (nets trits list output : List ℕ) where
  abbrev rooms : Rooms
  rooms = record { nets = length rn; trits = length rt; output = length ro }

  abbrev refusal : ℕ
  refusal = extract_read_ports_refusal rooms (given_of m nets trits) list output

  abbrev Call : rules.Extracted
  Call = extract_read_ports_call rn rt ro (given_of m nets trits) list output

  pub refused : (e : Refusal) → number e ≡ refusal → extracted_of (Err e) rn rt ro ≡ Call
  refused e h = call_refused rn rt ro (given_of m nets trits) list output e h

  module _ (eight : length m.read_ports ≡ 8) (y : Good m nets trits list output rooms) where
    abbrev n_flat : new_nets m nets list ≡ flat_nets (extraction_of m nets trits list output).memory
    n_flat = nets_flat m nets trits y.ready_is.nets_exact y.ready_is.trits_exact list output

    abbrev t_flat : new_trits m trits list ≡ flat_trits (extraction_of m nets trits list output).memory
    t_flat = trits-flat_is m nets trits y.ready_is.nets_exact y.ready_is.trits_exact list output

    n_fit : length (new_nets m nets list) ≤ length rn
    n_fit = rw n_flat y.nets_fit

    t_fit : length (new_trits m trits list) ≤ length rt
    t_fit = rw t_flat y.trits_fit

    view_is : memory_of (with_ports m list) (sets rn 0 (new_nets m nets list)) (sets rt 0 (new_trits m trits list)) ≡ (extraction_of m nets trits list output).memory
    view_is =
        (λ i. memory_of (with_ports m list) (behind rn (new_nets m nets list) n_fit i) (behind rt (new_trits m trits list) t_fit i))
        ∙ extract_view m nets trits y.ready_is.nets_exact y.ready_is.trits_exact list output eight y.ready_is.listed
        (drop (0 + length (new_nets m nets list)) rn) (drop (0 + length (new_trits m trits list)) rt)

    driving_is : driving_of (with_ports m list) (sets rn 0 (new_nets m nets list)) (sets rt 0 (new_trits m trits list)) (sets ro 0 (new_output m nets trits list output))
        ≡ extraction_of m nets trits list output
    driving_is =
        let new = new_output m nets trits list output in
        λ i. record {
          memory = view_is i;
          output = (ap (λ (n : ℕ). take n (sets ro 0 new)) (ap output_len view_is ∙ output_long (memory_of m nets trits) output y.output_exact list) ∙ stored ro new y.output_fits) i;
        }

    pub accepted : (w : Memory) (rn' rt' ro' : List ℕ) → 0 ≡ refusal → w ≡ with_ports m list
        → rn' ≡ sets rn 0 (new_nets m nets list) → rt' ≡ sets rt 0 (new_trits m trits list) → ro' ≡ sets ro 0 (new_output m nets trits list output)
        → extracted_of (Ok w) rn' rt' ro' ≡ Call
    accepted w rn' rt' ro' z p a b c =
        call_accepted rn rt ro (given_of m nets trits) list output (driving_of w rn' rt' ro') rn' rt' ro' z
        ((λ i. driving_of (p i) (a i) (b i) (c i)) ∙ driving_is) (a ∙ ap (sets rn 0) n_flat) (b ∙ ap (sets rt 0) t_flat) c

    pub newly : (w : Memory) → w ≡ with_ports m list → NewStruct m nets trits list output (Ok w)
    newly w p = record {
      struct_is = p;
      nets_long = ap nets_total p ∙ extract_nets m nets trits y.ready_is.nets_exact y.ready_is.trits_exact list output eight y.ready_is.listed ∙ ap length n_flat;
      trits_long = ap trits_total p ∙ extract_trits m nets trits y.ready_is.nets_exact y.ready_is.trits_exact list output eight y.ready_is.listed ∙ ap length t_flat;
    }
