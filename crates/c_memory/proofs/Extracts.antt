-- The struct of an extraction says what the library's answer says.
use mathlib.Core.Path.{◌≡◌, refl, sym, ap, subst, ◌∙◌}
use mathlib.Core.List.{List}
use Prim.Native.Nat.{ℕ}
use Rattle.std.specs.Prelude.{Result, Ok, Err}
use Rattle.lists.proofs.Choice.{leaves_refused, leaves_accepted}
use Rattle.rules.specs.declared.numbers.Refusal.{Refusal}
use Rattle.rules.specs.Refusal.{number}
use Rattle.rules.specs.Answers as answers
use Rattle.rules.proofs.Answers.{number_nonzero, answer_refused, answer_accepted}
use Rattle.net_memory.specs.declared.Memory.{Memory as MachineMemory}
use Rattle.net_memory.specs.View.{nets_total, trits_total}
use Rattle.net_memory.specs.Given.{given_of}
use Rattle.port_extract.specs.Extract.{driving_of, extracted_of as machine_extracted_of, with_ports, NewStruct}
use Rattle.c_memory.specs.declared.Memory.{Memory}
use Rattle.c_memory.specs.declared.Extracted.{Extracted}
use Rattle.c_memory.specs.View.{given_memory, memory_struct, zero_memory}
use Rattle.c_memory.specs.Calls.{extracted_struct, extracted_of, NewMemory}
use Rattle.c_memory.proofs.Back.{memory_back}

same_answer : (a : Result MachineMemory Refusal) (nets trits output : List ℕ) → extracted_of (extracted_struct a) nets trits output ≡ machine_extracted_of a nets trits output
same_answer (Ok w) nets trits output = λ i. record {
  answer = (answer_accepted 0 (driving_of (given_memory (memory_struct w)) nets trits output) refl ∙ ap (λ (x : MachineMemory). answers.Accepted (driving_of x nets trits output)) (memory_back w)) i;
  nets = nets;
  trits = trits;
  output = output;
}
same_answer (Err e) nets trits output = λ i. record {
  answer = answer_refused (number e) (driving_of (given_memory zero_memory) nets trits output) (number_nonzero e) i;
  nets = nets;
  trits = trits;
  output = output;
}

new_memory : (m : Memory) (nets trits list output : List ℕ) (a : Result MachineMemory Refusal) → NewStruct (given_memory m) nets trits list output a → NewMemory m nets trits list output (extracted_struct a)
new_memory m nets trits list output (Ok w) s = record {
  struct_is = ap memory_struct s.struct_is ∙ sym (leaves_accepted 0 zero_memory (memory_struct (with_ports (given_memory m) list)) refl);
  nets_long = λ z. ap nets_total (memory_back w) ∙ s.nets_long;
  trits_long = λ z. ap trits_total (memory_back w) ∙ s.trits_long;
}
new_memory m nets trits list output (Err e) s = record {
  struct_is = sym (leaves_refused (number e) zero_memory (memory_struct (with_ports (given_memory m) list)) (number_nonzero e));
  nets_long = λ z. absurd (number_nonzero e z);
  trits_long = λ z. absurd (number_nonzero e z);
}

-- what the exported function says, from what the library's says of the memory that the struct is
module _ (m : Memory) (g : MachineMemory) (same : g ≡ given_memory m) (a : Result MachineMemory Refusal) (r : Extracted) (made : r ≡ extracted_struct a) where
  pub answered : (roomNets roomTrits roomOutput nets' trits' output' nets trits list output : List ℕ)
      → machine_extracted_of a nets' trits' output' ≡ answers.extract_read_ports_call roomNets roomTrits roomOutput (given_of g nets trits) list output
      → extracted_of r nets' trits' output' ≡ answers.extract_read_ports_call roomNets roomTrits roomOutput (given_of (given_memory m) nets trits) list output
  answered roomNets roomTrits roomOutput nets' trits' output' nets trits list output q =
      ap (λ (x : Extracted). extracted_of x nets' trits' output') made
      ∙ same_answer a nets' trits' output'
      ∙ q
      ∙ ap (λ (x : MachineMemory). answers.extract_read_ports_call roomNets roomTrits roomOutput (given_of x nets trits) list output) same

  pub newly : (nets trits list output : List ℕ) → NewStruct g nets trits list output a → NewMemory m nets trits list output r
  newly nets trits list output s =
      subst (λ (x : Extracted). NewMemory m nets trits list output x) (sym made)
      (new_memory m nets trits list output a (subst (λ (x : MachineMemory). NewStruct x nets trits list output a) same s))
