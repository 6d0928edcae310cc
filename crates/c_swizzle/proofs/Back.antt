-- A library's struct of the memories, and its answer to a swizzle, as a caller's struct are, read again, what they were.
use mathlib.Core.Path.{◌≡◌, refl, sym, ap, ◌∙◌}
use mathlib.Core.Bool.{Bool, true, false}
use mathlib.Core.List.{List}
use Prim.Native.Nat.{ℕ}
use lib.Dec.{eqb}
use borrow.Author.Tests.{eqb-true, eqb-false}
use Rattle.rules.specs.Record as record-rules
use Rattle.rules.specs.Log as log-rules
use Rattle.rules.specs.Cell.{Given, Plan}
use Rattle.rules.specs.Value.{Value}
use Rattle.rules.specs.Swizzle.{swizzle_scratch}
use Rattle.rules.specs.Answers as answers
use Rattle.rules.specs.Answers.{SwizzleLent, swizzle_call}
use Rattle.rules.proofs.Answers.{answer_refused, answer_accepted, tells_refused, tells_accepted}
use Rattle.record_sizes.specs.View.{view_sizes}
use Rattle.image_state.specs.View.{laid_of}
use Rattle.swizzle_result.specs.declared.WideWritePort.{WideWritePort as MachineWrite}
use Rattle.swizzle_result.specs.declared.WideReadPort.{WideReadPort as MachineRead}
use Rattle.swizzle_result.specs.declared.WideMemory.{WideMemory as MachineWide}
use Rattle.swizzle_call.specs.Told.{Told}
use Rattle.swizzle_call.specs.Answer.{swizzled_of}
use Rattle.c_memory.proofs.Back.{net_back, flip_flop_back}
use Rattle.c_memory.proofs.Each.{undone}
use Rattle.c_record.specs.View.{head_struct}
use Rattle.c_swizzle.specs.View.{given_write, given_read, given_wide, write_struct, read_struct, wide_struct}
use Rattle.c_swizzle.specs.Calls.{swizzled_struct, given_swizzled}

write_back : (p : MachineWrite) → given_write (write_struct p) ≡ p
write_back p = λ i. record { addr_len = p.addr_len; wide = p.wide; clock = net_back p.clock i }

read_back : (p : MachineRead) → given_read (read_struct p) ≡ p
read_back p = λ i. record {
  addr_len = p.addr_len;
  wide = p.wide;
  first = p.first;
  relations_len = p.relations_len;
  relations = p.relations;
  flip_flop = flip_flop_back p.flip_flop i;
}

pub wide_back : (g : MachineWide) → given_wide (wide_struct g) ≡ g
unfolding given_wide wide_struct
wide_back g = λ i. record {
  full = g.full;
  mems = g.mems;
  full_depth = g.full_depth;
  part_depth = g.part_depth;
  unit = g.unit;
  write_count = g.write_count;
  read_count = g.read_count;
  write_ports = undone given_write write_struct write_back g.write_ports i;
  read_ports = undone given_read read_struct read_back g.read_ports i;
}

-- the sizes: the answer with this number, k the rules' number of the call
sizes_back : (n k : ℕ) (a : answers.Answer record-rules.Sizes) (s : record-rules.Sizes) → n ≡ k → a ≡ answers.answer_of k s → answers.answer_of n (view_sizes (head_struct a).sizes) ≡ a
sizes_back n k (answers.Refused j) s e h =
    let t = tells_refused k j s h in
    answer_refused n _ (λ z. t.1 (sym e ∙ z)) ∙ ap answers.Refused (e ∙ t.0)
sizes_back n k (answers.Accepted z) s e h = answer_accepted n z (e ∙ (tells_accepted k s z h).0)

-- an answer's number is the call's
same_number : {A : Type 0} (n k : ℕ) (a b : A) → answers.answer_of n a ≡ answers.answer_of k b → n ≡ k
same_number n k a b e = on (eqb n 0) refl
  where
    on : (t : Bool) → eqb n 0 ≡ t → n ≡ k
    on true h = let z = eqb-true n 0 h in z ∙ sym (tells_accepted k b a (sym (answer_accepted n a z) ∙ e)).0
    on false h = sym (tells_refused k n b (sym (answer_refused n a (eqb-false n 0 h)) ∙ e)).0

module _ (l : SwizzleLent) (log : List ℕ) (s : log-rules.LogState) (g : Given) (output : Value) (p : Plan) (x : Told) (log' image' nets' trits' scratch' : List ℕ)
    (e : swizzled_of x (swizzle_scratch g.mem p) log' image' nets' trits' scratch' ≡ swizzle_call l log s g output p) where
  sizes_of_lem : answers.answer_of x.refusal (view_sizes (head_struct x.sizes).sizes) ≡ x.sizes
  unfolding swizzle_call
  sizes_of_lem =
      sizes_back x.refusal _ x.sizes _
      (same_number x.refusal _ (laid_of x.laid) _ (ap (λ (r : answers.Swizzled). r.laid) e))
      (ap (λ (r : answers.Swizzled). r.sizes) e)

  pub swizzled_back : given_swizzled (swizzled_struct x) ≡ x
  swizzled_back = λ i. record {
    refusal = x.refusal;
    made = record { state = x.made.state; memory = wide_back x.made.memory i; nets_at = x.made.nets_at; trits_at = x.made.trits_at };
    laid = x.laid;
    sizes = sizes_of_lem i;
  }
