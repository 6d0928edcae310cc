-- A port's needs by the numbers that the code has.
use mathlib.Core.Path.{◌≡◌, refl, sym, ap, ◌∙◌}
use Prim.Native.Nat.{ℕ, ◌+◌, ◌-◌, ◌*◌, ◌≤◌, ◌<◌, max}
use native.Mathlib.Nat.{add_assoc, add-zero, zero-add, sub-zero}
use native.Mathlib.Omega.{arith}
use mathlib.Core.Bool.{true}
use mathlib.Core.List.{List, [], ◌∷◌, map}
use lib.ListN.{length, get_or}
use Rattle.lists.specs.Lists.{up_from}
use Rattle.lists.proofs.UpFrom.{count_step, count_end}
use Rattle.rules.specs.Value.{Value}
use Rattle.rules.specs.Geometry.{Layout}
use Rattle.rules.specs.Swizzle.{split_addr}
use Rattle.net_memory.specs.declared.Memory.{Memory}
use Rattle.image_geometry.specs.declared.Params.{Params}
use Rattle.swizzle_split.specs.declared.Split as machine
use Rattle.std.specs.Prelude.{Option, None, Some}
use Rattle.std.specs.Option.{UnwrapsOrElse}
use Rattle.swizzle_split.specs.Steps.{can_split, Answers}
use Rattle.swizzle_counts.specs.declared.Needs.{Needs}
use Rattle.swizzle_counts.specs.Needs.{no_needs, plus_needs, all_needs, Most, port_most, Lengths, read_needs, reads_needs, write_needs, writes_needs}

-- ---- the answer of the split: there is one where the limits are kept
pub split_or : (q : Layout) (old new : ℕ) (addr hw₀ hw mux₀ mux : Value) (o : Option machine.Split) → Answers q old new addr hw₀ hw mux₀ mux o
    → (d : machine.Split → Type 0) (r : machine.Split) → UnwrapsOrElse o d r → can_split q old new (length addr) ≡ true → Lengths (split_addr q old new addr) r
split_or q old new addr hw₀ hw mux₀ mux None a d r e f =
    let g = a.cannot in
    let z : ◌≡◌ {A = ℕ} 0 1 = cc in absurd (omega arith)
split_or q old new addr hw₀ hw mux₀ mux (Some s) a d r e f = rw e (record { hw_len = a.splits.hw_len; mux_len = a.splits.mux_len; pieces_are = a.splits.pieces_are })

-- ---- sums
plus_assoc : (a b c : Needs) → plus_needs (plus_needs a b) c ≡ plus_needs a (plus_needs b c)
plus_assoc a b c = λ i. record {
  words = add_assoc a.words b.words c.words i;
  nets = add_assoc a.nets b.nets c.nets i;
  room = add_assoc a.room b.room c.room i;
  trits = add_assoc a.trits b.trits c.trits i;
  scratch = most a.scratch b.scratch c.scratch i;
}
  where
    most : (x y z : ℕ) → max (max x y) z ≡ max x (max y z)
    most x y z = omega arith

-- what stands before the first port
pub none_is : (n : Needs) → (n.words ≡ 0) × ((n.nets ≡ 0) × ((n.room ≡ 0) × ((n.trits ≡ 0) × (n.scratch ≡ 0)))) → n ≡ no_needs
none_is n d = λ i. record { words = d.0 i; nets = d.1.0 i; room = d.1.1.0 i; trits = d.1.1.1.0 i; scratch = d.1.1.1.1 i }

plus_none : (a : Needs) → plus_needs a no_needs ≡ a
plus_none a = λ i. record { words = add-zero a.words i; nets = add-zero a.nets i; room = add-zero a.room i; trits = add-zero a.trits i; scratch = same a.scratch i }
  where
    same : (x : ℕ) → max x 0 ≡ x
    same x = omega arith

none_plus : (a : Needs) → plus_needs no_needs a ≡ a
none_plus a = λ i. record { words = zero-add a.words i; nets = zero-add a.nets i; room = zero-add a.room i; trits = zero-add a.trits i; scratch = same a.scratch i }
  where
    same : (x : ℕ) → max 0 x ≡ x
    same x = omega arith

all_cons : (n : Needs) (ns : List Needs) → all_needs (n ∷ ns) ≡ plus_needs n (all_needs ns)
unfolding all_needs
all_cons n ns = refl

all_none : all_needs [] ≡ no_needs
unfolding all_needs
all_none = refl

module _ (f : ℕ → Needs) where
  pub needs_turn : (i n : ℕ) (acc one : Needs) → i < n → one ≡ f i → plus_needs acc (all_needs (map f (up_from i (n - i)))) ≡ all_needs (map f (up_from 0 n))
      → plus_needs (plus_needs acc one) (all_needs (map f (up_from (i + 1) (n - (i + 1))))) ≡ all_needs (map f (up_from 0 n))
  needs_turn i n acc one h e q =
      let rest = all_needs (map f (up_from (i + 1) (n - (i + 1)))) in
      ap (λ (x : Needs). plus_needs (plus_needs acc x) rest) e
      ∙ plus_assoc acc (f i) rest
      ∙ ap (plus_needs acc) (sym (all_cons (f i) (map f (up_from (i + 1) (n - (i + 1))))))
      ∙ ap (λ (l : List ℕ). plus_needs acc (all_needs (map f l))) (sym (count_step i n h)) ∙ q

  pub needs_end : (i n : ℕ) (acc : Needs) → n ≤ i → plus_needs acc (all_needs (map f (up_from i (n - i)))) ≡ all_needs (map f (up_from 0 n)) → acc ≡ all_needs (map f (up_from 0 n))
  needs_end i n acc h q = sym (plus_none acc) ∙ ap (plus_needs acc) (sym all_none) ∙ ap (λ (l : List ℕ). plus_needs acc (all_needs (map f l))) (sym (count_end i n h)) ∙ q

  pub needs_start : (n : ℕ) → plus_needs no_needs (all_needs (map f (up_from 0 (n - 0)))) ≡ all_needs (map f (up_from 0 n))
  needs_start n = none_plus _ ∙ ap (λ (k : ℕ). all_needs (map f (up_from 0 k))) (sub-zero n)

-- one more port
pub most-more : (i : ℕ) (a b : Needs) → Most (i * port_most) a → Most port_most b → Most ((i + 1) * port_most) (plus_needs a b)
most-more i a b h g = record {
  words_max = omega (arith, h.words_max, g.words_max);
  nets_max = omega (arith, h.nets_max, g.nets_max);
  room_max = omega (arith, h.room_max, g.room_max);
  trits_max = omega (arith, h.trits_max, g.trits_max);
}

pub most_up : (j k : ℕ) (a : Needs) → j ≤ k → Most j a → Most k a
most_up j k a e h = record {
  words_max = omega (arith, h.words_max);
  nets_max = omega (arith, h.nets_max);
  room_max = omega (arith, h.room_max);
  trits_max = omega (arith, h.trits_max);
}

-- ---- all read ports
pub reads_are : (r : Needs) (m : Memory) (nets : List ℕ) (p : Params) (columns : ℕ) (reads : List ℕ)
    → r ≡ all_needs (map (λ i. read_needs m nets p columns (get_or reads i 0) i) (up_from 0 (length reads))) → r ≡ reads_needs m nets p columns reads
unfolding reads_needs
reads_are r m nets p columns reads e = e

pub writes_are : (r : Needs) (m : Memory) (nets : List ℕ) (p : Params) (columns : ℕ) (es writes : List ℕ)
    → r ≡ all_needs (map (λ i. write_needs m nets p columns es (get_or writes i 0) i) (up_from 0 (length writes))) → r ≡ writes_needs m nets p columns es writes
unfolding writes_needs
writes_are r m nets p columns es writes e = e
