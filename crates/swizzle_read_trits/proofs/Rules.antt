-- A clocked read port's trits in lent room are those of the rules, in the order of the memories.
use mathlib.Core.Path.{◌≡◌, refl, sym, ap, ◌∙◌, subst}
use Prim.Native.Nat.{ℕ, ◌+◌, ◌*◌, ◌^◌, ◌≤◌}
use native.Mathlib.Nat.{mul_left_comm}
use native.Mathlib.Omega.{arith}
use mathlib.Core.List.{List, ◌++◌, append_assoc}
use mathlib.Core.Bool.{true}
use lib.ListN.{length, length-append}
use lib.Seq.{sets, length-sets}
use lib.Dec.{leb}
use borrow.Author.Tests.{le-leb}
use Rattle.lists.specs.Lists.{part}
use Rattle.lists.proofs.Store.{sets_append}
use Rattle.lists.proofs.Parts.{length_part}
use Rattle.rules.specs.Value.{Value}
use Rattle.rules.specs.Geometry.{Layout, all_mems}
use Rattle.rules.specs.Swizzle.{Split, split_addr, split_by, const_columns}
use Rattle.swizzle_laws.specs.Order.{ordered}
use Rattle.swizzle_laws.proofs.Places.{Splittable}
use Rattle.swizzle_laws.proofs.Parts.{length_ordered}
use Rattle.swizzle_laws.proofs.Whole.{const_whole}
use Rattle.swizzle_columns.specs.declared.WidePort.{WidePort}
use Rattle.swizzle_columns.specs.Wide.{PortFits}
use Rattle.swizzle_columns.proofs.Meaning.{Means, trits_rules}
use Rattle.swizzle_read_trits.specs.Trits.{put_trits, three_trits}

module _ (q : Layout) (old new : ℕ) (addr : Value) (ok : Splittable q old new addr) (p : WidePort) (m : Means q old new addr ok p) (size : ℕ)
    (f : PortFits p (length q.entries) size) where
  abbrev s : Split
  s = split_addr q old new addr

  new_is : s.new ≡ new
  unfolding split_addr split_by
  new_is = refl

  ordered_length : (v : List ℕ) → length (ordered q s (const_columns q s v)) ≡ size
  ordered_length v =
      length_ordered q s (const_columns q s v) (const_whole q s v)
      ∙ mul_left_comm (all_mems q) (2 ^ s.new) q.unit
      ∙ (λ i. 2 ^ new_is i * (all_mems q * q.unit))
      ∙ (λ i. sym m.rows_are i * (sym m.mems_are i * sym m.unit_is i))
      ∙ sym f.size_is

  put_rules : (v room : List ℕ) (at : ℕ) → at + size ≤ length room → put_trits p q.entries v at size room ≡ sets room at (ordered q s (const_columns q s v))
  unfolding put_trits
  put_rules v room at h =
      ap (sets room at) (trits_rules q old new addr ok p m v (part at size room) (subst (λ (k : ℕ). PortFits p (length q.entries) k) (sym (length_part at size room h)) f))

  -- the next kind goes behind
  put-behind : (a v room : List ℕ) (at n : ℕ) → n ≡ length a → at + n + size ≤ length room
      → put_trits p q.entries v (at + n) size (sets room at a) ≡ sets room at (a ++ ordered q s (const_columns q s v))
  put-behind a v room at n e h =
      put_rules v (sets room at a) (at + n) (omega (arith, length-sets room at a))
      ∙ ap (λ (k : ℕ). sets (sets room at a) (at + k) (ordered q s (const_columns q s v))) e
      ∙ sets_append a (ordered q s (const_columns q s v)) room at

  module _ (clear reset init : List ℕ) where
    abbrev a : List ℕ
    a = ordered q s (const_columns q s clear)

    abbrev b : List ℕ
    b = ordered q s (const_columns q s reset)

    abbrev c : List ℕ
    c = ordered q s (const_columns q s init)

    three_unfolds : (room : List ℕ) (at : ℕ) → leb (at + (size + (size + size))) (length room) ≡ true
        → three_trits p q.entries clear reset init at size room
        ≡ put_trits p q.entries init (at + (size + size)) size (put_trits p q.entries reset (at + size) size (put_trits p q.entries clear at size room))
    unfolding three_trits
    three_unfolds room at e = rw e

    two_length : size + size ≡ length (a ++ b)
    two_length = sum (length a) (length b) (length (a ++ b)) (ordered_length clear) (ordered_length reset) (length-append a b)
      where
        sum : (x y z : ℕ) → x ≡ size → y ≡ size → z ≡ x + y → size + size ≡ z
        sum x y z e g h = omega arith

    pub three_rules : (room : List ℕ) (at : ℕ) → at + (size + (size + size)) ≤ length room
        → three_trits p q.entries clear reset init at size room ≡ sets room at (a ++ (b ++ c))
    three_rules room at h =
        three_unfolds room at (le-leb _ _ h)
        ∙ ap (λ (l : List ℕ). put_trits p q.entries init (at + (size + size)) size (put_trits p q.entries reset (at + size) size l)) (put_rules clear room at (omega arith))
        ∙ ap (put_trits p q.entries init (at + (size + size)) size) (put-behind a reset room at size (sym (ordered_length clear)) (omega arith))
        ∙ put-behind (a ++ b) init room at (size + size) two_length (omega arith)
        ∙ ap (sets room at) (append_assoc a b c)

    pub three_length : length (a ++ (b ++ c)) ≡ size + (size + size)
    three_length =
        length-append a (b ++ c) ∙ ap (λ (k : ℕ). length a + k) (length-append b c)
        ∙ (λ i. ordered_length clear i + (ordered_length reset i + ordered_length init i))
