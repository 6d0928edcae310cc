-- Reading: the numbers in their order, and what they leave known.
use mathlib.Core.Path.{◌≡◌, refl, sym, ◌∙◌}
use mathlib.Core.Bool.{true, false}
use Prim.Native.Nat.{ℕ, ◌<◌, ◌≤◌}
use mathlib.Core.List.{List}
use lib.Dec.{ltb}
use lib.ListN.{length}
use borrow.Author.Tests.{lt-ltb, le-ltb, ltb-false}
use Rattle.lists.proofs.Choice.{or_false, if_zero, else_rest, else_zero, hit, miss}
use Rattle.rules.specs.Record.{size_trits, head_sizes}
use Rattle.rules.specs.Conditions.{bad_head, bad_sizes, bad_bits, no_room_of}
use Rattle.rules.specs.Refusals.{record_number, read_record_refusal, header_refusal}

-- a head that is good is there, whatever the record's length
module _ (first : List ℕ) (total : ℕ) where
  pub head_there : bad_head first total ≡ false → 12 ≤ length first
  unfolding bad_head
  head_there e = ltb-false (length first) 12 (or_false (ltb (length first) 12) _ e).0

  pub header_head : header_refusal first total ≡ 0 → bad_head first total ≡ false
  unfolding header_refusal
  header_head e = (if_zero (bad_head first total) 15 _ e).0

module _ (bytes : List ℕ) where
  -- a head that no number refuses
  pub head_good : header_refusal bytes (length bytes) ≡ 0 → (bad_head bytes (length bytes) ≡ false) × (bad_sizes (head_sizes bytes) ≡ false)
  unfolding header_refusal
  head_good e =
      let a = if_zero (bad_head bytes (length bytes)) 15 _ e in
      (a.0, (if_zero (bad_sizes (head_sizes bytes)) 16 0 a.1).0)

  pub record_good : record_number bytes ≡ 0 → (bad_head bytes (length bytes) ≡ false) × (bad_sizes (head_sizes bytes) ≡ false) × (bad_bits bytes ≡ false)
  unfolding record_number
  record_good e =
      let z = else_zero (header_refusal bytes (length bytes)) _ e in
      let h = head_good z.0 in
      (h.0, h.1, (if_zero (bad_bits bytes) 17 0 z.1).0)

  -- ---- 16, 17, 18
  module _ (e : header_refusal bytes (length bytes) ≡ 0) where
    pub record_18 : bad_bits bytes ≡ true → 18 ≡ record_number bytes
    unfolding record_number
    record_18 b = hit 18 0 b ∙ sym (else_rest (header_refusal bytes (length bytes)) _ e)

    pub record_0 : bad_bits bytes ≡ false → 0 ≡ record_number bytes
    unfolding record_number
    record_0 b = miss 18 0 0 b refl ∙ sym (else_rest (header_refusal bytes (length bytes)) _ e)

  -- ---- and 20
  module _ (room : ℕ) where
    module _ (e : record_number bytes ≡ 0) where
      pub read_20 : room < size_trits (head_sizes bytes) → 20 ≡ read_record_refusal room bytes
      unfolding read_record_refusal no_room_of
      read_20 h = hit 20 0 (lt-ltb room (size_trits (head_sizes bytes)) h) ∙ sym (else_rest (record_number bytes) _ e)

      pub read_0 : size_trits (head_sizes bytes) ≤ room → 0 ≡ read_record_refusal room bytes
      unfolding read_record_refusal no_room_of
      read_0 h = miss 20 0 0 (le-ltb room (size_trits (head_sizes bytes)) h) refl ∙ sym (else_rest (record_number bytes) _ e)

    pub read_good : read_record_refusal room bytes ≡ 0 → record_number bytes ≡ 0
    unfolding read_record_refusal
    read_good e = (else_zero (record_number bytes) _ e).0

    pub read_room_lem : read_record_refusal room bytes ≡ 0 → size_trits (head_sizes bytes) ≤ room
    unfolding read_record_refusal no_room_of
    read_room_lem e = ltb-false room (size_trits (head_sizes bytes)) (if_zero (no_room_of room (size_trits (head_sizes bytes))) 19 0 (else_zero (record_number bytes) _ e).1).0
