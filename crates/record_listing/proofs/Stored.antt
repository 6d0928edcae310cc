-- A program that stores no more of its input than the longest record takes, and counts the rest, lists what the lister lists.
use mathlib.Core.Path.{◌≡◌, refl, sym, ap, ◌∙◌}
use mathlib.Core.Logic.{◌≢◌}
use Prim.Native.Nat.{ℕ, suc, ◌<◌, ◌≤◌}
use native.Mathlib.Omega.{arith}
use mathlib.Core.List.{List}
use lib.ListN.{length, take}
use lib.Seq.{take_all, length-take-le, get_or-take}
use borrow.Author.Tests.{le-ltb}
use Rattle.lists.specs.Choice.{◌or_else◌}
use Rattle.lists.proofs.Choice.{cases_le, else_first, else_zero}
use Rattle.rules.specs.Limits.{head_bytes, max_record}
use Rattle.rules.specs.Numbers.{ceil_div}
use Rattle.rules.specs.Record.{array_bytes, word_at, head_sizes}
use Rattle.rules.specs.Refusals.{record_number, header_refusal}
use Rattle.rules.specs.Lister.{lister}
use Rattle.rules.specs.Beside.Stored.{lister_stored}
use Rattle.rules.proofs.Headers.{kept}
use Rattle.record_codec.proofs.Arrays.{whole}
use Rattle.record_codec.proofs.Reading.{head_good}
use Rattle.rules.specs.Conditions.{bad_head}
use Rattle.record_listing.proofs.Puts.{lister_refused, stored_whole, stored_part}

module _ (bytes : List ℕ) where
  first : List ℕ
  first = take max_record bytes

  -- ---- an input that is longer than any record
  module _ (long : max_record < length bytes) where
    length_first : length first ≡ 32780
    unfolding first
    length_first = length-take-le max_record bytes (omega arith)

    word_same : (i : ℕ) → i < 32779 → word_at first i ≡ word_at bytes i
    unfolding word_at first
    word_same i h = rw (get_or-take max_record bytes i 0 (omega arith), get_or-take max_record bytes (suc i) 0 (omega arith))

    sizes_same : head_sizes first ≡ head_sizes bytes
    unfolding head_sizes
    sizes_same =
        let a = word_same 2 (omega arith) in
        let b = word_same 4 (omega arith) in
        let c = word_same 6 (omega arith) in
        let d = word_same 8 (omega arith) in
        let f = word_same 10 (omega arith) in
        λ i. record { unit = a i; full = b i; full_depth_of = c i; partial = d i; partial_depth = f i }

    head_same : (total : ℕ) → bad_head first total ≡ bad_head bytes total
    unfolding bad_head
    head_same total =
        rw (le-ltb (length first) head_bytes (omega (arith, length_first)), le-ltb (length bytes) head_bytes (omega arith), word_same 0 (omega arith), sizes_same)

    refusal_same : (total : ℕ) → header_refusal first total ≡ header_refusal bytes total
    unfolding header_refusal
    refusal_same total = rw (head_same total, sizes_same)

    -- no record is so long
    too_long : header_refusal bytes (length bytes) ≢ 0
    unfolding array_bytes ceil_div
    too_long e =
        let g = head_good bytes e in
        omega (arith, whole bytes g.0, (kept (head_sizes bytes) g.1).trits_max)

    number_is : (header_refusal first (length bytes) or_else 16) ≡ record_number bytes
    unfolding record_number
    number_is =
        else_first (header_refusal first (length bytes)) 16 (λ z. too_long (sym (refusal_same (length bytes)) ∙ z))
        ∙ refusal_same (length bytes)
        ∙ sym (else_first (header_refusal bytes (length bytes)) _ too_long)

    not_zero : record_number bytes ≢ 0
    unfolding record_number
    not_zero e = too_long (else_zero (header_refusal bytes (length bytes)) _ e).0

    long_listed : lister_stored first (length bytes) ≡ lister bytes
    long_listed =
        sym (stored_part first (length bytes) (record_number bytes) (λ e. absurd (omega (arith, length_first))) (sym number_is)) ∙ lister_refused bytes (record_number bytes) refl not_zero

  short_listed : length bytes ≤ max_record → lister_stored first (length bytes) ≡ lister bytes
  unfolding first
  short_listed h = ap (λ (l : List ℕ). lister_stored l (length bytes)) (take_all max_record bytes h) ∙ sym (stored_whole bytes (length bytes) refl)

  pub stored_listed : lister_stored (take max_record bytes) (length bytes) ≡ lister bytes
  unfolding first
  stored_listed = cases_le (length bytes) max_record short_listed long_listed
