-- The steps from a table to its record.
use mathlib.Core.Path.{◌≡◌, ap}
use mathlib.Core.Logic.{◌≢◌}
use Prim.Native.Nat.{ℕ, ◌*◌}
use mathlib.Core.List.{List}
use lib.ListN.{length, replicate, take}
use borrow.Author.Tests.{eq-eqb, ne_eqb}
use Rattle.rules.specs.Limits.{max_image}
use Rattle.rules.specs.Geometry.{Layout}
use Rattle.rules.specs.Image.{Laid}
use Rattle.rules.specs.Record.{Sizes, record_bytes}
use Rattle.rules.specs.Refusals.{write_record_refusal}
use Rattle.rules.specs.Answers.{Answer, Refused, Accepted, answer_of, sizes_call, write_record_call, Listed}
use Rattle.rules.specs.Beside.Shape.{handed_on}
use Rattle.rules.specs.Beside.Layouts.{fill_call}
use Rattle.table_read.specs.declared.Table.{Table}
use Rattle.std.specs.Prelude.{Ok}
use Rattle.table_read.specs.View.{layout_in, parsed_of}
use Rattle.table_record.specs.Split.{record_call, filled_record, rows_record, IsSplit, split_by}

-- ---- the record of an image
pub not_sized : (out image : List ℕ) (n : ℕ) (s : Answer Sizes) → s ≡ Refused n → record { answer = Refused n; out = out } ≡ record_call out s image
unfolding record_call
not_sized out image n s e = rw e

pub sized : (out image after : List ℕ) (z : Sizes) (s : Answer Sizes) (r : Answer ℕ) → s ≡ Accepted z → r ≡ answer_of (write_record_refusal (length out) z image) (record_bytes z)
    → after ≡ (write_record_call out z image).out → record { answer = r; out = after } ≡ record_call out s image
unfolding record_call
sized out image after z s r e f g = rw (e, f, g)

-- ---- of rows
module _ (out rows : List ℕ) (q : Layout) (laid : Laid) (h : laid ≡ handed_on q) (n : ℕ) (image : List ℕ) where
  pub not_filled : record { number = n; out = image } ≡ fill_call laid rows (replicate max_image 0) → n ≢ 0 → record { answer = Refused n; out = out } ≡ rows_record out q rows
  unfolding rows_record filled_record
  not_filled f e = rw (← h, ← f, ne_eqb n 0 e)

  pub is_filled : record { number = n; out = image } ≡ fill_call laid rows (replicate max_image 0) → n ≡ 0 → (s : Answer Sizes) → s ≡ sizes_call laid
      → record_call out s image ≡ rows_record out q rows
  unfolding rows_record filled_record
  is_filled f e s k = rw (← h, ← f, eq-eqb n 0 e, k)

-- ---- of a text
pub of_text : (t : Table) (out after : List ℕ) (q : Layout) (ts : List ℕ) (a : Answer ℕ) → q ≡ layout_in t → ts ≡ take (t.params.depth * t.params.width) t.rows
    → record { answer = a; out = after } ≡ rows_record out q ts → record { answer = IsSplit a; out = after } ≡ split_by out (parsed_of (Ok t))
unfolding split_by parsed_of
of_text t out after q ts a e f g = ap (λ (l : Listed). record { answer = IsSplit l.answer; out = l.out }) (rw (e, f) at g)
