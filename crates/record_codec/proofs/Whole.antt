-- A record read by one reader: the words of its head, the numbers, and its trits from the head's end on.
use mathlib.Core.Path.{◌≡◌, refl, sym, ap, ◌∙◌}
use mathlib.Core.Logic.{◌≢◌}
use Prim.Native.Nat.{ℕ, ◌≤◌}
use native.Mathlib.Omega.{arith}
use mathlib.Core.Bool.{Bool, true, false}
use mathlib.Core.List.{List}
use lib.Dec.{eqb}
use lib.ListN.{length}
use lib.Seq.{sets}
use borrow.Author.Tests.{eqb-true, eqb-false}
use Rattle.lists.proofs.Choice.{leaves_refused, leaves_accepted}
use Rattle.rules.specs.Limits.{max_image}
use Rattle.rules.specs.Record.{size_trits, head_sizes}
use Rattle.rules.specs.Refusals.{read_record_refusal}
use Rattle.rules.specs.Answers.{answer_of, read_record_call}
use Rattle.rules.proofs.Answers.{answer_refused, answer_accepted}
use Rattle.rules.proofs.Headers.{kept}
use Rattle.record_reader.specs.Reading.{place_after_head, trits_there}
use Rattle.record_reader.proofs.Arrays.{all-trits, none_there}
use Rattle.record_reader.proofs.Runs.{six_on}
use Rattle.record_codec.specs.View.{view_head, to_take}
use Rattle.std.specs.Prelude.{Result}
use Rattle.rules.specs.declared.numbers.Refusal.{Refusal}
use Rattle.record_sizes.specs.declared.Sizes.{Sizes}
use Rattle.record_codec.proofs.Arrays.{whole}
use Rattle.record_codec.proofs.Reading.{head_there, record_good, read_good}

module _ (image bytes : List ℕ) where
  abbrev behind : ℕ
  behind = place_after_head bytes 0

  abbrev n : ℕ
  n = read_record_refusal (length image) bytes

  module _ (h : Result Sizes Refusal) (c : ℕ) (zs : List ℕ) (eh : view_head h ≡ answer_of n (head_sizes bytes)) (ec : c ≡ to_take (view_head h)) (ez : zs ≡ sets image 0 (trits_there c bytes behind)) where
    refused : n ≢ 0 → zs ≡ (read_record_call image bytes).image
    unfolding read_record_call
    refused f =
        let z : c ≡ 0 = ec ∙ ap to_take (eh ∙ answer_refused n (head_sizes bytes) f) in
        ez ∙ ap (λ (k : ℕ). sets image 0 (trits_there k bytes behind)) z ∙ ap (sets image 0) (none_there bytes behind) ∙ sym (leaves_refused n image _ f)

    accepted : n ≡ 0 → zs ≡ (read_record_call image bytes).image
    unfolding read_record_call
    accepted e =
        let g = record_good bytes (read_good bytes (length image) e) in
        let w = whole bytes g.0 in
        let t : size_trits (head_sizes bytes) ≤ max_image = (kept (head_sizes bytes) g.1).trits_max in
        let k : c ≡ size_trits (head_sizes bytes) = ec ∙ ap to_take (eh ∙ answer_accepted n (head_sizes bytes) e) ∙ omega arith in
        let p : behind ≡ 12 = six_on bytes (head_there bytes (length bytes) g.0) in
        ez ∙ ap (λ (x : ℕ). sets image 0 (trits_there x bytes behind)) k ∙ ap (λ (x : ℕ). sets image 0 (trits_there (size_trits (head_sizes bytes)) bytes x)) p ∙ ap (sets image 0) (all-trits bytes w (omega arith)) ∙ sym (leaves_accepted n image _ e)

    by_test : (b : Bool) → eqb n 0 ≡ b → zs ≡ (read_record_call image bytes).image
    by_test true e = accepted (eqb-true n 0 e)
    by_test false e = refused (eqb-false n 0 e)

    pub read_all : (view_head h ≡ (read_record_call image bytes).answer) × (zs ≡ (read_record_call image bytes).image)
    unfolding read_record_call
    read_all = (eh, by_test (eqb n 0) refl)
