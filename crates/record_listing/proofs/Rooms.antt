-- A text in lent room: it is stored whole, or 20 refuses the call and the room is as it was.
use mathlib.Core.Path.{◌≡◌, refl, sym, ap, ◌∙◌}
use mathlib.Core.Logic.{◌≢◌}
use Prim.Native.Nat.{ℕ, ◌<◌, ◌≤◌}
use native.Mathlib.Omega.{arith}
use mathlib.Core.List.{List}
use lib.ListN.{length}
use lib.Seq.{sets}
use borrow.Author.Tests.{lt-ltb, le-ltb}
use Rattle.lists.proofs.Choice.{leaves_refused, leaves_accepted}
use Rattle.rules.specs.Conditions.{no_room_of}
use Rattle.rules.specs.Refusals.{lent_refusal}
use Rattle.rules.specs.Answers.{Refused, Accepted, listed_in, list_record_call}
use Rattle.rules.specs.Beside.Stored.{lister_stored, list_input_call}
use Rattle.rules.proofs.Answers.{answer_refused, answer_accepted}
use Rattle.record_listing.specs.Put.{Put}
use Rattle.record_listing.specs.Text.{listed_as}
use Rattle.std.specs.Prelude.{Ok, Err}
use Rattle.rules.specs.declared.numbers.Refusal.TheVariants.{NoRoom}
use Rattle.record_listing.proofs.Puts.{stored_whole}

module _ (l text : List ℕ) where
  short : length l < length text → lent_refusal (length l) (length text) ≡ 20
  unfolding no_room_of
  short h = rw (lt-ltb (length l) (length text) h)

  enough : length text ≤ length l → lent_refusal (length l) (length text) ≡ 0
  unfolding no_room_of
  enough h = rw (le-ltb (length l) (length text) h)

  refused : length l < length text → listed_as (Err NoRoom) l ≡ listed_in (lent_refusal (length l) (length text)) l text
  refused h =
      let e = short h in
      let f : lent_refusal (length l) (length text) ≢ 0 = λ z. absurd (omega (arith, e, z)) in
      let a = sym (answer_refused (lent_refusal (length l) (length text)) (length text) f ∙ ap Refused e) in
      let b = sym (leaves_refused (lent_refusal (length l) (length text)) l (sets l 0 text) f) in
      λ i. record { answer = a i; out = b i }

  accepted : (after : List ℕ) (n : ℕ) → Put l 0 text after n → length text ≤ length l → listed_as (Ok n) after ≡ listed_in (lent_refusal (length l) (length text)) l text
  accepted after n p h =
      let e = enough h in
      let z : n ≡ length text = p.place ∙ omega arith in
      let a = ap Accepted z ∙ sym (answer_accepted (lent_refusal (length l) (length text)) (length text) e) in
      let b = p.stored ∙ sym (leaves_accepted (lent_refusal (length l) (length text)) l (sets l 0 text) e) in
      λ i. record { answer = a i; out = b i }

module _ (l first : List ℕ) (total : ℕ) where
  pub input_refused : length l < length (lister_stored first total) → listed_as (Err NoRoom) l ≡ list_input_call l first total
  unfolding list_input_call
  input_refused h = refused l (lister_stored first total) h

  pub input_accepted : (after : List ℕ) (n : ℕ) → Put l 0 (lister_stored first total) after n → length (lister_stored first total) ≤ length l → listed_as (Ok n) after ≡ list_input_call l first total
  unfolding list_input_call
  input_accepted after n p h = accepted l (lister_stored first total) after n p h

pub record_whole : (l bytes : List ℕ) → list_input_call l bytes (length bytes) ≡ list_record_call l bytes
unfolding list_input_call list_record_call
record_whole l bytes = ap (λ (t : List ℕ). listed_in (lent_refusal (length l) (length t)) l t) (sym (stored_whole bytes (length bytes) refl))
