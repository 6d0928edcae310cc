-- Laws of whole answers: a call that a number refuses, and one that none does; and what an answer tells.
use mathlib.Core.Path.{◌≡◌, refl, sym, ◌∙◌}
use mathlib.Core.Logic.{◌≢◌}
use Prim.Native.Nat.{ℕ}
use native.Mathlib.Omega.{arith}
use mathlib.Core.Bool.{Bool, true, false}
use mathlib.Core.List.{List}
use lib.Seq.{sets}
use lib.Dec.{eqb}
use borrow.Author.Tests.{ne_eqb, eqb-true, eqb-false}
use Rattle.lists.specs.Choice.{leaves, ◌or_else◌}
use Rattle.lists.proofs.Choice.{leaves_refused, leaves_accepted, else_first, else_rest}
use Rattle.rules.specs.Answers.{Answer, Refused, Accepted, answer_of, Filled, filled}
use Rattle.rules.specs.Refusal.{number}
use Rattle.rules.specs.declared.numbers.Refusal.{Refusal}
use Rattle.rules.specs.declared.numbers.Refusal.TheVariants.{TooLarge, BadShape, BadDepth, BadValue, BadGranularity, RowTooLong, BadEntries, BadSoftMask, BadWideLogs, ResultTooLarge, WriteClocksDiffer, ReadClocksDiffer, MixedRelations, ShortAddress, OutOfRange, BadHead, BadSizes, BadBits, NoRoom, NetsFull, Unclocked, NotLaidOut}

module _ {A : Type 0} where
  pub answer_refused : (n : ℕ) (a : A) → n ≢ 0 → answer_of n a ≡ Refused n
  unfolding answer_of
  answer_refused n a h = rw (ne_eqb n 0 h)

  pub answer_accepted : (n : ℕ) (a : A) → n ≡ 0 → answer_of n a ≡ Accepted a
  unfolding answer_of
  answer_accepted n a e = rw e

  -- what an answer tells
  pub tells_accepted : (n : ℕ) (a b : A) → Accepted b ≡ answer_of n a → (n ≡ 0) × (b ≡ a)
  tells_accepted n a b e = on (eqb n 0) refl
    where
      never : {x : A} {k : ℕ} → ◌≡◌ {A = Answer A} (Accepted x) (Refused k) → ⊥
      never q = let z : ◌≡◌ {A = ℕ} 0 1 = cc in omega arith

      same : {x y : A} → ◌≡◌ {A = Answer A} (Accepted x) (Accepted y) → x ≡ y
      same q = cc

      on : (t : Bool) → eqb n 0 ≡ t → (n ≡ 0) × (b ≡ a)
      on true h = (eqb-true n 0 h, same (e ∙ answer_accepted n a (eqb-true n 0 h)))
      on false h = absurd (never (e ∙ answer_refused n a (eqb-false n 0 h)))

  pub tells_refused : (n k : ℕ) (a : A) → Refused k ≡ answer_of n a → (n ≡ k) × (n ≢ 0)
  tells_refused n k a e = on (eqb n 0) refl
    where
      never : {x : A} {j : ℕ} → ◌≡◌ {A = Answer A} (Refused j) (Accepted x) → ⊥
      never q = let z : ◌≡◌ {A = ℕ} 0 1 = cc in omega arith

      same : {i j : ℕ} → ◌≡◌ {A = Answer A} (Refused i) (Refused j) → j ≡ i
      same q = cc

      on : (t : Bool) → eqb n 0 ≡ t → (n ≡ k) × (n ≢ 0)
      on true h = absurd (never (e ∙ answer_accepted n a (eqb-true n 0 h)))
      on false h = (same (e ∙ answer_refused n a (eqb-false n 0 h)), eqb-false n 0 h)

-- the same from the machine's side: its number or value, and that of the rules
module _ {A : Type 0} (n : ℕ) (a : A) where
  pub refused : (k : ℕ) → k ≡ n → k ≢ 0 → Refused k ≡ answer_of n a
  unfolding answer_of
  refused k e h = rw (← e, ne_eqb k 0 h)

  pub accepted : (b : A) → n ≡ 0 → b ≡ a → Accepted b ≡ answer_of n a
  unfolding answer_of
  accepted b e q = rw (e, q)

-- the number r and the room after the call, where r is the number of a refusal and where it is 0
module _ (n r : ℕ) (out after l : List ℕ) (e : r ≡ n) where
  given : after ≡ leaves n out (sets out 0 l) → ◌≡◌ {A = Filled} (record { number = r; out = after }) (filled n out l)
  unfolding filled
  given q = λ i. record { number = e i; out = q i }

  pub filled_refused : n ≢ 0 → after ≡ out → ◌≡◌ {A = Filled} (record { number = r; out = after }) (filled n out l)
  filled_refused h q = given (q ∙ sym (leaves_refused n out (sets out 0 l) h))

  pub filled_accepted : n ≡ 0 → after ≡ sets out 0 l → ◌≡◌ {A = Filled} (record { number = r; out = after }) (filled n out l)
  filled_accepted h q = given (q ∙ sym (leaves_accepted n out (sets out 0 l) h))

-- the same where the room is that of before, and where the number is 0
pub filled-kept : (n k : ℕ) (out l : List ℕ) → n ≡ k → k ≢ 0 → ◌≡◌ {A = Filled} (record { number = k; out = out }) (filled n out l)
unfolding filled
filled-kept n k out l e h = λ i. record { number = sym e i; out = sym (leaves_refused n out (sets out 0 l) (λ z. h (sym e ∙ z))) i }

pub filled-done : (n : ℕ) (out l after : List ℕ) → n ≡ 0 → after ≡ sets out 0 l → ◌≡◌ {A = Filled} (record { number = 0; out = after }) (filled n out l)
unfolding filled
filled-done n out l after e h = λ i. record { number = sym e i; out = (h ∙ sym (leaves_accepted n out (sets out 0 l) e)) i }

-- ---- a machine's answer: a refusal is never 0, so it is its call's number, and an accepted answer is one where no number refuses
pub number_nonzero : (e : Refusal) → number e ≢ 0
number_nonzero TooLarge h = omega arith
number_nonzero BadShape h = omega arith
number_nonzero BadDepth h = omega arith
number_nonzero BadValue h = omega arith
number_nonzero BadGranularity h = omega arith
number_nonzero RowTooLong h = omega arith
number_nonzero BadEntries h = omega arith
number_nonzero BadSoftMask h = omega arith
number_nonzero BadWideLogs h = omega arith
number_nonzero ResultTooLarge h = omega arith
number_nonzero WriteClocksDiffer h = omega arith
number_nonzero ReadClocksDiffer h = omega arith
number_nonzero MixedRelations h = omega arith
number_nonzero ShortAddress h = omega arith
number_nonzero OutOfRange h = omega arith
number_nonzero BadHead h = omega arith
number_nonzero BadSizes h = omega arith
number_nonzero BadBits h = omega arith
number_nonzero NoRoom h = omega arith
number_nonzero NetsFull h = omega arith
number_nonzero Unclocked h = omega arith
number_nonzero NotLaidOut h = omega arith

-- the number of a call is not 0 where a refusal has it
pub refused_by : (e : Refusal) (n : ℕ) → number e ≡ n → n ≢ 0
refused_by e n h z = number_nonzero e (h ∙ z)

module _ {A : Type 0} where
  pub answer_err : (e : Refusal) (n : ℕ) (a : A) → number e ≡ n → Refused (number e) ≡ answer_of n a
  answer_err e n a h = refused n a (number e) h (number_nonzero e)

  pub answer_ok : (n : ℕ) (a b : A) → 0 ≡ n → b ≡ a → Accepted b ≡ answer_of n a
  answer_ok n a b h q = accepted n a b (sym h) q

pub filled_err : (e : Refusal) (n : ℕ) (out l : List ℕ) → number e ≡ n → ◌≡◌ {A = Filled} (record { number = number e; out = out }) (filled n out l)
filled_err e n out l h = filled_refused n (number e) out out l h (refused_by e n h) refl

pub filled_ok : (n : ℕ) (out l after : List ℕ) → 0 ≡ n → after ≡ sets out 0 l → ◌≡◌ {A = Filled} (record { number = 0; out = after }) (filled n out l)
filled_ok n out l after h q = filled_accepted n 0 out after l h (sym h) q

-- the first of two refusals that there is
pub else_err : (e : Refusal) (n rest : ℕ) → number e ≡ n → number e ≡ (n or_else rest)
else_err e n rest h = h ∙ sym (else_first n rest (refused_by e n h))

pub else_ok : (n rest k : ℕ) → 0 ≡ n → k ≡ rest → k ≡ (n or_else rest)
else_ok n rest k h q = q ∙ sym (else_rest n rest (sym h))

-- what a call leaves
module _ {ℓ} {A : Type ℓ} where
  pub left_err : (e : Refusal) (n : ℕ) (before after : A) → number e ≡ n → before ≡ leaves n before after
  left_err e n before after h = sym (leaves_refused n before after (refused_by e n h))

  pub left_ok : (n : ℕ) (before after : A) → 0 ≡ n → after ≡ leaves n before after
  left_ok n before after h = sym (leaves_accepted n before after (sym h))
