-- Behind the head a reader stands at a record's first trit, and after that trit at the second; where there is none, there is none at either place.
use Rattle.std.specs.Prelude.{Option, None}
use mathlib.Core.Path.{◌≡◌, refl, sym, ap, ◌∙◌}
use mathlib.Core.Bool.{Bool, true, false, ◌&&◌}
use Prim.Native.Nat.{ℕ, ◌+◌, ◌-◌, ◌/◌, ◌<◌}
use native.Mathlib.Omega.{arith}
use mathlib.Core.List.{List}
use lib.Dec.{ltb}
use lib.ListN.{length}
use borrow.Author.Tests.{lt-ltb, le-ltb, ltb-true, ltb-false}
use Rattle.lists.specs.Choice.{when◌then◌else◌}
use Rattle.rules.specs.Record.{size_trits, head_sizes, array_bytes, after_trit}
use Rattle.record_reader.specs.Reading.{place_after_head, has_trit, has_trit_at, trit_there, place_after_trit, first_trits}
use Rattle.record_reader.specs.declared.FirstTrits.{FirstTrits}
use Rattle.record_reader.proofs.Runs.{six_on}

and_no : (a b : Bool) → b ≡ false → (a && b) ≡ false
and_no true b e = e
and_no false b e = refl

if_no : (a b : Bool) → b ≡ false → (when a then false else b) ≡ false
if_no true b e = refl
if_no false b e = e

-- a second is there only where a first is
fewer_by : (n : ℕ) (b x : Bool) → ltb 1 n ≡ x → (ltb 0 n && b) ≡ false → (x && b) ≡ false
fewer_by n b true e h =
    let l : 1 < n = ltb-true 1 n e in
    let z : ltb 0 n ≡ true = lt-ltb 0 n (omega arith) in ap (λ (y : Bool). y && b) (sym z) ∙ h
fewer_by n b false e h = refl

fewer : (n : ℕ) (b : Bool) → (ltb 0 n && b) ≡ false → (ltb 1 n && b) ≡ false
fewer n b h = fewer_by n b (ltb 1 n) refl h

module _ (bytes : List ℕ) where
  no_trit : (p : ℕ) → has_trit_at bytes p ≡ false → trit_there bytes p ≡ None
  unfolding trit_there
  no_trit p e = rw e

  goes : (p : ℕ) → has_trit_at bytes p ≡ true → place_after_trit bytes p ≡ p + 1
  unfolding place_after_trit after_trit
  goes p e = rw e

  stays : (p : ℕ) → has_trit_at bytes p ≡ false → place_after_trit bytes p ≡ p
  unfolding place_after_trit
  stays p e = rw e

  abbrev count : ℕ
  count = size_trits (head_sizes bytes)

  -- the byte of a trit's value bit
  abbrev value : ℕ → ℕ
  value p = 12 + array_bytes count + (p - 12) / 8

  -- bytes that end within the head have no trit at any place
  short : (p : ℕ) → length bytes < 12 → trit_there bytes p ≡ None
  short p h =
      let none : ltb (value p) (length bytes) ≡ false = le-ltb (value p) (length bytes) (omega arith) in
      no_trit p (if_no (ltb p 12) (has_trit bytes (p - 12)) (and_no (ltb (p - 12) count) (ltb (value p) (length bytes)) none))

  no_second : has_trit_at bytes 12 ≡ false → has_trit_at bytes 13 ≡ false
  no_second e = fewer count (ltb (value 12) (length bytes)) e

  second_by : (x : Bool) → has_trit_at bytes 12 ≡ x → trit_there bytes (place_after_trit bytes 12) ≡ trit_there bytes 13
  second_by true e = ap (trit_there bytes) (goes 12 e)
  second_by false e = ap (trit_there bytes) (stays 12 e) ∙ no_trit 12 e ∙ sym (no_trit 13 (no_second e))

  abbrev start : ℕ
  start = place_after_head bytes 0

  first_by : (x : Bool) → ltb (length bytes) 12 ≡ x → trit_there bytes start ≡ trit_there bytes 12
  first_by true e =
      let l : length bytes < 12 = ltb-true (length bytes) 12 e in short start l ∙ sym (short 12 l)
  first_by false e = ap (trit_there bytes) (six_on bytes (ltb-false (length bytes) 12 e))

  then_by : (x : Bool) → ltb (length bytes) 12 ≡ x → trit_there bytes (place_after_trit bytes start) ≡ trit_there bytes 13
  then_by true e =
      let l : length bytes < 12 = ltb-true (length bytes) 12 e in short (place_after_trit bytes start) l ∙ sym (short 13 l)
  then_by false e = ap (λ (p : ℕ). trit_there bytes (place_after_trit bytes p)) (six_on bytes (ltb-false (length bytes) 12 e)) ∙ second_by (has_trit_at bytes 12) refl

  pub from_head : (t u : Option ℕ) → t ≡ trit_there bytes start → u ≡ trit_there bytes (place_after_trit bytes start) → ◌≡◌ {A = FirstTrits} (record { first = t; second = u }) (first_trits bytes)
  unfolding first_trits
  from_head t u e f =
      let a = e ∙ first_by (ltb (length bytes) 12) refl in
      let b = f ∙ then_by (ltb (length bytes) 12) refl in λ i. record { first = a i; second = b i }
