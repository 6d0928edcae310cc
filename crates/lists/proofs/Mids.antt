-- A part of a list that is written whole: what `to[start..start + n]` holds in the end goes back into its place.
use Rattle.std.proofs.Common.{◌≡◌, ℕ, ◌+◌, ◌-◌, ◌≤◌, ◌<◌, min, List, ◌++◌, sym, ap, ◌∙◌, arith, append_assoc, length, take, drop, get_or, set}
use Rattle.std.proofs.lemmas.List.Edits.{sets}
use lib.ListN.{drop_of_length-le, length-take, length-drop}
use lib.Seq.{sets-eq, take_all, length-take-le, drop-drop, drop-length}
use borrow.Rule.Slice.PartMut.{put_mid, mid_of}
use Rattle.std.proofs.lemmas.List.{append-nil}
use native.Mathlib.Nat.{zero-add}
use Rattle.lists.proofs.Choice.{cases_le}
use Rattle.lists.proofs.Store.{sets_fit, sets_out, sets_more}

module _ {A : Type 0} where
  -- the first stores that fit, in the place of as many elements
  pub stores_in_place : (xs ws : List A) (at s n : ℕ) → s ≡ min at (length xs) → n ≡ min (length ws) (length xs - s)
      → take s xs ++ (take n ws ++ drop n (drop s xs)) ≡ sets xs at ws
  stores_in_place xs ws at s n e f = cases_le at (length xs) inside past
    where
      inside : at ≤ length xs → take s xs ++ (take n ws ++ drop n (drop s xs)) ≡ sets xs at ws
      inside h =
          let se : s ≡ at = omega arith in
          let ne : n ≡ min (length ws) (length xs - at) = omega arith in
          let long : length (take n ws) ≡ n = length-take-le n ws (omega arith) in
          let back : take at xs ++ (take n ws ++ drop (at + length (take n ws)) xs) ≡ sets xs at (take n ws) =
          sym (append_assoc (take at xs) (take n ws) (drop (at + length (take n ws)) xs)) ∙ sym (sets-eq (take n ws) xs at (omega arith)) in
          ap (λ (k : ℕ). take k xs ++ (take n ws ++ drop n (drop k xs))) se
          ∙ ap (λ (l : List A). take at xs ++ (take n ws ++ l)) (drop-drop n at xs ∙ ap (λ (k : ℕ). drop k xs) (omega arith)) ∙ back
          ∙ ap (λ (k : ℕ). sets xs at (take k ws)) ne ∙ sets_fit xs at ws

      past : length xs < at → take s xs ++ (take n ws ++ drop n (drop s xs)) ≡ sets xs at ws
      past h =
          let se : s ≡ length xs = omega arith in
          let ne : n ≡ 0 = omega arith in
          ap (λ (k : ℕ). take k xs ++ (take n ws ++ drop n (drop k xs))) se
          ∙ ap (λ (k : ℕ). take (length xs) xs ++ (take k ws ++ drop k (drop (length xs) xs))) ne
          ∙ ap (λ (l : List A). take (length xs) xs ++ l) (drop-length xs) ∙ append-nil (take (length xs) xs) ∙ take_all (length xs) xs (omega arith)
          ∙ sym (sets_out ws xs at (omega arith))

  -- after a write to `to[s..s + n]`, whose elements are now the first n of ws
  pub written : (xs ws ys : List A) (at s n : ℕ) {k : ℕ} → k ≡ n → ys ≡ take n ws → s ≡ min at (length xs) → n ≡ min (length ws) (length xs - s)
      → put_mid s k xs ys ≡ sets xs at ws
  written xs ws ys at s n e h f g =
      ap (λ (j : ℕ). put_mid s j xs ys) e ∙ ap (put_mid s n xs) h ∙ stores_in_place xs ws at s n f g

  -- the same where the part was written element by element, as a run of stores from its start on
  pub stored : (xs ws ys : List A) (at s n : ℕ) {k : ℕ} → k ≡ n → s ≡ min at (length xs) → n ≡ min (length ws) (length xs - s)
      → ys ≡ sets (mid_of s k xs) 0 (take n ws) → put_mid s k xs ys ≡ sets xs at ws
  stored xs ws ys at s n {k} e f g h =
      let room : length (mid_of s k xs) ≡ n = length-take k (drop s xs) ∙ omega (arith, length-drop s xs) in
      let long : length (take n ws) ≡ n = length-take-le n ws (omega arith) in
      let whole : sets (mid_of s k xs) 0 (take n ws) ≡ take n ws =
      sets-eq (take n ws) (mid_of s k xs) 0 (omega arith) ∙ ap (λ (l : List A). take n ws ++ l) (drop_of_length-le (mid_of s k xs) (omega arith)) ∙ append-nil (take n ws) in
      written xs ws ys at s n e (h ∙ whole) f g

  -- the loop that writes it: element i is written, of a part that holds the first i of ws
  pub part_turn : (m ys ws : List A) (i : ℕ) (v d : A) → ys ≡ sets m 0 (take i ws) → i < length ws → v ≡ get_or ws i d → set ys i v ≡ sets m 0 (take (i + 1) ws)
  part_turn m ys ws i v d e h f =
      ap (λ (l : List A). set l i v) e ∙ ap (set (sets m 0 (take i ws)) i) f
      ∙ ap (λ (k : ℕ). set (sets m 0 (take i ws)) k (get_or ws i d)) (sym (zero-add i)) ∙ sets_more m 0 ws i d h

  pub part_done : (xs ws ys : List A) (at s n i : ℕ) {k : ℕ} → k ≡ n → s ≡ min at (length xs) → n ≡ min (length ws) (length xs - s) → i ≡ n
      → ys ≡ sets (mid_of s k xs) 0 (take i ws) → put_mid s k xs ys ≡ sets xs at ws
  part_done xs ws ys at s n i {k} e f g q h = stored xs ws ys at s n e f g (h ∙ ap (λ (j : ℕ). sets (mid_of s k xs) 0 (take j ws)) q)

  -- how long that part is
  pub part_room : (xs : List A) (s n k : ℕ) → k ≡ n → n ≤ length xs - s → length (take k (drop s xs)) ≡ n
  part_room xs s n k e h = omega (arith, length-take k (drop s xs), length-drop s xs)

  -- stores that start past the end are none
  pub sets_from : (xs ws : List A) (at s : ℕ) → s ≡ min at (length xs) → sets xs s ws ≡ sets xs at ws
  sets_from xs ws at s e =
      cases_le at (length xs) (λ h. let se : s ≡ at = omega arith in ap (λ (k : ℕ). sets xs k ws) se)
      (λ h. sets_out ws xs s (omega arith) ∙ sym (sets_out ws xs at (omega arith)))
