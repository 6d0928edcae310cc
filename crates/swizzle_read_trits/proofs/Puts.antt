-- A part of a room that comes back with other elements, and the three kinds of trits.
use mathlib.Core.Path.{◌≡◌, sym, ap, ◌∙◌}
use Prim.Native.Nat.{ℕ, ◌+◌, ◌≤◌}
use native.Mathlib.Omega.{arith}
use mathlib.Core.Bool.{true, false}
use mathlib.Core.List.{List, ◌++◌, append_assoc}
use lib.ListN.{length, take, drop}
use lib.Seq.{sets, sets-eq, drop-drop}
use lib.Dec.{leb}
use Rattle.lists.proofs.Parts.{length_part}
use Rattle.swizzle_columns.specs.declared.WidePort.{WidePort}
use Rattle.swizzle_columns.specs.Wide.{trits_of}
use Rattle.swizzle_read_trits.specs.Trits.{put_trits, three_trits}

module _ (p : WidePort) (es v : List ℕ) (at size : ℕ) (room : List ℕ) where
  pub put_by : (ys : List ℕ) (k : ℕ) → k ≡ size → at + size ≤ length room → ys ≡ trits_of p es v (take k (drop at room)) → length ys ≡ length (take k (drop at room))
      → take at room ++ (ys ++ drop k (drop at room)) ≡ put_trits p es v at size room
  unfolding put_trits
  put_by ys k e h f l =
      let n : length ys ≡ size = l ∙ ap (λ (j : ℕ). length (take j (drop at room))) e ∙ length_part at size room h in
      ap (λ (j : ℕ). take at room ++ (ys ++ drop j (drop at room))) e
      ∙ ap (λ (z : List ℕ). take at room ++ (ys ++ z)) (drop-drop size at room)
      ∙ ap (λ (j : ℕ). take at room ++ (ys ++ drop (at + j) room)) (sym n)
      ∙ sym (append_assoc (take at room) ys (drop (at + length ys) room)) ∙ sym (sets-eq ys room at (omega arith))
      ∙ ap (sets room at) (f ∙ ap (λ (j : ℕ). trits_of p es v (take j (drop at room))) e)

module _ (p : WidePort) (es clear reset init : List ℕ) (at size n : ℕ) (room : List ℕ) (e : n ≡ size) where
  pub three_not : leb (at + (n + (n + n))) (length room) ≡ false → room ≡ three_trits p es clear reset init at size room
  unfolding three_trits
  three_not h = rw (ap (λ (k : ℕ). leb (at + (k + (k + k))) (length room)) (sym e) ∙ h)

  pub three_all : (a b c : List ℕ) → leb (at + (n + (n + n))) (length room) ≡ true → a ≡ put_trits p es clear at n room → b ≡ put_trits p es reset (at + n) n a → c ≡ put_trits p es init (at + (n + n)) n b
      → c ≡ three_trits p es clear reset init at size room
  unfolding three_trits
  three_all a b c h ea eb ec =
      rw (ap (λ (k : ℕ). leb (at + (k + (k + k))) (length room)) (sym e) ∙ h)
      (ec ∙ ap (put_trits p es init (at + (n + n)) n) (eb ∙ ap (put_trits p es reset (at + n) n) ea)
      ∙ ap (λ (k : ℕ). put_trits p es init (at + (k + k)) k (put_trits p es reset (at + k) k (put_trits p es clear at k room))) e)
