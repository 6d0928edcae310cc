-- The loops that load pieces, in tail form: what is left gives the whole.
use mathlib.Core.Path.{◌≡◌, refl, sym, ap, ◌∙◌}
use Prim.Native.Nat.{ℕ, suc, ◌+◌, ◌-◌, ◌*◌, ◌<◌, ◌≤◌, min}
use native.Mathlib.Nat.{mul-suc, suc-mul, mul-le-mul_right, mul-le-mul_left}
use native.Mathlib.Numerals.{add-one}
use native.Mathlib.Omega.{arith}
use mathlib.Core.List.{List, [], ◌∷◌}
use lib.ListN.{length, drop, get_or, replicate, drop_of_length-le}
use lib.Seq.{sets, drop-cons}
use lib.Dec.{leb}
use borrow.Author.Tests.{lt-leb, le-leb, leb-true}
use mathlib.Core.Bool.{true, false}
use Rattle.lists.proofs.Choice.{cases_le, and_true}
use Rattle.lists.specs.Lists.{up_from}
use Rattle.lists.proofs.UpFrom.{count_step, count_end}
use Rattle.rules.specs.Limits.{X}
use Rattle.swizzle_laws.specs.Loads.{placed, restore_from}
use Rattle.swizzle_laws.proofs.Loading.{from_cons, from_nil}
use Rattle.swizzle_pieces.specs.declared.Pieces.{Pieces}
use Rattle.swizzle_pieces.specs.Steps.{start_of, size_of, guarded, guard_rows, load_one, load_each, held, load_of, RowsFit, PiecesFit}

-- ---- a row
module _ (at net i : ℕ) (es acc whole : List ℕ) (e : restore_from at (drop i es) net acc ≡ whole) where
  pub row_turn : (acc' : List ℕ) → i < length es → acc' ≡ placed at (get_or es i 0) net acc → restore_from at (drop (i + 1) es) (net + 1) acc' ≡ whole
  row_turn acc' h f =
      rw (f, add-one i, add-one net) (sym (from_cons at (get_or es i 0) net (drop (suc i) es) acc) ∙ ap (λ (l : List ℕ). restore_from at l net acc) (sym (drop-cons es i 0 h)) ∙ e)

  pub row_end : length es ≤ i → acc ≡ whole
  row_end h = sym (from_nil at net acc) ∙ ap (λ (l : List ℕ). restore_from at l net acc) (sym (drop_of_length-le es {i = i} h)) ∙ e

pub guard_not : (at first : ℕ) (es acc : List ℕ) → X < first + length es → acc ≡ guarded at es first acc
unfolding guarded
guard_not at first es acc h = rw (lt-leb (first + length es) X h)

pub guard_is : (at first : ℕ) (es acc acc' : List ℕ) → first + length es ≤ X → acc' ≡ restore_from at es first acc → acc' ≡ guarded at es first acc
unfolding guarded
guard_is at first es acc acc' h e = rw (le-leb (first + length es) X h) e

pub guard_cons : (start : ℕ → ℕ) (at width first j : ℕ) (es js acc : List ℕ)
    → guard_rows start at width es first (j ∷ js) acc ≡ guard_rows start at width es first js (guarded (at + j * width) es (min X (first + start j)) acc)
unfolding guard_rows
guard_cons start at width first j es js acc = refl

pub guard_nil : (start : ℕ → ℕ) (at width first : ℕ) (es acc : List ℕ) → guard_rows start at width es first [] acc ≡ acc
unfolding guard_rows
guard_nil start at width first es acc = refl

-- ---- the rows of a piece: `to` is where row j goes
module _ (start : ℕ → ℕ) (at width first rows j to : ℕ) (es acc whole : List ℕ) (p : to ≡ at + j * width)
    (e : guard_rows start at width es first (up_from j (rows - j)) acc ≡ whole) where
  pub rows_turn : (acc' : List ℕ) (f : ℕ) → j < rows → f ≡ min X (first + start j) → acc' ≡ guarded to es f acc → guard_rows start at width es first (up_from (j + 1) (rows - (j + 1))) acc' ≡ whole
  rows_turn acc' f h g k =
      ap (guard_rows start at width es first (up_from (j + 1) (rows - (j + 1)))) (k ∙ (λ i. guarded (p i) es (g i) acc))
      ∙ sym (guard_cons start at width first j es (up_from (j + 1) (rows - (j + 1))) acc)
      ∙ ap (λ (l : List ℕ). guard_rows start at width es first l acc) (sym (count_step j rows h)) ∙ e

  pub rows_end : rows ≤ j → acc ≡ whole
  rows_end h = sym (guard_nil start at width first es acc) ∙ ap (λ (l : List ℕ). guard_rows start at width es first l acc) (sym (count_end j rows h)) ∙ e

-- row j lies before the end of the piece
pub place_room : (at width rows j to : ℕ) → to ≡ at + j * width → j < rows → at + rows * width ≤ 4294967296 → to + width ≤ 4294967296
place_room at width rows j to e h g = omega (arith, suc-mul j width, mul-le-mul_right {m = suc j} {n = rows} width h)

-- ---- the pieces
each_cons : (n : Pieces) (es : List ℕ) (x : ℕ) (xs : List ℕ) (at : ℕ) (acc : List ℕ) → load_each n es (x ∷ xs) at acc ≡ load_each n es xs (at + size_of n) (load_one n es x at acc)
unfolding load_each
each_cons n es x xs at acc = refl

each_nil : (n : Pieces) (es : List ℕ) (at : ℕ) (acc : List ℕ) → load_each n es [] at acc ≡ acc
unfolding load_each
each_nil n es at acc = refl

module _ (n : Pieces) (es : List ℕ) (x at : ℕ) (acc whole : List ℕ) (e : load_each n es (up_from x (n.count - x)) at acc ≡ whole) where
  pub each_turn : (acc' : List ℕ) → x < n.count → acc' ≡ load_one n es x at acc → load_each n es (up_from (x + 1) (n.count - (x + 1))) (at + size_of n) acc' ≡ whole
  each_turn acc' h f =
      ap (load_each n es (up_from (x + 1) (n.count - (x + 1))) (at + size_of n)) f
      ∙ sym (each_cons n es x (up_from (x + 1) (n.count - (x + 1))) at acc)
      ∙ ap (λ (l : List ℕ). load_each n es l at acc) (sym (count_step x n.count h)) ∙ e

  pub each_end : n.count ≤ x → acc ≡ whole
  each_end h = sym (each_nil n es at acc) ∙ ap (λ (l : List ℕ). load_each n es l at acc) (sym (count_end x n.count h)) ∙ e

pub one_is : (n : Pieces) (es : List ℕ) (x at : ℕ) (acc acc1 acc2 : List ℕ) → acc1 ≡ sets acc at (replicate (size_of n) X)
    → acc2 ≡ guard_rows (start_of n (length es) x) at n.width es n.first (up_from 0 n.rows) acc1 → acc2 ≡ load_one n es x at acc
unfolding load_one
one_is n es x at acc acc1 acc2 e f = f ∙ ap (guard_rows (start_of n (length es) x) at n.width es n.first (up_from 0 n.rows)) e

-- piece x fits where all do
pub piece_fits : (n : Pieces) (len x at : ℕ) → PiecesFit n len → at ≡ x * size_of n → x < n.count → RowsFit n len x at
piece_fits n len x at f e h = record {
  numbers = le_both (mul_suc' n.rows x) (mul-le-mul_left {m = suc x} {n = n.count} n.rows h) f.numbers;
  room = le_both (ap (λ (k : ℕ). k + size_of n) e ∙ sym (suc-mul x (size_of n))) (mul-le-mul_right {m = suc x} {n = n.count} (size_of n) h) f.room;
  few = f.few;
}
  where
    le_both : {a b c d : ℕ} → a ≡ b → b ≤ c → c ≤ d → a ≤ d
    le_both p q r = omega arith

    mul_suc' : (a b : ℕ) → a * b + a ≡ a * suc b
    mul_suc' a b = sym (mul-suc a b)

pub piece_place : (size x at : ℕ) → at ≡ x * size → at + size ≡ (x + 1) * size
piece_place size x at e = omega (arith, ap (λ (n : ℕ). n * size) (add-one x), suc-mul x size)

-- ---- the first net of a row, from what the walk gives
-- ---- whether the scratch holds the pieces
module _ (n : Pieces) (len room : ℕ) where
  pub held_by : (need : ℕ) → need ≡ n.count * size_of n → len ≤ X → n.rows * n.count ≤ 4294967296 → size_of n ≤ X → leb need (min room 4294967296) ≡ held n len room
  unfolding held
  held_by need e h g k = rw (e, le-leb len X h, le-leb (n.rows * n.count) 4294967296 g, le-leb (size_of n) X k)

  pub held-room : (need : ℕ) → need ≡ n.count * size_of n → len ≤ X → n.rows * n.count ≤ 4294967296 → size_of n ≤ X → need ≤ 4294967296 → leb need room ≡ held n len room
  held-room need e h g k l =
      cases_le need room (λ m. le-leb need room m ∙ sym (le-leb need (min room 4294967296) (omega arith))) (λ m. lt-leb need room m ∙ sym (lt-leb need (min room 4294967296) (omega arith)))
      ∙ held_by need e h g k

  -- what it says
  pub held_fits : held n len room ≡ true → PiecesFit n len
  unfolding held
  held_fits e =
      let a = and_true (leb len X) _ e in
      let b = and_true (leb (n.rows * n.count) 4294967296) _ a.1 in
      let c = and_true (leb (size_of n) X) _ b.1 in
      let d = leb-true (n.count * size_of n) (min room 4294967296) c.1 in
      record { numbers = leb-true _ _ b.0; room = low (n.count * size_of n) d; few = leb-true _ _ a.0 }
    where
      low : (k : ℕ) → k ≤ min room 4294967296 → k ≤ 4294967296
      low k h = omega arith

module _ (n : Pieces) (es acc : List ℕ) where
  pub load_not : held n (length es) (length acc) ≡ false → acc ≡ load_of n es acc
  unfolding load_of
  load_not e = rw e

  pub load_is : (acc' : List ℕ) → held n (length es) (length acc) ≡ true → acc' ≡ load_each n es (up_from 0 n.count) 0 acc → acc' ≡ load_of n es acc
  unfolding load_of
  load_is acc' e f = rw e f
