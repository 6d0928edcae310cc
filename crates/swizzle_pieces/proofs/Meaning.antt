-- The pieces in the scratch are the pieces of the rules.
use mathlib.Core.Path.{◌≡◌, refl, sym, ap, ◌∙◌}
use Prim.Native.Nat.{ℕ, zero, suc, ◌+◌, ◌*◌, ◌^◌, ◌<◌, ◌≤◌, min}
use native.Mathlib.Omega.{arith}
use mathlib.Core.Bool.{true}
use mathlib.Core.List.{List, [], ◌∷◌, map}
use lib.ListN.{length, replicate}
use lib.Seq.{sets}
use borrow.Author.Tests.{le-leb}
use Rattle.lists.specs.Lists.{up_from}
use Rattle.lists.proofs.Store.{sets_append}
use Rattle.rules.specs.Limits.{None, X}
use Rattle.rules.specs.Value.{Value, x_nets}
use Rattle.rules.specs.Geometry.{Layout, row_len_of}
use Rattle.rules.specs.Swizzle.{Split, load_piece, piece_start}
use Rattle.swizzle_laws.specs.Cuts.{joined}
use Rattle.swizzle_laws.specs.Loads.{restore_from, load_rows}
use Rattle.swizzle_laws.proofs.Cutting.{joined_cons}
use Rattle.swizzle_laws.proofs.Loading.{Names, rows_cons, rows_nil, piece_loaded, row_length}
use Rattle.swizzle_laws.proofs.ReadCounts.{pieces_of, length_piece}
use Rattle.swizzle_pieces.specs.declared.Pieces.{Pieces}
use Rattle.swizzle_pieces.specs.Steps.{start_of, size_of, guarded, guard_rows, load_one, load_each, held, load_of}
use Rattle.swizzle_pieces.proofs.Loaded.{guard_cons, guard_nil}

-- these numbers are those of a port: `total` columns have nets from the first on
pub record Means (q : Layout) (s : Split) (total : ℕ) (n : Pieces) : Type 0 where
  pub width : n.width ≡ q.width
  pub rows : n.rows ≡ 2 ^ s.old
  pub count : n.count ≡ s.pieces
  pub starts : (x j : ℕ) → x < n.count → j < n.rows → start_of n (row_len_of q) x j ≡ piece_start q s x j
  pub within : (x j : ℕ) → x < n.count → j < n.rows → piece_start q s x j + row_len_of q ≤ total
  pub below : n.first + total ≤ X
  pub names : Names q.width q.entries
  pub narrow : 2 ^ s.old * q.width ≤ None

-- ---- no net passes X
guarded-all : (at first : ℕ) (es acc : List ℕ) → first + length es ≤ X → guarded at es first acc ≡ restore_from at es first acc
unfolding guarded
guarded-all at first es acc h = rw (le-leb (first + length es) X h)

-- rows whose starts are those of another function, none of which passes X
rows_same : (f g : ℕ → ℕ) (at width first rows : ℕ) (es : List ℕ) → ((j : ℕ) → j < rows → f j ≡ g j) → ((j : ℕ) → j < rows → first + (g j + length es) ≤ X)
    → (a k : ℕ) (acc : List ℕ) → a + k ≤ rows → guard_rows f at width es first (up_from a k) acc ≡ load_rows g at width es first (up_from a k) acc
rows_same f g at width first rows es e b a zero acc h = guard_nil f at width first es acc ∙ sym (rows_nil g at width first es acc)
rows_same f g at width first rows es e b a (suc k) acc h =
    let p = e a (omega arith) in
    let l = b a (omega arith) in
    let m : min X (first + f a) ≡ first + g a = omega arith in
    guard_cons f at width first a es (up_from (suc a) k) acc
    ∙ ap (λ (z : ℕ). guard_rows f at width es first (up_from (suc a) k) (guarded (at + a * width) es z acc)) m
    ∙ ap (guard_rows f at width es first (up_from (suc a) k)) (guarded-all (at + a * width) (first + g a) es acc (omega arith))
    ∙ rows_same f g at width first rows es e b (suc a) k (restore_from (at + a * width) es (first + g a) acc) (omega arith)
    ∙ sym (rows_cons g at width first a es (up_from (suc a) k) acc)

one_unfolds : (n : Pieces) (es : List ℕ) (x at : ℕ) (acc : List ℕ)
    → load_one n es x at acc ≡ guard_rows (start_of n (length es) x) at n.width es n.first (up_from 0 n.rows) (sets acc at (replicate (size_of n) X))
unfolding load_one
one_unfolds n es x at acc = refl

x_nets_lem : (n : ℕ) → replicate n X ≡ x_nets n
unfolding x_nets
x_nets_lem n = refl

module _ (q : Layout) (s : Split) (total : ℕ) (n : Pieces) (m : Means q s total n) where
  abbrev cols : Value
  cols = up_from n.first total

  size_is : size_of n ≡ 2 ^ s.old * q.width
  size_is = λ i. m.rows i * m.width i

  one_loaded : (x at : ℕ) (acc : List ℕ) → x < n.count → load_one n q.entries x at acc ≡ sets acc at (load_piece q s x cols)
  one_loaded x at acc h =
      one_unfolds n q.entries x at acc
      ∙ rows_same (start_of n (length q.entries) x) (λ j. piece_start q s x j) at n.width n.first n.rows q.entries
      (λ j g. ap (λ (k : ℕ). start_of n k x j) (sym (row_length q)) ∙ m.starts x j h g)
      (λ j g. omega (arith, m.within x j h g, m.below, row_length q)) 0 n.rows _ (omega arith)
      ∙ ap (λ (w : ℕ). load_rows (λ j. piece_start q s x j) at w q.entries n.first (up_from 0 n.rows) (sets acc at (replicate (size_of n) X))) m.width
      ∙ ap (λ (r : ℕ). load_rows (λ j. piece_start q s x j) at q.width q.entries n.first (up_from 0 r) (sets acc at (replicate (size_of n) X))) m.rows
      ∙ ap (λ (z : ℕ). load_rows (λ j. piece_start q s x j) at q.width q.entries n.first (up_from 0 (2 ^ s.old)) (sets acc at (replicate z X))) size_is
      ∙ ap (λ (z : List ℕ). load_rows (λ j. piece_start q s x j) at q.width q.entries n.first (up_from 0 (2 ^ s.old)) (sets acc at z)) (x_nets_lem (2 ^ s.old * q.width))
      ∙ piece_loaded q s x n.first total m.names (λ j g. m.within x j h (subst' g)) m.narrow acc at
    where
      subst' : {j : ℕ} → j < 2 ^ s.old → j < n.rows
      subst' g = omega (arith, m.rows)

  each_cons : (x : ℕ) (xs : List ℕ) (at : ℕ) (acc : List ℕ) → load_each n q.entries (x ∷ xs) at acc ≡ load_each n q.entries xs (at + size_of n) (load_one n q.entries x at acc)
  unfolding load_each
  each_cons x xs at acc = refl

  each_nil : (at : ℕ) (acc : List ℕ) → load_each n q.entries [] at acc ≡ sets acc at (joined [])
  unfolding load_each joined
  each_nil at acc = refl

  each_loaded : (a k at : ℕ) (acc : List ℕ) → a + k ≤ n.count
      → load_each n q.entries (up_from a k) at acc ≡ sets acc at (joined (map (λ x. load_piece q s x cols) (up_from a k)))
  each_loaded a zero at acc h = each_nil at acc
  each_loaded a (suc k) at acc h =
      let v = load_piece q s a cols in
      let w = joined (map (λ x. load_piece q s x cols) (up_from (suc a) k)) in
      each_cons a (up_from (suc a) k) at acc
      ∙ ap (load_each n q.entries (up_from (suc a) k) (at + size_of n)) (one_loaded a at acc (omega arith))
      ∙ each_loaded (suc a) k (at + size_of n) (sets acc at v) (omega arith)
      ∙ ap (λ (z : ℕ). sets (sets acc at v) (at + z) w) (size_is ∙ sym (length_piece q s a cols))
      ∙ sets_append v w acc at
      ∙ ap (sets acc at) (sym (joined_cons v (map (λ x. load_piece q s x cols) (up_from (suc a) k))))

  -- what `load` leaves where the scratch holds the pieces
  pub loaded : (acc : List ℕ) → held n (length q.entries) (length acc) ≡ true → load_of n q.entries acc ≡ sets acc 0 (joined (pieces_of q s cols))
  unfolding load_of
  loaded acc e =
      rw e (each_loaded 0 n.count 0 acc (omega arith) ∙ ap (λ (k : ℕ). sets acc 0 (joined (map (λ x. load_piece q s x cols) (up_from 0 k)))) m.count)
