-- A piece loaded row by row is the piece of the rules.
use mathlib.Core.Path.{◌≡◌, refl, sym, ap, ◌∙◌}
use Prim.Native.Nat.{ℕ, zero, suc, ◌+◌, ◌*◌, ◌^◌, ◌≤◌, ◌<◌}
use native.Mathlib.Nat.{add_assoc, add-zero, zero-add, add-suc, suc-add, suc-mul, mul-le-mul_right}
use native.Mathlib.Omega.{arith}
use mathlib.Core.Bool.{Bool, true, false}
use mathlib.Core.List.{List, [], ◌∷◌, ◌++◌, map}
use lib.ListN.{length, take, drop, set, replicate, length-set, length-map, length-replicate}
use lib.Seq.{sets, set-set, set_comm}
use lib.Dec.{eqb}
use borrow.Author.Tests.{eqb-false, ne_eqb}
use Rattle.lists.specs.Choice.{when◌then◌else◌}
use Rattle.lists.specs.Lists.{part, up_from, concat_map}
use Rattle.lists.proofs.UpFrom.{length_up}
use Rattle.rules.specs.Limits.{None, X}
use Rattle.rules.specs.Value.{x_nets}
use Rattle.rules.specs.Geometry.{Layout, row_len_of}
use Rattle.rules.specs.Swizzle.{Split, restore, sources, old_rows, load_piece, piece_start}
use Rattle.swizzle_laws.specs.Loads.{placed, restore_from, load_rows}

-- ---- one after the other
restore_append : (es fs v w acc : List ℕ) → length es ≡ length v → restore (es ++ fs) (v ++ w) acc ≡ restore fs w (restore es v acc)
unfolding restore
restore_append [] fs [] w acc h = refl
restore_append [] fs (a ∷ v) w acc h = absurd (omega arith)
restore_append (e ∷ es) fs [] w acc h = absurd (omega arith)
restore_append (e ∷ es) fs (a ∷ v) w acc h = restore_append es fs v w (when eqb e None then acc else set acc e a) (omega arith)

-- an entry that names a bit of a row of this width
abbrev pub Names : ℕ → List ℕ → Type 0
Names width es = (i : ℕ) → i < length es → (lib.ListN.get_or es i 0 ≡ None → ⊥) → lib.ListN.get_or es i 0 < width

names_head : (width e : ℕ) (es : List ℕ) → Names width (e ∷ es) → (e ≡ None → ⊥) → e < width
names_head width e es n h = n 0 (omega arith) h

names_tail : (width e : ℕ) (es : List ℕ) → Names width (e ∷ es) → Names width es
names_tail width e es n i h g = n (suc i) (omega arith) g

-- ---- the entries of row j
abbrev shifted : ℕ → ℕ → ℕ
shifted at e = when eqb e None then None else at + e

place_shifted : (b : Bool) (at e a : ℕ) (acc : List ℕ) → eqb e None ≡ b → (b ≡ false → at + e < None)
    → (when eqb (when b then None else at + e) None then acc else set acc (when b then None else at + e) a) ≡ (when b then acc else set acc (at + e) a)
place_shifted true at e a acc q h = refl
place_shifted false at e a acc q h = let z = ne_eqb (at + e) None (λ z. absurd (omega (arith, h refl))) in rw z

restore_row : (at width f : ℕ) (es acc : List ℕ) → Names width es → at + width ≤ None → restore (map (shifted at) es) (up_from f (length es)) acc ≡ restore_from at es f acc
unfolding restore restore_from
restore_row at width f [] acc n h = refl
restore_row at width f (e ∷ es) acc n h =
    ap (restore (map (shifted at) es) (up_from (suc f) (length es)))
    (place_shifted (eqb e None) at e f acc refl (λ q. omega (arith, names_head width e es n (eqb-false e None q))))
    ∙ restore_row at width (suc f) es (placed at e f acc) (names_tail width e es n) h

-- ---- the nets of a part of the columns
take_up : (n f total : ℕ) → n ≤ total → take n (up_from f total) ≡ up_from f n
take_up zero f total h = refl
take_up (suc n) f zero h = absurd (omega arith)
take_up (suc n) f (suc total) h = ap (λ (l : List ℕ). f ∷ l) (take_up n (suc f) total (omega arith))

part_up : (s n f total : ℕ) → s + n ≤ total → part s n (up_from f total) ≡ up_from (f + s) n
part_up zero n f total h = take_up n f total (omega arith) ∙ ap (λ (k : ℕ). up_from k n) (sym (add-zero f))
part_up (suc s) n f zero h = absurd (omega arith)
part_up (suc s) n f (suc total) h = part_up s n (suc f) total (omega arith) ∙ ap (λ (k : ℕ). up_from k n) (suc-add f s ∙ sym (add-suc f s))

-- ---- stores into a list that stands in another
set_before : (ws l : List ℕ) (i j v : ℕ) → j < i → sets (set l j v) i ws ≡ set (sets l i ws) j v
set_before [] l i j v h = refl
set_before (w ∷ ws) l i j v h =
    ap (λ (m : List ℕ). sets m (suc i) ws) (set_comm l j i v w (λ e. absurd (omega arith))) ∙ set_before ws (set l i w) (suc i) j v (omega arith)

set_inside : (acc l : List ℕ) (base k v : ℕ) → k < length acc → set (sets l base acc) (base + k) v ≡ sets l base (set acc k v)
set_inside [] l base k v h = absurd (omega arith)
set_inside (a ∷ acc) l base zero v h =
    ap (λ (n : ℕ). set (sets (set l base a) (suc base) acc) n v) (add-zero base)
    ∙ sym (set_before acc (set l base a) (suc base) base v (omega arith))
    ∙ ap (λ (m : List ℕ). sets m (suc base) acc) (set-set l base a v)
set_inside (a ∷ acc) l base (suc k) v h =
    ap (λ (n : ℕ). set (sets (set l base a) (suc base) acc) n v) (add-suc base k ∙ sym (suc-add base k))
    ∙ set_inside acc (set l base a) (suc base) k v (omega arith)

-- one net placed in a piece that stands in the scratch
placed_inside : (b : Bool) (base at e v : ℕ) (l acc : List ℕ) → (b ≡ false → at + e < length acc)
    → (when b then sets l base acc else set (sets l base acc) (base + at + e) v) ≡ sets l base (when b then acc else set acc (at + e) v)
placed_inside true base at e v l acc h = refl
placed_inside false base at e v l acc h = ap (λ (n : ℕ). set (sets l base acc) n v) (add_assoc base at e) ∙ set_inside acc l base (at + e) v (h refl)

length_placed : (b : Bool) (at e v : ℕ) (acc : List ℕ) → length (when b then acc else set acc (at + e) v) ≡ length acc
length_placed true at e v acc = refl
length_placed false at e v acc = length-set acc (at + e) v

from_inside : (base at width f : ℕ) (es l acc : List ℕ) → Names width es → at + width ≤ length acc
    → restore_from (base + at) es f (sets l base acc) ≡ sets l base (restore_from at es f acc)
unfolding restore_from
from_inside base at width f [] l acc n h = refl
from_inside base at width f (e ∷ es) l acc n h =
    ap (restore_from (base + at) es (suc f)) (placed_inside (eqb e None) base at e f l acc (λ q. omega (arith, names_head width e es n (eqb-false e None q))))
    ∙ from_inside base at width (suc f) es l (placed at e f acc) (names_tail width e es n) (omega (arith, length_placed (eqb e None) at e f acc))

pub length_from : (at f : ℕ) (es acc : List ℕ) → length (restore_from at es f acc) ≡ length acc
unfolding restore_from
length_from at f [] acc = refl
length_from at f (e ∷ es) acc = length_from at (suc f) es (placed at e f acc) ∙ length_placed (eqb e None) at e f acc

-- ---- rows
pub row_length : (q : Layout) → row_len_of q ≡ length q.entries
unfolding row_len_of
row_length q = refl

module _ (q : Layout) (s : Split) (x first total : ℕ) (names : Names q.width q.entries) where
  abbrev start : ℕ → ℕ
  start j = piece_start q s x j

  abbrev src : ℕ → List ℕ
  src j = map (shifted (j * q.width)) q.entries

  abbrev nets : ℕ → List ℕ
  nets j = part (start j) (row_len_of q) (up_from first total)

  nets_are : (j : ℕ) → start j + row_len_of q ≤ total → nets j ≡ up_from (first + start j) (row_len_of q)
  nets_are j h = part_up (start j) (row_len_of q) first total h

  rows_load : (rows : ℕ) → ((j : ℕ) → j < rows → start j + row_len_of q ≤ total) → rows * q.width ≤ None → (a n : ℕ) (acc : List ℕ) → a + n ≤ rows
      → restore (concat_map src (up_from a n)) (concat_map nets (up_from a n)) acc ≡ load_rows start 0 q.width q.entries first (up_from a n) acc
  unfolding restore load_rows
  rows_load rows w k a zero acc h = refl
  rows_load rows w k a (suc n) acc h =
      let e = nets_are a (w a (omega arith)) in
      let m : length (src a) ≡ length (nets a) = length-map q.entries (shifted (a * q.width)) ∙ sym (ap length e ∙ length_up _ (row_len_of q) ∙ row_length q) in
      let z : a * q.width + q.width ≤ None = omega (arith, suc-mul a q.width, mul-le-mul_right {m = suc a} {n = rows} q.width (omega arith)) in
      restore_append (src a) (concat_map src (up_from (suc a) n)) (nets a) (concat_map nets (up_from (suc a) n)) acc m
      ∙ rows_load rows w k (suc a) n (restore (src a) (nets a) acc) (omega arith)
      ∙ ap (load_rows start 0 q.width q.entries first (up_from (suc a) n))
      (ap (λ (l : List ℕ). restore (src a) l acc) (e ∙ ap (up_from (first + start a)) (row_length q))
      ∙ restore_row (a * q.width) q.width (first + start a) q.entries acc names z
      ∙ ap (λ (i : ℕ). restore_from i q.entries (first + start a) acc) (sym (zero-add (a * q.width))))

-- ---- a piece that stands in the scratch
x_length : (n : ℕ) → n ≤ length (x_nets n)
unfolding x_nets
x_length n = omega (arith, length-replicate n X)

rows_inside : (start : ℕ → ℕ) (base width first rows : ℕ) (es l : List ℕ) → Names width es → (a n : ℕ) (acc : List ℕ) → a + n ≤ rows → rows * width ≤ length acc
    → load_rows start base width es first (up_from a n) (sets l base acc) ≡ sets l base (load_rows start 0 width es first (up_from a n) acc)
unfolding load_rows
rows_inside start base width first rows es l names a zero acc h k = refl
rows_inside start base width first rows es l names a (suc n) acc h k =
    let z : 0 + a * width + width ≤ length acc = omega (arith, suc-mul a width, mul-le-mul_right {m = suc a} {n = rows} width (omega arith)) in
    ap (load_rows start base width es first (up_from (suc a) n))
    (ap (λ (i : ℕ). restore_from (base + i) es (first + start a) (sets l base acc)) (sym (zero-add (a * width))) ∙ from_inside base (0 + a * width) width (first + start a) es l acc names z)
    ∙ rows_inside start base width first rows es l names (suc a) n (restore_from (0 + a * width) es (first + start a) acc) (omega arith) (rw (length_from (0 + a * width) (first + start a) es acc) k)

module _ (q : Layout) (s : Split) (x first total : ℕ) (names : Names q.width q.entries)
    (within : (j : ℕ) → j < 2 ^ s.old → piece_start q s x j + row_len_of q ≤ total) (narrow : 2 ^ s.old * q.width ≤ None) where
  piece_rows : load_piece q s x (up_from first total) ≡ load_rows (λ j. piece_start q s x j) 0 q.width q.entries first (up_from 0 (2 ^ s.old)) (x_nets (2 ^ s.old * q.width))
  unfolding load_piece sources old_rows
  piece_rows = rows_load q s x first total names (2 ^ s.old) within narrow 0 (2 ^ s.old) (x_nets (2 ^ s.old * q.width)) (omega arith)

  pub piece_loaded : (l : List ℕ) (base : ℕ)
      → load_rows (λ j. piece_start q s x j) base q.width q.entries first (up_from 0 (2 ^ s.old)) (sets l base (x_nets (2 ^ s.old * q.width))) ≡ sets l base (load_piece q s x (up_from first total))
  piece_loaded l base =
      rows_inside (λ j. piece_start q s x j) base q.width first (2 ^ s.old) q.entries l names 0 (2 ^ s.old) (x_nets (2 ^ s.old * q.width)) (omega arith) (room (2 ^ s.old * q.width))
      ∙ ap (sets l base) (sym piece_rows)
    where
      room : (n : ℕ) → n ≤ length (x_nets n)
      room n = x_length n

-- a turn of the loops
pub from_cons : (at e f : ℕ) (es acc : List ℕ) → restore_from at (e ∷ es) f acc ≡ restore_from at es (suc f) (placed at e f acc)
unfolding restore_from
from_cons at e f es acc = refl

pub from_nil : (at f : ℕ) (acc : List ℕ) → restore_from at [] f acc ≡ acc
unfolding restore_from
from_nil at f acc = refl

pub rows_cons : (start : ℕ → ℕ) (at width first j : ℕ) (es js acc : List ℕ)
    → load_rows start at width es first (j ∷ js) acc ≡ load_rows start at width es first js (restore_from (at + j * width) es (first + start j) acc)
unfolding load_rows
rows_cons start at width first j es js acc = refl

pub rows_nil : (start : ℕ → ℕ) (at width first : ℕ) (es acc : List ℕ) → load_rows start at width es first [] acc ≡ acc
unfolding load_rows
rows_nil start at width first es acc = refl
