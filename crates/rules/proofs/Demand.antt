-- Demand 3: after any list of patch calls, refused ones among them, the images are those of the amended rows.
use Prim.Native.Nat.{ℕ, zero, suc, ◌+◌, ◌-◌, ◌*◌, ◌≤◌, ◌<◌}
use mathlib.Core.Path.{◌≡◌, refl, sym, ap, ◌∙◌, subst}
use mathlib.Core.Logic.{◌≢◌, ⊎_elim}
use mathlib.Core.Bool.{true, not, ◌||◌}
use mathlib.Core.List.{List, [], ◌∷◌, ◌++◌}
use native.Mathlib.Nat.{mul-le-mul_right, suc-mul, min-le_left, lt_of_lt_of_le, le_trans, eq-or-lt_of_le, le_of_suc-le-suc, le_refl, lt_trans, le_of_lt, ne_of_lt, eq-zero-or-pos, zero-add}
use native.Mathlib.Omega.{arith}
use lib.Dec.{eqb, ltb, leb}
use lib.ListN.{length, get_or, take, drop, replicate, length-drop, length-append, length-replicate, take-append-drop}
use lib.Seq.{take_at, drop_at}
use borrow.Author.Tests.{eqb-true, eqb-false, ltb-false, leb-false, eq-eqb, ne_eqb, not-false}
use Rattle.rules.specs.Limits.{trit_x, None}
use Rattle.lists.specs.Choice.{when◌then◌else◌}
use Rattle.rules.specs.Logic.{undef, are_trits}
use Rattle.rules.specs.Geometry.{Layout, row_len_of, full_depth_of, part_depth_of, full_mems, all_mems}
use Rattle.rules.specs.Image.{rows_before, mem_start, trits, image_size, index_of, write_row, row_of, write_rows, layout, Patch}
use Rattle.rules.specs.Conditions.{bad_trits, not_below, no_room_of}
use Rattle.rules.specs.Refusals.{patch_refusal_of, patch_refusal_by}
use Rattle.lists.proofs.Choice.{if_zero, or_false}
use Rattle.rules.specs.Patch.{patched_by, lent_to, called, called_all, exchange, amended, laid_out, IsPlace, KeptBy, KeptByEach, Demand}
use Rattle.rules.proofs.Writes.{Below, rows_comm, rows_twice, row_take, row_drop, row_frame, length_put_row}
use Rattle.rules.proofs.Places.{Sized, index_inj, index_in}
use Rattle.rules.proofs.Rows.{length_exchange, row_same, row_below, row_above}

-- what an accepted swizzle gives: the sizes, and entries that name bits of the width only
pub record Accepted (q : Layout) : Type 0 where
  pub sized : Sized q
  pub named : (j : ℕ) → j < length q.entries → get_or q.entries j None ≢ None → get_or q.entries j None < q.width

pub length_write_row : (q : Layout) (r : ℕ) (v l : List ℕ) → length (write_row q r v l) ≡ length l
unfolding write_row
length_write_row q r v l = length_put_row (index_of q r) v q.entries 0 l

module _ (q : Layout) (z : Accepted q) where
  pub entry_in : (j : ℕ) → j < 0 + length q.entries → j < row_len_of q
  unfolding row_len_of
  entry_in j l = omega arith

  -- ---- rows written one after the other
  write_comm : (r k : ℕ) (v w l : List ℕ) → r < q.depth → k < q.depth → r ≢ k → write_row q r v (write_row q k w l) ≡ write_row q k w (write_row q r v l)
  unfolding write_row
  write_comm r k v w l lr lk n =
      rows_comm (index_of q r) (index_of q k) v w q.entries q.entries 0 0 l
      (λ j j' a b c d e. n (index_inj q z.sized r k j j' lr lk (entry_in j b) (entry_in j' d) e).0)

  write_twice : (r : ℕ) (v w l : List ℕ) → r < q.depth → write_row q r v (write_row q r w l) ≡ write_row q r v l
  unfolding write_row
  write_twice r v w l lr =
      rows_twice (index_of q r) v w q.entries 0 l
      (λ j j' a b c e. ne_of_lt b (sym (index_inj q z.sized r r j' j lr lr (entry_in j' c) (entry_in j (lt_trans b c)) e).1))

  -- ---- a row exchanged in the image is a row exchanged in the rows
  module _ (r : ℕ) (v rows : List ℕ) (lr : r < q.depth) (lv : length v ≡ q.width) (ll : length rows ≡ q.depth * q.width) where
    fits : r * q.width + q.width ≤ length rows
    fits = omega (arith, mul-le-mul_right q.width lr, suc-mul r q.width)

    below_same : (n : ℕ) (l : List ℕ) → n ≤ r → write_rows q (exchange q.width r v rows) n l ≡ write_rows q rows n l
    unfolding write_rows
    below_same zero l h = refl
    below_same (suc n) l h =
        ap (λ (w : List ℕ). write_row q n w (write_rows q (exchange q.width r v rows) n l)) (row_below q.width r v rows lv fits n h)
        ∙ ap (write_row q n (row_of q.width rows n)) (below_same n l (le_of_lt h))

    write_last : (l : List ℕ) → write_row q r v (write_rows q rows (suc r) l) ≡ write_rows q (exchange q.width r v rows) (suc r) l
    unfolding write_rows
    write_last l =
        write_twice r v (row_of q.width rows r) (write_rows q rows r l) lr
        ∙ ap (λ (w : List ℕ). write_row q r w (write_rows q rows r l)) (sym (row_same q.width r v rows lv fits))
        ∙ ap (write_row q r (row_of q.width (exchange q.width r v rows) r)) (sym (below_same r l (le_refl r)))

    write_next : (n : ℕ) (l : List ℕ) → r < n → n < q.depth → write_row q r v (write_rows q rows n l) ≡ write_rows q (exchange q.width r v rows) n l
        → write_row q r v (write_rows q rows (suc n) l) ≡ write_rows q (exchange q.width r v rows) (suc n) l
    unfolding write_rows
    write_next n l e k ih =
        write_comm r n v (row_of q.width rows n) (write_rows q rows n l) lr k (ne_of_lt e)
        ∙ ap (write_row q n (row_of q.width rows n)) ih
        ∙ ap (λ (w : List ℕ). write_row q n w (write_rows q (exchange q.width r v rows) n l)) (sym (row_above q.width r v rows lv fits n e))

    write_rows_lem : (n : ℕ) (l : List ℕ) → r < n → n ≤ q.depth → write_row q r v (write_rows q rows n l) ≡ write_rows q (exchange q.width r v rows) n l
    write_rows_lem zero l h k = absurd (omega arith)
    write_rows_lem (suc n) l h k = ⊎_elim
        (λ e. subst (λ (m : ℕ). write_row q r v (write_rows q rows (suc m) l) ≡ write_rows q (exchange q.width r v rows) (suc m) l) e (write_last l))
        (λ e. write_next n l e k (write_rows_lem n l e (le_of_lt k)))
        (eq-or-lt_of_le (le_of_suc-le-suc h))

    -- the image of the rows, with one row written, is the image of the rows with that row exchanged
    pub write_layout : write_row q r v (layout q rows) ≡ layout q (exchange q.width r v rows)
    unfolding layout undef
    write_layout = write_rows_lem q.depth (replicate (image_size q) trit_x) lr (le_refl q.depth)

-- ---- what an accepted call gives
-- the number of a call that is lent as much as its room, and no more than there is
abbrev pub refused : Layout → ℕ → Patch → ℕ
refused q size c = patch_refusal_of q (lent_to size c)

pub record Taken (q : Layout) (c : Patch) : Type 0 where
  pub as_long : length c.trits ≡ q.width
  pub trit : are_trits c.trits ≡ true
  pub inside : c.row < q.depth
  pub holds : image_size q ≤ c.room

pub taken : (q : Layout) (c : Patch) → patch_refusal_of q c ≡ 0 → Taken q c
unfolding patch_refusal_of patch_refusal_by bad_trits not_below no_room_of
taken q c e =
    let a = if_zero (not (eqb (length c.trits) q.width) || not (are_trits c.trits)) 3 _ e in
    let a' = or_false (not (eqb (length c.trits) q.width)) (not (are_trits c.trits)) a.0 in
    let b = if_zero (leb q.depth c.row) 14 _ a.1 in
    let d = if_zero (ltb c.room (image_size q)) 19 0 b.1 in
    record {
      as_long = eqb-true (length c.trits) q.width (not-false _ a'.0);
      trit = not-false _ a'.1;
      inside = leb-false q.depth c.row b.0;
      holds = ltb-false c.room (image_size q) d.0;
    }

pos_of : {a b : ℕ} → a < b → 0 < b
pos_of l = omega arith

module _ (q : Layout) (z : Accepted q) where
  size_is : 0 < q.width → image_size q ≡ rows_before (full_mems q) (full_depth_of q) (part_depth_of q) (all_mems q) * q.unit
  unfolding image_size trits mem_start
  size_is l = rw (ne_eqb q.width 0 (λ e. omega arith))

  -- the places of a row lie inside the image
  pub places_below : (r n : ℕ) → r < q.depth → image_size q ≤ n → Below (index_of q r) q.entries 0 n
  places_below r n l h j a b =
      let m = z.named j a (eqb-false (get_or q.entries j None) None b) in
      lt_of_lt_of_le (subst (λ (x : ℕ). index_of q r (0 + j) < x) (sym (size_is (pos_of m))) (index_in q z.sized r (0 + j) l (entry_in q z (0 + j) (omega arith)))) h

  pub write_take : (r n : ℕ) (v l : List ℕ) → Below (index_of q r) q.entries 0 n → take n (write_row q r v l) ≡ write_row q r v (take n l)
  unfolding write_row
  write_take r n v l b = row_take (index_of q r) v q.entries 0 n l b

  pub write_drop : (r n : ℕ) (v l : List ℕ) → Below (index_of q r) q.entries 0 n → drop n (write_row q r v l) ≡ drop n l
  unfolding write_row
  write_drop r n v l b = row_drop (index_of q r) v q.entries 0 n l b

  called_refused : (c : Patch) (buffer : List ℕ) → refused q (length buffer) c ≢ 0 → called q c buffer ≡ buffer
  unfolding called patched_by lent_to
  called_refused c buffer n =
      rw (ne_eqb _ 0 n) (take-append-drop c.room buffer)

  called_accepted : (c : Patch) (buffer : List ℕ) → refused q (length buffer) c ≡ 0 → called q c buffer ≡ write_row q c.row c.trits buffer
  unfolding called patched_by lent_to
  called_accepted c buffer e =
      let t = taken q (lent_to (length buffer) c) e in
      let b = places_below c.row c.room t.inside (le_trans t.holds (min-le_left c.room (length buffer))) in
      rw (eq-eqb _ 0 e)
      (ap (λ (l : List ℕ). write_row q c.row c.trits (take c.room buffer) ++ l) (sym (write_drop c.row c.room c.trits buffer b))
      ∙ ap (λ (l : List ℕ). l ++ drop c.room (write_row q c.row c.trits buffer)) (sym (write_take c.row c.room c.trits buffer b))
      ∙ take-append-drop c.room (write_row q c.row c.trits buffer))

  -- ---- one call
  record Step (size : ℕ) (rows rows' buffer buffer' : List ℕ) : Type 0 where
    long : length buffer' ≡ size
    whole : length rows' ≡ q.depth * q.width
    image : take (image_size q) buffer' ≡ layout q rows'
    rest : drop (image_size q) buffer' ≡ drop (image_size q) buffer

  next : ℕ → Patch → List ℕ → List ℕ
  next size c rows = when eqb (refused q size c) 0 then exchange q.width c.row c.trits rows else rows

  one_accepted : (size : ℕ) (c : Patch) (rows buffer : List ℕ) → length buffer ≡ size → image_size q ≤ size → length rows ≡ q.depth * q.width
      → take (image_size q) buffer ≡ layout q rows → refused q size c ≡ 0 → Step size rows (exchange q.width c.row c.trits rows) buffer (called q c buffer)
  unfolding lent_to
  one_accepted size c rows buffer ls ln lr im e =
      let t = taken q (lent_to size c) e in
      let b = places_below c.row (image_size q) t.inside (le_refl (image_size q)) in
      let w = called_accepted c buffer (subst (λ (n : ℕ). refused q n c ≡ 0) (sym ls) e) in
      let f : c.row * q.width + q.width ≤ length rows = fits q z c.row c.trits rows t.inside t.as_long lr in
      record {
        long = ap length w ∙ length_write_row q c.row c.trits buffer ∙ ls;
        whole = length_exchange q.width c.row c.trits rows t.as_long f ∙ lr;
        image = ap (take (image_size q)) w ∙ write_take c.row (image_size q) c.trits buffer b ∙ ap (write_row q c.row c.trits) im
            ∙ write_layout q z c.row c.trits rows t.inside t.as_long lr;
        rest = ap (drop (image_size q)) w ∙ write_drop c.row (image_size q) c.trits buffer b;
      }

  one : (size : ℕ) (c : Patch) (rows buffer : List ℕ) → length buffer ≡ size → image_size q ≤ size → length rows ≡ q.depth * q.width
      → take (image_size q) buffer ≡ layout q rows → Step size rows (next size c rows) buffer (called q c buffer)
  unfolding next
  one size c rows buffer ls ln lr im = ⊎_elim
      (λ e. rw (eq-eqb (refused q size c) 0 e) (one_accepted size c rows buffer ls ln lr im e))
      (λ l.
      let n : refused q size c ≢ 0 = λ e. omega arith in
      let w = called_refused c buffer (subst (λ (n : ℕ). refused q n c ≢ 0) (sym ls) n) in
      rw (ne_eqb (refused q size c) 0 n) (record { long = ap length w ∙ ls; whole = lr; image = ap (take (image_size q)) w ∙ im; rest = ap (drop (image_size q)) w }))
      (eq-zero-or-pos (refused q size c))

  -- ---- a list of calls
  all : (size : ℕ) (cs : List Patch) (rows buffer : List ℕ) → length buffer ≡ size → image_size q ≤ size → length rows ≡ q.depth * q.width
      → take (image_size q) buffer ≡ layout q rows → Step size rows (amended q size cs rows) buffer (called_all q cs buffer)
  unfolding amended called_all next
  all size [] rows buffer ls ln lr im = record { long = ls; whole = lr; image = im; rest = refl }
  all size (c ∷ cs) rows buffer ls ln lr im =
      let s = one size c rows buffer ls ln lr im in
      let t = all size cs (next size c rows) (called q c buffer) s.long ln s.whole s.image in
      record { long = t.long; whole = t.whole; image = t.image; rest = t.rest ∙ s.rest }

  -- ---- what each call leaves as it was
  pub frame : (r : ℕ) (v buffer : List ℕ) (k : ℕ) → (IsPlace q r k → ⊥) → get_or (write_row q r v buffer) k trit_x ≡ get_or buffer k trit_x
  unfolding write_row row_len_of
  frame r v buffer k o =
      row_frame (index_of q r) v q.entries 0 k trit_x buffer
      (λ j a b e. o (record { entry = j; within = a; names = eqb-false (get_or q.entries j None) None b; is = ap (index_of q r) (sym (zero-add j)) ∙ e }))

  kept : (c : Patch) (buffer : List ℕ) → KeptBy q c buffer
  kept c buffer = record {
    same_size = ⊎_elim
        (λ e. ap length (called_accepted c buffer e) ∙ length_write_row q c.row c.trits buffer)
        (λ l. ap length (called_refused c buffer (λ e. omega arith)))
        (eq-zero-or-pos (refused q (length buffer) c));
    if_refused = called_refused c buffer;
    if_accepted = λ e k o. ap (λ (l : List ℕ). get_or l k trit_x) (called_accepted c buffer e) ∙ frame c.row c.trits buffer k o;
  }

  kept-all : (cs : List Patch) (buffer : List ℕ) → KeptByEach q cs buffer
  kept-all [] buffer = tt
  kept-all (c ∷ cs) buffer = (kept c buffer, kept-all cs (called q c buffer))

pub length_write_rows : (q : Layout) (rows : List ℕ) (n : ℕ) (l : List ℕ) → length (write_rows q rows n l) ≡ length l
unfolding write_rows
length_write_rows q rows zero l = refl
length_write_rows q rows (suc n) l = length_write_row q n (row_of q.width rows n) (write_rows q rows n l) ∙ length_write_rows q rows n l

pub length_layout : (q : Layout) (rows : List ℕ) → length (layout q rows) ≡ image_size q
unfolding layout undef
length_layout q rows = length_write_rows q rows q.depth (replicate (image_size q) trit_x) ∙ length-replicate (image_size q) trit_x

-- Demand 3, whole: `rows` are those of the memory that the swizzle was given, `buffer` the swizzle's own image buffer before it
pub demand_3 : (q : Layout) → Accepted q → (rows buffer : List ℕ) → length rows ≡ q.depth * q.width → image_size q ≤ length buffer
    → (cs : List Patch) → Demand q rows buffer cs (called_all q cs (laid_out q rows buffer))
unfolding laid_out
demand_3 q z rows buffer lr ln cs =
    let first = laid_out q rows buffer in
    let ls : length (layout q rows ++ drop (image_size q) buffer) ≡ length buffer =
    length-append (layout q rows) (drop (image_size q) buffer) ∙ sums (length_layout q rows) (length-drop (image_size q) buffer) ln in
    let s = all q z (length buffer) cs rows (laid_out q rows buffer) ls ln lr (take_at (layout q rows) (drop (image_size q) buffer) (image_size q) (length_layout q rows)) in
    record { images = s.image; beyond = s.rest ∙ drop_at (layout q rows) (drop (image_size q) buffer) (image_size q) (length_layout q rows); each = kept-all q z cs (laid_out q rows buffer) }
  where
    sums : {a b n m : ℕ} → a ≡ n → b ≡ m - n → n ≤ m → a + b ≡ m
    sums e f l = omega arith
