-- The rules' stores of pieces are the same stores in the order of the memories.
use mathlib.Core.Path.{◌≡◌, refl, sym, ap, ◌∙◌}
use Prim.Native.Nat.{ℕ, ◌*◌, ◌^◌}
use mathlib.Core.List.{List, [], ◌∷◌, ◌++◌, map}
use lib.ListN.{length, take, drop, replicate, length-replicate}
use lib.Seq.{sets, length-sets}
use Rattle.rules.specs.Value.{Value}
use Rattle.rules.specs.Log.{Made, ◌>>=◌, done}
use Rattle.rules.specs.Geometry.{Layout, row_len_of, all_mems, columns}
use Rattle.rules.specs.Swizzle.{Split, piece_start, old_rows, store_rows, store_piece, store_each, blank, piece_mask, mask_pieces}
use Rattle.swizzle_laws.specs.Order.{ordered}
use Rattle.swizzle_laws.specs.Stores.{spill_fit, spill_at, spill_each, piece_by, spill_masks, starts_of}
use Rattle.swizzle_laws.proofs.Order.{by_memory_fit, by_memory-blank}

module _ (q : Layout) (s : Split) where
  abbrev M : ℕ
  M = all_mems q

  abbrev R : ℕ
  R = 2 ^ s.new

  abbrev U : ℕ
  U = q.unit

  abbrev L : ℕ
  L = row_len_of q

  abbrev Whole : List ℕ → Type 0
  Whole cols = length cols ≡ R * (M * U)

  pub blank-whole : (t : ℕ) → Whole (blank q s t)
  unfolding blank columns
  blank-whole t = length-replicate (R * (M * U)) t

  pub order_blank : (t : ℕ) → ordered q s (blank q s t) ≡ replicate (R * (M * U)) t
  unfolding blank columns ordered
  order_blank t = by_memory-blank M R U t

  order_run : (cols : List ℕ) (i : ℕ) (ws : List ℕ) → Whole cols → ordered q s (sets cols i ws) ≡ spill_fit M R U (ordered q s cols) i ws
  unfolding ordered spill_fit
  order_run cols i ws w = by_memory_fit M R U ws cols i w

  rows_whole : (x : ℕ) (js v cols : List ℕ) → Whole cols → Whole (store_rows q s x js v cols)
  unfolding store_rows
  rows_whole x [] v cols w = w
  rows_whole x (j ∷ js) v cols w = rows_whole x js (drop L v) (sets cols (piece_start q s x j) (take L v)) (length-sets cols (piece_start q s x j) (take L v) ∙ w)

  order_rows : (x : ℕ) (js v cols : List ℕ) → Whole cols → ordered q s (store_rows q s x js v cols) ≡ spill_at M R U L (map (piece_start q s x) js) v (ordered q s cols)
  unfolding store_rows spill_at
  order_rows x [] v cols w = refl
  order_rows x (j ∷ js) v cols w =
      let i = piece_start q s x j in
      order_rows x js (drop L v) (sets cols i (take L v)) (length-sets cols i (take L v) ∙ w)
      ∙ ap (spill_at M R U L (map (piece_start q s x) js) (drop L v)) (order_run cols i (take L v) w)

  piece_whole : (x : ℕ) (v cols : List ℕ) → Whole cols → Whole (store_piece q s x v cols)
  unfolding store_piece
  piece_whole x v cols w = rows_whole x (old_rows s) v cols w

  order_piece : (x : ℕ) (v cols : List ℕ) → Whole cols → ordered q s (store_piece q s x v cols) ≡ spill_at M R U L (starts_of q s x) v (ordered q s cols)
  unfolding store_piece starts_of
  order_piece x v cols w = order_rows x (old_rows s) v cols w

  pub order_each : (xs v cols : List ℕ) → Whole cols → ordered q s (store_each q s xs v cols) ≡ spill_each M R U L (starts_of q s) xs v (ordered q s cols)
  unfolding store_each spill_each
  order_each [] v cols w = refl
  order_each (x ∷ xs) v cols w =
      order_each xs v (store_piece q s x v cols) (piece_whole x v cols w)
      ∙ ap (spill_each M R U L (starts_of q s) xs v) (order_piece x v cols w)

  pub each_whole : (xs v cols : List ℕ) → Whole cols → Whole (store_each q s xs v cols)
  unfolding store_each
  each_whole [] v cols w = w
  each_whole (x ∷ xs) v cols w = each_whole xs v (store_piece q s x v cols) (piece_whole x v cols w)

  -- the trace of the masks: the same entries, and the value in the order of the memories
  abbrev pub in_order : Made (List ℕ) → Made (List ℕ)
  in_order m = record { value = ordered q s m.value; entries = m.entries; next = m.next }

  pub order_masks : (mask : Value) (xs cols : List ℕ) → Whole cols → (n : ℕ)
      → spill_masks M R U L (starts_of q s) s.mux_addr mask xs (ordered q s cols) n ≡ in_order (mask_pieces q s mask xs cols n)
  unfolding spill_masks mask_pieces ◌>>=◌ done piece_mask piece_by
  order_masks mask [] cols w n = refl
  order_masks mask (x ∷ xs) cols w n =
      let a = piece_by s.mux_addr mask x n in
      let front : Made (List ℕ) → Made (List ℕ) = λ b. record { value = b.value; entries = a.entries ++ b.entries; next = b.next } in
      ap (λ (l : List ℕ). front (spill_masks M R U L (starts_of q s) s.mux_addr mask xs l a.next)) (sym (order_piece x a.value cols w))
      ∙ ap front (order_masks mask xs (store_piece q s x a.value cols) (piece_whole x a.value cols w) a.next)

  pub masks_whole : (mask : Value) (xs cols : List ℕ) → Whole cols → (n : ℕ) → Whole (mask_pieces q s mask xs cols n).value
  unfolding mask_pieces ◌>>=◌ done
  masks_whole mask [] cols w n = w
  masks_whole mask (x ∷ xs) cols w n =
      let a = piece_mask s mask x n in
      masks_whole mask xs (store_piece q s x a.value cols) (piece_whole x a.value cols w) a.next
