-- What is read back at a row's places: after a layout the row, and after any list of patch calls the amended row.
use Prim.Native.Nat.{ℕ, ◌+◌, ◌*◌, ◌≤◌, ◌<◌}
use mathlib.Core.Path.{◌≡◌, sym, ap, ◌∙◌, subst}
use mathlib.Core.Logic.{◌≢◌, ⊎_elim}
use mathlib.Core.Bool.{false}
use mathlib.Core.List.{List, [], ◌∷◌}
use native.Mathlib.Omega.{arith}
use native.Mathlib.Nat.{mul-le-mul_right, suc-mul, zero-add, eq-zero-or-pos, le_refl}
use lib.Dec.{eqb}
use lib.ListN.{length, get_or, take, drop, length-map, length-drop}
use lib.Seq.{ext_get_or, get_or-take, get_or-drop, length-take-le}
use borrow.Author.Tests.{eq-eqb, ne_eqb}
use Rattle.lists.specs.Lists.{up_from}
use Rattle.lists.specs.Distinct.{place_in}
use Rattle.lists.proofs.UpFrom.{length_up, get_d_up}
use Rattle.rules.specs.Limits.{trit_x, None}
use Rattle.rules.specs.Value.{Value}
use Rattle.rules.specs.Cell.{Given, Plan}
use Rattle.rules.specs.Log.{LogState}
use Rattle.rules.specs.Geometry.{Layout, layout_of, row_len_of}
use Rattle.rules.specs.Image.{image_size, index_of, row_of, layout, Laid, Patch}
use Rattle.rules.specs.Conditions.{times, bad_layout}
use Rattle.rules.specs.Answers as answers
use Rattle.rules.specs.Answers.{SwizzleLent, swizzle_call}
use Rattle.rules.specs.Patch.{lent_to, called_all, patched, exchange, amended, laid_out, LaysOut, Demand}
use Rattle.rules.specs.Beside.Layouts.{bit_of, read_row}
use Rattle.rules.proofs.Named.{name_in, name_at, once}
use Rattle.rules.proofs.Rows.{length_exchange}
use Rattle.rules.proofs.Demand.{Accepted, taken, refused, places_below, demand_3}
use Rattle.rules.proofs.Meaning.{layout_means}
use Rattle.rules.proofs.GoodLayouts.{good, good_small, good_accepted}
use Rattle.rules.proofs.Accepts.{layout_good, init_len_lem, number_zero, handed, swizzle_then_patches}

pub length_read_row : (q : Layout) (image : List ℕ) (r : ℕ) → length (read_row q image r) ≡ q.width
unfolding read_row
length_read_row q image r = length-map (up_from 0 q.width) (bit_of q image r) ∙ length_up 0 q.width

pub get_d_read_row : (q : Layout) (image : List ℕ) (r b d : ℕ) → b < q.width → get_or (read_row q image r) b d ≡ bit_of q image r b
unfolding read_row
get_d_read_row q image r b d l = get_d_up (bit_of q image r) 0 q.width b d l ∙ ap (bit_of q image r) (zero-add b)

row_fits : {r n m : ℕ} (w : ℕ) → r < n → m ≡ n * w → r * w + w ≤ m
row_fits {r} {n} w l e = omega (arith, mul-le-mul_right w l, suc-mul r w)

length_row_of : (w r : ℕ) (rows : List ℕ) → r * w + w ≤ length rows → length (row_of w rows r) ≡ w
unfolding row_of
length_row_of w r rows l = length-take-le w (drop (r * w) rows) (rw (length-drop (r * w) rows) (omega arith))

get_d_row_of : (w r b : ℕ) (rows : List ℕ) → b < w → get_or (row_of w rows r) b 0 ≡ get_or rows (r * w + b) 0
unfolding row_of
get_d_row_of w r b rows l = get_or-take w (drop (r * w) rows) b 0 l ∙ get_or-drop (r * w) rows b 0

module _ (q : Layout) (e : bad_layout q ≡ false) where
  z : Accepted q
  z = good_accepted q e

  named_once : (b : ℕ) → b < q.width → times b q.entries ≡ 1
  named_once = once q.width q.entries (good q e).entries

  -- the entry that names bit b
  entry_of : (b : ℕ) → b < q.width → place_in eqb b q.entries < length q.entries
  entry_of b l = name_in b q.entries (omega (arith, named_once b l))

  names_it : (b : ℕ) → b < q.width → get_or q.entries (place_in eqb b q.entries) None ≡ b
  names_it b l = name_at b q.entries (omega (arith, named_once b l))

  not_none : (b : ℕ) → b < q.width → b ≢ None
  not_none b l h = omega (arith, (good_small q e).width_max)

  -- an image that is laid out
  pub read_image : (rows image : List ℕ) → LaysOut q rows image → length rows ≡ q.depth * q.width
      → (r : ℕ) → r < q.depth → read_row q image r ≡ row_of q.width rows r
  unfolding bit_of row_len_of
  read_image rows image h k r l =
      ext_get_or 0 (read_row q image r) (row_of q.width rows r)
      (length_read_row q image r ∙ sym (length_row_of q.width r rows (row_fits q.width l k)))
      (λ b g. each b (subst (λ (n : ℕ). b < n) (length_read_row q image r) g))
    where
      at : (b : ℕ) → b < q.width → bit_of q image r b ≡ get_or rows (r * q.width + b) 0
      at b g =
          h.bits r (place_in eqb b q.entries) l (entry_of b g) (λ x. not_none b g (sym (names_it b g) ∙ x))
          ∙ ap (λ (n : ℕ). get_or rows (r * q.width + n) 0) (names_it b g)

      each : (b : ℕ) → b < q.width → get_or (read_row q image r) b 0 ≡ get_or (row_of q.width rows r) b 0
      each b g = get_d_read_row q image r b 0 g ∙ at b g ∙ sym (get_d_row_of q.width r b rows g)

  -- only the image's own part of a buffer is read
  pub read_front : (buffer : List ℕ) (r : ℕ) → r < q.depth → read_row q buffer r ≡ read_row q (take (image_size q) buffer) r
  unfolding bit_of
  read_front buffer r l =
      ext_get_or 0 (read_row q buffer r) (read_row q (take (image_size q) buffer) r)
      (length_read_row q buffer r ∙ sym (length_read_row q (take (image_size q) buffer) r))
      (λ b g. each b (subst (λ (n : ℕ). b < n) (length_read_row q buffer r) g))
    where
      below : (b : ℕ) → b < q.width → index_of q r (place_in eqb b q.entries) < image_size q
      below b g =
          subst (λ (n : ℕ). index_of q r n < image_size q) (zero-add (place_in eqb b q.entries))
          (places_below q z r (image_size q) l (le_refl (image_size q)) (place_in eqb b q.entries) (entry_of b g)
          (ne_eqb _ None (λ x. not_none b g (sym (names_it b g) ∙ x))))

      at : (b : ℕ) → b < q.width → bit_of q buffer r b ≡ bit_of q (take (image_size q) buffer) r b
      at b g = sym (get_or-take (image_size q) buffer (index_of q r (place_in eqb b q.entries)) trit_x (below b g))

      each : (b : ℕ) → b < q.width → get_or (read_row q buffer r) b 0 ≡ get_or (read_row q (take (image_size q) buffer) r) b 0
      each b g = get_d_read_row q buffer r b 0 g ∙ at b g ∙ sym (get_d_read_row q (take (image_size q) buffer) r b 0 g)

  -- after a layout
  pub read_layout : (rows : List ℕ) → length rows ≡ q.depth * q.width → (r : ℕ) → r < q.depth → read_row q (layout q rows) r ≡ row_of q.width rows r
  read_layout rows k r l = read_image rows (layout q rows) (layout_means q z rows) k r l

  -- the amended rows are as many
  pub length_amended : (size : ℕ) (cs : List Patch) (rows : List ℕ) → length rows ≡ q.depth * q.width → length (amended q size cs rows) ≡ q.depth * q.width
  unfolding amended lent_to
  length_amended size [] rows k = k
  length_amended size (c ∷ cs) rows k = ⊎_elim
      (λ h.
      let t = taken q (lent_to size c) h in
      rw (eq-eqb (refused q size c) 0 h)
      (length_amended size cs (exchange q.width c.row c.trits rows)
      (length_exchange q.width c.row c.trits rows t.as_long (row_fits q.width t.inside k) ∙ k)))
      (λ h. rw (ne_eqb (refused q size c) 0 (λ x. omega arith)) (length_amended size cs rows k))
      (eq-zero-or-pos (refused q size c))

  -- whatever has demand 3's image
  pub read_demanded : (rows buffer : List ℕ) (cs : List Patch) (after : List ℕ) → length rows ≡ q.depth * q.width → Demand q rows buffer cs after
      → (r : ℕ) → r < q.depth → read_row q after r ≡ row_of q.width (amended q (length buffer) cs rows) r
  read_demanded rows buffer cs after k d r l =
      read_front after r l ∙ ap (λ (l : List ℕ). read_row q l r) d.images
      ∙ read_layout (amended q (length buffer) cs rows) (length_amended (length buffer) cs rows k) r l

  -- after a layout and a list of patch calls
  pub read_patched : (rows buffer : List ℕ) (cs : List Patch) → length rows ≡ q.depth * q.width → image_size q ≤ length buffer
      → (r : ℕ) → r < q.depth → read_row q (called_all q cs (laid_out q rows buffer)) r ≡ row_of q.width (amended q (length buffer) cs rows) r
  read_patched rows buffer cs k s = read_demanded rows buffer cs _ k (demand_3 q z rows buffer k s cs)

-- from an accepted swizzle on: by the state that it hands on and the image that it leaves
module _ (l : SwizzleLent) (log : List ℕ) (s : LogState) (g : Given) (output : Value) (p : Plan) where
  pub swizzle_then_read : (laid : Laid) → (swizzle_call l log s g output p).laid ≡ answers.Accepted laid → (cs : List Patch) (r : ℕ) → r < g.mem.depth
      → read_row (layout_of g.mem p) (patched laid cs (swizzle_call l log s g output p).image) r
      ≡ row_of g.mem.width (amended (layout_of g.mem p) (length l.image) cs g.mem.init) r
  unfolding layout_of
  swizzle_then_read laid e cs =
      let n = number_zero l log s g output p (handed l log s g output p laid e).0 in
      read_demanded (layout_of g.mem p) (layout_good s.next g output p n) g.mem.init l.image cs _ (init_len_lem s.next g output p n)
      (swizzle_then_patches l log s g output p laid e cs)
