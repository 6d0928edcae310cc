-- Words that are taken one after another stand at the bytes 0, 2, 4 and so on.
use Rattle.std.specs.Prelude.{None}
use mathlib.Core.Path.{◌≡◌, refl, sym, ap, ◌∙◌}
use mathlib.Core.Logic.{◌⊎◌, inl, inr, ⊎_elim}
use mathlib.Core.Bool.{Bool, true, false}
use Prim.Native.Nat.{ℕ, ◌+◌, ◌≤◌, ◌<◌}
use native.Mathlib.Omega.{arith}
use mathlib.Core.List.{List}
use lib.ListN.{length}
use borrow.Author.Tests.{lt-ltb, le-ltb, ltb-true, ltb-false}
use Rattle.rules.specs.Record.{word_at, head_sizes, next_word, after_word}
use Rattle.record_reader.specs.Reading.{has_word, word_there, place_after_word, words_from, place_after_head, word_of, head_words, sizes_by}
use Rattle.record_reader.specs.declared.HeadWords.{HeadWords}

module _ (bytes : List ℕ) where
  -- the reader stands at n, or nothing is left where it stands
  abbrev pub Stands : ℕ → ℕ → Type 0
  Stands p n = (p ≡ n) ⊎ ((length bytes ≤ p + 1) × (p ≤ n))

  goes : (p : ℕ) → has_word bytes p ≡ true → place_after_word bytes p ≡ p + 2
  unfolding place_after_word after_word
  goes p e = rw e

  stays : (p : ℕ) → has_word bytes p ≡ false → place_after_word bytes p ≡ p
  unfolding place_after_word
  stays p e = rw e

  none : (p : ℕ) → length bytes ≤ p + 1 → word_there bytes p ≡ None
  unfolding word_there
  none p h = rw (le-ltb (p + 1) (length bytes) h)

  below : (p n q : ℕ) → q ≡ p → Stands p n → p ≤ n + 2
  below p n q e o = ⊎_elim (λ h. omega arith) (λ h. omega arith) o

  by_word : (p n : ℕ) → Stands p n → (x : Bool) → has_word bytes p ≡ x → Stands (place_after_word bytes p) (n + 2)
  by_word p n o true e =
      let g : place_after_word bytes p ≡ p + 2 = goes p e in
      let l : p + 1 < length bytes = ltb-true (p + 1) (length bytes) e in
      ⊎_elim (λ h. inl (g ∙ omega arith)) (λ h. inl (omega arith)) o
  by_word p n o false e =
      let g : place_after_word bytes p ≡ p = stays p e in
      let l : length bytes ≤ p + 1 = ltb-false (p + 1) (length bytes) e in
      let b : p ≤ n + 2 = below p n p refl o in
      inr (omega arith, omega arith)

  pub next : (p n : ℕ) → Stands p n → Stands (place_after_word bytes p) (n + 2)
  next p n o = by_word p n o (has_word bytes p) refl

  pub there : (p n : ℕ) → Stands p n → word_there bytes p ≡ word_there bytes n
  there p n o = ⊎_elim (λ h. ap (word_there bytes) h) (λ h. none p h.0 ∙ sym (none n (omega arith))) o

-- from the start on they are the head's
module _ (bytes : List ℕ) where
  pub from_start : words_from bytes 0 ≡ head_words bytes
  unfolding words_from head_words
  from_start =
      let o1 = next bytes 0 0 (inl refl) in
      let o2 = next bytes _ _ o1 in
      let o3 = next bytes _ _ o2 in
      let o4 = next bytes _ _ o3 in
      let o5 = next bytes _ _ o4 in
      let f1 = there bytes _ _ o1 in
      let f2 = there bytes _ _ o2 in
      let f3 = there bytes _ _ o3 in
      let f4 = there bytes _ _ o4 in
      let f5 = there bytes _ _ o5 in λ i. record { mark = word_there bytes 0; unit = f1 i; full = f2 i; full_depth = f3 i; partial = f4 i; partial_depth = f5 i }

-- each word of a head
module _ (bytes : List ℕ) (w : HeadWords) (e : w ≡ head_words bytes) where
  pub is_mark : w.mark ≡ word_there bytes 0
  unfolding head_words
  is_mark = ap (λ (r : HeadWords). r.mark) e

  pub is_unit : w.unit ≡ word_there bytes 2
  unfolding head_words
  is_unit = ap (λ (r : HeadWords). r.unit) e

  pub is_full : w.full ≡ word_there bytes 4
  unfolding head_words
  is_full = ap (λ (r : HeadWords). r.full) e

  pub is_full_depth : w.full_depth ≡ word_there bytes 6
  unfolding head_words
  is_full_depth = ap (λ (r : HeadWords). r.full_depth) e

  pub is_partial : w.partial ≡ word_there bytes 8
  unfolding head_words
  is_partial = ap (λ (r : HeadWords). r.partial) e

  pub is_partial_depth : w.partial_depth ≡ word_there bytes 10
  unfolding head_words
  is_partial_depth = ap (λ (r : HeadWords). r.partial_depth) e

-- ---- where all six are there
module _ (bytes : List ℕ) (h : 12 ≤ length bytes) where
  one : (n : ℕ) → n ≤ 10 → place_after_word bytes n ≡ n + 2
  one n g = goes bytes n (lt-ltb (n + 1) (length bytes) (omega arith))

  abbrev after : ℕ → ℕ
  after p = place_after_word bytes p

  -- the reader stands at the head's end
  pub six_on : place_after_head bytes 0 ≡ 12
  unfolding place_after_head
  six_on =
      let a1 = one 0 (omega arith) in
      let a2 = ap after a1 ∙ one 2 (omega arith) in
      let a3 = ap after a2 ∙ one 4 (omega arith) in
      let a4 = ap after a3 ∙ one 6 (omega arith) in
      let a5 = ap after a4 ∙ one 8 (omega arith) in ap after a5 ∙ one 10 (omega arith)

  found : (n : ℕ) → n ≤ 10 → word_of (word_there bytes n) ≡ word_at bytes n
  unfolding word_there next_word
  found n g = rw (lt-ltb (n + 1) (length bytes) (omega arith))

  module _ (w : HeadWords) (e : w ≡ head_words bytes) where
    pub mark_word : word_of w.mark ≡ word_at bytes 0
    mark_word = ap word_of (is_mark bytes w e) ∙ found 0 (omega arith)

    pub head_words_lem : sizes_by w ≡ head_sizes bytes
    unfolding sizes_by head_sizes
    head_words_lem =
        let e1 = ap word_of (is_unit bytes w e) ∙ found 2 (omega arith) in
        let e2 = ap word_of (is_full bytes w e) ∙ found 4 (omega arith) in
        let e3 = ap word_of (is_full_depth bytes w e) ∙ found 6 (omega arith) in
        let e4 = ap word_of (is_partial bytes w e) ∙ found 8 (omega arith) in
        let e5 = ap word_of (is_partial_depth bytes w e) ∙ found 10 (omega arith) in λ i. record { unit = e1 i; full = e2 i; full_depth_of = e3 i; partial = e4 i; partial_depth = e5 i }
