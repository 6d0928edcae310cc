-- Runs of places that follow each other: the cursor over a run, and its entries written as a copy.
use Prim.Native.Nat.{ℕ, zero, suc, ◌+◌, ◌-◌, ◌≤◌, ◌<◌}
use mathlib.Core.Path.{◌≡◌, sym, ap, ◌∙◌, subst}
use mathlib.Core.List.{List}
use native.Mathlib.Omega.{arith}
use native.Mathlib.Numerals.{add-one}
use native.Mathlib.Nat.{add-zero, add-suc}
use lib.Dec.{eqb}
use lib.ListN.{length, take, drop, get_or, set, length-drop}
use lib.Seq.{sets, get_or-drop}
use borrow.Author.Tests.{lt-ltb, ne_eqb}
use Rattle.lists.proofs.Store.{sets_more}
use Rattle.rules.specs.Limits.{None, max_row}
use Rattle.rules.specs.Image.{put, put_row}
use Rattle.rules.proofs.Writes.{row_again}
use Rattle.image_rows.specs.declared.Steps.{Steps}
use Rattle.image_rows.specs.declared.Cursor.{Cursor}
use Rattle.image_rows.specs.Steps.{next_of, last_of, after, index_from, Plain, Follows, PutRun}
use Rattle.image_rows.proofs.Cursors.{after_suc}

-- ---- the cursor
abbrev moved : Cursor → ℕ → Cursor
moved c j = record { memory = c.memory; bit = c.bit + j; start = c.start }

next_in : (g : Steps) (c : Cursor) (j : ℕ) → c.bit + suc j < g.unit → next_of g (moved c j) ≡ moved c (suc j)
next_in g c j h =
    let e : c.bit + j + 1 ≡ c.bit + suc j = omega arith in
    let k : c.bit + j + 1 < g.unit = omega arith in
    rw (lt-ltb (c.bit + j + 1) g.unit k) (λ i. record { memory = c.memory; bit = e i; start = c.start })

in_run : (g : Steps) (c : Cursor) (j : ℕ) → c.bit + j < g.unit → after g c j ≡ moved c j
unfolding after
in_run g c zero h = λ i. record { memory = c.memory; bit = sym (add-zero c.bit) i; start = c.start }
in_run g c (suc j) h = ap (next_of g) (in_run g c j (omega arith)) ∙ next_in g c j h

after_add : (g : Steps) (c : Cursor) (i j : ℕ) → after g c (i + j) ≡ after g (after g c i) j
unfolding after
after_add g c i zero = ap (after g c) (add-zero i)
after_add g c i (suc j) = ap (after g c) (add-suc i j) ∙ ap (next_of g) (after_add g c i j)

module _ (g : Steps) (c₀ c : Cursor) (i n : ℕ) (e : c ≡ after g c₀ i) (h : c.bit + n ≤ g.unit) where
  at_run : (j : ℕ) → j < n → after g c₀ (i + j) ≡ moved c j
  at_run j l = after_add g c₀ i j ∙ ap (λ (x : Cursor). after g x j) (sym e) ∙ in_run g c j (omega arith)

  pub follows : Follows (index_from g c₀) i (c.start + c.bit) n
  follows j l = ap (λ (x : Cursor). x.start + x.bit) (at_run j l) ∙ omega arith

  -- of the entries to below i + n
  pub follows_to : Follows (index_from g c₀) i (c.start + c.bit) (i + n - i)
  follows_to j l = follows j (omega arith)

  pub run_next : 0 < n → next_of g (last_of c n) ≡ after g c₀ (i + n)
  run_next l =
      let k : i + (n - 1) + 1 ≡ i + n = omega arith in
      ap (next_of g) (sym (at_run (n - 1) (omega arith))) ∙ after_suc g c₀ (i + (n - 1)) ∙ ap (after g c₀) k

-- ---- the entries one by one
pub each_turn : (f : ℕ → ℕ) (ts es : List ℕ) (at from to i place : ℕ) (l l' g : List ℕ) → Follows f from at (to - from) → from ≤ i → i < to → to ≤ length es → place ≡ at + (i - from)
    → l' ≡ put (eqb (get_or es i 0) None) place (get_or ts (get_or es i 0) 0) l → put_row f (drop i es) i ts l ≡ g → put_row f (drop (i + 1) es) (i + 1) ts l' ≡ g
each_turn f ts es at from to i place l l' g w a b h p e k =
    let n : from + (i - from) ≡ i = omega arith in
    let q : place ≡ f i = p ∙ sym (w (i - from) (omega arith)) ∙ ap f n in
    row_again f ts es i l l' g (omega arith) (e ∙ ap (λ (x : ℕ). put (eqb (get_or es i 0) None) x (get_or ts (get_or es i 0) 0) l) q) k

-- ---- the entries as a copy
module _ (f : ℕ → ℕ) (ts es : List ℕ) (at from to : ℕ) (image : List ℕ) (p : Plain es to) (w : Follows f from at (to - from))
    (a : from ≤ to) (b : to ≤ length es) (s : length es ≤ max_row) (t : to ≤ length ts) where
  stored : (k : ℕ) → from + k < to → set (sets image at (take k (drop from ts))) (at + k) (get_or ts (from + k) 0) ≡ sets image at (take (k + 1) (drop from ts))
  stored k l =
      ap (set (sets image at (take k (drop from ts))) (at + k)) (sym (get_or-drop from ts k 0))
      ∙ sets_more image at (drop from ts) k 0 (omega (arith, length-drop from ts))

  plain-put : (k : ℕ) → from + k < to → (l : List ℕ) → set l (at + k) (get_or ts (from + k) 0) ≡ put (eqb (get_or es (from + k) 0) None) (f (from + k)) (get_or ts (get_or es (from + k) 0) 0) l
  unfolding put
  plain-put k l x =
      rw (p (from + k) (omega arith), ne_eqb (from + k) None (λ e. omega arith), w k (omega arith))

  copied : (k : ℕ) → from + k ≤ to → put_row f (drop (from + k) es) (from + k) ts (sets image at (take k (drop from ts))) ≡ put_row f (drop from es) from ts image
  copied zero l = ap (λ (n : ℕ). put_row f (drop n es) n ts image) (add-zero from)
  copied (suc k) l =
      let h : from + k < to = omega arith in
      let n : from + k + 1 ≡ from + suc k = omega arith in
      subst (λ (m : ℕ). put_row f (drop m es) m ts (sets image at (take (suc k) (drop from ts))) ≡ put_row f (drop from es) from ts image) n
      (row_again f ts es (from + k) (sets image at (take k (drop from ts))) _ _ (omega arith) (ap (λ (m : ℕ). sets image at (take m (drop from ts))) (sym (add-one k)) ∙ sym (stored k h) ∙ plain-put k h _) (copied k (omega arith)))

  copy_all : put_row f (drop to es) to ts (sets image at (take (to - from) (drop from ts))) ≡ put_row f (drop from es) from ts image
  copy_all =
      let n : from + (to - from) ≡ to = omega arith in
      ap (λ (m : ℕ). put_row f (drop m es) m ts (sets image at (take (to - from) (drop from ts)))) (sym n) ∙ copied (to - from) (omega arith)

pub put_copy : (ts es : List ℕ) (at from to n : ℕ) (image image' : List ℕ) → Plain es n → to ≤ n → from ≤ to → to ≤ length es → length es ≤ max_row → to ≤ length ts
    → image' ≡ sets image at (take (to - from) (drop from ts)) → PutRun at es from to ts image image'
put_copy ts es at from to n image image' p m a b s t e f w = ap (put_row f (drop to es) to ts) e ∙ copy_all f ts es at from to image (λ i l. p i (omega arith)) w a b s t
