-- The header line reads back: the machine over the digits of a number, over what ends one, and over the entries.
use mathlib.Core.Path.{◌≡◌, refl, sym, ap, ◌∙◌}
use mathlib.Core.Bool.{Bool, true, false}
use mathlib.Core.List.{List, [], ◌∷◌, ◌++◌}
use Prim.Native.Nat.{ℕ, zero, suc, ◌+◌, ◌-◌, ◌*◌, ◌/◌, ◌%◌, ◌≤◌, ◌<◌}
use native.Mathlib.Numerals.{add-one}
use native.Mathlib.Omega.{arith}
use native.Mathlib.Nat.{add-zero}
use lib.ListN.{length, set, get_or}
use lib.Seq.{sets}
use lib.Dec.{eqb}
use borrow.Author.Tests.{lt-ltb, le-ltb, le-leb, ne_eqb, eqb-true}
use Rattle.lists.specs.Choice.{when◌then◌else◌}
use Rattle.lists.proofs.Choice.{cases_le}
use Rattle.rules.specs.Limits.{None}
use Rattle.rules.specs.Lister.{digits_from}
use Rattle.table_text.specs.Bytes.{bump, is_blank, is_digit_of, letter_of}
use Rattle.table_text.specs.Head.{head_as, number_end, head_blank, head_comma, head_break, head_digit, head_entry, head_letter, head_word, head_step_of, is_stop, head_stored, head_run}
use Rattle.table_text.proofs.Runs.{head_stop}
use Rattle.rules.specs.Geometry.{Layout}
use Rattle.lists.proofs.Store.{sets_at}
use Rattle.table_print.specs.Header.{number_text, entry_text, more_entries, entries_text, header_text}

-- ---- a digit
module _ (d : ℕ) (h : d < 10) where
  is_digit : is_digit_of (48 + d) ≡ true
  unfolding is_digit_of
  is_digit = rw (le-leb 48 (48 + d) (omega arith), le-leb (48 + d) 57 (omega arith))

  not_byte : (b : ℕ) → b < 48 → eqb (48 + d) b ≡ false
  not_byte b k = ne_eqb (48 + d) b (λ e. absurd (omega arith))

  no_stop : is_stop (48 + d) ≡ false
  unfolding is_stop is_blank
  no_stop = rw (not_byte 32 (omega arith), not_byte 9 (omega arith), not_byte 13 (omega arith), not_byte 44 (omega arith), not_byte 10 (omega arith))

  module _ (f c v : ℕ) (s : v < 4294967296) (ws bs : List ℕ) where
    first_digit : head_run (head_as 0 f c v) ws ((48 + d) ∷ bs) ≡ head_run (head_as 1 f c (10 * v + d)) ws bs
    unfolding head_run head_step_of head_stored head_digit
    first_digit =
        let e : (48 + d) - 48 ≡ d = omega arith in
        rw (is_digit, e, lt-ltb v 4294967296 s)

  -- the first digit of a number
  one_digit : (f c : ℕ) (ws bs : List ℕ) → head_run (head_as 0 f c 0) ws ((48 + d) ∷ bs) ≡ head_run (head_as 1 f c d) ws bs
  one_digit f c ws bs =
      let e : 10 * 0 + d ≡ d = omega arith in
      first_digit f c 0 (omega arith) ws bs ∙ ap (λ (v : ℕ). head_run (head_as 1 f c v) ws bs) e

  module _ (f c v : ℕ) (s : v < 4294967296) (ws bs : List ℕ) where
    next_digit : head_run (head_as 1 f c v) ws ((48 + d) ∷ bs) ≡ head_run (head_as 1 f c (10 * v + d)) ws bs
    unfolding head_run head_step_of head_stored head_digit
    next_digit =
        let e : (48 + d) - 48 ≡ d = omega arith in
        rw (is_digit, no_stop, e, lt-ltb v 4294967296 s)

-- ---- the digits of a number
abbrev tens : ℕ → ℕ
tens zero = 1
tens (suc m) = 10 * tens m

pub last_step : (m n : ℕ) (after : List ℕ) → n < 10 → digits_from (suc m) n after ≡ (48 + n) ∷ after
unfolding digits_from
last_step m n after h = rw (lt-ltb n 10 h, digits_from)

pub more-step : (m n : ℕ) (after : List ℕ) → 10 ≤ n → digits_from (suc m) n after ≡ digits_from m (n / 10) ((48 + n % 10) ∷ after)
unfolding digits_from
more-step m n after h = rw (le-ltb n 10 h, digits_from)

digits_run : (m n f c : ℕ) (ws after : List ℕ) → n < tens (suc m) → n < 4294967296
    → head_run (head_as 0 f c 0) ws (digits_from (suc m) n after) ≡ head_run (head_as 1 f c n) ws after
digits_run zero n f c ws after h s =
    ap (head_run (head_as 0 f c 0) ws) (last_step 0 n after (omega arith)) ∙ one_digit n (omega arith) f c ws after
digits_run (suc m) n f c ws after h s =
    cases_le 10 n
    (λ g.
    let e : 10 * (n / 10) + n % 10 ≡ n = omega arith in
    ap (head_run (head_as 0 f c 0) ws) (more-step (suc m) n after g)
    ∙ digits_run m (n / 10) f c ws ((48 + n % 10) ∷ after) (omega arith) (omega arith)
    ∙ next_digit (n % 10) (omega arith) f c (n / 10) (omega arith) ws after
    ∙ ap (λ (v : ℕ). head_run (head_as 1 f c v) ws after) e)
    (λ g. ap (head_run (head_as 0 f c 0) ws) (last_step (suc m) n after g) ∙ one_digit n g f c ws after)

pub number_run : (n f c : ℕ) (ws after : List ℕ) → n < 4294967296 → head_run (head_as 0 f c 0) ws (number_text n after) ≡ head_run (head_as 1 f c n) ws after
unfolding number_text
number_run n f c ws after s = digits_run 9 n f c ws after (omega arith) s

-- ---- what ends a number
module _ (c v : ℕ) (s : v < 4294967296) (k : c < 4194304) (ws bs : List ℕ) where
  pub blank-run : (f : ℕ) → head_run (head_as 1 f c v) ws (32 ∷ bs) ≡ head_run (head_as 0 (bump f) (suc c) 0) (set ws c v) bs
  unfolding head_run head_step_of head_stored is_digit_of is_blank is_stop head_blank number_end
  blank-run f = rw (lt-ltb v 4294967296 s, lt-ltb c 4194304 k, add-one c)

  pub comma_run : head_run (head_as 1 2 c v) ws (44 ∷ bs) ≡ head_run (head_as 0 2 (suc c) 0) (set ws c v) bs
  unfolding head_run head_step_of head_stored is_digit_of is_blank is_stop head_comma number_end
  comma_run = rw (lt-ltb v 4294967296 s, lt-ltb c 4194304 k, add-one c)

  pub break_run : head_run (head_as 1 5 c v) ws (10 ∷ bs) ≡ head_run (head_as 3 6 (suc c) 0) (set ws c v) bs
  unfolding head_run head_step_of head_stored is_digit_of is_blank is_stop head_break head_blank number_end
  break_run = rw (lt-ltb v 4294967296 s, lt-ltb c 4194304 k, add-one c)

-- ---- entries
dash : (c : ℕ) (ws after : List ℕ) → head_run (head_as 0 2 c 0) ws (45 ∷ after) ≡ head_run (head_as 1 2 c None) ws after
unfolding head_run head_step_of head_stored is_digit_of is_blank is_stop head_word head_entry
dash c ws after = refl

entry_by : (e c : ℕ) (ws after : List ℕ) → e < 4294967296 → (t : Bool) → eqb e None ≡ t
    → head_run (head_as 0 2 c 0) ws (when t then 45 ∷ after else number_text e after) ≡ head_run (head_as 1 2 c e) ws after
entry_by e c ws after s true q = dash c ws after ∙ ap (λ (v : ℕ). head_run (head_as 1 2 c v) ws after) (sym (eqb-true e None q))
entry_by e c ws after s false q = number_run e 2 c ws after s

pub entry-run : (e c : ℕ) (ws after : List ℕ) → e < 4294967296 → head_run (head_as 0 2 c 0) ws (entry_text e after) ≡ head_run (head_as 1 2 c e) ws after
unfolding entry_text
entry-run e c ws after s = entry_by e c ws after s (eqb e None) refl

plain-run : (c : ℕ) (ws after : List ℕ) → head_run (head_as 0 2 c 0) ws (112 ∷ 108 ∷ 97 ∷ 105 ∷ 110 ∷ 32 ∷ after) ≡ head_run (head_as 0 3 c 0) ws after
unfolding head_run head_step_of head_stored is_digit_of is_blank is_stop head_word head_entry head_letter letter_of head_blank
plain-run c ws after = refl

module _ (after : List ℕ) where
  more-run : (es : List ℕ) (e c : ℕ) (ws : List ℕ) → e < 4294967296 → ((i : ℕ) → get_or es i 0 < 4294967296) → c + length es < 4194304
      → head_run (head_as 1 2 c e) ws (more_entries es (32 ∷ after)) ≡ head_run (head_as 0 3 (c + suc (length es)) 0) (sets ws c (e ∷ es)) after
  unfolding more_entries
  more-run [] e c ws s g k =
      let z : suc c ≡ c + 1 = omega arith in
      blank-run c e s (omega arith) ws after 2 ∙ ap (λ (n : ℕ). head_run (head_as 0 3 n 0) (set ws c e) after) z
  more-run (x ∷ es) e c ws s g k =
      let z : suc c + suc (length es) ≡ c + suc (suc (length es)) = omega arith in
      comma_run c e s (omega arith) ws (entry_text x (more_entries es (32 ∷ after)))
      ∙ entry-run x (suc c) (set ws c e) (more_entries es (32 ∷ after)) (g 0)
      ∙ more-run es x (suc c) (set ws c e) (g 0) (λ i. g (suc i)) (omega arith)
      ∙ ap (λ (n : ℕ). head_run (head_as 0 3 n 0) (sets ws c (e ∷ x ∷ es)) after) z

  pub entries_run : (es : List ℕ) (c : ℕ) (ws : List ℕ) → ((i : ℕ) → get_or es i 0 < 4294967296) → c + length es < 4194304
      → head_run (head_as 0 2 c 0) ws (entries_text es (32 ∷ after)) ≡ head_run (head_as 0 3 (c + length es) 0) (sets ws c es) after
  unfolding entries_text
  entries_run [] c ws g k = plain-run c ws after ∙ ap (λ (n : ℕ). head_run (head_as 0 3 n 0) ws after) (sym (add-zero c))
  entries_run (e ∷ es) c ws g k =
      entry-run e c ws (more_entries es (32 ∷ after)) (g 0) ∙ more-run es e c ws (g 0) (λ i. g (suc i)) (omega arith)

-- ---- the line
-- the words of a layout's line
abbrev pub words_of : Layout → List ℕ
words_of q = q.depth ∷ q.width ∷ (q.entries ++ (q.soft_mask ∷ q.hard ∷ q.unit ∷ []))

-- each number is a word
pub record InWords (q : Layout) : Type 0 where
  pub depth : q.depth < 4294967296
  pub width : q.width < 4294967296
  pub entries : (i : ℕ) → get_or q.entries i 0 < 4294967296
  pub mask : q.soft_mask < 4294967296
  pub hard : q.hard < 4294967296
  pub unit : q.unit < 4294967296
  pub len : length q.entries ≤ 256

module _ (q : Layout) (w : InWords q) (ws after : List ℕ) where
  three : (c : ℕ) (l : List ℕ) → c < 4000 → head_run (head_as 0 3 c 0) l (number_text q.soft_mask (32 ∷ number_text q.hard (32 ∷ number_text q.unit (10 ∷ after))))
      ≡ record { state = head_as 3 6 (suc (suc (suc c))) 0; words = sets l c (q.soft_mask ∷ q.hard ∷ q.unit ∷ []); rest = after }
  three c l k =
      let m = set l c q.soft_mask in
      let p = set m (suc c) q.hard in
      number_run q.soft_mask 3 c l (32 ∷ number_text q.hard (32 ∷ number_text q.unit (10 ∷ after))) w.mask
      ∙ blank-run c q.soft_mask w.mask (omega arith) l (number_text q.hard (32 ∷ number_text q.unit (10 ∷ after))) 3
      ∙ number_run q.hard 4 (suc c) m (32 ∷ number_text q.unit (10 ∷ after)) w.hard
      ∙ blank-run (suc c) q.hard w.hard (omega arith) m (number_text q.unit (10 ∷ after)) 4
      ∙ number_run q.unit 5 (suc (suc c)) p (10 ∷ after) w.unit
      ∙ break_run (suc (suc c)) q.unit w.unit (omega arith) p after
      ∙ head_stop (head_as 3 6 (suc (suc (suc c))) 0) (set p (suc (suc c)) q.unit) after refl

  pub header_run : head_run (head_as 0 0 0 0) ws (header_text q after)
      ≡ record { state = head_as 3 6 (suc (suc (suc (2 + length q.entries)))) 0; words = sets ws 0 (words_of q); rest = after }
  unfolding header_text
  header_run =
      let u3 = number_text q.soft_mask (32 ∷ number_text q.hard (32 ∷ number_text q.unit (10 ∷ after))) in
      let u2 = entries_text q.entries (32 ∷ u3) in
      let l1 = set ws 0 q.depth in
      let l2 = set l1 1 q.width in
      number_run q.depth 0 0 ws (32 ∷ number_text q.width (32 ∷ u2)) w.depth
      ∙ blank-run 0 q.depth w.depth (omega arith) ws (number_text q.width (32 ∷ u2)) 0
      ∙ number_run q.width 1 1 l1 (32 ∷ u2) w.width
      ∙ blank-run 1 q.width w.width (omega arith) l1 u2 1
      ∙ entries_run u3 q.entries 2 l2 w.entries (omega (arith, w.len))
      ∙ three (2 + length q.entries) (sets l2 2 q.entries) (omega (arith, w.len))
      ∙ ap (λ (l : List ℕ). record { state = head_as 3 6 (suc (suc (suc (2 + length q.entries)))) 0; words = l; rest = after })
      (sets_at l2 2 (2 + length q.entries) q.entries (q.soft_mask ∷ q.hard ∷ q.unit ∷ []) refl)
