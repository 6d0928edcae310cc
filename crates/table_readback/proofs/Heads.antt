-- The header line decides the layout: whatever follows its break, the table is read by the same layout, or the text is refused.
use mathlib.Core.Path.{◌≡◌, refl, ap, ◌∙◌}
use mathlib.Core.Bool.{Bool, true, false, ◌&&◌, not}
use mathlib.Core.List.{List, [], ◌∷◌, ◌++◌, append_assoc}
use Prim.Native.Nat.{ℕ, ◌+◌, ◌≤◌}
use native.Mathlib.Omega.{arith}
use lib.ListN.{length, replicate}
use lib.Dec.{eqb, ltb, leb}
use borrow.Author.Tests.{le-ltb}
use Rattle.lists.specs.Choice.{when◌then◌else◌}
use Rattle.lists.specs.Lists.{all}
use Rattle.lists.proofs.Choice.{and_true}
use Rattle.rules.specs.Geometry.{Layout}
use Rattle.rules.specs.Limits.{None}
use Rattle.table_text.specs.Head.{Head}
use Rattle.table_text.specs.Bytes.{max_text, bump, is_blank, is_digit_of, letter_of, next_letter}
use Rattle.table_text.specs.Head.{head_as, head_start, head_bad, number_end, head_blank, head_comma, head_break, head_digit, head_entry, head_letter, head_word, head_step_of, head_stored, HeadEnd, head_run}
use Rattle.table_read.specs.Table.{Parsed, NoTable, max_words, layout_read, head_number, layout_table, head_table, parse_table}
use Rattle.table_readback.specs.Back.{line_end}

-- ---- before the break the line is not read to its end
abbrev Unread : Head → Type 0
Unread h = eqb h.kind 3 ≡ false

pick : (t : Bool) (x y : Head) → Unread x → Unread y → Unread (when t then x else y)
pick true x y e f = e
pick false x y e f = f

pick_not : (t : Bool) (x y : Head) → t ≡ false → Unread y → Unread (when t then x else y)
pick_not t x y e f = rw e f

number_open : (h : Head) (field : ℕ) → Unread (number_end h field)
unfolding number_end
number_open h field = pick (ltb h.value 4294967296) (head_as 0 field (bump h.count) 0) (head_bad h) refl refl

blank_open : (h : Head) → Unread h → Unread (head_blank h)
unfolding head_blank
blank_open h o =
    pick (eqb h.kind 0) h _ o
    (pick (eqb h.kind 1) (number_end h (bump h.field)) _ (number_open h (bump h.field))
    (pick (eqb h.kind 2) (head_as 0 (bump h.field) h.count 0) (head_bad h) refl refl))

comma_open : (h : Head) → Unread (head_comma h)
unfolding head_comma
comma_open h = pick (eqb h.kind 1 && eqb h.field 2) (number_end h 2) (head_bad h) (number_open h 2) refl

digit_open : (h : Head) (b : ℕ) → Unread (head_digit h b)
unfolding head_digit
digit_open h b = pick (leb h.kind 1) _ (head_bad h) refl refl

entry_open : (h : Head) (kind value : ℕ) → eqb kind 3 ≡ false → Unread (head_entry h kind value)
unfolding head_entry
entry_open h kind value e = pick (eqb h.kind 0 && eqb h.field 2) (head_as kind 2 h.count value) (head_bad h) e refl

letter_open : (h : Head) (b : ℕ) → Unread (head_letter h b)
unfolding head_letter
letter_open h b =
    pick (eqb h.kind 4 && eqb b (letter_of h.value)) _ (head_bad h)
    (pick (eqb h.value 4) (head_as 2 2 h.count 0) (head_as 4 2 h.count (next_letter h.value)) refl refl) refl

word_open : (h : Head) (b : ℕ) → Unread (head_word h b)
unfolding head_word
word_open h b = pick (eqb b 45) (head_entry h 1 None) _ (entry_open h 1 None refl) (pick (eqb b 112) (head_entry h 4 1) (head_letter h b) (entry_open h 4 1 refl) (letter_open h b))

step_open : (h : Head) (b : ℕ) → eqb b 10 ≡ false → Unread h → Unread (head_step_of h b)
unfolding head_step_of
step_open h b e o =
    pick (is_digit_of b) (head_digit h b) _ (digit_open h b)
    (pick (is_blank b) (head_blank h) _ (blank_open h o)
    (pick (eqb b 44) (head_comma h) _ (comma_open h) (pick_not (eqb b 10) (head_break h) (head_word h b) e (word_open h b))))

-- ---- the machine after bytes that have no break
pub record On : Type 0 where
  pub state : Head
  pub words : List ℕ

pub onward : Head → List ℕ → List ℕ → On
onward h ws [] = record { state = h; words = ws }
onward h ws (b ∷ bs) = onward (head_step_of h b) (head_stored h b ws) bs

-- no byte is a break
abbrev pub OneLine : List ℕ → Type 0
OneLine body = all (λ b. not (eqb b 10)) body ≡ true

run_step : (h : Head) (ws : List ℕ) (b : ℕ) (bs : List ℕ) → Unread h → head_run h ws (b ∷ bs) ≡ head_run (head_step_of h b) (head_stored h b ws) bs
unfolding head_run
run_step h ws b bs o = rw o

not_break : (b : ℕ) (t : Bool) → (not (eqb b 10) && t) ≡ true → (eqb b 10 ≡ false) × (t ≡ true)
not_break b t e = let a = and_true (not (eqb b 10)) t e in (flip (eqb b 10) a.0, a.1)
  where
    flip : (u : Bool) → not u ≡ true → u ≡ false
    flip true e = let z : ◌≡◌ {A = ℕ} 0 1 = cc in absurd (omega arith)
    flip false e = refl

run_body : (body : List ℕ) → OneLine body → (h : Head) (ws x : List ℕ) → Unread h
    → (head_run h ws (body ++ x) ≡ head_run (onward h ws body).state (onward h ws body).words x) × Unread (onward h ws body).state
unfolding onward
run_body [] e h ws x o = (refl, o)
run_body (b ∷ body) e h ws x o =
    let n = not_break b (all (λ b. not (eqb b 10)) body) e in
    let r = run_body body n.1 (head_step_of h b) (head_stored h b ws) x (step_open h b n.0 o) in
    (run_step h ws b (body ++ x) o ∙ r.0, r.1)

-- ---- at the break the line is read, or refused for good
break_is : (h : Head) → head_step_of h 10 ≡ head_break h
unfolding head_step_of is_digit_of is_blank
break_is h = refl

run_three : (f c v : ℕ) (ws x : List ℕ) → head_run (head_as 3 f c v) ws x ≡ record { state = head_as 3 f c v; words = ws; rest = x }
unfolding head_run
run_three f c v ws [] = refl
run_three f c v ws (b ∷ x) = refl

same_if : (t : Bool) (x y z : Head) → x ≡ z → y ≡ z → (when t then x else y) ≡ z
same_if true x y z e f = e
same_if false x y z e f = f

nine_step : (f c v b : ℕ) → head_step_of (head_as 9 f c v) b ≡ head_as 9 f c v
unfolding head_step_of head_digit head_blank head_comma head_break head_word head_entry head_letter
nine_step f c v b =
    same_if (is_digit_of b) _ _ _ refl
    (same_if (is_blank b) _ _ _ refl (same_if (eqb b 44) _ _ _ refl (same_if (eqb b 10) _ _ _ refl (same_if (eqb b 45) _ _ _ refl (same_if (eqb b 112) _ _ _ refl refl)))))

run_nine : (f c v : ℕ) (ws x : List ℕ) → (head_run (head_as 9 f c v) ws x).state ≡ head_as 9 f c v
unfolding head_run
run_nine f c v ws [] = refl
run_nine f c v ws (b ∷ x) =
    ap (λ (h : Head). (head_run h (head_stored (head_as 9 f c v) b ws) x).state) (nine_step f c v b) ∙ run_nine f c v (head_stored (head_as 9 f c v) b ws) x

-- ---- the table by what follows the break
abbrev pub by_head_of : ℕ → Layout → List ℕ → Parsed
by_head_of n q x = when eqb n 0 then layout_table q x else NoTable 1 n

pub record HeadLine (body : List ℕ) : Type 0 where
  pub number : ℕ
  pub layout : Layout
  pub table : (x : List ℕ) → head_table (head_run head_start (replicate max_words 0) (body ++ (10 ∷ x))) ≡ by_head_of number layout x

table_three : (f c v : ℕ) (ws x : List ℕ) → head_table (head_run (head_as 3 f c v) ws x) ≡ by_head_of (head_number (head_as 3 f c v)) (layout_read ws c) x
unfolding head_table
table_three f c v ws x = ap head_table (run_three f c v ws x)

nine_number : (f c v : ℕ) → head_number (head_as 9 f c v) ≡ 9
unfolding head_number
nine_number f c v = refl

by_state : (e : HeadEnd) (n : ℕ) → head_number e.state ≡ n → eqb n 0 ≡ false → head_table e ≡ NoTable 1 n
unfolding head_table
by_state e n k z = rw (k, z)

table_nine : (f c v : ℕ) (ws x : List ℕ) (q : Layout) → head_table (head_run (head_as 9 f c v) ws x) ≡ by_head_of 9 q x
table_nine f c v ws x q = by_state (head_run (head_as 9 f c v) ws x) 9 (ap head_number (run_nine f c v ws x) ∙ nine_number f c v) refl

pub head_line_lem : (body : List ℕ) → OneLine body → HeadLine body
unfolding head_break
head_line_lem body e = on (eqb (head_blank h).kind 0 && eqb (head_blank h).field 6) refl
  where
    h : Head
    h = (onward head_start (replicate max_words 0) body).state

    ws : List ℕ
    ws = head_stored h 10 (onward head_start (replicate max_words 0) body).words

    to_break : (x : List ℕ) → head_run head_start (replicate max_words 0) (body ++ (10 ∷ x)) ≡ head_run (head_break h) ws x
    to_break x =
        let r = run_body body e head_start (replicate max_words 0) (10 ∷ x) refl in
        r.0 ∙ run_step h (onward head_start (replicate max_words 0) body).words 10 x r.1 ∙ ap (λ (g : Head). head_run g ws x) (break_is h)

    on : (t : Bool) → (eqb (head_blank h).kind 0 && eqb (head_blank h).field 6) ≡ t → HeadLine body
    on true k = record {
      number = head_number (head_as 3 6 (head_blank h).count 0);
      layout = layout_read ws (head_blank h).count;
      table = λ x. ap head_table (to_break x ∙ ap (λ (g : Head). head_run g ws x) (rw k)) ∙ table_three 6 (head_blank h).count 0 ws x;
    }
    on false k = record {
      number = 9;
      layout = layout_read ws 0;
      table = λ x. ap head_table (to_break x ∙ ap (λ (g : Head). head_run g ws x) (rw k)) ∙ table_nine h.field h.count h.value ws x (layout_read ws 0);
    }

-- ---- where the line ends
pub line_length : (body x : List ℕ) → OneLine body → line_end (body ++ (10 ∷ x)) ≡ length body + 1
unfolding line_end
line_length [] x e = refl
line_length (b ∷ body) x e =
    let n = not_break b (all (λ b. not (eqb b 10)) body) e in
    let r = line_length body x n.1 in
    rw n.0 (omega arith)

-- ---- the table of a text by its header line
parse_short : (text : List ℕ) → length text ≤ max_text → parse_table text ≡ head_table (head_run head_start (replicate max_words 0) (text ++ (10 ∷ [])))
unfolding parse_table
parse_short text h = rw (le-ltb max_text (length text) h)

pub parse_line : (body x : List ℕ) (e : OneLine body) → length (body ++ (10 ∷ x)) ≤ max_text → parse_table (body ++ (10 ∷ x)) ≡ by_head_of (head_line_lem body e).number (head_line_lem body e).layout (x ++ (10 ∷ []))
parse_line body x e h =
    parse_short (body ++ (10 ∷ x)) h
    ∙ ap (λ (l : List ℕ). head_table (head_run head_start (replicate max_words 0) l)) (append_assoc body (10 ∷ x) (10 ∷ []))
    ∙ (head_line_lem body e).table (x ++ (10 ∷ []))
