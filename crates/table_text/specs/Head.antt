-- The header line: depth, width, entries, soft mask, hard bits and unit, separated by blanks. Entries are separated by commas, `-` names no bit, and
-- `plain` stands for none given. The numbers are stored in order, as words.
use Rattle.std.specs.Prelude.{ℕ, ◌-◌, Bool, ◌&&◌, List, [], ◌∷◌, ◌++◌, length, set, eqb, ltb, leb}
use Rattle.lists.specs.Choice.{when◌then◌else◌}
use Rattle.rules.specs.Limits.{None}
use Rattle.table_text.specs.Bytes.{max_text, bump, more, low_word, is_blank, is_digit_of, letter_of, next_letter}

-- the machine that reads the line: a kind, the field in hand, the words stored, and the number in hand, which is 0 where the kind has none and which a
-- refused machine keeps
pub record Head : Type 0 where
  pub kind : ℕ
  pub field : ℕ
  pub count : ℕ
  pub value : ℕ

-- kinds: 0 before a word, 1 in a number, 2 after `plain`, 3 the line is read, 4 in `plain`, 8 the text is too long, 9 refused
abbrev pub head_as : ℕ → ℕ → ℕ → ℕ → Head
head_as kind field count value = record { kind = kind; field = field; count = count; value = value }

abbrev pub head_start : Head
head_start = head_as 0 0 0 0

-- refused
abbrev pub head_bad : Head → Head
head_bad h = head_as 9 h.field h.count h.value

-- a number ends, in the field `field`
unfoldable pub number_end : Head → ℕ → Head
number_end h field = when ltb h.value 4294967296 then head_as 0 field (bump h.count) 0 else head_bad h

-- a blank
unfoldable pub head_blank : Head → Head
head_blank h =
    when eqb h.kind 0 then h
    else when eqb h.kind 1 then number_end h (bump h.field)
    else when eqb h.kind 2 then head_as 0 (bump h.field) h.count 0
    else head_bad h

-- a comma, among the entries
unfoldable pub head_comma : Head → Head
head_comma h = when eqb h.kind 1 && eqb h.field 2 then number_end h 2 else head_bad h

-- the line break, after six fields
unfoldable pub head_break : Head → Head
head_break h =
    let e = head_blank h in
    when eqb e.kind 0 && eqb e.field 6 then head_as 3 6 e.count 0 else head_bad h

unfoldable pub head_digit : Head → ℕ → Head
head_digit h b = when leb h.kind 1 then head_as 1 h.field h.count (more 10 h.value (b - 48)) else head_bad h

-- the first byte of an entry that names no bit, or of `plain`
unfoldable pub head_entry : Head → ℕ → ℕ → Head
head_entry h kind value = when eqb h.kind 0 && eqb h.field 2 then head_as kind 2 h.count value else head_bad h

-- a further letter of `plain`
unfoldable pub head_letter : Head → ℕ → Head
head_letter h b =
    when eqb h.kind 4 && eqb b (letter_of h.value) then (when eqb h.value 4 then head_as 2 2 h.count 0 else head_as 4 2 h.count (next_letter h.value))
    else head_bad h

-- a byte that is neither digit, blank, comma nor line break
unfoldable pub head_word : Head → ℕ → Head
head_word h b = when eqb b 45 then head_entry h 1 None else when eqb b 112 then head_entry h 4 1 else head_letter h b

unfoldable pub head_step_of : Head → ℕ → Head
head_step_of h b =
    when is_digit_of b then head_digit h b
    else when is_blank b then head_blank h
    else when eqb b 44 then head_comma h
    else when eqb b 10 then head_break h
    else head_word h b

-- the words after a byte: a number that ends is stored
unfoldable pub is_stop : ℕ → Bool
is_stop b = when is_blank b then eqb 0 0 else when eqb b 44 then eqb 0 0 else eqb b 10

unfoldable pub head_stored : Head → ℕ → List ℕ → List ℕ
head_stored h b ws = when eqb h.kind 1 && is_stop b then set ws h.count (low_word h.value) else ws

-- the machine at the end of the line, the words, and what follows
pub record HeadEnd : Type 0 where
  pub state : Head
  pub words : List ℕ
  pub rest : List ℕ

unfoldable pub head_run : Head → List ℕ → List ℕ → HeadEnd
head_run h ws [] = record { state = h; words = ws; rest = [] }
head_run h ws (b ∷ bs) = when eqb h.kind 3 then record { state = h; words = ws; rest = b ∷ bs } else head_run (head_step_of h b) (head_stored h b ws) bs

-- of a text, whose end is a line break
unfoldable pub head_read : List ℕ → List ℕ → HeadEnd
head_read ws text =
    when ltb max_text (length text) then record { state = head_as 8 0 0 0; words = ws; rest = text ++ (10 ∷ []) }
    else head_run head_start ws (text ++ (10 ∷ []))
