-- Bytes of a table's text: digits, what separates words, and numbers that grow digit by digit.
use Rattle.std.specs.Prelude.{ℕ, ◌+◌, ◌-◌, ◌*◌, Bool, true, ◌&&◌, Option, Some, None, eqb, ltb, leb}
use Rattle.lists.specs.Choice.{when◌then◌else◌}

-- the longest text that is read
abbrev pub max_text : ℕ
max_text = 1048576

-- counts stop here: no text has so many bytes
abbrev pub bump : ℕ → ℕ
bump n = when ltb n 4194304 then n + 1 else n

-- a number with one digit more; past 32 bits it stays
abbrev pub more : ℕ → ℕ → ℕ → ℕ
more base v d = when ltb v 4294967296 then base * v + d else v

-- a number as a word, 0 past 32 bits
abbrev pub low_word : ℕ → ℕ
low_word v = when ltb v 4294967296 then v else 0

-- space, tab and return
unfoldable pub is_blank : ℕ → Bool
is_blank b = when eqb b 32 then true else when eqb b 9 then true else eqb b 13

-- what ends a word of the rows: a blank, a line break or a slash
unfoldable pub is_end : ℕ → Bool
is_end b = when is_blank b then true else when eqb b 10 then true else eqb b 47

unfoldable pub is_digit_of : ℕ → Bool
is_digit_of b = leb 48 b && leb b 57

-- the trit of 0, 1, x or X; 3 for any other byte
unfoldable pub trit_of : ℕ → ℕ
trit_of b = when eqb b 48 then 0 else when eqb b 49 then 1 else when eqb b 120 then 2 else when eqb b 88 then 2 else 3

-- the value of a hex digit; 16 for any other byte
unfoldable pub hex_of : ℕ → ℕ
hex_of b =
    when is_digit_of b then b - 48
    else when leb 97 b && leb b 102 then b - 87
    else when leb 65 b && leb b 70 then b - 55
    else 16

-- a number below a bound, none else
abbrev pub below : ℕ → ℕ → Option ℕ
below most n = when ltb n most then Some n else None

-- the letters of `plain` from the second on
unfoldable pub letter_of : ℕ → ℕ
letter_of k = when eqb k 1 then 108 else when eqb k 2 then 97 else when eqb k 3 then 105 else 110

abbrev pub next_letter : ℕ → ℕ
next_letter k = when ltb k 4 then k + 1 else k
