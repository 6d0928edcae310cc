-- What a reader takes at its place, or that there is none, and its place after that.
use Rattle.std.specs.Prelude.{ℕ, ◌+◌, ◌-◌, ◌*◌, ◌/◌, ◌%◌, ◌<◌, Bool, false, ◌&&◌, List, [], length, drop, eqb, ltb, leb, Option, Some, None}
use Rattle.lists.specs.Choice.{when◌then◌else◌}
use Rattle.lists.specs.Lists.{part}
use Rattle.rules.specs.Logic.{Const}
use Rattle.rules.specs.Limits.{head_bytes}
use Rattle.rules.specs.Record as rules
use Rattle.record_sizes.specs.declared.Sizes.{Sizes}
use Rattle.record_bits.specs.Groups.{trits_by}
use Rattle.record_reader.specs.declared.HeadWords.{HeadWords}
use Rattle.record_reader.specs.declared.FirstTrits.{FirstTrits}

abbrev pub reader_at : List ℕ → ℕ → rules.Reader
reader_at bytes at = record { bytes = bytes; at = at }

-- ---- words, by the place of their first byte
-- both bytes are there
abbrev pub has_word : List ℕ → ℕ → Bool
has_word bytes at = ltb (at + 1) (length bytes)

unfoldable pub word_there : List ℕ → ℕ → Option ℕ
word_there bytes at = when has_word bytes at then Some (rules.next_word (reader_at bytes at)) else None

unfoldable pub place_after_word : List ℕ → ℕ → ℕ
place_after_word bytes at = when has_word bytes at then (rules.after_word (reader_at bytes at)).at else at

-- six words one after another from a place on, and the place after them
unfoldable pub words_from : List ℕ → ℕ → HeadWords
words_from bytes at =
    let next = place_after_word bytes in
    record {
      mark = word_there bytes at;
      unit = word_there bytes (next at);
      full = word_there bytes (next (next at));
      full_depth = word_there bytes (next (next (next at)));
      partial = word_there bytes (next (next (next (next at))));
      partial_depth = word_there bytes (next (next (next (next (next at)))));
    }

unfoldable pub place_after_head : List ℕ → ℕ → ℕ
place_after_head bytes at =
    let next = place_after_word bytes in
    next (next (next (next (next (next at)))))

-- the six words of a head
unfoldable pub head_words : List ℕ → HeadWords
head_words bytes = record {
  mark = word_there bytes 0;
  unit = word_there bytes 2;
  full = word_there bytes 4;
  full_depth = word_there bytes 6;
  partial = word_there bytes 8;
  partial_depth = word_there bytes 10;
}

-- a word that was found, else 0; and the sizes of a head's words
abbrev pub word_of : Option ℕ → ℕ
word_of (Some w) = w
word_of None = 0

unfoldable pub sizes_by : HeadWords → rules.Sizes
sizes_by w = record {
  unit = word_of w.unit;
  full = word_of w.full;
  full_depth_of = word_of w.full_depth;
  partial = word_of w.partial;
  partial_depth = word_of w.partial_depth;
}

-- ---- trits, by their number
-- the sizes give so many, and the byte of its value bit is there
abbrev pub has_trit : List ℕ → ℕ → Bool
has_trit bytes at =
    ltb at (rules.size_trits (rules.head_sizes bytes))
    && ltb (head_bytes + rules.array_bytes (rules.size_trits (rules.head_sizes bytes)) + at / 8) (length bytes)

unfoldable pub trit_numbered : List ℕ → ℕ → Option ℕ
trit_numbered bytes i = when has_trit bytes i then Some (rules.trit_at_of bytes i) else None

-- by the reader's place, which counts the head's bytes, and behind the head trits: trit i stands at headBytes + i. Before the head is read there is none
abbrev pub has_trit_at : List ℕ → ℕ → Bool
has_trit_at bytes at = when ltb at head_bytes then false else has_trit bytes (at - head_bytes)

unfoldable pub trit_there : List ℕ → ℕ → Option ℕ
trit_there bytes at = when has_trit_at bytes at then Some (rules.next_trit (reader_at bytes at)) else None

unfoldable pub place_after_trit : List ℕ → ℕ → ℕ
place_after_trit bytes at = when has_trit_at bytes at then (rules.after_trit (reader_at bytes at)).at else at

-- a record's first two trits, at the two places behind the head
unfoldable pub first_trits : List ℕ → FirstTrits
first_trits bytes = record { first = trit_there bytes head_bytes; second = trit_there bytes (head_bytes + 1) }

-- above the trits of any five 16-bit sizes
abbrev pub many_trits : ℕ
many_trits = 1125899906842624

-- ---- all the trits that are left, of a record of so many trits
-- the image of such a record; `rules.decode_image` has the count of the record's own head
abbrev pub image_of : ℕ → List ℕ → Const
image_of count bytes = trits_by count (rules.bits_of (part head_bytes (rules.array_bytes count) bytes)) (rules.bits_of (drop (head_bytes + rules.array_bytes count) bytes))

-- a byte of trits starts at the place, and the record is as long as so many trits take
abbrev pub has_trits : ℕ → List ℕ → ℕ → Bool
has_trits count bytes at =
    leb head_bytes at
    && (eqb ((at - head_bytes) % 8) 0 && (leb count many_trits && eqb (length bytes) (head_bytes + 2 * rules.array_bytes count)))

unfoldable pub trits_there : ℕ → List ℕ → ℕ → Const
trits_there count bytes at = when has_trits count bytes at then drop (at - head_bytes) (image_of count bytes) else []

unfoldable pub place_after_trits : ℕ → List ℕ → ℕ → ℕ
place_after_trits count bytes at = (rules.after_trits (length (trits_there count bytes at)) (reader_at bytes at)).at

-- the bytes of a bit array are no more
abbrev pub many_bytes : ℕ
many_bytes = 2305843009213693952

-- ---- the sizes are 16-bit words
pub record Words (s : Sizes) : Type 0 where
  pub unit_word : s.unit < 65536
  pub full_word : s.full < 65536
  pub full_depth_word : s.full_depth < 65536
  pub partial_word : s.partial < 65536
  pub partial_depth_word : s.partial_depth < 65536
