-- The image record: its bytes from an image, and back.
use Rattle.std.specs.Prelude.{ℕ, zero, suc, ◌+◌, ◌-◌, ◌*◌, ◌/◌, ◌%◌, List, [], ◌∷◌, ◌++◌, map, length, get_or, take, drop, eqb}
use Rattle.rules.specs.Limits.{trit_x, record_mark, head_bytes}
use Rattle.lists.specs.Choice.{when◌then◌else◌}
use Rattle.lists.specs.Lists.{part, pairs, concat_map}
use Rattle.rules.specs.Numbers.{ceil_div}
use Rattle.rules.specs.Logic.{Const}
use Rattle.rules.specs.Value.{from_uint}
use Rattle.rules.specs.Geometry.{Layout, full_depth_of, part_depth_of, full_mems, all_mems}

-- unit, full count, full depth, partial count, partial depth
pub record Sizes : Type 0 where
  pub unit : ℕ
  pub full : ℕ
  pub full_depth_of : ℕ
  pub partial : ℕ
  pub partial_depth : ℕ

-- a depth is 0 where its count is 0
unfoldable pub depth_if : ℕ → ℕ → ℕ
depth_if count depth = when eqb count 0 then 0 else depth

-- those of an accepted swizzle
unfoldable pub sizes_of : Layout → Sizes
sizes_of q =
    let none? = eqb q.width 0 in
    let full = (when none? then 0 else full_mems q) in
    let part = (when none? then 0 else all_mems q - full_mems q) in
    record { unit = q.unit; full = full; full_depth_of = depth_if full (full_depth_of q); partial = part; partial_depth = depth_if part (part_depth_of q) }

unfoldable pub size_mems : Sizes → ℕ
size_mems s = s.full + s.partial

unfoldable pub size_trits : Sizes → ℕ
size_trits s = s.unit * (s.full * s.full_depth_of + s.partial * s.partial_depth)

-- the image in a lent array: as many trits as the sizes say
unfoldable pub record_image : Sizes → Const → Const
record_image s image = take (size_trits s) image

-- ---- bytes
unfoldable pub word16 : ℕ → List ℕ
word16 n = n % 256 ∷ n / 256 ∷ []

-- the 16-bit word at byte i
unfoldable pub word_at : List ℕ → ℕ → ℕ
word_at bytes i = get_or bytes i 0 + 256 * get_or bytes (suc i) 0

-- the byte of these bits, lowest first
unfoldable pub byte_of : List ℕ → ℕ
byte_of [] = 0
byte_of (b ∷ bs) = b + 2 * byte_of bs

-- n bytes of bits; spare bits are 0
unfoldable pub pack_bits : ℕ → List ℕ → List ℕ
pack_bits zero bs = []
pack_bits (suc n) bs = byte_of (take 8 bs) ∷ pack_bits n (drop 8 bs)

-- the bits of bytes
unfoldable pub bits_of : List ℕ → List ℕ
bits_of bytes = concat_map (from_uint 8) bytes

-- the bytes of a bit array
unfoldable pub array_bytes : ℕ → ℕ
array_bytes n = ceil_div n 8

-- X is known 0, value 0
unfoldable pub known_bit : ℕ → ℕ
known_bit t = when eqb t trit_x then 0 else 1

unfoldable pub value_bit : ℕ → ℕ
value_bit t = when eqb t 1 then 1 else 0

unfoldable pub trit_by : ℕ → ℕ → ℕ
trit_by known value = when eqb known 0 then trit_x else value

-- ---- the record of an image
unfoldable pub record_head : Sizes → List ℕ
record_head s = concat_map word16 (record_mark ∷ s.unit ∷ s.full ∷ s.full_depth_of ∷ s.partial ∷ s.partial_depth ∷ [])

unfoldable pub encode_record : Sizes → Const → List ℕ
encode_record s image =
    let n = array_bytes (length image) in
    record_head s ++ pack_bits n (map known_bit image) ++ pack_bits n (map value_bit image)

-- ---- reading one
unfoldable pub head_sizes : List ℕ → Sizes
head_sizes bytes = record { unit = word_at bytes 2; full = word_at bytes 4; full_depth_of = word_at bytes 6; partial = word_at bytes 8; partial_depth = word_at bytes 10 }

unfoldable pub record_bytes : Sizes → ℕ
record_bytes s = head_bytes + 2 * array_bytes (size_trits s)

-- the two bit arrays, spare bits too
unfoldable pub known_bits : List ℕ → List ℕ
known_bits bytes = bits_of (part head_bytes (array_bytes (size_trits (head_sizes bytes))) bytes)

unfoldable pub value_bits : List ℕ → List ℕ
value_bits bytes = bits_of (drop (head_bytes + array_bytes (size_trits (head_sizes bytes))) bytes)

-- known and value of each trit
unfoldable pub bit_pairs : List ℕ → List (ℕ × ℕ)
bit_pairs bytes = take (size_trits (head_sizes bytes)) (pairs (known_bits bytes) (value_bits bytes))

unfoldable pub decode_image : List ℕ → Const
decode_image bytes = map (λ p. trit_by p.0 p.1) (bit_pairs bytes)

-- the trit of that number
unfoldable pub trit_at_of : List ℕ → ℕ → ℕ
trit_at_of bytes i = trit_by (get_or (known_bits bytes) i 0) (get_or (value_bits bytes) i 0)

-- ---- the reader: the record's bytes and a place in them, which counts bytes in the head and trits behind it
pub record Reader : Type 0 where
  pub bytes : List ℕ
  pub at : ℕ

-- the word that starts there, and the reader after it
unfoldable pub next_word : Reader → ℕ
next_word r = word_at r.bytes r.at

unfoldable pub after_word : Reader → Reader
after_word r = record { bytes = r.bytes; at = r.at + 2 }

-- the trit there, behind the head, and the reader after it
unfoldable pub next_trit : Reader → ℕ
next_trit r = trit_at_of r.bytes (r.at - head_bytes)

unfoldable pub after_trit : Reader → Reader
after_trit r = record { bytes = r.bytes; at = r.at + 1 }

-- the n trits from there on, and the reader after them
unfoldable pub next_trits : ℕ → Reader → Const
next_trits n r = part (r.at - head_bytes) n (decode_image r.bytes)

unfoldable pub after_trits : ℕ → Reader → Reader
after_trits n r = record { bytes = r.bytes; at = r.at + n }
