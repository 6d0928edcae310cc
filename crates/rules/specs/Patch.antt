-- Row patches: what one leaves in the lent image, what a list of them leaves, and demand 3.
use Rattle.std.specs.Prelude.{ℕ, ◌+◌, ◌*◌, min, ◌<◌, ◌≡◌, ◌≢◌, List, [], ◌∷◌, ◌++◌, length, get_or, take, drop, eqb}
use Rattle.std.proofs.Math.Option.{none, some}
use Rattle.rules.specs.Limits.{trit_x, None}
use Rattle.lists.specs.Choice.{when◌then◌else◌}
use Rattle.rules.specs.Logic.{Const}
use Rattle.rules.specs.Geometry.{Layout, row_len_of}
use Rattle.rules.specs.Image.{image_size, index_of, write_row, layout, Laid, Patch}
use Rattle.rules.specs.Refusals.{patch_refusal_of}

-- the lent image after a call
unfoldable pub patched_by : Layout → Patch → List ℕ → List ℕ
patched_by q c image = when eqb (patch_refusal_of q c) 0 then write_row q c.row c.trits image else image

-- by the state
unfoldable pub patched_one : Laid → Patch → List ℕ → List ℕ
patched_one none c image = image
patched_one (some q) c image = patched_by q c image

-- ---- a list of calls on one buffer
-- a call is lent the first trits of the buffer, as many as its room and no more than there are
unfoldable pub lent_to : ℕ → Patch → Patch
lent_to size c = record { row = c.row; trits = c.trits; room = min c.room size }

unfoldable pub called : Layout → Patch → List ℕ → List ℕ
called q c buffer = patched_by q (lent_to (length buffer) c) (take c.room buffer) ++ drop c.room buffer

unfoldable pub called_all : Layout → List Patch → List ℕ → List ℕ
called_all q [] buffer = buffer
called_all q (c ∷ cs) buffer = called_all q cs (called q c buffer)

-- by the state: without a swizzle nothing is written
unfoldable pub patched : Laid → List Patch → List ℕ → List ℕ
patched none cs buffer = buffer
patched (some q) cs buffer = called_all q cs buffer

-- ---- the rows after the calls
-- the rows with row r exchanged
unfoldable pub exchange : ℕ → ℕ → Const → List ℕ → List ℕ
exchange width r ts rows = take (r * width) rows ++ (ts ++ drop (r * width + width) rows)

-- a call exchanges its row unless a number refuses it; size is the buffer's
unfoldable pub amended : Layout → ℕ → List Patch → List ℕ → List ℕ
amended q size [] rows = rows
amended q size (c ∷ cs) rows =
    amended q size cs (when eqb (patch_refusal_of q (lent_to size c)) 0 then exchange q.width c.row c.trits rows else rows)

-- the swizzle's own image buffer once the rows are laid out: the image, and the rest as it was
unfoldable pub laid_out : Layout → List ℕ → List ℕ → List ℕ
laid_out q rows buffer = layout q rows ++ drop (image_size q) buffer

-- ---- demand 3
-- k is a place of a row: that of an entry that names a bit
pub record IsPlace (q : Layout) (row k : ℕ) : Type 0 where
  pub entry : ℕ
  pub within : entry < row_len_of q
  pub names : get_or q.entries entry None ≢ None
  pub is : index_of q row entry ≡ k

-- the rules' own words for an image: each bit at the place of the entry that names it, X at every other place
pub record LaysOut (q : Layout) (rows image : List ℕ) : Type 0 where
  pub size : length image ≡ image_size q
  pub bits : (r j : ℕ) → r < q.depth → j < row_len_of q → get_or q.entries j None ≢ None
      → get_or image (index_of q r j) trit_x ≡ get_or rows (r * q.width + get_or q.entries j None) 0
  pub others : (k : ℕ) → k < image_size q → ((r : ℕ) → r < q.depth → IsPlace q r k → ⊥) → get_or image k trit_x ≡ trit_x

-- what one call leaves as it was
pub record KeptBy (q : Layout) (c : Patch) (buffer : List ℕ) : Type 0 where
  pub same_size : length (called q c buffer) ≡ length buffer
  pub if_refused : patch_refusal_of q (lent_to (length buffer) c) ≢ 0 → called q c buffer ≡ buffer
  pub if_accepted : patch_refusal_of q (lent_to (length buffer) c) ≡ 0 → (k : ℕ) → (IsPlace q c.row k → ⊥)
      → get_or (called q c buffer) k trit_x ≡ get_or buffer k trit_x

abbrev pub KeptByEach : Layout → List Patch → List ℕ → Type 0
KeptByEach q [] buffer = Unit {0}
KeptByEach q (c ∷ cs) buffer = KeptBy q c buffer × KeptByEach q cs (called q c buffer)

-- what `after`, the image buffer after the swizzle of a memory with these rows and after the calls, has; `buffer` is the buffer before
pub record Demand (q : Layout) (rows buffer : List ℕ) (cs : List Patch) (after : List ℕ) : Type 0 where
  pub images : take (image_size q) after ≡ layout q (amended q (length buffer) cs rows)
  pub beyond : drop (image_size q) after ≡ drop (image_size q) buffer
  pub each : KeptByEach q cs (laid_out q rows buffer)

-- by the state: without a swizzle there is nothing to demand
abbrev pub Demanded : Laid → List ℕ → List ℕ → List Patch → List ℕ → Type 0
Demanded none rows buffer cs after = Unit {0}
Demanded (some q) rows buffer cs after = Demand q rows buffer cs after
