-- The log: its entries, their words, and the requests. A trace is work that adds entries: it takes the next free net and gives a value, the entries
-- that it adds and the next free net after them. (A count of kept bits would be one more field here, added up by `◌>>=◌`.)
use Rattle.std.specs.Prelude.{ℕ, ◌+◌, min, max, Bool, true, false, ◌||◌, List, [], ◌∷◌, ◌++◌, length, get_or}
use Rattle.std.proofs.lemmas.List.Edits.{sets}
use Rattle.rules.specs.Limits.{X, max_nets}
use Rattle.lists.specs.Choice.{when◌then◌else◌}
use Rattle.lists.specs.Lists.{up_from}
use Rattle.rules.specs.Value.{Value, first_cell, Control, is_always, control_words, Pos, Neg}
use Rattle.rules.specs.Cell.{Controls, FlipFlop}

-- Each but Replace, which has no result, holds its first result net first.
pub data Entry : Type 0 where
  Void : ℕ → ℕ → Entry
  Not : ℕ → Value → Entry
  And Or : ℕ → Value → Value → Entry
  Mux : ℕ → ℕ → Value → Value → Entry
  Eq : ℕ → Value → Value → Entry
  Shl Ushr : ℕ → ℕ → Value → Value → Entry
  Dff : ℕ → FlipFlop → Entry
  Replace : Value → Value → Entry

-- kind, result width, first result net, number of operand words, operands
unfoldable pub entry : ℕ → ℕ → ℕ → List ℕ → List ℕ
entry kind width first operands = kind ∷ width ∷ first ∷ length operands ∷ operands

unfoldable pub flag : Bool → ℕ
flag true = 1
flag false = 0

unfoldable pub dff_operands : FlipFlop → List ℕ
dff_operands f =
    f.bits
    ++ control_words f.controls.clock
    ++ control_words f.controls.clear
    ++ control_words f.controls.reset
    ++ control_words f.controls.enable
    ++ (flag f.controls.reset_over_enable ∷ [])
    ++ f.clear_value
    ++ f.reset_value
    ++ f.init_value

unfoldable pub encode : Entry → List ℕ
encode (Void first width) = entry 1 width first []
encode (Not first a) = entry 2 (length a) first a
encode (And first a b) = entry 3 (length a) first (a ++ b)
encode (Or first a b) = entry 4 (length a) first (a ++ b)
encode (Mux first select a b) = entry 5 (length a) first (select ∷ a ++ b)
encode (Eq first a b) = entry 6 1 first (a ++ b)
encode (Shl first stride select a) = entry 7 (length a) first (stride ∷ length select ∷ select ++ a)
encode (Ushr first stride select a) = entry 8 (length a) first (stride ∷ length select ∷ select ++ a)
encode (Dff first f) = entry 9 (length f.bits) first (dff_operands f)
encode (Replace from to) = entry 10 0 0 (from ++ to)

unfoldable pub words : List Entry → List ℕ
words [] = []
words (e ∷ es) = encode e ++ words es

-- ---- traces
pub record Made (A : Type 0) : Type 0 where
  pub value : A
  pub entries : List Entry
  pub next : ℕ

abbrev pub Trace : Type 0 → Type 0
Trace A = ℕ → Made A

module _ {A B : Type 0} where
  infixl 15 ◌>>=◌
  infixl 15 ◌>>◌
  -- one trace, then the trace of its value
  unfoldable pub ◌>>=◌ : Trace A → (A → Trace B) → Trace B
  ◌>>=◌ t f next =
      let a = t next in
      let b = f a.value a.next in
      record { value = b.value; entries = a.entries ++ b.entries; next = b.next }

  -- the same, for a value that is not needed
  unfoldable pub ◌>>◌ : Trace A → Trace B → Trace B
  ◌>>◌ t u = t >>= λ a. u

module _ {A : Type 0} where
  -- nothing is logged
  unfoldable pub done : A → Trace A
  done a next = record { value = a; entries = []; next = next }

-- one entry, which gets the next free net, with so many results
unfoldable pub request : (ℕ → Entry) → ℕ → Trace Value
request e width next = record { value = up_from next width; entries = e next ∷ []; next = next + width }

-- ---- the requests
unfoldable pub add_void_of : ℕ → Trace Value
add_void_of width = request (λ first. Void first width) width

unfoldable pub add_not_of : Value → Trace Value
add_not_of a = request (λ first. Not first a) (length a)

unfoldable pub add_and_of : Value → Value → Trace Value
add_and_of a b = request (λ first. And first a b) (length a)

unfoldable pub add_or_of : Value → Value → Trace Value
add_or_of a b = request (λ first. Or first a b) (length a)

-- a mux by a net
unfoldable pub mux_by : ℕ → Value → Value → Trace Value
mux_by s a b = request (λ first. Mux first s a b) (length a)

-- a Neg select is logged as its net with the two values exchanged
unfoldable pub add_mux_of : Control → Value → Value → Trace Value
add_mux_of (Pos s) a b = mux_by s a b
add_mux_of (Neg s) a b = mux_by s b a

-- eq has one result
unfoldable pub add_eq_of : Value → Value → Trace ℕ
add_eq_of a b next = record { value = next; entries = Eq next a b ∷ []; next = next + 1 }

unfoldable pub add_shl_of : ℕ → Value → Value → Trace Value
add_shl_of stride select a = request (λ first. Shl first stride select a) (length a)

unfoldable pub add_ushr_of : ℕ → Value → Value → Trace Value
add_ushr_of stride select a = request (λ first. Ushr first stride select a) (length a)

unfoldable pub add_dff_of : FlipFlop → Trace Value
add_dff_of f = request (λ first. Dff first f) (length f.bits)

unfoldable pub replace_value_of : Value → Value → Trace Value
replace_value_of from to = request (λ first. Replace from to) 0

-- ---- what the records ask for
-- into_pos: the net of a control, a not where it is Neg
unfoldable pub into_pos_of : Control → Trace Value
into_pos_of (Pos n) = done (n ∷ [])
into_pos_of (Neg n) = add_not_of (n ∷ [])

unfoldable pub with_reset : Controls → Control → Controls
with_reset c r = record { clock = c.clock; clear = c.clear; reset = r; enable = c.enable; reset_over_enable = true }

-- remap_reset_over_enable
unfoldable pub remap_reset_over_enable_of : Controls → Trace Controls
remap_reset_over_enable_of c =
    when c.reset_over_enable then done c
    else when is_always 0 c.reset || is_always 1 c.enable then done (with_reset c c.reset)
    else do
      r ← into_pos_of c.reset
      e ← into_pos_of c.enable
      n ← add_and_of r e
      done (with_reset c (Pos (get_or n 0 X)))

-- ---- the log's used length and the next free net
pub record LogState : Type 0 where
  pub used : ℕ
  pub next : ℕ

-- where the fresh nets of a call start: a next free net outside its limits, which refuses the call, gives no net that a caller can name
unfoldable pub start_net : LogState → ℕ
start_net s = max first_cell (min s.next max_nets)

module _ {A : Type 0} where
  -- the words that a trace adds
  unfoldable pub added : Made A → List ℕ
  added t = words t.entries

  -- the state after it, and the lent log: the words stored from the used length on, the rest as it was
  unfoldable pub state_after : LogState → Made A → LogState
  state_after s t = record { used = s.used + length (added t); next = t.next }

  unfoldable pub log_after : List ℕ → LogState → Made A → List ℕ
  log_after log s t = sets log s.used (added t)
