-- Entries in sequence: the results of each, and that each starts at the next free net before it.
use Rattle.std.specs.Prelude.{◌≡◌, ℕ, ◌+◌, List, [], ◌∷◌, length}
use Rattle.rules.specs.Log.{Entry, Void, Not, And, Or, Mux, Eq, Shl, Ushr, Dff, Replace, Trace}

-- how many result nets an entry has: its second word
unfoldable pub result_width : Entry → ℕ
result_width (Void first width) = width
result_width (Not first a) = length a
result_width (And first a b) = length a
result_width (Or first a b) = length a
result_width (Mux first select a b) = length a
result_width (Eq first a b) = 1
result_width (Shl first stride select a) = length a
result_width (Ushr first stride select a) = length a
result_width (Dff first f) = length f.bits
result_width (Replace from to) = 0

-- the entry's first result net is n; a replacement has no result
unfoldable pub StartsAt : ℕ → Entry → Type 0
StartsAt n (Void first width) = first ≡ n
StartsAt n (Not first a) = first ≡ n
StartsAt n (And first a b) = first ≡ n
StartsAt n (Or first a b) = first ≡ n
StartsAt n (Mux first select a b) = first ≡ n
StartsAt n (Eq first a b) = first ≡ n
StartsAt n (Shl first stride select a) = first ≡ n
StartsAt n (Ushr first stride select a) = first ≡ n
StartsAt n (Dff first f) = first ≡ n
StartsAt n (Replace from to) = Unit

-- each entry starts where the results of the one before it end: from n at first to m at last
unfoldable pub Chained : ℕ → List Entry → ℕ → Type 0
Chained n [] m = n ≡ m
Chained n (e ∷ es) m = StartsAt n e × Chained (n + result_width e) es m

-- wherever a trace starts, its entries lead from there to the next free net after it
unfoldable pub Chains : {A : Type 0} → Trace A → Type 0
Chains t = (n : ℕ) → Chained n (t n).entries (t n).next
