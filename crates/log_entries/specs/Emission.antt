-- Emission: entries stored into a lent log, one after the other. What lies past the log's end is not stored. The two numbers of a state count up to the
-- words that a log can have and the nets below X; an entry that would pass them is not stored, and X as the next free net says so from then on.
use Rattle.std.specs.Prelude.{ℕ, ◌+◌, ◌-◌, Bool, ◌&&◌, List, [], ◌∷◌, length, eqb, leb, ltb}
use Rattle.std.specs.Borrow.{GName}
use Rattle.std.proofs.lemmas.List.Edits.{sets}
use Rattle.lists.specs.Choice.{when◌then◌else◌}
use Rattle.rules.specs.Limits.{max_words, X}
use Rattle.rules.specs.Log.{Entry, encode, Trace, LogState, start_net}
use Rattle.rules.specs.Beside.Chain.{result_width}
use Rattle.rules.specs.Refusals.{room_refusal}

-- a lent log and the state of it, with the name by which its lender knows the words again
pub record Lent : Type 0 where
  pub log : List ℕ
  pub state : LogState
  pub name : GName

-- so many words and nets can still be counted
unfoldable pub counts : LogState → ℕ → ℕ → Bool
counts s words nets = leb (s.used + words) max_words && ltb (s.next + nets) X

-- the state after them, and after an entry that would pass the numbers
abbrev pub advanced : LogState → ℕ → ℕ → LogState
advanced s words nets = record { used = s.used + words; next = s.next + nets }

abbrev pub overflowed : LogState → LogState
overflowed s = record { used = s.used; next = X }

-- an entry would have passed them
unfoldable pub is_over : LogState → Bool
is_over s = eqb s.next X

-- the words of one entry, for so many results
unfoldable pub emit_words : Lent → List ℕ → ℕ → Lent
emit_words l ws nets =
    when counts l.state (length ws) nets
    then record { log = sets l.log l.state.used ws; state = advanced l.state (length ws) nets; name = l.name }
    else record { log = l.log; state = overflowed l.state; name = l.name }

unfoldable pub emit : Lent → List Entry → Lent
emit l [] = l
emit l (e ∷ es) = emit (emit_words l (encode e) (result_width e)) es

module _ {A : Type 0} where
  -- the entries of a trace that starts at the state's next free net
  unfoldable pub run : Trace A → Lent → Lent
  run t l = emit l (t l.state.next).entries

-- ---- a dry run: on an empty log, from no words and from where the fresh nets of a call start
unfoldable pub dry_start : LogState → LogState
dry_start s = record { used = 0; next = start_net s }

-- 20 and 21 by the state after it
unfoldable pub dry_refusal : ℕ → LogState → LogState → ℕ
dry_refusal room s dry = when is_over dry then 20 else room_refusal room s dry.used (dry.next - start_net s)
