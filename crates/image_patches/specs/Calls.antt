-- A list of patch calls in memory, and what the code leaves as the rules' answer.
use Rattle.std.specs.Prelude.{ℕ, zero, suc, ◌+◌, ◌*◌, ◌/◌, List, [], ◌∷◌, length, get_or, take, drop}
use Rattle.rules.specs.Image.{Patch}
use Rattle.rules.specs.Answers.{Patched}
use Rattle.image_patches.specs.declared.Calls.{Calls}

-- four numbers for each call: its row, where its trits start, how many they are, and its room
unfoldable pub call_at : List ℕ → List ℕ → ℕ → Patch
call_at calls trits i = record {
  row = get_or calls (4 * i) 0;
  trits = take (get_or calls (4 * i + 2) 0) (drop (get_or calls (4 * i + 1) 0) trits);
  room = get_or calls (4 * i + 3) 0;
}

-- n of them from number i on
unfoldable pub calls_from_of : List ℕ → List ℕ → ℕ → ℕ → List Patch
calls_from_of calls trits i zero = []
calls_from_of calls trits i (suc n) = call_at calls trits i ∷ calls_from_of calls trits (suc i) n

-- as many as there are whole groups of four
unfoldable pub calls_of : List ℕ → List ℕ → List Patch
calls_of calls trits = calls_from_of calls trits 0 (length calls / 4)

-- the same of the struct that holds both
abbrev pub list_of : Calls → List Patch
list_of c = calls_of c.words.now c.trits.now

-- a number, the room for the calls' numbers and the buffer
abbrev pub patched_to : ℕ → List ℕ → List ℕ → Patched
patched_to n numbers image = record { number = n; numbers = numbers; image = image }
