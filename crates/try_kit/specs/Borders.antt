-- Lengths, rooms and next free nets at the borders of what a request takes.
use Rattle.std.specs.Prelude.{ℕ, ◌+◌, ◌-◌, ◌%◌, min, [], ◌∷◌, ltb, get_or}
use Rattle.lists.specs.Choice.{when◌then◌else◌}
use Rattle.rules.specs.Limits.{max_merge, max_nets}
use Rattle.rules.specs.Value.{first_cell}
use Rattle.try_kit.specs.Tally.{most}

abbrev pub length_at : ℕ → ℕ
length_at k = get_or (0 ∷ 1 ∷ (max_merge - 1) ∷ max_merge ∷ (max_merge + 1) ∷ []) (k % 5) 0

-- all words, one short, seven more, and less than is used
abbrev pub room_at : ℕ → ℕ → ℕ → ℕ
room_at k used words =
    let all = min used most + min words most in
    get_or (all ∷ (all - 1) ∷ (min all most + 7) ∷ (used - 1) ∷ []) (k % 4) 0

-- from the third on so many nets end at the limit
abbrev pub next_at : ℕ → ℕ → ℕ
next_at k nets =
    let last = max_nets - min nets most in
    get_or (2 ∷ 100 ∷ last ∷ (last + 1) ∷ 1 ∷ max_nets ∷ []) (k % 6) 0

-- 20 and 21 of a request whose log ends at `end`, and whose nets from `next` on end at `last`
abbrev pub state_number : ℕ → ℕ → ℕ → ℕ → ℕ
state_number room end next last = when ltb room end then 20 else when ltb next first_cell then 21 else when ltb max_nets last then 21 else 0
