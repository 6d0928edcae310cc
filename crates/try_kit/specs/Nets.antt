-- Nets that are good below a next free net, and one that is not.
use Rattle.std.specs.Prelude.{ℕ, ◌+◌, ◌-◌, ◌%◌, min, max, Bool, List, [], ◌∷◌, ltb, get_or, set}
use Rattle.lists.specs.Choice.{when◌then◌else◌}
use Rattle.rules.specs.Limits.{max_nets, X}
use Rattle.rules.specs.Value.{first_cell}
use Rattle.net_value.specs.declared.ControlNet.{ControlNet}
use Rattle.net_value.specs.declared.ControlNet.TheVariants.{Pos, Neg}
use Rattle.try_kit.specs.Paint.{pattern_of}

-- 0, 1, X, the last net below the next free one, and another cell net, by turns
abbrev pub net_at_of : ℕ → ℕ → ℕ → ℕ
net_at_of next i turn =
    let last = min next max_nets - 1 in
    get_or (0 ∷ 1 ∷ X ∷ last ∷ min last (2 + i % 8192) ∷ []) ((i % 5 + turn % 5) % 5) 0

-- an array of n nets
abbrev pub nets_of : ℕ → ℕ → ℕ → List ℕ
nets_of next turn n = pattern_of (λ i. net_at_of next i turn) n

-- the last of n nets is the lowest that is not good
abbrev pub spoiled : List ℕ → ℕ → ℕ → List ℕ
spoiled s n next = when ltb 0 n then set s (n - 1) (max next first_cell) else s

abbrev pub select_of : Bool → ControlNet
select_of neg = when neg then Neg (record { 0 = 2 }) else Pos (record { 0 = 1 })
