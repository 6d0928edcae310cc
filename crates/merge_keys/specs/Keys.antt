-- What a merge of keys gives, and what its parts need.
use Rattle.std.specs.Prelude.{◌≡◌, ℕ, ◌<◌, ◌≤◌, min, List, map, length, take, get_or, replicate}
use Rattle.lists.specs.Lists.{pairs}
use Rattle.lists.specs.Distinct.{place_in, kept, places}
use Rattle.rules.specs.Limits.{max_merge}
use Rattle.rules.specs.Merge.{Key2, same2}
use Rattle.merge_keys.specs.declared.Keys.{Keys}
use Rattle.merge_keys.specs.declared.Kept.{Kept}
use Rattle.merge_keys.specs.declared.Seen.{Seen}
use Rattle.merge_keys.specs.Columns.{key_of}

-- the two words of each key
abbrev pub firsts : List Key2 → List ℕ
firsts ks = map (λ (k : Key2). k.0) ks

abbrev pub seconds : List Key2 → List ℕ
seconds ks = map (λ (k : Key2). k.1) ks

-- as many keys as a merge takes and the lent arrays hold
unfoldable pub room : List ℕ → List ℕ → List ℕ → ℕ
room kx ky at = min max_merge (min (length kx) (min (length ky) (length at)))

-- the keys that are merged
unfoldable pub merging : List ℕ → List ℕ → List ℕ → List ℕ → List ℕ → List Key2
merging x y kx ky at = take (room kx ky at) (pairs x y)

-- no first word of the keys kept is larger
abbrev pub Bounded : List Key2 → ℕ → Type 0
Bounded kept most = (j : ℕ) → j < length kept → (get_or kept j (0, 0)).0 ≤ most

-- what was seen is so of the keys kept
pub record Knows (kept : List Key2) (s : Seen) : Type 0 where
  pub placed : s.place ≡ place_in same2 (key_of s.key) kept
  pub most : Bounded kept s.most

-- the keys have room
pub record Roomy (given : List Key2) (kx ky at : List ℕ) : Type 0 where
  pub in_kx : length given ≤ length kx
  pub in_ky : length given ≤ length ky
  pub in_at : length given ≤ length at
  pub few : length given ≤ max_merge

-- the columns of the keys kept, and the place of each key
pub record MergeOf (given : List Key2) (k : Kept) : Type 0 where
  pub kept_x : k.x.now ≡ firsts (kept same2 given)
  pub kept_y : k.y.now ≡ seconds (kept same2 given)
  pub placed : k.at.now ≡ places same2 given

-- a room before anything is stored in it
abbrev pub zeros : List ℕ
zeros = replicate max_merge 0

unfoldable pub zero_keys : Keys
zero_keys = record { x = zeros; y = zeros; at = zeros }
