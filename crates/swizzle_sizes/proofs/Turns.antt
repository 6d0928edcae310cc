-- The mux bits of ports, one after the other.
use mathlib.Core.Path.{◌≡◌, refl, ap}
use Prim.Native.Nat.{ℕ, suc, ◌+◌, ◌-◌, ◌<◌, ◌≤◌}
use native.Mathlib.Numerals.{add-one}
use native.Mathlib.Omega.{arith}
use mathlib.Core.List.{List, [], ◌∷◌, map}
use lib.ListN.{length, get_or, set}
use lib.Seq.{sets}
use Rattle.lists.specs.Lists.{pairs}

-- the bits of the ports that are left, to be stored from place i on
abbrev pub left : ℕ → (ℕ → ℕ) → List ℕ → ℕ → List ℕ → List ℕ → List ℕ
left base g bits i ports news = sets bits i (map (λ (x : ℕ × ℕ). base + x.1 - x.0) (pairs (map g ports) news))

pub left_turn : (base : ℕ) (g : ℕ → ℕ) (bits ports ports' news news' : List ℕ) (i at next port new r v : ℕ) → at ≡ i → next ≡ i + 1 → ports ≡ port ∷ ports' → news ≡ new ∷ news' → r ≡ g port → v ≡ base + new - r
    → left base g (set bits at v) next ports' news' ≡ left base g bits i ports news
left_turn base g bits ports ports' news news' i at next port new r v a n p q e f = rw (a, n, p, q, f, e, add-one i) refl

pub left_none : (base : ℕ) (g : ℕ → ℕ) (bits ports news : List ℕ) (i : ℕ) → length ports ≡ 0 → bits ≡ left base g bits i ports news
left_none base g bits [] news i h = refl
left_none base g bits (x ∷ ports) news i h = absurd (omega arith)

pub left_over : (base : ℕ) (g : ℕ → ℕ) (bits ports news : List ℕ) (i : ℕ) → length news ≡ 0 → bits ≡ left base g bits i ports news
left_over base g bits [] news i h = refl
left_over base g bits (x ∷ ports) [] i h = refl
left_over base g bits (x ∷ ports) (y ∷ news) i h = absurd (omega arith)

-- small numbers
pub rest_small : (news news' : List ℕ) (new : ℕ) → news ≡ new ∷ news' → ((j : ℕ) → j < length news → get_or news j 0 ≤ 4) → (j : ℕ) → j < length news' → get_or news' j 0 ≤ 4
rest_small news news' new e h j k = omega (arith, h (suc j) (omega (arith, ap length e)), ap (λ (l : List ℕ). get_or l (suc j) 0) e)
