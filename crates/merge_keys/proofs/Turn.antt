-- What the loop of `merge_all` keeps after i keys: the keys kept of those, in the two columns, and the place of each.
use mathlib.Core.Path.{◌≡◌, refl, sym, ap, ◌∙◌}
use mathlib.Core.Bool.{Bool, true, false}
use Prim.Native.Nat.{ℕ, ◌+◌, ◌<◌, ◌≤◌, max}
use native.Mathlib.Omega.{arith}
use mathlib.Core.List.{List, [], ◌∷◌, ◌++◌, map}
use lib.ListN.{length, take, get_or, get_or-append, set, length-append, length-map}
use lib.Seq.{sets, length-sets, length-take-le, get_or-append_seam}
use lib.Dec.{eqb}
use borrow.Author.Tests.{eq-eqb, eqb-true, eqb-false}
use Rattle.lists.specs.Choice.{when◌then◌else◌}
use Rattle.lists.proofs.Choice.{cases_le}
use Rattle.lists.specs.Lists.{pairs}
use Rattle.lists.specs.Distinct.{place_in, with_new, kept_from_of, places_from}
use Rattle.lists.proofs.Store.{sets_at, part_sets}
use Rattle.lists.proofs.Pairs.{take_pairs, pairs-columns}
use Rattle.lists.proofs.Distinct.{with_new_found, with_new_new, place_with_new, place_le, length_kept, kept_more, places-more, length_places}
use Rattle.rules.specs.Merge.{Key2, same2}
use Rattle.merge_keys.specs.Keys.{Bounded, Roomy, firsts, seconds}

-- ---- columns of keys
front : (ks : List Key2) (ws l : List ℕ) → length ws ≡ length ks → length ks ≤ length l → take (length ks) (sets l 0 ws) ≡ ws
front ks ws l e h = ap (λ (n : ℕ). take n (sets l 0 ws)) (sym e) ∙ part_sets l 0 ws (omega arith)

-- the front of columns into which keys were stored
stored_front : (ks : List Key2) (kx ky : List ℕ) → length ks ≤ length kx → length ks ≤ length ky
    → take (length ks) (pairs (sets kx 0 (firsts ks)) (sets ky 0 (seconds ks))) ≡ ks
stored_front ks kx ky h g =
    let a : take (length ks) (sets kx 0 (firsts ks)) ≡ firsts ks = front ks (firsts ks) kx (length-map ks _) h in
    let b : take (length ks) (sets ky 0 (seconds ks)) ≡ seconds ks = front ks (seconds ks) ky (length-map ks _) g in
    take_pairs (length ks) (sets kx 0 (firsts ks)) (sets ky 0 (seconds ks)) ∙ rw (a, b) (pairs-columns ks)

map_snoc : {A B : Type 0} (f : A → B) (l : List A) (a : A) → map f (l ++ (a ∷ [])) ≡ map f l ++ (f a ∷ [])
map_snoc f [] a = refl
map_snoc {B = B} f (b ∷ l) a = ap (λ (r : List B). f b ∷ r) (map_snoc f l a)

-- a word more in a column
one_more : (f : Key2 → ℕ) (k₀ k : List ℕ) (ks : List Key2) (key : Key2) (count : ℕ) → k ≡ sets k₀ 0 (map f ks) → count ≡ length ks
    → set k count (f key) ≡ sets k₀ 0 (map f (ks ++ (key ∷ [])))
one_more f k₀ k ks key count e c =
    let q : count ≡ 0 + length (map f ks) = omega (arith, length-map ks f) in
    ap (λ (l : List ℕ). set l count (f key)) e ∙ sets_at k₀ 0 count (map f ks) (f key ∷ []) q ∙ ap (sets k₀ 0) (sym (map_snoc f ks key))

same_refl : (k : Key2) → same2 k k ≡ true
same_refl k = rw (eq-eqb k.0 k.0 refl, eq-eqb k.1 k.1 refl)

-- ---- the loop
-- the keys kept of the first i
abbrev pub kept_of : List Key2 → ℕ → List Key2
kept_of ps i = kept_from_of same2 [] (take i ps)

pub record Merged (ps : List Key2) (kx₀ ky₀ at₀ kx ky at : List ℕ) (count i : ℕ) : Type 0 where
  pub within : i ≤ length ps
  pub counted : count ≡ length (kept_of ps i)
  pub in_kx : kx ≡ sets kx₀ 0 (firsts (kept_of ps i))
  pub in_ky : ky ≡ sets ky₀ 0 (seconds (kept_of ps i))
  pub in_at : at ≡ sets at₀ 0 (places_from same2 [] (take i ps))

module _ {ps : List Key2} {kx₀ ky₀ at₀ kx ky at : List ℕ} {count i : ℕ} (r : Roomy ps kx₀ ky₀ at₀) (m : Merged ps kx₀ ky₀ at₀ kx ky at count i) where
  abbrev ks : List Key2
  ks = kept_of ps i

  -- no more are kept than were seen
  pub few : count ≤ i
  few = omega (arith, m.counted, length_kept same2 [] (take i ps), length-take-le i ps m.within)

  pub lengths : (length kx ≡ length kx₀) × (length ky ≡ length ky₀) × (length at ≡ length at₀)
  lengths = (ap length m.in_kx ∙ length-sets kx₀ 0 (firsts ks), ap length m.in_ky ∙ length-sets ky₀ 0 (seconds ks), ap length m.in_at ∙ length-sets at₀ 0 (places_from same2 [] (take i ps)))

  pub in_columns : (count ≤ length kx) × (count ≤ length ky)
  in_columns = (omega (arith, few, m.within, r.in_kx, lengths.0), omega (arith, few, m.within, r.in_ky, lengths.1))

  -- they stand in the columns
  pub standing : pairs (take count kx) (take count ky) ≡ ks
  standing =
      sym (take_pairs count kx ky)
      ∙ rw (m.counted, m.in_kx, m.in_ky)
      (stored_front ks kx₀ ky₀ (omega (arith, m.counted, few, m.within, r.in_kx)) (omega (arith, m.counted, few, m.within, r.in_ky)))

  pub room_left : i < length ps → (count < length kx) × (count < length ky)
  room_left h = (omega (arith, few, r.in_kx, lengths.0), omega (arith, few, r.in_ky, lengths.1))

  -- a turn: key is the one at i, and place its place
  module _ (h : i < length ps) {key : Key2} (k : get_or ps i (0, 0) ≡ key) (place : ℕ) (e : place ≡ place_in same2 key ks) where
    more : kept_of ps (i + 1) ≡ with_new same2 key ks
    more = kept_more same2 [] ps i (0, 0) h ∙ ap (λ (q : Key2). with_new same2 q ks) k

    pub place_few : place ≤ count
    place_few = omega (arith, e, place_le same2 key ks, m.counted)

    placed : set at i place ≡ sets at₀ 0 (places_from same2 [] (take (i + 1) ps))
    placed =
        let l : List ℕ = places_from same2 [] (take i ps) in
        let q : i ≡ 0 + length l = omega (arith, length_places same2 [] (take i ps), length-take-le i ps m.within) in
        rw (places-more same2 [] ps i (0, 0) h, k, ← e, m.in_at) (sets_at at₀ 0 i l (place ∷ []) q)

    -- the key is new
    turn_new : place ≡ count → Merged ps kx₀ ky₀ at₀ (set kx count key.0) (set ky count key.1) (set at i place) (count + 1) (i + 1)
    turn_new q =
        let w : kept_of ps (i + 1) ≡ ks ++ (key ∷ []) = more ∙ with_new_new same2 key ks (omega (arith, e, q, m.counted)) in
        record {
          within = omega (arith, h);
          counted = rw (w, length-append ks (key ∷ []), ← m.counted) refl;
          in_kx = rw w (one_more (λ k. k.0) kx₀ kx ks key count m.in_kx m.counted);
          in_ky = rw w (one_more (λ k. k.1) ky₀ ky ks key count m.in_ky m.counted);
          in_at = placed;
        }

    turn_old : (place ≡ count → ⊥) → Merged ps kx₀ ky₀ at₀ kx ky (set at i place) count (i + 1)
    turn_old q =
        let l : place < count = cases_le count place (λ g. absurd (q (omega (arith, place_few, g)))) (λ g. g) in
        let w : kept_of ps (i + 1) ≡ ks = more ∙ with_new_found same2 key ks (omega (arith, e, l, m.counted)) in
        record { within = omega (arith, h); counted = rw w m.counted; in_kx = rw w m.in_kx; in_ky = rw w m.in_ky; in_at = placed }

    pub turn : Merged ps kx₀ ky₀ at₀ (when eqb place count then set kx count key.0 else kx) (when eqb place count then set ky count key.1 else ky) (set at i place) (when eqb place count then count + 1 else count) (i + 1)
    turn = on (eqb place count) refl
      where
        on : (b : Bool) → eqb place count ≡ b
            → Merged ps kx₀ ky₀ at₀ (when b then set kx count key.0 else kx) (when b then set ky count key.1 else ky) (set at i place) (when b then count + 1 else count) (i + 1)
        on true q = turn_new (eqb-true place count q)
        on false q = turn_old (eqb-false place count q)

    pub place_then : place ≡ place_in same2 key (kept_of ps (i + 1))
    place_then = rw more (e ∙ sym (place_with_new same2 key ks (same_refl key)))

    -- the largest first word
    pub bound_then : (most : ℕ) → Bounded ks most → Bounded (kept_of ps (i + 1)) (max most key.0)
    bound_then most b =
        rw more
        (cases_le (length ks) (place_in same2 key ks)
        (λ g. rw (with_new_new same2 key ks g) new_bound)
        (λ g. rw (with_new_found same2 key ks g) (λ j q. omega (arith, b j q))))
      where
        new_bound : Bounded (ks ++ (key ∷ [])) (max most key.0)
        new_bound j g =
            cases_le (length ks) j
            (λ q. let e : j ≡ length ks = omega (arith, g, q, length-append ks (key ∷ [])) in rw (e, get_or-append_seam ks key [] (0, 0)) (omega arith))
            (λ q. rw (get_or-append ks (key ∷ []) (0, 0) j q) (omega (arith, b j q)))
