-- Lists of nets whose neighbours are equal in the same places have the same runs; a merged mux over zeros keeps these places.
use mathlib.Core.Path.{◌≡◌, refl, sym, ap, ◌∙◌, subst}
use Prim.Native.Nat.{ℕ, zero, suc, ◌+◌, ◌-◌, ◌*◌, ◌<◌, ◌≤◌}
use native.Mathlib.Nat.{zero-mul, suc-mul}
use native.Mathlib.Omega.{arith}
use mathlib.Core.Bool.{Bool, true, false, ◌&&◌}
use mathlib.Core.List.{List, [], ◌∷◌, ◌++◌, map}
use lib.ListN.{length, get_or, take, drop, replicate, length-map, length-take, length-drop}
use lib.Seq.{take-append-le, drop-append-le}
use lib.Dec.{eqb}
use borrow.Author.Tests.{eq-eqb, ne_eqb, eqb-true, eqb-false}
use Rattle.lists.specs.Choice.{when◌then◌else◌}
use Rattle.lists.specs.Lists.{pairs, up_from}
use Rattle.lists.specs.Distinct.{place_in, with_new, kept_from_of, places_from, kept, places}
use Rattle.lists.proofs.Choice.{and_true}
use Rattle.lists.proofs.Distinct.{place_with_new}
use Rattle.lists.proofs.DistinctOrder.{kept_stays}
use Rattle.lists.proofs.Parts.{none_front, part_replicate}
use Rattle.lists.proofs.UpFrom.{up_at}
use Rattle.rules.specs.Limits.{X}
use Rattle.rules.specs.Value.{Value, Pos, from_uint}
use Rattle.rules.specs.Log.{◌>>=◌, done, add_eq_of, add_mux_of}
use Rattle.rules.specs.Merge.{Key2, same2, spread, add_dedup_mux_of, longer, runs}
use Rattle.rules.specs.Ports.{is_empty}
use Rattle.rules.specs.Swizzle.{Split, piece_mask}
use Rattle.rules.proofs.Entries.{value_mux}
use Rattle.rules.proofs.Traces.{bind_value}

-- ---- neighbours
-- the first net of each list and the nets after them
unfoldable pub Joint : ℕ → List ℕ → ℕ → List ℕ → Type 0
Joint x [] y b = Unit
Joint x (x' ∷ a) y [] = Unit
Joint x (x' ∷ a) y (y' ∷ b) = eqb x x' ≡ eqb y y'

-- as long as each other, and neighbours are equal in the same places
unfoldable pub Alike : List ℕ → List ℕ → Type 0
Alike [] [] = Unit
Alike [] (y ∷ b) = ⊥
Alike (x ∷ a) [] = ⊥
Alike (x ∷ a) (y ∷ b) = Joint x a y b × Alike a b

joint_refl : (x : ℕ) (a : List ℕ) → Joint x a x a
unfolding Joint
joint_refl x [] = tt
joint_refl x (y ∷ a) = refl

pub alike_refl : (a : List ℕ) → Alike a a
unfolding Alike
alike_refl [] = tt
alike_refl (x ∷ a) = (joint_refl x a, alike_refl a)

pub alike_long : (a b : List ℕ) → Alike a b → length a ≡ length b
unfolding Alike
alike_long [] [] h = refl
alike_long [] (y ∷ b) h = absurd h
alike_long (x ∷ a) [] h = absurd h
alike_long (x ∷ a) (y ∷ b) h = ap suc (alike_long a b h.1)

joint_take : (n x y : ℕ) (a b : List ℕ) → Joint x a y b → Joint x (take n a) y (take n b)
unfolding Joint
joint_take zero x y a b h = tt
joint_take (suc n) x y [] b h = tt
joint_take (suc n) x y (x' ∷ a) [] h = tt
joint_take (suc n) x y (x' ∷ a) (y' ∷ b) h = h

alike_take : (n : ℕ) (a b : List ℕ) → Alike a b → Alike (take n a) (take n b)
unfolding Alike
alike_take zero a b h = tt
alike_take (suc n) [] [] h = tt
alike_take (suc n) [] (y ∷ b) h = absurd h
alike_take (suc n) (x ∷ a) [] h = absurd h
alike_take (suc n) (x ∷ a) (y ∷ b) h = (joint_take n x y a b h.0, alike_take n a b h.1)

alike_drop : (n : ℕ) (a b : List ℕ) → Alike a b → Alike (drop n a) (drop n b)
unfolding Alike
alike_drop zero a b h = h
alike_drop (suc n) [] [] h = tt
alike_drop (suc n) [] (y ∷ b) h = absurd h
alike_drop (suc n) (x ∷ a) [] h = absurd h
alike_drop (suc n) (x ∷ a) (y ∷ b) h = alike_drop n a b h.1

runs_alike : (a b : List ℕ) → Alike a b → runs a ≡ runs b
unfolding Alike Joint runs
runs_alike [] [] h = refl
runs_alike [] (y ∷ b) h = absurd h
runs_alike (x ∷ a) [] h = absurd h
runs_alike (x ∷ []) (y ∷ []) h = refl
runs_alike (x ∷ []) (y ∷ y' ∷ b) h = absurd h.1
runs_alike (x ∷ x' ∷ a) (y ∷ []) h = absurd h.1
runs_alike (x ∷ x' ∷ a) (y ∷ y' ∷ b) h = λ i. longer (h.0 i) (runs_alike (x' ∷ a) (y' ∷ b) h.1 i)

-- ---- the runs of n rows of w nets
pub drop_zeros : (k m z : ℕ) → drop k (replicate m z) ≡ replicate (m - k) z
drop_zeros zero m z = ap (λ (j : ℕ). replicate j z) (less m)
  where
    less : (m : ℕ) → m ≡ m - 0
    less m = omega arith
drop_zeros (suc k) zero z = ap (λ (j : ℕ). replicate j z) (none k)
  where
    none : (k : ℕ) → 0 ≡ 0 - suc k
    none k = omega arith
drop_zeros (suc k) (suc m) z = drop_zeros k m z ∙ ap (λ (j : ℕ). replicate j z) (both k m)
  where
    both : (k m : ℕ) → m - k ≡ suc m - suc k
    both k m = omega arith

unfoldable pub row_runs : ℕ → ℕ → List ℕ → ℕ
row_runs w zero l = 0
row_runs w (suc n) l = length (runs (take w l)) + row_runs w n (drop w l)

module _ (w : ℕ) where
  pub rows_alike : (n : ℕ) (a b : List ℕ) → Alike a b → row_runs w n a ≡ row_runs w n b
  unfolding row_runs
  rows_alike zero a b h = refl
  rows_alike (suc n) a b h = λ i. length (runs_alike (take w a) (take w b) (alike_take w a b h) i) + rows_alike n (drop w a) (drop w b) (alike_drop w a b h) i

  pub rows_more : (n : ℕ) (l : List ℕ) → row_runs w (suc n) l ≡ length (runs (take w l)) + row_runs w n (drop w l)
  unfolding row_runs
  rows_more n l = refl

  pub rows_zero : (l : List ℕ) → row_runs w 0 l ≡ 0
  unfolding row_runs
  rows_zero l = refl

  pub rows_append : (k n : ℕ) (a b : List ℕ) → length a ≡ k * w → row_runs w (k + n) (a ++ b) ≡ row_runs w k a + row_runs w n b
  rows_append zero n a b e =
      (λ i. row_runs w (first n i) (none_front a b (e ∙ zero-mul w) i)) ∙ omega (arith, rows_zero a)
    where
      first : (n : ℕ) → 0 + n ≡ n
      first n = omega arith
  rows_append (suc k) n a b e =
      let s : suc k * w ≡ k * w + w = suc-mul k w in
      let l : w ≤ length a = omega (arith, e, s) in
      let c : suc k + n ≡ suc (k + n) = omega arith in
      ap (λ (j : ℕ). row_runs w j (a ++ b)) c ∙ rows_more (k + n) (a ++ b)
      ∙ (λ i. length (runs (take-append-le w a b l i)) + row_runs w (k + n) (drop-append-le w a b l i))
      ∙ omega (arith, rows_append k n (drop w a) b (omega (arith, length-drop w a, e, s)), rows_more k a)

  one_run : (n z : ℕ) → length (runs (replicate (suc n) z)) ≡ 1
  unfolding runs longer
  one_run zero z = refl
  one_run (suc n) z = ap (λ (t : Bool). length (longer t (runs (z ∷ replicate n z)))) (eq-eqb z z refl) ∙ grown (runs (z ∷ replicate n z)) (one_run n z)
    where
      grown : (ns : List ℕ) → length ns ≡ 1 → length (longer true ns) ≡ 1
      grown [] e = refl
      grown (n ∷ ns) e = e

  pub rows_zeros : (n z : ℕ) → 0 < w → row_runs w n (replicate (n * w) z) ≡ n
  rows_zeros zero z h = rows_zero (replicate (0 * w) z)
  rows_zeros (suc n) z h =
      let s : suc n * w ≡ w + n * w = omega (arith, suc-mul n w) in
      let l : 0 + w ≤ suc n * w = omega (arith, s) in
      let d : suc n * w - w ≡ n * w = omega (arith, s) in
      let f : take w (replicate (suc n * w) z) ≡ replicate w z = part_replicate 0 w (suc n * w) z l in
      rows_more n (replicate (suc n * w) z) ∙ (λ i. length (runs (f i)) + row_runs w n ((drop_zeros w (suc n * w) z ∙ ap (λ (j : ℕ). replicate j z) d) i))
      ∙ omega (arith, some w z h, rows_zeros n z h)
    where
      some : (w z : ℕ) → 0 < w → length (runs (replicate w z)) ≡ 1
      some zero z h = absurd (omega arith)
      some (suc w) z h = one_run w z

-- ---- a merge against zeros
abbrev zeros : List ℕ → List Key2
zeros a = pairs a (replicate (length a) 0)

and_one : (b : Bool) → (b && true) ≡ b
and_one true = refl
and_one false = refl

self : (a : ℕ) → same2 (a, 0) (a, 0) ≡ true
self a = and_one (eqb a a) ∙ eq-eqb a a refl

hit_step : (t : Bool) (x y d : Key2) (l : List Key2) → same2 y x ≡ t → (place_in same2 x l < length l → same2 (get_or l (place_in same2 x l) d) x ≡ true)
    → (when t then 0 else suc (place_in same2 x l)) < suc (length l) → same2 (get_or (y ∷ l) (when t then 0 else suc (place_in same2 x l)) d) x ≡ true
hit_step true x y d l e f h = e
hit_step false x y d l e f h = f (omega arith)

-- the element at a place is the one that was looked for
place_has : (x d : Key2) (l : List Key2) → place_in same2 x l < length l → same2 (get_or l (place_in same2 x l) d) x ≡ true
place_has x d [] h = absurd (omega arith)
place_has x d (y ∷ l) h = hit_step (same2 y x) x y d l refl (place_has x d l) h

new_step : (t : Bool) (x y : Key2) (l : List Key2) → place_in same2 x l < length (with_new same2 x l) → (when t then 0 else suc (place_in same2 x l)) < length (when t then y ∷ l else y ∷ with_new same2 x l)
new_step true x y l h = omega arith
new_step false x y l h = omega arith

place_new : (x : Key2) (l : List Key2) → place_in same2 x l < length (with_new same2 x l)
place_new x [] = omega arith
place_new x (y ∷ l) = new_step (same2 y x) x y l (place_new x l)

-- neighbours have one place where they are equal
module _ (a b : ℕ) (acc : List Key2) where
  abbrev more : List Key2
  more = with_new same2 (a, 0) acc

  first_place : place_in same2 (a, 0) more ≡ place_in same2 (a, 0) acc
  first_place = place_with_new same2 (a, 0) acc (self a)

  places_same : a ≡ b → place_in same2 (a, 0) acc ≡ place_in same2 (b, 0) more
  places_same e = sym first_place ∙ ap (λ (x : ℕ). place_in same2 (x, 0) more) e

  nets_same : place_in same2 (a, 0) acc ≡ place_in same2 (b, 0) more → a ≡ b
  nets_same e =
      let d : Key2 = (0, 0) in
      let l : place_in same2 (a, 0) more < length more = omega (arith, first_place, place_new (a, 0) acc) in
      let l' : place_in same2 (b, 0) more < length more = omega (arith, first_place, l, e) in
      let x = get_or more (place_in same2 (a, 0) more) d in
      let p : same2 x (a, 0) ≡ true = place_has (a, 0) d more l in
      let r : same2 x (b, 0) ≡ true = ap (λ (k : ℕ). same2 (get_or more k d) (b, 0)) (first_place ∙ e) ∙ place_has (b, 0) d more l' in
      sym (eqb-true x.0 a (and_true (eqb x.0 a) _ p).0) ∙ eqb-true x.0 b (and_true (eqb x.0 b) _ r).0

  near_by : (t : Bool) → eqb a b ≡ t → eqb (place_in same2 (a, 0) acc) (place_in same2 (b, 0) more) ≡ t
  near_by true e = eq-eqb _ _ (places_same (eqb-true a b e))
  near_by false e = ne_eqb _ _ (λ p. eqb-false a b e (nets_same p))

  near : eqb (place_in same2 (a, 0) acc) (place_in same2 (b, 0) more) ≡ eqb a b
  near = near_by (eqb a b) refl

places_joint : (x : ℕ) (acc : List Key2) (a : List ℕ) → Joint (place_in same2 (x, 0) acc) (places_from same2 (with_new same2 (x, 0) acc) (zeros a)) x a
unfolding Joint
places_joint x acc [] = tt
places_joint x acc (y ∷ a) = near x y acc

places_alike : (acc : List Key2) (a : List ℕ) → Alike (places_from same2 acc (zeros a)) a
unfolding Alike
places_alike acc [] = tt
places_alike acc (x ∷ a) = (places_joint x acc a, places_alike (with_new same2 (x, 0) acc) a)

-- ---- the fresh nets at these places
abbrev Under : ℕ → List ℕ → Type 0
Under k [] = Unit
Under k (p ∷ l) = (p < k) × Under k l

places-under : (acc : List Key2) (a : List ℕ) → Under (length (kept_from_of same2 acc (zeros a))) (places_from same2 acc (zeros a))
places-under acc [] = tt
places-under acc (x ∷ a) =
    let more = with_new same2 (x, 0) acc in
    let s = ap length (kept_stays same2 more (zeros a)) in
    (omega (arith, place_new (x, 0) acc, s, length-take (length more) (kept_from_of same2 more (zeros a))), places-under more a)

spread_up : (n k : ℕ) (l : List ℕ) → Under k l → map (λ (p : ℕ). get_or (up_from n k) p X) l ≡ map (λ (p : ℕ). n + p) l
spread_up n k [] h = refl
spread_up n k (p ∷ l) h = λ i. up_at n k p X h.0 i ∷ spread_up n k l h.1 i

eqb_plus : (n p r : ℕ) (t : Bool) → eqb p r ≡ t → eqb (n + p) (n + r) ≡ t
eqb_plus n p r true e = eq-eqb (n + p) (n + r) (ap (λ (k : ℕ). n + k) (eqb-true p r e))
eqb_plus n p r false e = ne_eqb (n + p) (n + r) (λ f. eqb-false p r e (omega (arith, f)))

joint_plus : (n p y : ℕ) (l b : List ℕ) → Joint p l y b → Joint (n + p) (map (λ (k : ℕ). n + k) l) y b
unfolding Joint
joint_plus n p y [] b h = tt
joint_plus n p y (r ∷ l) [] h = tt
joint_plus n p y (r ∷ l) (y' ∷ b) h = eqb_plus n p r (eqb y y') h

alike_plus : (n : ℕ) (l b : List ℕ) → Alike l b → Alike (map (λ (p : ℕ). n + p) l) b
unfolding Alike
alike_plus n [] [] h = tt
alike_plus n [] (y ∷ b) h = absurd h
alike_plus n (p ∷ l) [] h = absurd h
alike_plus n (p ∷ l) (y ∷ b) h = (joint_plus n p y l b h.0, alike_plus n l b h.1)

module _ (e : ℕ) (mask : Value) (n : ℕ) where
  abbrev ks : List Key2
  ks = kept same2 (zeros mask)

  mux_value : (add_mux_of (Pos e) (map (λ (k : Key2). k.0) ks) (map (λ (k : Key2). k.1) ks) n).value ≡ up_from n (length ks)
  mux_value =
      value_mux (Pos e) (map (λ (k : Key2). k.0) ks) (map (λ (k : Key2). k.1) ks) n (length-map ks (λ (k : Key2). k.0) ∙ sym (length-map ks (λ (k : Key2). k.1)))
      ∙ ap (up_from n) (length-map ks (λ (k : Key2). k.0))

  dedup_value : (add_dedup_mux_of (Pos e) mask (replicate (length mask) 0) n).value ≡ spread (places same2 (zeros mask)) (add_mux_of (Pos e) (map (λ (k : Key2). k.0) ks) (map (λ (k : Key2). k.1) ks) n).value
  unfolding add_dedup_mux_of ◌>>=◌ done
  dedup_value = refl

  spread_value : spread (places same2 (zeros mask)) (up_from n (length ks)) ≡ map (λ (p : ℕ). n + p) (places same2 (zeros mask))
  unfolding spread
  spread_value = spread_up n (length ks) (places same2 (zeros mask)) (places-under [] mask)

  pub dedup_alike : Alike (add_dedup_mux_of (Pos e) mask (replicate (length mask) 0) n).value mask
  dedup_alike =
      subst (λ (v : Value). Alike v mask) (sym (dedup_value ∙ ap (spread (places same2 (zeros mask))) mux_value ∙ spread_value))
      (alike_plus n (places same2 (zeros mask)) mask (places_alike [] mask))

-- ---- the mask of a piece
module _ (s : Split) (mask : Value) (x n : ℕ) where
  either : (b : Bool) (e k : ℕ) → Alike ((when b then done mask else add_dedup_mux_of (Pos e) mask (replicate (length mask) 0)) k).value mask
  unfolding done
  either true e k = alike_refl mask
  either false e k = dedup_alike e mask k

  pub piece_alike : Alike (piece_mask s mask x n).value mask
  unfolding piece_mask
  piece_alike =
      subst (λ (v : Value). Alike v mask) (sym (bind_value (add_eq_of s.mux_addr (from_uint (length s.mux_addr) x)) _ n))
      (either (is_empty s.mux_addr) _ _)
