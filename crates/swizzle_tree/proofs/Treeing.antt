-- The whole tree in lent scratch: one level, and then the tree over what it leaves.
use mathlib.Core.Path.{◌≡◌, refl, sym, ap, ◌∙◌}
use Prim.Native.Nat.{ℕ, zero, suc, ◌+◌, ◌-◌, ◌*◌, ◌/◌, ◌<◌, ◌≤◌}
use native.Mathlib.Nat.{mul-le-mul, mul-le-mul_right}
use native.Mathlib.Omega.{arith}
use mathlib.Core.Bool.{Bool, true, false, ◌&&◌}
use lib.Dec.{ltb}
use borrow.Author.Tests.{lt-ltb, le-leb, lt-leb}
use mathlib.Core.List.{List, [], ◌∷◌, ◌++◌}
use lib.ListN.{length, take, drop, get_or, length-drop}
use lib.Seq.{sets, sets-eq, take_all}
use Rattle.lists.proofs.Parts.{same_back}
use Rattle.rules.specs.Value.{Value}
use Rattle.rules.proofs.Done.{done_value}
use Rattle.rules.specs.Log.{Trace, done}
use Rattle.rules.specs.Swizzle.{mux_tree}
use Rattle.log_entries.specs.Emission.{Lent, is_over, run}
use Rattle.log_entries.proofs.Emission.{run-done, run_then, run_next, run-held}
use Rattle.swizzle_laws.specs.Cuts.{cut, joined, Sized}
use Rattle.swizzle_laws.proofs.Cutting.{length_cut, sized_cut, length_joined, cut-joined}
use Rattle.swizzle_laws.proofs.Pairs.{chains_pair_up, length_pairs, sized_pairs}
use Rattle.swizzle_laws.proofs.Tree.{tree_more, tree_end, tree_value, length_tree}
use Rattle.swizzle_tree.specs.Scratch.{pairs_in, tree_in, tree_of, holds, Paired, Treed, Built}

-- values stored at the front and cut again
pub cut_stored : (w n : ℕ) (p : Value) (vs : List Value) → Sized w vs → n ≡ length vs → n * w ≤ length p → cut w n (sets p 0 (joined vs)) ≡ vs
cut_stored w n p vs s e h =
    let m : length (joined vs) ≡ n * w = length_joined w vs s ∙ ap (λ (k : ℕ). k * w) (sym e) in
    ap (cut w n) (sets-eq (joined vs) p 0 (omega arith)) ∙ ap (λ (k : ℕ). cut w k (joined vs ++ drop (0 + length (joined vs)) p)) e ∙ cut-joined w vs _ s

-- ---- no bit is left
first_cut : (w count : ℕ) (p : Value) → 0 < count → get_or (cut w count p) 0 [] ≡ take w p
unfolding cut
first_cut w zero p h = absurd (omega arith)
first_cut w (suc n) p h = refl

pub treed_end : (w count : ℕ) (p : Value) (l : Lent) → 0 < count → Treed [] w count p p l l
treed_end w count p l h = record {
  log = sym (ap (λ (t : Trace Value). run t l) (tree_end (cut w count p)) ∙ run-done _ l);
  value = λ o.
      sym (ap (λ (t : Trace Value). (t l.state.next).value) (tree_end (cut w count p)) ∙ done_value _ _ ∙ first_cut w count p h);
  kept = refl;
}

pub treed_none : (bits : Value) (w count : ℕ) (p : Value) (l : Lent) → 0 < count → length bits ≡ 0 → Treed bits w count p p l l
treed_none [] w count p l h e = treed_end w count p l h
treed_none (b ∷ bits) w count p l h e = absurd (omega arith)

-- half as many pieces stand within the scratch
pub half_fits : (w count n : ℕ) → count * w ≤ n → (count - count / 2) * w ≤ n
half_fits w count n h = omega (arith, mul-le-mul_right {m = count - count / 2} {n = count} w (omega arith))

-- ---- one level, then the rest
module _ (bit : ℕ) (bits : Value) (w count : ℕ) (p₀ p1 p : Value) (l₀ l1 l : Lent) (fits : count * w ≤ length p₀)
    (g : Paired bit w count p₀ p1 l₀ l1) (r : Treed bits w (count - count / 2) p1 p l1 l) where
  abbrev t : Trace (List Value)
  t = pairs_in bit w count p₀

  abbrev vs : List Value
  vs = (t l₀.state.next).value

  vs_sized : Sized w vs
  vs_sized = sized_pairs bit w (cut w count p₀) l₀.state.next (sized_cut w count p₀ fits)

  vs_count : count - count / 2 ≡ length vs
  vs_count = sym (length_pairs bit (cut w count p₀) l₀.state.next ∙ ap (λ (k : ℕ). k - k / 2) (length_cut w count p₀))

  given : is_over l1.state ≡ false → cut w (count - count / 2) p1 ≡ vs
  given o = ap (cut w (count - count / 2)) (g.value o) ∙ cut_stored w (count - count / 2) p₀ vs vs_sized vs_count (half_fits w count (length p₀) fits)

  next : is_over l1.state ≡ false → l1.state.next ≡ (t l₀.state.next).next
  next o = ap (λ (x : Lent). x.state.next) g.log ∙ run_next t l₀ (chains_pair_up bit (cut w count p₀)) (sym (ap (λ (x : Lent). is_over x.state) g.log) ∙ o)

  held : is_over l.state ≡ false → is_over l1.state ≡ false
  held o = run-held (tree_in bits w (count - count / 2) p1) l1 (sym (ap (λ (x : Lent). is_over x.state) r.log) ∙ o)

  pub treed_more : Treed (bit ∷ bits) w count p₀ p l₀ l
  treed_more = record {
    log =
        run_then l₀ l1 l t (mux_tree bits) (cut w (count - count / 2) p1) (chains_pair_up bit (cut w count p₀)) g.log given r.log
        ∙ ap (λ (u : Trace Value). run u l₀) (sym (tree_more bit bits (cut w count p₀)));
    value = λ o.
        r.value o
        ∙ ap (λ (x : List Value). (mux_tree bits x l1.state.next).value) (given (held o))
        ∙ ap (λ (n : ℕ). (mux_tree bits vs n).value) (next (held o))
        ∙ sym (tree_value bit bits (cut w count p₀) l₀.state.next);
    kept = same_back ((count - count / 2) * w) (count * w) p1 p (mul-le-mul_right {m = count - count / 2} {n = count} w (omega arith)) r.kept ∙ g.kept;
  }

pub treed_split : (bits : Value) (w count : ℕ) (p₀ p1 p : Value) (l₀ l1 l : Lent) → 0 < length bits → count * w ≤ length p₀
    → Paired (get_or bits 0 0) w count p₀ p1 l₀ l1 → Treed (drop 1 bits) w (count - count / 2) p1 p l1 l → Treed bits w count p₀ p l₀ l
treed_split [] w count p₀ p1 p l₀ l1 l h f g r = absurd (omega arith)
treed_split (b ∷ bits) w count p₀ p1 p l₀ l1 l h f g r = treed_more b bits w count p₀ p1 p l₀ l1 l f g r

-- the bits after the first, as a part of the slice
pub bits_left : (bits : Value) → take (length bits - 1) (drop 1 bits) ≡ drop 1 bits
bits_left bits = take_all (length bits - 1) (drop 1 bits) (omega (arith, length-drop 1 bits))

-- ---- the tree where the scratch holds the pieces, and where it does not
module _ (bits : Value) (w count : ℕ) (p : Value) where
  of_held : holds w count p ≡ true → tree_of bits w count p ≡ tree_in bits w count p
  unfolding tree_of
  of_held e = rw e

  of_not : holds w count p ≡ false → tree_of bits w count p ≡ done []
  unfolding tree_of
  of_not e = rw e

  holds_none : count ≡ 0 → holds w count p ≡ false
  unfolding holds
  holds_none e = rw e

  holds_short : length p < count * w → holds w count p ≡ false
  unfolding holds
  holds_short h = rw (lt-leb (count * w) (length p) h) (on (ltb 0 count))
    where
      on : (b : Bool) → (b && false) ≡ false
      on true = refl
      on false = refl

  holds-all : 0 < count → count * w ≤ length p → holds w count p ≡ true
  unfolding holds
  holds-all h g = rw (lt-ltb 0 count h, le-leb (count * w) (length p) g)

  nothing : (l : Lent) → holds w count p ≡ false → Built bits w count p p l l
  nothing l e =
      let f = of_not e in
      record {
        log = sym (ap (λ (t : Trace Value). run t l) f ∙ run-done _ l);
        value = λ o. none (tree_of bits w count p l.state.next).value (ap (λ (t : Trace Value). (t l.state.next).value) f ∙ done_value [] l.state.next);
        kept = refl;
      }
    where
      none : (v : Value) → v ≡ [] → take (length v) p ≡ v
      none v q = rw q

  pub built_none : (l : Lent) → count ≡ 0 → Built bits w count p p l l
  built_none l e = nothing l (holds_none e)

  pub built_short : (l : Lent) → length p < count * w → Built bits w count p p l l
  built_short l h = nothing l (holds_short h)

  pub built_tree : (p' : Value) (l l' : Lent) → 0 < count → count * w ≤ length p → Treed bits w count p p' l l' → Built bits w count p p' l l'
  built_tree p' l l' h g r =
      let e = of_held (holds-all h g) in
      record {
        log = r.log ∙ ap (λ (t : Trace Value). run t l) (sym e);
        value = λ o. front _ _ (length_tree w bits (cut w count p) l.state.next (sized_cut w count p g) (rw (length_cut w count p) h)) (ap (λ (t : Trace Value). (t l.state.next).value) e) (r.value o);
        kept = r.kept;
      }
    where
      front : (v u : Value) → length u ≡ w → v ≡ u → take w p' ≡ u → take (length v) p' ≡ v
      front v u n q f = rw (q, n) f

-- a product of two 32-bit numbers
pub product_fits : (a b : ℕ) → a ≤ 4294967295 → b ≤ 4294967295 → a * b < 18446744073709551616
product_fits a b h g = omega (arith, mul-le-mul {n₁ = a} {m₁ = b} {n₂ = 4294967295} {m₂ = 4294967295} h g)
