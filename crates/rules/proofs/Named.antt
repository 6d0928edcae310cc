-- Entries that name each bit once: the place of the entry that names a bit.
use Prim.Native.Nat.{ℕ, zero, suc, ◌≤◌, ◌<◌}
use mathlib.Core.Path.{◌≡◌, refl, sym, ap, ◌∙◌}
use mathlib.Core.Bool.{Bool, true, false, not}
use mathlib.Core.List.{List, [], ◌∷◌}
use native.Mathlib.Omega.{arith}
use native.Mathlib.Nat.{zero-add}
use lib.Dec.{eqb}
use lib.ListN.{length, get_or}
use borrow.Author.Tests.{eqb-true, eqb-false, eq-eqb, ne_eqb, not-false}
use Rattle.lists.specs.Distinct.{place_in}
use Rattle.lists.proofs.Choice.{or_false}
use Rattle.lists.proofs.UpFrom.{any_none}
use Rattle.rules.specs.Limits.{None}
use Rattle.rules.specs.Log.{flag}
use Rattle.rules.specs.Conditions.{times, bad_names, bad_entries}

-- an entry more
pub times_hit : (b e : ℕ) (es : List ℕ) → e ≡ b → times b (e ∷ es) ≡ suc (times b es)
unfolding times flag
times_hit b e es h = rw (eq-eqb e b h) (omega arith)

pub times_miss : (b e : ℕ) (es : List ℕ) → (e ≡ b → ⊥) → times b (e ∷ es) ≡ times b es
unfolding times flag
times_miss b e es h = rw (ne_eqb e b h) (omega arith)

by_name {ℓ} : {P : Type ℓ} (e b : ℕ) → (e ≡ b → P) → ((e ≡ b → ⊥) → P) → P
by_name {P = P} e b f g = on (eqb e b) refl
  where
    on : (t : Bool) → eqb e b ≡ t → P
    on true h = f (eqb-true e b h)
    on false h = g (eqb-false e b h)

pub times_none : (b : ℕ) → times b [] ≡ 0
unfolding times
times_none b = refl

place_hit : (b e : ℕ) (es : List ℕ) → e ≡ b → place_in eqb b (e ∷ es) ≡ 0
place_hit b e es h = rw (eq-eqb e b h)

place_miss : (b e : ℕ) (es : List ℕ) → (e ≡ b → ⊥) → place_in eqb b (e ∷ es) ≡ suc (place_in eqb b es)
place_miss b e es h = rw (ne_eqb e b h)

-- a bit that is named has its entry
pub name_in : (b : ℕ) (es : List ℕ) → 0 < times b es → place_in eqb b es < length es
name_in b [] h = absurd (omega (arith, times_none b))
name_in b (e ∷ es) h = by_name e b
    (λ q. omega (arith, place_hit b e es q))
    (λ q. omega (arith, place_miss b e es q, name_in b es (omega (arith, times_miss b e es q))))

pub name_at : (b : ℕ) (es : List ℕ) → 0 < times b es → get_or es (place_in eqb b es) None ≡ b
name_at b [] h = absurd (omega (arith, times_none b))
name_at b (e ∷ es) h = by_name e b
    (λ q. ap (λ (i : ℕ). get_or (e ∷ es) i None) (place_hit b e es q) ∙ q)
    (λ q. ap (λ (i : ℕ). get_or (e ∷ es) i None) (place_miss b e es q) ∙ name_at b es (omega (arith, times_miss b e es q)))

-- an entry that names a bit has it named
pub name_pos : (b i : ℕ) (es : List ℕ) → i < length es → get_or es i None ≡ b → 0 < times b es
name_pos b i [] l g = absurd (omega arith)
name_pos b zero (e ∷ es) l g = omega (arith, times_hit b e es g)
name_pos b (suc i) (e ∷ es) l g = by_name e b
    (λ q. omega (arith, times_hit b e es q))
    (λ q. omega (arith, times_miss b e es q, name_pos b i es (omega arith) g))

-- and no other entry where it is named once
pub name_only : (b i : ℕ) (es : List ℕ) → times b es ≤ 1 → i < length es → get_or es i None ≡ b → i ≡ place_in eqb b es
name_only b i [] h l g = absurd (omega arith)
name_only b zero (e ∷ es) h l g = sym (place_hit b e es g)
name_only b (suc i) (e ∷ es) h l g = by_name e b
    (λ q. absurd (omega (arith, times_hit b e es q, name_pos b i es (omega arith) g)))
    (λ q. ap suc (name_only b i es (omega (arith, times_miss b e es q)) (omega arith) g) ∙ sym (place_miss b e es q))

-- entries that number 7 does not refuse
pub once : (width : ℕ) (es : List ℕ) → bad_entries width es ≡ false → (b : ℕ) → b < width → times b es ≡ 1
unfolding bad_entries
once width es e b l =
    ap (λ (n : ℕ). times n es) (sym (zero-add b))
    ∙ eqb-true _ _ (not-false _ (any_none (λ n. not (eqb (times n es) 1)) 0 width (or_false (bad_names width es) _ e).1 b l))
