-- Laws of cutting a list into values of one length.
use mathlib.Core.Path.{◌≡◌, refl, sym, ap, ◌∙◌}
use Prim.Native.Nat.{ℕ, zero, suc, ◌+◌, ◌*◌, ◌≤◌}
use native.Mathlib.Nat.{zero-mul, suc-mul}
use native.Mathlib.Omega.{arith}
use mathlib.Core.List.{List, [], ◌∷◌, ◌++◌, append_assoc}
use lib.ListN.{length, take, drop, length-append, length-drop}
use lib.Seq.{length-take-le, take_at, drop_at, drop-drop}
use Rattle.rules.specs.Value.{Value}
use Rattle.swizzle_laws.specs.Cuts.{cut, joined, Sized}

pub length_cut : (w n : ℕ) (l : Value) → length (cut w n l) ≡ n
unfolding cut
length_cut w zero l = refl
length_cut w (suc n) l = ap suc (length_cut w n (drop w l))

pub sized_cut : (w n : ℕ) (l : Value) → n * w ≤ length l → Sized w (cut w n l)
unfolding cut Sized
sized_cut w zero l h = tt
sized_cut w (suc n) l h =
    (length-take-le w l (omega (arith, suc-mul n w)), sized_cut w n (drop w l) (omega (arith, suc-mul n w, length-drop w l)))

pub length_joined : (w : ℕ) (vs : List Value) → Sized w vs → length (joined vs) ≡ length vs * w
unfolding joined Sized
length_joined w [] s = sym (zero-mul w)
length_joined w (v ∷ vs) s = length-append v (joined vs) ∙ omega (arith, s.0, length_joined w vs s.1, suc-mul (length vs) w)

-- values side by side, cut again
pub cut-joined : (w : ℕ) (vs : List Value) (r : Value) → Sized w vs → cut w (length vs) (joined vs ++ r) ≡ vs
unfolding cut joined Sized
cut-joined w [] r s = refl
cut-joined w (v ∷ vs) r s =
    rw (append_assoc v (joined vs) r, take_at v (joined vs ++ r) w s.0, drop_at v (joined vs ++ r) w s.0)
    (ap (λ (l : List Value). v ∷ l) (cut-joined w vs r s.1))

-- the first two, and those after them
pub cut_two : (w n : ℕ) (l : Value) → cut w (suc (suc n)) l ≡ take w l ∷ take w (drop w l) ∷ cut w n (drop (w + w) l)
unfolding cut
cut_two w n l = rw (drop-drop w w l)

pub joined_cons : (v : Value) (vs : List Value) → joined (v ∷ vs) ≡ v ++ joined vs
unfolding joined
joined_cons v vs = refl
