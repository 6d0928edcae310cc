-- The words of a flip-flop's controls, one by one: two for each control, nine for all.
use mathlib.Core.Path.{◌≡◌, refl, ap, ◌∙◌}
use Prim.Native.Nat.{ℕ}
use mathlib.Core.Bool.{Bool, true, false}
use mir.Val.{bool_byte}
use mathlib.Core.List.{List, [], ◌∷◌, ◌++◌}
use lib.ListN.{get_or}
use Rattle.rules.specs.Value.{Control, Pos, Neg, control_words}
use Rattle.rules.specs.Cell.{Controls}
use Rattle.rules.specs.Log.{flag}
use Rattle.rules.specs.Beside.Decode.{controls_words}

-- the word of a flag, as a cast gives it
pub flag_byte : (b : Bool) → bool_byte b ≡ flag b
unfolding flag
flag_byte true = refl
flag_byte false = refl

-- the two words of a control, one by one
two_words : (c : Control) (l : List ℕ) → get_or (control_words c) 0 0 ∷ get_or (control_words c) 1 0 ∷ l ≡ control_words c ++ l
unfolding control_words
two_words (Pos n) l = refl
two_words (Neg n) l = refl

two : (c : Control) (w l : List ℕ) → w ≡ control_words c → get_or w 0 0 ∷ get_or w 1 0 ∷ l ≡ control_words c ++ l
two c w l e = ap (λ (v : List ℕ). get_or v 0 0 ∷ get_or v 1 0 ∷ l) e ∙ two_words c l

-- the nine words of the controls, one by one
pub nine : (c : Controls) (ck cl rs en : List ℕ) (f : ℕ) → ck ≡ control_words c.clock → cl ≡ control_words c.clear → rs ≡ control_words c.reset → en ≡ control_words c.enable → f ≡ flag c.reset_over_enable
    → get_or ck 0 0 ∷ get_or ck 1 0 ∷ get_or cl 0 0 ∷ get_or cl 1 0 ∷ get_or rs 0 0 ∷ get_or rs 1 0 ∷ get_or en 0 0 ∷ get_or en 1 0 ∷ f ∷ [] ≡ controls_words c
unfolding controls_words
nine c ck cl rs en f e1 e2 e3 e4 e5 =
    two c.clock ck _ e1
    ∙ ap (λ (l : List ℕ). control_words c.clock ++ l)
    (two c.clear cl _ e2
    ∙ ap (λ (l : List ℕ). control_words c.clear ++ l)
    (two c.reset rs _ e3
    ∙ ap (λ (l : List ℕ). control_words c.reset ++ l)
    (two c.enable en _ e4
    ∙ ap (λ (l : List ℕ). control_words c.enable ++ l) (ap (λ (n : ℕ). n ∷ []) e5))))
