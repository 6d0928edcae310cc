-- Laws of a list that is stored in lent room, and how many elements it has.
use mathlib.Core.Path.{◌≡◌, sym, ap, ◌∙◌}
use Prim.Native.Nat.{ℕ}
use mathlib.Core.List.{List}
use lib.ListN.{length}
use Rattle.lists.specs.Choice.{◌or_else◌}
use Rattle.lists.proofs.Choice.{else_rest}
use Rattle.rules.specs.Refusals.{lent_refusal}
use Rattle.rules.specs.Answers.{listed_in}

-- no number before 20, and the list by another name
pub listed_rest : (n : ℕ) (out l s : List ℕ) → n ≡ 0 → s ≡ l
    → listed_in (lent_refusal (length out) (length s)) out s ≡ listed_in (n or_else lent_refusal (length out) (length l)) out l
listed_rest n out l s z e =
    ap (λ (x : List ℕ). listed_in (lent_refusal (length out) (length x)) out x) e ∙ ap (λ (m : ℕ). listed_in m out l) (sym (else_rest n _ z))
