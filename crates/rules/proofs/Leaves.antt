-- The two ways between trits and codes, and between cells and nets, undo each other; so does the inverse of a control.
use mathlib.Core.Path.{◌≡◌, refl, ap}
use Prim.Native.Nat.{ℕ, zero, suc, ◌+◌, ◌-◌, ◌<◌, ◌≤◌}
use native.Mathlib.Omega.{arith}
use mathlib.Core.Bool.{true, ◌&&◌}
use lib.Dec.{ltb, leb}
use borrow.Author.Tests.{le-ltb, ne_eqb, leb-true}
use Rattle.lists.proofs.Choice.{and_true}
use Rattle.rules.specs.Limits.{max_nets, X, trit_x}
use Rattle.rules.specs.Logic.{Trit, Zero, One, Undef, trit_of, code_of}
use Rattle.rules.specs.Value.{CellNumber, net_of_cell, driver_of, Control, Pos, Neg, inverse, is_cell_net, good_control}

pub trit_back : (t : Trit) → trit_of (code_of t) ≡ t
unfolding trit_of code_of
trit_back Zero = refl
trit_back One = refl
trit_back Undef = refl

pub code_back : (n : ℕ) → n ≤ trit_x → code_of (trit_of n) ≡ n
unfolding trit_of code_of
code_back zero h = refl
code_back (suc zero) h = refl
code_back (suc (suc zero)) h = refl
code_back (suc (suc (suc n))) h = absurd (omega arith)

pub cell_back : (c : ℕ) → net_of_cell c < max_nets → driver_of (net_of_cell c) ≡ CellNumber c
unfolding net_of_cell driver_of
cell_back c h =
    let e : 2 + c - 2 ≡ c = omega arith in
    simp (ne_eqb (2 + c) X (λ q. absurd (omega arith)), le-ltb (2 + c) 2 (omega arith)) (ap CellNumber e)

-- a control that is good
pub inverse_back : (next : ℕ) (c : Control) → good_control next c ≡ true → inverse (inverse c) ≡ c
unfolding inverse good_control is_cell_net
inverse_back next (Pos zero) h = refl
inverse_back next (Pos (suc zero)) h = refl
inverse_back next (Pos (suc (suc n))) h =
    simp (ne_eqb (suc (suc n)) 0 (λ q. absurd (omega arith)), ne_eqb (suc (suc n)) 1 (λ q. absurd (omega arith)))
inverse_back next (Neg n) h =
    let g : 2 ≤ n = leb-true 2 n (and_true (leb 2 n) (ltb n next && ltb n max_nets) h).0 in
    simp (ne_eqb n 0 (λ q. absurd (omega arith)), ne_eqb n 1 (λ q. absurd (omega arith)))
