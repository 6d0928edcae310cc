-- What is stored in a room: two runs of stores as one, and a room that is longer than what is stored.
use mathlib.Core.Path.{◌≡◌, sym, ap, ◌∙◌}
use Prim.Native.Nat.{ℕ, ◌+◌, ◌≤◌}
use native.Mathlib.Omega.{arith}
use mathlib.Core.List.{List, ◌++◌}
use lib.ListN.{length, take, drop, length-append}
use lib.Seq.{sets, sets-eq}
use Rattle.lists.proofs.Store.{sets_at, part_sets}

-- a front and what is stored behind it are stored as one
pub joined : (room room1 room2 front f rest : List ℕ) → front ≡ f → room1 ≡ sets room 0 front → room2 ≡ sets room1 (length front) rest → room2 ≡ sets room 0 (f ++ rest)
joined room room1 room2 front f rest e a b =
    b ∙ ap (λ (l : List ℕ). sets l (length front) rest) a ∙ sets_at room 0 (length front) front rest (omega arith) ∙ ap (λ (l : List ℕ). sets room 0 (l ++ rest)) e

pub joined_length : (front f rest : List ℕ) (n : ℕ) → front ≡ f → n ≡ length front + length rest → n ≡ length (f ++ rest)
joined_length front f rest n e q = q ∙ sym (length-append front rest) ∙ ap (λ (l : List ℕ). length (l ++ rest)) e

-- what fits, and behind it the room as it was
pub behind : (room new : List ℕ) → length new ≤ length room → sets room 0 new ≡ new ++ drop (0 + length new) room
behind room new h = sets-eq new room 0 (omega arith)

pub stored : (room new : List ℕ) → length new ≤ length room → take (length new) (sets room 0 new) ≡ new
stored room new h = part_sets room 0 new (omega arith)
