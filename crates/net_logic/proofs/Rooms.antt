-- What is known where const_not, const_and and const_or are not refused.
use mathlib.Core.Path.{◌≡◌}
use mathlib.Core.Bool.{◌||◌}
use mathlib.Core.List.{List}
use Prim.Native.Nat.{ℕ, ◌≤◌}
use native.Mathlib.Omega.{arith}
use lib.ListN.{length}
use Rattle.lists.proofs.Choice.{refused_not, not_ltb, not_ne}
use Rattle.rules.specs.Conditions.{unequal, bad_trits, no_room_of}
use Rattle.rules.specs.Refusals.{const_not_refusal, const_pair_refusal}

pub not_fits : (room : ℕ) (a : List ℕ) → const_not_refusal room a ≡ 0 → length a ≤ room
unfolding const_not_refusal no_room_of
not_fits room a e = (not_ltb room (length a) 20 0 (omega arith) (refused_not (bad_trits a) 4 _ (omega arith) e).1).0

pub pair_fits : (room : ℕ) (a b : List ℕ) → const_pair_refusal room a b ≡ 0 → (length a ≡ length b) × (length a ≤ room)
unfolding const_pair_refusal unequal no_room_of
pair_fits room a b e =
    let p = not_ne (length a) (length b) 2 _ (omega arith) e in
    (p.0, (not_ltb room (length a) 20 0 (omega arith) (refused_not (bad_trits a || bad_trits b) 4 _ (omega arith) p.1).1).0)
