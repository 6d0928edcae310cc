-- The numbers 20 and 21 by plain numbers.
use mathlib.Core.Path.{◌≡◌}
use Prim.Native.Nat.{ℕ, ◌+◌, ◌<◌, ◌≤◌, min}
use native.Mathlib.Omega.{arith}
use mathlib.Core.Bool.{◌||◌}
use lib.Dec.{ltb}
use borrow.Author.Tests.{lt-ltb, le-ltb, ltb-false}
use Rattle.lists.proofs.Choice.{refused_not, or_false}
use Rattle.rules.specs.Limits.{max_nets, max_words}
use Rattle.rules.specs.Log.{LogState}
use Rattle.rules.specs.Conditions.{log_full, nets_full}
use Rattle.rules.specs.Refusals.{room_refusal}

-- so many words and nets fit the room and the limits
pub record Fits (room : ℕ) (s : LogState) (words nets : ℕ) : Type 0 where
  pub space : s.used + words ≤ room
  pub short : s.used + words ≤ max_words
  pub low : 2 ≤ s.next
  pub high : s.next + nets ≤ max_nets

module _ (room : ℕ) (s : LogState) (w k : ℕ) where
  pub room_20 : min room max_words < s.used + w → 20 ≡ room_refusal room s w k
  unfolding room_refusal log_full
  room_20 h = rw (lt-ltb _ _ h)

  pub room_low : s.used + w ≤ min room max_words → s.next < 2 → 21 ≡ room_refusal room s w k
  unfolding room_refusal log_full nets_full
  room_low h l = rw (le-ltb _ _ h, lt-ltb _ _ l)

  pub room_high : s.used + w ≤ min room max_words → 2 ≤ s.next → max_nets < s.next + k → 21 ≡ room_refusal room s w k
  unfolding room_refusal log_full nets_full
  room_high h l g = rw (le-ltb _ _ h, le-ltb _ _ l, lt-ltb _ _ g)

  pub room_0 : s.used + w ≤ min room max_words → 2 ≤ s.next → s.next + k ≤ max_nets → 0 ≡ room_refusal room s w k
  unfolding room_refusal log_full nets_full
  room_0 h l g = rw (le-ltb _ _ h, le-ltb _ _ l, le-ltb _ _ g)

  pub room_fits : room_refusal room s w k ≡ 0 → Fits room s w k
  unfolding room_refusal log_full nets_full
  room_fits e =
      let x = refused_not (ltb (min room max_words) (s.used + w)) 20 _ (omega arith) e in
      let y = refused_not (ltb s.next 2 || ltb max_nets (s.next + k)) 21 0 (omega arith) x.1 in
      let z = or_false (ltb s.next 2) (ltb max_nets (s.next + k)) y.0 in
      let a = ltb-false (min room max_words) (s.used + w) x.0 in
      record { space = omega arith; short = omega arith; low = ltb-false s.next 2 z.0; high = ltb-false max_nets (s.next + k) z.1 }
