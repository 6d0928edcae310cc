-- What an overlay leaves on a lent log state, by the rules and by a caller's struct.
use Rattle.std.specs.Prelude.{ℕ, List}
use Rattle.rules.specs.Log.{LogState}
use Rattle.rules.specs.Ports.{Overlay}
use Rattle.rules.specs.Answers.{Returned, lent_call, Overlaid}
use Rattle.c_log.specs.declared.Logged.{Logged}
use Rattle.c_log.specs.View.{left_by}

-- the overlay, the state and the log after it, and the rooms
pub record ReturnedOverlay : Type 0 where
  pub returned : Returned Overlay
  pub bits : List ℕ
  pub mask : List ℕ

-- by the rules: s is the state before
abbrev pub lent_overlay : LogState → Overlaid → ReturnedOverlay
lent_overlay s o = record { returned = lent_call s o.logged; bits = o.bits; mask = o.mask }

-- by the struct, the log and the rooms: v is what an accepted call gives
abbrev pub overlay_left_by : Overlay → Logged → List ℕ → List ℕ → List ℕ → ReturnedOverlay
overlay_left_by v r log bits mask = record { returned = left_by v r log; bits = bits; mask = mask }
