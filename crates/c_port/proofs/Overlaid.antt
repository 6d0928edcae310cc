-- The struct of an answer, the log and the rooms join to what an overlay leaves.
use mathlib.Core.Path.{◌≡◌, refl, ap}
use mathlib.Core.Bool.{Bool, true, false}
use Rattle.std.specs.Bool.{then_some}
use Rattle.std.specs.Borrow.{Bor}
use Prim.Native.Nat.{ℕ}
use mathlib.Core.List.{List}
use Rattle.std.specs.Prelude.{Result, Option, is_some}
use Rattle.rules.specs.Ports.{Overlay}
use Rattle.rules.specs.Cell.{Given}
use Rattle.rules.specs.Value.{Value}
use Rattle.rules.specs.Answers as rules
use Rattle.rules.specs.Answers.{transparency_mux_call}
use Rattle.log_entries.specs.declared.LogState as machine
use Rattle.log_entries.specs.View.{state_of}
use Rattle.log_requests.specs.Answers.{logged_of}
use Rattle.rules.specs.declared.numbers.Refusal.{Refusal}
use Rattle.c_log.specs.declared.Logged.{Logged}
use Rattle.c_log.specs.View.{logged_struct}
use Rattle.c_log.proofs.Left.{left}
use Rattle.port_mux.specs.Call.{overlay_of, given_mask}
use Rattle.c_port.specs.Overlays.{lent_overlay, overlay_left_by}

-- r is the struct of the library's answer p, which gives v
pub overlay_left : (v : Overlay) (st : machine.LogState) (r : Logged) (p : Result machine.LogState Refusal) (log' bits' mask' bits mask log : List ℕ) (g : Given) (i j : ℕ) (o : Overlay) → r ≡ logged_struct st p
    → ◌≡◌ {A = rules.Overlaid} (record { logged = logged_of v p log'; bits = bits'; mask = mask' }) (transparency_mux_call bits mask log (state_of st) g i j o)
    → overlay_left_by v r log' bits' mask' ≡ lent_overlay (state_of st) (transparency_mux_call bits mask log (state_of st) g i j o)
unfolding transparency_mux_call
overlay_left v st r p log' bits' mask' bits mask log g i j o e q =
    let l = left v st r p log' _ e (ap (λ (x : rules.Overlaid). x.logged) q) in
    let b = ap (λ (x : rules.Overlaid). x.bits) q in
    let k = ap (λ (x : rules.Overlaid). x.mask) q in
    λ h. record { returned = l h; bits = b h; mask = k h }

-- ---- the mask, where C wants one
pub wanted_is : (masked : Bool) (k : Bor Value) (m : Option (Bor Value)) → m ≡ then_some masked k → is_some m ≡ masked
wanted_is true k m e = ap (λ (x : Option (Bor Value)). is_some x) e
wanted_is false k m e = ap (λ (x : Option (Bor Value)). is_some x) e

pub handed_is : (masked : Bool) (k : Bor Value) (m : Option (Bor Value)) (b : Value) → m ≡ then_some masked k → overlay_of masked b (given_mask m) ≡ overlay_of masked b k.now
handed_is true k m b e = ap (λ (x : Option (Bor Value)). overlay_of true b (given_mask x)) e
handed_is false k m b e = refl
