-- The lists of a fallback's plan, as far as a memory has bits and ports.
use mathlib.Core.Path.{◌≡◌, sym, ap}
use Prim.Native.Nat.{ℕ, ◌-◌, ◌≤◌}
use native.Mathlib.Omega.{arith}
use lib.ListN.{replicate, length-replicate}
use lib.Seq.{sets}
use Rattle.lists.specs.Lists.{part, up_from}
use Rattle.lists.proofs.UpFrom.{length_up}
use Rattle.lists.proofs.Stores.{take_stored}
use Rattle.lists.proofs.Parts.{part_replicate}
use Rattle.rules.specs.Limits.{max_ports, max_row}

pub entries_are : (w : ℕ) → w ≤ max_row → part {A = ℕ} 0 w (sets (replicate max_row 0) 0 (up_from 0 (w - 0))) ≡ up_from 0 w
entries_are w h =
    let k : w - 0 ≡ w = omega arith in
    let l = length-replicate {A = ℕ} max_row 0 in
    take_stored (replicate max_row 0) _ (up_from 0 w) w (ap (λ (n : ℕ). sets (replicate max_row 0) 0 (up_from 0 n)) k) (sym (length_up 0 w)) (omega (arith, h, l))

pub zeros_are : (n : ℕ) → n ≤ max_ports → part {A = ℕ} 0 n (replicate max_ports 0) ≡ replicate n 0
zeros_are n h = part_replicate 0 n max_ports 0 (omega arith)
