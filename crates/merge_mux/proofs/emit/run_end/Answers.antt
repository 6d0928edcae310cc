-- `merge_mux::emit::run_end` meets its contract.
use mathlib.Core.Path.{◌≡◌, sym, ap, ◌∙◌}
use Prim.Native.Nat.{ℕ, ◌+◌, ◌-◌}
use native.Mathlib.Omega.{arith}
use lib.ListN.{length, take, drop, length-drop}
use lib.Seq.{take_all}
use Rattle.merge_mux.specs.Runs.{run_at}
use Rattle.merge_mux.proofs.RunLaws.{run_ends, run_within}
use Rattle.merge_mux.proofs.emit.run_end.Goals as goal

pub returns : goal.returns
returns c =
    let v = c.args in
    let e : take (length v.s.now - v.i) (drop v.i v.s.now) ≡ drop v.i v.s.now = take_all _ _ (omega (arith, length-drop v.i v.s.now)) in
    let f = c.first_other.ensures in
    let r : c.unwrap_or.result ≡ run_at (drop v.i v.s.now) = c.unwrap_or.ensures ∙ rw (f, e) (sym (run_ends v.s.now v.i c.requires)) in
    let w = run_within v.s.now v.i c.requires in
    record { value = ap (λ (n : ℕ). v.i + n) r; lower_bound = (omega (arith, r, w.0), omega (arith, r, w.1)) }
