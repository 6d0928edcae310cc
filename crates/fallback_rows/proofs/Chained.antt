-- The entries of the rows are in sequence.
use Prim.Native.Nat.{ℕ, ◌+◌, ◌*◌}
use mathlib.Core.Bool.{◌||◌}
use mathlib.Core.List.{List, [], ◌∷◌}
use lib.ListN.{length}
use lib.Dec.{eqb, ltb}
use Rattle.rules.specs.Limits.{max_merge, max_nets}
use Rattle.rules.specs.Logic.{Const}
use Rattle.rules.specs.Value.{Value, Control}
use Rattle.rules.specs.Cell.{FlipFlop, Mem, write_at}
use Rattle.rules.specs.Beside.Chain.{Chains}
use Rattle.rules.proofs.Chain.{chains_done, chains_if, chains_bind, chains_then, chains_void, chains_dff, chains_replace, chains_bitwise_mux}
use Rattle.port_overlay.specs.Laid.{behind}
use Rattle.swizzle_result.specs.declared.WideMemory.{WideMemory}
use Rattle.swizzle_parts.specs.Parts.{read_port}
use Rattle.fallback_row.specs.Row.{unfit, over_if, held_back, driven_by}
use Rattle.fallback_rows.specs.Rows.{writes_by, write_numbers, clock_of, register_by, row_by, drives, read_numbers, row_trace, mem_at, row_if}

pub chains_over : (w : ℕ) (mask bits v : Value) → Chains (over_if w mask bits v)
unfolding over_if
chains_over w mask bits v = chains_if (unfit w mask bits) _ _ (chains_done v) (chains_bitwise_mux mask bits v)

pub chains_writes : (w : ℕ) (m : Mem) (js : List ℕ) (v : Value) → Chains (writes_by w m js v)
unfolding writes_by
chains_writes w m [] v = chains_done v
chains_writes w m (j ∷ js) v = chains_bind (over_if w (write_at m j).mask (write_at m j).bits v) _ (chains_over w _ _ v) (λ x. chains_writes w m js x)

chains_behind : (f : FlipFlop) (q : Value) → Chains (behind f q)
unfolding behind
chains_behind f q = chains_bind _ _ (chains_dff f) (λ x. chains_replace q x)

pub chains_held : (clock : Control) (init v q : Value) → Chains (held_back clock init v q)
chains_held clock init v q = chains_behind _ q

chains_register : (g : WideMemory) (m : Mem) (init : Const) → Chains (register_by g m init)
unfolding register_by
chains_register g m init =
    chains_bind _ _ (chains_void g.unit) (λ q. chains_bind _ _ (chains_writes g.unit m (write_numbers g) q) (λ v.
    chains_then _ _ (chains_held (clock_of g) init v q) (chains_done q)))

pub chains_row_by : (g : WideMemory) (m : Mem) (init : Const) → Chains (row_by g m init)
unfolding row_by
chains_row_by g m init = chains_if (eqb g.write_count 0) _ _ (chains_done _) (chains_register g m init)

pub chains_driven : (first w : ℕ) (v : Value) → Chains (driven_by first w v)
unfolding driven_by
chains_driven first w v = chains_if (ltb max_merge w || ltb max_nets first) _ _ (chains_done []) (chains_replace _ v)

chains_drives : (g : WideMemory) (n : ℕ) (v : Value) (is : List ℕ) → Chains (drives g n v is)
unfolding drives
chains_drives g n v [] = chains_done tt
chains_drives g n v (i ∷ is) = chains_then _ _ (chains_driven ((read_port g i).first + n * g.unit) g.unit v) (chains_drives g n v is)

chains_row : (g : WideMemory) (m : Mem) (init : Const) (n : ℕ) → Chains (row_trace g m init n)
unfolding row_trace
chains_row g m init n = chains_bind _ _ (chains_row_by g m init) (λ v. chains_drives g n v (read_numbers g))

pub chains_row_if : (g : WideMemory) (nets image : List ℕ) (n : ℕ) → Chains (row_if g nets image n)
unfolding row_if
chains_row_if g nets image n = chains_if (eqb (length (mem_at g nets image n).init) g.unit) _ _ (chains_row g _ _ n) (chains_done tt)
