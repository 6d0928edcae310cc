-- `swizzle_columns::Grid::store_piece` meets its contract.
use mathlib.Core.Path.{refl, sym, ap, ◌∙◌, subst}
use Prim.Native.Nat.{ℕ, ◌+◌, ◌*◌}
use native.Mathlib.Omega.{arith}
use lib.ListN.{length, drop, get_or}
use Rattle.swizzle_laws.specs.Stores.{spill_at, spill_fit}
use Rattle.swizzle_columns.specs.Steps.{Good}
use Rattle.swizzle_columns.proofs.Rows.{rows_in, row_next, piece_turn, piece_ends}
use Rattle.swizzle_columns.proofs.Grid.store_piece.Goals as goal

pub overflow_mul-j : goal.overflow_mul-j
overflow_mul-j g c =
    let v = c.args in
    omega (arith, rows_in (length v.starts.now) c.loop-j.j v.self.entries _ (length v.v.now) c.loop-j-test.true refl (omega (arith, c.requires.rowed.enough)))

pub store_run-requires : goal.store_run-requires
store_run-requires g c =
    subst (λ (n : ℕ). Good c.args.self n) (sym c.loop-j.invariant.1) c.requires.good

pub loop-j-preserved : goal.loop-j-preserved
loop-j-preserved g c =
    let h = c.loop-j in
    let v = c.args in
    let g = v.self in
    let w = h.invariant in
    let p = c.store_run in (
      omega arith,
      p.auto.to ∙ w.1,
      ap (λ (k : ℕ). spill_at g.mems g.rows g.unit g.entries (drop (h.j + 1) v.starts.now) (drop k v.v.now) p.new.to) (sym (row_next h.j g.entries (h.j * g.entries) refl))
          ∙ piece_turn g.mems g.rows g.unit g.entries v.starts.now v.v.now h.to h.j (h.j * g.entries) p.new.to _ c.loop-j-test.true refl
          (p.ensures ∙ ap (spill_fit g.mems g.rows g.unit h.to (get_or v.starts.now h.j 0)) c.part.ensures.part) ∙ w.2,
    )

pub returns : goal.returns
returns g c =
    let h = c.loop-j in
    let v = c.args in
    let g = v.self in
    sym (piece_ends g.mems g.rows g.unit g.entries v.starts.now v.v.now h.to h.j (h.j * g.entries) c.loop-j-test.false) ∙ h.invariant.2
