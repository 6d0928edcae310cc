-- `swizzle_columns::Grid::store_pieces` meets its contract.
use mathlib.Core.Path.{sym, ap, ◌∙◌, subst}
use Prim.Native.Nat.{ℕ, ◌*◌}
use native.Mathlib.Omega.{arith}
use lib.ListN.{length}
use Rattle.swizzle_laws.specs.Stores.{spill_at}
use Rattle.swizzle_columns.specs.Steps.{Good}
use Rattle.swizzle_columns.specs.Rows.{starts_by}
use Rattle.swizzle_columns.proofs.Walks.{narrow_less}
use Rattle.swizzle_columns.proofs.Trits.{each_turn, each_end}
use Rattle.swizzle_columns.proofs.Grid.store_pieces.Goals as goal

pub store_at-requires : goal.store_at-requires
store_at-requires g c =
    let v = c.args in
    let w = c.loop-x.invariant in
    record {
      good = subst (λ (n : ℕ). Good v.self n) (sym w.1) c.requires.good;
      v_len = (
        c.requires.v_len.0 ∙ ap (λ (n : ℕ). n * v.self.entries) (sym w.2),
        narrow_less (length v.starts.now) _ v.self.columns v.self.entries c.loop-x.x v.pieces w.2 (omega arith) c.requires.v_len.1,
      );
    }

pub loop-x-preserved : goal.loop-x-preserved
loop-x-preserved g c =
    let h = c.loop-x in
    let v = c.args in
    let g = v.self in
    let w = h.invariant in
    let p = c.store_at in (
      omega (arith, c.loop-x-test.true),
      p.auto.to ∙ w.1,
      p.auto.starts ∙ w.2,
      each_turn g.mems g.rows g.unit g.entries (starts_by v.self.chunks v.self.columns g.entries (length v.starts.now)) v.v.now v.pieces h.x h.to p.new.to c.loop-x-test.true (p.ensures ∙ ap (λ (n : ℕ). spill_at g.mems g.rows g.unit g.entries (starts_by v.self.chunks v.self.columns g.entries n h.x) v.v.now h.to) w.2) ∙ w.3,
    )

pub returns : goal.returns
returns g c =
    let h = c in
    let v = c.args in
    let g = v.self in
    sym (each_end g.mems g.rows g.unit g.entries (starts_by v.self.chunks v.self.columns g.entries (length v.starts.now)) v.v.now v.pieces h.loop-x.x h.loop-x.to c.loop-x-test.false) ∙ h.loop-x.invariant.3
