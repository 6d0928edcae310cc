-- `swizzle_columns::columns_in` meets its contract.
use Rattle.std.proofs.Common.{◌≡◌, ◌∙◌, ℕ, ◌*◌, refl, sym, ap, subst, length, take, replicate, arith}
use lib.Seq.{length-take-le}
use Rattle.lists.specs.Lists.{up_from}
use Rattle.swizzle_laws.specs.Stores.{spill_each}
use Rattle.swizzle_columns.specs.Steps.{Good}
use Rattle.swizzle_columns.specs.Rows.{starts_by}
use Rattle.swizzle_columns.proofs.Walks.{narrow_less}
use Rattle.swizzle_columns.proofs.Ports.{few_entries, blank-room, arranged_row}
use Rattle.swizzle_columns.proofs.Portal.{port_by_lem, narrow_by, columns_by}
use Rattle.swizzle_columns.proofs.columns_in.Goals as goal

pub arrange_rows-requires : goal.arrange_rows-requires
arrange_rows-requires g c =
    let v = c.args in
    let r = port_by_lem v.p (length v.entries.now) (length v.to.now) c.grid_of-g.result c.grid_of-g.ensures c.requires.fits in
    record { low = r.low; enough = few_entries v.p.olds _ _ (length v.row.now) r.entries_are (omega (arith, r.few, c.requires.scratch)) }

pub store_pieces-requires : goal.store_pieces-requires
store_pieces-requires g c =
    let v = c.args in
    let p = c.grid_of-g.result in
    let r = port_by_lem v.p (length v.entries.now) (length v.to.now) p c.grid_of-g.ensures c.requires.fits in
    let w = narrow_by v.p (length v.entries.now) (length v.to.now) p c.grid_of-g.ensures c.requires.fits in
    let n = v.p.olds * p.entries in
    let s : length (take v.p.olds (replicate 16 0)) ≡ v.p.olds = length-take-le v.p.olds (replicate 16 0) r.few_olds in
    let l : length (take n c.arrange_rows.new.out) ≡ n = length-take-le n c.arrange_rows.new.out (omega (arith, r.few, c.arrange_rows.auto.out, c.requires.scratch)) in
    let t = c.fill.auto.to in
    record {
      good = subst (λ (i : ℕ). Good p i) (sym t) r.good;
      v_len = (l ∙ ap (λ (i : ℕ). i * p.entries) (sym s), narrow_less v.p.olds (length (take v.p.olds (replicate 16 0))) _ p.entries _ _ s (omega arith) w);
    }

pub returns : goal.returns
returns g c =
    let v = c.args in
    let p = c.grid_of-g.result in
    let r = port_by_lem v.p (length v.entries.now) (length v.to.now) p c.grid_of-g.ensures c.requires.fits in
    let n = v.p.olds * p.entries in
    let s : length (take v.p.olds (replicate 16 0)) ≡ v.p.olds = length-take-le v.p.olds (replicate 16 0) r.few_olds in
    let a = c.arrange_rows in
    let f = starts_by p.chunks p.columns p.entries in
    let whole = arranged_row v.p.olds v.p.width p.entries n v.entries.now r.entries_are refl v.blank v.v.now v.row.now a.new.out (omega (arith, r.few, c.requires.scratch)) a.ensures in
    c.store_pieces.ensures
    ∙ ap (λ (i : ℕ). spill_each p.mems p.rows p.unit p.entries (f i) (up_from 0 v.p.pieces) (take n a.new.out) c.fill.new.to) s
    ∙ (λ k. spill_each p.mems p.rows p.unit p.entries (f v.p.olds) (up_from 0 v.p.pieces) (whole k) (blank-room v.to.now c.fill.new.to v.blank c.fill.ensures k))
    ∙ columns_by v.blank v.p v.entries.now p c.grid_of-g.ensures v.v.now (length v.to.now)
