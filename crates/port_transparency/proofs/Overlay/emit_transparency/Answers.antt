-- `port_transparency::Overlay::emit_transparency` meets its contract.
use mathlib.Core.Path.{sym, ap, ◌∙◌}
use mathlib.Core.Bool.{not}
use borrow.Author.Tests.{not-true, not-false}
use lib.ListN.{length, take}
use Rattle.log_entries.specs.View.{lent_of}
use Rattle.port_transparency.specs.Pairs.{write_of, read_of, data_and}
use Rattle.port_transparency.proofs.Covered.{fits, laid_fits, laid_not}
use Rattle.port_transparency.proofs.Overlay.emit_transparency.Goals as goal

pub returns-then-not-pair_fits : goal.returns-then-not-pair_fits
returns-then-not-pair_fits g c =
    let v = c.args in
    laid_not v.w.k v.r.k (write_of v.w) (read_of v.r) (data_and (take v.r.count v.self.now.under) (g.O.Over.mask v.over.now v.r.count)) (lent_of v.log.now) (sym c.pair_fits.ensures ∙ not-true _ (ap not c.if-not-pair_fits.true))

pub emit_laid-same-requires : goal.emit_laid-same-requires
emit_laid-same-requires g c =
    let w = c.args.w in
    let r = c.args.r in
    fits w.k r.k (length w.addr.now) (length r.addr.now) (length w.bits.now) (length w.mask.now) r.count (sym c.pair_fits.ensures ∙ not-false _ (ap not c.if-not-pair_fits.false))

pub returns : goal.returns
returns g c =
    let v = c.args in
    let p = c.emit_laid-same in
    let q = c.add in
    let n = v.r.count in
    let k = g.O.Over.mask in
    let w = v.w in
    let fit = fits w.k v.r.k (length w.addr.now) (length v.r.addr.now) (length w.bits.now) (length w.mask.now) n (sym c.pair_fits.ensures ∙ not-false _ (ap not c.if-not-pair_fits.false)) in
    rw q.ensures.data_stays
    (laid_fits v.w.k v.r.k (write_of v.w) (read_of v.r) (data_and (take n v.self.now.under) (k v.over.now n)) (lent_of v.log.now) (lent_of q.new.log) (data_and (take n p.new.self.under) (k q.new.self n)) (sym c.pair_fits.ensures ∙ not-false _ (ap not c.if-not-pair_fits.false))
    (p.ensures (k v.over.now n) (k q.new.self n) (lent_of q.new.log) (q.ensures.mask_after fit.few)))
