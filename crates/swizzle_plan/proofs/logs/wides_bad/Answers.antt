-- `swizzle_plan::logs::wides_bad` meets its contract.
use Rattle.std.proofs.Common.{ℕ, Bool, ap, sym, ◌∙◌, rules, tests}
use Rattle.std.proofs.lemmas.Iterator.{YieldsList-from_slice, YieldsList-from_zip}
use Rattle.std.proofs.lemmas.Iterator.Search.{any_from_yields_List}
use Rattle.lists.specs.Lists.{any}
use Rattle.rules.specs.Conditions.{bad_wide}
use Rattle.swizzle_plan.specs.Calls.{view_plan}
use Rattle.lists.proofs.Zips.{zip_pairs}
use Rattle.swizzle_plan.proofs.Wides.{any_first, wides_long, wides_equal}
use Rattle.swizzle_plan.proofs.logs.wides_bad.Goals as goal

pub returns-then-news-ports : goal.returns-then-news-ports
returns-then-news-ports g c f gives = wides_long (view_plan c.args.plan) f c.args.ports.now c.args.news.now c.if-news-ports.true

pub returns : goal.returns
returns g c f gives =
    let v = c.args in
    let p = view_plan v.plan in
    let bad : ℕ × ℕ → Bool = λ (x : ℕ × ℕ). bad_wide p (f x.0) x.1 in
    wides_equal p f v.ports.now v.news.now c.if-news-ports.false _
    (any_from_yields_List bad c.any.new.self _ c.any.result c.any.ensures.ran (YieldsList-from_zip (YieldsList-from_slice v.ports.now cc) (YieldsList-from_slice v.news.now cc)) (λ x b q k. search (rules, tests))
    ∙ ap (any bad) (zip_pairs v.ports.now v.news.now)
    ∙ sym (any_first f (bad_wide p) v.ports.now v.news.now))
