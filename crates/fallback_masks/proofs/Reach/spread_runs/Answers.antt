-- `fallback_masks::Reach::spread_runs` meets its contract.
use native.Mathlib.Omega.{arith}
use Rattle.fallback_masks.proofs.Numbers.{spread_max, rows_max, spread_past, spread_in}
use Rattle.fallback_masks.proofs.Reach.spread_runs.Goals as goal

pub overflow_mul-rows : goal.overflow_mul-rows
overflow_mul-rows c = omega (arith, rows_max c.args.self.depth c.args.pieces c.args.wide c.args.self.shallow c.requires.0 c.requires.1)

pub overflow_mul-result : goal.overflow_mul-result
overflow_mul-result c = let v = c.args in omega (arith, spread_max v.self.depth v.pieces v.runs c.args.self.shallow c.requires.0 c.requires.2)

pub returns-then-self-rows : goal.returns-then-self-rows
returns-then-self-rows c =
    let v = c.args in
    (λ k e. spread_past v.self.depth v.pieces v.wide v.runs k e c.if-self-rows.true, omega (arith, spread_max v.self.depth v.pieces v.runs c.args.self.shallow c.requires.0 c.requires.2))

pub overflow_mul-result-2 : goal.overflow_mul-result-2
overflow_mul-result-2 c = let v = c.args in omega (arith, spread_max v.self.depth v.pieces v.runs c.args.self.shallow c.requires.0 c.requires.2)

pub overflow_add-result : goal.overflow_add-result
overflow_add-result c = let v = c.args in omega (arith, spread_max v.self.depth v.pieces v.runs c.args.self.shallow c.requires.0 c.requires.2)

pub returns : goal.returns
returns c =
    let v = c.args in
    (λ k e. spread_in v.self.depth v.pieces v.wide v.runs k e, omega (arith, spread_max v.self.depth v.pieces v.runs c.args.self.shallow c.requires.0 c.requires.2, c.args.self.shallow))
