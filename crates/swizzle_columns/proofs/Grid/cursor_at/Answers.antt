-- `swizzle_columns::Grid::cursor_at` meets its contract.
use mathlib.Core.Path.{refl}
use native.Mathlib.Omega.{arith}
use Rattle.swizzle_laws.specs.Order.{flip, home}
use Rattle.swizzle_columns.proofs.Cursors.{place_fits}
use Rattle.swizzle_columns.proofs.Grid.cursor_at.Goals as goal

pub overflow_mul-result : goal.overflow_mul-result
overflow_mul-result c = let k = c in let p = place_fits k.args.self k.args.size k.requires.0 k.args.at k.requires.1 in omega (arith, p.1)

pub overflow_add-result : goal.overflow_add-result
overflow_add-result c = let k = c in let p = place_fits k.args.self k.args.size k.requires.0 k.args.at k.requires.1 in omega (arith, p.1)

pub overflow_mul-result-2 : goal.overflow_mul-result-2
overflow_mul-result-2 c = let k = c in let p = place_fits k.args.self k.args.size k.requires.0 k.args.at k.requires.1 in omega (arith, p.0)

pub overflow_add-result-2 : goal.overflow_add-result-2
overflow_add-result-2 c = let k = c in let p = place_fits k.args.self k.args.size k.requires.0 k.args.at k.requires.1 in omega (arith, p.0)

pub returns : goal.returns
unfolding home flip
returns c = record { index_is = refl; bit_is = refl; mem_is = refl }
