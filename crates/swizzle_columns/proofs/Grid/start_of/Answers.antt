-- `swizzle_columns::Grid::start_of` meets its contract.
use Rattle.std.proofs.Common.{ap, arith}
use Rattle.rules.specs.Geometry.{Spot}
use Rattle.swizzle_columns.proofs.Walks.{start_fits, start_by_lem}
use Rattle.swizzle_columns.proofs.Grid.start_of.Goals as goal

pub overflow_mul-result : goal.overflow_mul-result
overflow_mul-result c =
    let v = c.args in
    let w = c.walk_row-spot in
    omega (arith, start_fits v.self.chunks v.self.columns v.self.entries v.n w.result.row w.result.chunk (ap (λ (p : Spot). p.row) w.ensures) (ap (λ (p : Spot). p.chunk) w.ensures) c.requires)

pub overflow_mul-result-2 : goal.overflow_mul-result-2
overflow_mul-result-2 c =
    let v = c.args in
    let w = c.walk_row-spot in
    omega (arith, start_fits v.self.chunks v.self.columns v.self.entries v.n w.result.row w.result.chunk (ap (λ (p : Spot). p.row) w.ensures) (ap (λ (p : Spot). p.chunk) w.ensures) c.requires)

pub overflow_add-result : goal.overflow_add-result
overflow_add-result c =
    let v = c.args in
    let w = c.walk_row-spot in
    omega (arith, start_fits v.self.chunks v.self.columns v.self.entries v.n w.result.row w.result.chunk (ap (λ (p : Spot). p.row) w.ensures) (ap (λ (p : Spot). p.chunk) w.ensures) c.requires)

pub returns : goal.returns
returns c =
    let v = c.args in
    let w = c.walk_row-spot in
    start_by_lem v.self.chunks v.self.columns v.self.entries v.n w.result.row w.result.chunk (ap (λ (p : Spot). p.row) w.ensures) (ap (λ (p : Spot). p.chunk) w.ensures)
