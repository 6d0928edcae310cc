-- `fallback::split_rows` meets its contract.
use mathlib.Core.Path.{refl}
use Prim.Native.Nat.{ℕ}
use native.Mathlib.Omega.{arith}
use mathlib.Core.List.{[]}
use lib.ListN.{replicate, length-replicate}
use Rattle.rules.specs.Limits.{max_bits}
use Rattle.swizzle_call.specs.Told.{told}
use Rattle.fallback.proofs.Plans.{split_done}
use Rattle.fallback.proofs.split_rows.Goals as goal

pub returns : goal.returns
returns c =
    let v = c.args in
    let p = c.plan.result in
    let s = c.swizzle in
    split_done v.given.memory v.given.nets.now v.given.trits.now v.outs.now p.swizzle p.entries.now p.writes.now p.reads.now v.st v.log.now v.image.now v.tables.now [] (replicate max_bits 0) (told v.st s.result) s.new.log s.new.image s.new.nets_to s.new.trits_to s.new.scratch (omega arith) refl (length-replicate {A = ℕ} max_bits 0) (c.plan.ensures c.of-lists.ensures c.requires.1) c.requires.0 s.ensures.swizzles
