-- `record_listing::text::digits_of` meets its contract.
use Rattle.record_listing.proofs.Digits.{digit_last, digit_more, ten_digits, digits_end}
use mathlib.Core.Path.{◌∙◌}
use native.Mathlib.Omega.{arith}
use Rattle.std.proofs.Common.{◌≡◌, ℕ, ap, sym, drop}
use Rattle.record_listing.proofs.text.digits_of.Goals as goal

pub loop-i-init : goal.loop-i-init
loop-i-init c = ten_digits c.args.digits.now c.args.n (omega arith)

pub returns-then-left-lt10 : goal.returns-then-left-lt10
returns-then-left-lt10 c =
    let l = c.loop-i in
    (digit_last l.digits l.i l.left (omega arith) (omega arith) c.if-left-lt10.true ∙ l.invariant, omega arith)

pub loop-i-preserved : goal.loop-i-preserved
loop-i-preserved c =
    let l = c.loop-i in
    digit_more l.digits l.i l.left (omega arith) (omega arith) c.if-left-lt10.false ∙ l.invariant

pub returns : goal.returns
returns c =
    let l = c.loop-i in
    let z : l.i ≡ 0 = omega arith in
    (ap (λ (n : ℕ). drop n l.digits) (sym z) ∙ digits_end l.digits l.i l.left z ∙ l.invariant, omega arith)
