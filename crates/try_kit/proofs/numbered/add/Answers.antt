-- `try_kit::numbered::add` meets its contract.
use mathlib.Core.Path.{sym}
use Rattle.try_kit.proofs.numbered.add.Goals as goal

pub returns : goal.returns
returns c =
    rw (sym c.number_if-number.ensures) (λ i. record {
      made = c.more.ensures i;
      right = c.more-2.ensures i;
      accepted = c.more-3.ensures i;
      large = c.more-4.ensures i;
      unequal = c.more-5.ensures i;
      bad = c.more-6.ensures i;
      full = c.more-7.ensures i;
      netless = c.more-8.ensures i;
    })
