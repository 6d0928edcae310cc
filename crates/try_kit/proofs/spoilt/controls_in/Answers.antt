-- `try_kit::spoilt::controls_in` meets its contract.
use Rattle.try_kit.proofs.spoilt.controls_in.Goals as goal

pub returns : goal.returns
returns c =
    λ i. record {
      clock = c.control_or.ensures i;
      clear = c.control_or-2.ensures i;
      reset = c.control_or-3.ensures i;
      enable = c.control_or-4.ensures i;
      reset_over_enable = c.args.over;
    }
