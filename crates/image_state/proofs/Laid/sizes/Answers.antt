-- `image_state::Laid::sizes` meets its contract.
use mathlib.Core.Path.{sym, ap, ◌∙◌}
use Rattle.rules.specs.Answers.{sizes_call}
use Rattle.image_geometry.specs.View.{layout_of}
use Rattle.image_state.proofs.Counting.{sizes_good}
use Rattle.image_state.proofs.Laid.sizes.Goals as goal

pub returns : goal.returns
returns c =
    record {
      result_value = c.sizes_by.ensures ∙ ap sizes_call c.layout.ensures.value;
      z_value = λ z h. sizes_good (layout_of c.layout.result) z (sym c.sizes_by.ensures ∙ h);
    }
