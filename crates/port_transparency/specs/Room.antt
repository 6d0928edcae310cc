-- The room of an overlay before anything is stored in it.
use Rattle.merge_keys.specs.Keys.{zeros, zero_keys}
use Rattle.port_transparency.specs.declared.Overlay.{Overlay}

unfoldable pub zero_overlay : Overlay
zero_overlay = record { under = zeros; bits = zeros; mask = zeros; select = zeros; spare = zeros; keys = zero_keys }
