-- The room for trits before anything is stored in it.
use Rattle.merge_keys.specs.Keys.{zeros}
use Rattle.merge_dff.specs.declared.Trits.{Trits}

unfoldable pub zero_trits : Trits
zero_trits = record { packed = zeros; clear = zeros; reset = zeros; init = zeros }
