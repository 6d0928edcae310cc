-- What a struct by value tells of the lengths of its arrays.
use mathlib.Core.Path.{◌≡◌}
use mathlib.Core.List.{List}
use lib.ListN.{length}
use mir.Val.{Val}
use denote.Laws.{Is}
use denote.Struct.Declared as declared
use Rattle.swizzle_result.specs.declared.WideMemory as spec
use Rattle.swizzle_result.specs.contracts.WideMemory

module _ (g : spec.WideMemory) (vs : List Val) (h : Is (declared.row WideMemory.the_type) g vs) where
  pub write_ports_8 : length g.write_ports ≡ 8
  write_ports_8 = h.1.1.1.1.1.1.1.1.1.0.1.0.1

  pub read_ports_8 : length g.read_ports ≡ 8
  read_ports_8 = h.1.1.1.1.1.1.1.1.1.1.0.1.0.1
