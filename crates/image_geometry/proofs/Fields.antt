-- What a struct by value tells of its fields.
use Prim.Native.Nat.{◌<◌}
use mathlib.Core.Path.{◌≡◌}
use mathlib.Core.Bool.{false}
use native.Mathlib.Omega.{arith}
use lib.Dec.{ltb}
use borrow.Author.Tests.{le-ltb}
use Rattle.rules.specs.Limits.{max_mask}
use mathlib.Core.List.{List}
use mir.Val.{Val}
use denote.Laws.{Is}
use denote.Struct.Declared as declared
use Rattle.image_geometry.specs.declared.Params as spec
use Rattle.image_geometry.specs.declared.Spot as spot
use Rattle.image_geometry.specs.contracts.Params
use Rattle.image_geometry.specs.contracts.Spot

module _ (p : spec.Params) (vs : List Val) (g : Is (declared.row Params.the_type) p vs) where
  pub depth_word : p.depth < 4294967296
  depth_word = g.1.1.0.1

  mask_word : p.soft_mask < 4294967296
  mask_word = g.1.1.1.1.0.1

  -- a soft mask is a word, so never above its limit
  pub mask_small : ltb max_mask p.soft_mask ≡ false
  mask_small = le-ltb max_mask p.soft_mask (omega (arith, mask_word))

  pub width_word : p.width < 4294967296
  width_word = g.1.1.1.0.1

module _ (s : spot.Spot) (vs : List Val) (g : Is (declared.row Spot.the_type) s vs) where
  pub chunk_word : s.chunk < 4294967296
  chunk_word = g.1.1.0.1

  pub row_word : s.row < 4294967296
  row_word = g.1.1.1.0.1
