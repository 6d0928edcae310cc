-- The tree over pieces that stand side by side in lent scratch.
use Rattle.std.specs.Prelude.{◌≡◌, ℕ, ◌*◌, Bool, false, ◌&&◌, List, [], length, take, drop, leb, ltb}
use Rattle.std.proofs.lemmas.List.Edits.{sets}
use Rattle.lists.specs.Choice.{when◌then◌else◌}
use Rattle.rules.specs.Value.{Value}
use Rattle.log_entries.specs.Emission.{Lent, is_over, run}
use Rattle.rules.specs.Log.{Trace, done}
use Rattle.rules.specs.Swizzle.{pair_up, mux_tree}
use Rattle.swizzle_laws.specs.Cuts.{cut, joined}

-- the result nets from a place on, unless the emission overflowed
unfoldable pub results : Bool → List ℕ → ℕ → Value → List ℕ
results over out to v = when over then out else sets out to v

-- the tree over the first pieces in the scratch
abbrev pub tree_in : Value → ℕ → ℕ → Value → Trace Value
tree_in bits width count l = mux_tree bits (cut width count l)

abbrev pub pairs_in : ℕ → ℕ → ℕ → Value → Trace (List Value)
pairs_in bit width count l = pair_up bit (cut width count l)

-- what one level leaves: p₀ and l₀ were there before. The pieces stand at the front, and what lies past those that were given is kept
pub record Paired (bit w count : ℕ) (p₀ p : Value) (l₀ l : Lent) : Type 0 where
  pub log : l ≡ run (pairs_in bit w count p₀) l₀
  pub value : is_over l.state ≡ false → p ≡ sets p₀ 0 (joined (pairs_in bit w count p₀ l₀.state.next).value)
  pub kept : drop (count * w) p ≡ drop (count * w) p₀

-- what the tree leaves: its value stands at the front; what stands between it and the end of the pieces is left open
pub record Treed (bits : Value) (w count : ℕ) (p₀ p : Value) (l₀ l : Lent) : Type 0 where
  pub log : l ≡ run (tree_in bits w count p₀) l₀
  pub value : is_over l.state ≡ false → take w p ≡ (tree_in bits w count p₀ l₀.state.next).value
  pub kept : drop (count * w) p ≡ drop (count * w) p₀

-- there are pieces, and the scratch holds them
unfoldable pub holds : ℕ → ℕ → Value → Bool
holds w count l = ltb 0 count && leb (count * w) (length l)

-- the tree over pieces that the scratch holds
unfoldable pub tree_of : Value → ℕ → ℕ → Value → Trace Value
tree_of bits w count l = when holds w count l then tree_in bits w count l else done []

-- what it leaves: its value stands at the front; what stands between it and the end of the pieces is left open, and what lies past them is kept
pub record Built (bits : Value) (w count : ℕ) (p₀ p : Value) (l₀ l : Lent) : Type 0 where
  pub log : l ≡ run (tree_of bits w count p₀) l₀
  pub value : is_over l.state ≡ false → take (length (tree_of bits w count p₀ l₀.state.next).value) p ≡ (tree_of bits w count p₀ l₀.state.next).value
  pub kept : drop (count * w) p ≡ drop (count * w) p₀
