-- Whether there is something to unmap, and the relations that stay.
use mathlib.Core.Path.{◌≡◌, refl, ap, ◌∙◌}
use Prim.Native.Nat.{ℕ, zero, suc}
use mathlib.Core.Bool.{Bool, true, false, not, ◌&&◌, ◌||◌}
use mathlib.Core.List.{List, [], ◌∷◌, map}
use lib.Dec.{eqb}
use lib.ListN.{take}
use Rattle.lists.specs.Choice.{when◌then◌else◌}
use Rattle.lists.specs.Lists.{any, part}
use Rattle.rules.specs.Logic.{is_undef}
use Rattle.rules.specs.Value.{is_always}
use Rattle.rules.specs.Cell.{ReadFlipFlop, is_transparent, transparent_from, transparent_ports}
use Rattle.rules.specs.Ports.{has_init, has_reset, has_clear, wanted, is_empty, is_plain, no_transparent}
use Rattle.port_unreset.specs.Struct.{kept_relations}

-- ---- relations
pub any_is : (rels : List ℕ) (j : ℕ) → any (λ (r : ℕ). eqb r 2) rels ≡ not (is_empty (transparent_from j rels))
unfolding is_empty transparent_from is_transparent
any_is [] j = refl
any_is (r ∷ rels) j = by_test (eqb r 2) (transparent_from (suc j) rels) (any_is rels (suc j))
  where
    by_test : (b : Bool) (l : List ℕ) {x : Bool} → x ≡ not (is_empty l) → (b || x) ≡ not (is_empty (when b then j ∷ l else l))
    by_test true l e = refl
    by_test false l e = e

pub wanted_is : (incl : Bool) (f : ReadFlipFlop) → wanted incl f ≡ transparent_from 0 (when incl then f.relations else [])
unfolding wanted transparent_ports transparent_from
wanted_is true f = refl
wanted_is false f = refl

-- ---- nothing to unmap
not_not : (a : Bool) → not (not a) ≡ a
not_not true = refl
not_not false = refl

pub plain_is : (incl : Bool) (f : ReadFlipFlop)
    → is_plain incl f ≡ (is_undef f.init_value && (is_always 0 f.controls.reset && (is_always 0 f.controls.clear && is_empty (wanted incl f))))
unfolding is_plain has_init has_reset has_clear
plain_is incl f = λ k. not_not (is_undef f.init_value) k && (not_not (is_always 0 f.controls.reset) k && (not_not (is_always 0 f.controls.clear) k && is_empty (wanted incl f)))

-- by the init trits and the relations alone
pub plain_as : (incl : Bool) (f : ReadFlipFlop) (init rels : List ℕ) (b : Bool) → b ≡ is_plain incl (record { controls = f.controls; clear_value = f.clear_value; reset_value = f.reset_value; init_value = init; relations = rels })
    → init ≡ f.init_value → rels ≡ f.relations → b ≡ is_plain incl f
plain_as incl f init rels b q ei er = q ∙ (λ k. is_plain incl (record { controls = f.controls; clear_value = f.clear_value; reset_value = f.reset_value; init_value = ei k; relations = er k }))

-- ---- the relations that stay
map_take : (f : ℕ → ℕ) (n : ℕ) (l : List ℕ) → take n (map f l) ≡ map f (take n l)
map_take f zero l = refl
map_take f (suc n) [] = refl
map_take f (suc n) (x ∷ l) = ap (λ (t : List ℕ). f x ∷ t) (map_take f n l)

-- of the codes in use
pub kept-part : (incl : Bool) (n : ℕ) (rels : List ℕ) → part 0 n (kept_relations incl rels) ≡ (when incl then map no_transparent (part 0 n rels) else part 0 n rels)
kept-part true n rels = map_take no_transparent n rels
kept-part false n rels = refl
