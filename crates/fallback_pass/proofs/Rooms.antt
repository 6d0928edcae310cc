-- The rooms that the split of a memory without flip-flops asks for, by the plan of a fallback.
use mathlib.Core.Path.{◌≡◌, refl, sym, ap, ◌∙◌}
use mathlib.Core.Logic.{◌≢◌}
use Prim.Native.Nat.{ℕ, zero, ◌+◌, ◌*◌, ◌≤◌}
use native.Mathlib.Nat.{suc-mul, zero-mul, zero-add, mul_comm, mul_assoc}
use native.Mathlib.Omega.{arith}
use mathlib.Core.Bool.{Bool, false}
use mathlib.Core.List.{List, [], ◌∷◌, map}
use lib.ListN.{length}
use lib.Dec.{eqb}
use borrow.Author.Tests.{ne_eqb, le-ltb}
use Rattle.lists.specs.Choice.{when◌then◌else◌}
use Rattle.lists.specs.Lists.{sum_by, pairs}
use Rattle.lists.proofs.Choice.{if_false}
use Rattle.rules.specs.Cell.{ReadPort, Mem}
use Rattle.rules.specs.Geometry.{Layout, layout_of, columns}
use Rattle.rules.specs.Image.{trits, image_size}
use Rattle.rules.specs.Conditions.{no_room_of}
use Rattle.rules.specs.Refusals.{lent_refusal}
use Rattle.rules.specs.Fallback.{fallback_plan}
use Rattle.port_unmap_all.specs.All.{bare}
use Rattle.swizzle_counts.specs.Rooms.{write_room, read_room, trit_room}

-- ---- lent room that is enough
pub room_enough : (room need : ℕ) → need ≤ room → no_room_of room need ≡ false
unfolding no_room_of
room_enough room need h = le-ltb room need h

pub lent_enough : (room need : ℕ) → need ≤ room → lent_refusal room need ≡ 0
lent_enough room need h = ap {B = ℕ} (λ (b : Bool). when b then 20 else 0) (room_enough room need h)

-- ---- sums over ports whose new wide logs are 0
sum_same : {A : Type 0} (f : ℕ → ℕ) (c : ℕ) → f 0 ≡ c → (l : List A) → sum_by f (map (λ (a : A). zero) l) ≡ length l * c
sum_same f c e [] = sym (zero-mul c)
sum_same f c e (a ∷ l) = omega (arith, sum_same f c e l, suc-mul (length l) c)

-- no trits without flip-flops
pub trits-bare : (q : Layout) (rs : List ReadPort) (ns : List ℕ) → sum_by (trit_room q) (pairs (map bare rs) ns) ≡ 0
trits-bare q [] ns = refl
trits-bare q (r ∷ rs) [] = refl
trits-bare q (r ∷ rs) (n ∷ ns) = zero-add _ ∙ trits-bare q rs ns

module _ (m : Mem) where
  abbrev q : Layout
  q = layout_of m (fallback_plan m)

  hard_is : q.hard ≡ 0
  unfolding layout_of fallback_plan
  hard_is = refl

  layout_width : q.width ≡ m.width
  unfolding layout_of
  layout_width = refl

  one_write : (c : ℕ) → columns q ≡ c → write_room q 0 ≡ 2 * c
  one_write c e = omega (arith, hard_is, e)

  one_read : read_room q 0 ≡ 0
  one_read = omega (arith, hard_is)

  pub nets_are : (c : ℕ) → columns q ≡ c → sum_by (write_room q) (fallback_plan m).write_wide + sum_by (read_room q) (fallback_plan m).read_wide_of ≡ 2 * length m.writes * c
  unfolding fallback_plan
  nets_are c e =
      (λ i. sum_same (write_room q) (2 * c) (one_write c e) m.writes i + sum_same (read_room q) 0 one_read m.reads i) ∙ total (length m.writes) (length m.reads) c
    where
      total : (w r c : ℕ) → w * (2 * c) + r * 0 ≡ 2 * w * c
      total w r c = omega (arith, sym (mul_assoc w 2 c), mul_comm w 2, ap (λ (n : ℕ). n * c) (mul_comm w 2))

  pub image_is : m.width ≢ 0 → image_size q ≡ trits q
  unfolding image_size
  image_is w = if_false (eqb q.width 0) 0 (trits q) (ne_eqb q.width 0 (λ z. w (sym layout_width ∙ z)))
