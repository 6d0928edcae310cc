-- The numbers of the ports, taken together, are the number of the memory.
use mathlib.Core.Path.{◌≡◌, refl, ap, ◌∙◌}
use Prim.Native.Nat.{ℕ, ◌*◌}
use mathlib.Core.Bool.{Bool, true, false, not, ◌||◌}
use mathlib.Core.List.{List, [], ◌∷◌}
use lib.ListN.{length}
use lib.Dec.{eqb}
use Rattle.lists.specs.Choice.{least}
use Rattle.lists.specs.Lists.{any, least_by}
use Rattle.rules.specs.Cell.{Mem, write_wide_log2, read_wide_log2}
use Rattle.rules.specs.Conditions.{bad_shape, bad_depth, bad_nets, bad_write_shape, bad_read_shape, indivisible, bad_write_nets, bad_read_nets, bad_trits}
use Rattle.rules.specs.Refusals.{number_by_of}
use Rattle.net_check.specs.Number.{write_number, read_number}

pub merge : (a a' b b' k k' : Bool) → least (number_by_of a b k) (number_by_of a' b' k') ≡ number_by_of (a || a') (b || b') (k || k')
merge true true b b' k k' = refl
merge true false b true k k' = refl
merge true false b false k true = refl
merge true false b false k false = refl
merge false true true b' k k' = refl
merge false true false b' true k' = refl
merge false true false b' false k' = refl
merge false false true true k k' = refl
merge false false true false k true = refl
merge false false true false k false = refl
merge false false false true true k' = refl
merge false false false true false k' = refl
merge false false false false true true = refl
merge false false false false true false = refl
merge false false false false false k' = refl

module _ {A : Type 0} (f g h : A → Bool) where
  pub least_number : (l : List A) → least_by (λ (a : A). number_by_of (f a) (g a) (h a)) l ≡ number_by_of (any f l) (any g l) (any h l)
  least_number [] = refl
  least_number (a ∷ l) = ap (least (number_by_of (f a) (g a) (h a))) (least_number l) ∙ merge (f a) (any f l) (g a) (any g l) (h a) (any h l)

-- of the initial trits, the write ports and the read ports
module _ (next : ℕ) (m : Mem) where
  abbrev pub init_number : ℕ
  init_number = number_by_of (not (eqb (length m.init) (m.depth * m.width))) false (bad_trits m.init)

  writes_number : least_by (write_number next m) m.writes
      ≡ number_by_of (any (bad_write_shape m) m.writes) (any (λ p. indivisible m.depth (write_wide_log2 m p)) m.writes) (any (bad_write_nets next) m.writes)
  unfolding write_number
  writes_number = least_number (bad_write_shape m) (λ p. indivisible m.depth (write_wide_log2 m p)) (bad_write_nets next) m.writes

  reads_number : least_by (read_number next m) m.reads
      ≡ number_by_of (any (bad_read_shape m) m.reads) (any (λ p. indivisible m.depth (read_wide_log2 m p)) m.reads) (any (bad_read_nets next) m.reads)
  unfolding read_number
  reads_number = least_number (bad_read_shape m) (λ p. indivisible m.depth (read_wide_log2 m p)) (bad_read_nets next) m.reads

  pub parts_number : least init_number (least (least_by (write_number next m) m.writes) (least_by (read_number next m) m.reads))
      ≡ number_by_of (bad_shape m) (bad_depth m) (bad_nets next m)
  unfolding bad_shape bad_depth bad_nets
  parts_number =
      let w1 = any (bad_write_shape m) m.writes in
      let w2 = any (λ p. indivisible m.depth (write_wide_log2 m p)) m.writes in
      let w3 = any (bad_write_nets next) m.writes in
      let r1 = any (bad_read_shape m) m.reads in
      let r2 = any (λ p. indivisible m.depth (read_wide_log2 m p)) m.reads in
      let r3 = any (bad_read_nets next) m.reads in
      (λ i. least init_number (least (writes_number i) (reads_number i)))
      ∙ ap (least init_number) (merge w1 r1 w2 r2 w3 r3)
      ∙ merge (not (eqb (length m.init) (m.depth * m.width))) (w1 || r1) false (w2 || r2) (bad_trits m.init) (w3 || r3)
