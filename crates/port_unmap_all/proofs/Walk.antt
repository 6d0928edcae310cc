-- The loop over the ports: what is left from port i on gives the whole.
use mathlib.Core.Path.{◌≡◌, ap, subst}
use Prim.Native.Nat.{ℕ, ◌+◌, ◌-◌, ◌<◌, ◌≤◌}
use native.Mathlib.Omega.{arith}
use mathlib.Core.Option.{Option, none, some}
use mathlib.Core.List.{List, [], ◌∷◌}
use lib.ListN.{length}
use lib.Seq.{sets}
use lib.Dec.{ltb}
use Rattle.lists.specs.Lists.{up_from}
use Rattle.lists.proofs.UpFrom.{count_step, count_end}
use Rattle.rules.specs.Limits.{max_merge}
use Rattle.rules.specs.Value.{Value}
use Rattle.rules.specs.Cell.{FlipFlop, ReadFlipFlop, Mem, read_at_of}
use Rattle.rules.specs.Log.{◌>>=◌, done}
use Rattle.rules.specs.Beside.Chain.{Chains}
use Rattle.rules.proofs.Chain.{chains_void, chains_dff, chains_replace, chains_bind, chains_then, chains_done, chains_if}
use Rattle.log_entries.specs.Emission.{Lent}
use Rattle.port_transparency.specs.Gave.{Gave}
use Rattle.port_transparency.proofs.Gave.{gave_done, gave_bind}
use Rattle.port_overlay.specs.Laid.{behind}
use Rattle.port_overlay.proofs.Laid.{chains_laid_from}
use Rattle.port_unmap_all.specs.All.{unmapped_to, unmapped_of, unmapped_at, unmapped_each, unmapped_all}

-- ---- the entries are in sequence
chains_behind : (f : FlipFlop) (from : Value) → Chains (behind f from)
unfolding behind
chains_behind f from = chains_bind _ _ (chains_dff f) (λ q. chains_replace from q)

chains_to : (m : Mem) (i : ℕ) (output : Value) (f : ReadFlipFlop) (room : Value) → Chains (unmapped_to m i output f room)
unfolding unmapped_to
chains_to m i output f room =
    chains_bind _ _ (chains_void _) (λ v. chains_bind _ _ (chains_laid_from m _ _ 0 _ _) (λ o. chains_then _ _ (chains_behind _ _) (chains_done _)))

chains_of : (o : Option ReadFlipFlop) (m : Mem) (i : ℕ) (output room : Value) → Chains (unmapped_of o m i output room)
unfolding unmapped_of
chains_of none m i output room = chains_done room
chains_of (some f) m i output room = chains_if (ltb max_merge (read_at_of m i).data_len) _ _ (chains_done room) (chains_to m i output f room)

chains_at : (m : Mem) (i : ℕ) (output room : Value) → Chains (unmapped_at m i output room)
unfolding unmapped_at
chains_at m i output room = chains_of (read_at_of m i).flip_flop m i output room

chains_each : (is : List ℕ) (m : Mem) (output room : Value) → Chains (unmapped_each is m output room)
unfolding unmapped_each
chains_each [] m output room = chains_done room
chains_each (i ∷ is) m output room = chains_bind (unmapped_at m i output room) _ (chains_at m i output room) (λ x. chains_each is m output x)

pub chains_unmapped : (m : Mem) (output room : Value) → Chains (unmapped_all m output room)
unfolding unmapped_all
chains_unmapped m output room = chains_each (up_from 0 (length m.reads)) m output room

-- ---- the loop
module _ (m : Mem) (output : Value) (count : ℕ) where
  abbrev pub Going : Value → Lent → ℕ → Value → Lent → Type 0
  Going r₀ l₀ i r l = (l' : Lent) (v : Value) → Gave (unmapped_each (up_from i (count - i)) m output r) l l' v → Gave (unmapped_each (up_from 0 count) m output r₀) l₀ l' v

  pub going_start : (r : Value) (l : Lent) → Going r l 0 r l
  going_start r l l' v g = let e : count - 0 ≡ count = omega arith in subst (λ (n : ℕ). Gave (unmapped_each (up_from 0 n) m output r) l l' v) e g

  each_cons : (i : ℕ) (r : Value) → i < count → unmapped_each (up_from i (count - i)) m output r ≡ (unmapped_at m i output r >>= λ x. unmapped_each (up_from (i + 1) (count - (i + 1))) m output x)
  unfolding unmapped_each
  each_cons i r h = ap (λ (is : List ℕ). unmapped_each is m output r) (count_step i count h)

  pub going_turn : (r₀ : Value) (l₀ : Lent) (i : ℕ) (r r1 : Value) (l l1 : Lent) → i < count → Going r₀ l₀ i r l → Gave (unmapped_at m i output r) l l1 r1 → Going r₀ l₀ (i + 1) r1 l1
  going_turn r₀ l₀ i r r1 l l1 h inv g =
      λ l' v k. inv l' v (rw (each_cons i r h)
      (gave_bind (unmapped_at m i output r) (λ x. unmapped_each (up_from (i + 1) (count - (i + 1))) m output x) l l1 l' r1 v (chains_at m i output r) g k))

  each_nil : (i : ℕ) (r : Value) → count ≤ i → unmapped_each (up_from i (count - i)) m output r ≡ done r
  unfolding unmapped_each
  each_nil i r h = ap (λ (is : List ℕ). unmapped_each is m output r) (count_end i count h)

  pub going_end : (r₀ : Value) (l₀ : Lent) (i : ℕ) (r : Value) (l : Lent) → count ≤ i → length m.reads ≡ count → Going r₀ l₀ i r l → Gave (unmapped_all m output r₀) l₀ l r
  unfolding unmapped_all
  going_end r₀ l₀ i r l h e inv = rw e (inv l r (rw (each_nil i r h) (gave_done r l)))

-- from the outputs in the room
pub all_from : (m : Mem) (output room room1 : Value) (l l1 : Lent) (v : Value) → room1 ≡ sets room 0 output → Gave (unmapped_all m output room1) l l1 v
    → Gave (unmapped_all m output (sets room 0 output)) l l1 v
all_from m output room room1 l l1 v e g = subst (λ (r : Value). Gave (unmapped_all m output r) l l1 v) e g
