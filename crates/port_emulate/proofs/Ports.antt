-- The loop over the write ports whose nets change in place.
use mathlib.Core.Path.{◌≡◌, refl, sym, ap, ◌∙◌, subst}
use Prim.Native.Nat.{ℕ, zero, suc, ◌+◌, ◌<◌, ◌≤◌}
use native.Mathlib.Omega.{arith}
use native.Mathlib.Numerals.{add-one}
use mathlib.Core.Bool.{Bool}
use mathlib.Core.List.{List, [], ◌∷◌, ◌++◌, append-nil}
use lib.ListN.{length, take, drop, get_or, set, drop_of_length-le, length-set}
use lib.Seq.{drop-cons, drop-drop, take_all}
use Rattle.lists.specs.Choice.{when◌then◌else◌}
use Rattle.rules.specs.Cell.{WritePort, Mem}
use Rattle.rules.specs.Log.{done}
use Rattle.rules.specs.Ports.{delayed}
use Rattle.log_entries.specs.Emission.{Lent}
use Rattle.net_memory.specs.declared.Memory.{Memory}
use Rattle.net_memory.specs.View.{writes_of, memory_of}
use Rattle.port_transparency.specs.Gave.{Gave}
use Rattle.port_transparency.proofs.Gave.{gave_done, gave_bind, gave_same}
use Rattle.port_delay.specs.Delay.{Delayable}
use Rattle.port_settle.specs.Settled.{is_read, turned_by, turned_from}
use Rattle.port_emulate.specs.Delays.{delays, no_write_of, port_at, PortDone, PortsDone, Fitting}
use Rattle.port_emulate.proofs.Delays.{chains_step, chains_delays}

-- ---- lists
drop_set : {A : Type 0} (l : List A) (i : ℕ) (v : A) → drop (suc i) (set l i v) ≡ drop (suc i) l
drop_set [] i v = refl
drop_set (x ∷ l) zero v = refl
drop_set (x ∷ l) (suc i) v = drop_set l i v

length_turned : (is : ℕ → Bool) (s : ℕ) (ws : List WritePort) → length (turned_from is s ws) ≡ length ws
length_turned is s [] = refl
length_turned is s (w ∷ ws) = ap suc (length_turned is (suc s) ws)

-- port j in its turn
take_turned : (is : ℕ → Bool) (ws : List WritePort) (j s t : ℕ) (w : WritePort) (qs : List WritePort) → j < length ws → t ≡ s + j
    → take j (turned_from is s ws) ++ (turned_by (is t) w ∷ qs) ≡ take (suc j) (turned_from is s (set ws j w)) ++ qs
take_turned is [] j s t w qs h e = absurd (omega arith)
take_turned is (x ∷ ws) zero s t w qs h e = ap (λ (n : ℕ). turned_by (is n) w ∷ qs) (let z : t ≡ s = omega arith in z)
take_turned is (x ∷ ws) (suc j) s t w qs h e = ap (λ (l : List WritePort). turned_by (is s) x ∷ l) (take_turned is ws j (suc s) t w qs (omega arith) (omega arith))

pub record Going (m : Memory) (allX : Bool) (nets₀ : List ℕ) (l₀ : Lent) (j : ℕ) (nets : List ℕ) (l : Lent) : Type 0 where
  pub size : length nets ≡ length nets₀
  pub left : drop j (writes_of m nets) ≡ drop j (writes_of m nets₀)
  pub count : length (writes_of m nets) ≡ length (writes_of m nets₀)
  pub reads : (trits : List ℕ) → (memory_of m nets trits).reads ≡ (memory_of m nets₀ trits).reads
  pub pend : (x y : List ℕ) (l' : Lent) (qs : List WritePort) → Gave (delays (is_read m x y) allX j (drop j (writes_of m nets₀))) l l' qs
      → Gave (delays (is_read m x y) allX 0 (writes_of m nets₀)) l₀ l' (take j (turned_from (is_read m x y) 0 (writes_of m nets)) ++ qs)

pub starts : (m : Memory) (allX : Bool) (nets : List ℕ) (l : Lent) → Going m allX nets l 0 nets l
starts m allX nets l = record { size = refl; left = refl; count = refl; reads = λ trits. refl; pend = λ x y l' qs g. g }

drop_next : (a b : List WritePort) (j : ℕ) → drop j a ≡ drop j b → drop (suc j) a ≡ drop (suc j) b
drop_next a b j e = ap (λ (n : ℕ). drop n a) (add_one' j) ∙ sym (drop-drop 1 j a) ∙ ap (drop 1) e ∙ drop-drop 1 j b ∙ ap (λ (n : ℕ). drop n b) (sym (add_one' j))
  where
    add_one' : (n : ℕ) → suc n ≡ n + 1
    add_one' n = omega arith

module _ (m : Memory) (allX : Bool) (nets₀ : List ℕ) (l₀ : Lent) (j : ℕ) (nets nets' : List ℕ) (l l1 : Lent) (g : Going m allX nets₀ l₀ j nets l) (p : PortDone m allX j nets nets' l l1)
    (h : j < length (writes_of m nets₀)) where
  abbrev W : List WritePort
  W = writes_of m nets₀

  writes_after : writes_of m nets' ≡ set (writes_of m nets) j (port_at m nets' j)
  unfolding memory_of
  writes_after = ap (λ (x : Mem). x.writes) (p.kept [])

  head_same : (a b : List WritePort) → j < length a → j < length b → drop j a ≡ drop j b → get_or a j no_write_of ≡ get_or b j no_write_of
  head_same a b x y e = ap (λ (ws : List WritePort). get_or ws 0 no_write_of) (sym (drop-cons a j no_write_of x) ∙ e ∙ drop-cons b j no_write_of y)

  own_is : port_at m nets j ≡ get_or W j no_write_of
  own_is = head_same (writes_of m nets) W (omega (arith, g.count)) h g.left

  drop_is : drop j W ≡ port_at m nets j ∷ drop (suc j) W
  drop_is = drop-cons W j no_write_of h ∙ ap (λ (w : WritePort). w ∷ drop (suc j) W) (sym own_is)

  module _ (x y : List ℕ) (l' : Lent) (qs : List WritePort) where
    abbrev is : ℕ → Bool
    is = is_read m x y

    step : Gave (delays is allX (suc j) (drop (suc j) W)) l1 l' qs → Gave (delays is allX j (port_at m nets j ∷ drop (suc j) W)) l l' (turned_by (is j) (port_at m nets' j) ∷ qs)
    unfolding delays
    step r =
        gave_bind (when is j then delayed allX (port_at m nets j) else done (port_at m nets j)) _ l l1 l' (turned_by (is j) (port_at m nets' j)) _ (chains_step (is j) allX (port_at m nets j)) (p.gave x y)
        (gave_same (delays is allX (suc j) (drop (suc j) W)) (λ vs. turned_by (is j) (port_at m nets' j) ∷ vs) l1 l' qs (chains_delays is allX (suc j) (drop (suc j) W)) r)

    next : Gave (delays is allX (suc j) (drop (suc j) W)) l1 l' qs → Gave (delays is allX 0 W) l₀ l' (take (suc j) (turned_from is 0 (writes_of m nets')) ++ qs)
    next r =
        subst (λ (vs : List WritePort). Gave (delays is allX 0 W) l₀ l' vs)
        (take_turned is (writes_of m nets) j 0 j (port_at m nets' j) qs (omega (arith, g.count)) (omega arith) ∙ ap (λ (ws : List WritePort). take (suc j) (turned_from is 0 ws) ++ qs) (sym writes_after))
        (g.pend x y l' (turned_by (is j) (port_at m nets' j) ∷ qs) (subst (λ (ws : List WritePort). Gave (delays is allX j ws) l l' (turned_by (is j) (port_at m nets' j) ∷ qs)) (sym drop_is) (step r)))

  going_suc : Going m allX nets₀ l₀ (suc j) nets' l1
  going_suc = record {
    size = p.size ∙ g.size;
    left = ap (drop (suc j)) writes_after ∙ drop_set (writes_of m nets) j (port_at m nets' j) ∙ drop_next (writes_of m nets) W j g.left;
    count = ap length writes_after ∙ length-set (writes_of m nets) j (port_at m nets' j) ∙ g.count;
    reads = λ trits. ap (λ (x : Mem). x.reads) (p.kept trits) ∙ g.reads trits;
    pend = next;
  }

  pub turned : Going m allX nets₀ l₀ (j + 1) nets' l1
  turned = subst (λ (n : ℕ). Going m allX nets₀ l₀ n nets' l1) (sym (add-one j)) going_suc

module _ (m : Memory) (allX : Bool) (nets₀ : List ℕ) (l₀ : Lent) (j : ℕ) (nets : List ℕ) (l : Lent) (g : Going m allX nets₀ l₀ j nets l) where
  -- what a port in its turn has
  pub going_fit : Fitting (writes_of m nets₀) → j < length (writes_of m nets₀) → Delayable (length (port_at m nets j).addr) (length (port_at m nets j).bits) (length (port_at m nets j).mask)
  going_fit f h =
      subst (λ (w : WritePort). Delayable (length w.addr) (length w.bits) (length w.mask))
      (ap (λ (ws : List WritePort). get_or ws 0 no_write_of) (sym (drop-cons (writes_of m nets₀) j no_write_of h) ∙ sym g.left ∙ drop-cons (writes_of m nets) j no_write_of (omega (arith, g.count))))
      (f j h)

  none_left : (is : ℕ → Bool) (ws : List WritePort) → ws ≡ [] → Gave (delays is allX j ws) l l []
  unfolding delays
  none_left is ws e = subst (λ (vs : List WritePort). Gave (delays is allX j vs) l l []) (sym e) (gave_done [] l)

  pub going_ends : length (writes_of m nets₀) ≤ j → PortsDone m allX nets₀ nets l₀ l
  going_ends h = record {
    gave = λ x y.
        let is = is_read m x y in
        subst (λ (vs : List WritePort). Gave (delays is allX 0 (writes_of m nets₀)) l₀ l vs)
        (append-nil (take j (turned_from is 0 (writes_of m nets))) ∙ take_all j (turned_from is 0 (writes_of m nets)) (omega (arith, length_turned is 0 (writes_of m nets), g.count)))
        (g.pend x y l [] (none_left is (drop j (writes_of m nets₀)) (drop_of_length-le (writes_of m nets₀) h)));
    kept = g.reads;
    size = g.size;
  }
