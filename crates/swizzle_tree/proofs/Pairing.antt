-- One level of the tree in lent scratch: what is left from a place on gives the whole.
use mathlib.Core.Path.{◌≡◌, refl, sym, ap, ◌∙◌}
use Prim.Native.Nat.{ℕ, suc, ◌+◌, ◌-◌, ◌*◌, ◌<◌, ◌≤◌}
use native.Mathlib.Nat.{one-mul, suc-mul}
use native.Mathlib.Omega.{arith}
use mathlib.Core.Bool.{Bool, true, false}
use mathlib.Core.List.{List, [], ◌∷◌, append-nil}
use lib.ListN.{length, take, drop, length-drop}
use lib.Seq.{sets, drop-drop}
use Rattle.lists.specs.Lists.{part, up_from}
use Rattle.lists.proofs.Store.{sets_append, drop_sets}
use Rattle.lists.proofs.Parts.{same_back, length_part}
use Rattle.lists.proofs.UpFrom.{length_up}
use Rattle.rules.specs.Value.{Value, Pos}
use Rattle.rules.specs.Log.{Trace, done, add_mux_of}
use Rattle.rules.specs.Swizzle.{pair_up}
use Rattle.rules.proofs.Done.{done_value}
use Rattle.rules.proofs.Chain.{chains_mux}
use Rattle.rules.proofs.Entries.{value_mux, next_mux}
use Rattle.log_entries.specs.Emission.{Lent, is_over, run}
use Rattle.log_entries.proofs.Emission.{run-done, run_then, run_same, run_next, run-held}
use Rattle.swizzle_laws.specs.Cuts.{cut, joined}
use Rattle.swizzle_laws.proofs.Cutting.{length_cut, sized_cut, length_joined, cut_two, joined_cons}
use Rattle.swizzle_laws.proofs.Pairs.{rest, pair_more, pair_value}
use Rattle.swizzle_tree.specs.Scratch.{results, pairs_in, Paired}

pub results_none : (over : Bool) (out : List ℕ) (to : ℕ) (v : Value) → over ≡ true → out ≡ results over out to v
unfolding results
results_none over out to v o = rw o

pub results_are : (over : Bool) (out : List ℕ) (to : ℕ) (v : Value) → over ≡ false → results over out to v ≡ sets out to v
unfolding results
results_are over out to v o = rw o

pub results_some : (over : Bool) (out after : List ℕ) (to : ℕ) (v : Value) → over ≡ false → after ≡ sets out to v → after ≡ results over out to v
unfolding results
results_some over out after to v o e = rw o e

-- what lies past the results is kept, whether they are stored or not
pub results_past : (over : Bool) (out : List ℕ) (to n : ℕ) (v : Value) → to + length v ≤ n → drop n (results over out to v) ≡ drop n out
unfolding results
results_past true out to n v h = refl
results_past false out to n v h = drop_sets n v out to h

-- ---- a mux of two pieces as the code leaves it: its nets run from the state's next free net on
module _ (bit w : ℕ) (a b : Value) (l l1 : Lent) (ea : length a ≡ w) (eb : length b ≡ w) (e : l1 ≡ run (add_mux_of (Pos bit) b a) l) (o : is_over l1.state ≡ false) where
  pub mux_next : l1.state.next ≡ (add_mux_of (Pos bit) b a l.state.next).next
  mux_next =
      ap (λ (x : Lent). x.state.next) e ∙ run_next (add_mux_of (Pos bit) b a) l (chains_mux (Pos bit) b a) (sym (ap (λ (x : Lent). is_over x.state) e) ∙ o)

  pub mux_width : l1.state.next - l.state.next ≡ w
  mux_width = omega (arith, mux_next ∙ next_mux (Pos bit) b a l.state.next (eb ∙ sym ea), eb)

  pub mux_value : (add_mux_of (Pos bit) b a l.state.next).value ≡ up_from l.state.next w
  mux_value = value_mux (Pos bit) b a l.state.next (eb ∙ sym ea) ∙ ap (up_from l.state.next) eb

-- the code's step: one mux emitted, its nets stored
module _ (bit w from to : ℕ) (p : Value) (l l1 : Lent) (fits : from + (w + w) ≤ length p)
    (e : l1 ≡ run (add_mux_of (Pos bit) (part (from + w) w p) (part from w p)) l) where
  pub pair_kept : is_over l1.state ≡ true → p ≡ results (is_over l1.state) p to (up_from l.state.next w)
  pair_kept o = results_none (is_over l1.state) p to _ o

  pub pair_stored : (p' : Value) → is_over l1.state ≡ false → p' ≡ sets p to (up_from l.state.next (l1.state.next - l.state.next))
      → p' ≡ results (is_over l1.state) p to (up_from l.state.next w)
  pair_stored p' o f =
      let n = mux_width bit w (part from w p) (part (from + w) w p) l l1 (length_part from w p (omega arith)) (length_part (from + w) w p (omega arith)) e o in
      results_some (is_over l1.state) p p' to (up_from l.state.next w) o (f ∙ ap (λ (k : ℕ). sets p to (up_from l.state.next k)) n)

-- ---- the loop of one level
pub record Going (bit w count : ℕ) (p₀ p : Value) (l₀ l : Lent) (left from to : ℕ) : Type 0 where
  pub place : from + left * w ≡ count * w
  pub twice : from ≡ to + to
  pub unread : drop from p ≡ drop from p₀
  pub whole : run (pair_up bit (cut w left (drop from p₀))) l ≡ run (pairs_in bit w count p₀) l₀
  pub value : is_over (run (pair_up bit (cut w left (drop from p₀))) l).state ≡ false
      → sets p to (joined (pair_up bit (cut w left (drop from p₀)) l.state.next).value) ≡ sets p₀ 0 (joined (pairs_in bit w count p₀ l₀.state.next).value)

pub going_starts : (bit w count left : ℕ) (p : Value) (l : Lent) → left ≡ count → Going bit w count p p l l left 0 0
going_starts bit w count left p l e = rw e (record { place = omega arith; twice = refl; unread = refl; whole = refl; value = λ o. refl })

cut_at : (w n from : ℕ) (p : Value) → cut w (suc (suc n)) (drop from p) ≡ part from w p ∷ part (from + w) w p ∷ cut w n (drop (from + (w + w)) p)
cut_at w n from p = cut_two w n (drop from p) ∙ rw (drop-drop w from p, drop-drop (w + w) from p)

same_part : (from w : ℕ) (p p₀ : Value) → drop from p ≡ drop from p₀ → part (from + w) w p ≡ part (from + w) w p₀
same_part from w p p₀ e = ap (take w) (same_back from (from + w) p₀ p (omega arith) e)

module _ (bit w count : ℕ) (p₀ p p' : Value) (l₀ l l1 : Lent) (n from to : ℕ) (g : Going bit w count p₀ p l₀ l (suc (suc n)) from to)
    (sized : length p ≡ length p₀) (fits : count * w ≤ length p₀)
    (e1 : l1 ≡ run (add_mux_of (Pos bit) (part (from + w) w p) (part from w p)) l)
    (en : p' ≡ results (is_over l1.state) p to (up_from l.state.next w)) where
  abbrev a : Value
  a = part from w p₀

  abbrev b : Value
  b = part (from + w) w p₀

  abbrev after : List Value
  after = cut w n (drop (from + (w + w)) p₀)

  abbrev t : Trace Value
  t = add_mux_of (Pos bit) b a

  room : from + (w + w) + n * w ≡ count * w
  room = omega (arith, g.place, suc-mul (suc n) w, suc-mul n w)

  pieces_are : cut w (suc (suc n)) (drop from p₀) ≡ a ∷ b ∷ after
  pieces_are = cut_at w n from p₀

  e2 : l1 ≡ run t l
  e2 = e1 ∙ ap (λ (x : Value). run (add_mux_of (Pos bit) x (part from w p)) l) (same_part from w p p₀ g.unread) ∙ ap (λ (x : Value). run (add_mux_of (Pos bit) b (take w x)) l) g.unread

  step : run (pair_up bit after) l1 ≡ run (pair_up bit (cut w (suc (suc n)) (drop from p₀))) l
  step =
      let v = (t l.state.next).value in
      sym (run_same (pair_up bit after) (λ vs. v ∷ vs) l1)
      ∙ run_then l l1 (run (rest bit a b after v) l1) t (rest bit a b after) v (chains_mux (Pos bit) b a) e2 (λ o. refl) refl
      ∙ ap (λ (u : Trace (List Value)). run u l) (sym (pair_more bit a b after))
      ∙ ap (λ (x : List Value). run (pair_up bit x) l) (sym pieces_are)

  length_a : length a ≡ w
  length_a = length_part from w p₀ (omega (arith, room))

  length_b : length b ≡ w
  length_b = length_part (from + w) w p₀ (omega (arith, room))

  stored : is_over l1.state ≡ false
      → sets p' (to + w) (joined (pair_up bit after l1.state.next).value) ≡ sets p to (joined (pair_up bit (cut w (suc (suc n)) (drop from p₀)) l.state.next).value)
  stored o =
      let m = l.state.next in
      let v = (t m).value in
      let vs = (pair_up bit after (t m).next).value in
      let q : l1.state.next ≡ (t m).next = mux_next bit w a b l l1 length_a length_b e2 o in
      let x : v ≡ up_from m w = mux_value bit w a b l l1 length_a length_b e2 o in
      let k : to + w ≡ to + length v = ap (λ (j : ℕ). to + j) (sym (ap length x ∙ length_up m w)) in
      let s : p' ≡ sets p to v = en ∙ results_are (is_over l1.state) p to (up_from m w) o ∙ ap (sets p to) (sym x) in
      ap (λ (y : Value). sets y (to + w) (joined (pair_up bit after l1.state.next).value)) s
      ∙ ap (λ (j : ℕ). sets (sets p to v) (to + w) (joined (pair_up bit after j).value)) q
      ∙ ap (λ (j : ℕ). sets (sets p to v) j (joined vs)) k
      ∙ sets_append v (joined vs) p to
      ∙ ap (sets p to) (sym (joined_cons v vs))
      ∙ ap (λ (y : List Value). sets p to (joined y)) (sym (pair_value bit a b after m))
      ∙ ap (λ (y : List Value). sets p to (joined (pair_up bit y m).value)) (sym pieces_are)

  still : drop (from + (w + w)) p' ≡ drop (from + (w + w)) p₀
  still =
      ap (drop (from + (w + w))) en
      ∙ results_past (is_over l1.state) p to (from + (w + w)) (up_from l.state.next w) (omega (arith, length_up l.state.next w, g.twice))
      ∙ same_back from (from + (w + w)) p₀ p (omega arith) g.unread

  pub turn : Going bit w count p₀ p' l₀ l1 n (from + (w + w)) (to + w)
  turn = record {
    place = room;
    twice = omega (arith, g.twice);
    unread = still;
    whole = step ∙ g.whole;
    value = λ o. stored (run-held (pair_up bit after) l1 o) ∙ g.value (sym (ap (λ (x : Lent). is_over x.state) step) ∙ o);
  }

-- ---- at most one piece is left
few_done : (bit : ℕ) (l : List Value) → length l ≤ 1 → pair_up bit l ≡ done l
unfolding pair_up
few_done bit [] h = refl
few_done bit (a ∷ []) h = refl
few_done bit (a ∷ b ∷ l) h = absurd (omega arith)

module _ (bit w count : ℕ) (p₀ p p' : Value) (l₀ l : Lent) (left from to : ℕ) (g : Going bit w count p₀ p l₀ l left from to) (h : left ≤ 1)
    (sized : length p ≡ length p₀) (fits : count * w ≤ length p₀)
    (e : p' ≡ sets p to (joined (cut w left (drop from p)))) where
  few : pair_up bit (cut w left (drop from p₀)) ≡ done (cut w left (drop from p₀))
  few = few_done bit (cut w left (drop from p₀)) (rw (length_cut w left (drop from p₀)) h)

  same : run (pair_up bit (cut w left (drop from p₀))) l ≡ l
  same = ap (λ (t : Trace (List Value)). run t l) few ∙ run-done _ l

  e' : p' ≡ sets p to (joined (cut w left (drop from p₀)))
  e' = e ∙ ap (λ (x : Value). sets p to (joined (cut w left x))) g.unread

  ends : to + length (joined (cut w left (drop from p₀))) ≤ count * w
  ends = omega (arith, length_joined w (cut w left (drop from p₀)) (sized_cut w left (drop from p₀) room), length_cut w left (drop from p₀), ap (λ (k : ℕ). k * w) (length_cut w left (drop from p₀)), g.place, g.twice)
    where
      room : left * w ≤ length (drop from p₀)
      room = omega (arith, length-drop from p₀, g.place)

  pub paired : Paired bit w count p₀ p' l₀ l
  paired = record {
    log = sym same ∙ g.whole;
    value = λ o.
        e' ∙ ap (λ (x : List Value). sets p to (joined x)) (sym (done_value (cut w left (drop from p₀)) l.state.next))
        ∙ ap (λ (t : Trace (List Value)). sets p to (joined (t l.state.next).value)) (sym few)
        ∙ g.value (ap (λ (x : Lent). is_over x.state) same ∙ o);
    kept = ap (drop (count * w)) e' ∙ drop_sets (count * w) (joined (cut w left (drop from p₀))) p to ends ∙ same_back from (count * w) p₀ p (omega (arith, g.place)) g.unread;
  }

-- ---- the piece that is left alone, or none
module _ (w left from to : ℕ) (p : Value) where
  pub alone_none : left ≡ 0 → p ≡ sets p to (joined (cut w left (drop from p)))
  unfolding joined cut
  alone_none e = rw e

  pub alone_one : (p' : Value) → left ≡ 1 → p' ≡ sets p to (part from w p) → p' ≡ sets p to (joined (cut w left (drop from p)))
  unfolding joined cut
  alone_one p' e f = rw (e, append-nil (take w (drop from p))) f

  pub alone_fits : left ≡ 1 → from + left * w ≤ length p → from + w ≤ length p
  alone_fits e h = omega (arith, ap (λ (k : ℕ). k * w) e, one-mul w)

-- ---- the loop by its own number of pieces left
module _ (bit w count : ℕ) (p₀ p : Value) (l₀ l : Lent) (left from to : ℕ) (g : Going bit w count p₀ p l₀ l left from to) where
  pub going_room : 1 < left → from + (w + w) ≤ count * w
  going_room h =
      let e : left ≡ suc (suc (left - 2)) = omega arith in
      omega (arith, g.place, ap (λ (k : ℕ). k * w) e, suc-mul (suc (left - 2)) w, suc-mul (left - 2) w)

  pub turn_down : (p' : Value) (l1 : Lent) (n : ℕ) → left ≡ suc (suc n) → length p ≡ length p₀ → count * w ≤ length p₀
      → l1 ≡ run (add_mux_of (Pos bit) (part (from + w) w p) (part from w p)) l
      → p' ≡ results (is_over l1.state) p to (up_from l.state.next w)
      → Going bit w count p₀ p' l₀ l1 n (from + (w + w)) (to + w)
  turn_down p' l1 n e sized fits e1 en = turn bit w count p₀ p p' l₀ l l1 n from to (rw e at g) sized fits e1 en

  -- as many are left as an odd count has alone
  pub going_last : (n : ℕ) → left ≡ n → Going bit w count p₀ p l₀ l n from to
  going_last n e = rw e at g
