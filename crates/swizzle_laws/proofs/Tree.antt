-- The mux tree: with as many bits as its pieces need it ends with one value, after one mux less than there are pieces.
use mathlib.Core.Path.{◌≡◌, refl, sym, ap, ◌∙◌}
use Prim.Native.Nat.{ℕ, zero, suc, ◌+◌, ◌-◌, ◌*◌, ◌/◌, ◌^◌, ◌≤◌, ◌<◌}
use native.Mathlib.Nat.{zero-mul, add-mul, pow-succ'}
use native.Mathlib.Omega.{arith}
use mathlib.Core.List.{List, [], ◌∷◌}
use lib.ListN.{length, get_or}
use Rattle.rules.specs.Value.{Value}
use Rattle.rules.specs.Log.{Trace, ◌>>=◌, done}
use Rattle.rules.specs.Beside.Chain.{Chains}
use Rattle.rules.specs.Swizzle.{pair_up, mux_tree}
use Rattle.rules.proofs.Traces.{bind_value}
use Rattle.rules.proofs.Chain.{chains_done, chains_bind}
use Rattle.rules.proofs.Counted.{Counted, counted_done}
use Rattle.swizzle_laws.specs.Cuts.{Sized}
use Rattle.swizzle_laws.proofs.Pairs.{chains_pair_up, length_pairs, sized_pairs, counted_pairs, counted_bind, counted_as}

pub chains_tree : (bits : Value) (l : List Value) → Chains (mux_tree bits l)
unfolding mux_tree
chains_tree [] l = chains_done _
chains_tree (bit ∷ bits) l = chains_bind (pair_up bit l) (mux_tree bits) (chains_pair_up bit l) (chains_tree bits)

pub tree_more : (bit : ℕ) (bits : Value) (l : List Value) → mux_tree (bit ∷ bits) l ≡ (pair_up bit l >>= mux_tree bits)
unfolding mux_tree
tree_more bit bits l = refl

pub tree_end : (l : List Value) → mux_tree [] l ≡ done (get_or l 0 [])
unfolding mux_tree
tree_end l = refl

end_value : (l : List Value) (n : ℕ) → (mux_tree [] l n).value ≡ get_or l 0 []
unfolding mux_tree done
end_value l n = refl

pub tree_value : (bit : ℕ) (bits : Value) (l : List Value) (n : ℕ) → (mux_tree (bit ∷ bits) l n).value ≡ (mux_tree bits (pair_up bit l n).value (pair_up bit l n).next).value
tree_value bit bits l n = ap (λ (t : Trace Value). (t n).value) (tree_more bit bits l) ∙ bind_value (pair_up bit l) (mux_tree bits) n

-- the value has the pieces' length
first_sized : (w : ℕ) (l : List Value) → Sized w l → 0 < length l → length (get_or l 0 []) ≡ w
unfolding Sized
first_sized w [] s h = absurd (omega arith)
first_sized w (v ∷ l) s h = s.0

pub length_tree : (w : ℕ) (bits : Value) (l : List Value) (n : ℕ) → Sized w l → 0 < length l → length (mux_tree bits l n).value ≡ w
length_tree w [] l n s h = ap length (end_value l n) ∙ first_sized w l s h
length_tree w (bit ∷ bits) l n s h =
    ap length (tree_value bit bits l n)
    ∙ length_tree w bits (pair_up bit l n).value (pair_up bit l n).next (sized_pairs bit w l n s) (omega (arith, length_pairs bit l n))

-- how many pieces are left after so many bits
unfoldable pub left_after_of : ℕ → ℕ → ℕ
left_after_of zero n = n
left_after_of (suc k) n = left_after_of k (n - n / 2)

pub left_le : (k n : ℕ) → left_after_of k n ≤ n
unfolding left_after_of
left_le zero n = omega arith
left_le (suc k) n = omega (arith, left_le k (n - n / 2))

double : (k : ℕ) → 2 ^ suc k ≡ 2 * 2 ^ k
double k = pow-succ' 2 k

pub left_one : (k n : ℕ) → 0 < n → n ≤ 2 ^ k → left_after_of k n ≡ 1
unfolding left_after_of
left_one zero n h g = omega arith
left_one (suc k) n h g = left_one k (n - n / 2) (omega arith) (halves (2 ^ k) (2 ^ suc k) (double k) g)
  where
    halves : (p q : ℕ) → q ≡ 2 * p → n ≤ q → n - n / 2 ≤ p
    halves p q e f = omega arith

-- a mux for each piece that is gone
sums : (n h r c : ℕ) → r ≤ n - h → h ≤ n → h * c + (n - h - r) * c ≡ (n - r) * c
sums n h r c f g = sym (add-mul h (n - h - r) c) ∙ ap (λ (k : ℕ). k * c) (omega arith)

level_none : (m c : ℕ) → 0 ≡ (m - left_after_of 0 m) * c
unfolding left_after_of
level_none m c = sym (zero-mul c) ∙ ap (λ (k : ℕ). k * c) (omega arith)

level_more : (m k c : ℕ) → m / 2 * c + (m - m / 2 - left_after_of k (m - m / 2)) * c ≡ (m - left_after_of (suc k) m) * c
unfolding left_after_of
level_more m k c = sums m (m / 2) (left_after_of k (m - m / 2)) c (left_le k (m - m / 2)) (omega arith)

counted_end : (l : List Value) → Counted (mux_tree [] l) 0 0
unfolding mux_tree
counted_end l = counted_done _

pub counted_levels : (w : ℕ) (bits : Value) (l : List Value) (m : ℕ) → m ≡ length l → Sized w l → Counted (mux_tree bits l) ((m - left_after_of (length bits) m) * (5 + 2 * w)) ((m - left_after_of (length bits) m) * w)
counted_levels w [] l m e s = counted_as _ _ _ _ _ (level_none m (5 + 2 * w)) (level_none m w) (counted_end l)
counted_levels w (bit ∷ bits) l m e s =
    rw (tree_more bit bits l)
    (counted_as _ _ _ _ _ (level_more m (length bits) (5 + 2 * w)) (level_more m (length bits) w)
    (counted_bind (pair_up bit l) (mux_tree bits) (m / 2 * (5 + 2 * w)) (m / 2 * w) _ _ (rw e (counted_pairs bit w l s))
    (λ n. counted_levels w bits (pair_up bit l n).value (m - m / 2) (rw e (sym (length_pairs bit l n))) (sized_pairs bit w l n s))
    (chains_tree bits)))

-- one mux less than there are pieces
pub counted_tree : (w : ℕ) (bits : Value) (l : List Value) → Sized w l → 0 < length l → length l ≤ 2 ^ length bits
    → Counted (mux_tree bits l) ((length l - 1) * (5 + 2 * w)) ((length l - 1) * w)
counted_tree w bits l s h g =
    let e : left_after_of (length bits) (length l) ≡ 1 = left_one (length bits) (length l) h g in
    rw e at (counted_levels w bits l (length l) refl s)
