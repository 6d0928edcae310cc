-- Pieces paired by one bit: half as many, rounded up, of the same length; their words and nets.
use mathlib.Core.Path.{◌≡◌, refl, sym, ap, ◌∙◌}
use Prim.Native.Nat.{ℕ, suc, ◌+◌, ◌-◌, ◌*◌, ◌/◌}
use native.Mathlib.Nat.{zero-mul, suc-mul}
use native.Mathlib.Omega.{arith}
use mathlib.Core.List.{List, [], ◌∷◌}
use lib.ListN.{length}
use Rattle.lists.proofs.UpFrom.{length_up}
use Rattle.rules.specs.Value.{Value, Pos}
use Rattle.rules.specs.Log.{Trace, ◌>>=◌, done, add_mux_of}
use Rattle.rules.specs.Beside.Chain.{Chains}
use Rattle.rules.specs.Swizzle.{pair_up}
use Rattle.rules.proofs.Done.{done_value}
use Rattle.rules.proofs.Traces.{bind_value, bind_words, bind_next}
use Rattle.rules.proofs.Entries.{value_mux}
use Rattle.rules.proofs.Chain.{chains_done, chains_bind, chains_mux}
use Rattle.rules.proofs.Counted.{Counted, counted_done, counted_mux, counted_same}
use Rattle.swizzle_laws.specs.Cuts.{Sized}

pub chains_pair_up : (bit : ℕ) (l : List Value) → Chains (pair_up bit l)
unfolding pair_up
chains_pair_up bit [] = chains_done []
chains_pair_up bit (a ∷ []) = chains_done (a ∷ [])
chains_pair_up bit (a ∷ b ∷ l) =
    chains_bind _ _ (chains_mux (Pos bit) b a) (λ v. chains_bind _ _ (chains_pair_up bit l) (λ vs. chains_done (v ∷ vs)))

-- ---- the pairs of two pieces and more
module _ (bit : ℕ) (a b : Value) (l : List Value) where
  abbrev pub rest : Value → Trace (List Value)
  rest v = pair_up bit l >>= λ vs. done (v ∷ vs)

  pub pair_more : pair_up bit (a ∷ b ∷ l) ≡ (add_mux_of (Pos bit) b a >>= rest)
  unfolding pair_up
  pair_more = refl

  pub pair_value : (n : ℕ) → (pair_up bit (a ∷ b ∷ l) n).value ≡ (add_mux_of (Pos bit) b a n).value ∷ (pair_up bit l (add_mux_of (Pos bit) b a n).next).value
  pair_value n =
      ap (λ (t : Trace (List Value)). (t n).value) pair_more
      ∙ bind_value (add_mux_of (Pos bit) b a) rest n
      ∙ bind_value (pair_up bit l) (λ vs. done ((add_mux_of (Pos bit) b a n).value ∷ vs)) (add_mux_of (Pos bit) b a n).next
      ∙ done_value _ _

pub pair_none : (bit n : ℕ) → (pair_up bit [] n).value ≡ []
unfolding pair_up
pair_none bit n = done_value [] n

pub pair_one : (bit : ℕ) (a : Value) (n : ℕ) → (pair_up bit (a ∷ []) n).value ≡ a ∷ []
unfolding pair_up
pair_one bit a n = done_value (a ∷ []) n

-- ---- half as many, rounded up
pub length_pairs : (bit : ℕ) (l : List Value) (n : ℕ) → length (pair_up bit l n).value ≡ length l - length l / 2
length_pairs bit [] n = ap length (pair_none bit n)
length_pairs bit (a ∷ []) n = ap length (pair_one bit a n)
length_pairs bit (a ∷ b ∷ l) n = ap length (pair_value bit a b l n) ∙ omega (arith, length_pairs bit l (add_mux_of (Pos bit) b a n).next)

sized_mux : (bit w : ℕ) (a b : Value) (n : ℕ) → length a ≡ w → length b ≡ w → length (add_mux_of (Pos bit) b a n).value ≡ w
sized_mux bit w a b n ea eb = ap length (value_mux (Pos bit) b a n (eb ∙ sym ea)) ∙ length_up n (length b) ∙ eb

pub sized_pairs : (bit w : ℕ) (l : List Value) (n : ℕ) → Sized w l → Sized w (pair_up bit l n).value
unfolding Sized
sized_pairs bit w [] n s = rw (pair_none bit n) tt
sized_pairs bit w (a ∷ []) n s = rw (pair_one bit a n) s
sized_pairs bit w (a ∷ b ∷ l) n s =
    rw (pair_value bit a b l n) (sized_mux bit w a b n s.0 s.1.0, sized_pairs bit w l (add_mux_of (Pos bit) b a n).next s.1.1)

-- ---- one trace after another, counted
pub counted_bind : {A B : Type 0} (t : Trace A) (f : A → Trace B) (w k w' k' : ℕ) → Counted t w k → ((n : ℕ) → Counted (f (t n).value) w' k') → ((a : A) → Chains (f a))
    → Counted (t >>= f) (w + w') (k + k')
counted_bind t f w k w' k' c d e = record {
  words = λ n. bind_words t f n ∙ omega (arith, c.words n, (d n).words (t n).next);
  nets = λ n. bind_next t f n ∙ omega (arith, c.nets n, (d n).nets (t n).next);
  chain = chains_bind t f c.chain e;
}

-- the same number in other words
pub counted_as : {A : Type 0} (t : Trace A) (w k w' k' : ℕ) → w ≡ w' → k ≡ k' → Counted t w k → Counted t w' k'
counted_as t w k w' k' e f c = rw (← e, ← f) c

-- one mux for each pair
mux_sized : (bit w : ℕ) (a b : Value) → length a ≡ w → length b ≡ w → Counted (add_mux_of (Pos bit) b a) (5 + 2 * w) w
mux_sized bit w a b ea eb = counted_as _ _ _ _ _ (omega arith) eb (counted_mux (Pos bit) b a (eb ∙ sym ea))

more : (x n c : ℕ) → x ≡ suc n → c + n * c ≡ x * c
more x n c e = omega (arith, suc-mul n c, ap (λ (k : ℕ). k * c) e)

counted_none : (bit : ℕ) → Counted (pair_up bit []) 0 0
unfolding pair_up
counted_none bit = counted_done []

counted_one : (bit : ℕ) (a : Value) → Counted (pair_up bit (a ∷ [])) 0 0
unfolding pair_up
counted_one bit a = counted_done (a ∷ [])

pub counted_pairs : (bit w : ℕ) (l : List Value) → Sized w l → Counted (pair_up bit l) (length l / 2 * (5 + 2 * w)) (length l / 2 * w)
unfolding Sized
counted_pairs bit w [] s = counted_as _ _ _ _ _ (sym (zero-mul (5 + 2 * w))) (sym (zero-mul w)) (counted_none bit)
counted_pairs bit w (a ∷ []) s = counted_as _ _ _ _ _ (sym (zero-mul (5 + 2 * w))) (sym (zero-mul w)) (counted_one bit a)
counted_pairs bit w (a ∷ b ∷ l) s =
    let q : length (a ∷ b ∷ l) / 2 ≡ suc (length l / 2) = omega arith in
    rw (pair_more bit a b l)
    (counted_as _ _ _ _ _ (more _ _ (5 + 2 * w) q) (more _ _ w q)
    (counted_bind (add_mux_of (Pos bit) b a) (rest bit a b l) (5 + 2 * w) w _ _ (mux_sized bit w a b s.0 s.1.0)
    (λ n. counted_same (pair_up bit l) (λ vs. (add_mux_of (Pos bit) b a n).value ∷ vs) _ _ (counted_pairs bit w l s.1.1))
    (λ v. chains_bind _ _ (chains_pair_up bit l) (λ vs. chains_done (v ∷ vs)))))
