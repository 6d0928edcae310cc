-- Each request as plain words and numbers: the words that it adds, how many, its result nets and the next free net after it.
use mathlib.Core.Path.{◌≡◌, refl, sym, ap, ◌∙◌}
use Prim.Native.Nat.{ℕ, ◌+◌}
use native.Mathlib.Nat.{add_comm}
use native.Mathlib.Omega.{arith}
use mathlib.Core.List.{List, [], ◌∷◌, ◌++◌, append-nil}
use lib.ListN.{length, length-append}
use lib.Seq.{sets}
use Rattle.lists.specs.Lists.{up_from}
use Rattle.lists.proofs.Store.{sets_at}
use Rattle.rules.specs.Value.{Value, Control, Pos, Neg, control_words}
use Rattle.rules.specs.Cell.{FlipFlop}
use Rattle.rules.specs.Log.{Entry, Void, Not, And, Or, Mux, Eq, Shl, Ushr, Dff, Replace, entry, dff_operands, encode, words, request, added, add_void_of, add_not_of, add_and_of, add_or_of, mux_by, add_mux_of, add_eq_of, add_shl_of, add_ushr_of, add_dff_of, replace_value_of}

pub length_entry : (k w f : ℕ) (ops : List ℕ) → length (entry k w f ops) ≡ 4 + length ops
unfolding entry
length_entry k w f ops = omega arith

-- ---- an entry stored: the head and then the operands, in one part or in two
pub stored_entry : (l : List ℕ) (i j k w f n : ℕ) (ops : List ℕ) → n ≡ length ops → j ≡ i + 4
    → sets (sets l i (k ∷ w ∷ f ∷ n ∷ [])) j ops ≡ sets l i (entry k w f ops)
unfolding entry
stored_entry l i j k w f n ops e g = rw (← e) (sets_at l i j (k ∷ w ∷ f ∷ n ∷ []) ops g)

pub stored_entry_2 : (l : List ℕ) (i j j2 k w f n : ℕ) (a b : List ℕ) → n ≡ length a + length b → j ≡ i + 4 → j2 ≡ j + length a
    → sets (sets (sets l i (k ∷ w ∷ f ∷ n ∷ [])) j a) j2 b ≡ sets l i (entry k w f (a ++ b))
stored_entry_2 l i j j2 k w f n a b e g h =
    sets_at (sets l i (k ∷ w ∷ f ∷ n ∷ [])) j j2 a b h
    ∙ stored_entry l i j k w f n (a ++ b) (e ∙ sym (length-append a b)) g

-- ---- the words of one entry
one_entry : (e : Entry) → words (e ∷ []) ≡ encode e
unfolding words
one_entry e = append-nil (encode e)

pub added-request : (e : ℕ → Entry) (w n : ℕ) → added (request e w n) ≡ encode (e n)
unfolding added request
added-request e w n = one_entry (e n)

pub added_void : (w n : ℕ) → added (add_void_of w n) ≡ entry 1 w n []
unfolding add_void_of encode
added_void w n = added-request (λ first. Void first w) w n

pub added_not : (a : Value) (n : ℕ) → added (add_not_of a n) ≡ entry 2 (length a) n a
unfolding add_not_of encode
added_not a n = added-request (λ first. Not first a) (length a) n

pub added_and : (a b : Value) (n : ℕ) → added (add_and_of a b n) ≡ entry 3 (length a) n (a ++ b)
unfolding add_and_of encode
added_and a b n = added-request (λ first. And first a b) (length a) n

pub added_or : (a b : Value) (n : ℕ) → added (add_or_of a b n) ≡ entry 4 (length a) n (a ++ b)
unfolding add_or_of encode
added_or a b n = added-request (λ first. Or first a b) (length a) n

pub added_mux : (s : ℕ) (a b : Value) (n : ℕ) → added (mux_by s a b n) ≡ entry 5 (length a) n (s ∷ a ++ b)
unfolding mux_by encode
added_mux s a b n = added-request (λ first. Mux first s a b) (length a) n

pub added_eq : (a b : Value) (n : ℕ) → added (add_eq_of a b n) ≡ entry 6 1 n (a ++ b)
unfolding added add_eq_of encode
added_eq a b n = one_entry (Eq n a b)

pub added_shl : (stride : ℕ) (s a : Value) (n : ℕ) → added (add_shl_of stride s a n) ≡ entry 7 (length a) n (stride ∷ length s ∷ s ++ a)
unfolding add_shl_of encode
added_shl stride s a n = added-request (λ first. Shl first stride s a) (length a) n

pub added_ushr : (stride : ℕ) (s a : Value) (n : ℕ) → added (add_ushr_of stride s a n) ≡ entry 8 (length a) n (stride ∷ length s ∷ s ++ a)
unfolding add_ushr_of encode
added_ushr stride s a n = added-request (λ first. Ushr first stride s a) (length a) n

pub added_dff : (f : FlipFlop) (n : ℕ) → added (add_dff_of f n) ≡ entry 9 (length f.bits) n (dff_operands f)
unfolding add_dff_of encode
added_dff f n = added-request (λ first. Dff first f) (length f.bits) n

pub added_replace : (from to : Value) (n : ℕ) → added (replace_value_of from to n) ≡ entry 10 0 0 (from ++ to)
unfolding replace_value_of encode
added_replace from to n = added-request (λ first. Replace from to) 0 n

-- ---- how many words
pub words_void : (w n : ℕ) → length (added (add_void_of w n)) ≡ 4
words_void w n = ap length (added_void w n) ∙ length_entry 1 w n []

pub words_not : (a : Value) (n : ℕ) → length (added (add_not_of a n)) ≡ 4 + length a
words_not a n = ap length (added_not a n) ∙ length_entry 2 (length a) n a

words_2 : (k w n : ℕ) (a b : Value) (l : List ℕ) → l ≡ entry k w n (a ++ b) → length l ≡ 4 + (length a + length b)
words_2 k w n a b l e = ap length e ∙ length_entry k w n (a ++ b) ∙ ap (λ (m : ℕ). 4 + m) (length-append a b)

pub words_and : (a b : Value) (n : ℕ) → length (added (add_and_of a b n)) ≡ 4 + (length a + length b)
words_and a b n = words_2 3 (length a) n a b _ (added_and a b n)

pub words_or : (a b : Value) (n : ℕ) → length (added (add_or_of a b n)) ≡ 4 + (length a + length b)
words_or a b n = words_2 4 (length a) n a b _ (added_or a b n)

pub words_eq : (a b : Value) (n : ℕ) → length (added (add_eq_of a b n)) ≡ 4 + (length a + length b)
words_eq a b n = words_2 6 1 n a b _ (added_eq a b n)

pub words_replace : (from to : Value) (n : ℕ) → length (added (replace_value_of from to n)) ≡ 4 + (length from + length to)
words_replace from to n = words_2 10 0 0 from to _ (added_replace from to n)

pub words_mux_by : (s : ℕ) (a b : Value) (n : ℕ) → length (added (mux_by s a b n)) ≡ 5 + (length a + length b)
words_mux_by s a b n = words_2 5 (length a) n (s ∷ a) b _ (added_mux s a b n) ∙ omega arith

pub words_mux : (c : Control) (a b : Value) (n : ℕ) → length (added (add_mux_of c a b n)) ≡ 5 + (length a + length b)
unfolding add_mux_of
words_mux (Pos s) a b n = words_mux_by s a b n
words_mux (Neg s) a b n = words_mux_by s b a n ∙ ap (λ (m : ℕ). 5 + m) (add_comm (length b) (length a))

pub words_shl : (stride : ℕ) (s a : Value) (n : ℕ) → length (added (add_shl_of stride s a n)) ≡ 6 + (length s + length a)
words_shl stride s a n = words_2 7 (length a) n (stride ∷ length s ∷ s) a _ (added_shl stride s a n) ∙ omega arith

pub words_ushr : (stride : ℕ) (s a : Value) (n : ℕ) → length (added (add_ushr_of stride s a n)) ≡ 6 + (length s + length a)
words_ushr stride s a n = words_2 8 (length a) n (stride ∷ length s ∷ s) a _ (added_ushr stride s a n) ∙ omega arith

pub length_control : (c : Control) → length (control_words c) ≡ 2
unfolding control_words
length_control (Pos n) = refl
length_control (Neg n) = refl

pub length_operands : (f : FlipFlop) → length (dff_operands f) ≡ length f.bits + (2 + (2 + (2 + (2 + (1 + (length f.clear_value + (length f.reset_value + length f.init_value)))))))
unfolding dff_operands
length_operands f = simp (length-append, length_control) (omega arith)

pub words_dff : (f : FlipFlop) (n : ℕ)
    → length (added (add_dff_of f n)) ≡ 13 + (length f.bits + length f.clear_value + length f.reset_value + length f.init_value)
words_dff f n = ap length (added_dff f n) ∙ length_entry 9 (length f.bits) n (dff_operands f) ∙ omega (arith, length_operands f)

-- ---- the result nets, and the next free net after
pub value_void : (w n : ℕ) → (add_void_of w n).value ≡ up_from n w
unfolding add_void_of request
value_void w n = refl

pub value_mux : (c : Control) (a b : Value) (n : ℕ) → length a ≡ length b → (add_mux_of c a b n).value ≡ up_from n (length a)
unfolding add_mux_of mux_by request
value_mux (Pos s) a b n e = refl
value_mux (Neg s) a b n e = rw e

pub value_dff : (f : FlipFlop) (n : ℕ) → (add_dff_of f n).value ≡ up_from n (length f.bits)
unfolding add_dff_of request
value_dff f n = refl

pub next_void : (w n : ℕ) → (add_void_of w n).next ≡ n + w
unfolding add_void_of request
next_void w n = refl

pub next_not : (a : Value) (n : ℕ) → (add_not_of a n).next ≡ n + length a
unfolding add_not_of request
next_not a n = refl

pub next_and : (a b : Value) (n : ℕ) → (add_and_of a b n).next ≡ n + length a
unfolding add_and_of request
next_and a b n = refl

pub next_or : (a b : Value) (n : ℕ) → (add_or_of a b n).next ≡ n + length a
unfolding add_or_of request
next_or a b n = refl

pub next_mux : (c : Control) (a b : Value) (n : ℕ) → length a ≡ length b → (add_mux_of c a b n).next ≡ n + length a
unfolding add_mux_of mux_by request
next_mux (Pos s) a b n e = refl
next_mux (Neg s) a b n e = rw e

pub next_eq : (a b : Value) (n : ℕ) → (add_eq_of a b n).next ≡ n + 1
unfolding add_eq_of
next_eq a b n = refl

pub next_shl : (stride : ℕ) (s a : Value) (n : ℕ) → (add_shl_of stride s a n).next ≡ n + length a
unfolding add_shl_of request
next_shl stride s a n = refl

pub next_ushr : (stride : ℕ) (s a : Value) (n : ℕ) → (add_ushr_of stride s a n).next ≡ n + length a
unfolding add_ushr_of request
next_ushr stride s a n = refl

pub next_dff : (f : FlipFlop) (n : ℕ) → (add_dff_of f n).next ≡ n + length f.bits
unfolding add_dff_of request
next_dff f n = refl

pub next_replace : (from to : Value) (n : ℕ) → (replace_value_of from to n).next ≡ n + 0
unfolding replace_value_of request
next_replace from to n = refl
