-- Calls of a list as the code makes them: their numbers, what they leave, and the whole answer.
use Prim.Native.Nat.{ℕ, zero, suc, ◌+◌, ◌-◌, ◌/◌, ◌≤◌, ◌<◌}
use mathlib.Core.Path.{◌≡◌, refl, sym, ap, ◌∙◌}
use mathlib.Core.Logic.{◌≢◌}
use mathlib.Core.Option.{none, some}
use mathlib.Core.List.{List, [], ◌∷◌, ◌++◌, append-nil}
use native.Mathlib.Omega.{arith}
use native.Mathlib.Numerals.{add-one}
use native.Mathlib.Nat.{min-eq_left, min-eq_right, le_of_lt}
use lib.ListN.{length, take, drop, set, drop_of_length-le, take-append-drop}
use lib.Seq.{sets, take_all, length-take-le}
use Rattle.lists.proofs.Choice.{leaves_refused, leaves_accepted}
use Rattle.rules.specs.Image.{Patch, Laid}
use Rattle.rules.specs.Refusals.{patch_refusal, lent_refusal}
use Rattle.rules.specs.Patch.{patched_by, patched_one, lent_to, called, called_all, patched}
use Rattle.rules.specs.Answers.{Filled, patch_call, call_on, patch_numbers, patched_with, patches_call}
use Rattle.image_patches.specs.Calls.{call_at, calls_from_of, calls_of, patched_to}

-- ---- a call that is lent the whole buffer, and one that is lent a part
abbrev with_room : Patch → ℕ → Patch
with_room c n = record { row = c.row; trits = c.trits; room = n }

whole_number : (l : Laid) (c : Patch) (buffer : List ℕ) → length buffer ≤ c.room → patch_refusal l (with_room c (length buffer)) ≡ patch_refusal l (lent_to (length buffer) c)
unfolding lent_to
whole_number l c buffer h = ap (λ (n : ℕ). patch_refusal l (with_room c n)) (sym (min-eq_right h))

part_number : (l : Laid) (c : Patch) (buffer : List ℕ) → c.room < length buffer → patch_refusal l (with_room c (length (take c.room buffer))) ≡ patch_refusal l (lent_to (length buffer) c)
unfolding lent_to
part_number l c buffer h = ap (λ (n : ℕ). patch_refusal l (with_room c n)) (length-take-le c.room buffer (le_of_lt h) ∙ sym (min-eq_left (le_of_lt h)))

whole_out : (l : Laid) (c : Patch) (buffer : List ℕ) → length buffer ≤ c.room → patched_one l (with_room c (length buffer)) buffer ≡ patched l (c ∷ []) buffer
unfolding patched patched_one called_all called lent_to
whole_out none c buffer h = refl
whole_out (some q) c buffer h =
    let f : ℕ → List ℕ → List ℕ = λ n t. patched_by q (with_room c n) t in
    sym ((λ k. f (min-eq_right h k) (take_all c.room buffer h k) ++ drop_of_length-le buffer h k) ∙ append-nil (f (length buffer) buffer))

part_out : (l : Laid) (c : Patch) (buffer : List ℕ) → c.room < length buffer
    → patched_one l (with_room c (length (take c.room buffer))) (take c.room buffer) ++ drop c.room buffer ≡ patched l (c ∷ []) buffer
unfolding patched patched_one called_all called lent_to
part_out none c buffer h = take-append-drop c.room buffer
part_out (some q) c buffer h =
    ap (λ (x : List ℕ). x ++ drop c.room buffer)
    (ap (λ (n : ℕ). patched_by q (with_room c n) (take c.room buffer)) (length-take-le c.room buffer (le_of_lt h) ∙ sym (min-eq_left (le_of_lt h))))

pub whole_call : (l : Laid) (c : Patch) (buffer : List ℕ) (answer : Filled) → length buffer ≤ c.room → answer ≡ patch_call l (with_room c (length buffer)) buffer → answer ≡ call_on l c buffer
unfolding patch_call call_on
whole_call l c buffer answer h e = e ∙ (λ i. record { number = whole_number l c buffer h i; out = whole_out l c buffer h i })

pub part_call : (l : Laid) (c : Patch) (buffer : List ℕ) (n : ℕ) (t : List ℕ) → c.room < length buffer
    → record { number = n; out = t } ≡ patch_call l (with_room c (length (take c.room buffer))) (take c.room buffer)
    → record { number = n; out = t ++ drop c.room buffer } ≡ call_on l c buffer
unfolding patch_call call_on
part_call l c buffer n t h e = λ i. record {
  number = (ap (λ (f : Filled). f.number) e ∙ part_number l c buffer h) i;
  out = (ap (λ (f : Filled). f.out ++ drop c.room buffer) e ∙ part_out l c buffer h) i;
}

call_out : (l : Laid) (c : Patch) (buffer after : List ℕ) (n : ℕ) → record { number = n; out = after } ≡ call_on l c buffer → after ≡ patched l (c ∷ []) buffer
unfolding call_on
call_out l c buffer after n e = ap (λ (f : Filled). f.out) e

call_number : (l : Laid) (c : Patch) (buffer after : List ℕ) (n : ℕ) → record { number = n; out = after } ≡ call_on l c buffer → n ≡ patch_refusal l (lent_to (length buffer) c)
unfolding call_on
call_number l c buffer after n e = ap (λ (f : Filled). f.number) e

-- ---- the loop over the calls
patched_cons : (l : Laid) (c : Patch) (cs : List Patch) (b : List ℕ) → patched l (c ∷ cs) b ≡ patched l cs (patched l (c ∷ []) b)
unfolding patched called_all
patched_cons none c cs b = refl
patched_cons (some q) c cs b = refl

patched_nil : (l : Laid) (b : List ℕ) → patched l [] b ≡ b
unfolding patched called_all
patched_nil none b = refl
patched_nil (some q) b = refl

calls_cons : (calls trits : List ℕ) (i n : ℕ) → calls_from_of calls trits i (suc n) ≡ call_at calls trits i ∷ calls_from_of calls trits (suc i) n
unfolding calls_from_of
calls_cons calls trits i n = refl

calls_nil : (calls trits : List ℕ) (i : ℕ) → calls_from_of calls trits i 0 ≡ []
unfolding calls_from_of
calls_nil calls trits i = refl

numbers_cons : (l : Laid) (size : ℕ) (c : Patch) (cs : List Patch) → patch_numbers l size (c ∷ cs) ≡ patch_refusal l (lent_to size c) ∷ patch_numbers l size cs
unfolding patch_numbers
numbers_cons l size c cs = refl

numbers_nil : (l : Laid) (size : ℕ) → patch_numbers l size [] ≡ []
unfolding patch_numbers
numbers_nil l size = refl

length_from : (calls trits : List ℕ) (i n : ℕ) → length (calls_from_of calls trits i n) ≡ n
unfolding calls_from_of
length_from calls trits i zero = refl
length_from calls trits i (suc n) = ap suc (length_from calls trits (suc i) n)

pub length_calls : (calls trits : List ℕ) → length (calls_of calls trits) ≡ length calls / 4
unfolding calls_of
length_calls calls trits = length_from calls trits 0 (length calls / 4)

-- the calls from number i on
cut : (calls trits : List ℕ) (i n : ℕ) → i < n → calls_from_of calls trits i (n - i) ≡ call_at calls trits i ∷ calls_from_of calls trits (i + 1) (n - (i + 1))
cut calls trits i n l =
    let m : n - i ≡ suc (n - (i + 1)) = omega arith in
    ap (calls_from_of calls trits i) m ∙ calls_cons calls trits i (n - (i + 1))
    ∙ ap (λ (j : ℕ). call_at calls trits i ∷ calls_from_of calls trits j (n - (i + 1))) (sym (add-one i))

none_left : (calls trits : List ℕ) (i n : ℕ) → n ≤ i → calls_from_of calls trits i (n - i) ≡ []
none_left calls trits i n l =
    let m : n - i ≡ 0 = omega arith in
    ap (calls_from_of calls trits i) m ∙ calls_nil calls trits i

-- one call more, and the end: the buffer
module _ (q : Laid) (calls trits : List ℕ) (i n : ℕ) where
  pub calls_again : (b b' g : List ℕ) (k : ℕ) → i < n → record { number = k; out = b' } ≡ call_on q (call_at calls trits i) b
      → patched q (calls_from_of calls trits i (n - i)) b ≡ g → patched q (calls_from_of calls trits (i + 1) (n - (i + 1))) b' ≡ g
  calls_again b b' g k l e h =
      ap (patched q (calls_from_of calls trits (i + 1) (n - (i + 1)))) (call_out q (call_at calls trits i) b b' k e)
      ∙ sym (ap (λ (x : List Patch). patched q x b) (cut calls trits i n l) ∙ patched_cons q (call_at calls trits i) (calls_from_of calls trits (i + 1) (n - (i + 1))) b) ∙ h

  pub calls_end : (b : List ℕ) → n ≤ i → patched q (calls_from_of calls trits i (n - i)) b ≡ b
  calls_end b l = ap (λ (x : List Patch). patched q x b) (none_left calls trits i n l) ∙ patched_nil q b

  -- and the numbers
  pub numbers_again : (size : ℕ) (b b' l l' g : List ℕ) (k : ℕ) → i < n → length b ≡ size → record { number = k; out = b' } ≡ call_on q (call_at calls trits i) b
      → l' ≡ set l i k → sets l i (patch_numbers q size (calls_from_of calls trits i (n - i))) ≡ g
      → sets l' (i + 1) (patch_numbers q size (calls_from_of calls trits (i + 1) (n - (i + 1)))) ≡ g
  numbers_again size b b' l l' g k z s e f h =
      let rest = patch_numbers q size (calls_from_of calls trits (i + 1) (n - (i + 1))) in
      let m : k ≡ patch_refusal q (lent_to size (call_at calls trits i)) =
      call_number q (call_at calls trits i) b b' k e ∙ ap (λ (x : ℕ). patch_refusal q (lent_to x (call_at calls trits i))) s in
      (λ j. sets ((f ∙ ap (set l i) m) j) (add-one i j) rest)
      ∙ sym (ap (λ (x : List Patch). sets l i (patch_numbers q size x)) (cut calls trits i n z)
      ∙ ap (sets l i) (numbers_cons q size (call_at calls trits i) (calls_from_of calls trits (i + 1) (n - (i + 1)))))
      ∙ h

  pub numbers_end : (size : ℕ) (l : List ℕ) → n ≤ i → sets l i (patch_numbers q size (calls_from_of calls trits i (n - i))) ≡ l
  numbers_end size l z = ap (λ (x : List Patch). sets l i (patch_numbers q size x)) (none_left calls trits i n z) ∙ ap (sets l i) (numbers_nil q size)

-- ---- the whole answer
module _ (numbers : List ℕ) (q : Laid) (cs : List Patch) (buffer begun : List ℕ) where
  pub with_refused : (n m : ℕ) → n ≡ m → n ≢ 0 → patched_to n numbers buffer ≡ patched_with m numbers q cs buffer begun
  unfolding patched_with
  with_refused n m e h =
      let g : m ≢ 0 = λ z. h (e ∙ z) in
      λ i. record {
        number = e i;
        numbers = sym (leaves_refused m numbers (sets numbers 0 (patch_numbers q (length buffer) cs)) g) i;
        image = sym (leaves_refused m buffer (patched q cs begun) g) i;
      }

  pub with_done : (m : ℕ) (stored after : List ℕ) → m ≡ 0 → stored ≡ sets numbers 0 (patch_numbers q (length buffer) cs) → after ≡ patched q cs begun
      → patched_to 0 stored after ≡ patched_with m numbers q cs buffer begun
  unfolding patched_with
  with_done m stored after e f g = λ i. record {
    number = sym e i;
    numbers = (f ∙ sym (leaves_accepted m numbers (sets numbers 0 (patch_numbers q (length buffer) cs)) e)) i;
    image = (g ∙ sym (leaves_accepted m buffer (patched q cs begun) e)) i;
  }

pub lent_is : (room : ℕ) (calls trits : List ℕ) (n : ℕ) → n ≡ lent_refusal room (length calls / 4) → n ≡ lent_refusal room (length (calls_of calls trits))
lent_is room calls trits n e = e ∙ ap (lent_refusal room) (sym (length_calls calls trits))

module _ (numbers : List ℕ) (q : Laid) (cs : List Patch) (buffer : List ℕ) where
  pub patches_refused : (n : ℕ) → n ≡ lent_refusal (length numbers) (length cs) → n ≢ 0 → patched_to n numbers buffer ≡ patches_call numbers q cs buffer
  unfolding patches_call
  patches_refused n e h = with_refused numbers q cs buffer buffer n _ e h

  pub patches_done : (n : ℕ) (stored after : List ℕ) → n ≡ lent_refusal (length numbers) (length cs) → n ≡ 0
      → stored ≡ sets numbers 0 (patch_numbers q (length buffer) cs) → after ≡ patched q cs buffer → patched_to 0 stored after ≡ patches_call numbers q cs buffer
  unfolding patches_call
  patches_done n stored after e z f g = with_done numbers q cs buffer buffer _ stored after (sym e ∙ z) f g
