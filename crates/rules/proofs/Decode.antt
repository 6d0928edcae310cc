-- A log read back is the log: the entry at the front of an entry's words is that entry, and words that are read as an entry are its words.
use mathlib.Core.Path.{◌≡◌, refl, sym, ap, ◌∙◌}
use Prim.Native.Nat.{ℕ, zero, suc, ◌+◌, ◌/◌, ◌≤◌}
use native.Mathlib.Omega.{arith}
use mathlib.Core.Bool.{Bool, true, false, not, ◌&&◌}
use mathlib.Core.Option.{Option, none, some}
use mathlib.Core.List.{List, [], ◌∷◌, ◌++◌, append_assoc}
use lib.ListN.{length, get_or, take, drop, length-append, take-append-drop}
use lib.Seq.{take-append_seam, drop-append_seam, take_at, drop_at}
use lib.Dec.{eqb}
use borrow.Author.Tests.{eqb-true, not-true, not-false}
use Rattle.lists.specs.Choice.{when◌then◌else◌}
use Rattle.lists.specs.Lists.{same_list, all}
use Rattle.lists.proofs.Choice.{or_false, and_true}
use Rattle.lists.proofs.Same.{same_refl, same_true}
use Rattle.rules.specs.Value.{Control, Pos, Neg, control_words}
use Rattle.rules.specs.Cell.{Controls, FlipFlop}
use Rattle.rules.specs.Log.{Entry, Void, Not, And, Or, Mux, Eq, Shl, Ushr, Dff, Replace, entry, flag, dff_operands, encode, words}
use Rattle.rules.proofs.Entries.{length_control}
use Rattle.rules.specs.Conditions.{unequal, bad_trit_lens}
use Rattle.rules.specs.Beside.Decode.{controls_words, control_at, controls_from, flip_flop_from, first_half, second_half, entry_from, formed, decode, before, read_on, decode_by, decode_all}

-- an entry whose words are these is read back, where its operands make it
read_back : (e : Entry) (kind width first : ℕ) (ops rest : List ℕ) → encode e ≡ entry kind width first ops → entry_from kind width first ops ≡ e → formed e ≡ true
    → decode (encode e ++ rest) ≡ some (e, rest)
unfolding decode entry
read_back e kind width first ops rest w m f =
    ap (λ (l : List ℕ). decode (l ++ rest)) w
    ∙ rw (take-append_seam ops rest, drop-append_seam ops rest, m, f, w, same_refl (kind ∷ width ∷ first ∷ length ops ∷ ops))

-- ---- the operands of each kind make the entry
equal : (a b : List ℕ) → not (unequal a b) ≡ true → length a ≡ length b
unfolding unequal
equal a b e = eqb-true (length a) (length b) (not_not (eqb (length a) (length b)) e)
  where
    not_not : (t : Bool) → not (not t) ≡ true → t ≡ true
    not_not true h = h
    not_not false h = h

half : (n : ℕ) → (n + n) / 2 ≡ n
half n = omega arith

half_length : (a b : List ℕ) → length a ≡ length b → length a ≡ length (a ++ b) / 2
half_length a b e =
    sym (ap (λ (n : ℕ). n / 2) (length-append a b ∙ ap (λ (n : ℕ). length a + n) (sym e)) ∙ half (length a))

first_half_lem : (a b : List ℕ) → length a ≡ length b → first_half (a ++ b) ≡ a
unfolding first_half
first_half_lem a b e = take_at a b (length (a ++ b) / 2) (half_length a b e)

second_half_lem : (a b : List ℕ) → length a ≡ length b → second_half (a ++ b) ≡ b
unfolding second_half
second_half_lem a b e = drop_at a b (length (a ++ b) / 2) (half_length a b e)

control_back : (c : Control) (l : List ℕ) → control_at (control_words c ++ l) 0 ≡ c
unfolding control_at control_words
control_back (Pos n) l = refl
control_back (Neg n) l = refl

control_next : (c : Control) (l : List ℕ) (i : ℕ) → control_at (control_words c ++ l) (suc (suc i)) ≡ control_at l i
unfolding control_at control_words
control_next (Pos n) l i = refl
control_next (Neg n) l i = refl

flag_back : (b : Bool) → eqb (flag b) 1 ≡ b
unfolding flag
flag_back true = refl
flag_back false = refl

past_control : (c : Control) (l : List ℕ) (i : ℕ) → get_or (control_words c ++ l) (suc (suc i)) 0 ≡ get_or l i 0
unfolding control_words
past_control (Pos n) l i = refl
past_control (Neg n) l i = refl

drop_control : (c : Control) (l : List ℕ) (i : ℕ) → drop (suc (suc i)) (control_words c ++ l) ≡ drop i l
unfolding control_words
drop_control (Pos n) l i = refl
drop_control (Neg n) l i = refl

-- the nine words of the controls, before any others
abbrev nine : Controls → List ℕ → List ℕ
nine c l = control_words c.clock ++ (control_words c.clear ++ (control_words c.reset ++ (control_words c.enable ++ (flag c.reset_over_enable ∷ l))))

controls_back : (c : Controls) (l : List ℕ) → controls_from (nine c l) ≡ c
unfolding controls_from
controls_back c l = λ i. record { clock = ck i; clear = cl i; reset = rs i; enable = en i; reset_over_enable = ro i }
  where
    ck : control_at (nine c l) 0 ≡ c.clock
    ck = control_back c.clock _

    cl : control_at (nine c l) 2 ≡ c.clear
    cl = control_next c.clock _ 0 ∙ control_back c.clear _

    rs : control_at (nine c l) 4 ≡ c.reset
    rs = control_next c.clock _ 2 ∙ control_next c.clear _ 0 ∙ control_back c.reset _

    en : control_at (nine c l) 6 ≡ c.enable
    en = control_next c.clock _ 4 ∙ control_next c.clear _ 2 ∙ control_next c.reset _ 0 ∙ control_back c.enable _

    ro : eqb (get_or (nine c l) 8 0) 1 ≡ c.reset_over_enable
    ro =
        ap (λ (n : ℕ). eqb n 1) (past_control c.clock _ 6 ∙ past_control c.clear _ 4 ∙ past_control c.reset _ 2 ∙ past_control c.enable _ 0)
        ∙ flag_back c.reset_over_enable

drop_nine : (c : Controls) (l : List ℕ) → drop 9 (nine c l) ≡ l
drop_nine c l = drop_control c.clock _ 7 ∙ drop_control c.clear _ 5 ∙ drop_control c.reset _ 3 ∙ drop_control c.enable _ 1

nine_words : (c : Controls) (l : List ℕ) → controls_words c ++ l ≡ nine c l
unfolding controls_words
nine_words c l = simp append_assoc

pub length_controls : (c : Controls) → length (controls_words c) ≡ 9
unfolding controls_words
length_controls c = simp (length-append, length_control) refl

-- a flip-flop's operands: data, the words of the controls, and the trits
pub operands_right : (f : FlipFlop) → dff_operands f ≡ f.bits ++ (controls_words f.controls ++ (f.clear_value ++ (f.reset_value ++ f.init_value)))
unfolding dff_operands controls_words
operands_right f = simp append_assoc

operands_nine : (f : FlipFlop) → dff_operands f ≡ f.bits ++ nine f.controls (f.clear_value ++ (f.reset_value ++ f.init_value))
operands_nine f = operands_right f ∙ ap (λ (l : List ℕ). f.bits ++ l) (nine_words f.controls (f.clear_value ++ (f.reset_value ++ f.init_value)))

module _ (w : ℕ) (f : FlipFlop) (b : length f.bits ≡ w) (c : length f.clear_value ≡ w) (r : length f.reset_value ≡ w) where
  flip_flop_back : flip_flop_from w (dff_operands f) ≡ f
  unfolding flip_flop_from
  flip_flop_back =
      let t = f.clear_value ++ (f.reset_value ++ f.init_value) in
      rw (operands_nine f, take_at f.bits (nine f.controls t) w b, drop_at f.bits (nine f.controls t) w b, controls_back f.controls t, drop_nine f.controls t, take_at f.clear_value (f.reset_value ++ f.init_value) w c, drop_at f.clear_value (f.reset_value ++ f.init_value) w c, take_at f.reset_value f.init_value w r, drop_at f.reset_value f.init_value w r)

trit_lens : (n : ℕ) (a b c : List ℕ) → not (bad_trit_lens n a b c) ≡ true → (length a ≡ n) × (length b ≡ n)
unfolding bad_trit_lens
trit_lens n a b c e =
    let x = or_false _ _ (not-true _ e) in
    (eqb-true (length a) n (not-false _ x.0), eqb-true (length b) n (not-false _ (or_false _ _ x.1).0))

-- ---- the law
-- an entry whose values are equally long is read back from its words, whatever follows
pub decode-encode : (e : Entry) (rest : List ℕ) → formed e ≡ true → decode (encode e ++ rest) ≡ some (e, rest)
unfolding encode entry_from formed
decode-encode (Void first w) rest h = read_back (Void first w) 1 w first [] rest refl refl refl
decode-encode (Not first a) rest h = read_back (Not first a) 2 (length a) first a rest refl refl refl
decode-encode (And first a b) rest h = read_back (And first a b) 3 (length a) first (a ++ b) rest refl (rw (take-append_seam a b, drop-append_seam a b)) h
decode-encode (Or first a b) rest h = read_back (Or first a b) 4 (length a) first (a ++ b) rest refl (rw (take-append_seam a b, drop-append_seam a b)) h
decode-encode (Mux first s a b) rest h = read_back (Mux first s a b) 5 (length a) first (s ∷ a ++ b) rest refl (rw (take-append_seam a b, drop-append_seam a b)) h
decode-encode (Eq first a b) rest h = read_back (Eq first a b) 6 1 first (a ++ b) rest refl (rw (first_half_lem a b (equal a b h), second_half_lem a b (equal a b h))) h
decode-encode (Shl first stride s a) rest h = read_back (Shl first stride s a) 7 (length a) first (stride ∷ length s ∷ s ++ a) rest refl (rw (take-append_seam s a, drop-append_seam s a)) refl
decode-encode (Ushr first stride s a) rest h = read_back (Ushr first stride s a) 8 (length a) first (stride ∷ length s ∷ s ++ a) rest refl (rw (take-append_seam s a, drop-append_seam s a)) refl
decode-encode (Dff first f) rest h =
    let l = trit_lens (length f.bits) f.clear_value f.reset_value f.init_value h in
    read_back (Dff first f) 9 (length f.bits) first (dff_operands f) rest refl (ap (Dff first) (flip_flop_back (length f.bits) f refl l.0 l.1)) h
decode-encode (Replace from to) rest h = read_back (Replace from to) 10 0 0 (from ++ to) rest refl (rw (first_half_lem from to (equal from to h), second_half_lem from to (equal from to h))) h

-- the other way: words that are read as an entry are its words, and its values are equally long
decode_if : (t u : Bool) (p q : Entry × List ℕ) (l : List ℕ) → (u ≡ true → l ≡ encode p.0 ++ p.1) → (t ≡ true → formed p.0 ≡ true)
    → (when t && u then some p else none) ≡ some q → (l ≡ encode q.0 ++ q.1) × (formed q.0 ≡ true)
decode_if true true p q l f g e =
    let x : p ≡ q = cc in
    (rw (← x) (f refl), rw (← x) (g refl))
decode_if true false p q l f g e = let z : ◌≡◌ {A = ℕ} 0 1 = cc in absurd (omega arith)
decode_if false u p q l f g e = let z : ◌≡◌ {A = ℕ} 0 1 = cc in absurd (omega arith)

pub encode-decode : (l : List ℕ) (e : Entry) (rest : List ℕ) → decode l ≡ some (e, rest) → (l ≡ encode e ++ rest) × (formed e ≡ true)
unfolding decode
encode-decode l e rest q =
    let n = get_or l 3 0 in
    let x = entry_from (get_or l 0 0) (get_or l 1 0) (get_or l 2 0) (take n (drop 4 l)) in
    decode_if (formed x) (same_list (encode x) (take 4 l ++ take n (drop 4 l))) (x, drop n (drop 4 l)) (e, rest) l
    (λ s. sym (ap (λ (w : List ℕ). w ++ drop n (drop 4 l)) (same_true (encode x) (take 4 l ++ take n (drop 4 l)) s)
    ∙ append_assoc (take 4 l) (take n (drop 4 l)) (drop n (drop 4 l))
    ∙ ap (λ (w : List ℕ). take 4 l ++ w) (take-append-drop n (drop 4 l))
    ∙ take-append-drop 4 l))
    (λ t. t) q

-- ---- a whole log
-- an entry has words
encode_cons : (e : Entry) (rest : List ℕ) → (w : ℕ) × (ws : List ℕ) × (encode e ++ rest ≡ w ∷ ws)
unfolding encode entry
encode_cons (Void first w) rest = (1, _, refl)
encode_cons (Not first a) rest = (2, _, refl)
encode_cons (And first a b) rest = (3, _, refl)
encode_cons (Or first a b) rest = (4, _, refl)
encode_cons (Mux first s a b) rest = (5, _, refl)
encode_cons (Eq first a b) rest = (6, _, refl)
encode_cons (Shl first stride s a) rest = (7, _, refl)
encode_cons (Ushr first stride s a) rest = (8, _, refl)
encode_cons (Dff first f) rest = (9, _, refl)
encode_cons (Replace from to) rest = (10, _, refl)

decode_by_lem : (again : List ℕ → Option (List Entry)) (e : Entry) (rest : List ℕ) → formed e ≡ true → decode_by again (encode e ++ rest) ≡ before e (again rest)
unfolding decode_by read_on
decode_by_lem again e rest h =
    let c = encode_cons e rest in
    rw c.2 (ap (read_on again) (ap decode (sym c.2) ∙ decode-encode e rest h))

decode_none : (again : List ℕ → Option (List Entry)) → decode_by again [] ≡ some []
unfolding decode_by
decode_none again = refl

-- the words of entries whose values are equally long are read back as those entries
pub decode-words : (es : List Entry) (n : ℕ) → length es ≤ n → all formed es ≡ true → decode_all n (words es) ≡ some es
unfolding decode_all words before
decode-words [] zero h f = decode_none _
decode-words [] (suc n) h f = decode_none _
decode-words (e ∷ es) zero h f = absurd (omega arith)
decode-words (e ∷ es) (suc n) h f =
    let g = and_true (formed e) (all formed es) f in
    decode_by_lem (decode_all n) e (words es) g.0 ∙ ap (before e) (decode-words es n (omega arith) g.1)
