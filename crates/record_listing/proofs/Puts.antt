-- Text put in pieces.
use mathlib.Core.Path.{◌≡◌, ap, ◌∙◌}
use Prim.Native.Nat.{ℕ, ◌+◌, ◌-◌}
use mathlib.Core.Logic.{◌≢◌}
use borrow.Author.Tests.{eq-eqb, ne_eqb}
use Rattle.lists.specs.Choice.{◌or_else◌}
use Rattle.rules.specs.Refusals.{record_number, header_refusal}
use Rattle.rules.specs.Beside.Stored.{lister_stored}
use native.Mathlib.Omega.{arith}
use mathlib.Core.List.{List, [], ◌∷◌, ◌++◌}
use lib.ListN.{length, take, drop, length-append, length-drop}
use lib.Seq.{sets, take_all}
use Rattle.lists.proofs.Store.{sets_at}
use Rattle.rules.specs.Record.{Sizes, size_mems, size_trits}
use Rattle.rules.specs.Lister.{head_line, memories_text, trits_text, decimal, refused_line, listed, lister}
use Rattle.record_listing.specs.declared.text.Text.{Text}
use Rattle.record_listing.specs.Put.{Put, Added}

module _ {l l1 l2 : List ℕ} {at n1 n2 : ℕ} {a b : List ℕ} where
  -- one piece after another
  pub put_then : Put l at a l1 n1 → Put l1 n1 b l2 n2 → Put l at (a ++ b) l2 n2
  put_then p q = record {
    stored = q.stored ∙ ap (λ (m : List ℕ). sets m n1 b) p.stored ∙ sets_at l at n1 a b p.place;
    place = omega (arith, p.place, q.place, length-append a b);
  }

-- the same text
module _ {l l1 : List ℕ} {at n : ℕ} {a : List ℕ} (b : List ℕ) where
  pub put_as : a ≡ b → Put l at a l1 n → Put l at b l1 n
  put_as e p = record { stored = p.stored ∙ ap (sets l at) e; place = p.place ∙ ap (λ (w : List ℕ). at + length w) e }

-- the same in the array that is lent
module _ {x y z : Text} {a b : List ℕ} where
  pub added_then : Added x a y → Added y b z → Added x (a ++ b) z
  added_then p q = record { put = put_then p.put q.put; name = q.name ∙ p.name }

module _ {x y : Text} {a : List ℕ} (b : List ℕ) where
  pub added_as : a ≡ b → Added x a y → Added x b y
  added_as e p = record { put = put_as b e p.put; name = p.name }

-- the end of an array of ten
pub all_from : (d w : List ℕ) (i : ℕ) → length d ≡ 10 → drop i d ≡ w → take (10 - i) (drop i d) ≡ w
all_from d w i e q = take_all (10 - i) (drop i d) (omega (arith, length-drop i d)) ∙ q

-- the first line
pub head_text : (s : Sizes) (m t : ℕ) → m ≡ size_mems s → t ≡ size_trits s
    → memories_text ++ decimal m ++ trits_text ++ decimal t ++ (10 ∷ []) ≡ head_line s
unfolding head_line
head_text s m t p q = rw (p, q)

-- ---- the text by the number
module _ (bytes : List ℕ) where
  pub lister_refused : (n : ℕ) → n ≡ record_number bytes → n ≢ 0 → refused_line n ≡ lister bytes
  unfolding lister
  lister_refused n e h = rw (← e, ne_eqb n 0 h)

  pub lister-listed : record_number bytes ≡ 0 → listed bytes ≡ lister bytes
  unfolding lister
  lister-listed e = rw e

  module _ (total : ℕ) where
    pub stored_whole : length bytes ≡ total → lister bytes ≡ lister_stored bytes total
    unfolding lister_stored
    stored_whole e = rw (eq-eqb (length bytes) total e)

    pub stored_part : (n : ℕ) → length bytes ≢ total → n ≡ (header_refusal bytes total or_else 16) → refused_line n ≡ lister_stored bytes total
    unfolding lister_stored
    stored_part n h e = rw (ne_eqb (length bytes) total h) (ap refused_line e)
