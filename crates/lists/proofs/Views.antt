-- Laws of `views`: what each thing reads, and a change of one thing's part alone.
use mathlib.Core.Path.{◌≡◌, refl, ap, ◌∙◌}
use Prim.Native.Nat.{ℕ, zero, suc, ◌+◌}
use native.Mathlib.Nat.{zero-add, add_assoc}
use mathlib.Core.List.{List, [], ◌∷◌}
use lib.ListN.{length, take, drop, get_or, set}
use lib.Seq.{drop-drop}
use Rattle.lists.specs.Lists.{sum_by, part}
use Rattle.lists.specs.Views.{views}
use Rattle.lists.proofs.Parts.{same_front, same_middle}

module _ {P A B R : Type 0} (s t : P → ℕ) (read : P → List A → List B → R) where
  pub length_views : (ps : List P) (l : List A) (m : List B) → length (views s t read ps l m) ≡ length ps
  length_views [] l m = refl
  length_views (p ∷ ps) l m = ap suc (length_views ps (drop (s p) l) (drop (t p) m))

  -- what stands at i, also past the end, where d takes no element
  pub get_d_views : (d : P) (sd : s d ≡ 0) (td : t d ≡ 0) (ps : List P) (i : ℕ) (l : List A) (m : List B)
      → get_or (views s t read ps l m) i (read d [] [])
      ≡ read (get_or ps i d) (part (sum_by s (take i ps)) (s (get_or ps i d)) l) (part (sum_by t (take i ps)) (t (get_or ps i d)) m)
  get_d_views d sd td [] zero l m = rw (sd, td)
  get_d_views d sd td [] (suc i) l m = rw (sd, td)
  get_d_views d sd td (p ∷ ps) zero l m = refl
  get_d_views d sd td (p ∷ ps) (suc i) l m =
      get_d_views d sd td ps i (drop (s p) l) (drop (t p) m)
      ∙ rw (drop-drop (sum_by s (take i ps)) (s p) l, drop-drop (sum_by t (take i ps)) (t p) m)

  -- the views go by the front of the lists alone
  pub views_front : (ps : List P) (l l' : List A) (m m' : List B)
      → take (sum_by s ps) l' ≡ take (sum_by s ps) l → take (sum_by t ps) m' ≡ take (sum_by t ps) m
      → views s t read ps l' m' ≡ views s t read ps l m
  views_front [] l l' m m' e f = refl
  views_front (p ∷ ps) l l' m m' e f =
      rw (same_front (s p) (sum_by s ps) l l' e, same_front (t p) (sum_by t ps) m m' f)
      (ap (λ (r : List R). read p (take (s p) l) (take (t p) m) ∷ r)
      (views_front ps (drop (s p) l) (drop (s p) l') (drop (t p) m) (drop (t p) m') (same_middle (s p) (sum_by s ps) l l' e) (same_middle (t p) (sum_by t ps) m m' f)))

  -- a change of the thing at i and of its elements alone, their number kept, changes the view at i alone
  pub views_set : (d p' : P) (ps : List P) (i : ℕ) (l l' : List A) (m m' : List B)
      → s p' ≡ s (get_or ps i d) → t p' ≡ t (get_or ps i d)
      → take (sum_by s (take i ps)) l' ≡ take (sum_by s (take i ps)) l
      → drop (sum_by s (take i ps) + s p') l' ≡ drop (sum_by s (take i ps) + s p') l
      → take (sum_by t (take i ps)) m' ≡ take (sum_by t (take i ps)) m
      → drop (sum_by t (take i ps) + t p') m' ≡ drop (sum_by t (take i ps) + t p') m
      → views s t read (set ps i p') l' m'
      ≡ set (views s t read ps l m) i (read p' (part (sum_by s (take i ps)) (s p') l') (part (sum_by t (take i ps)) (t p') m'))
  views_set d p' [] i l l' m m' es et a b e f = refl
  views_set d p' (p ∷ ps) zero l l' m m' es et a b e f =
      ap (λ (r : List R). read p' (take (s p') l') (take (t p') m') ∷ r)
      (rw (← es, ← et, ← zero-add (s p'), ← zero-add (t p'), b, f))
  views_set d p' (p ∷ ps) (suc i) l l' m m' es et a b e f =
      let x = sum_by s (take i ps) in
      let y = sum_by t (take i ps) in
      let b' : drop (x + s p') (drop (s p) l') ≡ drop (x + s p') (drop (s p) l) = rw (drop-drop (x + s p') (s p) l', drop-drop (x + s p') (s p) l, ← add_assoc (s p) x (s p')) b in
      let f' : drop (y + t p') (drop (t p) m') ≡ drop (y + t p') (drop (t p) m) = rw (drop-drop (y + t p') (t p) m', drop-drop (y + t p') (t p) m, ← add_assoc (t p) y (t p')) f in
      rw (same_front (s p) x l l' a, same_front (t p) y m m' e, ← drop-drop x (s p) l', ← drop-drop y (t p) m')
      (ap (λ (r : List R). read p (take (s p) l) (take (t p) m) ∷ r)
      (views_set d p' ps i (drop (s p) l) (drop (s p) l') (drop (t p) m) (drop (t p) m') es et (same_middle (s p) x l l' a) b' (same_middle (t p) y m m' e) f'))
