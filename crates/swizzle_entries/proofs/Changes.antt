-- Laws of the granularities whose masks change: a turn of the loop over the ports, and its end.
use mathlib.Core.Path.{◌≡◌, refl, sym, ap, ◌∙◌}
use Prim.Native.Nat.{ℕ, suc, ◌+◌, ◌-◌, ◌*◌, ◌/◌, ◌≤◌}
use native.Mathlib.Numerals.{add-one}
use native.Mathlib.Omega.{arith}
use mathlib.Core.Bool.{Bool, true, false}
use mathlib.Core.List.{List, [], ◌∷◌, map}
use lib.ListN.{length, drop, get_or, set}
use lib.Seq.{sets, drop-drop}
use Rattle.lists.specs.Choice.{when◌then◌else◌}
use Rattle.std.specs.List.{range_with_len}
use Rattle.lists.specs.Lists.{all, part, up_from, same_list}
use Rattle.lists.specs.Views.{views}
use Rattle.rules.specs.Limits.{X}
use Rattle.lists.proofs.Store.{part_sets}
use Rattle.rules.specs.Cell.{Mem, WritePort}
use Rattle.rules.specs.Geometry.{mask_slice, changing}
use Rattle.net_memory.specs.declared.MemoryWritePort.{MemoryWritePort}
use Rattle.net_memory.specs.View.{no_trits, write_by, write_size}
use Rattle.swizzle_entries.specs.Calls.{same_at, unchanged}
use Rattle.swizzle_entries.proofs.Slices.{all_same}

-- the masks of a port, by its nets
abbrev slice : List ℕ → ℕ → ℕ → ℕ → List ℕ
slice mask width b count = map (λ (j : ℕ). get_or mask (j * width + b) X) (up_from 0 count)

pub unchanged_by : (m : Mem) (p : WritePort) (b width count : ℕ) (mask : List ℕ) → m.width ≡ width → mask ≡ p.mask → count ≡ length p.bits / width
    → all (same_at mask width b) (range_with_len 0 count) ≡ unchanged m b p
unfolding mask_slice
unchanged_by m p b width count mask w e c =
    all_same (λ (j : ℕ). get_or mask (j * width + b) X) (λ (j : ℕ). get_or mask (j * width + (b - 1)) X) count 0
    ∙ (λ i. same_list (slice (e i) (sym w i) b ((c ∙ ap (λ (n : ℕ). length p.bits / n) (sym w)) i)) (slice (e i) (sym w i) (b - 1) ((c ∙ ap (λ (n : ℕ). length p.bits / n) (sym w)) i)))

no_more : (m : Mem) (b : ℕ) (ps : List WritePort) → changing m b ps [] ≡ []
unfolding changing
no_more m b [] = refl
no_more m b (p ∷ ps) = refl

no_ports : (m : Mem) (b : ℕ) (gs : List ℕ) → changing m b [] gs ≡ []
unfolding changing
no_ports m b gs = refl

one_port : (m : Mem) (b : ℕ) (p : WritePort) (ps : List WritePort) (g : ℕ) (gs : List ℕ) → changing m b (p ∷ ps) (g ∷ gs) ≡ (when unchanged m b p then changing m b ps gs else g ∷ changing m b ps gs)
unfolding changing
one_port m b p ps g gs = refl

kept_le : (s : Bool) (g : ℕ) (l all : List ℕ) (n : ℕ) → length l ≤ n → all ≡ (when s then l else g ∷ l) → length all ≤ suc n
kept_le true g l all n h e = omega (arith, ap length e)
kept_le false g l all n h e = omega (arith, ap length e)

pub changing_le : (m : Mem) (b : ℕ) (ps : List WritePort) (gs : List ℕ) → length (changing m b ps gs) ≤ length ps
changing_le m b [] gs = omega (arith, ap length (no_ports m b gs))
changing_le m b (p ∷ ps) [] = omega (arith, ap length (no_more m b (p ∷ ps)))
changing_le m b (p ∷ ps) (g ∷ gs) = kept_le (unchanged m b p) g (changing m b ps gs) (changing m b (p ∷ ps) (g ∷ gs)) (length ps) (changing_le m b ps gs) (one_port m b p ps g gs)

-- what the ports that are left keep, whose nets run from `at` on
abbrev pub left : Mem → ℕ → List ℕ → List MemoryWritePort → ℕ → List ℕ → List ℕ
left m b nets ps at gs = changing m b (views write_size no_trits write_by ps (drop at nets) []) gs

pub left_none : (m : Mem) (b : ℕ) (nets : List ℕ) (ps : List MemoryWritePort) (at : ℕ) (gs : List ℕ) → length ps ≡ 0 → left m b nets ps at gs ≡ []
left_none m b nets [] at gs h = no_ports m b gs
left_none m b nets (p ∷ ps) at gs h = absurd (omega arith)

pub left_over : (m : Mem) (b : ℕ) (nets : List ℕ) (ps : List MemoryWritePort) (at : ℕ) (gs : List ℕ) → length gs ≡ 0 → left m b nets ps at gs ≡ []
left_over m b nets ps at [] h = no_more m b _
left_over m b nets ps at (g ∷ gs) h = absurd (omega arith)

-- a turn: the port's granularity is kept where its mask changes
module _ (m : Mem) (b : ℕ) (nets : List ℕ) (p : MemoryWritePort) (ps ps' : List MemoryWritePort) (at at' g : ℕ) (gs gs' : List ℕ) (found r : ℕ) (s : Bool)
    (e : ps ≡ p ∷ ps') (f : gs ≡ g ∷ gs') (a : at' ≡ at + write_size p) (u : s ≡ unchanged m b (write_by p (part at (write_size p) nets) [])) (k : r ≡ (when s then found else found + 1)) where
  abbrev rest : List ℕ
  rest = left m b nets ps' at' gs'

  now : left m b nets ps at gs ≡ (when s then rest else g ∷ rest)
  now =
      let w = write_by p (part at (write_size p) nets) [] in
      rw (e, f, a, u)
      (one_port m b w (views write_size no_trits write_by ps' (drop (write_size p) (drop at nets)) []) g gs'
      ∙ ap (λ (l : List ℕ). when unchanged m b w then changing m b (views write_size no_trits write_by ps' l []) gs' else g ∷ changing m b (views write_size no_trits write_by ps' l []) gs') (drop-drop (write_size p) at nets))

  pub turn_length : (total : ℕ) → found + length (left m b nets ps at gs) ≡ total → r + length rest ≡ total
  turn_length total q = on s k now
    where
      on : (t : Bool) → r ≡ (when t then found else found + 1) → left m b nets ps at gs ≡ (when t then rest else g ∷ rest) → r + length rest ≡ total
      on true x y = omega (arith, ap length y)
      on false x y = omega (arith, ap length y)

  pub turn_store : (out out' all : List ℕ) → out' ≡ (when s then out else set out found g) → sets out found (left m b nets ps at gs) ≡ all → sets out' r rest ≡ all
  turn_store out out' all o q = on s k now o
    where
      on : (t : Bool) → r ≡ (when t then found else found + 1) → left m b nets ps at gs ≡ (when t then rest else g ∷ rest) → out' ≡ (when t then out else set out found g) → sets out' r rest ≡ all
      on true x y z = (λ j. sets (z j) (x j) rest) ∙ sym (ap (sets out found) y) ∙ q
      on false x y z = (λ j. sets (z j) ((x ∙ add-one found) j) rest) ∙ sym (ap (sets out found) y) ∙ q

-- what was stored first
pub kept-part : (out out' l : List ℕ) (n : ℕ) → out' ≡ sets out 0 l → n ≡ length l → length l ≤ length out → part 0 n out' ≡ l
kept-part out out' l n e q h =
    (λ i. part 0 (q i) (e i)) ∙ part_sets out 0 l (omega arith)
