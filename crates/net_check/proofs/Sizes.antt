-- The sizes of a machine's memory, and its number by the tests in their order.
use mathlib.Core.Path.{◌≡◌, refl, sym, ap, ◌∙◌}
use Prim.Native.Nat.{ℕ, ◌*◌, ◌≤◌}
use native.Mathlib.Omega.{arith}
use mathlib.Core.Bool.{Bool, true, false, ◌||◌}
use mathlib.Core.List.{List}
use lib.ListN.{length}
use lib.Dec.{ltb}
use borrow.Author.Tests.{le-ltb}
use Rattle.lists.specs.Choice.{when◌then◌else◌, least}
use Rattle.rules.specs.Limits.{max_depth, max_width, max_bits, max_ports}
use Rattle.rules.specs.Conditions.{too_large, bad_shape, bad_depth, bad_nets}
use Rattle.rules.specs.Refusals.{mem_number, number_by_of}
use Rattle.net_memory.specs.declared.Memory.{Memory}
use Rattle.net_memory.specs.View.{writes_of, reads_of, memory_of}
use Rattle.net_memory.specs.Given.{too_many_ports, bad_lens, given_of}
use Rattle.net_check.proofs.Numbers.{merge}

flat : (a b c x y : Bool) → a || (b || (c || (false || false))) || (x || y) ≡ a || (b || (c || (x || y)))
flat true b c x y = refl
flat false true c x y = refl
flat false false true x y = refl
flat false false false x y = refl

-- the view has no more than eight ports of a kind
pub large_by : (m : Memory) (nets trits : List ℕ) → length (writes_of m nets) ≤ 8 → length (reads_of m nets trits) ≤ 8
    → too_large (memory_of m nets trits) || too_many_ports m
    ≡ ltb max_depth m.depth || (ltb max_width m.width || (ltb max_bits (m.depth * m.width) || (ltb max_ports m.write_count || ltb max_ports m.read_count)))
unfolding too_large memory_of too_many_ports
large_by m nets trits w r =
    (λ i. ltb max_depth m.depth || (ltb max_width m.width || (ltb max_bits (m.depth * m.width) || (le-ltb 8 _ w i || le-ltb 8 _ r i))) || (ltb max_ports m.write_count || ltb max_ports m.read_count))
    ∙ flat (ltb max_depth m.depth) (ltb max_width m.width) (ltb max_bits (m.depth * m.width)) (ltb max_ports m.write_count) (ltb max_ports m.read_count)

-- ---- the number, by the tests in the order of the code
abbrev by_tests : Bool → Bool → Bool → Bool → Bool → Bool → Bool → Bool → Bool → ℕ
by_tests large many one shape lens two depth nets four = when large || (many || one) then 1 else number_by_of (shape || (lens || two)) depth (nets || four)

number_by : (one two four : Bool) (next : ℕ) (m : Memory) (nets trits : List ℕ)
    → by_tests (too_large (memory_of m nets trits)) (too_many_ports m) one (bad_shape (memory_of m nets trits)) (bad_lens m (length nets) (length trits)) two (bad_depth (memory_of m nets trits)) (bad_nets next (memory_of m nets trits)) four
    ≡ mem_number one two four next (given_of m nets trits)
unfolding mem_number
number_by one two four next m nets trits = refl

no : {A : Type 0} → true ≡ false → A
no q = let z : ◌≡◌ {A = ℕ} 0 1 = cc in absurd (omega arith)

shape_first : (shape depth nets lens two four : Bool) → lens || two ≡ true → 2 ≡ number_by_of (shape || (lens || two)) depth (nets || four)
shape_first true depth nets lens two four e = refl
shape_first false depth nets lens two four e = sym (ap (λ (t : Bool). number_by_of t depth (nets || four)) e)

shape_last : (shape depth nets lens two four : Bool) → lens || two ≡ false → number_by_of (shape || (lens || two)) depth (nets || four) ≡ number_by_of shape depth (nets || four)
shape_last true depth nets lens two four e = refl
shape_last false depth nets lens two four e = ap (λ (t : Bool). number_by_of t depth (nets || four)) e

four_too : (shape depth nets : Bool) → least (number_by_of shape depth nets) 4 ≡ number_by_of shape depth (nets || true)
four_too shape depth nets = merge shape false depth false nets true ∙ (λ i. number_by_of (or_none shape i) (or_none depth i) (nets || true))
  where
    or_none : (a : Bool) → a || false ≡ a
    or_none true = refl
    or_none false = refl

four_not : (shape depth nets : Bool) → number_by_of shape depth nets ≡ number_by_of shape depth (nets || false)
four_not shape depth true = refl
four_not shape depth false = refl

module _ (large many one shape lens two depth nets four : Bool) where
  abbrev number : ℕ
  number = by_tests large many one shape lens two depth nets four

  one_hit : one ≡ true → 1 ≡ number
  one_hit e = sym (ap (λ (t : Bool). when large || (many || t) then 1 else number_by_of (shape || (lens || two)) depth (nets || four)) e ∙ hit large many)
    where
      hit : (a b : Bool) → (when a || (b || true) then 1 else number_by_of (shape || (lens || two)) depth (nets || four)) ≡ 1
      hit true b = refl
      hit false true = refl
      hit false false = refl

  large_hit : large || many ≡ true → 1 ≡ number
  large_hit e = on large many e
    where
      on : (a b : Bool) → a || b ≡ true → 1 ≡ (when a || (b || one) then 1 else number_by_of (shape || (lens || two)) depth (nets || four))
      on true b q = refl
      on false true q = refl
      on false false q = no (sym q)

  past : one ≡ false → large || many ≡ false → number ≡ number_by_of (shape || (lens || two)) depth (nets || four)
  past e q = ap (λ (t : Bool). when large || (many || t) then 1 else number_by_of (shape || (lens || two)) depth (nets || four)) e ∙ on large many q
    where
      on : (a b : Bool) → a || b ≡ false → (when a || (b || false) then 1 else number_by_of (shape || (lens || two)) depth (nets || four)) ≡ number_by_of (shape || (lens || two)) depth (nets || four)
      on true b q = no q
      on false true q = no q
      on false false q = refl

  two_hit : one ≡ false → large || many ≡ false → two ≡ true → 2 ≡ number
  two_hit e q h = shape_first shape depth nets lens two four (ap (λ (t : Bool). lens || t) h ∙ or_yes lens) ∙ sym (past e q)
    where
      or_yes : (a : Bool) → a || true ≡ true
      or_yes true = refl
      or_yes false = refl

  lens_hit : one ≡ false → large || many ≡ false → lens ≡ true → 2 ≡ number
  lens_hit e q h = shape_first shape depth nets lens two four (ap (λ (t : Bool). t || two) h) ∙ sym (past e q)

  module _ (e : one ≡ false) (q : large || many ≡ false) (h : two ≡ false) (l : lens ≡ false) where
    rest : number ≡ number_by_of shape depth (nets || four)
    rest = past e q ∙ shape_last shape depth nets lens two four ((λ i. l i || h i))

    with_four : (n r : ℕ) → n ≡ number_by_of shape depth nets → r ≡ least n 4 → four ≡ true → r ≡ number
    with_four n r x y z = y ∙ ap (λ (k : ℕ). least k 4) x ∙ four_too shape depth nets ∙ sym (rest ∙ ap (λ (t : Bool). number_by_of shape depth (nets || t)) z)

    without_four : (n : ℕ) → n ≡ number_by_of shape depth nets → four ≡ false → n ≡ number
    without_four n x z = x ∙ four_not shape depth nets ∙ sym (rest ∙ ap (λ (t : Bool). number_by_of shape depth (nets || t)) z)

-- ---- the same of a memory
module _ (one two four : Bool) (next : ℕ) (m : Memory) (nets trits : List ℕ) where
  abbrev whole : ℕ
  whole = mem_number one two four next (given_of m nets trits)

  abbrev L : Bool
  L = too_large (memory_of m nets trits)

  abbrev T : Bool
  T = too_many_ports m

  abbrev S : Bool
  S = bad_shape (memory_of m nets trits)

  abbrev K : Bool
  K = bad_lens m (length nets) (length trits)

  abbrev D : Bool
  D = bad_depth (memory_of m nets trits)

  abbrev N : Bool
  N = bad_nets next (memory_of m nets trits)

  pub by_one : one ≡ true → 1 ≡ whole
  by_one e = one_hit L T one S K two D N four e ∙ number_by one two four next m nets trits

  pub by_large : L || T ≡ true → 1 ≡ whole
  by_large e = large_hit L T one S K two D N four e ∙ number_by one two four next m nets trits

  module _ (a : one ≡ false) (b : L || T ≡ false) where
    pub by_two : two ≡ true → 2 ≡ whole
    by_two e = two_hit L T one S K two D N four a b e ∙ number_by one two four next m nets trits

    pub by_lens : K ≡ true → 2 ≡ whole
    by_lens e = lens_hit L T one S K two D N four a b e ∙ number_by one two four next m nets trits

    module _ (c : two ≡ false) (d : K ≡ false) (n : ℕ) (p : n ≡ number_by_of S D N) where
      pub by_four : (r : ℕ) → r ≡ least n 4 → four ≡ true → r ≡ whole
      by_four r q e = with_four L T one S K two D N four a b c d n r p q e ∙ number_by one two four next m nets trits

      pub by_parts : four ≡ false → n ≡ whole
      by_parts e = without_four L T one S K two D N four a b c d n p e ∙ number_by one two four next m nets trits
