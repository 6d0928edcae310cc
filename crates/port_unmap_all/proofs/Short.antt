-- 14 of all read ports: the loop over them.
use mathlib.Core.Path.{◌≡◌, refl, ap, ◌∙◌}
use native.Mathlib.Numerals.{add-one}
use Rattle.std.specs.List.{range_with_len}
use Prim.Native.Nat.{ℕ, zero, suc, ◌+◌, min}
use mathlib.Core.Bool.{Bool, ◌||◌}
use mathlib.Core.List.{List, [], ◌∷◌}
use lib.ListN.{length, get_or}
use Rattle.lists.specs.Lists.{any}
use Rattle.rules.specs.Limits.{max_ports}
use Rattle.rules.specs.Cell.{Mem, read_at_of}
use Rattle.rules.specs.Conditions.{short_port, short_ports}
use Rattle.net_memory.specs.declared.Memory.{Memory}
use Rattle.net_memory.specs.View.{memory_of, reads_of}

pub reads_are : (m : Memory) (nets trits : List ℕ) → length (reads_of m nets trits) ≡ min max_ports m.read_count → length (memory_of m nets trits).reads ≡ min max_ports m.read_count
unfolding memory_of
reads_are m nets trits e = e

-- a test of each element, by its place
any_shift : (g : ℕ → Bool) (a n : ℕ) → any g (range_with_len (a + 1) n) ≡ any (λ (i : ℕ). g (i + 1)) (range_with_len a n)
any_shift g a zero = refl
any_shift g a (suc n) = ap (λ (t : Bool). g (a + 1) || t) (any_shift g (a + 1) n)

any_places : {A : Type 0} (f : A → Bool) (d : A) (l : List A) → any (λ (i : ℕ). f (get_or l i d)) (range_with_len 0 (length l)) ≡ any f l
any_places f d [] = refl
any_places f d (x ∷ l) =
    ap (λ (t : Bool). f x || t)
    (any_shift (λ i. f (get_or (x ∷ l) i d)) 0 (length l) ∙ (λ k. any (λ (i : ℕ). f (get_or (x ∷ l) (add-one i k) d)) (range_with_len 0 (length l))) ∙ any_places f d l)

pub ports_are : (m : Mem) (n : ℕ) → n ≡ length m.reads → any (λ (i : ℕ). short_port m (read_at_of m i)) (range_with_len 0 n) ≡ short_ports m
unfolding read_at_of short_ports
ports_are m n e = ap (λ (k : ℕ). any (λ (i : ℕ). short_port m (read_at_of m i)) (range_with_len 0 k)) e ∙ any_places (short_port m) _ m.reads
