-- The ports of the rules by new wide logs of 0: none is wide, and a read port's outputs are fresh nets in order.
use mathlib.Core.Path.{◌≡◌, refl, sym, ap, ◌∙◌, subst}
use Prim.Native.Nat.{ℕ, ◌+◌, ◌*◌, ◌^◌, ◌≤◌}
use native.Mathlib.Nat.{one-mul}
use native.Mathlib.Omega.{arith}
use mathlib.Core.List.{List, [], ◌∷◌, map}
use lib.ListN.{take, drop}
use Rattle.lists.specs.Lists.{up_from}
use Rattle.rules.specs.Value.{Value}
use Rattle.rules.specs.Cell.{WritePort, ReadPort, Mem, write_wide_log2, read_wide_log2}
use Rattle.rules.specs.Log.{◌>>=◌, ◌>>◌, done}
use Rattle.rules.specs.Geometry.{Layout, columns}
use Rattle.rules.specs.Swizzle.{Split, split_by, split_addr, add_voids, WideWrite, swizzle_write, swizzle_writes, WideRead, swizzle_read, swizzle_reads}
use Rattle.rules.specs.Beside.Counts.{plus, times_count, void_count, read_count_of}
use Rattle.swizzle_laws.proofs.Whole.{voids_up}
use Rattle.swizzle_laws.proofs.ReadCounts.{Readable, counted_read}
use Rattle.swizzle_laws.proofs.ReadsCounts.{read_split_of, Readables, counted_reads}

abbrev pub no_wides : {A : Type 0} → List A → List ℕ
no_wides {A = A} l = map (λ (a : A). 0) l

-- ---- write ports
new_is : (q : Layout) (old : ℕ) (addr : Value) → (split_addr q old 0 addr).new ≡ 0
unfolding split_addr split_by
new_is q old addr = refl

write_split : (q : Layout) (s : Split) (p : WritePort) (n : ℕ) → (swizzle_write q s p n).value.split ≡ s
unfolding swizzle_write ◌>>=◌ done
write_split q s p n = refl

module _ (m : Mem) (q : Layout) where
  writes_cons : (p : WritePort) (ps : List WritePort) (n : ℕ)
      → (swizzle_writes m q (p ∷ ps) (no_wides (p ∷ ps)) n).value
      ≡ (swizzle_write q (split_addr q (write_wide_log2 m p) 0 p.addr) p n).value ∷ (swizzle_writes m q ps (no_wides ps) (swizzle_write q (split_addr q (write_wide_log2 m p) 0 p.addr) p n).next).value
  unfolding swizzle_writes ◌>>=◌ done
  writes_cons p ps n = refl

  writes_nil : (n : ℕ) → (swizzle_writes m q [] [] n).value ≡ []
  unfolding swizzle_writes done
  writes_nil n = refl

  -- no write port is wide
  pub writes_new : (ps : List WritePort) (n : ℕ) → map (λ (x : WideWrite). x.split.new) (swizzle_writes m q ps (no_wides ps) n).value ≡ no_wides ps
  writes_new [] n = ap (map (λ (x : WideWrite). x.split.new)) (writes_nil n)
  writes_new (p ∷ ps) n =
      let s = split_addr q (write_wide_log2 m p) 0 p.addr in
      ap (map (λ (x : WideWrite). x.split.new)) (writes_cons p ps n)
      ∙ (λ i. (ap (λ (y : Split). y.new) (write_split q s p n) ∙ new_is q (write_wide_log2 m p) p.addr) i ∷ writes_new ps (swizzle_write q s p n).next i)

-- ---- read ports
-- not wide, and its outputs are as many nets as there are columns, in order and below `top`
pub record Fresh (q : Layout) (top : ℕ) (x : WideRead) : Type 0 where
  pub new_none : x.split.new ≡ 0
  pub first : ℕ
  pub nets_are : x.output ≡ up_from first (columns q)
  pub below : first + columns q ≤ top

unfoldable pub AllFresh : Layout → ℕ → List WideRead → Type 0
AllFresh q top [] = Unit
AllFresh q top (x ∷ xs) = Fresh q top x × AllFresh q top xs

read_split : (q : Layout) (s : Split) (p : ReadPort) (output : Value) (n : ℕ) → (swizzle_read q s p output n).value.split ≡ s
unfolding swizzle_read ◌>>=◌ ◌>>◌ done
read_split q s p output n = refl

read_nets_lem : (q : Layout) (s : Split) (p : ReadPort) (output : Value) (n : ℕ) → (swizzle_read q s p output n).value.output ≡ (add_voids (2 ^ s.new) (columns q) n).value
unfolding swizzle_read ◌>>=◌ ◌>>◌ done
read_nets_lem q s p output n = refl

count_most : (q : Layout) (s : Split) (p : ReadPort) → 2 ^ s.new * columns q ≤ (read_count_of q s p).nets
unfolding read_count_of plus times_count void_count
count_most q s p = omega arith

module _ (q : Layout) (s : Split) (p : ReadPort) (output : Value) (new : s.new ≡ 0) (r : Readable q s p output) (top n : ℕ) (h : (swizzle_read q s p output n).next ≤ top) where
  all-columns : 2 ^ s.new * columns q ≡ columns q
  all-columns = ap (λ (k : ℕ). 2 ^ k * columns q) new ∙ one-mul (columns q)

  fresh_read : Fresh q top (swizzle_read q s p output n).value
  fresh_read = record {
    new_none = ap (λ (y : Split). y.new) (read_split q s p output n) ∙ new;
    first = n;
    nets_are = read_nets_lem q s p output n ∙ voids_up (2 ^ s.new) (columns q) n ∙ ap (up_from n) all-columns;
    below = omega (arith, h, (counted_read q s p output r).nets n, count_most q s p, all-columns);
  }

module _ (m : Mem) (q : Layout) where
  abbrev split : ReadPort → Split
  split p = read_split_of m q p 0

  reads_value : (p : ReadPort) (ps : List ReadPort) (output : Value) (n : ℕ)
      → (swizzle_reads m q (p ∷ ps) (no_wides (p ∷ ps)) output n).value
      ≡ (swizzle_read q (split p) p (take p.data_len output) n).value
      ∷ (swizzle_reads m q ps (no_wides ps) (drop p.data_len output) (swizzle_read q (split p) p (take p.data_len output) n).next).value
  unfolding swizzle_reads ◌>>=◌ done
  reads_value p ps output n = refl

  reads_next : (p : ReadPort) (ps : List ReadPort) (output : Value) (n : ℕ)
      → (swizzle_reads m q (p ∷ ps) (no_wides (p ∷ ps)) output n).next
      ≡ (swizzle_reads m q ps (no_wides ps) (drop p.data_len output) (swizzle_read q (split p) p (take p.data_len output) n).next).next
  unfolding swizzle_reads ◌>>=◌ done
  reads_next p ps output n = refl

  reads_nil : (output : Value) (n : ℕ) → (swizzle_reads m q [] [] output n).value ≡ []
  unfolding swizzle_reads done
  reads_nil output n = refl

  fresh_nil : (top : ℕ) → AllFresh q top []
  unfolding AllFresh
  fresh_nil top = tt

  fresh_cons : (top : ℕ) (x : WideRead) (xs : List WideRead) → Fresh q top x → AllFresh q top xs → AllFresh q top (x ∷ xs)
  unfolding AllFresh
  fresh_cons top x xs f fs = (f, fs)

  head_of : (p : ReadPort) (ps : List ReadPort) (output : Value) → Readables m q (p ∷ ps) (no_wides (p ∷ ps)) output
      → Readable q (split p) p (take p.data_len output) × Readables m q ps (no_wides ps) (drop p.data_len output)
  unfolding Readables
  head_of p ps output r = r

  -- so it is with every read port
  pub reads_fresh : (ps : List ReadPort) (output : Value) (n top : ℕ) → Readables m q ps (no_wides ps) output → (swizzle_reads m q ps (no_wides ps) output n).next ≤ top
      → AllFresh q top (swizzle_reads m q ps (no_wides ps) output n).value
  reads_fresh [] output n top r h = subst (AllFresh q top) (sym (reads_nil output n)) (fresh_nil top)
  reads_fresh (p ∷ ps) output n top r h =
      let a = head_of p ps output r in
      let x = swizzle_read q (split p) p (take p.data_len output) in
      let rest = swizzle_reads m q ps (no_wides ps) (drop p.data_len output) in
      let k : (rest (x n).next).next ≤ top = subst (λ (j : ℕ). j ≤ top) (reads_next p ps output n) h in
      let c = (counted_reads m q ps (no_wides ps) (drop p.data_len output) a.1).nets (x n).next in
      subst (AllFresh q top) (sym (reads_value p ps output n))
      (fresh_cons top (x n).value (rest (x n).next).value
      (fresh_read q (split p) p (take p.data_len output) (new_is q (read_wide_log2 m p) p.addr) a.0 top n (omega (arith, k, c)))
      (reads_fresh ps (drop p.data_len output) (x n).next top a.1 k))
