-- The wide ports of a split with new wide logs of 0: their values have a net for each column, and a memory's part is one run of them.
use mathlib.Core.Path.{◌≡◌, refl, sym, ap, ◌∙◌}
use Prim.Native.Nat.{ℕ, zero, suc, ◌+◌, ◌*◌, ◌^◌, ◌<◌, ◌≤◌}
use native.Mathlib.Nat.{zero-mul, zero-add, one-mul, mul-le-mul_right, suc-mul}
use native.Mathlib.Omega.{arith}
use mathlib.Core.List.{List, [], ◌∷◌, map, append-nil}
use lib.ListN.{length, take, drop, length-append}
use Rattle.lists.specs.Lists.{part, up_from, concat_map}
use Rattle.lists.proofs.Parts.{length_part}
use Rattle.lists.proofs.UpFrom.{length_up}
use Rattle.rules.specs.Value.{Value}
use Rattle.rules.specs.Cell.{WritePort, ReadPort, Mem, write_wide_log2, read_wide_log2}
use Rattle.rules.specs.Log.{◌>>=◌, ◌>>◌, done}
use Rattle.rules.specs.Geometry.{Layout, all_mems, columns}
use Rattle.rules.specs.Swizzle.{Split, split_by, split_addr, new_rows, mem_part, add_voids, WideWrite, swizzle_write, swizzle_writes, write_part, WideRead, swizzle_read, swizzle_reads, read_part}
use Rattle.swizzle_laws.proofs.Whole.{bits_whole, mask_whole, voids_up}
use Rattle.fallback_counts.specs.Counts.{AllWide}

-- ---- a memory's part of one new row
module _ (q : Layout) (s : Split) (new : s.new ≡ 0) where
  part_by : (k n : ℕ) (cols : List ℕ) → k ≡ 0 → concat_map (λ r. part (r * columns q + n * q.unit) q.unit cols) (up_from 0 (2 ^ k)) ≡ part (n * q.unit) q.unit cols
  part_by k n cols e =
      ap (λ (j : ℕ). concat_map (λ r. part (r * columns q + n * q.unit) q.unit cols) (up_from 0 (2 ^ j))) e
      ∙ append-nil (part (0 * columns q + n * q.unit) q.unit cols)
      ∙ ap (λ (j : ℕ). part j q.unit cols) (ap (λ (j : ℕ). j + n * q.unit) (zero-mul (columns q)) ∙ zero-add (n * q.unit))

  pub part_is : (n : ℕ) (cols : List ℕ) → mem_part q s n cols ≡ part (n * q.unit) q.unit cols
  unfolding mem_part new_rows
  part_is n cols = part_by s.new n cols new

  part_fits : (n : ℕ) → n < all_mems q → n * q.unit + q.unit ≤ columns q
  unfolding columns
  part_fits n h = omega (arith, mul-le-mul_right {m = suc n} {n = all_mems q} q.unit h, suc-mul n q.unit)

  pub part_long : (n : ℕ) (cols : List ℕ) → n < all_mems q → length cols ≡ columns q → length (mem_part q s n cols) ≡ q.unit
  part_long n cols h e = ap length (part_is n cols) ∙ length_part (n * q.unit) q.unit cols (omega (arith, part_fits n h))

one_row : (k c : ℕ) → k ≡ 0 → 2 ^ k * c ≡ c
one_row k c e = ap (λ (j : ℕ). 2 ^ j * c) e ∙ one-mul c

-- ---- wide ports
pub record WholeWrite (q : Layout) (w : WideWrite) : Type 0 where
  pub new : w.split.new ≡ 0
  pub bits : length w.port.bits ≡ columns q
  pub mask : length w.port.mask ≡ columns q

unfoldable pub AllWrites : Layout → List WideWrite → Type 0
AllWrites q [] = Unit
AllWrites q (w ∷ ws) = WholeWrite q w × AllWrites q ws

pub record WholeRead (q : Layout) (r : WideRead) : Type 0 where
  pub new : r.split.new ≡ 0
  pub output : length r.output ≡ columns q

unfoldable pub AllReads : Layout → List WideRead → Type 0
AllReads q [] = Unit
AllReads q (r ∷ rs) = WholeRead q r × AllReads q rs

module _ (m : Mem) (q : Layout) where
  split_new : (old : ℕ) (addr : Value) → (split_addr q old 0 addr).new ≡ 0
  unfolding split_addr split_by
  split_new old addr = refl

  write_split : (s : Split) (p : WritePort) (n : ℕ) → (swizzle_write q s p n).value.split ≡ s
  unfolding swizzle_write ◌>>=◌ done
  write_split s p n = refl

  whole_write : (s : Split) (p : WritePort) (n : ℕ) → s.new ≡ 0 → WholeWrite q (swizzle_write q s p n).value
  whole_write s p n e = record {
    new = ap (λ (x : Split). x.new) (write_split s p n) ∙ e;
    bits = bits_whole q s p n ∙ one_row s.new (columns q) e;
    mask = mask_whole q s p n ∙ one_row s.new (columns q) e;
  }

  pub whole_writes : (ps : List WritePort) (n : ℕ) → AllWrites q (swizzle_writes m q ps (map (λ (p : WritePort). zero) ps) n).value
  unfolding AllWrites swizzle_writes ◌>>=◌ done
  whole_writes [] n = tt
  whole_writes (p ∷ ps) n =
      let s = split_addr q (write_wide_log2 m p) 0 p.addr in
      (whole_write s p n (split_new (write_wide_log2 m p) p.addr), whole_writes ps (swizzle_write q s p n).next)

  read_split : (s : Split) (p : ReadPort) (output : Value) (n : ℕ) → (swizzle_read q s p output n).value.split ≡ s
  unfolding swizzle_read ◌>>=◌ ◌>>◌ done
  read_split s p output n = refl

  read_output : (s : Split) (p : ReadPort) (output : Value) (n : ℕ) → (swizzle_read q s p output n).value.output ≡ (add_voids (2 ^ s.new) (columns q) n).value
  unfolding swizzle_read ◌>>=◌ ◌>>◌ done
  read_output s p output n = refl

  whole_read : (s : Split) (p : ReadPort) (output : Value) (n : ℕ) → s.new ≡ 0 → WholeRead q (swizzle_read q s p output n).value
  whole_read s p output n e = record {
    new = ap (λ (x : Split). x.new) (read_split s p output n) ∙ e;
    output =
        ap length (read_output s p output n ∙ voids_up (2 ^ s.new) (columns q) n) ∙ length_up n (2 ^ s.new * columns q)
        ∙ one_row s.new (columns q) e;
  }

  pub whole_reads : (ps : List ReadPort) (output : Value) (n : ℕ) → AllReads q (swizzle_reads m q ps (map (λ (p : ReadPort). zero) ps) output n).value
  unfolding AllReads swizzle_reads ◌>>=◌ done
  whole_reads [] output n = tt
  whole_reads (p ∷ ps) output n =
      let s = split_addr q (read_wide_log2 m p) 0 p.addr in
      (whole_read s p (take p.data_len output) n (split_new (read_wide_log2 m p) p.addr), whole_reads ps (drop p.data_len output) (swizzle_read q s p (take p.data_len output) n).next)

-- ---- the ports of memory n
module _ (q : Layout) (n : ℕ) (h : n < all_mems q) where
  pub writes_wide : (ws : List WideWrite) → AllWrites q ws → AllWide q.unit (map (write_part q n) ws)
  unfolding AllWrites AllWide write_part
  writes_wide [] a = tt
  writes_wide (w ∷ ws) a =
      let o = a.0 in
      ((part_long q w.split o.new n w.port.mask h o.mask, part_long q w.split o.new n w.port.bits h o.bits), writes_wide ws a.1)

  pub reads_long : (rs : List WideRead) → AllReads q rs → length (concat_map (λ (r : WideRead). mem_part q r.split n r.output) rs) ≡ length (map (read_part q n) rs) * q.unit
  unfolding AllReads
  reads_long [] a = sym (zero-mul q.unit)
  reads_long (r ∷ rs) a =
      let o = a.0 in
      length-append (mem_part q r.split n r.output) _
      ∙ omega (arith, part_long q r.split o.new n r.output h o.output, reads_long rs a.1, suc-mul (length (map (read_part q n) rs)) q.unit)
