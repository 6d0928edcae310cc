-- The nets and trits that the memories of a swizzle of rows share, as the two halves of its code store them.
use mathlib.Core.Path.{◌≡◌, refl, sym, ap, ◌∙◌}
use Prim.Native.Nat.{ℕ}
use native.Mathlib.Nat.{zero-add}
use mathlib.Core.List.{List, [], ◌∷◌, ◌++◌}
use lib.ListN.{length, take, drop}
use lib.Seq.{sets}
use Rattle.lists.specs.Lists.{concat_map}
use Rattle.lists.proofs.Store.{sets_at}
use Rattle.rules.specs.Value.{Value}
use Rattle.rules.specs.Cell.{ReadPort, Mem, Plan}
use Rattle.rules.specs.Log.{◌>>=◌, ◌>>◌, done}
use Rattle.rules.specs.Geometry.{Layout, layout_of}
use Rattle.rules.specs.Image.{layout}
use Rattle.rules.specs.Swizzle.{WideWrite, swizzle_writes, WideRead, wide_flip_flop, swizzle_read, swizzle_reads, swizzle_rows, shared_nets, shared_trits}
use Rattle.swizzle_laws.proofs.ReadsCounts.{read_split_of}
use Rattle.swizzle_result.specs.Held.{clock_trits}
use Rattle.swizzle_facts.specs.Passed.{LayoutPassed, WritePassed, ReadPassed, EachPair}
use Rattle.swizzle_counts.proofs.Shared as shared
use Rattle.swizzle_counts.proofs.Shared.{wide_addr, wide_trits, shared_nets_lem, shared_trits_lem, writes_made, reads_made, rows_value}
use Rattle.swizzle_writes.specs.Planned.{wide_nets, total_nets}
use Rattle.swizzle_reads.specs.Planned.{addrs_of, trits_of}
use Rattle.swizzle_ready.proofs.Sizes.{writes_nets}

-- one port's nets, as both crates name them
pub same_nets : (q : Layout) (x : WideWrite) → wide_nets q x ≡ shared.wide_nets q x
unfolding wide_nets
same_nets q x = refl

pub all_nets : (q : Layout) (xs : List WideWrite) → concat_map (wide_nets q) xs ≡ concat_map (shared.wide_nets q) xs
all_nets q [] = refl
all_nets q (x ∷ xs) = λ i. same_nets q x i ++ all_nets q xs i

-- the read ports of the rules have these addresses and trits
module _ (m : Mem) (q : Layout) where
  read_split : (p : ReadPort) (n : ℕ) (output : Value) (k : ℕ) → (swizzle_read q (read_split_of m q p n) p output k).value.split ≡ read_split_of m q p n
  unfolding swizzle_read ◌>>=◌ ◌>>◌ done
  read_split p n output k = refl

  read_clock : (p : ReadPort) (n : ℕ) (output : Value) (k : ℕ) → (swizzle_read q (read_split_of m q p n) p output k).value.flip_flop ≡ wide_flip_flop q (read_split_of m q p n) p.flip_flop
  unfolding swizzle_read ◌>>=◌ ◌>>◌ done
  read_clock p n output k = refl

  reads_next : (p : ReadPort) (ps : List ReadPort) (n : ℕ) (ns : List ℕ) (output : Value) (k : ℕ)
      → (swizzle_reads m q (p ∷ ps) (n ∷ ns) output k).value
      ≡ (swizzle_read q (read_split_of m q p n) p (take p.data_len output) k).value
      ∷ (swizzle_reads m q ps ns (drop p.data_len output) (swizzle_read q (read_split_of m q p n) p (take p.data_len output) k).next).value
  unfolding swizzle_reads ◌>>=◌ done
  reads_next p ps n ns output k = refl

  none_left : (ns : List ℕ) (output : Value) (k : ℕ) → (swizzle_reads m q [] ns output k).value ≡ []
  unfolding swizzle_reads done
  none_left ns output k = refl

  none_wide : (p : ReadPort) (ps : List ReadPort) (output : Value) (k : ℕ) → (swizzle_reads m q (p ∷ ps) [] output k).value ≡ []
  unfolding swizzle_reads done
  none_wide p ps output k = refl

  pub addrs_are : (ps : List ReadPort) (ns : List ℕ) (output : Value) (k : ℕ) → concat_map wide_addr (swizzle_reads m q ps ns output k).value ≡ addrs_of m q ps ns
  addrs_are [] ns output k = ap (concat_map wide_addr) (none_left ns output k)
  addrs_are (p ∷ ps) [] output k = ap (concat_map wide_addr) (none_wide p ps output k)
  addrs_are (p ∷ ps) (n ∷ ns) output k =
      ap (concat_map wide_addr) (reads_next p ps n ns output k)
      ∙ (λ i. (read_split p n (take p.data_len output) k i).addr ++ addrs_are ps ns (drop p.data_len output) (swizzle_read q (read_split_of m q p n) p (take p.data_len output) k).next i)

  pub trits_are : (ps : List ReadPort) (ns : List ℕ) (output : Value) (k : ℕ) → concat_map (wide_trits q) (swizzle_reads m q ps ns output k).value ≡ trits_of m q ps ns
  trits_are [] ns output k = ap (concat_map (wide_trits q)) (none_left ns output k)
  trits_are (p ∷ ps) [] output k = ap (concat_map (wide_trits q)) (none_wide p ps output k)
  trits_are (p ∷ ps) (n ∷ ns) output k =
      ap (concat_map (wide_trits q)) (reads_next p ps n ns output k)
      ∙ (λ i. clock_trits q (read_split p n (take p.data_len output) k i) (read_clock p n (take p.data_len output) k i)
      ++ trits_are ps ns (drop p.data_len output) (swizzle_read q (read_split_of m q p n) p (take p.data_len output) k).next i)

-- of a swizzle of rows whose ports pass
module _ (m : Mem) (output : Value) (p : Plan) (l : LayoutPassed (layout_of m p)) (ew : EachPair (WritePassed m (layout_of m p)) m.writes p.write_wide)
    (er : EachPair (ReadPassed m (layout_of m p)) m.reads p.read_wide_of) (k : ℕ) where
  abbrev q : Layout
  q = layout_of m p

  abbrev ws : List WideWrite
  ws = (swizzle_writes m q m.writes p.write_wide k).value

  abbrev next : ℕ
  next = (swizzle_writes m q m.writes p.write_wide k).next

  abbrev rs : List WideRead
  rs = (swizzle_reads m q m.reads p.read_wide_of output next).value

  pub writes_long : length ws ≡ length m.writes
  writes_long = (writes_made m q l m.writes p.write_wide ew k).0

  pub reads_long : length rs ≡ length m.reads
  reads_long = (reads_made m q l m.reads p.read_wide_of er output next).long

  -- the write ports' nets end where the read ports' start
  pub writes_size : length (concat_map (wide_nets q) ws) ≡ total_nets m q m.writes p.write_wide
  writes_size = ap length (all_nets q ws) ∙ (writes_made m q l m.writes p.write_wide ew k).1 ∙ sym (writes_nets m q l m.writes p.write_wide ew)

  pub nets_shared : shared_nets m (swizzle_rows m output p k).value ≡ concat_map (wide_nets q) ws ++ addrs_of m q m.reads p.read_wide_of
  nets_shared =
      ap (shared_nets m) (rows_value m output p l ew er k) ∙ shared_nets_lem q (layout q m.init) ws rs l.mems_some m writes_long reads_long
      ∙ (λ i. sym (all_nets q ws) i ++ addrs_are m q m.reads p.read_wide_of output next i)

  pub trits_shared : shared_trits m (swizzle_rows m output p k).value ≡ trits_of m q m.reads p.read_wide_of
  trits_shared =
      ap (shared_trits m) (rows_value m output p l ew er k) ∙ shared_trits_lem q (layout q m.init) ws rs l.mems_some m writes_long reads_long
      ∙ trits_are m q m.reads p.read_wide_of output next

  -- stored one after the other
  pub nets_stored : (room : List ℕ) (at : ℕ) → at ≡ total_nets m q m.writes p.write_wide
      → sets (sets room 0 (concat_map (wide_nets q) ws)) at (addrs_of m q m.reads p.read_wide_of) ≡ sets room 0 (shared_nets m (swizzle_rows m output p k).value)
  nets_stored room at e =
      sets_at room 0 at (concat_map (wide_nets q) ws) (addrs_of m q m.reads p.read_wide_of) (e ∙ sym writes_size ∙ sym (zero-add _))
      ∙ ap (sets room 0) (sym nets_shared)
