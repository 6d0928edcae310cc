-- The old wide logs by the structs, and number 9 by them.
use mathlib.Core.Path.{◌≡◌, refl, sym, ap, ◌∙◌}
use Prim.Native.Nat.{ℕ, ◌<◌}
use native.Mathlib.Nat.{zero-add}
use native.Mathlib.Omega.{arith}
use mathlib.Core.Bool.{not, ◌||◌}
use mathlib.Core.List.{List, map}
use lib.Dec.{eqb}
use lib.ListN.{length, get_or}
use Rattle.std.proofs.lemmas.List.{ext_get_or, get_or-map, length-map}
use Rattle.lists.specs.Lists.{up_from}
use Rattle.lists.proofs.UpFrom.{length_up, get_d_up}
use Rattle.rules.specs.Conditions.{bad_wide, bad_writes, bad_reads}
use Rattle.rules.specs.Cell.{Mem, Plan, wide_log2, write_wide_log2, read_wide_log2, write_at, read_at_of}
use Rattle.net_memory.specs.declared.Memory.{Memory}
use Rattle.net_memory.specs.View.{memory_of, writes_of}
use Rattle.swizzle_plan.specs.declared.MemorySwizzle.{MemorySwizzle}
use Rattle.swizzle_plan.specs.Calls.{plan_of}
use Rattle.swizzle_plan.proofs.Wides.{any_first}
use Rattle.swizzle_plan.specs.Numbers.{wides_bad, write_logs, read_logs}

pub read_log_is : (m : Memory) (nets trits : List ℕ) (k j n : ℕ) → n ≡ (read_at_of (memory_of m nets trits) k).data_len → k ≡ j
    → wide_log2 m.width n ≡ read_wide_log2 (memory_of m nets trits) (read_at_of (memory_of m nets trits) j)
unfolding read_wide_log2 memory_of
read_log_is m nets trits k j n e q = ap (wide_log2 m.width) (e ∙ ap (λ (i : ℕ). (read_at_of (memory_of m nets trits) i).data_len) q)

-- ---- number 9, by the old and the new wide logs
-- what each element of a list gives, by its place
by_place : {A : Type 0} (l : List A) (d : A) (f : A → ℕ) → map (λ (i : ℕ). f (get_or l i d)) (up_from 0 (length l)) ≡ map f l
by_place l d f =
    ext_get_or 0 _ _ (length-map (up_from 0 (length l)) (λ (i : ℕ). f (get_or l i d)) ∙ length_up 0 (length l) ∙ sym (length-map l f))
    (λ i h. let k : i < length l = omega (arith, h, length-map (up_from 0 (length l)) (λ (j : ℕ). f (get_or l j d)), length_up 0 (length l)) in
    get_d_up (λ (j : ℕ). f (get_or l j d)) 0 (length l) i 0 k ∙ ap (λ (j : ℕ). f (get_or l j d)) (zero-add i) ∙ sym (get_or-map f l i d 0 k))

-- the old wide logs of the write ports, by their numbers
pub write_logs_by : (m : Mem) (n : ℕ) → length m.writes ≡ n → map (λ (i : ℕ). write_wide_log2 m (write_at m i)) (up_from 0 n) ≡ write_logs m
unfolding write_at
write_logs_by m n e = ap (λ (k : ℕ). map (λ (i : ℕ). write_wide_log2 m (write_at m i)) (up_from 0 k)) (sym e) ∙ by_place m.writes _ (write_wide_log2 m)

pub writes_form : (m : Mem) (p : Plan) (n : ℕ) → length m.writes ≡ n → wides_bad p (map (λ (i : ℕ). write_wide_log2 m (write_at m i)) (up_from 0 n)) p.write_wide ≡ bad_writes m p
unfolding bad_writes
writes_form m p n e =
    ap (λ (l : List ℕ). wides_bad p l p.write_wide) (write_logs_by m n e)
    ∙ (λ i. not (eqb (length p.write_wide) (length-map m.writes (write_wide_log2 m) i)) || any_first (write_wide_log2 m) (bad_wide p) m.writes p.write_wide i)

pub reads_form : (m : Mem) (p : Plan) (ports : List ℕ) → wides_bad p (read_logs m ports) p.read_wide_of ≡ bad_reads m ports p
unfolding bad_reads
reads_form m p ports =
    λ i. not (eqb (length p.read_wide_of) (length-map ports (λ (k : ℕ). read_wide_log2 m (read_at_of m k)) i)) || any_first (λ (k : ℕ). read_wide_log2 m (read_at_of m k)) (bad_wide p) ports p.read_wide_of i

pub writes_count : (m : Memory) (nets trits : List ℕ) → length (memory_of m nets trits).writes ≡ length (writes_of m nets)
unfolding memory_of
writes_count m nets trits = refl

pub logs_length : (m : Memory) (nets trits : List ℕ) → length (write_logs (memory_of m nets trits)) ≡ length (writes_of m nets)
unfolding memory_of
logs_length m nets trits = length-map (writes_of m nets) (write_wide_log2 (memory_of m nets trits))

-- the old wide log of a write port by its place
pub write_log_at : (m : Mem) (i : ℕ) → i < length (write_logs m) → get_or (write_logs m) i 0 ≡ write_wide_log2 m (write_at m i)
unfolding write_at
write_log_at m i h = get_or-map (write_wide_log2 m) m.writes i _ 0 (omega (arith, h, length-map m.writes (write_wide_log2 m)))

-- number 9 of new wide logs reads no entries
pub wides_any : (s : MemorySwizzle) (es fs ws rs olds news : List ℕ) → wides_bad (plan_of s es ws rs) olds news ≡ wides_bad (plan_of s fs ws rs) olds news
unfolding bad_wide
wides_any s es fs ws rs olds news = refl
