-- A memory without the flip-flops of its read ports has the same wide logs and the same depth.
use mathlib.Core.Path.{◌≡◌, refl, ◌∙◌}
use Prim.Native.Nat.{max}
use mathlib.Core.Bool.{◌||◌}
use mathlib.Core.List.{List, [], ◌∷◌, map}
use Rattle.lists.specs.Lists.{any}
use Rattle.rules.specs.Numbers.{largest}
use Rattle.rules.specs.Cell.{WritePort, ReadPort, Mem, write_wide_log2, read_wide_log2, with_reads}
use Rattle.rules.specs.Conditions.{indivisible, bad_depth}
use Rattle.rules.specs.Fallback.{max_wide_log2}
use Rattle.port_unmap_all.specs.All.{bare, all_bare}

module _ (m : Mem) where
  abbrev pub B : Mem
  B = all_bare m

  pub bare_width : B.width ≡ m.width
  unfolding all_bare with_reads
  bare_width = refl

  pub bare_depth : B.depth ≡ m.depth
  unfolding all_bare with_reads
  bare_depth = refl

  pub bare_init : B.init ≡ m.init
  unfolding all_bare with_reads
  bare_init = refl

  pub bare_writes : B.writes ≡ m.writes
  unfolding all_bare with_reads
  bare_writes = refl

  pub bare_reads : B.reads ≡ map bare m.reads
  unfolding all_bare with_reads
  bare_reads = refl

  pub write_log_lem : (p : WritePort) → write_wide_log2 B p ≡ write_wide_log2 m p
  unfolding write_wide_log2 all_bare with_reads
  write_log_lem p = refl

  pub read_log_lem : (p : ReadPort) → read_wide_log2 B (bare p) ≡ read_wide_log2 m p
  unfolding read_wide_log2 all_bare with_reads
  read_log_lem p = refl

  write_logs_lem : (ps : List WritePort) → map (write_wide_log2 B) ps ≡ map (write_wide_log2 m) ps
  write_logs_lem [] = refl
  write_logs_lem (p ∷ ps) = λ i. write_log_lem p i ∷ write_logs_lem ps i

  read_logs_lem : (ps : List ReadPort) → map (read_wide_log2 B) (map bare ps) ≡ map (read_wide_log2 m) ps
  read_logs_lem [] = refl
  read_logs_lem (p ∷ ps) = λ i. read_log_lem p i ∷ read_logs_lem ps i

  pub bare-most : max_wide_log2 B ≡ max_wide_log2 m
  unfolding max_wide_log2
  bare-most =
      (λ i. max (largest (map (write_wide_log2 B) (bare_writes i))) (largest (map (read_wide_log2 B) (bare_reads i))))
      ∙ (λ i. max (largest (write_logs_lem m.writes i)) (largest (read_logs_lem m.reads i)))

  writes_divide : (ps : List WritePort) → any (λ (p : WritePort). indivisible B.depth (write_wide_log2 B p)) ps ≡ any (λ (p : WritePort). indivisible m.depth (write_wide_log2 m p)) ps
  writes_divide [] = refl
  writes_divide (p ∷ ps) = λ i. indivisible (bare_depth i) (write_log_lem p i) || writes_divide ps i

  reads_divide : (ps : List ReadPort) → any (λ (p : ReadPort). indivisible B.depth (read_wide_log2 B p)) (map bare ps) ≡ any (λ (p : ReadPort). indivisible m.depth (read_wide_log2 m p)) ps
  reads_divide [] = refl
  reads_divide (p ∷ ps) = λ i. indivisible (bare_depth i) (read_log_lem p i) || reads_divide ps i

  pub bare_divides : bad_depth B ≡ bad_depth m
  unfolding bad_depth
  bare_divides =
      (λ i. any (λ (p : WritePort). indivisible B.depth (write_wide_log2 B p)) (bare_writes i) || any (λ (p : ReadPort). indivisible B.depth (read_wide_log2 B p)) (bare_reads i))
      ∙ (λ i. writes_divide m.writes i || reads_divide m.reads i)
