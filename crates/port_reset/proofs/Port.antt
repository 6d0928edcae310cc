-- The values that the code reads of port i are the view's, and its trace is the rules'.
use mathlib.Core.Path.{◌≡◌, refl, sym, ap, ◌∙◌, subst}
use Prim.Native.Nat.{ℕ, ◌<◌, ◌≤◌}
use native.Mathlib.Omega.{arith}
use mathlib.Core.Bool.{Bool, true, false, not}
use mathlib.Core.List.{List, []}
use lib.ListN.{length, replicate}
use borrow.Author.Tests.{le-ltb}
use Rattle.lists.specs.Choice.{when◌then◌else◌}
use Rattle.lists.specs.Lists.{any}
use Rattle.rules.specs.Limits.{max_merge, X}
use Rattle.rules.specs.Logic.{is_undef}
use Rattle.rules.specs.Value.{Value, x_nets}
use Rattle.rules.specs.Cell.{FlipFlop, ReadFlipFlop, ReadPort, Mem, read_at_of, read_wide_log2, flip_flop_of, or_empty, output_slice, with_output}
use Rattle.rules.specs.Conditions.{short_pair}
use Rattle.rules.specs.Log.{LogState, Trace, start_net, ◌>>=◌, ◌>>◌, done}
use Rattle.rules.specs.Ports.{Overlay, transparencies, wanted, has_init, mask_flip_flop, unmap_reset}
use Rattle.rules.proofs.Counted.{start_le}
use Rattle.net_flip_flop.specs.declared.FlipFlop as machine
use Rattle.net_flip_flop.specs.declared.Controls.{Controls}
use Rattle.net_flip_flop.specs.View.{controls_of, flip_flop}
use Rattle.log_entries.specs.Emission.{Lent, is_over, emit, run}
use Rattle.net_memory.specs.declared.Memory.{Memory}
use Rattle.net_memory.specs.View.{memory_of}
use Rattle.port_transparency.specs.Gave.{Gave}
use Rattle.port_transparency.specs.Pairs.{reading, with_mask}
use Rattle.port_overlay.specs.Laid.{with_bits, laid_from}
use Rattle.port_unmap.specs.Ready.{own_flip_flop}
use Rattle.port_unmap.specs.Trace.{FlipFlopOf}
use Rattle.port_unmap.proofs.Port.{laid_all, small, read_few}
use Rattle.port_reset_emit.specs.Behind.{mask_behind, choice, reset_behind, reset_laid, reset_if}
use Rattle.port_reset.specs.Ready.{ResetReady}
use Rattle.port_unreset.proofs.Plain.{wanted_is}
use Rattle.port_reset.proofs.Bounds.{most_reset}

-- ---- the rules' trace by the code's
module _ (v : Mem) (i : ℕ) (incl : Bool) (output : Value) (f : ReadFlipFlop) where
  abbrev n : ℕ
  n = (read_at_of v i).data_len

  abbrev none_yet : Overlay
  none_yet = with_mask (x_nets n) (replicate n 0)

  abbrev mask_of : Value → FlipFlop
  mask_of k = mask_behind f.controls (has_init f) n k

  abbrev code_of : Trace Overlay → Trace Value
  code_of t = t >>= λ o. reset_behind (flip_flop_of f o.bits) (mask_of (or_empty o.mask)) n (output_slice v i output)

  rules_entries : (k : ℕ) → (unmap_reset v i incl output f k).entries ≡ (code_of (transparencies v i (wanted incl f) none_yet) k).entries
  unfolding unmap_reset reset_behind choice mask_behind mask_flip_flop ◌>>=◌ ◌>>◌ done
  rules_entries k = refl

  rules_output : (k : ℕ) → (unmap_reset v i incl output f k).value.output ≡ with_output v i (code_of (transparencies v i (wanted incl f) none_yet) k).value output
  unfolding unmap_reset reset_behind choice mask_behind mask_flip_flop ◌>>=◌ ◌>>◌ done
  rules_output k = refl

  module _ (kr : ℕ) (r : ReadPort) (xs : List ℕ) (e : (o : Overlay) → laid_from v kr r 0 xs o ≡ transparencies v i (wanted incl f) o) (l l1 : Lent) (w : Value)
      (g : Gave (reset_laid v kr r n xs (flip_flop_of f) mask_of (output_slice v i output)) l l1 w) where
    pub reset_ran : l1 ≡ run (unmap_reset v i incl output f) l
    unfolding reset_laid run
    reset_ran = g.ran ∙ ap (λ (t : Trace Overlay). emit l (code_of t l.state.next).entries) (e none_yet) ∙ ap (emit l) (sym (rules_entries l.state.next))

    pub reset_output : is_over l1.state ≡ false → with_output v i w output ≡ (unmap_reset v i incl output f l.state.next).value.output
    unfolding reset_laid
    reset_output o =
        ap (λ (u : Value). with_output v i u output) (g.value o ∙ ap (λ (t : Trace Overlay). (code_of t l.state.next).value) (e none_yet))
        ∙ sym (rules_output l.state.next)

-- ---- the code's own names
few_is : (m : Mem) (kr : ℕ) (r : ReadPort) (n : ℕ) (xs : List ℕ) (f g : Value → FlipFlop) (from : Value) → n ≤ max_merge → reset_if m kr r n xs f g from ≡ reset_laid m kr r n xs f g from
unfolding reset_if
few_is m kr r n xs f g from h = rw (le-ltb max_merge n h)

data_by : (f : ReadFlipFlop) → (λ (b : Value). flip_flop f.controls b f.clear_value f.reset_value f.init_value) ≡ flip_flop_of f
unfolding flip_flop_of
data_by f = refl

mask_by : (f : ReadFlipFlop) (j : ℕ) → ◌≡◌ {A = Value → FlipFlop} (λ k. mask_behind f.controls (not (is_undef f.init_value)) j k) (λ k. mask_behind f.controls (has_init f) j k)
unfolding has_init
mask_by f j = refl

all-related : (incl : Bool) (l : List ℕ) (k : ℕ) → length l ≡ k → length (when incl then l else []) ≤ k
all-related true l k e = omega arith
all-related false l k e = omega arith

-- the mask's flip-flop, as port_reset_emit has it
abbrev mask_from : machine.FlipFlop → ℕ → Value → FlipFlop
mask_from cell n k = mask_behind (controls_of cell.controls) (not (is_undef cell.init.now)) n k

module _ (m : Memory) (nets trits : List ℕ) (i : ℕ) (c : Controls) (incl : Bool) (g : ResetReady m nets trits i c incl) where
  abbrev M : Mem
  M = memory_of m nets trits

  abbrev F : ReadFlipFlop
  F = own_flip_flop m trits i c

  abbrev own_rels : List ℕ
  own_rels = when incl then F.relations else []

  -- few nets
  pub reset_below : (output : Value) (s : LogState) → (unmap_reset M i incl output F (start_net s)).next < X
  reset_below output s =
      omega (arith, most_reset M i (small m nets trits i c g.port) incl output F (omega (arith, g.port.related, g.port.few)) (read_few m nets trits i c g.port) (start_net s), start_le s)

  laid_own : (o : Overlay) → laid_from M (read_wide_log2 M (read_at_of M i)) (reading (read_at_of M i).addr (read_at_of M i).data_len) 0 own_rels o ≡ transparencies M i (wanted incl F) o
  laid_own o =
      laid_all m nets trits i c g.port own_rels o (all-related incl F.relations (length M.writes) g.port.related)
      (ap (any (short_pair M (read_at_of M i))) (sym (wanted_is incl F)) ∙ g.long)
      ∙ ap (λ (js : List ℕ). transparencies M i js o) (sym (wanted_is incl F))

  module _ (output : Value) (cell : machine.FlipFlop) (raddr rels from : List ℕ) (kr n : ℕ) (f : ReadFlipFlop) (l l1 : Lent) (w : Value)
      (ek : kr ≡ read_wide_log2 M (read_at_of M i)) (ea : raddr ≡ (read_at_of M i).addr) (en : n ≡ (read_at_of M i).data_len) (ef : from ≡ output_slice M i output)
      (eg : FlipFlopOf cell f) (er : rels ≡ (when incl then f.relations else [])) (e : f ≡ F)
      (h : Gave (reset_if M kr (reading raddr n) n rels (with_bits cell) (mask_from cell n) from) l l1 w) where
    abbrev size : ℕ
    size = (read_at_of M i).data_len

    trace_is : reset_if M kr (reading raddr n) n rels (with_bits cell) (mask_from cell n) from
        ≡ reset_if M (read_wide_log2 M (read_at_of M i)) (reading (read_at_of M i).addr size) size own_rels (λ b. flip_flop F.controls b F.clear_value F.reset_value F.init_value) (λ k. mask_behind F.controls (not (is_undef F.init_value)) size k) (output_slice M i output)
    trace_is =
        let k1 = eg.controls_are ∙ ap (λ (x : ReadFlipFlop). x.controls) e in
        let c1 = eg.clear_is ∙ ap (λ (x : ReadFlipFlop). x.clear_value) e in
        let s1 = eg.reset_is ∙ ap (λ (x : ReadFlipFlop). x.reset_value) e in
        let i1 = eg.init_is ∙ ap (λ (x : ReadFlipFlop). x.init_value) e in
        let r1 = er ∙ ap (λ (x : ReadFlipFlop). when incl then x.relations else []) e in
        λ k. reset_if M (ek k) (reading (ea k) (en k)) (en k) (r1 k) (λ b. flip_flop (k1 k) b (c1 k) (s1 k) (i1 k)) (λ x. mask_behind (k1 k) (not (is_undef (i1 k))) (en k) x) (ef k)

    as_rules : reset_if M (read_wide_log2 M (read_at_of M i)) (reading (read_at_of M i).addr size) size own_rels (λ b. flip_flop F.controls b F.clear_value F.reset_value F.init_value) (λ k. mask_behind F.controls (not (is_undef F.init_value)) size k) (output_slice M i output)
        ≡ reset_laid M (read_wide_log2 M (read_at_of M i)) (reading (read_at_of M i).addr size) size own_rels (flip_flop_of F) (λ k. mask_behind F.controls (has_init F) size k) (output_slice M i output)
    as_rules =
        (λ k. reset_if M (read_wide_log2 M (read_at_of M i)) (reading (read_at_of M i).addr size) size own_rels (data_by F k) (mask_by F size k) (output_slice M i output))
        ∙ few_is M (read_wide_log2 M (read_at_of M i)) (reading (read_at_of M i).addr size) size own_rels (flip_flop_of F) (λ k. mask_behind F.controls (has_init F) size k) (output_slice M i output) (few_nets (read_few m nets trits i c g.port))
      where
        few_nets : {k : ℕ} → k ≤ 2048 → k ≤ max_merge
        few_nets q = omega arith

    given : Gave (reset_laid M (read_wide_log2 M (read_at_of M i)) (reading (read_at_of M i).addr size) size own_rels (flip_flop_of F) (λ k. mask_behind F.controls (has_init F) size k) (output_slice M i output)) l l1 w
    given = subst (λ (t : Trace Value). Gave t l l1 w) (trace_is ∙ as_rules) h

    pub port_ran : l1 ≡ run (unmap_reset M i incl output F) l
    port_ran = reset_ran M i incl output F (read_wide_log2 M (read_at_of M i)) (reading (read_at_of M i).addr size) own_rels laid_own l l1 w given

    pub port_output : is_over l1.state ≡ false → with_output M i w output ≡ (unmap_reset M i incl output F l.state.next).value.output
    port_output = reset_output M i incl output F (read_wide_log2 M (read_at_of M i)) (reading (read_at_of M i).addr size) own_rels laid_own l l1 w given
