-- The numbers of a fallback as the code tries them, and the words and nets that are left for the split.
use mathlib.Core.Path.{◌≡◌, refl, sym, ap, ◌∙◌}
use mathlib.Core.Logic.{◌≢◌, ⊎_elim}
use Prim.Native.Nat.{ℕ, ◌+◌, ◌-◌, ◌*◌, ◌<◌, ◌≤◌, min}
use native.Mathlib.Nat.{eq-zero-or-pos, mul-le-mul}
use native.Mathlib.Omega.{arith}
use mathlib.Core.Bool.{true, false}
use mathlib.Core.List.{List}
use lib.ListN.{length}
use borrow.Author.Tests.{eq-eqb}
use Rattle.rules.specs.Limits.{max_bits, max_nets, max_ports, max_row, max_words}
use Rattle.rules.specs.Cell.{Mem}
use Rattle.rules.specs.Fallback.{lower_fallback, fallback_plan, fallback_scratch}
use Rattle.rules.specs.Log.{LogState, start_net, added}
use Rattle.rules.specs.Ports.{unmap_all}
use Rattle.rules.specs.Refusals.{room_refusal, log_refusal, swizzle_refusal}
use Rattle.rules.proofs.Counted.{counted_refusal}
use Rattle.rules.proofs.Walks.{lt_or_le}
use Rattle.log_entries.specs.declared.LogState as machine
use Rattle.log_entries.specs.Emission.{is_over, dry_start}
use Rattle.log_entries.specs.View.{state_of}
use Rattle.log_entries.proofs.Rooms.{room_20, room_low, room_high, room_0}
use Rattle.net_memory.specs.declared.Memory.{Memory}
use Rattle.net_memory.specs.View.{memory_of, writes_of}
use Rattle.net_memory.specs.Given.{given_of}
use Rattle.swizzle_counts.specs.declared.SwizzleRooms.{SwizzleRooms}
use Rattle.swizzle_counts.specs.Refusal.{rooms_of}
use Rattle.fallback_bare.specs.Bare.{bare_of}
use Rattle.fallback_masks.specs.Sizes.{rows_words_of, rows_nets, size_words, size_nets}
use Rattle.fallback_masks.proofs.Closed.{words_are, nets_are}
use Rattle.fallback_pass.specs.Split.{split_words, split_nets}
use Rattle.fallback_pass.proofs.Growth.{value_grows}
use Rattle.fallback_pass.proofs.Number as pass
use Rattle.fallback_pass.proofs.Refusal.{bare_refusal}
use Rattle.fallback_pass.proofs.Unmapped.{given_long, given_good}
use Rattle.fallback_pass.proofs.Counts.{swizzle_counted}
use Rattle.fallback.specs.Refusal.{Later, Asked, DryRun}
use Rattle.fallback.proofs.Total.{wide_rest, flat_rest, whole_refusal}

-- ---- scratch
pub need_small : (p c : ℕ) → p ≤ max_ports → c ≤ max_bits → 2 * p * c ≤ 524288
need_small p c h k =
    let a : 2 * p * c ≤ 16 * 32768 = mul-le-mul {n₁ = 2 * p} {m₁ = c} {n₂ = 16} {m₂ = 32768} (omega arith) (omega arith) in
    omega (arith, a)

writes_are : (m : Memory) (nets trits : List ℕ) → fallback_scratch (memory_of m nets trits) ≡ 2 * length (writes_of m nets) * (m.depth * m.width)
unfolding fallback_scratch memory_of
writes_are m nets trits = refl

pub need_is : (m : Memory) (nets trits : List ℕ) (r : ℕ) → length (writes_of m nets) ≡ min max_ports m.write_count → r ≡ 2 * min max_ports m.write_count * (m.depth * m.width) → r ≡ fallback_scratch (memory_of m nets trits)
need_is m nets trits r l e = e ∙ ap (λ (k : ℕ). 2 * k * (m.depth * m.width)) (sym l) ∙ sym (writes_are m nets trits)

-- ---- what is left for the split
pub left_none : (room : ℕ) (s : LogState) (words made w k : ℕ) → min room max_words < words → 20 ≡ room_refusal room s (words + w) (made + k)
left_none room s words made w k h = room_20 room s (words + w) (made + k) (omega arith)

module _ (room : ℕ) (s : LogState) (words made w k next' : ℕ) (l : Later s.next made next') where
  abbrev later : LogState
  later = record { used = s.used; next = next' }

  module _ (h : words ≤ min room max_words) where
    abbrev left : ℕ
    left = min room max_words - words

    fits : s.used + (words + w) ≤ min room max_words → room_refusal left later w k ≡ room_refusal room s (words + w) (made + k)
    fits f =
        ⊎_elim (λ a. sym (room_low left later w k (omega arith) (omega (arith, l.low a))) ∙ room_low room s (words + w) (made + k) f a)
        (λ a. ⊎_elim (λ b. past a b) (λ b. inside a b) (lt_or_le max_nets s.next))
        (lt_or_le s.next 2)
      where
        past : 2 ≤ s.next → max_nets < s.next → room_refusal left later w k ≡ room_refusal room s (words + w) (made + k)
        past a b =
            let e = l.high b in
            sym (room_high left later w k (omega arith) (omega (arith, e)) (omega (arith, e))) ∙ room_high room s (words + w) (made + k) f a (omega arith)

        inside : 2 ≤ s.next → s.next ≤ max_nets → room_refusal left later w k ≡ room_refusal room s (words + w) (made + k)
        inside a b =
            let e = l.more a b in
            ⊎_elim (λ c. sym (room_high left later w k (omega arith) (omega (arith, e)) (omega (arith, e))) ∙ room_high room s (words + w) (made + k) f a c)
            (λ c. sym (room_0 left later w k (omega arith) (omega (arith, e)) (omega (arith, e))) ∙ room_0 room s (words + w) (made + k) f a c)
            (lt_or_le max_nets (s.next + (made + k)))

    pub left_same : room_refusal left later w k ≡ room_refusal room s (words + w) (made + k)
    left_same =
        ⊎_elim (λ a. sym (room_20 left later w k (omega arith)) ∙ room_20 room s (words + w) (made + k) a) (λ a. fits a) (lt_or_le (min room max_words) (s.used + (words + w)))

pub later_grows : (next made r : ℕ) → Later next made r → next ≤ r
later_grows next made r l =
    ⊎_elim (λ a. omega (arith, l.low a)) (λ a. ⊎_elim (λ b. omega (arith, l.high b)) (λ b. omega (arith, l.more a b)) (lt_or_le max_nets next)) (lt_or_le next 2)

-- ---- the split's refusal
module _ (m : Memory) (nets trits output : List ℕ) (st : machine.LogState) (tables : ℕ) (a : Asked m nets trits output st tables) (w : m.width ≢ 0) where
  abbrev M : Mem
  M = memory_of m nets trits

  width_some : M.width ≢ 0
  width_some e = w (sym (pass.mem_width st.next m nets trits output a.number) ∙ e)

  pub bare_thin : (b : Memory) → b ≡ bare_of m → b.width ≤ max_row
  bare_thin b e = omega (arith, ap (λ (x : Memory). x.width) e, (pass.sized st.next m nets trits output a.number).width_ok)

  bits_few : M.depth * M.width ≤ max_bits
  bits_few =
      omega (arith, (pass.sized st.next m nets trits output a.number).bits_ok, same)
    where
      same : M.depth * M.width ≡ m.depth * m.width
      same = λ i. pass.mem_depth_lem st.next m nets trits output a.number i * pass.mem_width st.next m nets trits output a.number i

  module _ (r : SwizzleRooms) (ri : r.image ≡ max_bits) (rn : r.nets ≡ tables) (rs : r.scratch ≡ max_bits) (room : ℕ) (later : machine.LogState) (grows : st.next ≤ later.next) (b : Memory) (e : b ≡ bare_of m) where
    pub split_refusal : (n : ℕ) → n ≡ swizzle_refusal (rooms_of r) room (state_of later) (given_of b nets trits) output (fallback_plan (memory_of b nets trits)) → n ≡ room_refusal room (state_of later) (split_words M) (split_nets M)
    split_refusal n h =
        h ∙ ap (λ (x : Memory). swizzle_refusal (rooms_of r) room (state_of later) (given_of x nets trits) output (fallback_plan (memory_of x nets trits))) e
        ∙ bare_refusal st.next m nets trits output a.number width_some (rooms_of r) room (state_of later) grows output (given_long st.next m nets trits output a.number)
        (value_grows st.next later.next grows output (given_good st.next m nets trits output a.number)) (omega (arith, bits_few, ri)) (omega (arith, a.room, rn)) (omega (arith, bits_few, rs))
        ∙ counted_refusal _ (split_words M) (split_nets M) (swizzle_counted st.next m nets trits output a.number width_some output (given_long st.next m nets trits output a.number)) room (state_of later)

-- ---- 20 and 21 of the whole
flat-words : (m : Mem) → m.width ≡ 0 → rows_words_of m ≡ 0
unfolding rows_words_of
flat-words m w = rw (eq-eqb m.width 0 w)

flat_nets_lem : (m : Mem) → m.width ≡ 0 → rows_nets m ≡ 0
unfolding rows_nets
flat_nets_lem m w = rw (eq-eqb m.width 0 w)

module _ (m : Memory) (nets trits output : List ℕ) (st : machine.LogState) (tables : ℕ) (a : Asked m nets trits output st tables) (dry : LogState) (d : DryRun (memory_of m nets trits) output (state_of st) dry) (room : ℕ) where
  abbrev W : Mem
  W = memory_of m nets trits

  abbrev s : LogState
  s = state_of st

  abbrev U : ℕ
  U = length (added (unmap_all W output (start_net s)))

  abbrev N : ℕ
  N = (unmap_all W output (start_net s)).next - start_net s

  wide_total : W.width ≢ 0 → log_refusal room s (lower_fallback W output) ≡ room_refusal room s (U + (split_words W + rows_words_of W)) (N + (split_nets W + rows_nets W))
  wide_total w = whole_refusal st.next m nets trits output a.number _ _ (wide_rest st.next m nets trits output a.number w) room s

  flat_total : W.width ≡ 0 → log_refusal room s (lower_fallback W output) ≡ room_refusal room s (U + 0) (N + 0)
  flat_total w = whole_refusal st.next m nets trits output a.number 0 0 (flat_rest st.next m nets trits output a.number w) room s

  width_is : W.width ≡ m.width
  width_is = pass.mem_width st.next m nets trits output a.number

  pub dry_full : is_over dry ≡ true → 20 ≡ log_refusal room s (lower_fallback W output)
  dry_full o =
      ⊎_elim (λ z. flat z) (λ p. wide (λ z. omega (arith, p, z))) (eq-zero-or-pos W.width)
    where
      flat : W.width ≡ 0 → 20 ≡ log_refusal room s (lower_fallback W output)
      flat z = room_20 room s (U + 0) (N + 0) (omega (arith, d.full o)) ∙ sym (flat_total z)

      wide : W.width ≢ 0 → 20 ≡ log_refusal room s (lower_fallback W output)
      wide w = room_20 room s (U + (split_words W + rows_words_of W)) (N + (split_nets W + rows_nets W)) (omega (arith, d.full o)) ∙ sym (wide_total w)

  module _ (o : is_over dry ≡ false) (start : LogState) (es : start ≡ dry_start s) (unmapped rw' rn words made : ℕ) (eu : unmapped ≡ dry.next - start.next) (erw : rw' ≡ size_words W) (ern : rn ≡ size_nets W)
      (ew : words ≡ dry.used + rw') (em : made ≡ unmapped + rn) where
    start_next : start.next ≡ start_net s
    unfolding dry_start
    start_next = ap (λ (x : LogState). x.next) es

    words_total : words ≡ U + rows_words_of W
    words_total = omega (arith, ew, d.words_are o, erw, words_are st.next m nets trits output a.number)

    nets_total_lem : made ≡ N + rows_nets W
    nets_total_lem = omega (arith, em, eu, d.next_is o, start_next, ern, nets_are st.next m nets trits output a.number)

    pub flat_number : m.width ≡ 0 → (n : ℕ) → n ≡ room_refusal room s words made → n ≡ log_refusal room s (lower_fallback W output)
    flat_number z n h =
        let f = width_is ∙ z in
        let ea : words ≡ U + 0 = omega (arith, words_total, flat-words W f) in
        let eb : made ≡ N + 0 = omega (arith, nets_total_lem, flat_nets_lem W f) in
        h ∙ (λ i. room_refusal room s (ea i) (eb i)) ∙ sym (flat_total f)

    pub wide_number_lem : m.width ≢ 0 → (n : ℕ) → n ≡ room_refusal room s (words + split_words W) (made + split_nets W) → n ≡ log_refusal room s (lower_fallback W output)
    wide_number_lem w n h =
        let ea : words + split_words W ≡ U + (split_words W + rows_words_of W) = omega (arith, words_total) in
        let eb : made + split_nets W ≡ N + (split_nets W + rows_nets W) = omega (arith, nets_total_lem) in
        h ∙ (λ i. room_refusal room s (ea i) (eb i)) ∙ sym (wide_total (λ z. w (sym width_is ∙ z)))
