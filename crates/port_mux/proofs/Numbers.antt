-- The tests of an overlay and of a pair of ports, and the numbers in their order.
use mathlib.Core.Path.{◌≡◌, refl, sym, ap, ◌∙◌}
use Prim.Native.Nat.{ℕ, ◌<◌, ◌≤◌, min}
use mathlib.Core.Bool.{Bool, true, false, not, ◌&&◌, ◌||◌}
use mathlib.Core.List.{List}
use lib.ListN.{length}
use lib.Dec.{eqb, ltb, leb}
use borrow.Author.Tests.{le-leb, lt-leb, lt-ltb, le-ltb}
use Rattle.lists.specs.Choice.{when◌then◌else◌}
use Rattle.lists.specs.Lists.{any}
use Rattle.rules.specs.declared.numbers.Refusal.{Refusal}
use Rattle.rules.specs.Refusal.{number}
use Rattle.rules.proofs.Answers.{else_err, else_ok}
use Rattle.rules.specs.Limits.{max_ports}
use Rattle.rules.specs.Value.{Value}
use Rattle.rules.specs.Cell.{ReadPort, Mem, read_at_of, held}
use Rattle.rules.specs.Conditions.{short_pair, bad_port, not_below, no_room_of, long_value, bad_value}
use Rattle.rules.specs.Ports.{Overlay}
use Rattle.rules.specs.Refusals.{mem_number, overlay_values, bad_overlay_lens, no_pair, pair_ports_number, transparency_mux_number, overlay_refusal}
use Rattle.net_memory.specs.declared.Memory.{Memory}
use Rattle.net_memory.specs.View.{memory_of, reads_of, writes_of, read_port}
use Rattle.net_memory.specs.Given.{given_of}
use Rattle.net_memory.proofs.Ports.{read_of_view, reads_at}
use Rattle.port_mux.specs.declared.Asked.{Asked}
use Rattle.port_mux.specs.Call.{overlay_of, given_mask, asked_of}
use Rattle.std.specs.Prelude.{Option, None, Some, is_some}
use Rattle.std.specs.Borrow.{Bor}
use Rattle.std.specs.Option.{MatchOption}

-- ---- a mask that is handed, or none
pub none_is : (o : Option (Bor Value)) → o ≡ None → is_some o ≡ false
none_is o e = ap (λ (x : Option (Bor Value)). is_some x) e

pub some_is : (o : Option (Bor Value)) (k : Bor Value) → o ≡ Some k → (is_some o ≡ true) × (k.now ≡ given_mask o)
some_is o k e = (ap (λ (x : Option (Bor Value)). is_some x) e, sym (ap given_mask e))

-- ---- a test of the overlay's values
abbrev pub is_some_so : (Value → Bool) → Option (Bor Value) → Bool
is_some_so f None = false
is_some_so f (Some k) = f k.now

pub some_so : (f : Value → Bool) (o : Option (Bor Value)) (r : Bool) (Q : Bor Value → Type 0) → MatchOption o (r ≡ false) Q → ((v : Bor Value) → Q v → r ≡ f v.now) → r ≡ is_some_so f o
some_so f None r Q h e = h
some_so f (Some k) r Q h e = e k h

or_none : (a : Bool) → a ≡ (a || false)
or_none true = refl
or_none false = refl

module _ (f : Value → Bool) (o : Asked) where
  pub any_first : f o.bits.now ≡ true → true ≡ any f (overlay_values (asked_of o))
  unfolding overlay_values
  any_first e = sym (ap (λ (t : Bool). t || any f (held (asked_of o).mask)) e)

  mask_held : (m : Option (Bor Value)) → any f (held (overlay_of (is_some m) o.bits.now (given_mask m)).mask) ≡ is_some_so f m
  unfolding held
  mask_held None = refl
  mask_held (Some k) = sym (or_none (f k.now))

  pub any_rest : f o.bits.now ≡ false → is_some_so f o.mask ≡ any f (overlay_values (asked_of o))
  unfolding overlay_values
  any_rest e = sym (mask_held o.mask) ∙ sym (ap (λ (t : Bool). t || any f (held (asked_of o).mask)) e)

-- ---- the port that the code reads
module _ (m : Memory) (nets trits : List ℕ) (i : ℕ) (h : i < min max_ports m.read_count) where
  abbrev M : Mem
  M = memory_of m nets trits

  pub data_at : (read_at_of M i).data_len ≡ (read_port m i).data_len
  data_at = ap (λ (r : ReadPort). r.data_len) (read_of_view m nets trits i ∙ reads_at m nets trits i h)

module _ (m : Memory) (nets trits : List ℕ) (i : ℕ) (rl : length (reads_of m nets trits) ≡ min max_ports m.read_count) where
  pub port_none : min max_ports m.read_count ≤ i → bad_port (memory_of m nets trits) i ≡ true
  unfolding bad_port not_below memory_of
  port_none h = ap (λ (n : ℕ). leb n i) rl ∙ le-leb _ _ h

  pub port_there : i < min max_ports m.read_count → bad_port (memory_of m nets trits) i ≡ false
  unfolding bad_port not_below memory_of
  port_there h = ap (λ (n : ℕ). leb n i) rl ∙ lt-leb _ _ h

  -- ---- the overlay's lengths
  pub unlike_none : (o : Overlay) → min max_ports m.read_count ≤ i → false ≡ bad_overlay_lens (memory_of m nets trits) i o
  unfolding bad_overlay_lens
  unlike_none o h = sym (ap (λ (t : Bool). not t && any (λ v. not (eqb (length v) (read_at_of (memory_of m nets trits) i).data_len)) (overlay_values o)) (port_none h))

  pub unlike_there : (o : Overlay) (r : Bool) (n : ℕ) → i < min max_ports m.read_count → n ≡ (read_port m i).data_len
      → r ≡ any (λ v. not (eqb (length v) n)) (overlay_values o) → r ≡ bad_overlay_lens (memory_of m nets trits) i o
  unfolding bad_overlay_lens
  unlike_there o r n h e q =
      let d = e ∙ sym (data_at m nets trits i h) in
      q ∙ (λ k. not (sym (port_there h) k) && any (λ v. not (eqb (length v) (d k))) (overlay_values o))

  -- ---- 14 and 15
  module _ (j : ℕ) (wl : length (writes_of m nets) ≡ min max_ports m.write_count) where
    abbrev W : Mem
    W = memory_of m nets trits

    below_is : (b : Bool) → leb (min max_ports m.write_count) j ≡ b → not_below (length W.writes) j ≡ b
    unfolding not_below memory_of
    below_is b e = ap (λ (n : ℕ). leb n j) wl ∙ e

    pair_15 : no_pair W i j ≡ true → 15 ≡ pair_ports_number W i j
    unfolding pair_ports_number
    pair_15 e = sym (λ k. when not (e k) && short_pair W (read_at_of W i) j then 14 else when e k then 15 else 0)

    none_read : min max_ports m.read_count ≤ i → no_pair W i j ≡ true
    unfolding no_pair
    none_read h = ap (λ (t : Bool). t || not_below (length W.writes) j) (port_none h)

    pub no_read : min max_ports m.read_count ≤ i → 15 ≡ pair_ports_number W i j
    no_read h = pair_15 (none_read h)

    none_write : i < min max_ports m.read_count → min max_ports m.write_count ≤ j → no_pair W i j ≡ true
    unfolding no_pair
    none_write h g = λ k. port_there h k || below_is true (le-leb _ _ g) k

    pub no_write : i < min max_ports m.read_count → min max_ports m.write_count ≤ j → 15 ≡ pair_ports_number W i j
    no_write h g = pair_15 (none_write h g)

    module _ (h : i < min max_ports m.read_count) (g : j < min max_ports m.write_count) where
      both_there : no_pair W i j ≡ false
      unfolding no_pair
      both_there = λ k. port_there h k || below_is false (lt-leb _ _ g) k

      pub pair_14 : true ≡ short_pair W (read_at_of W i) j → 14 ≡ pair_ports_number W i j
      unfolding pair_ports_number
      pair_14 e = λ k. when not (sym both_there k) && e k then 14 else when sym both_there k then 15 else 0

      pub pair_0 : false ≡ short_pair W (read_at_of W i) j → 0 ≡ pair_ports_number W i j
      unfolding pair_ports_number
      pair_0 e = λ k. when not (sym both_there k) && e k then 14 else when sym both_there k then 15 else 0

-- ---- the numbers
module _ (next : ℕ) (m : Memory) (nets trits : List ℕ) (i j : ℕ) (o : Overlay) (one two four : Bool)
    (e1 : one ≡ any long_value (overlay_values o)) (e2 : two ≡ bad_overlay_lens (memory_of m nets trits) i o) (e4 : four ≡ any (bad_value next) (overlay_values o)) where
  first_is : mem_number one two four next (given_of m nets trits) ≡ mem_number (any long_value (overlay_values o)) (bad_overlay_lens (memory_of m nets trits) i o) (any (bad_value next) (overlay_values o)) next (given_of m nets trits)
  first_is = λ k. mem_number (e1 k) (e2 k) (e4 k) next (given_of m nets trits)

  pub num_first : (e : Refusal) → number e ≡ mem_number one two four next (given_of m nets trits) → number e ≡ transparency_mux_number next (given_of m nets trits) i j o
  unfolding transparency_mux_number
  num_first e h = else_err e _ _ (h ∙ first_is)

  pub num_rest : 0 ≡ mem_number one two four next (given_of m nets trits) → (r : ℕ) → r ≡ pair_ports_number (memory_of m nets trits) i j → r ≡ transparency_mux_number next (given_of m nets trits) i j o
  unfolding transparency_mux_number
  num_rest z r q = else_ok _ _ r (z ∙ first_is) q

-- ---- the rooms
module _ (bits mask n : ℕ) (masked : Bool) (b k : Value) where
  abbrev rooms : ℕ
  rooms = overlay_refusal (record { bits = bits; mask = mask }) n (overlay_of masked b k)

  pub room_bits : bits < n → 20 ≡ rooms
  unfolding overlay_refusal no_room_of
  room_bits h = sym (ap (λ (t : Bool). when t || any (λ x. ltb mask n) (held (overlay_of masked b k).mask) then 20 else 0) (lt-ltb bits n h))

  module _ (h : n ≤ bits) where
    pub room-plain : masked ≡ false → 0 ≡ rooms
    unfolding overlay_refusal no_room_of held
    room-plain e = sym (λ i. when le-ltb bits n h i || any (λ x. ltb mask n) (held (overlay_of (e i) b k).mask) then 20 else 0)

    pub room_mask : masked ≡ true → mask < n → 20 ≡ rooms
    unfolding overlay_refusal no_room_of held
    room_mask e g = sym (λ i. when le-ltb bits n h i || any (λ x. lt-ltb mask n g i) (held (overlay_of (e i) b k).mask) then 20 else 0)

    pub room_both : masked ≡ true → n ≤ mask → 0 ≡ rooms
    unfolding overlay_refusal no_room_of held
    room_both e g = sym (λ i. when le-ltb bits n h i || any (λ x. le-ltb mask n g i) (held (overlay_of (e i) b k).mask) then 20 else 0)
