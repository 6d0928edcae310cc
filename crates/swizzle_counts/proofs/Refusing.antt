-- The refusal of a swizzle by its tests: the plan's number, width 0, depth 0, and what a swizzle of rows asks for.
use mathlib.Core.Path.{◌≡◌, refl, sym, ap, ◌∙◌}
use mathlib.Core.Logic.{◌≢◌}
use Prim.Native.Nat.{ℕ, ◌-◌, ◌≤◌, ◌<◌}
use native.Mathlib.Omega.{arith}
use mathlib.Core.Bool.{Bool, true, false, not, ◌&&◌, ◌||◌}
use mathlib.Core.List.{List, [], ◌∷◌, ◌++◌, map}
use lib.ListN.{length}
use lib.Dec.{eqb}
use borrow.Author.Tests.{eq-eqb, ne_eqb, lt-ltb, le-ltb}
use Rattle.lists.specs.Choice.{when◌then◌else◌, ◌or_else◌}
use Rattle.lists.specs.Lists.{any, pairs, up_from, concat_map}
use Rattle.lists.proofs.Choice.{else_first, else_rest, or_both, or_left, or_right}
use Rattle.rules.specs.Value.{Value}
use Rattle.rules.specs.Cell.{ReadPort, Mem, Given, Plan, write_wide_log2, read_wide_log2, write_at, held, transparent_ports}
use Rattle.rules.specs.Log.{Trace, done, LogState, start_net}
use Rattle.rules.specs.Ports.{Driving}
use Rattle.rules.specs.Geometry.{layout_of}
use Rattle.rules.specs.Image.{image_size}
use Rattle.rules.specs.Swizzle.{swizzle, swizzle_rows, shared_write, shared_nets, shared_read, shared_trits, swizzle_scratch, piece_nets}
use Rattle.rules.specs.Numbers.{largest}
use Rattle.rules.specs.Conditions.{no_room_of, too_few_bits, short_pair, short_port, short_ports}
use Rattle.rules.specs.Refusals as rules
use Rattle.rules.specs.Refusals.{room_refusal, log_refusal, lent_refusal, image_refusal, results_refusal, swizzle_plan_number, swizzle_number, swizzle_refusal}
use Rattle.rules.specs.declared.numbers.Refusal.{Refusal}
use Rattle.rules.specs.Refusal as refusal
use Rattle.rules.proofs.Done.{done_value}
use Rattle.rules.proofs.Answers.{number_nonzero}
use Rattle.rules.proofs.Counted.{counted_done, counted_refusal}
use Rattle.net_memory.proofs.WideLaws.{log_no_width}
use Rattle.swizzle_counts.specs.declared.Needs.{Needs}
use Rattle.swizzle_counts.specs.Refusal.{needs_refusal, rows_refusal}

-- ---- 20 and 21, test by test
module _ (r : rules.SwizzleRooms) (room : ℕ) (s : LogState) (n : Needs) (image : ℕ) where
  abbrev results : Bool
  results = no_room_of r.nets n.room || no_room_of r.trits n.trits

  abbrev after-results : ℕ
  after-results = lent_refusal r.scratch n.scratch or_else room_refusal room s n.words n.nets

  room_not : (a b : ℕ) → a < b → no_room_of a b ≡ true
  unfolding no_room_of
  room_not a b h = lt-ltb a b h

  room_is : (a b : ℕ) → b ≤ a → no_room_of a b ≡ false
  unfolding no_room_of
  room_is a b h = le-ltb a b h

  lent_20 : (a b rest : ℕ) → a < b → 20 ≡ (lent_refusal a b or_else rest)
  lent_20 a b rest h = sym (else_first (lent_refusal a b) rest (λ z. absurd (omega (arith, z, full))) ∙ full)
    where
      full : lent_refusal a b ≡ 20
      full = ap (λ (t : Bool). when t then 20 else 0) (room_not a b h)

  lent_0 : (a b x rest : ℕ) → b ≤ a → x ≡ rest → x ≡ (lent_refusal a b or_else rest)
  lent_0 a b x rest h e = e ∙ sym (else_rest (lent_refusal a b) rest (ap (λ (t : Bool). when t then 20 else 0) (room_is a b h)))

  some_20 : (t : Bool) (rest : ℕ) → t ≡ true → 20 ≡ ((when t then 20 else 0) or_else rest)
  some_20 t rest e = sym (ap (λ (b : Bool). (when b then 20 else 0) or_else rest) e ∙ else_first 20 rest (λ z. absurd (omega (arith, z))))

  some_0 : (t : Bool) (x rest : ℕ) → t ≡ false → x ≡ rest → x ≡ ((when t then 20 else 0) or_else rest)
  some_0 t x rest e f = f ∙ sym (ap (λ (b : Bool). (when b then 20 else 0) or_else rest) e ∙ else_rest 0 rest refl)

  pub need_image : r.image < image → 20 ≡ needs_refusal r room s n image
  unfolding needs_refusal
  need_image h = lent_20 r.image image _ h

  module _ (h1 : image ≤ r.image) where
    pub need_nets : r.nets < n.room → 20 ≡ needs_refusal r room s n image
    unfolding needs_refusal
    need_nets h = lent_0 r.image image 20 _ h1 (some_20 results after-results (or_left _ (room_not r.nets n.room h)))

    module _ (h2 : n.room ≤ r.nets) where
      pub need_trits : r.trits < n.trits → 20 ≡ needs_refusal r room s n image
      unfolding needs_refusal
      need_trits h = lent_0 r.image image 20 _ h1 (some_20 results after-results (or_right (room_is r.nets n.room h2) (room_not r.trits n.trits h)))

      module _ (h3 : n.trits ≤ r.trits) where
        need_rest : (x : ℕ) → x ≡ after-results → x ≡ needs_refusal r room s n image
        unfolding needs_refusal
        need_rest x e = lent_0 r.image image x _ h1 (some_0 results x after-results (or_both (room_is r.nets n.room h2) (room_is r.trits n.trits h3)) e)

        pub need_scratch : r.scratch < n.scratch → 20 ≡ needs_refusal r room s n image
        need_scratch h = need_rest 20 (lent_20 r.scratch n.scratch _ h)

        pub need_log : n.scratch ≤ r.scratch → (k : ℕ) → k ≡ room_refusal room s n.words n.nets → k ≡ needs_refusal r room s n image
        need_log h k e = need_rest k (lent_0 r.scratch n.scratch k _ h e)

-- ---- width 0: no pair of ports is short
any_none : {A : Type 0} (f : A → Bool) (l : List A) → ((a : A) → f a ≡ false) → any f l ≡ false
any_none f [] h = refl
any_none f (a ∷ l) h = or_both (h a) (any_none f l h)

few_none : (kw kr : ℕ) (v w : Value) → 0 ≡ kw → 0 ≡ kr → too_few_bits kw kr v w ≡ false
unfolding too_few_bits
few_none kw kr v w e f = or_both (le-ltb (length v) (kr - kw) (omega arith)) (le-ltb (length w) (kw - kr) (omega arith))

pair_none : (m : Mem) (r : ReadPort) (j : ℕ) → m.width ≡ 0 → short_pair m r j ≡ false
unfolding short_pair write_wide_log2 read_wide_log2
pair_none m r j e = few_none _ _ (write_at m j).addr r.addr (log_no_width m.width (length (write_at m j).bits) e) (log_no_width m.width r.data_len e)

ports_none : (m : Mem) → m.width ≡ 0 → short_ports m ≡ false
unfolding short_ports short_port
ports_none m e = any_none _ m.reads (λ r. any_none _ (held r.flip_flop) (λ f. any_none _ (transparent_ports f) (λ j. pair_none m r j e)))

-- ---- no memories take no room
concat_none : {A : Type 0} (f : A → List ℕ) (l : List A) → ((a : A) → f a ≡ []) → concat_map f l ≡ []
concat_none f [] h = refl
concat_none f (a ∷ l) h = λ i. h a i ++ concat_none f l h i

pub no_nets_lem : (m : Mem) → length (shared_nets m []) ≡ 0
unfolding shared_nets shared_write
no_nets_lem m = λ i. length (concat_none (shared_write []) (up_from 0 (length m.writes)) (λ j. refl) i ++ concat_none {A = ℕ} (λ j. []) (up_from 0 (length m.reads)) (λ j. refl) i)

pub no_trits_lem : (m : Mem) → length (shared_trits m []) ≡ 0
unfolding shared_trits shared_read
no_trits_lem m = ap length (concat_none _ (up_from 0 (length m.reads)) (λ i. refl))

pub no_need : (a b : ℕ) → b ≡ 0 → no_room_of a b ≡ false
unfolding no_room_of
no_need a b e = le-ltb a b (omega arith)

-- ---- the whole refusal
module _ (r : rules.SwizzleRooms) (room : ℕ) (st : LogState) (g : Given) (output : Value) (p : Plan) where
  abbrev m : Mem
  m = g.mem

  abbrev number : ℕ
  number = swizzle_plan_number st.next g output p

  abbrev fourteen : ℕ
  fourteen = when eqb m.depth 0 && short_ports m then 14 else 0

  -- 20 and 21
  abbrev lent : ℕ
  lent =
      image_refusal r.image (layout_of m p)
      or_else results_refusal r m (swizzle m output p (start_net st)).value
      or_else lent_refusal r.scratch (swizzle_scratch m p)
      or_else log_refusal room st (swizzle m output p)

  form : rows_refusal r room st g output p ≡ (when not (eqb m.width 0) && eqb m.depth 0 then number else ((number or_else fourteen) or_else lent))
  unfolding rows_refusal swizzle_refusal swizzle_number
  form = refl

  by_plan : (n : ℕ) → n ≡ number → n ≢ 0 → n ≡ rows_refusal r room st g output p
  by_plan n e h = on (not (eqb m.width 0) && eqb m.depth 0) ∙ sym form
    where
      first : ((number or_else fourteen) or_else lent) ≡ n
      first =
          let a = else_first number fourteen (λ z. h (e ∙ z)) in
          else_first (number or_else fourteen) lent (λ z. h (e ∙ sym a ∙ z)) ∙ a ∙ sym e

      on : (t : Bool) → n ≡ (when t then number else ((number or_else fourteen) or_else lent))
      on true = e
      on false = sym first

  pub plan_err : (e : Refusal) → refusal.number e ≡ number → refusal.number e ≡ rows_refusal r room st g output p
  plan_err e h = by_plan (refusal.number e) h (number_nonzero e)

  module _ (z : number ≡ 0) where
    -- depth 0 is left to the caller
    pub by_empty : m.width ≢ 0 → m.depth ≡ 0 → 0 ≡ rows_refusal r room st g output p
    by_empty w d = sym (form ∙ (λ i. when not (ne_eqb m.width 0 w i) && eq-eqb m.depth 0 d i then number else ((number or_else fourteen) or_else lent)) ∙ z)

    number_is : fourteen ≡ 0 → swizzle_number st.next g output p ≡ 0
    unfolding swizzle_number
    number_is e = else_rest number fourteen z ∙ e

    past : (t : Bool) (k : ℕ) → (not (eqb m.width 0) && eqb m.depth 0) ≡ t → t ≡ false → fourteen ≡ 0 → k ≡ lent → k ≡ rows_refusal r room st g output p
    past t k e f q h =
        h ∙ sym (form ∙ ap (λ (b : Bool). when b then number else ((number or_else fourteen) or_else lent)) (e ∙ f)
        ∙ else_rest (number or_else fourteen) lent (else_rest number fourteen z ∙ q))

    -- ---- width 0
    module _ (w : m.width ≡ 0) where
      flat_14 : fourteen ≡ 0
      flat_14 = ap (λ (b : Bool). when eqb m.depth 0 && b then 14 else 0) (ports_none m w) ∙ on (eqb m.depth 0)
        where
          on : (t : Bool) → ◌≡◌ {A = ℕ} (when t && false then 14 else 0) 0
          on true = refl
          on false = refl

      flat_image : image_size (layout_of m p) ≡ 0
      unfolding image_size layout_of
      flat_image = rw (eq-eqb m.width 0 w)

      flat_trace : swizzle m output p ≡ done []
      unfolding swizzle
      flat_trace = rw (eq-eqb m.width 0 w)

      flat_scratch : swizzle_scratch m p ≡ 0
      unfolding swizzle_scratch
      flat_scratch = rw (eq-eqb m.width 0 w)

      flat-results : results_refusal r m (swizzle m output p (start_net st)).value ≡ 0
      unfolding results_refusal
      flat-results =
          ap (λ (ds : List Driving). when no_room_of r.nets (length (shared_nets m ds)) || no_room_of r.trits (length (shared_trits m ds)) then 20 else 0) (ap (λ (t : Trace (List Driving)). (t (start_net st)).value) flat_trace ∙ done_value [] (start_net st))
          ∙ (λ i. when no_need r.nets _ (no_nets_lem m) i || no_need r.trits _ (no_trits_lem m) i then 20 else 0)

      flat-log : log_refusal room st (swizzle m output p) ≡ room_refusal room st 0 0
      flat-log = ap (log_refusal room st) flat_trace ∙ counted_refusal (done []) 0 0 (counted_done []) room st

      lent_none : (a b : ℕ) → b ≡ 0 → lent_refusal a b ≡ 0
      lent_none a b e = ap (λ (t : Bool). when t then 20 else 0) (no_need a b e)

      flat_first : image_refusal r.image (layout_of m p) ≡ 0
      unfolding image_refusal
      flat_first = lent_none r.image _ flat_image

      pub by_flat : (k : ℕ) → k ≡ room_refusal room st 0 0 → k ≡ rows_refusal r room st g output p
      by_flat k e =
          past _ k refl (ap (λ (b : Bool). not b && eqb m.depth 0) (eq-eqb m.width 0 w)) flat_14
          (e ∙ sym (else_rest (image_refusal r.image (layout_of m p)) _ flat_first ∙ else_rest (results_refusal r m (swizzle m output p (start_net st)).value) _ flat-results
          ∙ else_rest (lent_refusal r.scratch (swizzle_scratch m p)) _ (lent_none r.scratch _ flat_scratch) ∙ flat-log))

    -- ---- rows
    module _ (w : m.width ≢ 0) (d : m.depth ≢ 0) where
      rows_14 : fourteen ≡ 0
      rows_14 = ap (λ (b : Bool). when b && short_ports m then 14 else 0) (ne_eqb m.depth 0 d)

      pub rows_number : swizzle_number st.next g output p ≡ 0
      rows_number = number_is rows_14

      rows_trace : swizzle m output p ≡ swizzle_rows m output p
      unfolding swizzle
      rows_trace = rw (ne_eqb m.width 0 w, ne_eqb m.depth 0 d)

      rows_scratch : swizzle_scratch m p ≡ largest (map (piece_nets m p) (pairs m.reads p.read_wide_of))
      unfolding swizzle_scratch
      rows_scratch = rw (ne_eqb m.width 0 w, ne_eqb m.depth 0 d)

      -- by needs that are those of the rules
      pub by_rows : (n : Needs) (image k : ℕ) → image ≡ image_size (layout_of m p)
          → n.room ≡ length (shared_nets m (swizzle_rows m output p (start_net st)).value) → n.trits ≡ length (shared_trits m (swizzle_rows m output p (start_net st)).value)
          → n.scratch ≡ largest (map (piece_nets m p) (pairs m.reads p.read_wide_of))
          → room_refusal room st n.words n.nets ≡ log_refusal room st (swizzle_rows m output p)
          → k ≡ needs_refusal r room st n image → k ≡ rows_refusal r room st g output p
      unfolding needs_refusal image_refusal results_refusal
      by_rows n image k ei en et es el e =
          past _ k refl (on (eqb m.width 0) (ne_eqb m.depth 0 d)) rows_14
          (e ∙ (λ i. lent_refusal r.image (ei i)
          or_else (when no_room_of r.nets ((en ∙ values (λ ds. length (shared_nets m ds))) i) || no_room_of r.trits ((et ∙ values (λ ds. length (shared_trits m ds))) i) then 20 else 0)
          or_else lent_refusal r.scratch ((es ∙ sym rows_scratch) i)
          or_else (el ∙ ap (log_refusal room st) (sym rows_trace)) i))
        where
          values : (f : List Driving → ℕ) → f (swizzle_rows m output p (start_net st)).value ≡ f (swizzle m output p (start_net st)).value
          values f = ap (λ (t : Trace (List Driving)). f (t (start_net st)).value) (sym rows_trace)

          on : (t : Bool) → eqb m.depth 0 ≡ false → (not t && eqb m.depth 0) ≡ false
          on true f = refl
          on false f = f
