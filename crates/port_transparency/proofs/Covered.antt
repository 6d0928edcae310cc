-- The two muxes over scratch, the address test, and the whole of a pair.
use mathlib.Core.Path.{◌≡◌, refl, sym, ap, ◌∙◌, subst}
use Prim.Native.Nat.{ℕ, ◌-◌, ◌<◌, ◌≤◌, min, max}
use native.Mathlib.Omega.{arith}
use mathlib.Core.Bool.{Bool, true, false}
use mathlib.Core.Option.{Option, none, some}
use mathlib.Core.List.{List, []}
use lib.ListN.{length, take, drop, replicate, length-append, length-replicate, length-drop}
use lib.Seq.{sets, take_all, length-take-le}
use lib.Dec.{ltb, eqb}
use borrow.Author.Tests.{lt-ltb, le-ltb, ltb-false, eqb-true, leb-true}
use Rattle.lists.specs.Choice.{when◌then◌else◌}
use Rattle.lists.specs.Lists.{pairs, up_from}
use Rattle.lists.specs.Distinct.{places}
use Rattle.lists.proofs.Stores.{take_stored}
use Rattle.lists.proofs.Pairs.{pairs_size}
use Rattle.lists.proofs.Distinct.{length_places}
use Rattle.rules.specs.Limits.{max_merge}
use Rattle.rules.specs.Value.{Value, zext, Control, Pos}
use Rattle.rules.specs.Cell.{WritePort, ReadPort}
use Rattle.rules.specs.Log.{Or, Trace, ◌>>=◌, done, add_or_of, add_eq_of}
use Rattle.rules.specs.Merge.{same2, add_dedup_mux_of, add_bitwise_mux_of}
use Rattle.rules.specs.Ports.{Seen, seen, Overlay, overlaid_mask}
use Rattle.rules.proofs.Chain.{chains_dedup_mux, chains_bitwise_mux, chains_eq, chains_or, chains_bind, chains_done, chains_shl, chains_ushr, chains_if}
use Rattle.rules.specs.Beside.Chain.{Chains}
use Rattle.rules.specs.Ports.{seen_wider, seen_narrower}
use Rattle.log_entries.specs.Emission.{Lent, is_over, run}
use Rattle.merge_mux.specs.Results.{limited, results}
use Rattle.merge_mux.specs.Runs.{bits_taken, bitwise_of}
use Rattle.merge_mux.proofs.Spread.{length_spread, results_are}
use Rattle.merge_mux.proofs.Limited.{limited-all}
use Rattle.merge_mux.proofs.Bitwise.{bitwise_length}
use Rattle.port_transparency.specs.Gave.{Gave}
use Rattle.port_transparency.specs.Pairs.{writing, reading, covered, laid_over, laid_if, like_wide, fitting, Fit, Sized}
use Rattle.port_transparency.proofs.Gave.{gave_done, gave_bind, gave_assoc, gave_fresh}

-- ---- the muxes
pub dedup_length : (c : Control) (a b : Value) (n : ℕ) → length (add_dedup_mux_of c a b n).value ≡ min (length a) (length b)
unfolding add_dedup_mux_of ◌>>=◌ done
dedup_length c a b n = length_spread (places same2 (pairs a b)) _ ∙ length_places same2 [] (pairs a b) ∙ pairs_size a b

pub bitwise_all : (s a b : Value) (n : ℕ) → length s ≡ n → length a ≡ n → length b ≡ n → n ≤ max_merge → bitwise_of s a b ≡ add_bitwise_mux_of s a b
unfolding bitwise_of bits_taken
bitwise_all s a b n es ea eb h =
    let e : min (min max_merge (length s)) (min (length a) (length b)) ≡ n = omega arith in
    rw e (λ i. add_bitwise_mux_of (take_all n s (omega arith) i) (take_all n a (omega arith) i) (take_all n b (omega arith) i))

-- a merging mux of n bits, whose result nets go to scratch
module _ (e n : ℕ) (a b sel sel' : List ℕ) (l l1 : Lent) (h : n ≤ max_merge) (ea : length a ≡ n) (eb : length b ≡ n) (rs : max_merge ≤ length sel) where
  all_of : add_dedup_mux_of (Pos e) (limited a) (limited b) ≡ add_dedup_mux_of (Pos e) a b
  all_of =
      let x = limited-all a (omega arith) in
      let y = limited-all b (omega arith) in
      λ i. add_dedup_mux_of (Pos e) (x i) (y i)

  pub gave_merge : l1 ≡ run (add_dedup_mux_of (Pos e) (limited a) (limited b)) l
      → sel' ≡ results (is_over l1.state) sel 0 (add_dedup_mux_of (Pos e) (limited a) (limited b) l.state.next).value
      → Gave (add_dedup_mux_of (Pos e) a b) l l1 (take n sel')
  gave_merge q s = record {
    ran = q ∙ ap (λ (t : Trace Value). run t l) all_of;
    value = λ o.
        let k = l.state.next in
        let p : sel' ≡ sets sel 0 (add_dedup_mux_of (Pos e) a b k).value = s ∙ results_are (is_over l1.state) sel 0 _ o ∙ ap (λ (t : Trace Value). sets sel 0 (t k).value) all_of in
        take_stored sel sel' (add_dedup_mux_of (Pos e) a b k).value n p (sym (dedup_length (Pos e) a b k ∙ (omega arith))) (omega arith);
  }

-- the select mux
module _ (e n : ℕ) (mask zeros zeros' sel sel' : List ℕ) (l l1 : Lent) (h : n ≤ max_merge) (em : length mask ≡ n)
    (ez : zeros' ≡ sets zeros 0 (replicate n 0)) (rz : max_merge ≤ length zeros) (rs : max_merge ≤ length sel) where
  zeros_are : take n zeros' ≡ replicate (length mask) 0
  zeros_are = take_stored zeros zeros' (replicate n 0) n ez (sym (length-replicate {A = ℕ} n 0)) (omega arith) ∙ ap (λ (k : ℕ). replicate k 0) (sym em)

  pub gave_select : l1 ≡ run (add_dedup_mux_of (Pos e) (limited mask) (limited (take n zeros'))) l
      → sel' ≡ results (is_over l1.state) sel 0 (add_dedup_mux_of (Pos e) (limited mask) (limited (take n zeros')) l.state.next).value
      → Gave (add_dedup_mux_of (Pos e) mask (replicate (length mask) 0)) l l1 (take n sel')
  gave_select q s =
      let k : length (take n zeros') ≡ n = ap length zeros_are ∙ length-replicate {A = ℕ} (length mask) 0 ∙ em in
      subst (λ (z : Value). Gave (add_dedup_mux_of (Pos e) mask z) l l1 (take n sel')) zeros_are (gave_merge e n mask (take n zeros') sel sel' l l1 h em k rs q s)

-- the data muxes, whose result nets go to scratch and then over the data
module _ (n : ℕ) (s bits under0 nets nets' : List ℕ) (l l1 : Lent) (h : n ≤ max_merge) (es : length s ≡ n) (eb : length bits ≡ n) (eu : length under0 ≡ n) (rn : max_merge ≤ length nets) where
  pub gave_bitwise : l1 ≡ run (bitwise_of s bits under0) l → (is_over l1.state ≡ false → nets' ≡ sets nets 0 (bitwise_of s bits under0 l.state.next).value)
      → Gave (add_bitwise_mux_of s bits under0) l l1 (take n nets')
  gave_bitwise q w =
      let a = bitwise_all s bits under0 n es eb eu h in
      record {
        ran = q ∙ ap (λ (t : Trace Value). run t l) a;
        value = λ o.
            take_stored nets nets' (add_bitwise_mux_of s bits under0 l.state.next).value n
            (w o ∙ ap (λ (t : Trace Value). sets nets 0 (t l.state.next).value) a)
            (sym (bitwise_length s bits under0 (eb ∙ sym es) (eu ∙ sym es) l.state.next ∙ es)) (omega arith);
      }

pub gave_covered : (e n : ℕ) (mask bits under : Value) (l l1 l2 : Lent) (s v : Value)
    → Gave (add_dedup_mux_of (Pos e) mask (replicate (length mask) 0)) l l1 s → Gave (add_bitwise_mux_of s bits under) l1 l2 v → Gave (covered e mask bits under) l l2 v
unfolding covered
gave_covered e n mask bits under l l1 l2 s v g h = gave_bind (add_dedup_mux_of (Pos e) mask (replicate (length mask) 0)) (λ x. add_bitwise_mux_of x bits under) l l1 l2 s v (chains_dedup_mux _ _ _) g h

pub chains_covered : (e : ℕ) (mask bits under : Value) → Chains (covered e mask bits under)
unfolding covered
chains_covered e mask bits under = chains_bind _ _ (chains_dedup_mux _ _ _) (λ s. chains_bitwise_mux s bits under)

-- another name of the value
pub gave_as : {A : Type 0} (t : Trace A) (l l1 : Lent) (v w : A) → w ≡ v → Gave t l l1 v → Gave t l l1 w
gave_as t l l1 v w e g = rw e g

-- what was copied over the data
pub copied : (under under' w : List ℕ) (n : ℕ) → under' ≡ sets under 0 w → length w ≡ n → n ≤ length under → take n under' ≡ w
copied under under' w n e f h = take_stored under under' w n e (sym f) h

-- the two muxes as the code has them: zeros, then result nets, in one scratch array
module _ (e n : ℕ) (mask bits under under' nets nets1 nets2 sel sel' : List ℕ) (l l1 l2 : Lent) (z : Sized bits mask n)
    (ru : max_merge ≤ length under) (rs : max_merge ≤ length sel) (rn : max_merge ≤ length nets) (ks : length sel' ≡ length sel) (k1 : length nets1 ≡ length nets) (k2 : length nets2 ≡ length nets) where
  pub covered-all : nets1 ≡ sets nets 0 (replicate n 0)
      → l1 ≡ run (add_dedup_mux_of (Pos e) (limited mask) (limited (take n nets1))) l
      → sel' ≡ results (is_over l1.state) sel 0 (add_dedup_mux_of (Pos e) (limited mask) (limited (take n nets1)) l.state.next).value
      → l2 ≡ run (bitwise_of (take n sel') bits (take n under)) l1
      → (is_over l2.state ≡ false → nets2 ≡ sets nets1 0 (bitwise_of (take n sel') bits (take n under) l1.state.next).value)
      → under' ≡ sets under 0 (take n nets2)
      → Gave (covered e mask bits (take n under)) l l2 (take n under')
  covered-all ez q1 s1 q2 s2 eu =
      let g1 = gave_select e n mask nets nets1 sel sel' l l1 z.few z.in_mask ez rn rs q1 s1 in
      let g2 = gave_bitwise n (take n sel') bits (take n under) nets1 nets2 l1 l2 z.few (length-take-le n sel' (omega (arith, z.few))) z.in_bits (length-take-le n under (omega (arith, z.few))) (omega arith) q2 s2 in
      gave_as (covered e mask bits (take n under)) l l2 (take n nets2) (take n under') (copied under under' (take n nets2) n eu (length-take-le n nets2 (omega (arith, z.few))) (omega (arith, z.few)))
      (gave_covered e n mask bits (take n under) l l1 l2 (take n sel') (take n nets2) g1 g2)

-- ---- the address test
pub zext_length : (v : Value) (n : ℕ) → length (zext v n) ≡ max n (length v)
unfolding zext
zext_length v n = length-append v (replicate (n - length v) 0) ∙ (omega (arith, length-replicate {A = ℕ} (n - length v) 0))

pub gave_eq : (a b x y : Value) (l l1 : Lent) → x ≡ a → y ≡ b → l1 ≡ run (add_eq_of x y) l → Gave (add_eq_of a b) l l1 l.state.next
unfolding add_eq_of
gave_eq a b x y l l1 e f q = record { ran = q ∙ (λ i. run (add_eq_of (e i) (f i)) l); value = λ o. refl }

-- ---- the whole of a pair
pub chains_seen : (kw kr : ℕ) (w : WritePort) (r : ReadPort) → Chains (seen kw kr w r)
unfolding seen seen_wider seen_narrower
chains_seen kw kr w r =
    chains_if (ltb kw kr) _ _ (chains_bind _ _ (chains_shl _ _ _) (λ v. chains_bind _ _ (chains_shl _ _ _) (λ n. chains_done _)))
    (chains_if (ltb kr kw) _ _ (chains_bind _ _ (chains_ushr _ _ _) (λ v. chains_bind _ _ (chains_ushr _ _ _) (λ n. chains_done _))) (chains_done _))

pub chains_overlaid : (e : ℕ) (w : Value) (o : Option Value) → Chains (overlaid_mask e w o)
unfolding overlaid_mask
chains_overlaid e w none = chains_done none
chains_overlaid e w (some m) = chains_bind _ _ (chains_or _ _) (λ x. chains_bind _ _ (chains_dedup_mux _ _ _) (λ y. chains_done _))

module _ (kw kr : ℕ) (w : WritePort) (r : ReadPort) (u : Value) (o : Option Value) (l l1 l2 l3 l4 : Lent) (s : Seen) (e : ℕ) (v : Value) (k : Option Value) where
  abbrev test : Trace ℕ
  test = add_eq_of (zext s.read_addr (length s.write_addr)) (zext s.write_addr (length s.read_addr))

  abbrev after : Overlay
  after = record { bits = v; mask = k }

  gave_tail : Gave (covered e s.mask s.bits u) l2 l3 v → Gave (overlaid_mask e s.mask o) l3 l4 k
      → Gave (add_dedup_mux_of (Pos e) s.mask (replicate (length s.mask) 0) >>= λ x. (add_bitwise_mux_of x s.bits u >>= λ y. (overlaid_mask e s.mask o >>= λ n. done (record { bits = y; mask = n })))) l2 l4 after
  unfolding covered
  gave_tail g h =
      gave_assoc (add_dedup_mux_of (Pos e) s.mask (replicate (length s.mask) 0)) (λ x. add_bitwise_mux_of x s.bits u) (λ y. (overlaid_mask e s.mask o >>= λ n. done (record { bits = y; mask = n }))) l2 l4 after
      (gave_bind (add_dedup_mux_of (Pos e) s.mask (replicate (length s.mask) 0) >>= λ x. add_bitwise_mux_of x s.bits u) _ l2 l3 l4 v after (chains_covered e s.mask s.bits u) g
      (gave_bind (overlaid_mask e s.mask o) _ l3 l4 l4 k after (chains_overlaid e s.mask o) h (gave_done after l4)))

  pub gave_laid : Gave (seen kw kr w r) l l1 s → Gave test l1 l2 e → Gave (covered e s.mask s.bits u) l2 l3 v → Gave (overlaid_mask e s.mask o) l3 l4 k
      → Gave (laid_over kw kr w r (record { bits = u; mask = o })) l l4 after
  unfolding laid_over
  gave_laid g h i j = gave_bind (seen kw kr w r) _ l l1 l4 s after (chains_seen kw kr w r) g (gave_bind test _ l1 l2 l4 e after (chains_eq _ _) h (gave_tail i j))

-- the same as the code has it: the rests of the addresses, and the values in scratch; then the mask
pub laid_all : (kw kr n : ℕ) (waddr raddr wdata wmask wrest rrest x y u v : Value) (l l1 l2 l3 : Lent) (e : ℕ)
    → wrest ≡ drop (kr - kw) waddr → rrest ≡ drop (kw - kr) raddr
    → Gave (seen kw kr (writing waddr wdata wmask) (reading raddr n)) l l1 (record { write_addr = drop (kr - kw) waddr; read_addr = drop (kw - kr) raddr; bits = x; mask = y })
    → Gave (add_eq_of (zext rrest (length wrest)) (zext wrest (length rrest))) l1 l2 e
    → Gave (covered e y x u) l2 l3 v
    → (o k : Option Value) (l4 : Lent) → Gave (overlaid_mask e y o) l3 l4 k
    → Gave (laid_over kw kr (writing waddr wdata wmask) (reading raddr n) (record { bits = u; mask = o })) l l4 (record { bits = v; mask = k })
laid_all kw kr n waddr raddr wdata wmask wrest rrest x y u v l l1 l2 l3 e ew er g h i o k l4 j =
    gave_laid kw kr (writing waddr wdata wmask) (reading raddr n) u o l l1 l2 l3 l4 (record { write_addr = drop (kr - kw) waddr; read_addr = drop (kw - kr) raddr; bits = x; mask = y }) e v k g (rw (ew, er) at h) i j

-- no mask is wanted
pub no_mask : (e : ℕ) (w : Value) (l : Lent) → Gave (overlaid_mask e w none) l l none
unfolding overlaid_mask
no_mask e w l = gave_done none l

-- the or of the masks, and the mux of it and the old mask, as the code has them in scratch
or_fresh : (a b : Value) (n : ℕ) (l l1 : Lent) (out out' : List ℕ) → length a ≡ n → l1 ≡ run (add_or_of a b) l
    → out' ≡ sets out 0 (up_from l.state.next (l1.state.next - l.state.next)) → n ≤ length out → Gave (add_or_of a b) l l1 (take n out')
unfolding add_or_of
or_fresh a b n l l1 out out' e q s h =
    subst (λ (k : ℕ). Gave (add_or_of a b) l l1 (take k out')) e (gave_fresh (λ first. Or first a b) (length a) l l1 out out' (chains_or a b) q s (omega arith))

module _ (e n : ℕ) (mask over over' nets nets' sel sel' : List ℕ) (l l1 l2 : Lent) (h : n ≤ max_merge)
    (ro : max_merge ≤ length over) (rs : max_merge ≤ length sel) (rn : max_merge ≤ length nets) (ks : length sel' ≡ length sel) (kn : length nets' ≡ length nets) where
  pub over-all : l1 ≡ run (add_or_of (take n over) (take n mask)) l → nets' ≡ sets nets 0 (up_from l.state.next (l1.state.next - l.state.next))
      → l2 ≡ run (add_dedup_mux_of (Pos e) (limited (take n nets')) (limited (take n over))) l1
      → sel' ≡ results (is_over l2.state) sel 0 (add_dedup_mux_of (Pos e) (limited (take n nets')) (limited (take n over)) l1.state.next).value
      → over' ≡ sets over 0 (take n sel')
      → Gave (overlaid_mask e (take n mask) (some (take n over))) l l2 (some (take n over'))
  unfolding overlaid_mask
  over-all q1 s1 q2 s2 eo =
      let ko = length-take-le n over (omega arith) in
      let g1 = or_fresh (take n over) (take n mask) n l l1 nets nets' ko q1 s1 (omega arith) in
      let g2 = gave_merge e n (take n nets') (take n over) sel sel' l1 l2 h (length-take-le n nets' (omega arith)) ko rs q2 s2 in
      let c = copied over over' (take n sel') n eo (length-take-le n sel' (omega arith)) (omega arith) in
      gave_as (overlaid_mask e (take n mask) (some (take n over))) l l2 (some (take n sel')) (some (take n over')) (ap (λ (x : Value). some x) c)
      (gave_bind (add_or_of (take n over) (take n mask)) _ l l1 l2 (take n nets') (some (take n sel')) (chains_or _ _) g1
      (gave_bind (add_dedup_mux_of (Pos e) (take n nets') (take n over)) _ l1 l2 l2 (take n sel') (some (take n sel')) (chains_dedup_mux _ _ _) g2 (gave_done (some (take n sel')) l2)))

pub rest_short : (x a : List ℕ) (d k : ℕ) → x ≡ drop d a → length a ≤ k → length x ≤ k
rest_short x a d k e h = omega (arith, ap length e, length-drop d a)

-- ---- pairs that fit
pub stop : {t : Bool} (x : Bool) → t ≡ true → false ≡ (when t then false else x)
stop x e = rw e

pub skip : {t x r : Bool} → t ≡ false → r ≡ x → r ≡ (when t then false else x)
skip e f = rw e f

module _ (kw kr waddr raddr size mask n : ℕ) where
  pub fits : fitting kw kr waddr raddr size mask n ≡ true → Fit kw kr waddr raddr size mask n
  unfolding fitting like_wide
  fits e =
      let a = yes (ltb max_merge waddr) _ e in
      let b = yes (ltb max_merge raddr) _ a.1 in
      let c = yes (ltb waddr (kr - kw)) _ b.1 in
      let d = yes (ltb raddr (kw - kr)) _ c.1 in
      let f = yes (ltb max_merge n) _ d.1 in
      let g = yes (ltb max_merge size) _ f.1 in
      let h = no (eqb mask size) _ g.1 in
      record {
        short_w = ltb-false _ _ a.0;
        short_r = ltb-false _ _ b.0;
        enough_w = ltb-false _ _ c.0;
        enough_r = ltb-false _ _ d.0;
        few = ltb-false _ _ f.0;
        few_bits = ltb-false _ _ g.0;
        masked = eqb-true _ _ h.0;
        up = λ p. leb-true size n (rw (lt-ltb kw kr p) at h.1);
        down = λ p. leb-true n size (rw (le-ltb kw kr (under p), lt-ltb kr kw p) at h.1);
        even = λ p. eqb-true size n (rw (le-ltb kw kr (same1 p), le-ltb kr kw (same2' p)) at h.1);
      }
    where
      yes : (t : Bool) (x : Bool) → (when t then false else x) ≡ true → (t ≡ false) × (x ≡ true)
      yes true x q = let z : ◌≡◌ {A = ℕ} 0 1 = cc in absurd (omega arith)
      yes false x q = (refl, q)

      no : (t : Bool) (x : Bool) → (when t then x else false) ≡ true → (t ≡ true) × (x ≡ true)
      no true x q = (refl, q)
      no false x q = let z : ◌≡◌ {A = ℕ} 0 1 = cc in absurd (omega arith)

      under : kr < kw → kr ≤ kw
      under p = omega arith

      same1 : kw ≡ kr → kr ≤ kw
      same1 p = omega arith

      same2' : kw ≡ kr → kw ≤ kr
      same2' p = omega arith

-- a pair that fits, and one that does not
module _ (kw kr : ℕ) (w : WritePort) (r : ReadPort) (o : Overlay) (l : Lent) where
  abbrev test_of : Bool
  test_of = fitting kw kr (length w.addr) (length r.addr) (length w.bits) (length w.mask) r.data_len

  pub laid_fits : (l1 : Lent) (p : Overlay) → test_of ≡ true → Gave (laid_over kw kr w r o) l l1 p → Gave (laid_if kw kr w r o) l l1 p
  unfolding laid_if
  laid_fits l1 p e g = rw e g

  pub laid_not : test_of ≡ false → Gave (laid_if kw kr w r o) l l o
  unfolding laid_if
  laid_not e = rw e (gave_done o l)
