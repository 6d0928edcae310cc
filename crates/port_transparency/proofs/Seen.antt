-- A write port as a read port sees it: the shifts and the three cases.
use mathlib.Core.Path.{◌≡◌, sym, ap, ◌∙◌}
use Prim.Native.Nat.{ℕ, ◌-◌, ◌<◌, ◌≤◌}
use native.Mathlib.Omega.{arith}
use mathlib.Core.List.{List, []}
use lib.ListN.{length, take, drop, replicate, length-append, length-replicate}
use lib.Seq.{sets, take-take}
use borrow.Author.Tests.{lt-ltb, le-ltb}
use Rattle.lists.specs.Lists.{up_from}
use Rattle.lists.proofs.Stores.{take_stored}
use Rattle.rules.specs.Value.{Value, zext}
use Rattle.rules.specs.Cell.{WritePort, ReadPort}
use Rattle.rules.specs.Log.{Shl, Ushr, done, add_shl_of, add_ushr_of}
use Rattle.rules.specs.Conditions.{too_few_bits}
use Rattle.rules.specs.Ports.{narrower_select, seen_wider, seen_narrower, seen}
use Rattle.rules.specs.Refusals.{narrower_select_refusal}
use Rattle.rules.specs.Answers.{narrower_select_call}
use Rattle.rules.proofs.Chain.{chains_shl, chains_ushr}
use Rattle.net_logic.specs.View.{given_part}
use Rattle.net_logic.proofs.Parts.{part-given}
use Rattle.log_entries.specs.Emission.{Lent, run}
use Rattle.port_transparency.specs.Gave.{Gave}
use Rattle.port_transparency.specs.Pairs.{writing, reading}
use Rattle.port_transparency.proofs.Gave.{gave_done, gave_bind, gave_fresh}

-- ---- values filled up
pub length_zext : (v : Value) (n : ℕ) → length v ≤ n → length (zext v n) ≡ n
unfolding zext
length_zext v n h = length-append v (replicate (n - length v) 0) ∙ (omega (arith, length-replicate {A = ℕ} (n - length v) 0))

pub zext_stored : (z z' v : List ℕ) (n k : ℕ) → z' ≡ sets z 0 (zext v n) → length (zext v n) ≡ k → k ≤ length z → take k z' ≡ zext v n
zext_stored z z' v n k e f h = take_stored z z' (zext v n) k e (sym f) h

-- ---- one shift, whose result nets are stored
module _ (stride : ℕ) (select a : Value) (l l1 : Lent) (out out' : List ℕ) where
  shl_fresh : l1 ≡ run (add_shl_of stride select a) l → out' ≡ sets out 0 (up_from l.state.next (l1.state.next - l.state.next)) → length a ≤ length out
      → Gave (add_shl_of stride select a) l l1 (take (length a) out')
  unfolding add_shl_of
  shl_fresh q s h = gave_fresh (λ first. Shl first stride select a) (length a) l l1 out out' (chains_shl stride select a) q s h

  pub ushr_fresh : l1 ≡ run (add_ushr_of stride select a) l → out' ≡ sets out 0 (up_from l.state.next (l1.state.next - l.state.next)) → length a ≤ length out
      → Gave (add_ushr_of stride select a) l l1 (take (length a) out')
  unfolding add_ushr_of
  ushr_fresh q s h = gave_fresh (λ first. Ushr first stride select a) (length a) l l1 out out' (chains_ushr stride select a) q s h

-- of a value that was filled up in scratch
module _ (select v x : Value) (n : ℕ) (l l1 : Lent) (out out' : List ℕ) where
  pub gave_shl : length v ≤ n → x ≡ zext v n → l1 ≡ run (add_shl_of (length v) select x) l
      → out' ≡ sets out 0 (up_from l.state.next (l1.state.next - l.state.next)) → n ≤ length out
      → Gave (add_shl_of (length v) select (zext v n)) l l1 (take n out')
  gave_shl h e q s r =
      let k = length_zext v n h in
      rw k at (shl_fresh (length v) select (zext v n) l l1 out out' (q ∙ ap (λ (y : Value). run (add_shl_of (length v) select y) l) e) s (rw k r))

-- ---- two shifts
module _ (select wdata wmask a b : Value) (d n : ℕ) (l l1 l2 : Lent) (x y : Value) where
  pub gave_wider : Gave (add_shl_of (length wdata) select (zext wdata n)) l l1 x → Gave (add_shl_of (length wmask) select (zext wmask n)) l1 l2 y
      → Gave (seen_wider select d (writing a wdata wmask) (reading b n)) l l2 (record { write_addr = drop d a; read_addr = b; bits = x; mask = y })
  unfolding seen_wider
  gave_wider g h =
      gave_bind (add_shl_of (length wdata) select (zext wdata n)) _ l l1 l2 x _ (chains_shl _ _ _) g
      (gave_bind (add_shl_of (length wmask) select (zext wmask n)) _ l1 l2 l2 y _ (chains_shl _ _ _) h (gave_done _ l2))

  pub gave_narrower : Gave (add_ushr_of n select wdata) l l1 x → Gave (add_ushr_of n select wmask) l1 l2 y
      → Gave (seen_narrower select d (writing a wdata wmask) (reading b n)) l l2 (record { write_addr = a; read_addr = drop d b; bits = take n x; mask = take n y })
  unfolding seen_narrower
  gave_narrower g h =
      gave_bind (add_ushr_of n select wdata) _ l l1 l2 x _ (chains_ushr _ _ _) g
      (gave_bind (add_ushr_of n select wmask) _ l1 l2 l2 y _ (chains_ushr _ _ _) h (gave_done _ l2))

-- as many of as many
pub take_twice : (v : List ℕ) (n k : ℕ) → n ≤ k → take n (take k v) ≡ take n v
take_twice v n k h = take-take n k v h

pub narrower_as : (select wdata wmask a b : Value) (d n k : ℕ) (l l2 : Lent) (x y : Value) → n ≤ k
    → Gave (seen_narrower select d (writing a wdata wmask) (reading b n)) l l2 (record { write_addr = a; read_addr = drop d b; bits = take n (take k x); mask = take n (take k y) })
    → Gave (seen_narrower select d (writing a wdata wmask) (reading b n)) l l2 (record { write_addr = a; read_addr = drop d b; bits = take n x; mask = take n y })
narrower_as select wdata wmask a b d n k l l2 x y h g = rw (take-take n k x h, take-take n k y h) at g

-- ---- the cases
module _ (kw kr : ℕ) (w : WritePort) (r : ReadPort) where
  seen_wide : kw < kr → seen kw kr w r ≡ seen_wider (narrower_select kw kr w.addr r.addr) (kr - kw) w r
  unfolding seen
  seen_wide h = rw (lt-ltb kw kr h)

  seen_narrow : kr < kw → seen kw kr w r ≡ seen_narrower (narrower_select kw kr w.addr r.addr) (kw - kr) w r
  unfolding seen
  seen_narrow h = let g : kr ≤ kw = omega arith in rw (le-ltb kw kr g, lt-ltb kr kw h)

  seen_even : kw ≤ kr → kr ≤ kw → seen kw kr w r ≡ done (record { write_addr = w.addr; read_addr = r.addr; bits = w.bits; mask = w.mask })
  unfolding seen
  seen_even h g = rw (le-ltb kw kr g, le-ltb kr kw h)

module _ (kw kr : ℕ) (waddr raddr : Value) where
  enough : kr - kw ≤ length waddr → kw - kr ≤ length raddr → narrower_select_refusal kw kr waddr raddr ≡ 0
  unfolding narrower_select_refusal too_few_bits
  enough p q = rw (le-ltb (length waddr) (kr - kw) p, le-ltb (length raddr) (kw - kr) q)

  -- the select bits where there are enough
  pub select_is : kr - kw ≤ length waddr → kw - kr ≤ length raddr → given_part (narrower_select_call kw kr waddr raddr) ≡ narrower_select kw kr waddr raddr
  unfolding narrower_select_call
  select_is h g = sym (part-given _ _ (enough h g))

  module _ (wdata wmask select : Value) (n : ℕ) (l l' : Lent) (x y : Value) where
    abbrev Case : Type 0
    Case = Gave (seen kw kr (writing waddr wdata wmask) (reading raddr n)) l l' (record { write_addr = drop (kr - kw) waddr; read_addr = drop (kw - kr) raddr; bits = x; mask = y })

    pub case_wider : kw < kr → select ≡ narrower_select kw kr waddr raddr
        → Gave (seen_wider select (kr - kw) (writing waddr wdata wmask) (reading raddr n)) l l' (record { write_addr = drop (kr - kw) waddr; read_addr = raddr; bits = x; mask = y }) → Case
    case_wider h e g =
        let z : kw - kr ≡ 0 = omega arith in
        rw (seen_wide kw kr (writing waddr wdata wmask) (reading raddr n) h, z) (rw e at g)

    pub case_narrower : kr < kw → select ≡ narrower_select kw kr waddr raddr
        → Gave (seen_narrower select (kw - kr) (writing waddr wdata wmask) (reading raddr n)) l l' (record { write_addr = waddr; read_addr = drop (kw - kr) raddr; bits = x; mask = y }) → Case
    case_narrower h e g =
        let z : kr - kw ≡ 0 = omega arith in
        rw (seen_narrow kw kr (writing waddr wdata wmask) (reading raddr n) h, z) (rw e at g)

  pub case_even : (wdata wmask : Value) (n : ℕ) (l : Lent) (x y : Value) → kw ≤ kr → kr ≤ kw → x ≡ wdata → y ≡ wmask → Case wdata wmask [] n l l x y
  case_even wdata wmask n l x y h g e f =
      let z : kw - kr ≡ 0 = omega arith in
      let w : kr - kw ≡ 0 = omega arith in
      rw (seen_even kw kr (writing waddr wdata wmask) (reading raddr n) h g, z, w, e, f) (gave_done _ l)
