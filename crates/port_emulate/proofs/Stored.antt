-- A delayed port's nets in place of its own, and all ports one after the other.
use mathlib.Core.Path.{◌≡◌, refl, sym, ap, ◌∙◌, subst}
use Prim.Native.Nat.{ℕ, ◌+◌, ◌<◌, ◌≤◌}
use native.Mathlib.Omega.{arith}
use mathlib.Core.Bool.{Bool, true, false}
use mathlib.Core.List.{List, [], ◌++◌, append_assoc}
use lib.ListN.{length, take, get_or, set, length-append}
use lib.Seq.{sets, length-sets, set-get_or, get_or-set_same}
use Rattle.lists.specs.Choice.{when◌then◌else◌}
use Rattle.lists.specs.Lists.{part}
use Rattle.lists.proofs.Choice.{if_true}
use Rattle.lists.proofs.Parts.{length_part}
use Rattle.lists.proofs.Stores.{sets_then}
use Rattle.rules.specs.Limits.{max_merge}
use Rattle.rules.specs.Value.{inverse}
use Rattle.rules.specs.Cell.{WritePort, Mem}
use Rattle.rules.specs.Log.{Trace, done}
use Rattle.rules.specs.Ports.{delayed}
use Rattle.log_entries.specs.Emission.{Lent}
use Rattle.net_value.specs.View.{control_of}
use Rattle.net_memory.specs.declared.MemoryWritePort.{MemoryWritePort}
use Rattle.net_memory.specs.declared.Memory.{Memory}
use Rattle.net_memory.specs.View.{write_port, write_start, write_size, write_by, writes_of, memory_of, with_write_port}
use Rattle.net_memory.proofs.Ports.{writes_at}
use Rattle.net_memory.proofs.Changes.{with_write, write_end, write_stored, with_write_same}
use Rattle.port_transparency.specs.Gave.{Gave}
use Rattle.port_delay.specs.Delay.{cut, delayable, delayed_if, Delayable}
use Rattle.port_delay.proofs.Delay.{can}
use Rattle.port_settle.specs.Settled.{is_read, turned_by}
use Rattle.port_emulate.specs.Delays.{delayed_by, cut_by, no_write_of, port_at, PortReady, PortDone}

-- ---- three stores are one
pub three_stored : (l l1 l2 l3 a d k : List ℕ) (at x y : ℕ) → l1 ≡ sets l at a → l2 ≡ sets l1 (at + x) d → l3 ≡ sets l2 (at + x + y) k → length a ≡ x → length d ≡ y
    → l3 ≡ sets l at (a ++ (d ++ k))
three_stored l l1 l2 l3 a d k at x y e f g ha hd =
    let u : l2 ≡ sets l at (a ++ d) = sets_then l l1 l2 at (at + x) a d e f (omega arith) in
    sets_then l l2 l3 at (at + x + y) (a ++ d) k u g (omega (arith, length-append a d)) ∙ ap (sets l at) (append_assoc a d k)

-- ---- one port
module _ (m : Memory) (nets : List ℕ) (j at : ℕ) (p : MemoryWritePort) (r : PortReady m nets j at p) where
  abbrev own : List ℕ
  own = part at (write_size p) nets

  abbrev P : WritePort
  P = write_by p own []

  port_view : P ≡ port_at m nets j
  port_view = (λ k. write_by (r.port_is k) (part (r.at_is k) (write_size (r.port_is k)) nets) []) ∙ sym (writes_at m nets j r.there)

  fits : at + write_size p ≤ length nets
  fits = rw (r.at_is, r.port_is) (omega (arith, write_end m j (write_port m j) nets nets [] r.there refl refl refl, r.room))

  own_length : length own ≡ write_size p
  own_length = length_part at (write_size p) nets fits

  addr_length : length P.addr ≡ p.addr_len
  addr_length = length_part 0 p.addr_len own (omega (arith, own_length))

  bits_length : length P.bits ≡ p.data_len
  bits_length = length_part p.addr_len p.data_len own (omega (arith, own_length))

  mask_length : length P.mask ≡ p.mask_len
  mask_length = length_part (p.addr_len + p.data_len) p.mask_len own (omega (arith, own_length))

  fit_own : Delayable (length P.addr) (length P.bits) (length P.mask)
  fit_own = subst (λ (w : WritePort). Delayable (length w.addr) (length w.bits) (length w.mask)) (sym port_view) r.fit

  -- its lengths fit the scratch
  pub few_lens : (at ≤ 0x1800000000) × (p.addr_len ≤ max_merge) × (p.data_len ≤ max_merge) × (p.mask_len ≤ max_merge)
  few_lens =
      let f = fit_own in
      (r.low, omega (arith, addr_length, f.short), omega (arith, bits_length, f.few), omega (arith, mask_length, bits_length, f.few, f.masked))

  if_is : (allX : Bool) (q : WritePort) → delayed_if allX P q ≡ delayed allX P
  unfolding delayed_if
  if_is allX q = if_true (delayable (length P.addr) (length P.bits) (length P.mask)) (delayed allX P) (done q) (can _ _ _ fit_own)

  -- the nets after, and the port that they hold
  module _ (nets' a d k : List ℕ) (ha : p.addr_len ≤ length a) (hd : p.data_len ≤ length d) (hk : p.mask_len ≤ length k)
      (e : nets' ≡ sets nets at (take p.addr_len a ++ (take p.data_len d ++ take p.mask_len k))) where
    abbrev Q : WritePort
    Q = record { addr = take p.addr_len a; bits = take p.data_len d; mask = take p.mask_len k; clock = control_of p.clock }

    stored_at : (trits : List ℕ) → memory_of m nets' trits ≡ with_write (memory_of m nets trits) j Q
    stored_at trits =
        let A = take p.addr_len a in
        let D = take p.data_len d in
        let K = take p.mask_len k in
        let s : with_write_port m j p ≡ m = ap (with_write_port m j) r.port_is ∙ with_write_same m j in
        ap (λ (l : List ℕ). memory_of m l trits) (e ∙ ap (λ (n : ℕ). sets nets n (A ++ (D ++ K))) r.at_is)
        ∙ ap (λ (x : Memory). memory_of x (sets nets (write_start m j) (A ++ (D ++ K))) trits) (sym s)
        ∙ write_stored m j p nets trits A D K r.there (ap write_size r.port_is) (length_part 0 p.addr_len a (omega arith)) (length_part 0 p.data_len d (omega arith)) (length_part 0 p.mask_len k (omega arith))
        (omega (arith, fits, r.at_is))

    same_writes : writes_of m nets' ≡ set (writes_of m nets) j Q
    unfolding memory_of
    same_writes = ap (λ (x : Mem). x.writes) (stored_at [])

    pub stored_port : j < length (writes_of m nets) → port_at m nets' j ≡ Q
    stored_port h = ap (λ (ws : List WritePort). get_or ws j no_write_of) same_writes ∙ get_or-set_same (writes_of m nets) j Q no_write_of h

    cut_is : cut P a d k ≡ turned_by true Q
    cut_is = λ i. record { addr = take (addr_length i) a; bits = take (bits_length i) d; mask = take (mask_length i) k; clock = inverse (control_of p.clock) }

    stored_gave : (allX : Bool) (q : WritePort) (l l1 : Lent) (b : Bool) → b ≡ true → j < length (writes_of m nets) → Gave (delayed_by b allX P q) l l1 (cut_by b P a d k)
        → Gave (when b then delayed allX (port_at m nets j) else done (port_at m nets j)) l l1 (turned_by b (port_at m nets' j))
    stored_gave allX q l l1 true e h g =
        subst (λ (w : WritePort). Gave (delayed allX w) l l1 (turned_by true (port_at m nets' j))) port_view
        (subst (λ (w : WritePort). Gave (delayed allX P) l l1 w) (cut_is ∙ ap (turned_by true) (sym (stored_port h)))
        (subst (λ (t : Trace WritePort). Gave t l l1 (cut P a d k)) (if_is allX q) g))
    stored_gave allX q l l1 false e h g = let z : ◌≡◌ {A = ℕ} 0 1 = cc in absurd (omega arith)

    pub stored_done : (allX : Bool) (q : WritePort) (l l1 : Lent) → j < length (writes_of m nets) → ((x y : List ℕ) → is_read m x y j ≡ true)
        → ((x y : List ℕ) → Gave (delayed_by (is_read m x y j) allX P q) l l1 (cut_by (is_read m x y j) P a d k)) → PortDone m allX j nets nets' l l1
    stored_done allX q l l1 h b g = record {
      gave = λ x y. stored_gave allX q l l1 (is_read m x y j) (b x y) h (g x y);
      kept = λ trits. stored_at trits ∙ ap (with_write (memory_of m nets trits) j) (sym (stored_port h));
      size = ap length e ∙ length-sets nets at (take p.addr_len a ++ (take p.data_len d ++ take p.mask_len k));
    }

  -- a port that is not delayed
  kept_gave : (allX : Bool) (q : WritePort) (a d k : List ℕ) (l l1 : Lent) (b : Bool) → b ≡ false → Gave (delayed_by b allX P q) l l1 (cut_by b P a d k)
      → Gave (when b then delayed allX (port_at m nets j) else done (port_at m nets j)) l l1 (turned_by b (port_at m nets j))
  kept_gave allX q a d k l l1 true e g = let z : ◌≡◌ {A = ℕ} 0 1 = cc in absurd (omega arith)
  kept_gave allX q a d k l l1 false e g = subst (λ (w : WritePort). Gave (done w) l l1 w) port_view g

  with_same : (trits : List ℕ) → memory_of m nets trits ≡ with_write (memory_of m nets trits) j (port_at m nets j)
  unfolding memory_of
  with_same trits = λ i. record { depth = m.depth; width = m.width; init = part 0 m.init_len trits; writes = sym (set-get_or (writes_of m nets) j no_write_of) i; reads = (memory_of m nets trits).reads }

  pub kept-done : (allX : Bool) (q : WritePort) (a d k : List ℕ) (l l1 : Lent) → ((x y : List ℕ) → is_read m x y j ≡ false)
      → ((x y : List ℕ) → Gave (delayed_by (is_read m x y j) allX P q) l l1 (cut_by (is_read m x y j) P a d k)) → PortDone m allX j nets nets l l1
  kept-done allX q a d k l l1 b g = record { gave = λ x y. kept_gave allX q a d k l l1 (is_read m x y j) (b x y) (g x y); kept = with_same; size = refl }
