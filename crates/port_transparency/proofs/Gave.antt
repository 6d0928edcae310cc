-- Runs with the values that they give: one after the other, and of one request.
use mathlib.Core.Path.{◌≡◌, refl, sym, ap, ◌∙◌}
use Prim.Native.Nat.{ℕ, ◌-◌, ◌≤◌}
use mathlib.Core.Bool.{false}
use mathlib.Core.List.{List, ◌++◌, append_assoc}
use lib.ListN.{length, take}
use lib.Seq.{sets}
use Rattle.lists.specs.Lists.{up_from}
use Rattle.lists.proofs.UpFrom.{length_up}
use Rattle.lists.proofs.Stores.{take_stored}
use Rattle.rules.specs.Cell.{FlipFlop}
use Rattle.rules.specs.Log.{Entry, Void, Dff, Trace, ◌>>=◌, done, request, add_void_of, add_dff_of}
use Rattle.rules.proofs.Chain.{chains_void, chains_dff}
use Rattle.rules.specs.Beside.Chain.{Chains}
use Rattle.rules.proofs.Traces.{bind_value}
use Rattle.std.specs.Borrow.{GName}
use Rattle.log_entries.specs.Emission.{Lent, is_over, emit, run}
use Rattle.log_entries.proofs.Emission.{named, unnamed, run-done, run_then, run_next, run-held}
use Rattle.merge_mux.proofs.Nets.{request_nets}
use Rattle.port_transparency.specs.Gave.{Gave}

module _ {A : Type 0} where
  pub gave_done : (a : A) (l : Lent) → Gave (done a) l l a
  unfolding done
  gave_done a l = record { ran = sym (run-done a l); value = λ o. refl }

  -- where it did not overflow, the next free net is the trace's
  pub gave_next : (t : Trace A) (l l1 : Lent) → Chains t → l1 ≡ run t l → is_over l1.state ≡ false → l1.state.next ≡ (t l.state.next).next
  gave_next t l l1 c e o = ap (λ (x : Lent). x.state.next) e ∙ run_next t l c (sym (ap (λ (x : Lent). is_over x.state) e) ∙ o)

  -- it did not start so
  pub gave_held : (t : Trace A) (l l1 : Lent) → l1 ≡ run t l → is_over l1.state ≡ false → is_over l.state ≡ false
  gave_held t l l1 e o = run-held t l (sym (ap (λ (x : Lent). is_over x.state) e) ∙ o)

  -- what ran on a log, ran on its words and state
  pub gave_unnamed : (n : GName) (t : Trace A) (l k : Lent) (v : A) → Gave t l k v → Gave t (named n l) (named n k) v
  gave_unnamed n t l k v g = record { ran = unnamed t n l k g.ran; value = g.value }

-- one trace and then the trace of its value
module _ {A B : Type 0} (t : Trace A) (f : A → Trace B) (l l1 l2 : Lent) (v : A) (w : B) where
  pub gave_bind : Chains t → Gave t l l1 v → Gave (f v) l1 l2 w → Gave (t >>= f) l l2 w
  gave_bind c g h = record {
    ran = run_then l l1 l2 t f v c g.ran g.value h.ran;
    value = λ o.
        let o1 = gave_held (f v) l1 l2 h.ran o in
        h.value o
        ∙ ap (λ (k : ℕ). (f v k).value) (gave_next t l l1 c g.ran o1)
        ∙ ap (λ (x : A). (f x (t l.state.next).next).value) (g.value o1)
        ∙ sym (bind_value t f l.state.next);
  }

-- the value changed
module _ {A B : Type 0} (t : Trace A) (g : A → B) (l l1 : Lent) (v : A) where
  pub gave_same : Chains t → Gave t l l1 v → Gave (t >>= λ x. done (g x)) l l1 (g v)
  gave_same c h = gave_bind t (λ x. done (g x)) l l1 l1 v (g v) c h (gave_done (g v) l1)

-- two and a third
module _ {A B C : Type 0} (t : Trace A) (u : A → Trace B) (k : B → Trace C) (l l1 : Lent) (w : C) where
  pub gave_assoc : Gave ((t >>= u) >>= k) l l1 w → Gave (t >>= λ x. (u x >>= k)) l l1 w
  unfolding run ◌>>=◌
  gave_assoc g =
      let n = l.state.next in
      let a = t n in
      let b = u a.value a.next in
      let e : emit l (a.entries ++ b.entries ++ (k b.value b.next).entries) ≡ emit l (a.entries ++ (b.entries ++ (k b.value b.next).entries)) =
      ap (emit l) (append_assoc a.entries b.entries (k b.value b.next).entries) in
      record { ran = g.ran ∙ e; value = g.value }

-- the fresh nets of one request, stored at the front of a lent array
module _ (e : ℕ → Entry) (k : ℕ) (l l1 : Lent) (out out' : List ℕ) where
  length_request : (n : ℕ) → length (request e k n).value ≡ k
  unfolding request
  length_request n = length_up n k

  pub gave_fresh : Chains (request e k) → l1 ≡ run (request e k) l → out' ≡ sets out 0 (up_from l.state.next (l1.state.next - l.state.next)) → k ≤ length out
      → Gave (request e k) l l1 (take k out')
  gave_fresh c q s h = record {
    ran = q;
    value = λ o.
        let n = l.state.next in
        let m : up_from n (l1.state.next - n) ≡ (request e k n).value =
        ap (λ (j : ℕ). up_from n (j - n)) (gave_next (request e k) l l1 c q o) ∙ request_nets e k n in
        take_stored out out' (request e k n).value k (s ∙ ap (sets out 0) m) (sym (length_request n)) h;
  }

pub void_fresh : (n : ℕ) (l l1 : Lent) (out out' : List ℕ) → l1 ≡ run (add_void_of n) l → out' ≡ sets out 0 (up_from l.state.next (l1.state.next - l.state.next)) → n ≤ length out
    → Gave (add_void_of n) l l1 (take n out')
unfolding add_void_of
void_fresh n l l1 out out' q s h = gave_fresh (λ first. Void first n) n l l1 out out' (chains_void n) q s h

pub dff_fresh : (f : FlipFlop) (l l1 : Lent) (out out' : List ℕ) → l1 ≡ run (add_dff_of f) l → out' ≡ sets out 0 (up_from l.state.next (l1.state.next - l.state.next)) → length f.bits ≤ length out
    → Gave (add_dff_of f) l l1 (take (length f.bits) out')
unfolding add_dff_of
dff_fresh f l l1 out out' q s h = gave_fresh (λ first. Dff first f) (length f.bits) l l1 out out' (chains_dff f) q s h
