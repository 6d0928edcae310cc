-- The write ports of the rules are held by the structs that the code leaves.
use mathlib.Core.Path.{◌≡◌, refl, sym, ap, ◌∙◌}
use Prim.Native.Nat.{ℕ, suc, ◌*◌, ◌^◌, ◌≤◌, ◌<◌, min}
use native.Mathlib.Omega.{arith}
use mathlib.Core.List.{List, [], ◌∷◌, ◌++◌, map}
use lib.ListN.{length, drop, get_or, set, length-drop, length-take}
use lib.Seq.{sets}
use Rattle.lists.specs.Lists.{concat_map}
use Rattle.lists.proofs.Views.{length_views}
use Rattle.rules.specs.Limits.{max_ports}
use Rattle.rules.specs.Cell.{WritePort, Mem, write_wide_log2}
use Rattle.rules.specs.Log.{◌>>=◌, done}
use Rattle.rules.specs.Geometry.{Layout, columns}
use Rattle.rules.specs.Swizzle.{Split, split_addr, swizzle_write, swizzle_writes}
use Rattle.net_value.specs.View.{control_of}
use Rattle.net_memory.specs.declared.Memory.{Memory}
use Rattle.net_memory.specs.declared.MemoryWritePort.{MemoryWritePort}
use Rattle.net_memory.specs.View.{no_write_port, memory_of, write_ports_of, write_size, no_trits, write_by}
use Rattle.swizzle_result.specs.declared.WideWritePort.{WideWritePort}
use Rattle.swizzle_result.specs.Held.{HeldWrite, write_nets}
use Rattle.swizzle_laws.proofs.Whole.{bits_whole, mask_whole}
use Rattle.swizzle_writes.specs.Placed.{port_by}
use Rattle.swizzle_writes.specs.Planned.{wide_nets, ports_by}
use Rattle.swizzle_writes.proofs.Planned.{new_is}
use Rattle.swizzle_writes.proofs.Whole.{write_at_lem, write_rest, clock_is}

-- no more ports than the struct says
pub writes_most : (mem : Memory) (nets trits : List ℕ) → length (memory_of mem nets trits).writes ≤ min max_ports mem.write_count
unfolding memory_of
writes_most mem nets trits =
    omega (arith, length_views write_size no_trits write_by (write_ports_of mem) nets [], length-take (min max_ports mem.write_count) mem.write_ports)

concat_each : {A B : Type 0} (f : A → List ℕ) (h : B → List ℕ) (g : A → B) (l : List A) → ((a : A) → f a ≡ h (g a)) → concat_map f l ≡ concat_map h (map g l)
concat_each f h g [] e = refl
concat_each f h g (a ∷ l) e = λ i. e a i ++ concat_each f h g l e i

-- ---- a port of the rules
module _ (q : Layout) (s : Split) (p : WritePort) (n : ℕ) where
  write_split : (swizzle_write q s p n).value.split ≡ s
  unfolding swizzle_write ◌>>=◌ done
  write_split = refl

  write_addr_lem : (swizzle_write q s p n).value.port.addr ≡ s.addr
  unfolding swizzle_write ◌>>=◌ done
  write_addr_lem = refl

  write_clock : (swizzle_write q s p n).value.port.clock ≡ p.clock
  unfolding swizzle_write ◌>>=◌ done
  write_clock = refl

module _ (mem : Memory) (nets trits : List ℕ) (q : Layout) where
  abbrev M : Mem
  M = memory_of mem nets trits

  abbrev ps : List MemoryWritePort
  ps = mem.write_ports

  abbrev split : WritePort → ℕ → Split
  split w n = split_addr q (write_wide_log2 M w) n w.addr

  abbrev struct_at : ℕ → WritePort → ℕ → WideWritePort
  struct_at j w n = port_by ps j n (length (split w n).addr)

  in_use : (j : ℕ) (w : WritePort) (ws : List WritePort) → drop j M.writes ≡ w ∷ ws → j < min max_ports mem.write_count
  in_use j w ws e = let a = ap length e in omega (arith, a, length-drop j M.writes, writes_most mem nets trits)

  clock_at : (j : ℕ) (w : WritePort) (ws : List WritePort) → drop j M.writes ≡ w ∷ ws → control_of (get_or ps j no_write_port).clock ≡ w.clock
  clock_at j w ws e = clock_is mem nets trits j (in_use j w ws e) ∙ ap (λ (x : WritePort). x.clock) (write_at_lem M j w ws e)

  -- write port j, whose trace starts at net k
  held_one_of : (j : ℕ) (w : WritePort) (ws : List WritePort) (n k : ℕ) → drop j M.writes ≡ w ∷ ws → HeldWrite q
  held_one_of j w ws n k e =
      let s = split w n in
      let f = ap (λ (x : Split). 2 ^ x.new * columns q) (sym (write_split q s w k)) in
      record {
        struct = struct_at j w n;
        port = (swizzle_write q s w k).value;
        addr_len = ap length (sym (write_addr_lem q s w k));
        wide_is = sym (new_is q (write_wide_log2 M w) n w.addr) ∙ ap (λ (x : Split). x.new) (sym (write_split q s w k));
        clock_is = clock_at j w ws e ∙ sym (write_clock q s w k);
        bits_whole = bits_whole q s w k ∙ f;
        mask_whole = mask_whole q s w k ∙ f;
      }

  -- these ports, from write port j on
  pub held_writes : (ws : List WritePort) (ns : List ℕ) (j k : ℕ) → drop j M.writes ≡ ws → List (HeldWrite q)
  held_writes [] ns j k e = []
  held_writes (w ∷ ws) [] j k e = []
  held_writes (w ∷ ws) (n ∷ ns) j k e = held_one_of j w ws n k e ∷ held_writes ws ns (suc j) (swizzle_write q (split w n) w k).next (write_rest M j w ws e)

  writes_next : (w : WritePort) (ws : List WritePort) (n : ℕ) (ns : List ℕ) (k : ℕ)
      → (swizzle_writes M q (w ∷ ws) (n ∷ ns) k).value ≡ (swizzle_write q (split w n) w k).value ∷ (swizzle_writes M q ws ns (swizzle_write q (split w n) w k).next).value
  unfolding swizzle_writes ◌>>=◌ done
  writes_next w ws n ns k = refl

  none_left : (ns : List ℕ) (k : ℕ) → (swizzle_writes M q [] ns k).value ≡ []
  unfolding swizzle_writes done
  none_left ns k = refl

  none_wide : (w : WritePort) (ws : List WritePort) (k : ℕ) → (swizzle_writes M q (w ∷ ws) [] k).value ≡ []
  unfolding swizzle_writes done
  none_wide w ws k = refl

  -- they hold the ports of the rules
  pub writes_held : (ws : List WritePort) (ns : List ℕ) (j k : ℕ) (e : drop j M.writes ≡ ws) → map (λ (x : HeldWrite q). x.port) (held_writes ws ns j k e) ≡ (swizzle_writes M q ws ns k).value
  unfolding held_writes held_one_of
  writes_held [] ns j k e = sym (none_left ns k)
  writes_held (w ∷ ws) [] j k e = sym (none_wide w ws k)
  writes_held (w ∷ ws) (n ∷ ns) j k e =
      (λ i. (swizzle_write q (split w n) w k).value ∷ writes_held ws ns (suc j) (swizzle_write q (split w n) w k).next (write_rest M j w ws e) i) ∙ sym (writes_next w ws n ns k)

  -- their structs are those that the code stores
  pub structs_held : (ws : List WritePort) (ns : List ℕ) (j k : ℕ) (e : drop j M.writes ≡ ws) (l : List WideWritePort)
      → ports_by M q ps j ws ns l ≡ sets l j (map (λ (x : HeldWrite q). x.struct) (held_writes ws ns j k e))
  unfolding held_writes held_one_of ports_by
  structs_held [] ns j k e l = refl
  structs_held (w ∷ ws) [] j k e l = refl
  structs_held (w ∷ ws) (n ∷ ns) j k e l =
      structs_held ws ns (suc j) (swizzle_write q (split w n) w k).next (write_rest M j w ws e) (set l j (struct_at j w n))

  held_nets : (x : HeldWrite q) → write_nets q x ≡ wide_nets q x.port
  unfolding write_nets wide_nets
  held_nets x = refl

  -- and their nets those of the rules
  pub nets_held : (ws : List WritePort) (ns : List ℕ) (j k : ℕ) (e : drop j M.writes ≡ ws) → concat_map (write_nets q) (held_writes ws ns j k e) ≡ concat_map (wide_nets q) (swizzle_writes M q ws ns k).value
  nets_held ws ns j k e =
      concat_each (write_nets q) (wide_nets q) (λ (x : HeldWrite q). x.port) (held_writes ws ns j k e) held_nets ∙ ap (concat_map (wide_nets q)) (writes_held ws ns j k e)
