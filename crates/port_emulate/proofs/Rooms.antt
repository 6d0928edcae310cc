-- A memory after an emulation fits the arrays that it was lent in.
use mathlib.Core.Path.{◌≡◌, refl, ap, ◌∙◌}
use mathlib.Core.Bool.{Bool, true, false}
use Prim.Native.Nat.{ℕ, suc, ◌+◌, ◌≤◌}
use native.Mathlib.Nat.{le_refl}
use native.Mathlib.Omega.{arith}
use mathlib.Core.Option.{Option, none, some}
use mathlib.Core.List.{List, [], ◌∷◌, ◌++◌, map}
use lib.ListN.{length, length-append}
use Rattle.lists.specs.Lists.{pairs, concat_map}
use Rattle.rules.specs.Cell.{FlipFlop, WritePort, ReadFlipFlop, ReadPort, Mem, new_flip_flop, with_init, is_read_before_write, held, port_nets, flip_flop_trits, port_trits, flat_nets, flat_trits}
use Rattle.rules.specs.Log.{◌>>=◌, done, add_dff_of, request}
use Rattle.rules.specs.Merge.{same4, dff_keys, add_dedup_dff_of}
use Rattle.lists.specs.Distinct.{places}
use Rattle.lists.proofs.Distinct.{length_places}
use Rattle.lists.proofs.Pairs.{pairs_size}
use Rattle.lists.proofs.UpFrom.{length_up}
use Rattle.lists.specs.Choice.{when◌then◌else◌}
use Rattle.merge_mux.proofs.Spread.{length_spread}
use Rattle.rules.specs.Logic.{is_undef, undef, zeros}
use Rattle.rules.specs.Ports.{relates_to, delayed, delay_writes, settled_flip_flop, settled_port, emulate_read_before_write}
use Rattle.rules.specs.Refusals.{driving_refusal, alone}
use Rattle.net_memory.specs.declared.Memory.{Memory}
use Rattle.net_memory.specs.View.{memory_of}
use Rattle.net_memory.proofs.Fits.{nets_fit, trits_fit}
use Rattle.port_unmap.proofs.Rooms.{enough}

-- ---- a delayed port has no more nets
dedup_length : (f : FlipFlop) (n : ℕ) → length (add_dedup_dff_of f n).value ≡ length (dff_keys f)
unfolding add_dedup_dff_of ◌>>=◌ done
dedup_length f n = length_spread (places same4 (dff_keys f)) _ ∙ length_places same4 [] (dff_keys f)

keys_short : (f : FlipFlop) → length (dff_keys f) ≤ length f.bits
unfolding dff_keys
keys_short f = omega (arith, pairs_size (pairs f.bits f.reset_value) (pairs f.clear_value f.init_value), pairs_size f.bits f.reset_value)

dedup_short : (f : FlipFlop) (n : ℕ) → length (add_dedup_dff_of f n).value ≤ length f.bits
dedup_short f n = omega (arith, dedup_length f n, keys_short f)

dff_short : (f : FlipFlop) (n : ℕ) → length (add_dff_of f n).value ≡ length f.bits
unfolding add_dff_of request
dff_short f n = length_up n (length f.bits)

nets_length : (p : WritePort) → length (port_nets p) ≡ length p.addr + (length p.bits + length p.mask)
unfolding port_nets
nets_length p = omega (arith, length-append p.addr (p.bits ++ p.mask), length-append p.bits p.mask)

delayed_short : (allX : Bool) (p : WritePort) (n : ℕ) → length (port_nets (delayed allX p n).value) ≤ length (port_nets p)
unfolding delayed ◌>>=◌ done new_flip_flop with_init
delayed_short allX p n =
    let q = (delayed allX p n).value in
    let f = new_flip_flop p.addr p.clock in
    let g = new_flip_flop p.bits p.clock in
    let t = when allX then undef (length p.bits) else zeros (length p.bits) in
    let n1 = (add_dff_of f n).next in
    omega (arith, nets_length p, nets_length q, dff_short f n, dff_short g n1, dedup_short (with_init (new_flip_flop p.mask p.clock) t) (add_dff_of g n1).next)

step_short : (b allX : Bool) (p : WritePort) (n : ℕ) → length (port_nets ((when b then delayed allX p else done p) n).value) ≤ length (port_nets p)
unfolding done
step_short true allX p n = delayed_short allX p n
step_short false allX p n = le_refl (length (port_nets p))

writes_short : (m : Mem) (j : ℕ) (ps : List WritePort) (n : ℕ) → length (concat_map port_nets (delay_writes m j ps n).value) ≤ length (concat_map port_nets ps)
unfolding delay_writes ◌>>=◌ done
writes_short m j [] n = omega arith
writes_short m j (p ∷ ps) n =
    let s = (when relates_to is_read_before_write m j then delayed (is_undef m.init) p else done p) n in
    let r = delay_writes m (suc j) ps s.next in
    omega (arith, length-append (port_nets s.value) (concat_map port_nets r.value), length-append (port_nets p) (concat_map port_nets ps), step_short (relates_to is_read_before_write m j) (is_undef m.init) p n, writes_short m (suc j) ps s.next)

-- ---- the read ports keep theirs
addrs_kept : (m : Mem) (rs : List ReadPort) → concat_map (λ (p : ReadPort). p.addr) (map (settled_port m) rs) ≡ concat_map (λ (p : ReadPort). p.addr) rs
unfolding settled_port
addrs_kept m [] = refl
addrs_kept m (r ∷ rs) = ap (λ (l : List ℕ). r.addr ++ l) (addrs_kept m rs)

flip_flop-kept : (m : Mem) (o : Option ReadFlipFlop) → concat_map flip_flop_trits (held (settled_flip_flop m o)) ≡ concat_map flip_flop_trits (held o)
unfolding settled_flip_flop flip_flop_trits held
flip_flop-kept m none = refl
flip_flop-kept m (some f) = refl

trits-kept : (m : Mem) (rs : List ReadPort) → concat_map port_trits (map (settled_port m) rs) ≡ concat_map port_trits rs
unfolding settled_port port_trits
trits-kept m [] = refl
trits-kept m (r ∷ rs) = λ k. flip_flop-kept m r.flip_flop k ++ trits-kept m rs k

flat_nets_lem : (m : Mem) (n : ℕ) → length (flat_nets (emulate_read_before_write m n).value) ≤ length (flat_nets m)
unfolding flat_nets emulate_read_before_write ◌>>=◌ done
flat_nets_lem m n =
    let ws = (delay_writes m 0 m.writes n).value in
    let rs = concat_map (λ (p : ReadPort). p.addr) m.reads in
    let rs' = concat_map (λ (p : ReadPort). p.addr) (map (settled_port m) m.reads) in
    omega (arith, length-append (concat_map port_nets ws) rs', length-append (concat_map port_nets m.writes) rs, ap length (addrs_kept m m.reads), writes_short m 0 m.writes n)

flat-trits : (m : Mem) (n : ℕ) → flat_trits (emulate_read_before_write m n).value ≡ flat_trits m
unfolding flat_trits emulate_read_before_write ◌>>=◌ done
flat-trits m n = ap (λ (l : List ℕ). m.init ++ l) (trits-kept m m.reads)

pub emulate_fits : (m : Memory) (nets trits : List ℕ) (n : ℕ) → driving_refusal (record { nets = length nets; trits = length trits; output = 0 }) (alone (emulate_read_before_write (memory_of m nets trits) n).value) ≡ 0
unfolding alone
emulate_fits m nets trits n =
    let M = memory_of m nets trits in
    enough (record { nets = length nets; trits = length trits; output = 0 }) (record { memory = (emulate_read_before_write M n).value; output = [] })
    (omega (arith, flat_nets_lem M n, nets_fit m nets trits)) (omega (arith, ap length (flat-trits M n), trits_fit m nets trits)) (omega arith)
