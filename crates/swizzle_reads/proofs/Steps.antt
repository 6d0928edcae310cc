-- A port's work from its parts, with the numbers that the code computes.
use mathlib.Core.Path.{◌≡◌, ap, ◌∙◌}
use Prim.Native.Nat.{ℕ, ◌+◌}
use mathlib.Core.List.{List}
use lib.ListN.{length}
use lib.Seq.{sets}
use Rattle.rules.specs.Value.{Value}
use Rattle.net_memory.specs.declared.MemoryReadPort.{MemoryReadPort}
use Rattle.image_geometry.specs.declared.Params.{Params}
use Rattle.swizzle_split.specs.declared.Split.{Split}
use Rattle.swizzle_reads.specs.declared.Sizes.{Sizes}
use Rattle.swizzle_reads.specs.Going.{Going, with_read_port}
use Rattle.swizzle_reads.specs.Raw.{size_by, read_by', trits_by, need_by, port_by, port_raw}

-- all of it
pub raw_by : (p : Params) (z : Sizes) (s : Split) (i : ℕ) (r : MemoryReadPort) (y : List ℕ) (hw mux : Value) (es : List ℕ) (out : Value) (scratch : List ℕ) (g g' : Going) (size : ℕ)
    → size ≡ size_by z s → g'.lent ≡ read_by' p z s r.flip_flop mux es out scratch g.lent → g'.nets ≡ sets g.nets g.nets_at_of hw → g'.trits ≡ trits_by r.flip_flop p z s r y es g.trits_at_of g.trits
    → g'.nets_at_of ≡ g.nets_at_of + length hw → g'.trits_at_of ≡ g.trits_at_of + need_by r.flip_flop size → g'.memory ≡ with_read_port g.memory i (port_by s r g.lent.state.next)
    → g'.nets_name ≡ g.nets_name → g'.trits_name ≡ g.trits_name
    → g' ≡ port_raw p z s i r y hw mux es out scratch g
unfolding port_raw
raw_by p z s i r y hw mux es out scratch g g' size ez a b d e f m u v =
    λ k. record {
      lent = a k;
      nets = b k;
      nets_name = u k;
      trits = d k;
      trits_name = v k;
      nets_at_of = e k;
      trits_at_of = (f ∙ ap (λ (n : ℕ). g.trits_at_of + need_by r.flip_flop n) ez) k;
      memory = m k;
    }
