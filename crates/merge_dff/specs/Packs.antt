-- The trits of a flip-flop's bit in one word, and a flip-flop of data and such words.
use Rattle.std.specs.Prelude.{ℕ, ◌+◌, ◌*◌, ◌/◌, ◌%◌, ◌<◌, List, map, get_or}
use Rattle.lists.specs.Lists.{pairs}
use Rattle.lists.specs.Distinct.{kept, places}
use Rattle.rules.specs.Value.{Value}
use Rattle.rules.specs.Cell.{Controls, FlipFlop}
use Rattle.rules.specs.Log.{Trace, ◌>>=◌, done, add_dff_of}
use Rattle.rules.specs.Merge.{same2, spread}
use Rattle.net_flip_flop.specs.View.{controls_of, flip_flop}
use Rattle.net_flip_flop.specs.declared.FlipFlop as machine
use Rattle.merge_mux.specs.Results.{limited}

-- a flip-flop with as many bits as a merge takes
abbrev pub limited_dff : machine.FlipFlop → FlipFlop
limited_dff f = flip_flop (controls_of f.controls) (limited f.bits.now) f.clear.now f.reset.now f.init.now

-- reset, clear and init, a byte each
abbrev pub pack_of : ℕ → ℕ → ℕ → ℕ
pack_of r c i = r + (256 * c + 65536 * i)

-- the byte of a word: 1, 256 or 65536 is its weight
abbrev pub packed_byte : ℕ → ℕ → ℕ
packed_byte by p = p / by % 256

-- of each bit, as many as all three have
unfoldable pub packs : List ℕ → List ℕ → List ℕ → List ℕ
packs r c i = map (λ t. pack_of t.0 t.1.0 t.1.1) (pairs r (pairs c i))

unfoldable pub unpacked : Controls → List ℕ → List ℕ → FlipFlop
unpacked c bits ps = flip_flop c bits (map (packed_byte 256) ps) (map (packed_byte 1) ps) (map (packed_byte 65536) ps)

-- the merge of such a flip-flop
unfoldable pub merge_packed : Controls → List ℕ → List ℕ → Trace Value
merge_packed c bits ps =
    let ks = kept same2 (pairs bits ps) in
    do
      v ← add_dff_of (unpacked c (map (λ k. k.0) ks) (map (λ k. k.1) ks))
      done (spread (places same2 (pairs bits ps)) v)

-- the trits of each bit are bytes
pub record Bytes (r c i : List ℕ) : Type 0 where
  pub resets : (k : ℕ) → get_or r k 0 < 256
  pub clears : (k : ℕ) → get_or c k 0 < 256
  pub inits : (k : ℕ) → get_or i k 0 < 256
