-- Merging: equal bits are kept once, in order of first appearance: `kept` and `places` of lists, over the keys of the bits and a test of two keys.
use Rattle.std.specs.Prelude.{ℕ, suc, Bool, true, false, ◌&&◌, List, [], ◌∷◌, ◌++◌, map, get_or, take, drop, eqb}
use Rattle.rules.specs.Limits.{X}
use Rattle.lists.specs.Lists.{pairs}
use Rattle.lists.specs.Distinct.{kept, places}
use Rattle.rules.specs.Value.{Value, Control, Pos}
use Rattle.rules.specs.Cell.{Controls, FlipFlop}
use Rattle.rules.specs.Log.{Trace, ◌>>=◌, done, add_mux_of, add_dff_of}

-- the net of each bit, from the nets of the kept bits
unfoldable pub spread : List ℕ → Value → Value
spread at v = map (λ p. get_or v p X) at

-- ---- the keys: two nets for a mux, data and reset, clear and init for a flip-flop
abbrev pub Key2 : Type 0
Key2 = ℕ × ℕ

abbrev pub same2 : Key2 → Key2 → Bool
same2 p q = eqb p.0 q.0 && eqb p.1 q.1

abbrev pub Key4 : Type 0
Key4 = Key2 × Key2

abbrev pub same4 : Key4 → Key4 → Bool
same4 p q = same2 p.0 q.0 && same2 p.1 q.1

unfoldable pub dff_keys : FlipFlop → List Key4
dff_keys f = pairs (pairs f.bits f.reset_value) (pairs f.clear_value f.init_value)

-- a flip-flop of these bits
unfoldable pub dff_of : Controls → List Key4 → FlipFlop
dff_of c ks = record {
  bits = map (λ k. k.0.0) ks;
  controls = c;
  clear_value = map (λ k. k.1.0) ks;
  reset_value = map (λ k. k.0.1) ks;
  init_value = map (λ k. k.1.1) ks;
}

-- ---- the merging requests
unfoldable pub add_dedup_mux_of : Control → Value → Value → Trace Value
add_dedup_mux_of s a b =
    let ks = kept same2 (pairs a b) in
    do
      v ← add_mux_of s (map (λ k. k.0) ks) (map (λ k. k.1) ks)
      done (spread (places same2 (pairs a b)) v)

unfoldable pub add_dedup_dff_of : FlipFlop → Trace Value
add_dedup_dff_of f = do
  v ← add_dff_of (dff_of f.controls (kept same4 (dff_keys f)))
  done (spread (places same4 (dff_keys f)) v)

-- the lengths of the runs of equal neighbours
unfoldable pub longer : Bool → List ℕ → List ℕ
longer false ns = 1 ∷ ns
longer true [] = 1 ∷ []
longer true (n ∷ ns) = suc n ∷ ns

unfoldable pub runs : List ℕ → List ℕ
runs [] = []
runs (s ∷ []) = 1 ∷ []
runs (s ∷ t ∷ l) = longer (eqb s t) (runs (t ∷ l))

-- a merging mux for each run, of the lengths given
unfoldable pub mux_runs : List ℕ → Value → Value → Value → Trace Value
mux_runs [] s a b = done []
mux_runs (n ∷ ns) s a b = do
  v ← add_dedup_mux_of (Pos (get_or s 0 X)) (take n a) (take n b)
  w ← mux_runs ns (drop n s) (drop n a) (drop n b)
  done (v ++ w)

unfoldable pub add_bitwise_mux_of : Value → Value → Value → Trace Value
add_bitwise_mux_of s a b = mux_runs (runs s) s a b
