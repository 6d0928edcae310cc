-- A log read back: one entry from words, and all of them.
use Rattle.std.specs.Prelude.{ℕ, zero, suc, ◌/◌, Bool, true, not, ◌&&◌, List, [], ◌∷◌, ◌++◌, length, get_or, take, drop, eqb}
use Rattle.std.proofs.Math.Option.{Option, none, some}
use Rattle.lists.specs.Choice.{when◌then◌else◌}
use Rattle.lists.specs.Lists.{same_list}
use Rattle.rules.specs.Value.{Value, Control, Pos, Neg, control_words}
use Rattle.rules.specs.Cell.{Controls, FlipFlop}
use Rattle.rules.specs.Log.{Entry, Void, Not, And, Or, Mux, Eq, Shl, Ushr, Dff, Replace, flag, encode}
use Rattle.rules.specs.Conditions.{unequal, bad_trit_lens}

-- the words of a flip-flop's controls
unfoldable pub controls_words : Controls → List ℕ
controls_words c =
    control_words c.clock ++ (control_words c.clear ++ (control_words c.reset ++ (control_words c.enable ++ (flag c.reset_over_enable ∷ []))))

-- ---- the entry that these words would be
-- the two words of a control from place i on
unfoldable pub control_at : List ℕ → ℕ → Control
control_at ops i = when eqb (get_or ops i 0) 0 then Pos (get_or ops (suc i) 0) else Neg (get_or ops (suc i) 0)

unfoldable pub controls_from : List ℕ → Controls
controls_from ops = record {
  clock = control_at ops 0;
  clear = control_at ops 2;
  reset = control_at ops 4;
  enable = control_at ops 6;
  reset_over_enable = eqb (get_or ops 8 0) 1;
}

-- data, the nine words of the controls, and three times as many trits as data
unfoldable pub flip_flop_from : ℕ → List ℕ → FlipFlop
flip_flop_from width ops =
    let trits = drop 9 (drop width ops) in
    record {
      bits = take width ops;
      controls = controls_from (drop width ops);
      clear_value = take width trits;
      reset_value = take width (drop width trits);
      init_value = drop width (drop width trits);
    }

unfoldable pub first_half : List ℕ → Value
first_half ops = take (length ops / 2) ops

unfoldable pub second_half : List ℕ → Value
second_half ops = drop (length ops / 2) ops

-- kind, width, first net, operands
unfoldable pub entry_from : ℕ → ℕ → ℕ → List ℕ → Entry
entry_from kind width first ops =
    when eqb kind 1 then Void first width
    else when eqb kind 2 then Not first ops
    else when eqb kind 3 then And first (take width ops) (drop width ops)
    else when eqb kind 4 then Or first (take width ops) (drop width ops)
    else when eqb kind 5 then Mux first (get_or ops 0 0) (take width (drop 1 ops)) (drop width (drop 1 ops))
    else when eqb kind 6 then Eq first (first_half ops) (second_half ops)
    else when eqb kind 7 then Shl first (get_or ops 0 0) (take (get_or ops 1 0) (drop 2 ops)) (drop (get_or ops 1 0) (drop 2 ops))
    else when eqb kind 8 then Ushr first (get_or ops 0 0) (take (get_or ops 1 0) (drop 2 ops)) (drop (get_or ops 1 0) (drop 2 ops))
    else when eqb kind 9 then Dff first (flip_flop_from width ops)
    else Replace (first_half ops) (second_half ops)

-- an entry's values are equally long
unfoldable pub formed : Entry → Bool
formed (Void first width) = true
formed (Not first a) = true
formed (And first a b) = not (unequal a b)
formed (Or first a b) = not (unequal a b)
formed (Mux first select a b) = not (unequal a b)
formed (Eq first a b) = not (unequal a b)
formed (Shl first stride select a) = true
formed (Ushr first stride select a) = true
formed (Dff first f) = not (bad_trit_lens (length f.bits) f.clear_value f.reset_value f.init_value)
formed (Replace from to) = not (unequal from to)

-- ---- reading
-- the entry at the front of the words and the words after it; none where they do not start with an entry of document 01's form
unfoldable pub decode : List ℕ → Option (Entry × List ℕ)
decode l =
    let count = get_or l 3 0 in
    let e = entry_from (get_or l 0 0) (get_or l 1 0) (get_or l 2 0) (take count (drop 4 l)) in
    when formed e && same_list (encode e) (take 4 l ++ take count (drop 4 l)) then some (e, drop count (drop 4 l)) else none

-- an entry before the entries of the rest
unfoldable pub before : Entry → Option (List Entry) → Option (List Entry)
before e none = none
before e (some es) = some (e ∷ es)

-- an entry and the entries that `again` reads after it
unfoldable pub read_on : (List ℕ → Option (List Entry)) → Option (Entry × List ℕ) → Option (List Entry)
read_on again none = none
read_on again (some x) = before x.0 (again x.1)

unfoldable pub decode_by : (List ℕ → Option (List Entry)) → List ℕ → Option (List Entry)
decode_by again [] = some []
decode_by again (w ∷ ws) = read_on again (decode (w ∷ ws))

-- all entries of the words, at most n; none where some words are no entry
unfoldable pub decode_all : ℕ → List ℕ → Option (List Entry)
decode_all zero l = decode_by (λ r. none) l
decode_all (suc n) l = decode_by (decode_all n) l
