-- The trits of a clocked read port, in lent room.
use Rattle.std.specs.Prelude.{ℕ, ◌+◌, List, length, leb}
use Rattle.std.proofs.lemmas.List.Edits.{sets}
use Rattle.lists.specs.Choice.{when◌then◌else◌}
use Rattle.lists.specs.Lists.{part}
use Rattle.swizzle_columns.specs.declared.WidePort.{WidePort}
use Rattle.swizzle_columns.specs.Wide.{trits_of}

-- the trits of one kind, from `at` on
unfoldable pub put_trits : WidePort → List ℕ → List ℕ → ℕ → ℕ → List ℕ → List ℕ
put_trits p es v at size room = sets room at (trits_of p es v (part at size room))

-- those of the three kinds, where the room holds them
unfoldable pub three_trits : WidePort → List ℕ → List ℕ → List ℕ → List ℕ → ℕ → ℕ → List ℕ → List ℕ
three_trits p es clear reset init at size room =
    when leb (at + (size + (size + size))) (length room)
    then put_trits p es init (at + (size + size)) size (put_trits p es reset (at + size) size (put_trits p es clear at size room))
    else room
