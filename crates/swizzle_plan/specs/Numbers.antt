-- The old wide logs of a memory's ports, and number 9 by them.
use Rattle.std.specs.Prelude.{ℕ, Bool, ◌||◌, not, List, map, replicate, length, eqb}
use Rattle.std.proofs.lemmas.List.Edits.{sets}
use Rattle.lists.specs.Lists.{any, pairs}
use Rattle.rules.specs.Limits.{max_ports}
use Rattle.rules.specs.Conditions.{bad_wide}
use Rattle.rules.specs.Cell.{Mem, Plan, write_wide_log2, read_wide_log2, read_at_of}

-- a list of at most eight numbers in an array of eight
abbrev pub in_eight : List ℕ → List ℕ
in_eight l = sets (replicate max_ports 0) 0 l

-- the old wide logs of the write ports, and of the listed read ports
abbrev pub write_logs : Mem → List ℕ
write_logs m = map (write_wide_log2 m) m.writes

abbrev pub read_logs : Mem → List ℕ → List ℕ
read_logs m ports = map (λ (i : ℕ). read_wide_log2 m (read_at_of m i)) ports

-- new wide logs over old ones
abbrev pub wides_bad : Plan → List ℕ → List ℕ → Bool
wides_bad p olds news = not (eqb (length news) (length olds)) || any (λ x. bad_wide p x.0 x.1) (pairs olds news)
