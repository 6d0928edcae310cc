-- The invariants of `port_extract::Extraction::put_parts`.
use Rattle.std.proofs.Common.{◌≡◌, List, ℕ, ◌+◌, ◌≤◌, length, ◌*◌, take}
use Rattle.std.proofs.lemmas.List.Edits.{sets}
use Rattle.lists.specs.Lists.{concat_map}
use Rattle.port_extract.proofs.Extraction.put_parts.Given as goal

abbrev pub invariant-loop-k : goal.invariant-loop-k
invariant-loop-k g l =
    (l.at ≤ l.fn.start + l.k-index * 0x300000000)
    × ((f : ℕ → List g.row.T.Denot) → ((k : ℕ) (r : _) → goal.F-post g l.fn.part k r → r.now ≡ f k) → l.at ≡ l.fn.start + length (concat_map f (take l.k-index l.fn.self.list.now)))
    × ((f : ℕ → List g.row.T.Denot) → ((k : ℕ) (r : _) → goal.F-post g l.fn.part k r → r.now ≡ f k) → l.room ≡ sets l.fn.room l.fn.start (concat_map f (take l.k-index l.fn.self.list.now)))
