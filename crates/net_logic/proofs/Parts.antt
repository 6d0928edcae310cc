-- A law of returned parts: what is given where no number refuses the call.
use mathlib.Core.Path.{◌≡◌, sym, ap}
use Prim.Native.Nat.{ℕ}
use mathlib.Core.List.{List}
use Rattle.rules.specs.Answers.{answer_of}
use Rattle.rules.proofs.Answers.{answer_accepted}
use Rattle.net_logic.specs.View.{given_part}

pub part-given : (n : ℕ) (l : List ℕ) → n ≡ 0 → l ≡ given_part (answer_of n l)
part-given n l e = sym (ap given_part (answer_accepted n l e))
