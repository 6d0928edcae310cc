-- `try_kit::sums::sum_of` meets its contract.
use Rattle.try_kit.specs.Sums.{weighed}
use mathlib.Core.Path.{◌≡◌, refl, sym, ap, ◌∙◌}
use Prim.Native.Nat.{ℕ, ◌+◌, ◌*◌, ◌%◌, ◌≤◌, ◌<◌}
use native.Mathlib.Numerals.{add-one}
use native.Mathlib.Omega.{arith}
use mathlib.Core.List.{List, ◌∷◌}
use lib.ListN.{length, drop, get_or, drop_of_length-le}
use lib.Seq.{drop-cons}
use Rattle.try_kit.proofs.sums.sum_of.Goals as goal

next : (i : ℕ) (l : List ℕ) → i < length l → drop i l ≡ get_or l i 0 ∷ drop (i + 1) l
next i l h = rw (add-one, drop-cons l i 0 h)

more : (sum i : ℕ) (bytes : List ℕ) → i < length bytes → weighed sum (drop i bytes) ≡ weighed ((sum * 257 + get_or bytes i 0 + 1) % 4294967291) (drop (i + 1) bytes)
unfolding weighed
more sum i bytes h = ap (weighed sum) (next i bytes h)

all : (sum i : ℕ) (bytes : List ℕ) → length bytes ≤ i → weighed sum (drop i bytes) ≡ sum
unfolding weighed
all sum i bytes h = rw (drop_of_length-le bytes h)

below : (n : ℕ) → n % 4294967291 < 4294967291
below n = omega arith

pub loop-b-init : goal.loop-b-init
loop-b-init c = (omega arith, refl)

pub loop-b-preserved : goal.loop-b-preserved
loop-b-preserved c =
    let l = c.loop-b in
    let b = c.args.bytes.now in
    (below (l.sum * 257 + get_or b l.b-index 0 + 1), sym (more l.sum l.b-index b (omega arith)) ∙ l.invariant.1)

pub returns : goal.returns
returns c =
    let l = c.loop-b in
    sym (all l.sum l.b-index c.args.bytes.now (omega arith)) ∙ l.invariant.1
