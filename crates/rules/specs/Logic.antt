-- logic.rs: trits and constants. A constant is a list of trit codes: 0, 1, and 2 for X.
use Rattle.std.specs.Prelude.{ℕ, Bool, List, map, replicate, eqb, leb}
use Rattle.rules.specs.Limits.{trit_x}
use Rattle.lists.specs.Choice.{when◌then◌else◌}
use Rattle.lists.specs.Lists.{all, pairs}

abbrev pub Const : Type 0
Const = List ℕ

pub data Trit : Type 0 where
  Zero One Undef : Trit

-- the trit of a code, and back
unfoldable pub trit_of : ℕ → Trit
trit_of n = when eqb n 0 then Zero else when eqb n 1 then One else Undef

unfoldable pub code_of : Trit → ℕ
code_of Zero = 0
code_of One = 1
code_of Undef = trit_x

-- IEEE 1364
unfoldable pub trit_not : Trit → Trit
trit_not Zero = One
trit_not One = Zero
trit_not Undef = Undef

unfoldable pub trit_and : Trit → Trit → Trit
trit_and Zero Zero = Zero
trit_and Zero One = Zero
trit_and Zero Undef = Zero
trit_and One Zero = Zero
trit_and One One = One
trit_and One Undef = Undef
trit_and Undef Zero = Zero
trit_and Undef One = Undef
trit_and Undef Undef = Undef

unfoldable pub trit_or : Trit → Trit → Trit
trit_or Zero Zero = Zero
trit_or Zero One = One
trit_or Zero Undef = Undef
trit_or One Zero = One
trit_or One One = One
trit_or One Undef = One
trit_or Undef Zero = Undef
trit_or Undef One = One
trit_or Undef Undef = Undef

unfoldable pub const_not : Const → Const
const_not a = map (λ t. code_of (trit_not (trit_of t))) a

-- two constants, trit by trit
unfoldable pub tritwise : (Trit → Trit → Trit) → Const → Const → Const
tritwise op a b = map (λ p. code_of (op (trit_of p.0) (trit_of p.1))) (pairs a b)

unfoldable pub const_and : Const → Const → Const
const_and a b = tritwise trit_and a b

unfoldable pub const_or : Const → Const → Const
const_or a b = tritwise trit_or a b

-- every trit is X; an empty constant is undef
unfoldable pub is_undef : Const → Bool
is_undef a = all (λ t. eqb t trit_x) a

-- n trits of one kind
unfoldable pub undef : ℕ → Const
undef n = replicate n trit_x

unfoldable pub zeros : ℕ → Const
zeros n = replicate n 0

unfoldable pub ones : ℕ → Const
ones n = replicate n 1

-- each is a trit's code
unfoldable pub are_trits : Const → Bool
are_trits a = all (λ t. leb t trit_x) a
