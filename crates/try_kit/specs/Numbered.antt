-- Counts of cases by the number that each expects, and how the cases of a trial lead from one count to the next.
use Rattle.std.specs.Prelude.{ℕ, zero, suc, ◌≡◌, Bool, true, eqb}
use Rattle.try_kit.specs.Tally.{more}
use Rattle.try_kit.specs.declared.numbered.Tally.{Tally}

abbrev pub no_case : Tally
no_case = record { made = 0; right = 0; accepted = 0; large = 0; unequal = 0; bad = 0; full = 0; netless = 0 }

abbrev pub one_case : Tally → ℕ → Bool → Tally
one_case t number ok = record {
  made = more t.made true;
  right = more t.right ok;
  accepted = more t.accepted (eqb number 0);
  large = more t.large (eqb number 1);
  unequal = more t.unequal (eqb number 2);
  bad = more t.bad (eqb number 4);
  full = more t.full (eqb number 20);
  netless = more t.netless (eqb number 21);
}

-- u counts one case more than t: of some number, right or not
unfoldable pub one_case_more : Tally → Tally → Type 0
one_case_more t u = (number : ℕ) × ((ok : Bool) × (u ≡ one_case t number ok))

-- each request is tried in so many cases
abbrev pub cases : ℕ
cases = 720

-- n turns lead from t to u, one after the other
unfoldable pub turns : (Tally → Tally → Type 0) → ℕ → Tally → Tally → Type 0
turns turn zero t u = u ≡ t
turns turn (suc n) t u = (v : Tally) × (turns turn n t v × turn v u)

-- u counts n cases more than t, one after the other
unfoldable pub cases_more : ℕ → Tally → Tally → Type 0
cases_more n t u = turns one_case_more n t u
