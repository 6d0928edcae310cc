-- The requests that the programs try, by their entries, and what a case gives them.
use Rattle.std.specs.Prelude.{ℕ, ◌+◌, ◌%◌, min, List}
use Rattle.lists.specs.Choice.{when◌then◌else◌}
use Rattle.rules.specs.Answers.{slice_call}
use Rattle.net_logic.specs.View.{given_part}
use Rattle.try_kit.specs.Spoilt.{is_control}
use Rattle.try_kit.specs.Tally.{most}
use Rattle.try_kit.specs.declared.requests.Request.{Request}
use Rattle.try_kit.specs.declared.requests.Request.TheVariants.{Void, Not, And, Or, Mux, Eq, Shl, Ushr, Dff, Replace, IntoPos, Remap, DedupMux, DedupDff, BitwiseMux}
use Rattle.try_kit.specs.declared.requests.Case.{Case}

-- the kind of the one entry, 0 where there is none or more
abbrev pub kind_of : Request → ℕ
kind_of Void = 1
kind_of Not = 2
kind_of And = 3
kind_of Or = 4
kind_of Mux = 5
kind_of Eq = 6
kind_of Shl = 7
kind_of Ushr = 8
kind_of Dff = 9
kind_of Replace = 10
kind_of IntoPos = 0
kind_of Remap = 0
kind_of DedupMux = 0
kind_of DedupDff = 0
kind_of BitwiseMux = 0

-- a sum of two lengths, each a million at the most
abbrev pub sum_of : ℕ → ℕ → ℕ
sum_of a b = min a most + min b most

-- the words that it logs; of a merge, those where no two bits are equal
abbrev pub words_of : Request → ℕ → ℕ → ℕ
words_of Void n m = 4
words_of Not n m = sum_of 4 n
words_of And n m = sum_of 4 (sum_of n m)
words_of Or n m = sum_of 4 (sum_of n m)
words_of Mux n m = sum_of 5 (sum_of n m)
words_of Eq n m = sum_of 4 (sum_of n m)
words_of Shl n m = sum_of 6 (sum_of n m)
words_of Ushr n m = sum_of 6 (sum_of n m)
words_of Dff n m = sum_of (sum_of 13 n) (sum_of n (sum_of n m))
words_of Replace n m = sum_of 4 (sum_of n m)
words_of IntoPos n m = 5
words_of Remap n m = 11
words_of DedupMux n m = sum_of 5 (sum_of n m)
words_of DedupDff n m = sum_of (sum_of 13 n) (sum_of n (sum_of n m))
words_of BitwiseMux n m = sum_of 4 (sum_of n m)

-- the nets that it makes, at the most
abbrev pub results_of : Request → ℕ → ℕ
results_of Void n = n
results_of Not n = n
results_of And n = n
results_of Or n = n
results_of Mux n = n
results_of Eq n = 1
results_of Shl n = n
results_of Ushr n = n
results_of Dff n = n
results_of Replace n = 0
results_of IntoPos n = 1
results_of Remap n = 2
results_of DedupMux n = n
results_of DedupDff n = n
results_of BitwiseMux n = n

-- which control of a case is none, 4 where all are good
abbrev pub bad_one_of : Case → ℕ
bad_one_of c = when is_control c.bad then c.which % 4 else 4

-- a case's parts of the trits that it is given
abbrev pub clear_of : List ℕ → Case → List ℕ
clear_of trits c = given_part (slice_call 0 c.n trits)

abbrev pub reset_of : List ℕ → Case → List ℕ
reset_of trits c = given_part (slice_call 1 (sum_of c.n 1) trits)

abbrev pub init_of : List ℕ → Case → List ℕ
init_of trits c = given_part (slice_call 2 (sum_of c.m 2) trits)
