-- What `map_err` makes of a text's fault, and of a call's refusal.
use mathlib.Core.Path.{◌≡◌, ap, ◌∙◌}
use Prim.Native.Nat.{ℕ}
use mathlib.Core.List.{List}
use native.Mathlib.Omega.{arith}
use Rattle.std.specs.Prelude.{Result, Ok, Err, IsErrAnd}
use Rattle.std.specs.Result.{MatchResult}
use Rattle.rules.specs.declared.numbers.Refusal.{Refusal}
use Rattle.record_codec.specs.View.{view_written}
use Rattle.table_read.specs.declared.Table.{Table}
use Rattle.table_read.specs.declared.Fault.{Fault}
use Rattle.table_read.specs.Table.{parse_table}
use Rattle.table_read.specs.View.{parsed_of}
use Rattle.table_record.specs.declared.Refused.{Refused}
use Rattle.table_record.specs.declared.Refused.TheVariants.{Text, Call}
use Rattle.table_record.specs.Split.{IsSplit, split_by, split_call}
use Rattle.table_record.specs.View.{answer_as, split_as}

module _ (out text : List ℕ) where
  pub faulted : (r : Result Table Fault) (e : Refused) → parsed_of r ≡ parse_table text → MatchResult r (λ t. ◌≡◌ {A = Result Table Refused} (Err e) (Ok t)) (λ f. e ≡ Text f) → split_as (Err e) out ≡ split_call out text
  unfolding split_call split_by parsed_of
  faulted (Ok t) e p h = let z : ◌≡◌ {A = ℕ} 0 1 = cc in absurd (omega arith)
  faulted (Err f) e p h = ap (λ (x : Refused). split_as (Err x) out) h ∙ ap (split_by out) p

pub read : (r : Result Table Fault) (t : Table) → MatchResult r (λ x. ◌≡◌ {A = Result Table Refused} (Ok t) (Ok x)) (λ f. ⊥) → r ≡ Ok t
read (Ok x) t h = cc
read (Err f) t h = absurd h

pub called : (r : Result ℕ Refusal) (s : Result ℕ Refused) → MatchResult r (λ n. s ≡ Ok n) (λ e. IsErrAnd s (λ x. x ≡ Call e)) → answer_as s ≡ IsSplit (view_written r)
called (Ok n) s h = ap answer_as h
called (Err e) (Ok n) h = absurd h
called (Err e) (Err x) h = ap (λ (y : Refused). answer_as (Err y)) h
