-- `log_entries::Log::emit_shift` meets its contract.
use mathlib.Core.Path.{refl, sym}
use native.Mathlib.Omega.{arith}
use mathlib.Core.List.{◌∷◌, ◌++◌}
use lib.ListN.{length, length-append}
use Rattle.log_entries.specs.View.{state_of, lent_of, kind_word}
use Rattle.log_entries.proofs.Emission.{count_words, entry-over}
use Rattle.log_entries.proofs.Log.emit_shift.Goals as goal

pub returns-then-select-gt-MAX_WORDS : goal.returns-then-select-gt-MAX_WORDS
returns-then-select-gt-MAX_WORDS c =
    let v = c.args in
    let ops = v.stride ∷ length v.select.now ∷ v.select.now ++ v.a.now in
    entry-over (lent_of v.self.now) (kind_word v.kind) (length v.a.now) v.self.now.state.next (length ops) ops refl _
    (sym (count_words (state_of v.self.now.state) _ _ (omega (arith, length-append v.select.now v.a.now)))) c.overflow-self.ensures
