-- `fallback::Lowering::split_refusal` meets its contract.
use mathlib.Core.Path.{refl, ap, ◌∙◌}
use Prim.Native.Nat.{ℕ, ◌-◌}
use native.Mathlib.Omega.{arith}
use Rattle.log_entries.specs.View.{state_of}
use Rattle.net_memory.specs.View.{memory_of}
use Rattle.rules.specs.Refusals.{room_refusal}
use Rattle.rules.specs.Refusal.{number_of}
use Rattle.rules.specs.Log.{LogState}
use Rattle.fallback_pass.specs.Split.{split_words, split_nets}
use Rattle.fallback.proofs.Numbers.{left_none, left_same, later_grows, bare_thin, split_refusal}
use Rattle.fallback.proofs.Lowering.split_refusal.Goals as goal

pub returns-then-whole-words : goal.returns-then-whole-words
returns-then-whole-words c =
    let v = c.args in
    left_none v.room (state_of v.self.now.st) v.words v.made (split_words (memory_of v.self.now.given.memory v.self.now.given.nets.now v.self.now.given.trits.now)) (split_nets (memory_of v.self.now.given.memory v.self.now.given.nets.now v.self.now.given.trits.now)) (omega (arith, c.min-whole.ensures, c.if-whole-words.true))

pub plan_refusal-requires : goal.plan_refusal-requires
plan_refusal-requires c =
    let v = c.args in
    bare_thin v.self.now.given.memory v.self.now.given.nets.now v.self.now.given.trits.now v.self.now.output.now v.self.now.st v.self.now.tables v.self.now.asked c.requires c.bare_memory.result c.bare_memory.ensures.value

pub returns : goal.returns
returns c =
    let v = c.args in
    let l : LogState = record { used = v.self.now.st.used; next = c.later_net.result } in
    split_refusal v.self.now.given.memory v.self.now.given.nets.now v.self.now.given.trits.now v.self.now.output.now v.self.now.st v.self.now.tables v.self.now.asked c.requires (record { log = c.min-whole.result - v.words; state = record { used = v.self.now.st.used; next = c.later_net.result }; image = 32768; nets = v.self.now.tables; trits = 0; scratch = 32768 }) refl refl refl (c.min-whole.result - v.words) (record { used = v.self.now.st.used; next = c.later_net.result }) (later_grows v.self.now.st.next v.made c.later_net.result c.later_net.ensures) c.bare_memory.result c.bare_memory.ensures.value (number_of c.plan_refusal.result) c.plan_refusal.ensures
    ∙ ap (λ (k : ℕ). room_refusal (k - v.words) l (split_words (memory_of v.self.now.given.memory v.self.now.given.nets.now v.self.now.given.trits.now)) (split_nets (memory_of v.self.now.given.memory v.self.now.given.nets.now v.self.now.given.trits.now))) c.min-whole.ensures
    ∙ left_same v.room (state_of v.self.now.st) v.words v.made (split_words (memory_of v.self.now.given.memory v.self.now.given.nets.now v.self.now.given.trits.now)) (split_nets (memory_of v.self.now.given.memory v.self.now.given.nets.now v.self.now.given.trits.now)) c.later_net.result c.later_net.ensures (omega (arith, c.min-whole.ensures, c.if-whole-words.false))
