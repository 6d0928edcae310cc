-- `record_bits::Group::of` meets its contract.
use Rattle.std.proofs.Common.{ℕ, ◌≡◌, ◌<◌, ◌≤◌, ◌+◌, ◌*◌, List, [], ◌∷◌, ◌++◌, arith, length, map, sym, ap, ◌∙◌}
use Rattle.rules.specs.Record.{byte_of, known_bit, value_bit}
use Rattle.record_bits.proofs.Packs.{byte_on, on_last, on_none, on_most, on_end, byte_small, known_lt, value_lt}
use Rattle.record_bits.proofs.Group.of.Goals as goal

pub loop-t-init : goal.loop-t-init
loop-t-init c = (on_none known_bit _, on_none value_bit _)

-- one trit from the end of what is left
turn : (f : ℕ → ℕ) (l all new : List ℕ) (t k b : ℕ) → b ≡ f t → l ≡ new ++ (t ∷ []) → byte_on f l k ≡ byte_of (map f all) → byte_on f new (b + 2 * k) ≡ byte_of (map f all)
turn f l all new t k b e q i = ap (λ (x : ℕ). byte_on f new (x + 2 * k)) e ∙ sym (on_last f new t k) ∙ sym (ap (λ (m : List ℕ). byte_on f m k) q) ∙ i

-- a byte, as eight bits at most are before it
small : (f : ℕ → ℕ) → ((t : ℕ) → f t < 2) → (new all part : List ℕ) (k : ℕ) → byte_on f new k ≡ byte_of (map f all) → all ≡ part → length part ≤ 8 → k < 256
small f z new all part k e q h = omega (arith, on_most f new k, e, byte_small f z 8 all (omega (arith, ap length q)))

pub overflow_add-known : goal.overflow_add-known
overflow_add-known c =
    let e = turn known_bit _ _ _ _ c.loop-t.known c.known_bit.result c.known_bit.ensures c.in-Some.ensures.steps c.loop-t.invariant.0 in
    let q : c.into_iter-t-iterator.result.iter.rest.now ≡ c.args.ts.now = cc in
    record { fits = small known_bit known_lt _ _ c.args.ts.now _ e q c.requires }

pub overflow_mul-known : goal.overflow_mul-known
overflow_mul-known c = omega (arith, overflow_add-known c)

pub overflow_add-value : goal.overflow_add-value
overflow_add-value c =
    let e = turn value_bit _ _ _ _ c.loop-t.value c.value_bit.result c.value_bit.ensures c.in-Some.ensures.steps c.loop-t.invariant.1 in
    let q : c.into_iter-t-iterator.result.iter.rest.now ≡ c.args.ts.now = cc in
    record { fits = small value_bit value_lt _ _ c.args.ts.now _ e q c.requires }

pub overflow_mul-value : goal.overflow_mul-value
overflow_mul-value c = omega (arith, overflow_add-value c)

pub loop-t-preserved : goal.loop-t-preserved
loop-t-preserved c = (
  turn known_bit _ _ _ _ c.loop-t.known c.known_bit.result c.known_bit.ensures c.in-Some.ensures.steps c.loop-t.invariant.0,
  turn value_bit _ _ _ _ c.loop-t.value c.value_bit.result c.value_bit.ensures c.in-Some.ensures.steps c.loop-t.invariant.1,
)

pub returns : goal.returns
returns c =
    let q : c.into_iter-t-iterator.result.iter.rest.now ≡ c.args.ts.now = cc in (
      on_end known_bit _ _ c.in-None.ensures.steps.0 ∙ c.loop-t.invariant.0 ∙ ap (λ (l : List ℕ). byte_of (map known_bit l)) q,
      on_end value_bit _ _ c.in-None.ensures.steps.0 ∙ c.loop-t.invariant.1 ∙ ap (λ (l : List ℕ). byte_of (map value_bit l)) q,
    )
