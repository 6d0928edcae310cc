-- The whole answer of a swizzle, as what it tells and the lent arrays hold it.
use Rattle.std.specs.Prelude.{ℕ, List, take, drop}
use Rattle.std.proofs.Math.Option.{Option, none, some}
use Rattle.lists.specs.Choice.{leaves}
use Rattle.rules.specs.Ports.{Driving}
use Rattle.rules.specs.Geometry.{Layout}
use Rattle.rules.specs.Image.{image_size}
use Rattle.rules.specs.Answers as rules
use Rattle.log_entries.specs.View.{state_of}
use Rattle.image_state.specs.View.{laid_of}
use Rattle.swizzle_result.specs.View.{results_of}
use Rattle.swizzle_call.specs.Told.{Told}

-- the trits of the image that a state for patches is for
abbrev pub trits : Option Layout → ℕ
trits none = 0
trits (some q) = image_size q

-- the memories: the struct says how many nets and trits of the rooms are theirs
abbrev pub held_by_of : Told → List ℕ → List ℕ → List ℕ → List Driving
held_by_of x to kinds image = results_of x.made.memory (take x.made.nets_at to) (take x.made.trits_at kinds) (take (trits (laid_of x.laid)) image)

-- the answer; of the scratch an accepted call keeps what lies past `need`
abbrev pub swizzled_of : Told → ℕ → List ℕ → List ℕ → List ℕ → List ℕ → List ℕ → rules.Swizzled
swizzled_of x need log image to kinds scratch = record {
  logged = record { answer = rules.answer_of x.refusal (record { value = held_by_of x to kinds image; state = state_of x.made.state }); log = log };
  image = image;
  nets = to;
  trits = kinds;
  scratch_kept_of = leaves x.refusal scratch (drop need scratch);
  laid = rules.answer_of x.refusal (laid_of x.laid);
  sizes = x.sizes;
}
