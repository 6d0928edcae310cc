-- What a function that puts text into a lent array leaves: the text from a place on, and the place after it. What lies past the end is not stored.
use Rattle.std.specs.Prelude.{ℕ, ◌+◌, ◌≡◌, List, length}
use Rattle.std.proofs.lemmas.List.Edits.{sets}
use Rattle.record_listing.specs.declared.text.Text.{Text}

pub record Put (before : List ℕ) (at : ℕ) (text after : List ℕ) (next : ℕ) : Type 0 where
  pub stored : after ≡ sets before at text
  pub place : next ≡ at + length text

-- the same of a text in its array, which is still the one that was lent
pub record Added (before : Text) (text : List ℕ) (after : Text) : Type 0 where
  pub put : Put before.out.now before.at text after.out.now after.at
  pub name : after.out.ghost_name ≡ before.out.ghost_name

-- no text is longer: the first line has up to 37 bytes, each of up to 32,768 others up to 50
abbrev pub max_text : ℕ
max_text = 1638437

-- and no place is farther
abbrev pub max_place : ℕ
max_place = 4294967296
