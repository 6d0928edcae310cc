-- `record_codec::put_record` meets its contract.
use Rattle.record_sizes.specs.View.{view_sizes}
use Rattle.rules.specs.Record.{encode_record}
use Rattle.record_codec.proofs.Writing.{fits, words, stored}
use mathlib.Core.Path.{ap, ◌∙◌}
use Prim.Native.Nat.{ℕ}
use mathlib.Core.List.{List}
use lib.Seq.{sets}
use Rattle.record_codec.proofs.put_record.Goals as goal

pub put_head-requires : goal.put_head-requires
put_head-requires c =
    let f = fits _ _ _ c.requires in
    words c.args.sizes f.sizes

pub returns : goal.returns
returns c =
    let f = fits _ _ _ c.requires in
    let z = view_sizes c.args.sizes in
    let e = c.image_of.ensures in (
      c.record_bytes.ensures f.sizes,
      stored z c.args.out.now c.put_head.new.out c.put_arrays.new.out _ c.put_head.ensures c.put_arrays.ensures
          ∙ ap (λ (ts : List ℕ). sets c.args.out.now 0 (encode_record z ts)) e,
    )
