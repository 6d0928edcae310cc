-- `record_codec::bad_bits` meets its contract.
use Rattle.record_bits.specs.Groups.{bad_by}
use Rattle.record_codec.proofs.Arrays.{bad_arrays, arrays_alike, arrays_cong, cut_known, cut_value, cut_in}
use Prim.Native.Nat.{◌+◌, ◌-◌}
use native.Mathlib.Omega.{arith}
use lib.ListN.{drop, length-take}
use mathlib.Core.Path.{sym, ap, ◌∙◌}
use Rattle.rules.specs.Record.{array_bytes}
use Rattle.record_codec.proofs.Heads.{array_bytes_lem}
use Rattle.record_codec.proofs.bad_bits.Goals as goal

pub slice_bounds-bad_arrays-end : goal.slice_bounds-bad_arrays-end
slice_bounds-bad_arrays-end c = cut_in c.args.bytes.now c.requires.0 c.div_ceil-middle.result (c.div_ceil-middle.ensures ∙ array_bytes_lem c.args.count ∙ ap array_bytes c.requires.1)

pub slice_bounds-bad_arrays-count-2 : goal.slice_bounds-bad_arrays-count-2
slice_bounds-bad_arrays-count-2 c = cut_in c.args.bytes.now c.requires.0 c.div_ceil-middle.result (c.div_ceil-middle.ensures ∙ array_bytes_lem c.args.count ∙ ap array_bytes c.requires.1)

pub slice_bounds-bad_arrays-start-2 : goal.slice_bounds-bad_arrays-start-2
slice_bounds-bad_arrays-start-2 c = cut_in c.args.bytes.now c.requires.0 c.div_ceil-middle.result (c.div_ceil-middle.ensures ∙ array_bytes_lem c.args.count ∙ ap array_bytes c.requires.1)

pub bad_arrays-requires : goal.bad_arrays-requires
bad_arrays-requires c =
    let b = c.args.bytes.now in (
      arrays_alike b c.requires.0 _ _ (cut_known b c.requires.0 c.div_ceil-middle.result (c.div_ceil-middle.ensures ∙ array_bytes_lem c.args.count ∙ ap array_bytes c.requires.1)) (cut_value b c.requires.0 c.div_ceil-middle.result (c.div_ceil-middle.ensures ∙ array_bytes_lem c.args.count ∙ ap array_bytes c.requires.1)),
      omega (arith, c.div_ceil-middle.ensures, length-take (12 + c.div_ceil-middle.result - 12) (drop 12 b)),
    )

pub returns : goal.returns
returns c =
    let b = c.args.bytes.now in
    c.bad_arrays.ensures ∙ arrays_cong b bad_by _ _ _ c.requires.1 (cut_known b c.requires.0 c.div_ceil-middle.result (c.div_ceil-middle.ensures ∙ array_bytes_lem c.args.count ∙ ap array_bytes c.requires.1)) (cut_value b c.requires.0 c.div_ceil-middle.result (c.div_ceil-middle.ensures ∙ array_bytes_lem c.args.count ∙ ap array_bytes c.requires.1)) ∙ sym (bad_arrays b)
