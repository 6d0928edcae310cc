-- The struct of what a swizzle tells, and what a struct tells.
use Rattle.rules.specs.Answers.{answer_of}
use Rattle.record_sizes.specs.View.{view_sizes}
use Rattle.swizzle_call.specs.Told.{Told}
use Rattle.swizzle_patches.specs.Joined.{ToldPatches}
use Rattle.c_record.specs.View.{head_struct}
use Rattle.c_swizzle.specs.declared.Swizzled.{Swizzled}
use Rattle.c_swizzle.specs.declared.SwizzledPatches.{SwizzledPatches}
use Rattle.c_swizzle.specs.View.{given_wide, wide_struct}

-- the sizes are 0 where the call is refused
abbrev pub swizzled_struct : Told → Swizzled
swizzled_struct x = record {
  number = x.refusal;
  state = x.made.state;
  memory = wide_struct x.made.memory;
  nets_used = x.made.nets_at;
  trits_used = x.made.trits_at;
  laid = x.laid;
  sizes = (head_struct x.sizes).sizes;
}

abbrev pub given_swizzled : Swizzled → Told
given_swizzled r = record {
  refusal = r.number;
  made = record { state = r.state; memory = given_wide r.memory; nets_at = r.nets_used; trits_at = r.trits_used };
  laid = r.laid;
  sizes = answer_of r.number (view_sizes r.sizes);
}

abbrev pub patches_struct : ToldPatches → SwizzledPatches
patches_struct x = record { swizzled = swizzled_struct x.swizzled; patches = x.patches }

abbrev pub given_patches : SwizzledPatches → ToldPatches
given_patches r = record { swizzled = given_swizzled r.swizzled; patches = r.patches }
