use Rattle.std.proofs.Common.{◌≡◌, drop}
use Rattle.g1_copy.specs.Slices.{patched}
use Rattle.g1_copy.proofs.filling.write_patches.Given as goal

-- the patches that are left do the rest
abbrev pub invariant-loop-slot : goal.invariant-loop-slot
invariant-loop-slot l = patched l.patches l.start l.initial.words ≡ patched (drop l.slot-index l.patches) l.start l.words
