use Rattle.std.proofs.Common.{◌≡◌, ◌++◌, flat_map, take, string_bytes}
use Rattle.g1_text.specs.Lines.{text_of}
use Rattle.g1_explain.specs.Changes.{patch_moves}
use Rattle.g1_explain.proofs.changes.push_patches.Given as goal

abbrev pub invariant-loop-patch : goal.invariant-loop-patch
invariant-loop-patch l = string_bytes l.text ≡ string_bytes l.initial.text ++ flat_map (λ x. text_of (patch_moves l.heap x)) (take l.patch-index l.patches)
