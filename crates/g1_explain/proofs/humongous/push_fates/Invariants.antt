use Rattle.std.proofs.Common.{◌≡◌, ◌++◌, flat_map, string_bytes}
use Rattle.std.specs.Prelude.{slice_index_or}
use Rattle.std.specs.List.{range_with_len}
use Rattle.g1_text.specs.Lines.{text_of}
use Rattle.g1_explain.specs.declared.humongous.Keeper.TheVariants.{NoObject}
use Rattle.g1_explain.specs.Humongous.{fate_lines}
use Rattle.g1_explain.proofs.humongous.push_fates.Given as goal

abbrev pub invariant-loop-region : goal.invariant-loop-region
invariant-loop-region l = string_bytes l.text ≡ string_bytes l.initial.text ++ flat_map (λ r. text_of (fate_lines l.heap r (slice_index_or l.keepers r NoObject))) (range_with_len 0 l.region)
