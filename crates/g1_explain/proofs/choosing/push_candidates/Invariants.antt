use Rattle.std.proofs.Common.{◌≡◌, ◌++◌, take, string_bytes}
use Rattle.g1_text.specs.Lines.{text_of}
use Rattle.g1_explain.specs.Choosing.{candidate_lines}
use Rattle.g1_explain.proofs.Candidates.{total_after}
use Rattle.g1_explain.proofs.choosing.push_candidates.Given as goal

abbrev pub invariant-loop-index : goal.invariant-loop-index
invariant-loop-index l = record {
  text : string_bytes l.text ≡ string_bytes l.initial.text ++ text_of (candidate_lines l.base l.taken (take l.index l.order));
  total : l.total ≡ total_after l.base (take l.index l.order);
}
