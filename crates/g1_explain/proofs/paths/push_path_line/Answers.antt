use Rattle.std.proofs.Common.{string_bytes}
use Rattle.g1_explain.proofs.Texts.{path_end}
use Rattle.g1_explain.proofs.paths.push_path_line.Goals as goal

pub returns : goal.returns
returns c =
    path_end (string_bytes c.args.text.now) (string_bytes c.write.new.self) (string_bytes c.push_steps.new.text) (string_bytes c.push_str.new.self) c.args.word.now c.args.at c.args.path.now
    c.in_ok-write.ensures.bytes c.in_ok-push_steps.ensures c.in_ok-push_str.ensures.bytes
