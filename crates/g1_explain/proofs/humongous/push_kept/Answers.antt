use Rattle.std.proofs.Common.{string_bytes}
use Rattle.std.proofs.lemmas.Result.{on_ok_weaker}
use Rattle.g1_explain.proofs.HumongousLines.{kept_end}
use Rattle.g1_explain.proofs.humongous.push_kept.Goals as goal

pub returns : goal.returns
returns c = on_ok_weaker c.push_found.result (kept_end c.args.at c.args.finder (string_bytes c.args.text.now) (string_bytes c.write.new.self) (string_bytes c.push_found.new.text) c.in_ok-write.ensures.bytes) c.push_found.ensures
