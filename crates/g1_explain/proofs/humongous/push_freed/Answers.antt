use Rattle.std.proofs.Common.{refl, string_bytes}
use Rattle.std.proofs.lemmas.Result.{on_ok_weaker}
use Rattle.g1_explain.proofs.HumongousLines.{freed_end}
use Rattle.g1_explain.proofs.humongous.push_freed.Goals as goal

pub returns : goal.returns
returns c =
    on_ok_weaker c.push_range.result
    (freed_end c.args.heap.now c.args.region c.args.at c.args.region c.run_end.result (string_bytes c.args.text.now) (string_bytes c.write.new.self) (string_bytes c.push_range.new.text) refl c.run_end.ensures c.in_ok-write.ensures.bytes) c.push_range.ensures
