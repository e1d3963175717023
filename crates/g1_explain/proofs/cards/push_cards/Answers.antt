use Rattle.std.proofs.Common.{◌<◌, All, sym, subst, string_bytes}
use Rattle.std.proofs.lemmas.Result.{on_ok_weaker}
use Rattle.g1_words.specs.Heap.{Heap}
use Rattle.g1_explain.proofs.Marks.{set_end}
use Rattle.g1_explain.proofs.cards.push_cards.Goals as goal

pub returns : goal.returns
returns c = λ below.
    on_ok_weaker c.push_entries.result
    (set_end c.args.walkable.now.heap c.args.set.now c.args.cards.now c.in_ok-marks.marks (string_bytes c.args.text.now) (string_bytes c.push_str.new.self) (string_bytes c.push_numbers.new.text) (string_bytes c.push_entries.new.text)
    (c.in_ok-marks.ensures (subst (λ (g : Heap). All (λ r. r < g.geometry.n) c.args.set.now) (sym c.heap.ensures.same) below)) c.in_ok-push_str.ensures.bytes c.in_ok-push_numbers.ensures) c.push_entries.ensures
