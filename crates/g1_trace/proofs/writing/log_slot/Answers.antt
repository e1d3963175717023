use Rattle.std.proofs.Common.{sym, ◌∙◌, true≢false}
use Rattle.g1_trace.proofs.Barrier.{crossed, stayed}
use Rattle.g1_trace.proofs.writing.log_slot.Goals as goal

pub returns-in_ok-insert_full-clause-ok : goal.returns-in_ok-insert_full-clause-ok
returns-in_ok-insert_full-clause-ok c =
    let away = c.crosses.ensures.0 c.if-crosses.true in
    crossed c.args.geometry.now c.args.log.now.keys c.args.at c.args.value _ c.insert_full.new.self.keys away.0 away.1 c.card_of.ensures c.in_ok-insert_full.ensures.keys

pub returns-else-crosses-clause-ok : goal.returns-else-crosses-clause-ok
returns-else-crosses-clause-ok c =
    stayed c.args.geometry.now c.args.log.now.keys c.args.at c.args.value (λ away. true≢false (sym (c.crosses.ensures.1 away) ∙ c.if-crosses.false))
