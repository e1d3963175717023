use Rattle.g1heap_request.proofs.Tipped.{own_cut, own_none}
use Rattle.g1heap_request.proofs.tips.without_tip.Goals as goal

pub returns-in-Some : goal.returns-in-Some
returns-in-Some c = own_cut c.args.message.now (c.in-Some.said, c.in-Some.field-0-1) c.in-Some.ensures.cases

pub returns-in-None : goal.returns-in-None
returns-in-None c = own_none c.args.message.now c.in-None.ensures.cases
