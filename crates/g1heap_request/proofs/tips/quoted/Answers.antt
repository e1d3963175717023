use Rattle.g1heap_request.proofs.Tipped.{quoted_word}
use Rattle.g1heap_request.proofs.tips.quoted.Goals as goal

pub returns : goal.returns
returns c = λ word quotes.
    quoted_word c.args.text.now word c.split_once.result c.split_once-2.result _ _ c.unwrap_or.result c.unwrap_or-2.result quotes c.split_once.ensures.cases c.unwrap_or.ensures c.split_once-2.ensures.cases c.unwrap_or-2.ensures
