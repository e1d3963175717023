use Rattle.std.proofs.Common.{◌∙◌, sym}
use Rattle.g1_text.proofs.WeakLines.{kept_more, kept_same}
use Rattle.g1_text.proofs.weak.Known.keep.Goals as goal

pub returns-in_ok-insert-clause-objects : goal.returns-in_ok-insert-clause-objects
returns-in_ok-insert-clause-objects c = λ lines words is kept.
    kept_more lines c.args.name.now words c.args.line c.args.self.now.objects c.insert.new.self is kept (sym c.contains_key.ensures ∙ c.if-not-contains_key.true) c.in_ok-insert.ensures.updates

pub returns-else-not-contains_key-clause-objects : goal.returns-else-not-contains_key-clause-objects
returns-else-not-contains_key-clause-objects c = λ lines words is kept.
    kept_same lines c.args.name.now words _ c.args.self.now.objects is kept (sym c.contains_key.ensures ∙ c.if-not-contains_key.false)
