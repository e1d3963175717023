use Rattle.std.proofs.Common.{◌<◌, length, replicate, arith, ap, sym, ◌∙◌, slice_set}
use Rattle.std.proofs.lemmas.List.{set-append_left}
use Rattle.g1_words.specs.Words.{Words}
use Rattle.g1_words.proofs.words.Words.set.Goals as goal

pub returns-clause-items : goal.returns-clause-items
returns-clause-items c =
    let laid = c.self.inside.laid.items in
    let at = c.args.a in
    let under : at < length laid = omega (arith, c.lay_to.ensures.laid, ap (λ (w : Words). w.laid) c.self.view_is) in
    sym (set-append_left laid (replicate c.self.inside.zeros 0) at c.args.word under) ∙ ap (λ (w : Words). slice_set w.items at c.args.word) c.self.view_is
    ∙ ap (λ l. slice_set l at c.args.word) c.lay_to.ensures.items
