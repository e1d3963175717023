use Rattle.std.proofs.Common.{◌++◌, map, append-nil, sym, ◌∙◌, ap}
use Rattle.g1_text.specs.ByName.{read_holder}
use Rattle.g1_text.proofs.Lookups.{not_stale, is_stale}
use Rattle.g1_text.proofs.named.Lines.word.Goals as goal

pub returns-in-Some-clause-stale : goal.returns-in-Some-clause-stale
returns-in-Some-clause-stale c = λ g target located is word.
    let old = map read_holder c.args.stale.now.names.items in
    sym (append-nil old) ∙ ap (λ l. old ++ l) (sym (not_stale g c.args.addresses.now c.args.number target c.in-Some.word (sym (c.in-Some.ensures g target located is word))))

pub returns-in_ok-add-in-None-clause-stale : goal.returns-in_ok-add-in-None-clause-stale
returns-in_ok-add-in-None-clause-stale c = λ g target located is word.
    let old = map read_holder c.args.stale.now.names.items in
    c.in_ok-add-in-None.ensures.names ∙ ap (λ l. old ++ l) (sym (is_stale g c.args.addresses.now c.args.number target c.args.name.now (sym (c.in-None.ensures g target located is word)) word))
