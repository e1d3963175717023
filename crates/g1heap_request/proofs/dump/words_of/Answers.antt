use Rattle.std.proofs.Common.{◌∙◌, [], refl, map, ap, arith}
use Rattle.std.proofs.lemmas.List.{take_all}
use Rattle.clap.specs.Words.{found_of}
use Rattle.g1_command.proofs.Got.{texts_got}
use Rattle.g1heap_request.proofs.Got.{texts_more}
use Rattle.g1heap_request.proofs.dump.words_of.Goals as goal

pub loop-text-preserved : goal.loop-text-preserved
loop-text-preserved c =
    texts_more c.loop-text.words.items _ c.in_ok-from_str.field-0 c.unwrap_or-text-items.result.now c.loop-text.text-index (record { ref_ptr = (0, 0); now = [] }) c.loop-text-test.true
    c.in_ok-push.ensures.items c.loop-text.invariant c.in_ok-from_str.ensures.ok

pub returns : goal.returns
returns c =
    let xs = c.unwrap_or-text-items.result.now in
    c.loop-text.invariant ∙ ap (map (λ t. t.now)) (take_all c.loop-text.text-index xs (omega (arith, c.loop-text-test.false)))
    ∙ texts_got (found_of c.args.values.now) c.args.argument.now.id.now c.get_strs.result c.unwrap_or-text-items.result _ c.get_strs.ensures c.unwrap_or-text-items.ensures refl
