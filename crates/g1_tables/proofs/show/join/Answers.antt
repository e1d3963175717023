use Rattle.std.proofs.Common.{◌++◌, ◌∙◌, ap, arith, flat_map, string_bytes}
use Rattle.g1_text.specs.Lines.{heading, line_text}
use Rattle.g1_text.proofs.Printed.{take_all}
use Rattle.g1_tables.proofs.show.join.Goals as goal

pub returns : goal.returns
returns c =
    let outs = c.args.outs.now in
    let head = line_text (heading c.args.image.now) in
    ap (λ v. v.items) c.into_bytes.ensures.value ∙ c.loop-out.invariant
    ∙ ap (λ xs. string_bytes c.push_heading.new.text ++ flat_map string_bytes xs) (take_all c.loop-out.out-index outs (omega (arith, c.loop-out-test.false)))
    ∙ ap (λ bytes. bytes ++ flat_map string_bytes outs) (c.in_ok-push_heading.ensures ∙ ap (λ bytes. bytes ++ head) c.new-text.ensures.bytes)
