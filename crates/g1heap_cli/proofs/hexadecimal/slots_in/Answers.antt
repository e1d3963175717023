use Rattle.std.proofs.Common.{◌≡◌, ◌∙◌, ap, arith}
use Rattle.std.specs.Prelude.{decimal}
use Rattle.std.specs.Result.{result_unwrap_or}
use Rattle.std.proofs.lemmas.Fmt.{parse-decimal}
use Rattle.g1heap_cli.proofs.Slots.{no_stroke, stroke, no_space, space}
use Rattle.g1heap_cli.proofs.hexadecimal.slots_in.Goals as goal
use Rattle.g1heap_cli.proofs.hexadecimal.slots_in.Goals.{in-Some-split_once, in-None}

pub returns-in_default : goal.returns-in_default
returns-in_default c = λ a size slots words sa ss sl bare e. absurd (no_stroke a size slots words sa ss sl c.args.line.now e c.in_default.ensures.cases)

pub returns : goal.returns
returns c = λ a size slots words sa ss sl bare e.
    let cut = stroke a size slots words sa ss sl c.args.line.now (c.in-Some.field-0-0, c.in-Some.behind) e c.in-Some.ensures.cases in
    let here : c.match-split_once-2.slots.now ≡ decimal slots = elim c.match-split_once-2.branch [
      | in-Some-split_once w ↦ ap (λ s. s.now) w.slots-is ∙ space a size slots words sa ss sl words c.in-Some.behind.now (w.in-Some-split_once.slots, w.in-Some-split_once.field-0-1) cut w.in-Some-split_once.ensures.cases
      | in-None w ↦ ap (λ s. s.now) w.slots-is ∙ no_space a size slots words sa ss sl words c.in-Some.behind.now cut w.in-None.ensures.cases
    ] in
    let read = parse-decimal 64 slots c.match-split_once-2.slots.now c.parse.result (omega (arith, sl)) (omega (arith, sl)) here c.parse.ensures.value.0 in
    c.unwrap_or.ensures ∙ ap (λ r. result_unwrap_or r 0) read
