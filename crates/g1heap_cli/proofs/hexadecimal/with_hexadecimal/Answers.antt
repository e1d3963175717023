use Rattle.std.proofs.Common.{rules, ◌++◌, ◌∙◌, ap, arith, string_bytes}
use Rattle.g1_text.specs.Lines.{text_of}
use Rattle.g1heap_cli.proofs.Hexes.{lines_start, lines_step, lines_end}
use Rattle.g1heap_cli.proofs.hexadecimal.with_hexadecimal.Goals as goal

pub lines-init : goal.lines-init
lines-init c = (search rules, λ said others h e. lines_start said others c.args.lines.now (string_bytes c.new-text.result) h e c.new-text.ensures.bytes)

pub lines-preserved : goal.lines-preserved
lines-preserved c = (
  search rules,
  λ said others h e.
      lines_step c.lines.rest.now (string_bytes c.lines.text) (string_bytes c.push_line.new.text) (string_bytes c.push.new.self) (text_of others) (c.in-Some.line, c.in-Some.behind)
      (c.lines.invariant.1 said others h e) c.in-Some.ensures.cases c.in_ok-push_line.ensures (c.in_ok-push.ensures.bytes ∙ ap (λ l. string_bytes c.push_line.new.text ++ l) (c.in_ok-push.ensures.ascii (omega arith))),
)

pub returns : goal.returns
returns c = λ said others h e.
    lines_end c.lines.rest.now (string_bytes c.lines.text) (string_bytes c.push_str.new.self) (text_of others) (c.lines.invariant.1 said others h e) c.in_default.ensures.cases
    c.in_ok-push_str.ensures.bytes
