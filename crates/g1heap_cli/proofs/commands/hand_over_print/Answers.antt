use Rattle.std.proofs.Common.{inr, sym, subst}
use Rattle.g1heap_cli.specs.Leaving.{Just, HandsPrint}
use Rattle.g1heap_cli.specs.Printed.{reply_of}
use Rattle.g1heap_cli.proofs.Refused.{err_so}
use Rattle.g1heap_cli.proofs.Left.{is_printed}
use Rattle.g1heap_cli.proofs.commands.hand_over_print.Goals as goal

-- the lines of an image
pub returns-in-Lines : goal.returns-in-Lines
returns-in-Lines g c =
    let old = g.W.Write.contents c.args.writer.now in
    let new = g.W.Write.contents c.hand_over_text.new.writer in
    let out = c.args.output.now in
    let r = c.hand_over_text.result in
    record {
      hands =
          subst (λ p. HandsPrint out (reply_of p) old new r) (sym c.in-Lines.is)
          (subst (λ t. HandsPrint out (Just 0 t) old new r) c.as_bytes.ensures.value (is_printed (Just 0 c.as_bytes.result.now) old new out r c.hand_over_text.ensures.hands));
      refused = err_so (λ e h. inr h) r c.hand_over_text.ensures.refused;
    }
