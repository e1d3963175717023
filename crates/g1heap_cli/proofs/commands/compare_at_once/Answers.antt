use Rattle.std.proofs.Common.{◌≡◌, ◌++◌, ◌∙◌, inr, sym, ap, subst}
use Rattle.g1heap_cli.specs.Leaving.{Just}
use Rattle.g1heap_cli.specs.Replies.{IsSameReply}
use Rattle.g1heap_cli.proofs.Left.{text_so}
use Rattle.g1heap_cli.proofs.Refused.{err_so}
use Rattle.g1heap_cli.proofs.commands.compare_at_once.Goals as goal

-- the text that was taken is sent
pub returns-in-Ok : goal.returns-in-Ok
returns-in-Ok g c =
    let To = IsSameReply c.args.same.now (g.R.Read.remaining c.args.reader.now) in
    let said = c.in-Ok.ensures.text in
    let bytes : c.as_bytes.result.now ≡ said.0 = c.as_bytes.ensures ∙ said.2 ∙ ap (λ l. l ++ said.0) c.new-answer.ensures in
    record {
      sends =
          text_so (Just c.in-Ok.status c.as_bytes.result.now) To (λ s t is. subst (λ n. To n t) (sym is.0) (subst (To c.in-Ok.status) (sym (is.1 ∙ bytes)) said.1))
          (g.W.Write.contents c.args.writer.now) (g.W.Write.contents c.send_text.new.writer) c.send_text.result c.send_text.ensures.sends;
      refused = err_so (λ e h. inr h) c.send_text.result c.send_text.ensures.refused;
    }
