use Rattle.std.proofs.Common.{ℕ, List, Ok}
use Rattle.g1_answers.specs.Replies.{Gives}
use Rattle.g1_answers.proofs.Given.{of_left, sent}
use Rattle.g1pause_cli.specs.Requests.{IsReplyTo}
use Rattle.g1pause_cli.proofs.commands.fulfil.Goals as goal

pub returns-in-Help : goal.returns-in-Help
returns-in-Help g c =
    let old = g.W.Write.contents c.args.writer.now.inner in
    let new = g.W.Write.contents c.send_text.new.writer.inner in
    let reply : (xs : List ℕ) → IsReplyTo c.args.request.now xs (Ok c.as_bytes.result.now) = λ xs. rw c.in-Help.is (let same = c.as_bytes.ensures.value in cc) in
    of_left (g.R.Read.remaining c.args.reader.now) (λ xs. Gives (IsReplyTo c.args.request.now xs) old new c.send_text.result)
    (λ xs. sent (IsReplyTo c.args.request.now xs) c.as_bytes.result.now old new c.send_text.result (reply xs) c.send_text.ensures.text c.send_text.ensures.fault)
