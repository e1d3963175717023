use Rattle.std.proofs.Common.{rules, ◌⊎◌, inl, ℕ, Vec, Global, subst}
use Rattle.g1_answers.specs.Questions.{IsReply}
use Rattle.g1heap_cli.specs.Refusals.{RefusesFile, IsUnread}
use Rattle.g1heap_cli.specs.Reasons.{IsRefusedIn}
use Rattle.g1heap_cli.specs.Streams.{AreNamed}
use Rattle.g1heap_cli.proofs.Unanswered.{no_reply}
use Rattle.g1heap_cli.proofs.answering.answer_file.Goals as goal

-- the fault of the reply, or of the bytes
pub returns : goal.returns
returns g c =
    let ask = c.args.ask.now in
    let file = ask.image.name.bytes.items in
    let left = g.R.Read.remaining c.args.reader.now in
    let read = c.in-Err-answer.ensures.fault in
    let named : AreNamed file left read.0 = search rules in
    let kept = c.in-Ok.source.kept in
    record {
      lines = tt;
      refused = no_reply {V = Vec ℕ Global} (λ v. v.items) file left kept c.in-Ok.ensures.kept ask.image.limits (IsReply ask.image.limits ask.question) read.0 named c.refuse.result c.in-Err-answer.fault read.1
          (subst (λ i. RefusesFile i.name.bytes.items c.in-Err-answer.fault c.refuse.result ⊎ IsRefusedIn {V = Vec ℕ Global} (λ v. v.items) kept i c.refuse.result) c.in-Ok.ensures.image c.refuse.ensures);
    }

-- the file can't be opened
pub returns-in-Err-open-clause-refused : goal.returns-in-Err-open-clause-refused
returns-in-Err-open-clause-refused g c = inl (subst (λ i. IsUnread i.name.bytes.items c.in-Err-open.refusal) c.in-Ok.ensures.image c.in-Err-open.ensures.refused)
