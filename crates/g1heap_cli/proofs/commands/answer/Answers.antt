use Rattle.std.proofs.Common.{◌∙◌, inl, inr, sym, subst}
use Rattle.std.specs.Prelude.{IfErr}
use Rattle.g1_words.specs.declared.limits.Limits.TheVariants.{Wide}
use Rattle.g1_image.specs.Image.{IsImageTextWithin}
use Rattle.g1heap_cli.specs.Streams.{known_of}
use Rattle.g1heap_cli.specs.Leaving.{Just}
use Rattle.g1heap_cli.specs.Replies.{IsReplyTo, IsPrintReply, IsMakeReply, IsSomeImage, IsExplainReply, IsWhyReply, IsAsked}
use Rattle.g1heap_cli.specs.Endings.{Leaves}
use Rattle.g1heap_cli.specs.Printed.{reply_of}
use Rattle.g1heap_cli.specs.Refuses.{Refuses, RefusesLinesOf}
use Rattle.g1heap_cli.proofs.Refused.{err_so, printed_so}
use Rattle.g1heap_cli.proofs.Left.{as_told, text_so, hands_text_so, hands_bytes_so, hands_print_so, lines_so}
use Rattle.g1heap_cli.proofs.commands.answer.Goals as goal

pub returns-in-Ok : goal.returns-in-Ok
returns-in-Ok g c =
    let left = g.R.Read.remaining c.args.reader.now in
    let old = known_of g.W.Write.contents c.args.writer.now.stream in
    let new = known_of g.W.Write.contents c.hand_over_print.new.writer.stream in
    let r = c.hand_over_print.result in
    let To = IsPrintReply c.in-Print.image c.in-Print.part c.in-Print.hex left in
    record {
      leaves =
          subst (λ q. Leaves q (IsReplyTo q left) old new r) (sym c.in-Print.is)
          (hands_print_so (reply_of c.in-Ok.printed) To (lines_so c.in-Ok.printed To c.in-Ok.ensures.lines) old new c.in-Print.output r c.hand_over_print.ensures.hands);
      refused = subst (λ q. IfErr c.hand_over_print.result (Refuses q (g.R.Read.remaining c.args.reader.now))) (sym c.in-Print.is) (printed_so _ _ c.in-Ok.printed c.in-Ok.ensures.broken c.hand_over_print.result c.hand_over_print.ensures.refused);
    }

pub returns-in-Ok-make_from : goal.returns-in-Ok-make_from
returns-in-Ok-make_from g c =
    let left = g.R.Read.remaining c.args.reader.now in
    let old = known_of g.W.Write.contents c.args.writer.now.stream in
    let new = known_of g.W.Write.contents c.hand_over.new.writer.stream in
    let r = c.hand_over.result in
    let bytes = c.as_slice.result.now in
    let To = IsMakeReply c.in-Make.lines.bytes.items left in
    let made = subst (λ n. IsMakeReply n left 0 bytes) c.as_str.ensures.value (subst (IsMakeReply c.as_str.result.now left 0) (sym c.as_slice.ensures.value) c.in-Ok-make_from.ensures.bytes) in
    record {
      leaves =
          subst (λ q. Leaves q (IsReplyTo q left) old new r) (sym c.in-Make.is)
          (hands_bytes_so (Just 0 bytes) To (as_told To bytes made) old new c.in-Make.output r c.hand_over.ensures.hands);
      refused = subst (λ q. IfErr c.hand_over.result (Refuses q (g.R.Read.remaining c.args.reader.now))) (sym c.in-Make.is) (err_so (λ e h. inr h) c.hand_over.result c.hand_over.ensures.refused);
    }

pub returns-in-Ok-convert_file : goal.returns-in-Ok-convert_file
returns-in-Ok-convert_file g c =
    let old = known_of g.W.Write.contents c.args.writer.now.stream in
    let new = known_of g.W.Write.contents c.hand_over-in-Ok-convert_file.new.writer.stream in
    let r = c.hand_over-in-Ok-convert_file.result in
    let bytes = c.as_slice-in-Ok-convert_file in
    record {
      leaves =
          subst (λ q. Leaves q (IsReplyTo q (g.R.Read.remaining c.args.reader.now)) old new r) (sym c.in-Convert.is)
          (hands_bytes_so (Just 0 bytes.result.now) IsSomeImage
          (λ s t is. (is.0, subst (IsImageTextWithin Wide) (sym (is.1 ∙ bytes.ensures.value)) c.in-Ok-convert_file.ensures.image)) old new c.in-Convert.asked.output r c.hand_over-in-Ok-convert_file.ensures.hands);
      refused = subst (λ q. IfErr c.hand_over-in-Ok-convert_file.result (Refuses q (g.R.Read.remaining c.args.reader.now))) (sym c.in-Convert.is) (err_so (λ e h. inr h) c.hand_over-in-Ok-convert_file.result c.hand_over-in-Ok-convert_file.ensures.refused);
    }

pub returns-in-Ok-explain_pause : goal.returns-in-Ok-explain_pause
returns-in-Ok-explain_pause g c =
    let left = g.R.Read.remaining c.args.reader.now in
    let old = known_of g.W.Write.contents c.args.writer.now.stream in
    let new = known_of g.W.Write.contents c.hand_over_text.new.writer.stream in
    let text = c.as_bytes-in-Ok-explain_pause in
    let status = c.in-Ok-explain_pause.status in
    let To = IsExplainReply c.in-Explain.explain left in
    record {
      leaves =
          subst (λ q. Leaves q (IsReplyTo q left) old new c.hand_over_text.result) (sym c.in-Explain.is)
          (hands_text_so (Just status text.result.now) To
          (λ s t is. subst (λ n. To n t) (sym is.0) (subst (To status) (sym (is.1 ∙ text.ensures.value)) c.in-Ok-explain_pause.ensures.text))
          old new c.in-Explain.explain.output c.hand_over_text.result c.hand_over_text.ensures.hands);
      refused = subst (λ q. IfErr c.hand_over_text.result (Refuses q (g.R.Read.remaining c.args.reader.now))) (sym c.in-Explain.is) (err_so (λ e h. inr h) c.hand_over_text.result c.hand_over_text.ensures.refused);
    }

pub returns-in-Ok-explain_object : goal.returns-in-Ok-explain_object
returns-in-Ok-explain_object g c =
    let left = g.R.Read.remaining c.args.reader.now in
    let old = known_of g.W.Write.contents c.args.writer.now.stream in
    let new = known_of g.W.Write.contents c.send_text-in-Ok-explain_object.new.writer.stream in
    let r = c.send_text-in-Ok-explain_object.result in
    let text = c.as_bytes-in-Ok-explain_object in
    let To = IsWhyReply c.in-Why.why left in
    record {
      leaves =
          subst (λ q. Leaves q (IsReplyTo q left) old new r) (sym c.in-Why.is)
          (text_so (Just 0 text.result.now) To (as_told To text.result.now (subst (To 0) (sym text.ensures.value) c.in-Ok-explain_object.ensures.text)) old new r
          c.send_text-in-Ok-explain_object.ensures.sends);
      refused = subst (λ q. IfErr c.send_text-in-Ok-explain_object.result (Refuses q (g.R.Read.remaining c.args.reader.now))) (sym c.in-Why.is) (err_so (λ e h. inr h) c.send_text-in-Ok-explain_object.result c.send_text-in-Ok-explain_object.ensures.refused);
    }

pub returns-in-Ok-answer_file : goal.returns-in-Ok-answer_file
returns-in-Ok-answer_file g c =
    let left = g.R.Read.remaining c.args.reader.now in
    let old = known_of g.W.Write.contents c.args.writer.now.stream in
    let new = known_of g.W.Write.contents c.hand_over_text-in-Ok-answer_file.new.writer.stream in
    let r = c.hand_over_text-in-Ok-answer_file.result in
    let lines = c.as_slice-in-Ok-answer_file in
    record {
      leaves =
          subst (λ q. Leaves q (IsReplyTo q left) old new r) (sym c.in-Ask.is)
          (hands_text_so (Just 0 lines.result.now) (IsAsked c.in-Ask.ask left)
          (λ s t is. subst (λ n. IsAsked c.in-Ask.ask left n t) (sym is.0) (subst (IsAsked c.in-Ask.ask left 0) (sym (is.1 ∙ lines.ensures.value)) c.in-Ok-answer_file.ensures.lines))
          old new c.in-Ask.ask.output r c.hand_over_text-in-Ok-answer_file.ensures.hands);
      refused = subst (λ q. IfErr c.hand_over_text-in-Ok-answer_file.result (Refuses q (g.R.Read.remaining c.args.reader.now))) (sym c.in-Ask.is) (err_so (λ e h. inr h) c.hand_over_text-in-Ok-answer_file.result c.hand_over_text-in-Ok-answer_file.ensures.refused);
    }

-- the image is not printed
pub returns-in-Err-clause-refused : goal.returns-in-Err-clause-refused
returns-in-Err-clause-refused g c = subst (λ q. Refuses q (g.R.Read.remaining c.args.reader.now) c.in-Err.refusal) (sym c.in-Print.is) (inl c.in-Err.ensures.refused)

-- no image is made of lines
pub returns-in-Err-make_from-clause-refused : goal.returns-in-Err-make_from-clause-refused
returns-in-Err-make_from-clause-refused g c =
    let left = g.R.Read.remaining c.args.reader.now in
    let r = c.in-Err-make_from.refusal in
    subst (λ q. Refuses q left r) (sym c.in-Make.is) (inl (subst (λ n. RefusesLinesOf n left r) c.as_str.ensures.value c.in-Err-make_from.ensures.refused))

-- no pause is explained
pub returns-in-Err-explain_pause-clause-refused : goal.returns-in-Err-explain_pause-clause-refused
returns-in-Err-explain_pause-clause-refused g c = subst (λ q. Refuses q (g.R.Read.remaining c.args.reader.now) c.in-Err-explain_pause.refusal) (sym c.in-Explain.is) (inl c.in-Err-explain_pause.ensures.refused)

-- a trace is not answered
pub returns-in-Trace-clause-refused : goal.returns-in-Trace-clause-refused
returns-in-Trace-clause-refused g c = subst (λ q. IfErr c.answer_trace.result (Refuses q (g.R.Read.remaining c.args.reader.now))) (sym c.in-Trace.is) c.answer_trace.ensures.refused

-- two files are not compared
pub returns-in-Same-clause-refused : goal.returns-in-Same-clause-refused
returns-in-Same-clause-refused g c = subst (λ q. IfErr c.compare.result (Refuses q (g.R.Read.remaining c.args.reader.now))) (sym c.in-Same.is) c.compare.ensures.refused
