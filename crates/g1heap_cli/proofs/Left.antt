-- What stands on standard output, from what was delivered there.
use Rattle.std.proofs.Common.{inl, inr, ℕ, List, take, Option, Result, Ok, Err, sym, subst}
use Rattle.g1_command.specs.declared.refusal.Refusal.{Refusal}
use Rattle.g1heap_request.specs.declared.output.Output.{Output}
use Rattle.g1heap_request.specs.declared.output.Output.TheVariants as output
use Rattle.g1heap_cli.specs.Leaving.{Reply, Just, Begins, Grows, Withholds, SendsBytes, SendsText, Files, HandsBytes, HandsText, HandsPrint, GoesBefore}
use Rattle.g1heap_cli.specs.declared.commands.Printed.{Printed}
use Rattle.g1heap_cli.specs.declared.commands.Printed.TheVariants as printed
use Rattle.g1heap_cli.specs.Printed.{IfLines, reply_of}
use Rattle.g1heap_cli.proofs.Grown.{grows_kept}

module _ (Is To : Reply) (so : (s : ℕ) (text : List ℕ) → Is s text → To s text) (old new : Option (List ℕ)) where
  -- one reply for another
  pub begins_so : Begins Is old new → Begins To old new
  begins_so (s, text, k, is, a) = (s, text, k, so s text is, a)

  pub withholds_so : (why : Refusal) → Withholds Is old new why → Withholds To old new why
  withholds_so why (inl kept) = inl kept
  withholds_so why (inr (is, b)) = inr (is, begins_so b)

  pub text_so : (r : Result ℕ Refusal) → SendsText Is old new r → SendsText To old new r
  text_so (Ok s) (inl (text, is, a)) = inl (text, so s text is, a)
  text_so (Ok s) (inr (is, b)) = inr (is, begins_so b)
  text_so (Err why) h = withholds_so why h

  pub bytes_so : (r : Result ℕ Refusal) → SendsBytes Is old new r → SendsBytes To old new r
  bytes_so (Ok s) (text, is, a) = (text, so s text is, a)
  bytes_so (Err why) h = withholds_so why h

  files_so : (r : Result ℕ Refusal) → Files Is old new r → Files To old new r
  files_so (Ok s) (kept, (text, is)) = (kept, (text, so s text is))
  files_so (Err why) kept = kept

  pub hands_text_so : (o : Output) (r : Result ℕ Refusal) → HandsText o Is old new r → HandsText o To old new r
  hands_text_so (output.File name) r h = files_so r h
  hands_text_so output.Standard r h = text_so r h
  hands_text_so output.Default r h = text_so r h

  pub hands_bytes_so : (o : Output) (r : Result ℕ Refusal) → HandsBytes o Is old new r → HandsBytes o To old new r
  hands_bytes_so (output.File name) r h = files_so r h
  hands_bytes_so output.Standard r h = bytes_so r h
  hands_bytes_so output.Default r h = bytes_so r h

-- the one reply that there is
pub as_told : (To : Reply) (told : List ℕ) → To 0 told → (s : ℕ) (text : List ℕ) → Just 0 told s text → To s text
as_told To told h s text is = subst (λ n. To n text) (sym is.0) (subst (To 0) (sym is.1) h)

withheld_grows : (Is : Reply) (old new : Option (List ℕ)) (why : Refusal) → Withholds Is old new why → Grows old new
withheld_grows Is old new why (inl kept) = grows_kept old new kept
withheld_grows Is old new why (inr (is, (s, text, k, so, a))) = (take k text, a)

sent_grows : (Is : Reply) (old new : Option (List ℕ)) (r : Result ℕ Refusal) → SendsText Is old new r → Grows old new
sent_grows Is old new (Ok s) (inl (text, is, a)) = (text, a)
sent_grows Is old new (Ok s) (inr (is, (t, text, k, so, a))) = (take k text, a)
sent_grows Is old new (Err why) h = withheld_grows Is old new why h

-- a refusal behind lines, whether all of them came or not
pub goes_before : (Is : Reply) (old new : Option (List ℕ)) (o : Output) (r : Result ℕ Refusal) → HandsText o Is old new r → GoesBefore o old new
goes_before Is old new (output.File name) (Ok s) h = h.0
goes_before Is old new (output.File name) (Err why) kept = kept
goes_before Is old new output.Standard r h = sent_grows Is old new r h
goes_before Is old new output.Default r h = sent_grows Is old new r h

-- lines that were handed over are printed
pub is_printed : (Is : Reply) (old new : Option (List ℕ)) (o : Output) (r : Result ℕ Refusal) → HandsText o Is old new r → HandsPrint o Is old new r
is_printed Is old new o (Ok s) h = h
is_printed Is old new o (Err why) h = goes_before Is old new o (Err why) h

pub hands_print_so : (Is To : Reply) (so : (s : ℕ) (text : List ℕ) → Is s text → To s text) (old new : Option (List ℕ)) (o : Output) (r : Result ℕ Refusal)
    → HandsPrint o Is old new r → HandsPrint o To old new r
hands_print_so Is To so old new o (Ok s) h = hands_text_so Is To so old new o (Ok s) h
hands_print_so Is To so old new o (Err why) h = h

-- the lines of an image are a reply if they are to be
pub lines_so : (p : Printed) (To : Reply) → IfLines (To 0) p → (s : ℕ) (text : List ℕ) → reply_of p s text → To s text
lines_so (printed.Lines lines) To h s text is = as_told To lines.bytes.items h s text is
lines_so (printed.Broken lines why) To h s text is = absurd is
