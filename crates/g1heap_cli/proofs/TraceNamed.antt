-- The reply to a trace, by the bytes of what has its name, and refusals before its first line.
use Rattle.std.proofs.Common.{◌≡◌, ◌≢◌, inl, inr, ℕ, zero, suc, Bool, true, false, List, [], Option, Result, Ok, Err, refl, sym, subst}
use Rattle.std.specs.Prelude.{codes}
use Rattle.std.proofs.KnownBytes.{Appends-nil, Consumes-nil, Keeps-refl}
use Rattle.g1_words.specs.declared.fault.Fault.TheVariants as fault
use Rattle.g1_words.specs.declared.fault.Device.TheVariants as device
use Rattle.g1_image.specs.Source.{HoldsOfLeft}
use Rattle.g1_command.specs.declared.refusal.Refusal.{Refusal}
use Rattle.g1_command.specs.declared.refusal.Refusal.TheVariants as refusal
use Rattle.g1heap_request.specs.declared.options.Trace.{Trace}
use Rattle.g1heap_cli.specs.Leaving.{Reply, Withholds, SendsTrace}
use Rattle.g1heap_cli.specs.Streams.{HoldsOfNamed}
use Rattle.g1heap_cli.specs.Refuses.{RefusesTraceBy, RefusesTrace}
use Rattle.g1heap_cli.specs.Traced.{RepliesToTrace, is_live}
use Rattle.g1heap_cli.proofs.Left.{begins_so, withholds_so, text_so}
use Rattle.g1heap_cli.specs.TraceReasons.{IsNamed}
use Rattle.g1heap_cli.proofs.TraceRefused.{refused_so}
use Rattle.g1heap_cli.proofs.TraceSent.{begun}

-- a refusal before the first line
module _ (trace : Trace) (known old : Option (List ℕ)) where
  first_refused : (b : Bool) (n : ℕ) (why : Refusal) → is_live trace ≡ b → SendsTrace b n (RepliesToTrace trace (HoldsOfLeft known)) old old (Err why)
  first_refused true n why live = (1, [], 0, (live, begun trace known known [] tt [] (Consumes-nil known) (inl (refl, refl))), Appends-nil old)
  first_refused false zero why still = inl (Keeps-refl old)
  first_refused false (suc n) why still = inl (Keeps-refl old)

  pub refused_first : (n : ℕ) (why : Refusal) → SendsTrace (is_live trace) n (RepliesToTrace trace (HoldsOfLeft known)) old old (Err why)
  refused_first n why = first_refused (is_live trace) n why refl

-- one reply for another
module _ (Is To : Reply) (so : (s : ℕ) (text : List ℕ) → Is s text → To s text) (old new : Option (List ℕ)) where
  sends_to : (b : Bool) (n : ℕ) (r : Result ℕ Refusal) → SendsTrace b n Is old new r → SendsTrace b n To old new r
  sends_to true n (Ok s) h = text_so Is To so old new (Ok s) h
  sends_to true n (Err why) h = begins_so Is To so old new h
  sends_to false zero (Ok s) h = text_so Is To so old new (Ok s) h
  sends_to false zero (Err why) h = withholds_so Is To so old new why h
  sends_to false (suc n) (Ok s) (text, is, a) = (text, so s text is, a)
  sends_to false (suc n) (Err why) h = withholds_so Is To so old new why h

reply_to : (trace : Trace) (Of On : (List ℕ → Type 0) → Type 0) → ((P : List ℕ → Type 0) → Of P → On P) → (s : ℕ) (text : List ℕ) → RepliesToTrace trace Of s text → RepliesToTrace trace On s text
reply_to trace Of On to zero text h = to _ h
reply_to trace Of On to (suc s) text h = (h.0, to _ h.1)

-- what is left on standard input has its name
pub of_input : (trace : Trace) (left old new : Option (List ℕ)) (n : ℕ) (r : Result ℕ Refusal) → SendsTrace (is_live trace) n (RepliesToTrace trace (HoldsOfLeft left)) old new r
    → SendsTrace (is_live trace) n (RepliesToTrace trace (HoldsOfNamed trace.name.bytes.items left)) old new r
of_input trace left old new n r h =
    sends_to (RepliesToTrace trace (HoldsOfLeft left)) (RepliesToTrace trace (HoldsOfNamed trace.name.bytes.items left))
    (reply_to trace (HoldsOfLeft left) (HoldsOfNamed trace.name.bytes.items left) (λ P (bytes, is, known). (bytes, is, λ named. known))) old new (is_live trace) n r h

-- a file has another name
pub of_another : (trace : Trace) (known left old new : Option (List ℕ)) (n : ℕ) (r : Result ℕ Refusal) → trace.name.bytes.items ≢ codes "-"
    → SendsTrace (is_live trace) n (RepliesToTrace trace (HoldsOfLeft known)) old new r
    → SendsTrace (is_live trace) n (RepliesToTrace trace (HoldsOfNamed trace.name.bytes.items left)) old new r
of_another trace known left old new n r other h =
    sends_to (RepliesToTrace trace (HoldsOfLeft known)) (RepliesToTrace trace (HoldsOfNamed trace.name.bytes.items left))
    (reply_to trace (HoldsOfLeft known) (HoldsOfNamed trace.name.bytes.items left) (λ P (bytes, is, there). (bytes, is, λ named. absurd (other named)))) old new (is_live trace) n r h

-- the same of a refusal
pub input_refused : (trace : Trace) (left : Option (List ℕ)) (r : Refusal) → RefusesTraceBy trace (HoldsOfLeft left) r → RefusesTrace trace left r
input_refused trace left r h = refused_so trace (HoldsOfLeft left) (HoldsOfNamed trace.name.bytes.items left) (λ P (bytes, is, known). (bytes, is, λ named. known)) r h

pub another_refused : (trace : Trace) (known left : Option (List ℕ)) (r : Refusal) → trace.name.bytes.items ≢ codes "-" → RefusesTraceBy trace (HoldsOfLeft known) r → RefusesTrace trace left r
another_refused trace known left r other h =
    refused_so trace (HoldsOfLeft known) (HoldsOfNamed trace.name.bytes.items left) (λ P (bytes, is, there). (bytes, is, λ named. absurd (other named))) r h

-- an input that failed is reported with a reason
input_withholds : (Is : Reply) (old new : Option (List ℕ)) (why : Refusal) → Withholds Is old new (refusal.Fault (fault.Device device.Input)) → Withholds Is old new why
input_withholds Is old new why (inl same) = inl same
input_withholds Is old new why (inr (is, b)) = absurd (differ is)
  where
    differ : refusal.Fault (fault.Device device.Input) ≡ refusal.Fault (fault.Device device.Output) → ⊥
    differ e = cc

with_reason : (b : Bool) (n : ℕ) (Is : Reply) (old new : Option (List ℕ)) (why : Refusal) → SendsTrace b n Is old new (Err (refusal.Fault (fault.Device device.Input))) → SendsTrace b n Is old new (Err why)
with_reason true n Is old new why h = h
with_reason false zero Is old new why h = input_withholds Is old new why h
with_reason false (suc n) Is old new why h = input_withholds Is old new why h

pub named_sends : (file : List ℕ) (b : Bool) (n : ℕ) (Is : Reply) (old new : Option (List ℕ)) (why told : Refusal) → IsNamed file why told → SendsTrace b n Is old new (Err why) → SendsTrace b n Is old new (Err told)
named_sends file b n Is old new (refusal.Fault (fault.Device device.Input)) told named h = with_reason b n Is old new told h
named_sends file b n Is old new why told named h = subst (λ r. SendsTrace b n Is old new (Err r)) (sym named) h
