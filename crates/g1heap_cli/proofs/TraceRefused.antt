-- Why a trace is refused where it stands between two of its lines.
use Rattle.std.proofs.Common.{◌≡◌, ◌≢◌, ◌⊎◌, inl, inr, ℕ, zero, suc, ◌<◌, ◌≤◌, Bool, true, false, List, [], ◌∷◌, ◌++◌, length, Option, Some, None, Result, Ok, Err, IfSome, refl, sym, ◌∙◌, ap, subst, arith, append_assoc, true≢false}
use Rattle.std.specs.Prelude.{IfErr, IsSome, nat_lt, codes}
use Rattle.std.specs.Io.{StartsWith}
use Rattle.std.specs.Io.KnownBytes.{Consumes}
use Rattle.g1_words.specs.declared.fault.Fault.{Fault}
use Rattle.g1_words.specs.declared.fault.Fault.TheVariants as fault
use Rattle.g1_words.specs.declared.fault.Device.TheVariants as device
use Rattle.g1_words.specs.Heap.{Heap}
use Rattle.g1_image.specs.Source.{HoldsOfLeft}
use Rattle.g1_work.specs.Team.{AreWorkers, IsChunk}
use Rattle.g1_choose.specs.declared.parameters.Cost.{Cost}
use Rattle.g1_choose.specs.Cost.{IsCost}
use Rattle.g1_pause.specs.declared.settings.Choice.{Choice}
use Rattle.g1_pause.specs.declared.settings.Choice.TheVariants.{Budget}
use Rattle.g1_pause.specs.Answer.{FaultOfChoice}
use Rattle.g1_pause.specs.Settings.{IsRefused, by_workers, by_chunk, by_cost}
use Rattle.g1_command.specs.declared.refusal.Refusal.{Refusal}
use Rattle.g1_command.specs.declared.refusal.Refusal.TheVariants as refusal
use Rattle.g1_command.specs.Lines.{HasNoEnd, IsEndedLine, ReadsLine}
use Rattle.g1_trace.specs.declared.session.Session.{Session}
use Rattle.g1_trace.specs.declared.session.Session.TheVariants.{Begun, Open}
use Rattle.g1_trace.specs.Session.{commands_of}
use Rattle.g1_trace.specs.TraceText.{ended}
use Rattle.g1heap_request.specs.declared.options.Trace.{Trace}
use Rattle.g1heap_request.specs.declared.options.ImageAfter.{ImageAfter}
use Rattle.g1heap_request.specs.declared.output.Output.{Output}
use Rattle.g1heap_request.specs.declared.output.Output.TheVariants as output
use Rattle.g1heap_cli.specs.Refusals.{RefusesFile, RefusesLine, IsUnread}
use Rattle.g1heap_cli.specs.Refuses.{IsUnsentOf, RefusesTraceBy}
use Rattle.g1heap_cli.specs.Reasons.{RefusesCost}
use Rattle.g1heap_cli.specs.TraceReasons.{IsNamed, IsNoLine, IsStopped, RefusesEnd, RefusesRead, RefusesRest, RefusesSteps, RefusesTaking, RefusesTraceText}
use Rattle.g1heap_cli.specs.Traced.{asked_command, if_standard, sent_command}
use Rattle.g1heap_cli.specs.Tracing.{KeepsSent, kept}
use Rattle.g1heap_cli.specs.declared.tracing.State.{State}
use Rattle.g1heap_cli.proofs.Begun.{starts-more}
use Rattle.g1heap_cli.proofs.LineByLine.{SoFar}
use Rattle.g1heap_cli.proofs.TraceReached.{Reached, content_free}

-- memory is wanted
pub memory_unread : (file : List ℕ) (r : Refusal) → r ≡ refusal.Fault fault.Memory → IsUnread file r
memory_unread file r is = inr (fault.Memory, refl, subst (RefusesFile file fault.Memory) (sym is) refl)

-- what is left begins with what was read of it
left_more : (now next : Option (List ℕ)) (line : List ℕ) → Consumes now next line → (more : List ℕ) × IfSome now (λ ys. ys ≡ line ++ more)
left_more None next line c = ([], tt)
left_more (Some ys) None line c = absurd c
left_more (Some ys) (Some zs) line c = (zs, c)

-- the bytes are what was read and what is left
all_bytes : (known now : Option (List ℕ)) (front rest : List ℕ) → Consumes known now front → IfSome now (λ ys. ys ≡ rest) → HoldsOfLeft known (λ bytes. bytes ≡ front ++ rest)
all_bytes None now front rest c e = (front ++ rest, refl, tt)
all_bytes (Some xs) None front rest c e = absurd c
all_bytes (Some xs) (Some ys) front rest c e = (xs, c ∙ ap (λ l. front ++ l) e, refl)

some_byte : (line : List ℕ) (there : Bool) → there ≡ nat_lt 0 (length line) → there ≡ true → line ≢ []
some_byte line there is got none = absurd (true≢false (sym got ∙ is ∙ ap (λ l. nat_lt 0 (length l)) none))

module _ (trace : Trace) (known now old mid : Option (List ℕ)) (st : State) (number : ℕ) (h : Reached trace known now old mid st number) where
  rest_refused : (rest : List ℕ) (r : Refusal) → IfSome now (λ ys. ys ≡ rest) → RefusesRest trace number st.session rest r → HoldsOfLeft known (λ bytes. RefusesTraceText trace bytes r)
  rest_refused rest r left of =
      let (bytes, split, same) = all_bytes known now (ended h.lines) rest h.reads left in (
        bytes,
        record {
          lines = h.lines;
          rest = rest;
          session = st.session;
          begins = record { split = split; whole = h.whole };
          done = h.done;
          refused = subst (λ n. RefusesRest trace n st.session rest r) h.count of;
        },
        same,
      )

  -- behind the last line
  pub reached_unfinished : (r : Result ℕ Refusal) → IfSome now (λ ys. ys ≡ []) → IfErr r (λ e. RefusesEnd trace number st.session e ⊎ IsUnsentOf trace.image e)
      → IfErr r (λ e. (e ≡ refusal.Fault (fault.Device device.Input)) ⊎ RefusesTraceBy trace (HoldsOfLeft known) e)
  reached_unfinished (Ok s) none of = tt
  reached_unfinished (Err e) none (inl end) = inr (inr (inr (inl (rest_refused [] e none (inr (inr (refl, end)))))))
  reached_unfinished (Err e) none (inr unsent) = inr (inr (inr (inr unsent)))

  -- a line that was read
  module _ (next : Option (List ℕ)) (empty line shown : List ℕ) (there : Bool) (none : empty ≡ []) (same : shown ≡ line) (got : there ≡ true) (read : ReadsLine now next empty line there) (r : Refusal) where
    is_read : shown ≡ read.line
    is_read = same ∙ read.added ∙ ap (λ l. l ++ read.line) none

    no_line : IsNoLine number shown → RefusesLine trace.name.bytes.items number r → HoldsOfLeft known (λ bytes. RefusesTraceText trace bytes r)
    no_line (inl (first, image)) told =
        let (more, left) = left_more now next read.line read.taken in
        rest_refused (read.line ++ more) r left (inl (inl (first, starts-more read.line (codes "G1IMAGE") more (subst (λ l. StartsWith l (codes "G1IMAGE")) is_read image)), told))
    no_line (inr endless) told = no_end read.whole
      where
        no_end : IsEndedLine read.line ⊎ (HasNoEnd read.line × IfSome now (λ xs. xs ≡ read.line)) → HoldsOfLeft known (λ bytes. RefusesTraceText trace bytes r)
        no_end (inl (content, free, is)) = absurd (endless content (is_read ∙ is))
        no_end (inr (free, left)) = rest_refused read.line r left (inl (inr (free, some_byte read.line there read.there got), told))

    not_taken : (content : List ℕ) → shown ≡ content ++ 10 ∷ [] → RefusesTaking trace number st.session content r → RefusesTraceBy trace (HoldsOfLeft known) r
    not_taken content is (inl (inl cost)) = inl cost
    not_taken content is (inl (inr memory)) = inr (inl (inr (fault.Memory, refl, memory)))
    not_taken content is (inr undone) =
        let (more, left) = left_more now next read.line read.taken in
        let whole : read.line ≡ content ++ 10 ∷ [] = sym is_read ∙ is in
        let split : read.line ++ more ≡ content ++ 10 ∷ more = ap (λ l. l ++ more) whole ∙ append_assoc content (10 ∷ []) more in
        inr (inr (inl (rest_refused (read.line ++ more) r left (inr (inl (content, more, content_free content read.line (IfSome now (λ xs. xs ≡ read.line)) whole read.whole, split, undone))))))

    pub reached_untaken : RefusesRead trace number st.session shown r → (r ≡ refusal.Fault (fault.Device device.Input)) ⊎ RefusesTraceBy trace (HoldsOfLeft known) r
    reached_untaken (inl (is, told)) = inr (inr (inr (inl (no_line is told))))
    reached_untaken (inr (content, is, of)) = inr (not_taken content is of)

-- a read failed
pub read_failed : (trace : Trace) (Of : (List ℕ → Type 0) → Type 0) (f : Fault) → (f ≡ fault.Memory) ⊎ (f ≡ fault.Device device.Input)
    → (refusal.Fault f ≡ refusal.Fault (fault.Device device.Input)) ⊎ RefusesTraceBy trace Of (refusal.Fault f)
read_failed trace Of f (inl memory) = inr (inr (inl (memory_unread trace.name.bytes.items (refusal.Fault f) (ap refusal.Fault memory))))
read_failed trace Of f (inr input) = inl (ap refusal.Fault input)

-- it is reported with the name of the file
abbrev is_input : Refusal → Bool
is_input (refusal.Fault (fault.Device device.Input)) = true
is_input why = false

pub named_refused : (trace : Trace) (Of : (List ℕ → Type 0) → Type 0) (why told : Refusal) → IsNamed trace.name.bytes.items why told
    → (why ≡ refusal.Fault (fault.Device device.Input)) ⊎ RefusesTraceBy trace Of why → RefusesTraceBy trace Of told
named_refused trace Of (refusal.Fault (fault.Device device.Input)) told named of = inr (inl (inr (fault.Device device.Input, refl, named)))
named_refused trace Of why told named (inr of) = subst (RefusesTraceBy trace Of) (sym named) of
named_refused trace Of why told named (inl input) = absurd (true≢false (sym (ap is_input input)))

-- what is known of the bytes, for something else that is
pub refused_so : (trace : Trace) (Of On : (List ℕ → Type 0) → Type 0) → ((P : List ℕ → Type 0) → Of P → On P) → (r : Refusal) → RefusesTraceBy trace Of r → RefusesTraceBy trace On r
refused_so trace Of On so r (inl cost) = inl cost
refused_so trace Of On so r (inr (inl unread)) = inr (inl unread)
refused_so trace Of On so r (inr (inr (inl text))) = inr (inr (inl (so _ text)))
refused_so trace Of On so r (inr (inr (inr unsent))) = inr (inr (inr unsent))

-- ---- the settings
-- so many workers may share a pause, and one of them may draw so many items at once: what settings refuse is the cost
cost_alone : (workers chunk : ℕ) (cost : Cost) (which : ℕ) → AreWorkers workers → IsChunk chunk → IsRefused workers chunk cost which → (IsCost cost → ⊥) × (which ≡ 3)
cost_alone workers chunk cost which are is (by_workers other) = absurd (other are)
cost_alone workers chunk cost which are is (by_chunk share other) = absurd (other is)
cost_alone workers chunk cost which are is (by_cost share draw other) = (other, refl)

pub cost_refused : (workers chunk : ℕ) (cost : Cost) (f : Fault) → AreWorkers workers → IsChunk chunk → (which : ℕ) × IsRefused workers chunk cost which × (f ≡ fault.Settings which)
    → RefusesCost cost (refusal.Fault f)
cost_refused workers chunk cost f are is (which, bad, e) = let (out, third) = cost_alone workers chunk cost which are is bad in inr (out, ap refusal.Fault (e ∙ ap fault.Settings third))

-- a budget has no fault
pub budget_stopped : (trace : Trace) (h : Heap) (b : ℕ) (choice : Choice) (r : Refusal) → choice ≡ Budget b → RefusesSteps trace.name.bytes.items h choice r → IsStopped trace r
budget_stopped trace h b choice r is (f, why, of) = inr (subst (λ g. RefusesFile trace.name.bytes.items g r) (wanted why) of)
  where
    wanted : (f ≡ fault.Memory) ⊎ FaultOfChoice h choice f → f ≡ fault.Memory
    wanted (inl memory) = memory
    wanted (inr bad) = absurd (subst (λ c. FaultOfChoice h c f) is bad)

-- ---- the image that goes to standard output
sent_within : (o : Output) (n : ℕ) → if_standard o n ≤ n
sent_within (output.File name) n = omega arith
sent_within output.Standard n = omega arith
sent_within output.Default n = omega arith

-- it is the one that is asked for
pub sent_asked : (o : Option ImageAfter) → sent_command o ≤ asked_command o
sent_asked None = omega arith
sent_asked (Some after) = sent_within after.output after.command

kept_there : (trace : Trace) (lines : List (List ℕ)) (s : Session) (held : Option (List ℕ)) (text : List ℕ) (m : ℕ) → sent_command trace.image ≡ suc m → suc m ≤ commands_of s
    → SoFar trace lines s held text → IsSome held
kept_there trace lines Begun held text m sent few h = absurd (omega (arith, few))
kept_there trace lines (Open i n) held text m sent few h =
    let counted = h.counted in
    let (j, text, is, led, reads) = h.image m sent (omega (arith, few, counted)) in
    subst IsSome (sym is) refl

pub reached_kept : (trace : Trace) (known now old mid : Option (List ℕ)) (st : State) (number : ℕ) → Reached trace known now old mid st number → KeepsSent trace st
reached_kept trace known now old mid st number h lt few = at (sent_command trace.image) refl lt few
  where
    at : (m : ℕ) → sent_command trace.image ≡ m → 0 < m → m ≤ commands_of st.session → IsSome (kept st)
    at zero sent lt few = absurd (omega (arith, lt))
    at (suc m) sent lt few = kept_there trace h.lines st.session (kept st) (h.written ++ st.replies.items) m sent few h.so_far
