-- What stands on standard output while a trace is read line by line, and behind its end.
use Rattle.std.proofs.Common.{◌≡◌, inl, inr, ℕ, zero, suc, ◌+◌, ◌<◌, ◌≤◌, false, List, [], ◌++◌, Option, Some, None, Result, Ok, Err, IfSome, length, take, refl, sym, ◌∙◌, ap, subst, arith, append-nil}
use Rattle.std.proofs.Math.Seq.{take-append-add}
use Rattle.std.proofs.KnownBytes.{Appends-kept, Appends-trans, Keeps-trans}
use Rattle.std.specs.Io.KnownBytes.{Appends, Keeps, Consumes}
use Rattle.std.specs.List.{AllByRecursion}
use Rattle.g1_image.specs.Image.{Image, IsTextIn}
use Rattle.g1_image.specs.declared.cursor.Version.TheVariants.{Two}
use Rattle.g1_image.specs.Source.{HoldsOfLeft}
use Rattle.g1_command.specs.declared.refusal.Refusal.{Refusal}
use Rattle.g1_command.specs.Lines.{HasNoEnd}
use Rattle.g1_trace.specs.declared.session.Session.{Session}
use Rattle.g1_trace.specs.declared.session.Session.TheVariants.{Begun, Open}
use Rattle.g1_trace.specs.Run.{empty_image}
use Rattle.g1_trace.specs.Session.{commands_of, image_of}
use Rattle.g1_trace.specs.TraceText.{ended}
use Rattle.g1heap_request.specs.declared.options.Trace.{Trace}
use Rattle.g1heap_request.specs.declared.options.ImageAfter.{ImageAfter}
use Rattle.g1heap_cli.specs.Leaving.{Reply, Begins, SendsText, SendsAsMade, SendsTrace}
use Rattle.g1heap_cli.specs.Traced.{AreLinesOf, BeginsWithLines, IsTraced, IsTracedSoFar, asked_command, Tells, sent_command}
use Rattle.g1heap_cli.specs.Tracing.{IsMadeText, kept}
use Rattle.g1heap_cli.specs.declared.tracing.State.{State}
use Rattle.g1heap_cli.proofs.LineByLine.{IsOpen, SoFar, standard_is}
use Rattle.g1heap_cli.proofs.TraceRuns.{run_of}

-- ---- the text of the lines

lines_of : (trace : Trace) (lines : List (List ℕ)) (i : Image) (n : ℕ) (held : Option (List ℕ)) (text : List ℕ) (h : IsOpen trace lines i n held text)
    → AreLinesOf trace.cost lines h.sizes h.roots h.commands h.replies
lines_of trace lines i n held text h = record { text = h.trace_text; limits = h.limits; run = run_of trace.cost h.sizes h.roots h.commands h.replies i h.limits h.trace_text.later h.leads }

pub so_far_text : (trace : Trace) (lines : List (List ℕ)) (s : Session) (held : Option (List ℕ)) (text : List ℕ) → SoFar trace lines s held text → IsTracedSoFar trace lines text
so_far_text trace lines Begun held text h = inl h
so_far_text trace lines (Open i n) held text h =
    inr (record {
      sizes = h.sizes;
      roots = h.roots;
      commands = h.commands;
      replies = h.replies;
      trace_lines = lines_of trace lines i n held text h;
      enough = omega arith;
      image = i;
      leads = h.leads;
      told = h.told;
    })

asked_is : (o : Option ImageAfter) (m : ℕ) → sent_command o ≡ suc m → asked_command o ≡ suc m
asked_is None m e = e
asked_is (Some asked) m e = standard_is asked.output asked.command m e

-- what is made of all lines is their text
pub made_of : (trace : Trace) (lines : List (List ℕ)) (s : Session) (st : State) (written out : List ℕ) (i : Image) (m : ℕ) → image_of s ≡ Some i → asked_command trace.image ≤ commands_of s
    → SoFar trace lines s (kept st) (written ++ st.replies.items) → sent_command trace.image ≡ m → IsMadeText m st out → (0 < m → written ≡ []) → IsTraced trace m lines (written ++ out)
made_of trace lines Begun st written out i m there enough h sent made none = absurd (no_image i there)
  where
    no_image : (i : Image) → image_of Begun ≡ Some i → ⊥
    no_image i e = cc
made_of trace lines (Open j n) st written out i zero there enough h sent made none =
    let counted = h.counted in
    record {
      sizes = h.sizes;
      roots = h.roots;
      commands = h.commands;
      replies = h.replies;
      trace_lines = lines_of trace lines j n (kept st) (written ++ st.replies.items) h;
      enough = omega (arith, enough, counted);
      image = j;
      leads = h.leads;
      told = subst (λ l. Tells trace.explain trace.cost trace.numbered (empty_image h.sizes h.roots) h.commands h.replies j (written ++ l)) (sym made) h.told;
    }
made_of trace lines (Open j n) st written out i (suc m) there enough h sent made none =
    let counted = h.counted in
    let asked = asked_is trace.image m sent in
    let so : suc m ≤ length h.commands = omega (arith, asked, enough, counted) in
    let (k, text, is, led, reads) = h.image m sent so in
    let same : text ≡ out = some_is text out (sym is ∙ made) in
    record {
      sizes = h.sizes;
      roots = h.roots;
      commands = h.commands;
      replies = h.replies;
      trace_lines = lines_of trace lines j n (kept st) (written ++ st.replies.items) h;
      enough = so;
      image = k;
      leads = led;
      is_text = subst (λ l. IsTextIn Two l k) (same ∙ ap (λ l. l ++ out) (sym (none (omega arith)))) reads;
    }
  where
    some_is : (a b : List ℕ) → Some a ≡ Some b → a ≡ b
    some_is a b e = cc

-- ---- the bytes of the lines

module _ (trace : Trace) (known now : Option (List ℕ)) (lines : List (List ℕ)) (whole : AllByRecursion HasNoEnd lines) (text : List ℕ) where
  pub begun : Consumes known now (ended lines) → IsTracedSoFar trace lines text
      → HoldsOfLeft known (λ bytes. (ls : List (List ℕ)) × (rest : List ℕ) × BeginsWithLines ls rest bytes × IsTracedSoFar trace ls text)
  begun = begun_at known now
    where
      begun_at : (a b : Option (List ℕ)) → Consumes a b (ended lines) → IsTracedSoFar trace lines text
          → HoldsOfLeft a (λ bytes. (ls : List (List ℕ)) × (rest : List ℕ) × BeginsWithLines ls rest bytes × IsTracedSoFar trace ls text)
      begun_at None b reads is = (ended lines ++ [], (lines, [], record { split = refl; whole = whole }, is), tt)
      begun_at (Some xs) None reads is = absurd reads
      begun_at (Some xs) (Some ys) reads is = (xs, (lines, ys, record { split = reads; whole = whole }, is), refl)

  pub ended_there : (n : ℕ) → Consumes known now (ended lines) → IfSome now (λ ys. ys ≡ []) → IsTraced trace n lines text
      → HoldsOfLeft known (λ bytes. (ls : List (List ℕ)) × BeginsWithLines ls [] bytes × IsTraced trace n ls text)
  ended_there n = ended_at known now
    where
      ended_at : (a b : Option (List ℕ)) → Consumes a b (ended lines) → IfSome b (λ ys. ys ≡ []) → IsTraced trace n lines text
          → HoldsOfLeft a (λ bytes. (ls : List (List ℕ)) × BeginsWithLines ls [] bytes × IsTraced trace n ls text)
      ended_at None b reads none is = (ended lines ++ [], (lines, record { split = refl; whole = whole }, is), tt)
      ended_at (Some xs) None reads none is = absurd reads
      ended_at (Some xs) (Some ys) reads none is = (xs, (lines, record { split = reads ∙ ap (λ l. ended lines ++ l) none; whole = whole }, is), refl)

-- ---- what stands on standard output

pub nothing_more : (a b : Option (List ℕ)) → Appends a b [] → Keeps a b
nothing_more None b h = tt
nothing_more (Some x) None h = absurd h
nothing_more (Some x) (Some y) h = h ∙ append-nil x

module _ (Is To : Reply) (old mid new : Option (List ℕ)) where
  -- behind what is written, what is sent of a text goes on
  goes_on : (written : List ℕ) → Appends old mid written → ((s : ℕ) (t : List ℕ) → To s t → (q : ℕ) × Is q (written ++ t)) → Begins To mid new → Begins Is old new
  goes_on written grown part (s, t, k, is, a) =
      let (q, so) = part s t is in
      (q, written ++ t, length written + k, so, subst (Appends old new) (sym (take-append-add written t k)) (Appends-trans old mid new written (take k t) grown a))

  stays : Begins Is old mid → Keeps mid new → Begins Is old new
  stays (s, t, k, is, a) same = (s, t, k, is, Appends-kept old mid new (take k t) a same)

  pub sends_on : (written : List ℕ) → Appends old mid written → (r : Result ℕ Refusal) → ((s : ℕ) (t : List ℕ) → To s t → (q : ℕ) × Is q (written ++ t))
      → ((s : ℕ) (t : List ℕ) → r ≡ Ok s → To s t → Is s (written ++ t)) → Begins Is old mid → SendsText To mid new r → SendsAsMade Is old new r
  sends_on written grown (Ok s) part all here (inl (t, is, a)) = inl (written ++ t, all s t refl is, Appends-trans old mid new written t grown a)
  sends_on written grown (Ok s) part all here (inr (gone, b)) = inr (gone, goes_on written grown part b)
  sends_on written grown (Err why) part all here (inl same) = stays here same
  sends_on written grown (Err why) part all here (inr (failed, b)) = goes_on written grown part b

  module _ (none : Appends old mid []) (so : (s : ℕ) (t : List ℕ) → To s t → Is s t) where
    moved : Begins To mid new → Begins Is old new
    moved (s, t, k, is, a) = (s, t, k, so s t is, Appends-trans old mid new [] (take k t) none a)

    same_still : Keeps mid new → Keeps old new
    same_still same = Keeps-trans old mid new (nothing_more old mid none) same

    pub sends_first : (n : ℕ) (r : Result ℕ Refusal) → SendsTrace false n To mid new r → SendsTrace false n Is old new r
    sends_first zero (Ok s) (inl (t, is, a)) = inl (t, so s t is, Appends-trans old mid new [] t none a)
    sends_first zero (Ok s) (inr (gone, b)) = inr (gone, moved b)
    sends_first zero (Err why) (inl same) = inl (same_still same)
    sends_first zero (Err why) (inr (failed, b)) = inr (failed, moved b)
    sends_first (suc n) (Ok s) (t, is, a) = (t, so s t is, Appends-trans old mid new [] t none a)
    sends_first (suc n) (Err why) (inl same) = inl (same_still same)
    sends_first (suc n) (Err why) (inr (failed, b)) = inr (failed, moved b)
