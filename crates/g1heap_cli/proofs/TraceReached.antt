-- Where a trace stands between two of its lines, and how it ends there.
use Rattle.std.proofs.Common.{◌≡◌, ◌⊎◌, inl, inr, ℕ, zero, suc, ◌+◌, ◌^◌, ◌<◌, Bool, true, false, List, [], ◌∷◌, ◌++◌, Option, Some, None, Result, Ok, Err, IfSome, length, take, get_or, refl, sym, ◌∙◌, ap, subst, arith, append-nil, true≢false, lt-ltb}
use Rattle.std.specs.Prelude.{◌&&◌, ◌==◌, nat_lt}
use Rattle.std.proofs.Math.Dec.{eqb-suc-zero}
use Rattle.std.proofs.Math.Seq.{take-append_seam}
use Rattle.std.proofs.lemmas.Grind.{flat_map-append}
use Rattle.std.proofs.KnownBytes.{Appends-nil, Appends-trans, Consumes-nil, Consumes-trans}
use Rattle.std.specs.Io.KnownBytes.{Appends, Consumes}
use Rattle.std.specs.List.{AllByRecursion}
use Rattle.std.proofs.lemmas.List.{length_push}
use Rattle.g1_image.specs.Source.{HoldsOfLeft}
use Rattle.g1_choose.specs.declared.parameters.Cost.{Cost}
use Rattle.g1_command.specs.declared.refusal.Refusal.{Refusal}
use Rattle.g1_command.specs.Lines.{HasNoEnd, IsEndedLine, ReadsLine}
use Rattle.g1_trace.specs.declared.session.Session.{Session}
use Rattle.g1_trace.specs.declared.session.Session.TheVariants.{Begun, Open}
use Rattle.g1_trace.specs.declared.session.Taken.{Taken}
use Rattle.g1_trace.specs.Session.{IsDone}
use Rattle.g1_trace.specs.TraceText.{ended}
use Rattle.g1heap_request.specs.declared.options.Trace.{Trace}
use Rattle.g1heap_cli.specs.Leaving.{Just, Begins, SendsText, SendsTrace}
use Rattle.g1heap_cli.specs.Traced.{RepliesToTrace, is_live, sent_command}
use Rattle.g1heap_cli.specs.TraceReasons.{AreDone}
use Rattle.g1heap_cli.specs.Tracing.{IsAtStart, IsMade, TakesLine, kept}
use Rattle.g1heap_cli.specs.declared.tracing.State.{State}
use Rattle.g1heap_cli.proofs.LineByLine.{SoFar, line_taken}
use Rattle.g1heap_cli.proofs.TraceSent.{begun, ended_there, made_of, nothing_more, sends_first, sends_on, so_far_text}

live_none : (b : Bool) (n : ℕ) → b && (n == 0) ≡ true → n ≡ 0
live_none true zero is = refl
live_none true (suc n) is = absurd (true≢false (sym is ∙ eqb-suc-zero n))
live_none false n is = absurd (true≢false (sym is))

sent_late : (b : Bool) (n : ℕ) → 0 < n → b && (n == 0) ≡ false
sent_late b zero lt = absurd (omega (arith, lt))
sent_late true (suc n) lt = eqb-suc-zero n
sent_late false (suc n) lt = refl

-- what is kept for standard output plays no part if no image goes there
other_kept : (trace : Trace) (lines : List (List ℕ)) (s : Session) (held now : Option (List ℕ)) (text : List ℕ) → sent_command trace.image ≡ 0
    → SoFar trace lines s held text → SoFar trace lines s now text
other_kept trace lines Begun held now text none h = h
other_kept trace lines (Open i n) held now text none h = record {
  sizes = h.sizes;
  roots = h.roots;
  commands = h.commands;
  replies = h.replies;
  trace_text = h.trace_text;
  limits = h.limits;
  leads = h.leads;
  counted = h.counted;
  paired = h.paired;
  few = h.few;
  told = h.told;
  image = λ m sent lt. absurd (omega (arith, none, sent));
}

-- these lines are taken, and this is written of what is made of them: known is what the input had, and now what it has left
pub record Reached (trace : Trace) (known now old mid : Option (List ℕ)) (st : State) (number : ℕ) : Type 0 where
  pub lines : List (List ℕ)
  pub written : List ℕ
  pub count : number ≡ length lines + 1
  pub reads : Consumes known now (ended lines)
  pub whole : AllByRecursion HasNoEnd lines
  pub grown : Appends old mid written
  pub quiet : is_live trace ≡ false → written ≡ []
  pub done : AreDone trace.cost Begun lines st.session
  pub so_far : SoFar trace lines st.session (kept st) (written ++ st.replies.items)

pub reached_start : (trace : Trace) (known old : Option (List ℕ)) (st : State) → IsAtStart st → Reached trace known known old old st 1
reached_start trace known old st at = record {
  lines = [];
  written = [];
  count = refl;
  reads = Consumes-nil known;
  whole = tt;
  grown = Appends-nil old;
  quiet = λ still. refl;
  done = sym at.session;
  so_far = subst (λ s. SoFar trace [] s (kept st) st.replies.items) (sym at.session) (refl, at.replies);
}

-- ---- one line more

done_more : (cost : Cost) (s t u : Session) (lines : List (List ℕ)) (line : List ℕ) (got : Taken) → AreDone cost s lines t → IsDone cost t line got u → AreDone cost s (lines ++ line ∷ []) u
done_more cost s t u [] line got h d = (u, got, subst (λ x. IsDone cost x line got u) (sym h) d, refl)
done_more cost s t u (first ∷ lines) line got (m, g, f, rest) d = (m, g, f, done_more cost m t u lines line got rest d)

all_more : (lines : List (List ℕ)) (line : List ℕ) → AllByRecursion HasNoEnd lines → HasNoEnd line → AllByRecursion HasNoEnd (lines ++ line ∷ [])
all_more [] line h free = (free, tt)
all_more (first ∷ lines) line h free = (h.0, all_more lines line h.1 free)

before_end : (a b : List ℕ) → a ++ 10 ∷ [] ≡ b ++ 10 ∷ [] → a ≡ b
before_end a b e =
    let long : length a ≡ length b = (let l = ap length e in let m = length_push a 10 in let n = length_push b 10 in omega (arith, l, m, n)) in
    sym (take-append_seam a (10 ∷ [])) ∙ ap (λ n. take n (a ++ 10 ∷ [])) long ∙ ap (take (length b)) e ∙ take-append_seam b (10 ∷ [])

end_in : (xs : List ℕ) → HasNoEnd (xs ++ 10 ∷ []) → ⊥
end_in xs free = free (length xs) 0 (let m = length_push xs 10 in omega (arith, m)) (at_end xs)
  where
    at_end : (ys : List ℕ) → get_or (ys ++ 10 ∷ []) (length ys) 0 ≡ 10
    at_end [] = refl
    at_end (y ∷ ys) = at_end ys

pub content_free : (content line : List ℕ) (rest : Type 0) → line ≡ content ++ 10 ∷ [] → IsEndedLine line ⊎ (HasNoEnd line × rest) → HasNoEnd content
content_free content line rest is (inl (front, free, e)) = subst HasNoEnd (before_end front content (sym e ∙ is)) free
content_free content line rest is (inr (free, all)) = absurd (end_in content (subst HasNoEnd is free))

pub reached_more : (trace : Trace) (known now next old mid : Option (List ℕ)) (st t : State) (number : ℕ) (empty line shown : List ℕ) (there : Bool) → Reached trace known now old mid st number
    → number < 2 ^ 64 → empty ≡ [] → shown ≡ line → ReadsLine now next empty line there → TakesLine trace shown st t → Reached trace known next old mid t (number + 1)
reached_more trace known now next old mid st t number empty line shown there h bound none same read takes =
    let count = h.count in
    let longer = length_push h.lines takes.content in
    let whole_line : read.line ≡ takes.content ++ 10 ∷ [] = sym (read.added ∙ ap (λ l. l ++ read.line) none) ∙ sym same ∙ takes.is_ended in
    let free = content_free takes.content read.line (IfSome now (λ xs. xs ≡ read.line)) whole_line read.whole in
    let text : ended h.lines ++ read.line ≡ ended (h.lines ++ takes.content ∷ []) =
    ap (λ l. ended h.lines ++ l) (whole_line ∙ sym (append-nil (takes.content ++ 10 ∷ []))) ∙ sym (flat_map-append (λ l. l ++ 10 ∷ []) h.lines (takes.content ∷ [])) in
    record {
      lines = h.lines ++ takes.content ∷ [];
      written = h.written;
      count = omega (arith, count, longer);
      reads = subst (Consumes known next) text (Consumes-trans known now next (ended h.lines) read.line h.reads read.taken);
      whole = all_more h.lines takes.content h.whole free;
      grown = h.grown;
      quiet = h.quiet;
      done = done_more trace.cost Begun st.session t.session h.lines takes.content takes.got h.done takes.done;
      so_far = line_taken trace h.lines h.written st.session t.session takes.content takes.got (kept st) (kept t) st.replies.items t.replies.items takes.done takes.adds
          (omega (arith, count, bound)) h.so_far;
    }

no_byte : (n : ℕ) → nat_lt 0 n ≡ false → n ≡ 0
no_byte zero is = refl
no_byte (suc n) is = absurd (true≢false (sym (lt-ltb 0 (suc n) (omega arith)) ∙ is))

empty_list : (l : List ℕ) → length l ≡ 0 → l ≡ []
empty_list [] e = refl
empty_list (x ∷ l) e = absurd (omega (arith, e))

all_of_none : (o : Option (List ℕ)) (line : List ℕ) → line ≡ [] → IfSome o (λ xs. xs ≡ line) → IfSome o (λ xs. xs ≡ [])
all_of_none None line none e = tt
all_of_none (Some xs) line none e = e ∙ none

left_none : (now : Option (List ℕ)) (line : List ℕ) → length line ≡ 0 → IsEndedLine line ⊎ (HasNoEnd line × IfSome now (λ xs. xs ≡ line)) → IfSome now (λ xs. xs ≡ [])
left_none now line none (inl (content, free, e)) = absurd (let l = ap length e in let m = length_push content 10 in omega (arith, l, m, none))
left_none now line none (inr (free, left)) = all_of_none now line (empty_list line none) left

-- no line is there: nothing is left
pub nothing_left : (now next : Option (List ℕ)) (old new : List ℕ) (there : Bool) → ReadsLine now next old new there → there ≡ false → IfSome now (λ xs. xs ≡ [])
nothing_left now next old new there read absent = left_none now read.line (no_byte (length read.line) (sym read.there ∙ absent)) read.whole

value_of : Result ℕ Refusal → ℕ
value_of (Ok s) = s
value_of (Err why) = 1

-- ---- how it ends here

module _ (trace : Trace) (known now old mid : Option (List ℕ)) (st : State) (number : ℕ) (h : Reached trace known now old mid st number) where
  part_is : is_live trace ≡ true → RepliesToTrace trace (HoldsOfLeft known) 1 (h.written ++ st.replies.items)
  part_is live = (live, begun trace known now h.lines h.whole (h.written ++ st.replies.items) h.reads (so_far_text trace h.lines st.session (kept st) (h.written ++ st.replies.items) h.so_far))

  begins_here : is_live trace ≡ true → Begins (RepliesToTrace trace (HoldsOfLeft known)) old mid
  begins_here live = (1, h.written ++ st.replies.items, length h.written, part_is live, subst (Appends old mid) (sym (take-append_seam h.written st.replies.items)) h.grown)

  nothing_yet : is_live trace ≡ false → Appends old mid []
  nothing_yet still = subst (Appends old mid) (h.quiet still) h.grown

  -- by a refusal
  refused_by : (b : Bool) (n : ℕ) (why : Refusal) → is_live trace ≡ b → SendsTrace b n (RepliesToTrace trace (HoldsOfLeft known)) old mid (Err why)
  refused_by true n why live = begins_here live
  refused_by false zero why still = inl (nothing_more old mid (nothing_yet still))
  refused_by false (suc n) why still = inl (nothing_more old mid (nothing_yet still))

  pub reached_refused : (n : ℕ) (why : Refusal) → SendsTrace (is_live trace) n (RepliesToTrace trace (HoldsOfLeft known)) old mid (Err why)
  reached_refused n why = refused_by (is_live trace) n why refl

  -- behind all lines
  module _ (none : IfSome now (λ ys. ys ≡ [])) (new : Option (List ℕ)) where
    whole_is : (s : ℕ) (t : List ℕ) → IsMade trace st s t → RepliesToTrace trace (HoldsOfLeft known) 0 (h.written ++ t)
    whole_is s t made =
        let sent = sent_command trace.image in
        ended_there trace known now h.lines h.whole (h.written ++ t) sent h.reads none
        (made_of trace h.lines st.session st h.written t made.1.0 sent made.1.1 made.2 h.so_far refl made.3 (λ lt. h.quiet (sent_late trace.live sent lt)))

    all_is : (s : ℕ) (t : List ℕ) → IsMade trace st s t → RepliesToTrace trace (HoldsOfLeft known) s (h.written ++ t)
    all_is s t made = subst (λ n. RepliesToTrace trace (HoldsOfLeft known) n (h.written ++ t)) (sym made.0) (whole_is s t made)

    finished_by : (b : Bool) (r : Result ℕ Refusal) → is_live trace ≡ b → SendsTrace false (sent_command trace.image) (IsMade trace st) mid new r
        → SendsTrace b (sent_command trace.image) (RepliesToTrace trace (HoldsOfLeft known)) old new r
    finished_by true r live sent =
        sends_on (RepliesToTrace trace (HoldsOfLeft known)) (IsMade trace st) old mid new h.written h.grown r (λ s t made. (0, whole_is s t made)) (λ s t is made. all_is s t made) (begins_here live)
        (subst (λ n. SendsTrace false n (IsMade trace st) mid new r) (live_none trace.live (sent_command trace.image) live) sent)
    finished_by false r still sent =
        sends_first (RepliesToTrace trace (HoldsOfLeft known)) (IsMade trace st) old mid new (nothing_yet still)
        (λ s t made. subst (λ l. RepliesToTrace trace (HoldsOfLeft known) s (l ++ t)) (h.quiet still) (all_is s t made)) (sent_command trace.image) r sent

    pub reached_end : (r : Result ℕ Refusal) → SendsTrace false (sent_command trace.image) (IsMade trace st) mid new r
        → SendsTrace (is_live trace) (sent_command trace.image) (RepliesToTrace trace (HoldsOfLeft known)) old new r
    reached_end r sent = finished_by (is_live trace) r refl sent

  -- what is made is written at once
  module _ (live : is_live trace ≡ true) (new : Option (List ℕ)) where
    reached_cut : (n : ℕ) (r : Result ℕ Refusal) → (r ≡ Ok 0 → ⊥) → SendsText (Just 0 st.replies.items) mid new r → SendsTrace (is_live trace) n (RepliesToTrace trace (HoldsOfLeft known)) old new r
    reached_cut n r other sent =
        subst (λ b. SendsTrace b n (RepliesToTrace trace (HoldsOfLeft known)) old new r) (sym live)
        (sends_on (RepliesToTrace trace (HoldsOfLeft known)) (Just 0 st.replies.items) old mid new h.written h.grown r
        (λ s t is. (1, subst (λ l. RepliesToTrace trace (HoldsOfLeft known) 1 (h.written ++ l)) (sym is.1) (part_is live))) (λ s t is made. absurd (other (is ∙ ap Ok made.0))) (begins_here live) sent)

    pub reached_gone : (n s : ℕ) → (s ≡ 0 → ⊥) → SendsText (Just 0 st.replies.items) mid new (Ok s) → SendsTrace (is_live trace) n (RepliesToTrace trace (HoldsOfLeft known)) old new (Ok s)
    unfolding value_of
    reached_gone n s other sent = reached_cut n (Ok s) (λ e. other (ap value_of e)) sent

    pub reached_failed : (n : ℕ) (why : Refusal) → SendsText (Just 0 st.replies.items) mid new (Err why) → SendsTrace (is_live trace) n (RepliesToTrace trace (HoldsOfLeft known)) old new (Err why)
    unfolding value_of
    reached_failed n why sent = reached_cut n (Err why) (λ e. let one : 1 ≡ 0 = ap value_of e in omega (arith, one)) sent

    pub reached_written : (t : State) (s : ℕ) → s ≡ 0 → t.session ≡ st.session → t.replies.items ≡ [] → SendsText (Just 0 st.replies.items) mid new (Ok s) → Reached trace known now old new t number
    reached_written t q zero_is same cleared (inl (text, is, a)) =
        let none = live_none trace.live (sent_command trace.image) live in
        let all : h.written ++ st.replies.items ≡ (h.written ++ text) ++ t.replies.items =
        ap (λ l. h.written ++ l) (sym is.1) ∙ sym (append-nil (h.written ++ text)) ∙ ap (λ l. (h.written ++ text) ++ l) (sym cleared) in
        record {
          lines = h.lines;
          written = h.written ++ text;
          count = h.count;
          reads = h.reads;
          whole = h.whole;
          grown = Appends-trans old mid new h.written text h.grown a;
          quiet = λ still. absurd (true≢false (sym live ∙ still));
          done = subst (AreDone trace.cost Begun h.lines) (sym same) h.done;
          so_far = subst (λ s. SoFar trace h.lines s (kept t) ((h.written ++ text) ++ t.replies.items)) (sym same)
              (subst (SoFar trace h.lines st.session (kept t)) all (other_kept trace h.lines st.session (kept st) (kept t) (h.written ++ st.replies.items) none h.so_far));
        }
    reached_written t q zero_is same cleared (inr (gone, b)) = absurd (omega (arith, gone, zero_is))
