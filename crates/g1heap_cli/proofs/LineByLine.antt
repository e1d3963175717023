-- A session that takes line after line goes through a trace.
use Rattle.std.proofs.Common.{◌≡◌, ◌⊎◌, inl, inr, ℕ, suc, ◌+◌, ◌^◌, ◌<◌, ◌≤◌, Bool, true, false, cond, List, [], ◌∷◌, ◌++◌, Option, Some, None, length, take, flat_map, refl, sym, ◌∙◌, ap, subst, arith, append_assoc, append-nil, take_all}
use Rattle.std.proofs.lemmas.List.{take-append-le, length_push}
use Rattle.std.specs.Prelude.{decimal, not, ◌==◌}
use Rattle.std.proofs.lemmas.Grind.{flat_map-append}
use Rattle.std.proofs.Math.Nat.{min-eq_left}
use Rattle.std.proofs.lemmas.Bool.{cases_lt}
use Rattle.std.proofs.lemmas.List.Elements.{filter-append, All-cons, All-push}
use Rattle.g1_words.specs.Geometry.{Geometry}
use Rattle.g1_image.specs.Image.{Image, IsTextIn}
use Rattle.g1_image.specs.declared.cursor.Version.TheVariants.{Two}
use Rattle.g1_choose.specs.declared.parameters.Cost.{Cost}
use Rattle.g1_trace.specs.declared.command.Command.{Command}
use Rattle.g1_trace.specs.declared.command.Command.TheVariants.{New, Get, Put, Set, Say, Same, Copy, Drop, Pause}
use Rattle.g1_trace.specs.declared.command.Reply.{Reply as ReplyOf}
use Rattle.g1_trace.specs.declared.session.Session.{Session}
use Rattle.g1_trace.specs.declared.session.Session.TheVariants.{Begun, Open}
use Rattle.g1_trace.specs.declared.session.Taken.{Taken}
use Rattle.g1_trace.specs.Mutator.{IsStep}
use Rattle.g1_trace.specs.Run.{Replies, empty_image}
use Rattle.g1_trace.specs.Running.{IsHeapSize}
use Rattle.g1_trace.specs.Session.{IsComment, IsDone, comment, sizes, command, commands_of, image_of, one_more}
use Rattle.g1_trace.specs.Telling.{reply_line, reply_lines}
use Rattle.g1_trace.specs.TraceText.{AllFit, numbers_of, command_line, heap_line, ended, IsText}
use Rattle.g1heap_request.specs.declared.options.Trace.{Trace}
use Rattle.g1heap_request.specs.declared.options.ImageAfter.{ImageAfter}
use Rattle.g1heap_request.specs.declared.output.Output.{Output}
use Rattle.g1heap_request.specs.declared.output.Output.TheVariants as output
use Rattle.g1heap_cli.specs.Traced.{counts, without_comments, Leads, LeadsTold, Tells, number_text, numbered_lines, told_lines, if_standard, sent_command}
use Rattle.g1heap_cli.specs.Tracing.{ExplainsLine, KeepsImage, Adds}
use Rattle.g1heap_cli.proofs.TraceTold.{explains_command, explained_more}

-- ---- which lines count

comment_skipped : (line : List ℕ) → IsComment line → counts line ≡ false
comment_skipped [] is = refl
comment_skipped (first ∷ rest) is = ap (λ x. not (x == 35)) is

command_counts : (c : Command) → counts (command_line c) ≡ true
command_counts (New r refs words) = refl
command_counts (Get r q m) = refl
command_counts (Put r m q) = refl
command_counts (Set r m x) = refl
command_counts (Say r m) = refl
command_counts (Same r q) = refl
command_counts (Copy r q) = refl
command_counts (Drop r) = refl
command_counts (Pause b) = refl

one_kept : (line : List ℕ) → counts line ≡ true → without_comments (line ∷ []) ≡ line ∷ []
one_kept line is = ap (λ b. cond b (line ∷ []) []) is

one_skipped : (line : List ℕ) → counts line ≡ false → without_comments (line ∷ []) ≡ []
one_skipped line is = ap (λ b. cond b (line ∷ []) []) is

with_comment : (lines : List (List ℕ)) (line : List ℕ) → IsComment line → without_comments (lines ++ line ∷ []) ≡ without_comments lines
with_comment lines line is =
    filter-append counts lines (line ∷ []) ∙ ap (λ l. without_comments lines ++ l) (one_skipped line (comment_skipped line is)) ∙ append-nil (without_comments lines)

with_line : (lines : List (List ℕ)) (line : List ℕ) → counts line ≡ true → ended (without_comments (lines ++ line ∷ [])) ≡ ended (without_comments lines) ++ (line ++ 10 ∷ [])
with_line lines line is =
    ap ended (filter-append counts lines (line ∷ []) ∙ ap (λ l. without_comments lines ++ l) (one_kept line is))
    ∙ flat_map-append (λ l. l ++ 10 ∷ []) (without_comments lines) (line ∷ []) ∙ ap (λ l. ended (without_comments lines) ++ l) (append-nil (line ++ 10 ∷ []))

-- ---- commands and their replies, one more

module _ (cost : Cost) where
  leads_more : (i k j : Image) (cs : List Command) (rs : List ReplyOf) (c : Command) (r : ReplyOf) → Leads cost i cs rs k → IsStep cost k c r j
      → Leads cost i (cs ++ c ∷ []) (rs ++ r ∷ []) j
  leads_more i k j [] [] c r here st = subst (λ x. Leads cost x (c ∷ []) (r ∷ []) j) (sym here) (j, st, refl)
  leads_more i k j [] (q ∷ rs) c r h st = absurd h
  leads_more i k j (d ∷ cs) [] c r h st = absurd h
  leads_more i k j (d ∷ cs) (q ∷ rs) c r (m, first, rest) st = (m, first, leads_more m k j cs rs c r rest st)

  pub leads_replies : (i j : Image) (cs : List Command) (rs : List ReplyOf) → Leads cost i cs rs j → Replies (IsStep cost) i cs rs
  leads_replies i j [] [] h = tt
  leads_replies i j [] (q ∷ rs) h = absurd h
  leads_replies i j (d ∷ cs) [] h = absurd h
  leads_replies i j (d ∷ cs) (q ∷ rs) (m, first, rest) = (m, first, leads_replies m j cs rs rest)

numbered_more : (n : ℕ) (rs : List ReplyOf) (r : ReplyOf) → numbered_lines n (rs ++ r ∷ []) ≡ numbered_lines n rs ++ (number_text true (n + length rs) ++ reply_line r)
numbered_more n [] r =
    append-nil ((decimal n ++ 32 ∷ []) ++ reply_line r) ∙ ap (λ m. number_text true m ++ reply_line r) (omega arith)
numbered_more n (q ∷ rs) r =
    let first : List ℕ = (decimal n ++ 32 ∷ []) ++ reply_line q in
    let here : n + 1 + length rs ≡ n + length (q ∷ rs) = omega arith in
    ap (λ l. first ++ l) (numbered_more (n + 1) rs r)
    ∙ sym (append_assoc first (numbered_lines (n + 1) rs) (number_text true (n + 1 + length rs) ++ reply_line r))
    ∙ ap (λ m. (first ++ numbered_lines (n + 1) rs) ++ (number_text true m ++ reply_line r)) here

told_more : (numbered : Bool) (rs : List ReplyOf) (r : ReplyOf) → told_lines numbered (rs ++ r ∷ []) ≡ told_lines numbered rs ++ (number_text numbered (length rs + 1) ++ reply_line r)
told_more false rs r = flat_map-append reply_line rs (r ∷ []) ∙ ap (λ l. reply_lines rs ++ l) (append-nil (reply_line r))
told_more true rs r = numbered_more 1 rs r ∙ ap (λ m. numbered_lines 1 rs ++ (number_text true m ++ reply_line r)) (omega arith)

-- ---- what is known after some lines

-- the image that is kept, after these commands, if it is to go to standard output
abbrev pub HasKept : Trace → Image → List Command → List ReplyOf → Option (List ℕ) → Type 0
HasKept trace start commands replies kept =
    (n : ℕ) → sent_command trace.image ≡ suc n → suc n ≤ length commands
    → (j : Image) × (text : List ℕ) × (kept ≡ Some text) × Leads trace.cost start (take (suc n) commands) (take (suc n) replies) j × IsTextIn Two text j

pub record IsOpen (trace : Trace) (lines : List (List ℕ)) (i : Image) (count : ℕ) (kept : Option (List ℕ)) (text : List ℕ) : Type 0 where
  pub sizes : Geometry
  pub roots : ℕ
  pub commands : List Command
  pub replies : List ReplyOf
  pub trace_text : IsText (ended (without_comments lines)) sizes roots commands
  pub limits : IsHeapSize sizes roots
  pub leads : Leads trace.cost (empty_image sizes roots) commands replies i
  pub counted : count ≡ length commands
  pub paired : length replies ≡ length commands
  pub few : length commands < length lines
  pub told : Tells trace.explain trace.cost trace.numbered (empty_image sizes roots) commands replies i text
  pub image : HasKept trace (empty_image sizes roots) commands replies kept

-- after these lines the session is this, with this image kept, and this text is made of them
abbrev pub SoFar : Trace → List (List ℕ) → Session → Option (List ℕ) → List ℕ → Type 0
SoFar trace lines Begun kept text = (without_comments lines ≡ []) × (text ≡ [])
SoFar trace lines (Open i n) kept text = IsOpen trace lines i n kept text

-- sizes within the limits fit into 64 bits
sizes_fit : (g : Geometry) (roots : ℕ) → IsHeapSize g roots → AllFit (g.w ∷ g.k ∷ g.n ∷ roots ∷ [])
sizes_fit g roots limits =
    let Fits : ℕ → Type 0 = λ x. x < 2 ^ 64 in
    let b = limits.sizes.bounds in
    let w : g.w < 2 ^ 64 = (let most = b.w_most in omega (arith, most)) in
    let k : g.k < 2 ^ 64 = (let most = b.k_most in omega (arith, most)) in
    let n : g.n < 2 ^ 64 = (let most = b.n_most in omega (arith, most)) in
    let count : roots < 2 ^ 64 = (let most = limits.roots in omega (arith, most)) in
    All-cons Fits g.w (g.k ∷ g.n ∷ roots ∷ []) w (All-cons Fits g.k (g.n ∷ roots ∷ []) k (All-cons Fits g.n (roots ∷ []) n (All-cons Fits roots [] count (λ i d lt. absurd (omega (arith, lt))))))

tells_none : (explain : Bool) (cost : Cost) (numbered : Bool) (i : Image) (text : List ℕ) → text ≡ [] → Tells explain cost numbered i [] [] i text
tells_none true cost numbered i text none = (refl, none)
tells_none false cost true i text none = none
tells_none false cost false i text none = none

tells_more : (explain : Bool) (cost : Cost) (numbered : Bool) (start i j : Image) (n m : ℕ) (cs : List Command) (rs : List ReplyOf) (c : Command) (r : ReplyOf) (text more line front : List ℕ)
    → AllFit (numbers_of c) → line ≡ command_line c → IsStep cost i c r j → m ≡ length rs + 1 → ExplainsLine explain cost (Open i n) line front
    → more ≡ text ++ (front ++ (number_text numbered m ++ reply_line r)) → Tells explain cost numbered start cs rs i text
    → Tells explain cost numbered start (cs ++ c ∷ []) (rs ++ r ∷ []) j more
tells_more false cost numbered start i j n m cs rs c r text more line front fit is st count none adds h =
    adds ∙ ap (λ l. text ++ (l ++ (number_text numbered m ++ reply_line r))) none ∙ ap (λ l. l ++ (number_text numbered m ++ reply_line r)) h
    ∙ ap (λ k. told_lines numbered rs ++ (number_text numbered k ++ reply_line r)) count ∙ sym (told_more numbered rs r)
tells_more true cost numbered start i j n m cs rs c r text more line front fit is st count explains adds h =
    let number : m ≡ 1 + length rs = omega (arith, count) in
    let all : more ≡ text ++ (front ++ (number_text numbered (1 + length rs) ++ reply_line r)) = adds ∙ ap (λ k. text ++ (front ++ (number_text numbered k ++ reply_line r))) number in
    subst (LeadsTold cost numbered 1 start (cs ++ c ∷ []) (rs ++ r ∷ []) j) (sym all)
    (explained_more cost numbered 1 start i j cs rs c r text front h st (explains_command cost i n c line front fit is explains))

-- ---- the image that goes to standard output

pub standard_is : (o : Output) (n m : ℕ) → if_standard o n ≡ suc m → n ≡ suc m
standard_is (output.File name) n m e = absurd (omega (arith, e))
standard_is output.Standard n m e = e
standard_is output.Default n m e = e

-- what is kept is what is asked for
image_kept : (o : Option ImageAfter) (s : Session) (before after : Option (List ℕ)) (n : ℕ) → sent_command o ≡ suc n → KeepsImage o s before after
    → ((commands_of s ≡ suc n → ⊥) → after ≡ before)
    × ((i : Image) → image_of s ≡ Some i → commands_of s ≡ suc n → (text : List ℕ) × (after ≡ Some text) × IsTextIn Two text i)
image_kept None s before after n e keeps = absurd (omega (arith, e))
image_kept (Some asked) s before after n e keeps =
    let is : asked.command ≡ suc n = standard_is asked.output asked.command n e in
    ((λ other. keeps.0 (λ same. other (same ∙ is))), (λ i there same. keeps.1 i there (same ∙ sym is)))

module _ (trace : Trace) (start j : Image) (cs : List Command) (rs : List ReplyOf) (c : Command) (r : ReplyOf) (n : ℕ) (before after : Option (List ℕ))
    (leads : Leads trace.cost start (cs ++ c ∷ []) (rs ++ r ∷ []) j) (paired : length rs ≡ length cs) (counted : n ≡ length cs + 1)
    (keeps : KeepsImage trace.image (Open j n) before after) (h : HasKept trace start cs rs before) where
  now_kept : (m : ℕ) → sent_command trace.image ≡ suc m
      → ((n ≡ suc m → ⊥) → after ≡ before) × ((i : Image) → Some j ≡ Some i → n ≡ suc m → (text : List ℕ) × (after ≡ Some text) × IsTextIn Two text i)
  now_kept m sent = image_kept trace.image (Open j n) before after m sent keeps

  kept_at : (m : ℕ) → sent_command trace.image ≡ suc m → suc m ≤ length (cs ++ c ∷ []) → (m < length cs) ⊎ (length cs ≤ m)
      → (k : Image) × (text : List ℕ) × (after ≡ Some text) × Leads trace.cost start (take (suc m) (cs ++ c ∷ [])) (take (suc m) (rs ++ r ∷ [])) k × IsTextIn Two text k
  kept_at m sent lt (inl earlier) =
      let (k, text, is, led, reads) = h m sent (omega (arith, earlier)) in
      let same : after ≡ before = (now_kept m sent).0 (λ e. omega (arith, e, counted, earlier)) in
      let these : take (suc m) (cs ++ c ∷ []) ≡ take (suc m) cs = take-append-le (suc m) cs (c ∷ []) (omega (arith, earlier)) in
      let those : take (suc m) (rs ++ r ∷ []) ≡ take (suc m) rs = take-append-le (suc m) rs (r ∷ []) (omega (arith, earlier, paired)) in
      (k, text, same ∙ is, subst (λ xs. Leads trace.cost start xs (take (suc m) (rs ++ r ∷ [])) k) (sym these) (subst (λ xs. Leads trace.cost start (take (suc m) cs) xs k) (sym those) led), reads)
  kept_at m sent lt (inr later) =
      let longer = length_push cs c in
      let wider = length_push rs r in
      let (text, is, reads) = (now_kept m sent).1 j refl (omega (arith, counted, later, lt, longer)) in
      let these : take (suc m) (cs ++ c ∷ []) ≡ cs ++ c ∷ [] = take_all (suc m) (cs ++ c ∷ []) (omega (arith, later, longer)) in
      let those : take (suc m) (rs ++ r ∷ []) ≡ rs ++ r ∷ [] = take_all (suc m) (rs ++ r ∷ []) (omega (arith, later, wider, paired)) in
      (j, text, is, subst (λ xs. Leads trace.cost start xs (take (suc m) (rs ++ r ∷ [])) j) (sym these) (subst (λ xs. Leads trace.cost start (cs ++ c ∷ []) xs j) (sym those) leads), reads)

  -- the image that was kept before, or is kept now
  kept_more : HasKept trace start (cs ++ c ∷ []) (rs ++ r ∷ []) after
  kept_more m sent lt = kept_at m sent lt (cases_lt m (length cs))

module _ (trace : Trace) (lines : List (List ℕ)) where
  -- a comment changes nothing
  comment_taken : (s : Session) (line : List ℕ) (before after : Option (List ℕ)) (text more : List ℕ) → IsComment line → more ≡ text → after ≡ before
      → SoFar trace lines s before text → SoFar trace (lines ++ line ∷ []) s after more
  comment_taken Begun line before after text more is same kept h = (with_comment lines line is ∙ h.0, same ∙ h.1)
  comment_taken (Open i n) line before after text more is same kept h =
      let longer = length_push lines line in
      let few = h.few in
      record {
        sizes = h.sizes;
        roots = h.roots;
        commands = h.commands;
        replies = h.replies;
        trace_text = subst (λ ls. IsText (ended ls) h.sizes h.roots h.commands) (sym (with_comment lines line is)) h.trace_text;
        limits = h.limits;
        leads = h.leads;
        counted = h.counted;
        paired = h.paired;
        few = omega (arith, few, longer);
        told = subst (Tells trace.explain trace.cost trace.numbered (empty_image h.sizes h.roots) h.commands h.replies i) (sym same) h.told;
        image = subst (HasKept trace (empty_image h.sizes h.roots) h.commands h.replies) (sym kept) h.image;
      }

  -- the line with the sizes
  sizes_taken : (line : List ℕ) (g : Geometry) (roots : ℕ) (before after : Option (List ℕ)) (text more : List ℕ) → IsHeapSize g roots
      → line ≡ heap_line g.w g.k g.n roots → more ≡ text → SoFar trace lines Begun before text
      → IsOpen trace (lines ++ line ∷ []) (empty_image g roots) 0 after more
  sizes_taken line g roots before after text more limits is same h =
      let longer = length_push lines line in
      record {
        sizes = g;
        roots = roots;
        commands = [];
        replies = [];
        trace_text = record {
          text = with_line lines line (ap counts is) ∙ ap (λ ls. ended ls ++ (line ++ 10 ∷ [])) h.0 ∙ ap (λ l. l ++ 10 ∷ []) is ∙ sym (append-nil (heap_line g.w g.k g.n roots ++ 10 ∷ []));
          first = sizes_fit g roots limits;
          later = λ k d lt. absurd (omega (arith, lt));
        };
        limits = limits;
        leads = refl;
        counted = refl;
        paired = refl;
        few = omega (arith, longer);
        told = tells_none trace.explain trace.cost trace.numbered (empty_image g roots) more (same ∙ h.1);
        image = λ n sent lt. absurd (omega (arith, lt));
      }

  -- the line of a command
  command_taken : (line : List ℕ) (c : Command) (i j : Image) (n : ℕ) (r : ReplyOf) (before after : Option (List ℕ)) (text more : List ℕ)
      → AllFit (numbers_of c) → line ≡ command_line c → IsStep trace.cost i c r j → length lines + 1 < 2 ^ 64
      → (front : List ℕ) → ExplainsLine trace.explain trace.cost (Open i n) line front → more ≡ text ++ (front ++ (number_text trace.numbered (one_more n) ++ reply_line r))
      → KeepsImage trace.image (Open j (one_more n)) before after
      → IsOpen trace lines i n before text → IsOpen trace (lines ++ line ∷ []) j (one_more n) after more
  command_taken line c i j n r before after text more fit is st bound front explains adds keeps h =
      let cs = h.commands in
      let rs = h.replies in
      let longer = length_push lines line in
      let wider = length_push cs c in
      let further = length_push rs r in
      let few = h.few in
      let counted = h.counted in
      let paired = h.paired in
      let next : one_more n ≡ n + 1 = min-eq_left (omega (arith, few, counted, bound)) in
      let led = leads_more trace.cost (empty_image h.sizes h.roots) i j cs rs c r h.leads st in
      record {
        sizes = h.sizes;
        roots = h.roots;
        commands = cs ++ c ∷ [];
        replies = rs ++ r ∷ [];
        trace_text = record {
          text = with_line lines line (ap counts is ∙ command_counts c) ∙ ap (λ l. ended (without_comments lines) ++ (l ++ 10 ∷ [])) is
              ∙ ap (λ l. l ++ (command_line c ++ 10 ∷ [])) h.trace_text.text
              ∙ append_assoc (heap_line h.sizes.w h.sizes.k h.sizes.n h.roots ++ 10 ∷ []) (flat_map (λ d. command_line d ++ 10 ∷ []) cs) (command_line c ++ 10 ∷ [])
              ∙ ap (λ l. (heap_line h.sizes.w h.sizes.k h.sizes.n h.roots ++ 10 ∷ []) ++ l)
              (sym (flat_map-append (λ d. command_line d ++ 10 ∷ []) cs (c ∷ []) ∙ ap (λ l. flat_map (λ d. command_line d ++ 10 ∷ []) cs ++ l) (append-nil (command_line c ++ 10 ∷ []))));
          first = h.trace_text.first;
          later = All-push (λ d. AllFit (numbers_of d)) cs c h.trace_text.later fit;
        };
        limits = h.limits;
        leads = led;
        counted = omega (arith, next, counted, wider);
        paired = omega (arith, paired, wider, further);
        few = omega (arith, few, longer, wider);
        told = tells_more trace.explain trace.cost trace.numbered (empty_image h.sizes h.roots) i j n (one_more n) cs rs c r text more line front fit is st (omega (arith, next, counted, paired)) explains adds h.told;
        image = kept_more trace (empty_image h.sizes h.roots) j cs rs c r (one_more n) before after led paired (omega (arith, next, counted)) keeps h.image;
      }

  -- A LINE MORE
  pub line_taken : (written : List ℕ) (s t : Session) (line : List ℕ) (got : Taken) (before after : Option (List ℕ)) (old new : List ℕ)
      → IsDone trace.cost s line got t → Adds trace s line got t old new before after → length lines + 1 < 2 ^ 64
      → SoFar trace lines s before (written ++ old) → SoFar trace (lines ++ line ∷ []) t after (written ++ new)
  line_taken written s t line got before after old new (comment is) adds bound h =
      comment_taken s line before after (written ++ old) (written ++ new) is (ap (λ l. written ++ l) adds.0) adds.1 h
  line_taken written s t line got before after old new (sizes g roots limits is) adds bound h =
      sizes_taken line g roots before after (written ++ old) (written ++ new) limits is (ap (λ l. written ++ l) adds.0) h
  line_taken written s t line got before after old new (command {i = i} {j = j} {n = n} {reply = r} c fit is st) adds bound h =
      command_taken line c i j n r before after (written ++ old) (written ++ new) fit is st bound adds.0.0 adds.0.1
      (ap (λ l. written ++ l) adds.0.2 ∙ sym (append_assoc written old (adds.0.0 ++ (number_text trace.numbered (one_more n) ++ reply_line r)))) adds.1 h
