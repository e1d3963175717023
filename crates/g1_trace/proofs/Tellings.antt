-- Lines that are read, done and answered in turn: the beginning, one line more, the end, and the first bad line.
use Rattle.std.proofs.Common.{◌≡◌, ℕ, ◌+◌, ◌≤◌, inl, inr, List, [], ◌∷◌, ◌++◌, length, flat_map, refl, sym, ◌∙◌, ap, subst, arith, append_assoc, length-append, append-nil}
use Rattle.std.proofs.lemmas.Grind.{flat_map-append}
use Rattle.g1_words.specs.declared.fault.Fault.{Fault}
use Rattle.g1_words.specs.declared.fault.Fault.TheVariants.{Line}
use Rattle.g1_words.specs.Geometry.{Geometry}
use Rattle.g1_image.specs.Image.{Image}
use Rattle.g1_image.specs.Cards.{IsTracked}
use Rattle.g1_choose.specs.declared.parameters.Cost.{Cost}
use Rattle.g1_trace.specs.declared.command.Command.{Command}
use Rattle.g1_trace.specs.declared.command.Reply.{Reply}
use Rattle.g1_trace.specs.Store.{Store, IsPlainStep}
use Rattle.g1_trace.specs.Mutator.{IsStep}
use Rattle.g1_trace.specs.Views.{Shows}
use Rattle.g1_trace.specs.Run.{Replies, IsRun, empty_store, empty_image}
use Rattle.g1_trace.specs.Running.{IsHeapSize}
use Rattle.g1_trace.specs.TraceText.{AllFit, numbers_of, command_line, heap_line, IsBadRest, IsFirstBadLine, IsText}
use Rattle.g1_trace.specs.Telling.{reply_line, reply_lines, IsTold, IsRefusal, IsOutsideLimits, BeginsWith, IsBegun, BeginsOutside}
use Rattle.g1_trace.specs.Laws.{OneTold, StartShows, StepShows}
use Rattle.g1_trace.proofs.GoesOn.{append-one}
use Rattle.g1_trace.proofs.Texts.{IsRead, shorter, read_more, read_end, bad_later}
use Rattle.g1_trace.proofs.OneText.{one_first, one_trace}
use Rattle.g1_trace.proofs.OneRun.{one_run}

-- from the start these commands with these replies arrive here: what follows from here on follows from the start, after them
abbrev pub Arrives : {S : Type 0} → (S → Command → Reply → S → Type 0) → S → List Command → List Reply → S → Type 0
Arrives step start commands replies here = (cs : List Command) (rs : List Reply) → Replies step here cs rs → Replies step start (commands ++ cs) (replies ++ rs)

module _ {S : Type 0} (step : S → Command → Reply → S → Type 0) (start : S) where
  arrives_on : (commands : List Command) (replies : List Reply) (here t : S) (c : Command) (r : Reply) → Arrives step start commands replies here →
      step here c r t → Arrives step start (commands ++ c ∷ []) (replies ++ r ∷ []) t
  arrives_on commands replies here t c r f st = λ cs rs m.
      subst (λ xs. Replies step start xs ((replies ++ r ∷ []) ++ rs)) (sym (append-one commands cs c))
      (subst (λ xs. Replies step start (commands ++ (c ∷ cs)) xs) (sym (append-one replies rs r)) (f (c ∷ cs) (r ∷ rs) (t, st, m)))

  arrives_end : (commands : List Command) (replies : List Reply) (here : S) → Arrives step start commands replies here → Replies step start commands replies
  arrives_end commands replies here f = subst (λ xs. Replies step start xs replies) (append-nil commands) (subst (λ xs. Replies step start (commands ++ []) xs) (append-nil replies) (f [] [] tt))

-- so many lines are read, done and answered: this is the image now, and the rest and the text so far
pub record IsSoFar (cost : Cost) (bytes : List ℕ) (i : Image) (rest text : List ℕ) (lines : ℕ) : Type 0 where
  pub sizes : Geometry
  pub roots : ℕ
  pub commands : List Command
  pub replies : List Reply
  pub store : Store
  pub limits : IsHeapSize sizes roots
  pub read : IsRead bytes sizes.w sizes.k sizes.n roots commands rest
  pub count : lines ≡ length commands + 1
  pub few : lines + length rest ≤ length bytes
  pub told : text ≡ reply_lines replies
  pub heap : Arrives (IsStep cost) (empty_image sizes roots) commands replies i
  pub shows : Shows store i.heap
  pub plain : Arrives IsPlainStep (empty_store roots) commands replies store

first_shorter : (bytes line rest : List ℕ) → bytes ≡ (line ++ 10 ∷ []) ++ rest → 1 + length rest ≤ length bytes
first_shorter bytes line rest e = shorter bytes line rest (e ∙ append_assoc line (10 ∷ []) rest)

pub so_far_start : (cost : Cost) (bytes : List ℕ) (i : Image) (rest text : List ℕ) → StartShows → IsBegun bytes i rest → text ≡ [] → IsSoFar cost bytes i rest text 1
so_far_start cost bytes i rest text shows b none = record {
  sizes = b.sizes;
  roots = b.roots;
  commands = [];
  replies = [];
  store = empty_store b.roots;
  limits = b.limits;
  read = record { text = b.begins.text; first = b.begins.first; later = λ k d lt. absurd (omega (arith, lt)) };
  count = refl;
  few = first_shorter bytes (heap_line b.sizes.w b.sizes.k b.sizes.n b.roots) rest b.begins.text;
  told = none;
  heap = subst (λ (j : Image). Arrives (IsStep cost) (empty_image b.sizes b.roots) [] [] j) (sym b.start) (λ cs rs m. m);
  shows = subst (λ (j : Image). Shows (empty_store b.roots) j.heap) (sym b.start) (shows b.sizes b.roots);
  plain = λ cs rs m. m;
}

lines_more : (replies : List Reply) (r : Reply) → reply_lines (replies ++ r ∷ []) ≡ reply_lines replies ++ reply_line r
lines_more replies r = flat_map-append reply_line replies (r ∷ []) ∙ ap (λ xs. reply_lines replies ++ xs) (append-nil (reply_line r))

so_far_on : (cost : Cost) (bytes : List ℕ) (i next : Image) (rest text line left longer : List ℕ) (lines : ℕ) (c : Command) (r : Reply) → IsSoFar cost bytes i rest text lines
    → rest ≡ line ++ 10 ∷ left → line ≡ command_line c → AllFit (numbers_of c) → IsStep cost i c r next →
    ((s : Store) → Shows s i.heap → (t : Store) × IsPlainStep s c r t × Shows t next.heap) → longer ≡ text ++ reply_line r
    → IsSoFar cost bytes next left longer (lines + 1)
so_far_on cost bytes i next rest text line left longer lines c r so e is fits st shows more =
    let plain = shows so.store so.shows in
    let count : length (so.commands ++ c ∷ []) ≡ length so.commands + 1 = length-append so.commands (c ∷ []) in
    let short = shorter rest line left e in
    record {
      sizes = so.sizes;
      roots = so.roots;
      commands = so.commands ++ c ∷ [];
      replies = so.replies ++ r ∷ [];
      store = plain.0;
      limits = so.limits;
      read = read_more bytes so.sizes.w so.sizes.k so.sizes.n so.roots so.commands (so.commands ++ c ∷ []) rest line left c so.read e is fits refl;
      count = omega (arith, count, so.count);
      few = omega (arith, short, so.few);
      told = more ∙ ap (λ xs. xs ++ reply_line r) so.told ∙ sym (lines_more so.replies r);
      heap = arrives_on (IsStep cost) (empty_image so.sizes so.roots) so.commands so.replies i next c r so.heap st;
      shows = plain.2;
      plain = arrives_on IsPlainStep (empty_store so.roots) so.commands so.replies so.store plain.0 c r so.plain plain.1;
    }

-- a line is read, done and answered
pub so_far_answered : (cost : Cost) (bytes : List ℕ) (i next : Image) (rest text left longer : List ℕ) (lines : ℕ) → StepShows → IsTracked i → IsSoFar cost bytes i rest text lines
    → (c : Command) × (r : Reply) × (rest ≡ command_line c ++ 10 ∷ left) × AllFit (numbers_of c) × IsStep cost i c r next × (longer ≡ text ++ reply_line r)
    → IsSoFar cost bytes next left longer (lines + 1)
so_far_answered cost bytes i next rest text left longer lines keeps tracked so (c, r, e, fits, st, more) =
    so_far_on cost bytes i next rest text (command_line c) left longer lines c r so e refl fits st (λ s shows. keeps cost s i c r next tracked shows st) more

pub so_far_end : (cost : Cost) (bytes : List ℕ) (i : Image) (rest text : List ℕ) (lines : ℕ) → IsSoFar cost bytes i rest text lines → length rest ≡ 0 → IsTold cost bytes text
so_far_end cost bytes i rest text lines so e = record {
  sizes = so.sizes;
  roots = so.roots;
  commands = so.commands;
  replies = so.replies;
  text = read_end bytes so.sizes so.roots so.commands rest so.read e;
  limits = so.limits;
  run = record {
    plain = arrives_end IsPlainStep (empty_store so.roots) so.commands so.replies so.store so.plain;
    heap = arrives_end (IsStep cost) (empty_image so.sizes so.roots) so.commands so.replies i so.heap;
  };
  told = so.told;
}

bad_so_far : (cost : Cost) (bytes : List ℕ) (i : Image) (rest text : List ℕ) (lines : ℕ) (so : IsSoFar cost bytes i rest text lines) →
    IsBadRest (length so.commands + 1) rest → IsFirstBadLine bytes (lines + 1)
bad_so_far cost bytes i rest text lines so b =
    let count = so.count in
    bad_later bytes so.sizes.w so.sizes.k so.sizes.n so.roots so.commands rest (lines + 1) so.read (omega (arith, count)) b

-- the next line is the first bad one
pub so_far_refused : (cost : Cost) (bytes : List ℕ) (i : Image) (rest text : List ℕ) (lines : ℕ) (fault : Fault) → IsSoFar cost bytes i rest text lines
    → (fault ≡ Line (lines + 1)) × ((m : ℕ) → IsBadRest (m + 1) rest) → IsRefusal bytes fault
so_far_refused cost bytes i rest text lines fault so (e, bad) = inr (inl (lines + 1, e, bad_so_far cost bytes i rest text lines so (bad (length so.commands))))

-- ---- numbers outside the limits

-- a text that begins outside the limits is outside them
pub text_outside : (bytes : List ℕ) (g : Geometry) (roots : ℕ) (commands : List Command) → BeginsOutside bytes → IsText bytes g roots commands → IsOutsideLimits bytes
text_outside bytes g roots commands b t =
    let s = one_first bytes b.sizes g b.roots roots b.rest (flat_map (λ c. command_line c ++ 10 ∷ []) commands) b.begins.first t.first b.begins.text t.text in
    record {
      sizes = g;
      roots = roots;
      commands = commands;
      text = t;
      outside = λ h. b.outside (subst (λ m. IsHeapSize b.sizes m) (sym s.1) (subst (λ (x : Geometry). IsHeapSize x roots) (sym s.0) h));
    }

pub begins : (bytes line rest : List ℕ) (w k n roots : ℕ) → bytes ≡ line ++ 10 ∷ rest → line ≡ heap_line w k n roots →
    AllFit (w ∷ k ∷ n ∷ roots ∷ []) → BeginsWith bytes (record { w = w; k = k; n = n }) roots rest
begins bytes line rest w k n roots e is fits = record { text = e ∙ ap (λ l. l ++ 10 ∷ rest) is ∙ sym (append_assoc (heap_line w k n roots) (10 ∷ []) rest); first = fits }

-- ---- one text of replies

pub one_told : OneTold
one_told cost bytes answer other p q =
    let s = one_trace bytes p.sizes q.sizes p.roots q.roots p.commands q.commands p.text q.text in
    let same : IsRun cost p.sizes p.roots p.commands q.replies =
    subst (λ (g : Geometry). IsRun cost g p.roots p.commands q.replies) (sym s.0)
    (subst (λ m. IsRun cost q.sizes m p.commands q.replies) (sym s.1) (subst (λ cs. IsRun cost q.sizes q.roots cs q.replies) (sym s.2) q.run)) in
    p.told ∙ ap reply_lines (one_run cost p.sizes p.roots p.commands p.replies q.replies p.run same) ∙ sym q.told
