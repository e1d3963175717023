use Rattle.std.proofs.Common.{◌≡◌, ℕ, List, [], ◌∷◌, sym, ◌∙◌, ap, subst}
use Rattle.std.specs.Prelude.{None, codes}
use Rattle.std.proofs.lemmas.Result.{MatchResult-weaker, IfOk-weaker}
use Rattle.g1_words.specs.Geometry.{IsWithinBounds}
use Rattle.g1_text.specs.Content.{Content, begun}
use Rattle.g1_text.specs.Short.{BeginsShort, TellsSizes, TellsBehind}
use Rattle.g1_text.specs.Forms.{ImageHeading, Sizes, Labelled, Current, ◌▸◌, HasFront}
use Rattle.g1_text.proofs.Fronts.{begins_with, then_all, sizes_read, same_word}
use Rattle.g1_text.proofs.Spelled.{front_and_rest, behind_word}
use Rattle.g1_text.proofs.Results.{ok_one, not_both, on_ok}
use Rattle.g1_text.specs.FaultLines.{LineNumbers}
use Rattle.g1_text.specs.Drafts.{numbers, numbers_read, with_line}
use Rattle.g1_text.proofs.Numbered.{heap_line}
use Rattle.g1_text.proofs.reading.begin.Goals as goal

-- W, K and N, and the parts behind them
behind_sizes : {first : List ℕ} {words : List (List ℕ)} (c : Content) (b : BeginsShort (first ∷ words) c)
    → (middle : List (List ℕ)) × HasFront (TellsSizes b.geometry.w b.geometry.k b.geometry.n) words middle × TellsBehind b.roots b.dirty b.current middle
behind_sizes {first} c b =
    let sizes = TellsSizes b.geometry.w b.geometry.k b.geometry.n in
    let behind = TellsBehind b.roots b.dirty b.current in
    front_and_rest sizes behind (behind_word (codes "heap") first (sizes ▸ behind) b.line)

pub returns-in_err-told-clause-says : goal.returns-in_err-told-clause-says
returns-in_err-told-clause-says c = λ after b.
    let parts = behind_sizes after b in
    let read = c.sizes.ensures.full b.geometry.w b.geometry.k b.geometry.n parts.0 parts.1 in
    absurd (not_both c.in_err-told.was read.0)

pub returns-in_err-heading-clause-says : goal.returns-in_err-heading-clause-says
returns-in_err-heading-clause-says c = λ after b.
    let parts = behind_sizes after b in
    let read = c.sizes.ensures.full b.geometry.w b.geometry.k b.geometry.n parts.0 parts.1 in
    absurd (not_both c.in_err-heading.was (c.heading.ensures.short b.roots b.dirty b.current (subst (TellsBehind b.roots b.dirty b.current) (sym read.1) parts.2)))

pub returns-in_default-clause-says : goal.returns-in_default-clause-says
returns-in_default-clause-says c = λ after b.
    let parts = behind_sizes after b in
    let read = c.sizes.ensures.full b.geometry.w b.geometry.k b.geometry.n parts.0 parts.1 in
    let sizes = ok_one c.in_ok-told.was read.0 in
    absurd (c.in_default.ensures.err.1 (subst (λ x. IsWithinBounds x.w x.k x.n) (sym sizes) b.limits))

pub returns-clause-says : goal.returns-clause-says
returns-clause-says c = λ after b.
    let parts = behind_sizes after b in
    let read = c.sizes.ensures.full b.geometry.w b.geometry.k b.geometry.n parts.0 parts.1 in
    let sizes = ok_one c.in_ok-told.was read.0 in
    let heading = ok_one c.in_ok-heading.was (c.heading.ensures.short b.roots b.dirty b.current (subst (TellsBehind b.roots b.dirty b.current) (sym read.1) parts.2)) in
    let limits = c.in-Ok.ensures.ok in
    let geometry : c.in-Ok.geometry ≡ b.geometry = λ i. record { w = (limits.0 ∙ ap (λ x. x.w) sizes) i; k = (limits.1 ∙ ap (λ x. x.k) sizes) i; n = (limits.2 ∙ ap (λ x. x.n) sizes) i } in
    let says = (λ i. begun (geometry i) ((heading i).1) ((heading i).0.roots) ((heading i).0.dirty)) ∙ sym b.says in
    MatchResult-weaker c.new.result c.new.ensures.says (λ _ e. e ∙ says) (λ _ m. m)

pub returns-clause-form : goal.returns-clause-form
returns-clause-form c =
    let told = c.in_ok-told.told in
    let g = c.in-Ok.geometry in
    let behind = Labelled (codes "roots") ▸ Labelled (codes "dirty") ▸ Current in
    let sizes = sizes_read g.w g.k g.n told.w told.k told.n c.in-Ok.ensures.ok c.within_limits.ensures c.in_ok-told.ensures.digits in
    on_ok c.new.result
    (subst (λ word. ImageHeading (word ∷ c.args.words)) (sym (same_word c.args.first.now (codes "heap") c.if-ne.ensures))
    (begins_with (codes "heap") (Sizes ▸ behind) c.args.words (then_all Sizes behind sizes c.in_ok-heading.ensures.form)))

pub returns-clause-lines : goal.returns-clause-lines
returns-clause-lines c =
    let first = same_word c.args.first.now (codes "heap") c.if-ne.ensures in
    let line = c.in_ok-heading.ensures.line in
    let adds : LineNumbers = with_line (numbers_read None) c.args.line (c.args.first.now ∷ c.args.words) in
    let one = (λ i. record { headings = line i ∷ []; roots = []; log = []; regions = []; remembered = []; objects = [] }) ∙ sym (heap_line (numbers_read None) c.args.line c.args.words)
    ∙ (λ i. with_line (numbers_read None) c.args.line (sym first i ∷ c.args.words)) in
    IfOk-weaker c.new.result (λ d. numbers d ≡ record { headings = c.in_ok-heading.heading.line ∷ []; roots = []; log = []; regions = []; remembered = []; objects = [] }) (λ d. numbers d ≡ adds) (λ d e. e ∙ one) c.new.ensures.lines
