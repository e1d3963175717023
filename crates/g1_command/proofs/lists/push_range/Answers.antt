use Rattle.std.proofs.Common.{◌≡◌, ◌∙◌, ◌≤◌, ◌+◌, ◌-◌, ◌++◌, ℕ, List, [], ◌∷◌, Bool, true, false, sym, ap, subst, eqb, arith}
use Rattle.std.specs.Bool.{MatchBool}
use Rattle.std.specs.List.{range_with_len, IsDistinct}
use Rattle.std.proofs.lemmas.Bool.{false≢true}
use Rattle.std.proofs.lemmas.List.{append_assoc}
use Rattle.g1_words.specs.Lists.{has}
use Rattle.g1_command.specs.declared.lists.Named.{Named}
use Rattle.g1_command.specs.Lists.{AddsRegions, HasTwice, rising}
use Rattle.g1_command.proofs.Listed.{clash, range_cut, range_more}
use Rattle.g1_command.proofs.lists.push_range.Goals as goal

one_more : (first r : ℕ) (old mid new : List ℕ) → first ≤ r → mid ≡ old ++ range_with_len first (r - first) → new ≡ mid ++ r ∷ [] → new ≡ old ++ range_with_len first (r + 1 - first)
one_more first r old mid new le so_far pushed =
    let at : first + (r - first) ≡ r = omega (arith, le) in
    let count : r - first + 1 ≡ r + 1 - first = omega (arith, le) in
    pushed ∙ ap (λ xs. xs ++ r ∷ []) so_far ∙ append_assoc old (range_with_len first (r - first)) (r ∷ [])
    ∙ ap (λ xs. old ++ xs) (sym (range_more first (r - first) r at)) ∙ ap (λ n. old ++ range_with_len first n) count

-- the next region was not there
next : (first r : ℕ) (old mid new : Named) (b : Bool) → MatchBool b (AddsRegions (r ∷ []) mid new) (has mid.regions.items r ≡ true) → b ≡ true → first ≤ r
    → AddsRegions (range_with_len first (r - first)) old mid → AddsRegions (range_with_len first (r + 1 - first)) old new
next first r old mid new true h e le so_far = (one_more first r old.regions.items mid.regions.items new.regions.items le so_far.0 h.0, h.1)
next first r old mid new false h e le so_far = absurd (false≢true e)

-- it was there
twice : (first r last : ℕ) (old mid new : Named) (b : Bool) → MatchBool b (AddsRegions (r ∷ []) mid new) (has mid.regions.items r ≡ true) → b ≡ false → first ≤ r → r ≤ last
    → AddsRegions (range_with_len first (r - first)) old mid → HasTwice (old.regions.items ++ rising first last)
twice first r last old mid new true h e le inside so_far = absurd (false≢true (sym e))
twice first r last old mid new false there e le inside so_far = λ distinct.
    let at : first + (r - first) ≡ r = omega (arith, le) in
    let count : last + 1 - first ≡ r - first + (last - r + 1) = omega (arith, le, inside) in
    let behind = range_with_len (r + 1) (last - r) in
    let xs = old.regions.items in
    let all : xs ++ rising first last ≡ mid.regions.items ++ r ∷ behind =
    ap (λ n. xs ++ range_with_len first n) count ∙ ap (λ ys. xs ++ ys) (range_cut first (r - first) (last - r) r at)
    ∙ sym (append_assoc xs (range_with_len first (r - first)) (r ∷ behind)) ∙ ap (λ ys. ys ++ r ∷ behind) (sym so_far.0) in
    clash mid.regions.items r behind there (subst (IsDistinct eqb) all distinct)

pub returns-then-not-branch : goal.returns-then-not-branch
returns-then-not-branch c =
    twice c.args.first c.loop-region.region c.args.last c.args.named.now c.loop-region.named c.push_region.new.named c.in_ok-push_region.field-0
    c.in_ok-push_region.ensures c.if-not-branch.true (omega arith) (omega arith) c.loop-region.invariant

pub loop-region-preserved : goal.loop-region-preserved
loop-region-preserved c =
    next c.args.first c.loop-region.region c.args.named.now c.loop-region.named c.push_region.new.named c.in_ok-push_region.field-0
    c.in_ok-push_region.ensures c.if-not-branch.false (omega arith) c.loop-region.invariant

pub returns-else-not-branch : goal.returns-else-not-branch
returns-else-not-branch c =
    let at_last : c.loop-region.region ≡ c.args.last = omega arith in
    subst (λ r. AddsRegions (range_with_len c.args.first (r + 1 - c.args.first)) c.args.named.now c.push_region.new.named) at_last
    (next c.args.first c.loop-region.region c.args.named.now c.loop-region.named c.push_region.new.named c.in_ok-push_region.field-0
    c.in_ok-push_region.ensures c.if-not-branch.false (omega arith) c.loop-region.invariant)
