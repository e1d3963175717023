use Rattle.std.proofs.Common.{◌≡◌, ◌≤◌, ◌<◌, ◌+◌, ◌-◌, ◌++◌, ◌∷◌, [], ℕ, false, length, replicate, sym, ◌∙◌, ap, subst, arith}
use Rattle.std.specs.Prelude.{MatchResult}
use Rattle.g1_words.specs.Geometry.{Geometry}
use Rattle.g1_words.specs.Heap.{free_region}
use Rattle.g1_words.specs.declared.region.Kind.{Kind}
use Rattle.g1_words.specs.declared.region.Kind.TheVariants.{Continuation}
use Rattle.g1_text.specs.declared.expected.Refusal.TheVariants.{Memory}
use Rattle.g1_text.specs.Content.{Content, MayFollow, with_region}
use Rattle.g1_text.specs.Short.{GoesOn, Skips, MaySkip}
use Rattle.g1_text.specs.Drafts.{content}
use Rattle.g1_text.proofs.Results.{ok_one, not_both}
use Rattle.g1_text.proofs.Skipping.{when_is, when_not, goes_geometry, goes_length, skips_length, free_below, no_free, none_between, none_freed, none_beyond, plain_region, region_there}
use Rattle.g1_text.proofs.draft.Draft.begin_region.Goals as goal

pub returns-then-is_continuation-clause-skips : goal.returns-then-is_continuation-clause-skips
returns-then-is_continuation-clause-skips c = λ on free e may skips count lt follows.
    let s = content c.args.self.now in
    let told = c.args.told in
    let is : c.args.kind ≡ Continuation = when_is c.is_continuation.result c.is_continuation.ensures c.if-is_continuation.true in
    let some = subst (MayFollow e) is follows in
    let same = no_free (free_below some skips) skips in
    let goes = subst (GoesOn s on) (sym same) skips.goes_on in
    let first = none_between told on free (subst (λ (k : Kind). MaySkip told k on free) is may) in
    subst (λ (k : Kind). MatchResult c.begin_continuation.result (λ r. (r ≡ length e.regions) × (content c.begin_continuation.new.self ≡ with_region e k)) (λ x. x ≡ Memory)) (sym is)
    (c.begin_continuation.ensures.goes on e first goes count lt some)

-- no humongous object goes on
module _ (s : Content) (on free : ℕ) (e : Content) (k : Kind) (other : k ≡ Continuation → ⊥) (skips : Skips s on free e) (few : length e.regions < s.geometry.n) (follows : MayFollow e k) where
  middle_whole : skips.middle.beyond ≡ 0
  middle_whole = sym (ap (λ (x : Content). x.beyond) skips.adds) ∙ none_beyond e k other follows

  on_few : on ≤ s.geometry.n
  on_few = let l = skips_length s on free e skips in omega (arith, l, few)

  middle_length : length e.regions ≡ length skips.middle.regions + free
  middle_length = let l = skips_length s on free e skips in let m = goes_length s on skips.middle skips.goes_on in omega (arith, l, m)

pub returns-in_err-region-clause-skips : goal.returns-in_err-region-clause-skips
returns-in_err-region-clause-skips c = λ on free e may skips count lt follows.
    let s = content c.args.self.now in
    let told = c.args.told in
    let other = when_not c.is_continuation.result c.is_continuation.ensures c.if-is_continuation.false in
    let middle = c.in_ok-end_run.ensures.goes on skips.middle (on_few s on free e c.args.kind other skips lt follows) skips.goes_on (middle_whole s on free e c.args.kind other skips lt follows) in
    let here = ap (λ (x : Content). length x.regions) middle in
    let n = ap (λ (x : Content). x.geometry.n) middle ∙ ap (λ (g : Geometry). g.n) (goes_geometry s on skips.middle skips.goes_on) in
    let long = middle_length s on free e c.args.kind other skips lt follows in
    absurd (not_both c.in_err-region.was (region_there told (length (content c.end_run.new.self).regions) (length e.regions) c.end_run.new.self.geometry.n c.region_number.result c.region_number.ensures.told c.region_number.ensures.next count
    (λ none. let z = none_freed told c.args.kind on free other may none in omega (arith, z, here, long)) (omega (arith, here, long)) (omega (arith, lt, n))))

pub returns-clause-skips : goal.returns-clause-skips
returns-clause-skips c = λ on free e may skips count lt follows.
    let s = content c.args.self.now in
    let told = c.args.told in
    let other = when_not c.is_continuation.result c.is_continuation.ensures c.if-is_continuation.false in
    let middle = c.in_ok-end_run.ensures.goes on skips.middle (on_few s on free e c.args.kind other skips lt follows) skips.goes_on (middle_whole s on free e c.args.kind other skips lt follows) in
    let old = content c.end_run.new.self in
    let here : length old.regions ≡ length skips.middle.regions = ap (λ (x : Content). length x.regions) middle in
    let n = ap (λ (x : Content). x.geometry.n) middle ∙ ap (λ (g : Geometry). g.n) (goes_geometry s on skips.middle skips.goes_on) in
    let long = middle_length s on free e c.args.kind other skips lt follows in
    let there : c.in_ok-region.region ≡ length e.regions = ok_one c.in_ok-region.was (region_there told (length old.regions) (length e.regions) c.end_run.new.self.geometry.n c.region_number.result c.region_number.ensures.told c.region_number.ensures.next count
    (λ none. let z = none_freed told c.args.kind on free other may none in omega (arith, z, here, long)) (omega (arith, here, long)) (omega (arith, lt, n))) in
    let many : c.in_ok-region.region - length old.regions ≡ free = omega (arith, there, here, long) in
    let freed = c.in_ok-free_up_to.ensures.free (omega (arith, there, here, long)) ∙ (λ i. record (middle i) { regions = (middle i).regions ++ replicate (many i) free_region }) ∙ sym skips.adds in
    (there, c.in_ok-add_empty.ensures.says ∙ ap (λ (x : Content). record x { regions = x.regions ++ record { kind = c.args.kind; top = 0; pinned = false } ∷ [] }) freed ∙ plain_region e c.args.kind other)
