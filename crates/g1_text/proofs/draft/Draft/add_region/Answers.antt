use Rattle.std.proofs.Common.{◌≡◌, ◌<◌, ℕ, Bool, false, refl, List, [], ◌∷◌, ◌++◌, length, map, sym, ◌∙◌, ap, subst}
use Rattle.std.specs.Prelude.{Option, codes}
use Rattle.g1_words.specs.declared.region.Kind.{Kind}
use Rattle.std.proofs.lemmas.Result.{err_from_is_err_and}
use Rattle.g1_words.specs.Kind.{kind_word}
use Rattle.g1_text.specs.Lines.{pinned_words}
use Rattle.g1_text.specs.Content.{Content, IsCount, MayFollow, words_beyond, with_region}
use Rattle.g1_text.specs.Drafts.{content, counts_of}
use Rattle.g1_text.specs.Short.{RegionAs, Gives, Skips, MaySkip, IsShortLine, TellsNumber, TellsCounts, TellsPinned}
use Rattle.g1_text.proofs.Results.{ok_one, not_both}
use Rattle.g1_text.proofs.Gathering.{map_push}
use Rattle.g1_text.proofs.Shortening.{kind_no_number}
use Rattle.g1_text.proofs.Skipping.{skips_geometry}
use Rattle.g1_words.specs.Geometry.{Geometry}
use Rattle.g1_text.proofs.Spelled.{front_and_rest, behind_word, word_front, moved, number_told}
use Rattle.g1_text.specs.Forms.{Number, Maybe, Word, Labelled, Pinned, KindAndCounts, ◌▸◌, HasFront}
use Rattle.g1_text.proofs.Fronts.{begins_with, then_all, maybe_number, three_then}
use Rattle.g1_text.proofs.draft.Draft.add_region.Goals as goal

-- the number, the kind, and what stands behind it
told : (r : Option ℕ) (k : Kind) (t o m : Option ℕ) (p : Bool) {words : List (List ℕ)} → IsShortLine (RegionAs r k t o m p) (codes "region" ∷ words)
    → (middle last : List (List ℕ)) × HasFront (TellsNumber r) words middle × (middle ≡ kind_word k ∷ last) × HasFront (TellsCounts t o m) last (pinned_words p)
told r k t o m p h =
    let behind = TellsCounts t o m ▸ TellsPinned p in
    let one = front_and_rest (TellsNumber r) (Word (kind_word k) ▸ behind) (behind_word (codes "region") (codes "region") (TellsNumber r ▸ Word (kind_word k) ▸ behind) h) in
    let two = front_and_rest (Word (kind_word k)) behind one.2 in
    let three = front_and_rest (TellsCounts t o m) (TellsPinned p) two.2 in
    (one.0, two.0, one.1, word_front (kind_word k) two.1, subst (HasFront (TellsCounts t o m) two.0) three.2 three.1)

-- the regions that the line skips, with the kind and the number that were read
record Skipped (told : Option ℕ) (kind : Kind) (s : Content) : Type 0 where
  on : ℕ
  free : ℕ
  below : Content
  may : MaySkip told kind on free
  skips : Skips s on free below
  count : IsCount told (length below.regions)
  few : length below.regions < s.geometry.n
  follows : MayFollow below kind

skipped : (r : Option ℕ) (k : Kind) (t o m : Option ℕ) (p : Bool) (s after : Content) {told : Option ℕ} {kind : Kind} (gives : Gives s (RegionAs r k t o m p) after) → kind ≡ k → told ≡ r → Skipped told kind s
skipped r k t o m p s after {told} {kind} gives same number = record {
  on = gives.0;
  free = gives.1;
  below = gives.2;
  may = subst (λ x. MaySkip x kind gives.0 gives.1) (sym number) (subst (λ x. MaySkip r x gives.0 gives.1) (sym same) gives.3);
  skips = gives.4;
  count = subst (λ x. IsCount x (length gives.2.regions)) (sym number) gives.5;
  few = subst (λ (g : Geometry). length gives.2.regions < g.n) (skips_geometry s gives.0 gives.1 gives.2 gives.4) gives.6;
  follows = subst (MayFollow gives.2) (sym same) gives.7;
}

pub returns-in_err-kind-clause-short : goal.returns-in_err-kind-clause-short
returns-in_err-kind-clause-short c = λ r k t o m p after e gives.
    let parts = told r k t o m p e in
    let number = number_told r (kind_word k) c.args.words c.take_number-told.new.self parts.0 parts.1 _ c.take_number-told.result
    c.take_number-told.ensures.full c.take_number-told.ensures.digits (kind_no_number k) parts.2 parts.3 in
    let kind = c.region_kind.ensures.full k parts.1 number.1 in
    absurd (not_both c.in_err-kind.was kind.0)

pub returns-in_err-region-clause-short : goal.returns-in_err-region-clause-short
returns-in_err-region-clause-short c = λ r k t o m p after e gives.
    let parts = told r k t o m p e in
    let number = number_told r (kind_word k) c.args.words c.take_number-told.new.self parts.0 parts.1 _ c.take_number-told.result
    c.take_number-told.ensures.full c.take_number-told.ensures.digits (kind_no_number k) parts.2 parts.3 in
    let kind = c.region_kind.ensures.full k parts.1 number.1 in
    let same = ok_one c.in_ok-kind.was kind.0 in
    let left = err_from_is_err_and c.from_residual-in_err-region.result c.from_residual-in_err-region.ensures.1 in
    let x = skipped r k t o m p (content c.args.self.now) after gives same number.0 in
    rw (left.1, left.2) (c.in_err-region.ensures.skips x.on x.free x.below x.may x.skips x.count x.few x.follows)

pub returns-in_err-told-clause-short : goal.returns-in_err-told-clause-short
returns-in_err-told-clause-short c = λ r k t o m p after e gives.
    let parts = told r k t o m p e in
    let number = number_told r (kind_word k) c.args.words c.take_number-told.new.self parts.0 parts.1 _ c.take_number-told.result
    c.take_number-told.ensures.full c.take_number-told.ensures.digits (kind_no_number k) parts.2 parts.3 in
    let kind = c.region_kind.ensures.full k parts.1 number.1 in
    let counts = c.read_counts.ensures.short t o m p (moved kind.1 parts.4) in
    absurd (not_both c.in_err-told.was counts.0)

pub returns-in_err-pinned-clause-short : goal.returns-in_err-pinned-clause-short
returns-in_err-pinned-clause-short c = λ r k t o m p after e gives.
    let parts = told r k t o m p e in
    let number = number_told r (kind_word k) c.args.words c.take_number-told.new.self parts.0 parts.1 _ c.take_number-told.result
    c.take_number-told.ensures.full c.take_number-told.ensures.digits (kind_no_number k) parts.2 parts.3 in
    let kind = c.region_kind.ensures.full k parts.1 number.1 in
    let same = ok_one c.in_ok-kind.was kind.0 in
    let counts = c.read_counts.ensures.short t o m p (moved kind.1 parts.4) in
    absurd (not_both c.in_err-pinned.was (c.is_pinned.ensures.full p (λ is. same ∙ gives.8 is) counts.1))

pub returns-clause-short : goal.returns-clause-short
unfolding skipped
returns-clause-short c = λ r k t o m p after e gives.
    let s = gives.2 in
    let parts = told r k t o m p e in
    let number = number_told r (kind_word k) c.args.words c.take_number-told.new.self parts.0 parts.1 _ c.take_number-told.result
    c.take_number-told.ensures.full c.take_number-told.ensures.digits (kind_no_number k) parts.2 parts.3 in
    let kind = c.region_kind.ensures.full k parts.1 number.1 in
    let same = ok_one c.in_ok-kind.was kind.0 in
    let counts = c.read_counts.ensures.short t o m p (moved kind.1 parts.4) in
    let told = ok_one c.in_ok-told.was counts.0 in
    let pinned = ok_one c.in_ok-pinned.was (c.is_pinned.ensures.full p (λ is. same ∙ gives.8 is) counts.1) in
    let x = skipped r k t o m p (content c.args.self.now) after gives same number.0 in
    let begun = c.in_ok-region.ensures.skips x.on x.free x.below x.may x.skips x.count x.few x.follows in
    let whole = begun.1 ∙ ap (with_region s) same in
    let old = c.begin_region.new.self in
    let regions = ap (λ (x : Content). x.regions) whole in
    let pins = c.set_pinned.ensures s.regions (record { kind = k; top = words_beyond s k; pinned = false }) regions in
    let flags = pins ∙ ap (λ q. s.regions ++ record { kind = k; top = words_beyond s k; pinned = q } ∷ []) pinned in
    let lines = ap (λ (x : Content). x.counts) whole in
    let more = ap (map counts_of) c.in_ok-push.ensures.items ∙ map_push counts_of old.lines.regions.items c.in_ok-told.told ∙ (λ i. lines i ++ counts_of (told i) ∷ [])
    ∙ ap (λ n. s.counts ++ record { region = n; top = t; objects = o; cards = m; found = 0 } ∷ []) begun.0 in
    (λ i. record (whole i) { regions = flags i; counts = more i }) ∙ sym gives.9

pub returns-clause-form : goal.returns-clause-form
returns-clause-form c =
    let kind = c.in_ok-kind.kind in
    let top = Labelled (codes "top") in
    let objects = Labelled (codes "objects") in
    let cards = Labelled (codes "cards") in
    begins_with (codes "region") (Maybe Number ▸ KindAndCounts) c.args.words
    (then_all (Maybe Number) KindAndCounts (maybe_number c.take_number-told.result _ c.take_number-told.ensures.digits)
    (kind, (kind_word kind ∷ [], c.region_kind.new.words, c.in_ok-kind.ensures.form, refl, three_then top objects cards (Pinned kind) c.in_ok-told.ensures.form c.in_ok-pinned.ensures.form)))
