use Rattle.std.proofs.Common.{◌≡◌, ◌+◌, ◌-◌, ℕ, zero, suc, List, [], ◌∷◌, ◌++◌, get_or, map, set, refl, sym, ◌∙◌, ap, vec_len, arith}
use Rattle.std.proofs.lemmas.List.{length-map}
use Rattle.g1_text.specs.Content.{Counts}
use Rattle.g1_text.specs.Drafts.{counts_of, line_of_region}
use Rattle.g1_text.proofs.Ends.{last_set}
use Rattle.g1_text.proofs.Gathering.{map_set, map_at}
use Rattle.g1_text.proofs.reading.count_object.Goals as goal

pub returns-in-Some-clause-counts : goal.returns-in-Some-clause-counts
returns-in-Some-clause-counts c = λ earlier q e fits.
    let v = c.args.regions.now in
    let last = c.in-Some.last.now in
    let n = vec_len v in
    let count = length-map v.items counts_of in
    let seen : counts_of last ≡ get_or (map counts_of v.items) (n - 1) (counts_of last) = ap counts_of c.in-Some.ensures.value ∙ sym (map_at counts_of v.items (n - 1) last) in
    let both = last_set (map counts_of v.items) earlier (counts_of last) q n e (v.ok.0 ∙ sym count) seen in
    let found = ap (λ (t : Counts). t.found) both.0 in
    let more : c.saturating_add-last.result ≡ q.found + 1 = omega (arith, c.saturating_add-last.ensures, found, fits) in
    map_set counts_of v.items (n - 1) (record last { found = c.saturating_add-last.result }) ∙ both.1 (record (counts_of last) { found = c.saturating_add-last.result })
    ∙ (λ t. earlier ++ record (both.0 t) { found = more t } ∷ [])

set_same : (xs : List ℕ) (n d : ℕ) → set xs n (get_or xs n d) ≡ xs
set_same [] n d = refl
set_same (x ∷ xs) zero d = refl
set_same (x ∷ xs) (suc n) d = ap (λ ys. x ∷ ys) (set_same xs n d)

pub returns-in-Some-clause-lines : goal.returns-in-Some-clause-lines
returns-in-Some-clause-lines c =
    let items = c.args.regions.now.items in
    let last = c.in-Some.last.now in
    let n = vec_len c.args.regions.now in
    let seen = ap line_of_region c.in-Some.ensures.value ∙ sym (map_at line_of_region items (n - 1) last) in
    map_set line_of_region items (n - 1) (record last { found = c.saturating_add-last.result }) ∙ ap (set (map line_of_region items) (n - 1)) seen
    ∙ set_same (map line_of_region items) (n - 1) last.line
