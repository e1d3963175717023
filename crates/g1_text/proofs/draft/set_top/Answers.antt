use Rattle.std.proofs.Common.{[], ◌∷◌, ◌++◌, ◌∙◌, ap, vec_len}
use Rattle.g1_words.specs.declared.region.Region.{Region}
use Rattle.g1_text.proofs.Ends.{last_set}
use Rattle.g1_text.proofs.draft.set_top.Goals as goal

pub returns-in-Some : goal.returns-in-Some
returns-in-Some c = λ below q e.
    let v = c.args.regions.now in
    let last = c.in-Some.last.now in
    let both = last_set v.items below last q (vec_len v) e v.ok.0 c.in-Some.ensures.value in
    both.1 (record { kind = last.kind; top = c.args.top; pinned = last.pinned })
    ∙ ap (λ (r : Region). below ++ record { kind = r.kind; top = c.args.top; pinned = r.pinned } ∷ []) both.0
