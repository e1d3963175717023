use Rattle.std.proofs.Common.{ℕ, List, refl, subst, IfNone, IfSome}
use Rattle.g1_words.specs.Graph.{SameGraph}
use Rattle.g1_same.specs.Stale.{LeadsToStale}
use Rattle.g1_same.specs.Earliest.{IsEarliestOf}
use Rattle.g1_report.proofs.Found.{none_leads, differ_found}
use Rattle.g1_report.proofs.verdict.find_stale.Goals as goal

pub returns-in-None-clause-refused : goal.returns-in-None-clause-refused
returns-in-None-clause-refused c set =
    let g = c.args.before.now in
    let h = c.args.after.now in
    let s = c.words_of-stale.result in (
      refl,
      λ r. (
        subst (λ o. IfNone o (SameGraph g h)) c.in-None.is c.in_ok-compare_stale.ensures.same,
        none_leads g h s.roots.now s.slots.now c.args.strays.now.words.roots.items c.args.strays.now.words.slots.items c.words_of-stale.ensures.roots c.words_of-stale.ensures.slots
            (subst (λ o. IfNone o ((p : List ℕ) (x z : ℕ) → LeadsToStale g h s.roots.now s.slots.now p x z → ⊥)) c.in-None.is c.in_ok-compare_stale.ensures.no_stale),
      ),
    )

pub returns-in-Some-Differ-clause-found : goal.returns-in-Some-Differ-clause-found
returns-in-Some-Differ-clause-found c =
    let g = c.args.before.now in
    let h = c.args.after.now in
    let s = c.words_of-stale.result in
    differ_found g h s.roots.now s.slots.now c.args.strays.now.words.roots.items c.args.strays.now.words.slots.items c.in-Some-Differ.difference
    c.words_of-stale.ensures.roots c.words_of-stale.ensures.slots c.valid.ensures c.never_both.ensures
    (subst (λ e. IsEarliestOf g h s.roots.now s.slots.now e) c.in-Some-Differ.field-0-is
    (subst (λ o. IfSome o (λ e. IsEarliestOf g h s.roots.now s.slots.now e)) c.in-Some-Differ.is c.in_ok-compare_stale.ensures.first))
