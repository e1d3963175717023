use Rattle.std.proofs.Common.{false, sym, ◌∙◌, ap, subst, IfErr}
use Rattle.std.proofs.lemmas.Bool.{false≢true}
use Rattle.g1_text.specs.Content.{Content}
use Rattle.g1_text.specs.Drafts.{AreAsMany, StandsInHeap, content, numbers}
use Rattle.g1_text.specs.Late.{IsLate}
use Rattle.g1_text.proofs.Refusing.{late_beside}
use Rattle.g1_text.proofs.making.finish.Goals as goal
use Rattle.g1_text.proofs.making.finish.Goals.{then-draft+in_ok-cover, else-draft}

pub returns-clause-covered : goal.returns-clause-covered
returns-clause-covered c = λ covered many stands.
    let old = c.args.draft.now in
    elim c.if-draft.branch [
      | then-draft+in_ok-cover w ↦
          late_beside (numbers old) (numbers c.if-draft.draft) (content old) (content c.if-draft.draft) (content w.cover.new.draft).remembered
          (ap numbers w.draft-is ∙ w.in_ok-cover.ensures.lines) (ap content w.draft-is ∙ ap (λ (s : Content). record s { covered = false }) w.in_ok-cover.ensures.kept)
          w.in_ok-cover.ensures.alone w.in_ok-cover.ensures.exact c.check_and_pack.result many stands c.check_and_pack.ensures.late
      | else-draft w ↦ absurd (false≢true (sym w.if-draft.false ∙ covered))
    ]

pub returns-clause-late : goal.returns-clause-late
returns-clause-late c = λ plain many stands.
    elim c.if-draft.branch [
      | then-draft+in_ok-cover w ↦ absurd (false≢true (sym plain ∙ w.if-draft.true))
      | else-draft w ↦
          subst (λ d. AreAsMany (numbers d) (content d) → StandsInHeap (content d) → IfErr c.check_and_pack.result (IsLate (numbers d) (content d)))
          w.draft-is c.check_and_pack.ensures.late many stands
    ]
