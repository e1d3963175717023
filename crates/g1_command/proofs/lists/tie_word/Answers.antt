use Rattle.std.proofs.Common.{[], ◌∷◌, ◌∙◌, ◌++◌, map, ap, subst, sym}
use Rattle.std.proofs.lemmas.List.{map-append}
use Rattle.g1_command.specs.declared.lists.Follows.TheVariants.{Region}
use Rattle.g1_command.specs.Tied.{TiesWord, tied_to_set}
use Rattle.g1_command.proofs.Tied.{value}
use Rattle.g1_command.proofs.lists.tie_word.Goals as goal

pub returns-in_ok-push-in-Region : goal.returns-in_ok-push-in-Region
returns-in_ok-push-in-Region c =
    let old = c.args.tied.now.items in
    let word = c.args.word.now in (
      tied_to_set word ∷ [],
      ap (map (λ w. w.bytes.items)) c.in_ok-push-in-Region.ensures.items ∙ map-append (λ w. w.bytes.items) old (c.in_ok-format-in-Region.field-0 ∷ [])
          ∙ ap (λ t. map (λ w. w.bytes.items) old ++ t ∷ []) c.in_ok-format-in-Region.ensures.ok,
      subst (λ f. TiesWord f word c.args.next.now Region (tied_to_set word ∷ [])) (sym c.in-Region.is) (value word c.args.next.now (sym c.is_list.ensures ∙ c.if-not-is_list.false)),
    )
