use Rattle.std.proofs.Common.{ℕ, Bool, not, ◌++◌, ◌∷◌, [], cond, filter, get_or, take, append-nil, ap, sym, ◌∙◌}
use Rattle.std.proofs.lemmas.Bool.Decides.{Decides-eqb}
use Rattle.std.proofs.lemmas.List.{take_all}
use Rattle.std.proofs.lemmas.List.Elements.{filter_more}
use Rattle.std.proofs.lemmas.Slice.Eq.{slice_eq-Decides}
use Rattle.g1_words.specs.Lists.{has}
use Rattle.g1_explain.proofs.Joined.{joined_same, searched_has}
use Rattle.g1_explain.proofs.remembering.joined_cards.Goals as goal
use Rattle.g1_explain.proofs.remembering.joined_cards.Goals.{then-is_err+in_ok-push, else-is_err}

pub returns-then-eq : goal.returns-then-eq
returns-then-eq c = λ rise.
    joined_same c.args.before.now c.args.after.now c.new-joined.result.items
    ((slice_eq-Decides Decides-eqb c.args.before.now c.args.after.now c.eq.result c.eq.ensures).0 c.if-eq.true) c.new-joined.ensures.items

pub loop-card-preserved : goal.loop-card-preserved
loop-card-preserved c = λ rise.
    let keep : ℕ → Bool = λ x. not (has c.args.before.now x) in
    let cards = c.args.after.now in
    let i = c.loop-card.card-index in
    let before = filter keep (take i cards) in
    let more = sym (filter_more keep cards i 0 c.loop-card-test.true) in
    let tells = searched_has c.args.before.now (get_or cards i 0) c.binary_search.result rise c.binary_search.ensures.position in
    elim c.if-is_err.branch [
      | then-is_err+in_ok-push w ↦
          ap (λ v. v.items) w.joined-is ∙ w.in_ok-push.ensures.items ∙ ap (λ l. l ++ get_or cards i 0 ∷ []) (c.loop-card.invariant rise)
          ∙ ap (λ b. before ++ cond b (get_or cards i 0 ∷ []) []) (sym w.if-is_err.true ∙ c.is_err.ensures.value ∙ tells) ∙ more
      | else-is_err w ↦
          ap (λ v. v.items) w.joined-is ∙ c.loop-card.invariant rise ∙ sym (append-nil before)
          ∙ ap (λ b. before ++ cond b (get_or cards i 0 ∷ []) []) (sym w.if-is_err.false ∙ c.is_err.ensures.value ∙ tells) ∙ more
    ]

pub returns : goal.returns
returns c = λ rise. c.loop-card.invariant rise ∙ ap (filter (λ x. not (has c.args.before.now x))) (take_all c.loop-card.card-index c.args.after.now c.loop-card-test.false)
