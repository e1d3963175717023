-- The value of one of some options is no number, so that of one of more is none.
use Rattle.std.proofs.Common.{[], ◌∷◌, ◌+◌, List, ◌++◌, length, ◌∙◌, arith}
use Rattle.std.specs.List.{Any}
use Rattle.std.proofs.lemmas.List.{length-append, get_or_append_left, get_or-append-add}
use Rattle.std.specs.Prelude.{codes}
use Rattle.clap.specs.Words.{Row}
use Rattle.g1_command.specs.Values.{IsNoNumberOf, cost_options}
use Rattle.g1_answers.specs.Asked.{HasNoNumberOf, number_options, sharing_options}

pub any_before : {X : Type 0} (P : X → Type 0) (xs ys : List X) → Any P xs → Any P (xs ++ ys)
any_before P xs ys a = (a.0, a.1, omega (arith, a.2, length-append xs ys), get_or_append_left xs ys a.1 a.0 a.2 ∙ a.3, a.4)

pub any_behind : {X : Type 0} (P : X → Type 0) (xs ys : List X) → Any P ys → Any P (xs ++ ys)
any_behind P xs ys a = (length xs + a.0, a.1, omega (arith, a.2, length-append xs ys), get_or-append-add xs ys a.0 a.1 ∙ a.3, a.4)

pub wrong_sharing : (rows : List Row) → HasNoNumberOf sharing_options rows → HasNoNumberOf number_options rows
wrong_sharing rows bad = any_before (IsNoNumberOf rows) sharing_options (cost_options ++ codes "budget" ∷ []) bad

pub wrong_cost : (rows : List Row) → HasNoNumberOf cost_options rows → HasNoNumberOf number_options rows
wrong_cost rows bad =
    any_behind (IsNoNumberOf rows) sharing_options (cost_options ++ codes "budget" ∷ []) (any_before (IsNoNumberOf rows) cost_options (codes "budget" ∷ []) bad)
