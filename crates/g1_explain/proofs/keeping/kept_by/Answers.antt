use Rattle.std.proofs.Common.{◌≡◌, ◌∙◌, ◌∷◌, List, ap, get_or}
use Rattle.g1_explain.specs.declared.paths.Leg.{Leg}
use Rattle.g1_explain.proofs.keeping.kept_by.Goals as goal

first_leg : (xs rest : List Leg) (d x y : Leg) → x ≡ get_or xs 0 d → xs ≡ y ∷ rest → x ≡ y
first_leg xs rest d x y e f = e ∙ ap (λ l. get_or l 0 d) f

pub entry_of-entry-requires : goal.entry_of-entry-requires
entry_of-entry-requires c = (c.requires.slot, ap (λ (l : Leg). l.finder) (first_leg _ _ _ _ _ c.index.ensures c.requires.first), c.requires.there)
