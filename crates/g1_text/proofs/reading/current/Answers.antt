use Rattle.std.proofs.Common.{◌≡◌, ◌^◌, ℕ, List, [], inl, inr, get_or, drop, refl, sym, ◌∙◌, ap, subst, arith}
use Rattle.std.specs.Prelude.{Option, Some, None, Ok, codes}
use Rattle.std.proofs.lemmas.Bool.Decides.{when_true, when_false}
use Rattle.g1_text.specs.Forms.{Spells}
use Rattle.g1_text.specs.Short.{NamesRegion}
use Rattle.g1_text.proofs.Fronts.{no_current, current_read}
use Rattle.g1_text.proofs.reading.current.Goals as goal

-- `none`, or digits, behind the word
none_named : (c : Option ℕ) (word : List ℕ) → word ≡ codes "none" → NamesRegion c word → c ≡ None
none_named None word e names = refl
none_named (Some r) word e names = let d = (subst (λ w. Spells (2 ^ 32) r w) e names).0.1.0 in absurd (omega (arith, d))

pub returns-then-take-clause-full : goal.returns-then-take-clause-full
returns-then-take-clause-full c = λ current word names e.
    let first = when_true _ _ c.if-not-take.false c.take.ensures in
    let second = when_true _ _ c.if-take.true c.take-2.ensures in
    let words = sym second ∙ ap (drop 1) (sym first ∙ e) in
    let one = none_named current word (ap (λ ts. get_or ts 0 []) (sym words)) names in
    ((λ t. Ok (sym one t)), ap (drop 1) words)

pub returns-then-not-take-clause-form : goal.returns-then-not-take-clause-form
returns-then-not-take-clause-form c = no_current (when_false _ _ c.if-not-take.true c.take.ensures).0

pub returns-then-take-clause-form : goal.returns-then-take-clause-form
returns-then-take-clause-form c =
    current_read (when_true _ _ c.if-not-take.false c.take.ensures) (codes "none", when_true _ _ c.if-take.true c.take-2.ensures, inl refl)

pub returns-clause-form : goal.returns-clause-form
returns-clause-form c =
    let read = c.in_ok-short_number.ensures.digits in
    current_read (when_true _ _ c.if-not-take.false c.take.ensures) (read.0, sym (when_false _ _ c.if-take.false c.take-2.ensures).0 ∙ read.1, inr (_, read.2))
