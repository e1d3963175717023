use Rattle.std.proofs.Common.{◌≡◌, ◌≢◌, ℕ, Bool, true, List, [], ◌∷◌, refl}
use Rattle.std.specs.Prelude.{MatchBool, Ok}
use Rattle.std.proofs.lemmas.Bool.Decides.{when_true}
use Rattle.g1_text.specs.Forms.{Denotes}
use Rattle.g1_text.proofs.Spelled.{first_ok, denotes_one}
use Rattle.g1_text.proofs.words.Words.reference.Goals as goal

taken : (r : Bool) (now left : List (List ℕ)) → r ≡ true → MatchBool r (now ≡ (45 ∷ []) ∷ left) ((left ≡ now) × ((rest : List (List ℕ)) → now ≢ (45 ∷ []) ∷ rest)) → now ≡ (45 ∷ []) ∷ left
taken r now left t m = when_true (now ≡ (45 ∷ []) ∷ left) ((left ≡ now) × ((rest : List (List ℕ)) → now ≢ (45 ∷ []) ∷ rest)) t m

pub returns-then-take-clause-digits : goal.returns-then-take-clause-digits
returns-then-take-clause-digits c = (45 ∷ [], taken c.take.result c.args.self.now c.take.new.self c.if-take.true c.take.ensures, refl)

pub returns-then-take-clause-full : goal.returns-then-take-clause-full
returns-then-take-clause-full c = λ x word rest says e. first_ok Denotes denotes_one x word c.args.self.now c.take.new.self rest says e (Ok 0) (returns-then-take-clause-digits c)
