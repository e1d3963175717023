use Rattle.std.proofs.Common.{◌≡◌, ◌++◌, [], ◌∷◌, ℕ, List, length, sym, ◌∙◌, ap, arith}
use Rattle.std.specs.Prelude.{Option, codes}
use Rattle.g1_text.specs.Forms.{Number, Maybe, Single, Denotes, IsReferenceWord, ◌▸◌}
use Rattle.g1_text.specs.Content.{Content, IsCount}
use Rattle.g1_text.specs.Short.{RootAs, IsShortLine, TellsNumber, Gives}
use Rattle.g1_text.specs.Drafts.{content}
use Rattle.g1_text.proofs.Results.{ok_one, not_both}
use Rattle.g1_text.proofs.Shortening.{count_is}
use Rattle.g1_text.proofs.Spelled.{behind_word}
use Rattle.g1_text.proofs.Fronts.{begins_with}
use Rattle.g1_text.proofs.draft.Draft.add_root.Goals as goal

-- the words behind the first one
told : (m : Option ℕ) (x : ℕ) {words : List (List ℕ)} → IsShortLine (RootAs m x) (codes "root" ∷ words) → (TellsNumber m ▸ Single (Denotes x)) words
told m x h = behind_word (codes "root") (codes "root") (TellsNumber m ▸ Single (Denotes x)) h

-- the number is the next one, and the root is added
next_root : (s : Content) (m : Option ℕ) (x : ℕ) (d : Content) (next : ℕ) → next ≡ length s.roots → Gives s (RootAs m x) d → IsCount m next × (record s { roots = s.roots ++ x ∷ [] } ≡ d)
next_root s m x d next e (n, count, takes) = (count_is m n next count (takes.0 ∙ sym e), sym takes.3)

pub returns-in_err-reference-clause-short : goal.returns-in_err-reference-clause-short
returns-in_err-reference-clause-short c = λ m x after h gives.
    let root = next_root (content c.args.self.now) m x after c.len-next.result (omega (arith, c.len-next.ensures)) gives in
    absurd (not_both c.in_err-reference.was (c.root.ensures.short m x root.0 (told m x h)))

pub returns-clause-short : goal.returns-clause-short
returns-clause-short c = λ m x after h gives.
    let s = content c.args.self.now in
    let root = next_root s m x after c.len-next.result (omega (arith, c.len-next.ensures)) gives in
    let same = ok_one c.in_ok-reference.was (c.root.ensures.short m x root.0 (told m x h)) in
    let roots = c.in_ok-push.ensures.items ∙ ap (λ y. s.roots ++ y ∷ []) same in
    (λ i. record s { roots = roots i }) ∙ root.1

pub returns-clause-form : goal.returns-clause-form
returns-clause-form c = begins_with (codes "root") (Maybe Number ▸ Single IsReferenceWord) c.args.words c.in_ok-reference.ensures.form
