-- The text of a verdict, by what was found.
use Rattle.std.proofs.Common.{◌≡◌, ℕ, List, [], ◌++◌, length, refl, sym, ◌∙◌, ap, subst, inl, inr}
use Rattle.std.proofs.lemmas.List.{length-map}
use Rattle.g1_same.specs.declared.difference.Difference.{Difference}
use Rattle.g1_same.specs.declared.renaming.Renaming.{Renaming}
use Rattle.g1_same.specs.declared.comparing_stale.StaleEnd.{StaleEnd}
use Rattle.g1_same.specs.Same.{IsRenaming}
use Rattle.g1_words.specs.Heap.{Heap}
use Rattle.g1_kept.specs.declared.lost.Lost.{Lost}
use Rattle.g1_report.specs.declared.reporting.Asked.{Asked}
use Rattle.g1_report.specs.declared.verdict.Finding.{Finding}
use Rattle.g1_report.specs.declared.verdict.Finding.TheVariants.{Differ, Stale}
use Rattle.g1_report.specs.Agreement.{KeepsSet}
use Rattle.g1_report.specs.Finding.{Loses}
use Rattle.g1_report.specs.Taken.{Adds}
use Rattle.g1_report.specs.Wording.{Compared, stale_line, lost_line}
use Rattle.g1_report.specs.Answer.{IsDifferenceLine, IsSameAnswer, IsAnswer, same_text}

-- both lists of a renaming have one length
pub same_length : (g h : Heap) (olds news : List ℕ) → IsRenaming g h olds news → length olds ≡ length news
same_length g h olds news r = sym (ap length r.renames ∙ length-map olds r.same.rename)

-- what was put behind nothing
pub alone : (P : List ℕ → Type 0) (old new : List ℕ) → old ≡ [] → Adds P old new → P new
alone P old new none added = subst P (sym (added.2 ∙ ap (λ xs. xs ++ added.0) none)) added.1

pub behind_none : (old new text : List ℕ) → old ≡ [] → new ≡ old ++ text → new ≡ text
behind_none old new text none e = e ∙ ap (λ xs. xs ++ text) none

pub answer_differ : (s : Compared) (a : Asked) (f : Finding) (d : Difference) (old new : List ℕ) → f ≡ Differ d → old ≡ [] → Adds (IsDifferenceLine s d) old new → IsAnswer s a f 1 new
answer_differ s a f d old new is none added = subst (λ x. IsAnswer s a x 1 new) (sym is) (refl, alone (IsDifferenceLine s d) old new none added)

pub answer_stale : (s : Compared) (a : Asked) (f : Finding) (e : StaleEnd) (old new : List ℕ) → f ≡ Stale e → old ≡ []
    → new ≡ old ++ stale_line s e.root e.slots.items e.before e.word → IsAnswer s a f 1 new
answer_stale s a f e old new is none added =
    subst (λ x. IsAnswer s a x 1 new) (sym is) (refl, behind_none old new (stale_line s e.root e.slots.items e.before e.word) none added)

pub answer_lost : (s : Compared) (a : Asked) (r : Renaming) (l : Lost) (old new : List ℕ) → old ≡ [] → Loses s.before s.after a.set.now a.fill l
    → new ≡ old ++ lost_line l → IsSameAnswer s a r 1 new
answer_lost s a r l old new none loses added = inr (refl, l, loses, behind_none old new (lost_line l) none added)

pub answer_same : (s : Compared) (a : Asked) (r : Renaming) (old new : List ℕ) → old ≡ [] → KeepsSet s.before s.after a.set.now a.fill
    → new ≡ old ++ same_text s a r → IsSameAnswer s a r 0 new
answer_same s a r old new none keeps added = inl (refl, keeps, behind_none old new (same_text s a r) none added)
