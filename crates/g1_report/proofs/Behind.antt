-- Lines that are taken one after the other.
use Rattle.std.proofs.Common.{◌≡◌, ℕ, List, [], ◌∷◌, ◌++◌, refl, sym, ◌∙◌, ap, inl, inr, append_assoc}
use Rattle.std.specs.Prelude.{Option, Some, None}
use Rattle.std.specs.Io.KnownBytes.{Appends}
use Rattle.std.proofs.lemmas.List.{append-nil}
use Rattle.std.proofs.lemmas.List.Concat.{flat_map-append}
use Rattle.std.proofs.lemmas.List.Elements.{All-append, All-nil, All-cons}
use Rattle.g1_report.specs.Wording.{Compared}
use Rattle.g1_report.specs.Listed.{AreLines, IsFoundLine, AreCounts, counts_line, TakesLines, TakesAll}

lines_none : (P : List ℕ → Type 0) → AreLines P []
lines_none P = ([], All-nil P, refl)

lines_joined : (P : List ℕ → Type 0) (xs ys : List ℕ) → AreLines P xs → AreLines P ys → AreLines P (xs ++ ys)
lines_joined P xs ys a b =
    (a.0 ++ b.0, All-append P a.0 b.0 a.1 b.1, (λ i. a.2 i ++ b.2 i) ∙ sym (flat_map-append (λ line. line) a.0 b.0))

module _ (s : Compared) where
  -- nothing was taken
  pub takes_none : (old : Option (List ℕ)) → TakesLines s old old []
  takes_none None = tt
  takes_none (Some xs) = ([], lines_none (IsFoundLine s), sym (append-nil xs))

  -- the text alone
  pub takes_text : (old new : Option (List ℕ)) (text : List ℕ) → Appends old new text → TakesLines s old new text
  takes_text None new text a = tt
  takes_text (Some xs) None text a = absurd a
  takes_text (Some xs) (Some ys) text a = ([], lines_none (IsFoundLine s), a ∙ ap (λ zs. xs ++ zs) (sym (append-nil text)))

  -- one line
  pub takes_line : (old new : Option (List ℕ)) (line : List ℕ) → IsFoundLine s line → Appends old new line → TakesLines s old new []
  takes_line None new line p a = tt
  takes_line (Some xs) None line p a = absurd a
  takes_line (Some xs) (Some ys) line p a = (line, (line ∷ [], All-cons (IsFoundLine s) line [] p (All-nil (IsFoundLine s)), sym (append-nil line)), a)

  -- and more behind them
  pub takes_on : (old now new : Option (List ℕ)) (text : List ℕ) → TakesLines s old now text → TakesLines s now new [] → TakesLines s old new text
  takes_on None now new text f a = tt
  takes_on (Some xs) None new text f a = absurd f
  takes_on (Some xs) (Some ys) None text f a = absurd a
  takes_on (Some xs) (Some ys) (Some zs) text f a =
      (f.0 ++ a.0, lines_joined (IsFoundLine s) f.0 a.0 f.1 a.1, a.2 ∙ ap (λ w. w ++ a.0) f.2 ∙ simp append_assoc)

  -- the reader went away
  pub takes_no_end : (old new : Option (List ℕ)) (text : List ℕ) → TakesLines s old new text → TakesAll s old new text
  takes_no_end None new text f = tt
  takes_no_end (Some xs) None text f = absurd f
  takes_no_end (Some xs) (Some ys) text f =
      (f.0, f.1, [], inl refl, f.2 ∙ ap (λ zs. xs ++ (text ++ zs)) (sym (append-nil f.0)))

  -- the line of numbers is the last one
  pub takes_end : (old now new : Option (List ℕ)) (text end : List ℕ) (counts : List ℕ) → TakesLines s old now text → AreCounts s counts → end ≡ counts_line counts → Appends now new end → TakesAll s old new text
  takes_end None now new text end counts f are e a = tt
  takes_end (Some xs) None new text end counts f are e a = absurd f
  takes_end (Some xs) (Some ys) None text end counts f are e a = absurd a
  takes_end (Some xs) (Some ys) (Some zs) text end counts f are e a =
      (f.0, f.1, end, inr (counts, are, e), a ∙ ap (λ w. w ++ end) f.2 ∙ simp append_assoc)
