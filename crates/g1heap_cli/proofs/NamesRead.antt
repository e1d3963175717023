-- The names of a program, from the files that were read.
use Rattle.std.proofs.Common.{◌≡◌, ◌⊎◌, inl, inr, ℕ, List, Result, Ok, Err, ap, sym, subst}
use Rattle.std.specs.Prelude.{Option, Some, None, String, option_map, option_copied, IfOk, IfErr}
use Rattle.std.specs.Borrow.{Bor}
use Rattle.g1_words.specs.Heap.{Heap}
use Rattle.g1_command.specs.declared.refusal.Refusal.{Refusal}
use Rattle.g1_report.specs.declared.names.Names.{Names}
use Rattle.g1_report.specs.Wording.{Called}
use Rattle.g1_report.specs.Program.{ProgramNames, program_of, names_told, labels_told, text_lines}
use Rattle.g1_report.specs.Given.{listed}
use Rattle.g1heap_cli.specs.Streams.{LeavesBehind, LeavesBehindAny}
use Rattle.g1heap_cli.specs.Named.{ObjectNames, RefusesNamesOf, RefusesNamesGiven, AreNamesOfFile, AreLinesNamed, IsTextNamed, MayBeNamed}

-- the names of objects that were lent are those that were there
pub told_listed : (labels : Option (Bor Called)) (o : Option Called) → listed labels ≡ o → labels_told labels ≡ option_map text_lines o
told_listed None o e = ap (option_map text_lines) e
told_listed (Some names) o e = ap (option_map text_lines) e

-- so are those of a program
pub told_lent : (lent : Option (Bor Names)) (o : Option Names) → option_copied lent ≡ o → names_told lent ≡ option_map program_of o
told_lent None o e = ap (option_map program_of) e
told_lent (Some names) o e = ap (option_map program_of) e

-- of a file that is given
module _ {Z : Type 0} (file : Option (String Z)) (f : String Z) (name : List ℕ) (left : Option (List ℕ)) (is : file ≡ Some f) (same : name ≡ f.bytes.items) where
  pub given_left : (rest : Option (List ℕ)) → LeavesBehind name left rest → LeavesBehindAny file left rest
  given_left rest h = subst (λ (o : Option (String Z)). LeavesBehindAny o left rest) (sym is) (subst (λ n. LeavesBehind n left rest) same h)

  pub given_refused : (labels : ObjectNames) (r : Refusal) → RefusesNamesOf name left labels r → RefusesNamesGiven file left labels r
  given_refused labels r h = subst (λ (o : Option (String Z)). RefusesNamesGiven o left labels r) (sym is) (subst (λ n. RefusesNamesOf n left labels r) same h)

  pub given_named : (h : Heap) (Is : List ℕ → Type 0) (text : List ℕ) → IsTextNamed name left h Is text → MayBeNamed file left h Is text
  given_named h Is text t = subst (λ (o : Option (String Z)). MayBeNamed o left h Is text) (sym is) (subst (λ n. IsTextNamed n left h Is text) same t)

  -- that of the file, or another refusal
  pub given_or : {X : Type 0} (A B : Refusal → Type 0) (r : Result X Refusal) → IfErr r (λ e. A e ⊎ RefusesNamesOf name left None e ⊎ B e)
      → IfErr r (λ e. A e ⊎ RefusesNamesGiven file left None e ⊎ B e)
  given_or A B (Ok x) h = tt
  given_or A B (Err e) (inl a) = inl a
  given_or A B (Err e) (inr (inl of)) = inr (inl (given_refused None e of))
  given_or A B (Err e) (inr (inr b)) = inr (inr b)

-- a refusal that is of no names
pub not_names : {A B : Type 0} (N : Type 0) → A ⊎ B → A ⊎ N ⊎ B
not_names N (inl a) = inl a
not_names N (inr b) = inr (inr b)

-- no file is given
pub plain_named : {Z X E : Type 0} (file : Option (String Z)) (left : Option (List ℕ)) (h : Heap) (Is : X → List ℕ → Type 0) (r : Result X E) (text : X → List ℕ) → file ≡ None
    → IfOk r (λ x. Is x (text x)) → IfOk r (λ x. MayBeNamed file left h (Is x) (text x))
plain_named {Z} file left h Is (Ok x) text none said = subst (λ (o : Option (String Z)). MayBeNamed o left h (Is x) (text x)) (sym none) said
plain_named file left h Is (Err e) text none said = tt

-- lines of an image with names behind them, which a copy of it gave
pub text_named : (name : List ℕ) (left : Option (List ℕ)) (p : ProgramNames) (h g : Heap) (Is : List ℕ → Type 0) (lines lent text : List ℕ) → AreNamesOfFile name left None p → Is lines
    → g ≡ h → lent ≡ lines → AreLinesNamed p g lent text → IsTextNamed name left h Is text
text_named name left p h g Is lines lent text names said copy same noted =
    (lines, p, said, names, subst (λ (x : Heap). AreLinesNamed p x lines text) copy (subst (λ l. AreLinesNamed p g l text) same noted))
