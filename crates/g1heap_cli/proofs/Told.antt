-- What is reported, from the text that was made for it.
use Rattle.std.proofs.Common.{◌≡◌, ◌++◌, ℕ, List, Result, Ok, Err, refl, sym, subst}
use Rattle.std.specs.Prelude.{IfOk, IfErr}
use Rattle.g1_words.specs.Fault.{status_of}
use Rattle.g1_words.specs.declared.fault.Fault.{Fault}
use Rattle.g1_words.specs.declared.fault.Fault.TheVariants as fault
use Rattle.g1_command.specs.declared.refusal.Refusal.{Refusal}
use Rattle.g1_command.specs.declared.refusal.Refusal.TheVariants as refusal
use Rattle.g1heap_cli.specs.Refusals.{MayBeCause, wrong_line, IsFileText, IsLineText}

module _ {X E : Type 0} (r : Result X E) (items : X → List ℕ) where
  -- the line with this part is a line with some part
  pub some_line : (line : List ℕ → List ℕ) (part : List ℕ) → IfOk r (λ x. items x ≡ line part) → IfOk r (λ x. (some : List ℕ) × items x ≡ line some)
  some_line line part h = at r h
    where
      at : (q : Result X E) → IfOk q (λ x. items x ≡ line part) → IfOk q (λ x. (some : List ℕ) × items x ≡ line some)
      at (Ok x) h = (part, h)
      at (Err e) h = tt

  pub line_text : (file : List ℕ) (number : ℕ) (expected behind : List ℕ) → MayBeCause behind → IfOk r (λ x. items x ≡ wrong_line file number expected behind)
      → IfOk r (λ x. IsLineText file number (items x))
  line_text file number expected behind may h = at r h
    where
      at : (q : Result X E) → IfOk q (λ x. items x ≡ wrong_line file number expected behind) → IfOk q (λ x. IsLineText file number (items x))
      at (Ok x) h = (expected, behind, may, h)
      at (Err e) h = tt

-- what is reported is made of the text, or of a want of memory
pub reported : {X E : Type 0} (Is : Refusal → Type 0) (r : Result X E) (told : X → Refusal) (out : Refusal) → Is (refusal.Fault fault.Memory) → IfOk r (λ x. Is (told x))
    → IfOk r (λ x. out ≡ told x) → IfErr r (λ e. out ≡ refusal.Fault fault.Memory) → Is out
reported Is (Ok x) told out m h p q = subst Is (sym p) h
reported Is (Err e) told out m h p q = subst Is (sym q) m

-- the status beside what holds
pub beside : {X E : Type 0} (r : Result X E) (status : ℕ) (P : X → Type 0) → IfOk r P → IfOk r (λ x. (status ≡ status) × P x)
beside (Ok x) status P h = (refl, h)
beside (Err e) status P h = tt

-- a line behind the text of a file's fault
pub with_graph : {X E : Type 0} (r : Result X E) (items : X → List ℕ) (status : ℕ) (file : List ℕ) (f : Fault) (text line : List ℕ) → (status ≡ status_of f) × IsFileText file f text
    → IfOk r (λ x. items x ≡ text ++ line) → IfOk r (λ x. (status ≡ status_of f) × ((front : List ℕ) × IsFileText file f front × (items x ≡ front ++ line)))
with_graph (Ok x) items status file f text line h e = (h.0, (text, h.1, e))
with_graph (Err e) items status file f text line h p = tt
