-- The words of an object are those in memory.
use Rattle.std.proofs.Common.{◌≡◌, ℕ, ◌+◌, ◌<◌, ◌≤◌, List, Contains, sym, ap, subst, ◌∙◌, arith}
use Rattle.std.specs.Prelude.{slice_range}
use Rattle.g1_words.specs.Heap.{Heap, objects, object_at}
use Rattle.g1_words.specs.Header.{header}
use Rattle.g1_words.specs.Valid.{IsValid}
use Rattle.g1_words.specs.Words.{AreLaid}
use Rattle.g1_words.specs.declared.object.Object.{Object}
use Rattle.g1_words.proofs.LaidObjects.{object_laid}
use Rattle.g1_report.specs.Program.{words_at}

module _ (h : Heap) (items laid : List ℕ) (n at : ℕ) (o : Object) (same : items ≡ h.words) (is : o ≡ header items at) where
  header_is : o ≡ object_at h at
  header_is = is ∙ ap (λ w. header w at) same

  pub words_are : (slots datas : List ℕ) → ((a b : ℕ) → b ≤ n → slice_range laid a b ≡ slice_range items a b)
      → slots ≡ slice_range laid (o.at + 1) (o.at + 1 + o.refs) → datas ≡ slice_range laid (o.at + 1 + o.refs) (o.at + o.size)
      → o.refs < o.size → o.at + o.size ≤ n → record { at = at; slots = slots; data_words = datas } ≡ words_at h at
  words_are slots datas range p q less le =
      let a = p ∙ range (o.at + 1) (o.at + 1 + o.refs) (omega (arith, less, le)) ∙ ap (λ w. slice_range w (o.at + 1) (o.at + 1 + o.refs)) same
      ∙ ap (λ (o : Object). slice_range h.words (o.at + 1) (o.at + 1 + o.refs)) header_is in
      let b = q ∙ range (o.at + 1 + o.refs) (o.at + o.size) le ∙ ap (λ w. slice_range w (o.at + 1 + o.refs) (o.at + o.size)) same
      ∙ ap (λ (o : Object). slice_range h.words (o.at + 1 + o.refs) (o.at + o.size)) header_is in
      λ i. record { at = at; slots = a i; data_words = b i }

  pub object_fits : IsValid h → AreLaid h.geometry.w h.regions n → Contains (objects h) (object_at h at) → (o.refs < o.size) × (o.at + o.size ≤ n)
  object_fits valid are c = subst (λ (o : Object). (o.refs < o.size) × (o.at + o.size ≤ n)) (sym header_is) (object_laid h n (object_at h at) valid are c)
