-- The objects that moved.
use Rattle.std.proofs.Common.{◌≡◌, ◌∙◌, ◌<◌, ◌==◌, ℕ, true, false, true≢false, List, [], ◌∷◌, Some, None, length, slice_index, Contains, refl, sym, ap, subst, arith, eqb-true}
use Rattle.std.proofs.lemmas.List.{get_or-map}
use Rattle.std.proofs.lemmas.List.Elements.{Contains-get_or}
use Rattle.g1_words.specs.Heap.{Heap, objects, object_at}
use Rattle.g1_words.specs.Valid.{IsValid}
use Rattle.g1_words.specs.Live.{Live}
use Rattle.g1_same.specs.Same.{IsRenaming}
use Rattle.g1_same.proofs.Heaps.{live_object}
use Rattle.g1_report.specs.Wording.{note_of}

-- each pair of a renaming is an object before and one after
module _ (g h : Heap) (olds news : List ℕ) (r : IsRenaming g h olds news) (n : ℕ) (lt : n < length olds) where
  reached : Live g (slice_index olds n)
  reached = (r.found.reached (slice_index olds n)).0 (Contains-get_or olds n 0 lt)

  pub old_there : IsValid g → Contains (objects g) (object_at g (slice_index olds n))
  old_there valid = live_object g (slice_index olds n) valid reached

  pub new_there : Contains (objects h) (object_at h (slice_index news n))
  new_there =
      let at : slice_index news n ≡ r.same.rename (slice_index olds n) = ap (λ l. slice_index l n) r.renames ∙ get_or-map r.same.rename olds n 0 0 lt in
      subst (λ b. Contains (objects h) (object_at h b)) (sym at) (r.same.stands (slice_index olds n) reached)

-- a note that is not empty is an identifier
pub some_note : (note : List ℕ) → (length note == 0) ≡ false → Some note ≡ note_of note
some_note [] is = absurd (true≢false is)
some_note (c ∷ cs) is = refl

pub no_note : (note : List ℕ) → (length note == 0) ≡ true → None ≡ note_of note
no_note [] is = refl
no_note (c ∷ cs) is = absurd (omega (arith, eqb-true (length (c ∷ cs)) 0 is))
