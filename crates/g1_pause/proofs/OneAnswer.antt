-- A choice has one set, an image one pause, bytes one answer.
use Rattle.std.proofs.Common.{◌≡◌, ℕ, List, [], ◌∷◌, length, map, Result, Ok, Err, sym, ◌∙◌, ap, subst, arith}
use Rattle.std.specs.Prelude.{slice_index}
use Rattle.g1_words.specs.declared.limits.Limits.{Limits}
use Rattle.g1_words.specs.declared.fault.Fault.{Fault}
use Rattle.g1_words.specs.declared.fault.Fault.TheVariants.{Set, Room, Uncovered}
use Rattle.g1_words.specs.Heap.{regions}
use Rattle.g1_words.specs.Survivors.{Survivors, seeds, children}
use Rattle.g1_words.specs.Layout.{need, free_regions}
use Rattle.g1_image.specs.Image.{Image, IsTextIn, IsTextWithin}
use Rattle.g1_image.specs.declared.cursor.Version.TheVariants.{Two}
use Rattle.g1_image.specs.Cards.{IsTracked, Covered, refined, uncovered}
use Rattle.g1_after.specs.Paused.{Paused}
use Rattle.g1_choose.specs.declared.parameters.Cost.{Cost}
use Rattle.g1_choose.specs.Choice.{IsChosen}
use Rattle.g1_pause.specs.declared.settings.Choice.{Choice}
use Rattle.g1_pause.specs.declared.settings.Choice.TheVariants.{Budget, Given}
use Rattle.g1_pause.specs.Answer.{IsSetFor, FaultOfChoice, IsEvacuated, bad_set, no_room, done, IsAnswerWithin, unread, not_covered, refused, written}
use Rattle.g1_words.proofs.Unique.{breadth_first_unique}
use Rattle.g1_words.proofs.LiveBytes.{live_bytes_unique}
use Rattle.g1_after.proofs.PausedLaws.{one_image_after}
use Rattle.g1_image.proofs.OneVerdict.{one_fault}
use Rattle.g1_image.proofs.NoFault.{no_fault}
use Rattle.g1_image.proofs.FileOf.{one_image}
use Rattle.g1_choose.proofs.OneChoice.{one_set}
use Rattle.g1_choose.proofs.Naming.{accepted_not_bad, one_first_bad}

module _ (cost : Cost) (i : Image) where
  pub set_unique : (choice : Choice) (s t : List ℕ) → IsSetFor cost i choice s → IsSetFor cost i choice t → s ≡ t
  set_unique (Budget b) s t x y =
      let e : y.0 ≡ x.0 = live_bytes_unique i.heap y.0 x.0 y.1 x.1 in
      one_set cost i.heap (map (refined i) (regions i.heap)) x.0 (length i.log) b s t x.2
      (subst (λ lives. IsChosen cost i.heap (map (refined i) (regions i.heap)) lives (length i.log) b t) e y.2)
  set_unique (Given list) s t x y = x.1 ∙ sym y.1

  -- two sets for one choice have the same survivors
  same_survivors : (choice : Choice) (s t l m : List ℕ) → IsSetFor cost i choice s → IsSetFor cost i choice t → Survivors i.heap s l → Survivors i.heap t m → l ≡ m
  same_survivors choice s t l m x y a b =
      let e : t ≡ s = set_unique choice t s y x in
      breadth_first_unique (seeds i.heap s) (children i.heap s) l m a (subst (λ u. Survivors i.heap u m) e b)

  module _ (tracked : IsTracked i) where
    -- a choice with a fault has no set
    fault_has_no_set : (choice : Choice) (e : Fault) (s : List ℕ) → FaultOfChoice i.heap choice e → IsSetFor cost i choice s → ⊥
    fault_has_no_set (Budget b) e s bad x = bad
    fault_has_no_set (Given list) e s bad x = accepted_not_bad i.heap list.items bad.0 tracked.image.heap.region_count x.0 bad.1

    -- and no other fault
    one_fault_of_choice : (choice : Choice) (e f : Fault) → FaultOfChoice i.heap choice e → FaultOfChoice i.heap choice f → e ≡ f
    one_fault_of_choice (Budget b) e f p q = absurd p
    one_fault_of_choice (Given list) e f p q = p.2 ∙ ap (λ k. Set (slice_index list.items k)) (one_first_bad i.heap list.items p.0 q.0 p.1 q.1) ∙ sym q.2

    pub evacuated_unique : (choice : Choice) (x y : Result Image Fault) → IsEvacuated cost choice i x → IsEvacuated cost choice i y → x ≡ y
    evacuated_unique choice x y (bad_set {e = e} p) (bad_set {e = f} q) = ap Err (one_fault_of_choice choice e f p q)
    evacuated_unique choice x y (bad_set {e = e} p) (no_room t m g v lt) = absurd (fault_has_no_set choice e t p g)
    evacuated_unique choice x y (bad_set {e = e} p) (done t m g v le mv) = absurd (fault_has_no_set choice e t p g)
    evacuated_unique choice x y (no_room s l a b lt) (bad_set {e = f} q) = absurd (fault_has_no_set choice f s q a)
    evacuated_unique choice x y (no_room s l a b lt) (no_room t m g v lt') =
        ap (λ u. Err (Room (need i.heap u) (length (free_regions i.heap)))) (same_survivors choice s t l m a g b v)
    evacuated_unique choice x y (no_room s l a b lt) (done t m g v le mv) =
        let e : need i.heap l ≡ need i.heap m = ap (need i.heap) (same_survivors choice s t l m a g b v) in absurd (omega arith)
    evacuated_unique choice x y (done s l a b le mv) (bad_set {e = f} q) = absurd (fault_has_no_set choice f s q a)
    evacuated_unique choice x y (done s l a b le mv) (no_room t m g v lt) =
        let e : need i.heap l ≡ need i.heap m = ap (need i.heap) (same_survivors choice s t l m a g b v) in absurd (omega arith)
    evacuated_unique choice x y (done s l {j = j} a b le mv) (done t m {j = j'} g v le' mv') =
        ap Ok (one_image_after i s j j' (l, b, mv) (subst (λ u. Paused i u j') (set_unique choice t s g a) (m, v, mv')))

module _ (limits : Limits) (cost : Cost) (choice : Choice) (bytes : List ℕ) where
  -- an image whose text the bytes are isn't covered where another one has an uncovered slot
  no_cover : (i j : Image) (p : ℕ) (ps : List ℕ) → IsTextWithin limits bytes i → IsTextWithin limits bytes j → uncovered i ≡ p ∷ ps → Covered j → ⊥
  no_cover i j p ps t s u c =
      let lists : (p ∷ ps) ≡ [] = sym u ∙ ap uncovered (one_image limits bytes i j t s) ∙ c in cc

  -- the pause of the one image gives one thing
  one_pause : (i j : Image) (x y : Result Image Fault) → IsTextWithin limits bytes i → IsTextWithin limits bytes j → Covered i → IsEvacuated cost choice i x → IsEvacuated cost choice j y → x ≡ y
  one_pause i j x y t s c e f =
      evacuated_unique cost i (record { image = t.1.0; covered = c }) choice x y e (subst (λ k. IsEvacuated cost choice k y) (one_image limits bytes j i s t) f)

  pub answer_unique : (x y : Result (List ℕ) Fault) → IsAnswerWithin limits cost choice bytes x → IsAnswerWithin limits cost choice bytes y → x ≡ y
  answer_unique x y (unread {f = f} a) (unread {f = g} b) = ap Err (one_fault limits bytes f g a b)
  answer_unique x y (unread {f = f} a) (not_covered {i = i} t u) = absurd (no_fault limits bytes i f t a)
  answer_unique x y (unread {f = f} a) (refused {i = i} t c e) = absurd (no_fault limits bytes i f t a)
  answer_unique x y (unread {f = f} a) (written {i = i} t c e o) = absurd (no_fault limits bytes i f t a)
  answer_unique x y (not_covered {i = i} t u) (unread {f = f} a) = absurd (no_fault limits bytes i f t a)
  answer_unique x y (not_covered {i = i} {p = p} {ps = ps} t u) (not_covered {i = j} {p = q} {ps = qs} s v) =
      let lists : (p ∷ ps) ≡ (q ∷ qs) = sym u ∙ ap uncovered (one_image limits bytes i j t s) ∙ v in
      let first : p ≡ q = cc in
      ap (λ r. Err (Uncovered r)) first
  answer_unique x y (not_covered {i = i} {p = p} {ps = ps} t u) (refused {i = j} s c e) = absurd (no_cover i j p ps t s u c)
  answer_unique x y (not_covered {i = i} {p = p} {ps = ps} t u) (written {i = j} s c e o) = absurd (no_cover i j p ps t s u c)
  answer_unique x y (refused {i = i} t c e) (unread {f = f} a) = absurd (no_fault limits bytes i f t a)
  answer_unique x y (refused {i = j} s c e) (not_covered {i = i} {p = p} {ps = ps} t u) = absurd (no_cover i j p ps t s u c)
  answer_unique x y (refused {i = i} {f = f} t c e) (refused {i = j} {f = g} s d m) =
      let same : Err f ≡ Err g = one_pause i j (Err f) (Err g) t s c e m in let faults : f ≡ g = cc in ap Err faults
  answer_unique x y (refused {i = i} {f = f} t c e) (written {i = j} {j = k} s d m o) =
      let same : Err f ≡ Ok k = one_pause i j (Err f) (Ok k) t s c e m in cc
  answer_unique x y (written {i = i} t c e o) (unread {f = f} a) = absurd (no_fault limits bytes i f t a)
  answer_unique x y (written {i = j} s c e o) (not_covered {i = i} {p = p} {ps = ps} t u) = absurd (no_cover i j p ps t s u c)
  answer_unique x y (written {i = i} {j = k} t c e o) (refused {i = j} {f = g} s d m) =
      let same : Ok k ≡ Err g = one_pause i j (Ok k) (Err g) t s c e m in cc
  answer_unique x y (written {i = i} {j = k} {out = out} t c e o) (written {i = j} {j = m} {out = other} s d n r) =
      let same : Ok k ≡ Ok m = one_pause i j (Ok k) (Ok m) t s c e n in
      let images : k ≡ m = cc in
      ap Ok (o.2 ∙ sym (subst (IsTextIn Two other) (sym images) r).2)
