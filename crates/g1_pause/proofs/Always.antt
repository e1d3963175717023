-- Bytes always have an answer.
use Rattle.std.proofs.Common.{◌≡◌, ℕ, inl, inr, List, [], ◌∷◌, length, map, filter, Result, Ok, Err, refl}
use Rattle.std.specs.Prelude.{slice_index}
use Rattle.std.proofs.lemmas.Bool.{cases_lt}
use Rattle.g1_words.specs.declared.limits.Limits.{Limits}
use Rattle.g1_words.specs.declared.fault.Fault.{Fault}
use Rattle.g1_words.specs.declared.fault.Fault.TheVariants.{Set, Room, Uncovered}
use Rattle.g1_words.specs.Heap.{Heap, regions}
use Rattle.g1_words.specs.Lists.{has}
use Rattle.g1_words.specs.Live.{IsLiveBytes, bytes_where}
use Rattle.g1_words.specs.Layout.{need, free_regions}
use Rattle.g1_words.specs.Valid.{IsValid}
use Rattle.g1_image.specs.Image.{Image, IsTextWithin, file_of}
use Rattle.g1_image.specs.declared.cursor.Version.TheVariants.{Two}
use Rattle.g1_image.specs.Text.{file_text}
use Rattle.g1_image.specs.Reading.{IsBytes}
use Rattle.g1_image.specs.Cards.{IsTracked, refined, uncovered}
use Rattle.g1_after.specs.Made.{image_paused}
use Rattle.g1_choose.specs.declared.parameters.Cost.{Cost}
use Rattle.g1_mark.specs.Marked.{used}
use Rattle.g1_pause.specs.declared.settings.Choice.{Choice}
use Rattle.g1_pause.specs.declared.settings.Choice.TheVariants.{Budget, Given}
use Rattle.g1_pause.specs.Answer.{IsSetFor, IsEvacuated, bad_set, no_room, done, IsAnswerWithin, unread, not_covered, refused, written}
use Rattle.g1_words.proofs.Sound.{sound}
use Rattle.g1_words.proofs.SurvivorsExist.{survivors_exist}
use Rattle.g1_image.proofs.AlwaysOne.{always_one}
use Rattle.g1_after.proofs.PausedLaws.{pause_exists}
use Rattle.g1_choose.proofs.Naming.{accepted_or_bad}
use Rattle.g1_choose.proofs.OneChoice.{set_exists}
use Rattle.g1_mark.proofs.Counting.{live_counted}
use Rattle.g1_pause.proofs.Following.{evacuation_follows}
use Rattle.g1_pause.proofs.CollectionSets.{set_room}

-- a heap has live bytes
pub live_bytes_exist : (h : Heap) → IsValid h → (lives : List ℕ) × IsLiveBytes h lives
live_bytes_exist h valid =
    let e = survivors_exist h (used h) (sound h valid) in
    (map (bytes_where h (has e.0)) (regions h), live_counted h valid e.0 e.1 (map (bytes_where h (has e.0)) (regions h)) refl)

module _ (cost : Cost) (i : Image) (tracked : IsTracked i) where
  valid : IsValid i.heap
  valid = tracked.image.heap

  -- the pause gives something where there is a set
  with_set : (choice : Choice) (set : List ℕ) → IsSetFor cost i choice set → (x : Result Image Fault) × IsEvacuated cost choice i x
  with_set choice set s =
      let e = survivors_exist i.heap set (sound i.heap valid) in
      elim (cases_lt (length (free_regions i.heap)) (need i.heap e.0)) [
        | inl lt ↦ (Err (Room (need i.heap e.0) (length (free_regions i.heap))), no_room set e.0 s e.1 lt)
        | inr le ↦ (Ok (image_paused i set e.0), done set e.0 s e.1 le (pause_exists i set e.0 valid (set_room cost i choice set e.0 s e.1 le)))
      ]

  pub evacuation_exists : (choice : Choice) → (x : Result Image Fault) × IsEvacuated cost choice i x
  evacuation_exists (Budget b) =
      let lives = live_bytes_exist i.heap valid in
      let set = set_exists cost i.heap (map (refined i) (regions i.heap)) lives.0 (length i.log) b in
      with_set (Budget b) set.0 (lives.0, lives.1, set.1)
  evacuation_exists (Given list) = elim (accepted_or_bad i.heap list.items) [
    | inl good ↦ with_set (Given list) (filter (has list.items) (regions i.heap)) (good, refl)
    | inr bad ↦ (Err (Set (slice_index list.items bad.0)), bad_set (bad.0, bad.1, refl))
  ]

module _ (limits : Limits) (cost : Cost) (choice : Choice) (bytes : List ℕ) where
  told : (i : Image) → IsTextWithin limits bytes i → uncovered i ≡ [] → (x : Result Image Fault) → IsEvacuated cost choice i x → (y : Result (List ℕ) Fault) × IsAnswerWithin limits cost choice bytes y
  told i t c (Err f) e = (Err f, refused t c e)
  told i t c (Ok j) e =
      let after = (evacuation_follows cost choice i j (record { image = t.1.0; covered = c }) e).tracked in
      (Ok (file_text (file_of Two j)), written t c e (after.image, tt, refl))

  of_image : (i : Image) → IsTextWithin limits bytes i → (slots : List ℕ) → uncovered i ≡ slots → (y : Result (List ℕ) Fault) × IsAnswerWithin limits cost choice bytes y
  of_image i t [] c = let e = evacuation_exists cost i (record { image = t.1.0; covered = c }) choice in told i t c e.0 e.1
  of_image i t (p ∷ ps) u = (Err (Uncovered p), not_covered t u)

  pub answer_exists : IsBytes bytes → (y : Result (List ℕ) Fault) × IsAnswerWithin limits cost choice bytes y
  answer_exists are = elim (always_one limits bytes are) [
    | inl t ↦ of_image t.0 t.1 (uncovered t.0) refl
    | inr f ↦ (Err f.0, unread f.1)
  ]
