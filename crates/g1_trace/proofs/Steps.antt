-- One command on an image is one command on the plain store.
use Rattle.std.proofs.Common.{◌≡◌, ℕ, ◌+◌, ◌*◌, ◌^◌, ◌<◌, ◌≤◌, ◌⊎◌, inl, inr, Bool, true, false, cond, [], ◌∷◌, ◌++◌, length, set, replicate, Some, None, Ok, Contains, refl, sym, ◌∙◌, ap, zero}
use Rattle.std.proofs.Common.{subst, arith, ltb, ltb-false}
use Rattle.std.proofs.lemmas.List.{length-map, length-set, length-append}
use Rattle.g1_words.specs.Geometry.{most_words}
use Rattle.g1_words.specs.Heap.{Heap, top, object_at}
use Rattle.g1_words.proofs.Shapes.{built}
use Rattle.g1_image.specs.Image.{Image}
use Rattle.g1_words.specs.Copy.{renamed}
use Rattle.g1_image.specs.Cards.{IsTracked}
use Rattle.g1_choose.specs.declared.parameters.Cost.{Cost}
use Rattle.g1_pause.specs.declared.settings.Choice.TheVariants.{Budget}
use Rattle.g1_pause.specs.Answer.{IsEvacuated}
use Rattle.g1_pause.specs.Follows.{Follows}
use Rattle.g1_pause.proofs.Following.{evacuation_follows}
use Rattle.g1_trace.specs.declared.command.Command.{Command}
use Rattle.g1_trace.specs.declared.command.Reply.{Reply}
use Rattle.g1_trace.specs.Commands.{Effect, Nothing, SetRoot, SetSlot, SetValue, MakeNew, MakePause, Answer, answer_of}
use Rattle.g1_trace.specs.Store.{Store, Stored, object, store_view, store_after, refusals, IsPlainStep}
use Rattle.g1_trace.specs.Mutator.{heap_view, region_for, heap_with, IsEffect, IsStep}
use Rattle.g1_trace.specs.Views.{Seen, SeenWord, Shows, EffectFits}
use Rattle.g1_trace.proofs.Laid.{IsReady}
use Rattle.g1_trace.specs.Laws.{StepShows}
use Rattle.g1_trace.proofs.Views.{renamed_effect, both_seen, answers_agree, answer_fits}
use Rattle.g1_trace.proofs.Effects.{root_set_seen, root_set_same, slot_set_seen, slot_set_same, value_set_seen, value_set_same, made_seen, made_same}
use Rattle.g1_trace.proofs.Stores.{store_root, store_slot, store_value, store_made}
use Rattle.g1_trace.proofs.Images.{image_root, image_slot, image_value, image_made}
use Rattle.g1_trace.proofs.GraphViews.{graph_view, same_view_trans}
use Rattle.g1_trace.proofs.Ready.{built_ready}

module _ (cost : Cost) (s : Store) (i j : Image) (tracked : IsTracked i) (shows : Shows s i.heap) where
  ready : IsReady i.heap
  ready = built_ready i.heap (built i.heap tracked.image.heap)

  Kept : Effect → Reply → Reply → Type 0
  Kept e told reply = ((reply ≡ told) × Shows (store_after s e) j.heap) ⊎ (Contains (refusals e) reply × Shows s j.heap)

  unchanged : (t : Store) → Shows t i.heap → j ≡ i → Shows t j.heap
  unchanged t h e = subst (λ (x : Image). Shows t x.heap) (sym e) h

  in_image : (m : ℕ) → Seen (store_view s) m → Seen (heap_view i.heap) (shows.view.rename m)
  in_image m sm = (both_seen (store_view s) (heap_view i.heap) shows.view m sm).1

  root_kept : (r x : ℕ) → SeenWord (store_view s) x → Shows (store_after s (SetRoot r x)) (record (i.heap) { roots = set i.heap.roots r (renamed shows.view.rename x) })
  root_kept r x w =
      let t : Store = store_after s (SetRoot r x) in
      record {
        numbered = λ m h. shows.numbered m (root_set_seen (store_view s) (store_view t) r x w (store_root s shows.numbered r x) m h);
        view = root_set_same (store_view s) (heap_view i.heap) (store_view t) (heap_view
            (record (i.heap) { roots = set i.heap.roots r (renamed shows.view.rename x) })) r x shows.view w (store_root s shows.numbered r x) (image_root i.heap r (renamed shows.view.rename x));
      }

  slot_kept : (m k x : ℕ) → Seen (store_view s) m → k < length ((store_view s).slots m) → SeenWord (store_view s) x
      → Shows (store_after s (SetSlot m k x)) (record (i.heap) { words = set i.heap.words (shows.view.rename m + 1 + k) (renamed shows.view.rename x) })
  slot_kept m k x sm lt w =
      let t : Store = store_after s (SetSlot m k x) in
      let here : k < length ((heap_view i.heap).slots (shows.view.rename m)) =
      subst (λ n. k < n) (sym (ap length (shows.view.slots m sm) ∙ length-map ((store_view s).slots m) (renamed shows.view.rename))) lt in
      record {
        numbered = λ b h. subst (λ n. b < n) (sym (length-set s.objects m (record {
          slots = set (object s m).slots k x;
          values = (object s m).values;
        }))) (shows.numbered b (slot_set_seen (store_view s) (store_view t) m k x w (store_slot s shows.numbered m k x sm) b h));
        view = slot_set_same (store_view s) (heap_view i.heap) (store_view t) (heap_view
            (record (i.heap) { words = set i.heap.words (shows.view.rename m + 1 + k) (renamed shows.view.rename x) })) m k x shows.view sm w (store_slot s shows.numbered m k x sm)
            (image_slot i.heap ready.laid (shows.view.rename m) (in_image m sm) k (renamed shows.view.rename x) here);
      }

  value_kept : (m k x : ℕ) → Seen (store_view s) m → k < length ((store_view s).values m)
      → Shows (store_after s (SetValue m k x)) (record (i.heap) { words = set i.heap.words (shows.view.rename m + 1 + (object_at i.heap (shows.view.rename m)).refs + k) x })
  value_kept m k x sm lt =
      let t : Store = store_after s (SetValue m k x) in
      let here : k < length ((heap_view i.heap).values (shows.view.rename m)) = subst (λ n. k < n) (sym (ap length (shows.view.values m sm))) lt in
      record {
        numbered = λ b h. subst (λ n. b < n) (sym (length-set s.objects m (record {
          slots = (object s m).slots;
          values = set (object s m).values k x;
        }))) (shows.numbered b (value_set_seen (store_view s) (store_view t) m k x (store_value s shows.numbered m k x sm) b h));
        view = value_set_same (store_view s) (heap_view i.heap) (store_view t)
            (heap_view (record (i.heap) { words = set i.heap.words (shows.view.rename m + 1 + (object_at i.heap (shows.view.rename m)).refs + k) x }))
            m k x shows.view sm (store_value s shows.numbered m k x sm)
            (image_value i.heap ready.laid (shows.view.rename m) (in_image m sm) k x here);
      }

  new_kept : (root refs count r : ℕ) → 1 + refs + count ≤ i.heap.geometry.n * i.heap.geometry.w → region_for i.heap (1 + refs + count) ≡ Some r
      → Shows (store_after s (MakeNew root refs count)) (heap_with i.heap r (1 + refs + count) refs root)
  new_kept root refs count r fits place =
      let t : Store = store_after s (MakeNew root refs count) in
      let h : Heap = i.heap in
      let a : ℕ = r * h.geometry.w + top h r in
      let small : refs < 2 ^ 32 = let x : h.geometry.n * h.geometry.w ≤ most_words = ready.small in omega (arith, x, fits) in
      let made = image_made h (heap_with h r (1 + refs + count) refs root) ready.laid a refs count root (ready.places (1 + refs + count) r (omega arith) fits place) small refl refl in
      let new = store_made s shows.numbered root refs count in
      let e : Stored = record { slots = replicate refs 0; values = replicate count 0 } in
      let longer : length (s.objects ++ e ∷ []) ≡ length s.objects + 1 = length-append s.objects (e ∷ []) in
      record {
        numbered = λ b g. elim (made_seen (store_view s) (store_view t) (length s.objects) root refs count new b g) [
          | inl q ↦ omega (arith, q, longer)
          | inr p ↦ let lt : b < length s.objects = shows.numbered b p in omega (arith, lt, longer)
        ];
        view = made_same (store_view s) (heap_view h) (store_view t) (heap_view (heap_with h r (1 + refs + count) refs root)) (length s.objects) a root refs count shows.view new made;
      }

  place_found : (root refs count r : ℕ) (b : Bool) → ltb (i.heap.geometry.n * i.heap.geometry.w) (1 + refs + count) ≡ b → cond b None (region_for i.heap (1 + refs + count)) ≡ Some r
      → Shows (store_after s (MakeNew root refs count)) (heap_with i.heap r (1 + refs + count) refs root)
  place_found root refs count r true e p = absurd (clash p)
    where
      clash : None ≡ Some r → ⊥
      clash q = cc
  place_found root refs count r false e p = new_kept root refs count r (ltb-false (i.heap.geometry.n * i.heap.geometry.w) (1 + refs + count) e) p

  pause_kept : (b : ℕ) → IsEvacuated cost (Budget b) i (Ok j) → Shows s j.heap
  pause_kept b made =
      let follows : Follows cost (Budget b) i j = evacuation_follows cost (Budget b) i j tracked made in
      record {
        numbered = shows.numbered;
        view = same_view_trans (store_view s) (heap_view i.heap) (heap_view j.heap) shows.view (graph_view i.heap j.heap ready.laid.slots_fit follows.graph);
      }

  effect_kept : (e : Effect) (told reply : Reply) → EffectFits (store_view s) e → IsEffect cost i (renamed_effect shows.view.rename e) told reply j → Kept e told reply
  unfolding Kept
  effect_kept Nothing told reply fits (q, e) = inl (q, unchanged s shows e)
  effect_kept (SetRoot r x) told reply fits (q, e) = inl (q, subst (λ (y : Image). Shows (store_after s (SetRoot r x)) y.heap) (sym e) (root_kept r x fits.1))
  effect_kept (SetSlot m k x) told reply fits (q, e) = inl (q, subst (λ (y : Image). Shows (store_after s (SetSlot m k x)) y.heap) (sym e) (slot_kept m k x fits.0 fits.1 fits.2))
  effect_kept (SetValue m k x) told reply fits (q, e) = inl (q, subst (λ (y : Image). Shows (store_after s (SetValue m k x)) y.heap) (sym e) (value_kept m k x fits.0 fits.1))
  effect_kept (MakeNew root refs count) told reply fits (inl (p, q, e)) = inr ((zero, omega arith, sym q), unchanged s shows e)
  effect_kept (MakeNew root refs count) told reply fits (inr (r, p, q, e)) =
      inl (
        q,
        subst (λ (y : Image). Shows (store_after s (MakeNew root refs count)) y.heap) (sym e)
            (place_found root refs count r (ltb (i.heap.geometry.n * i.heap.geometry.w) (1 + refs + count)) refl p),
      )
  effect_kept (MakePause b) told reply fits (inl (made, q)) = inl (q, pause_kept b made)
  effect_kept (MakePause b) told reply fits (inr (fault, refused, q, e)) = inr ((zero, omega arith, sym q), unchanged s shows e)

  step_kept : (c : Command) (reply : Reply) → IsStep cost i c reply j → (t : Store) × IsPlainStep s c reply t × Shows t j.heap
  unfolding Kept
  step_kept c reply st =
      let a : Answer = answer_of (store_view s) c in
      let told : IsEffect cost i (renamed_effect shows.view.rename a.effect) a.reply reply j =
      subst (λ (x : Answer). IsEffect cost i x.effect x.reply reply j) (answers_agree (store_view s) (heap_view i.heap) shows.view c) st in
      elim (effect_kept a.effect a.reply reply (answer_fits (store_view s) c) told) [
        | inl x ↦ (store_after s a.effect, inl (x.0, refl), x.1)
        | inr x ↦ (s, inr (x.0, refl), x.1)
      ]

pub step_shows : StepShows
step_shows cost s i c reply j tracked shows st = step_kept cost s i j tracked shows c reply st
