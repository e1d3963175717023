-- What the effects of commands may rely on.
use Rattle.std.proofs.Common.{ℕ, ◌+◌, ◌-◌, ◌^◌, ◌<◌, ◌≤◌, length, set, arith}
use Rattle.std.proofs.lemmas.List.FromFn.{length-map-range_with_len}
use Rattle.g1_words.specs.Geometry.{most_words}
use Rattle.g1_words.specs.Heap.{word, object_at}
use Rattle.g1_words.proofs.Shapes.{built}
use Rattle.g1_words.proofs.Standing.{built_is_sound}
use Rattle.g1_image.specs.Image.{Image}
use Rattle.g1_image.specs.Cards.{IsTracked}
use Rattle.g1_trace.specs.Commands.{SetSlot, SetValue}
use Rattle.g1_trace.specs.Mutator.{heap_view, logged, slot_address, value_address, with_words}
use Rattle.g1_trace.specs.Views.{Seen, EffectFits}
use Rattle.g1_trace.proofs.Ready.{built_laid, seen_object}
use Rattle.g1_trace.proofs.Told.{IsNamed}
use Rattle.g1_trace.proofs.KeptTracked.{slot_tracked, value_tracked}

-- what is seen is told by its header
pub seen_named : (i : Image) → IsTracked i → (a : ℕ) → Seen (heap_view i.heap) a → IsNamed i.heap a
seen_named i t a s =
    let laid = built_laid i.heap (built i.heap t.image.heap) in
    let count = t.image.heap.word_count in
    let most = t.image.heap.limits.words_most in
    record { there = seen_object i.heap (built_is_sound i.heap (built i.heap t.image.heap)) a s; refs = laid.slots_fit a s; within = laid.inside a s; small = omega (arith, count, most) }

module _ (i : Image) (t : IsTracked i) (a p x : ℕ) where
  module _ (fits : EffectFits (heap_view i.heap) (SetSlot a p x)) where
    slot_fits : p < (object_at i.heap a).refs
    slot_fits = let len = length-map-range_with_len (word i.heap) (a + 1) (object_at i.heap a).refs in let lt : p < length ((heap_view i.heap).slots a) = fits.1 in omega (arith, lt, len)

    pub slot_inside : slot_address a p < length i.heap.words
    slot_inside = let n = seen_named i t a fits.0 in let f = slot_fits in omega (arith, f, n.refs, n.within)

    pub slot_small : slot_address a p < most_words
    slot_small = let n = seen_named i t a fits.0 in let s = slot_inside in omega (arith, s, n.small)

    pub slot_kept : IsTracked (with_words i (set i.heap.words (slot_address a p) x) (logged i (slot_address a p) x))
    slot_kept = slot_tracked i t a p x fits.0 slot_fits fits.2

  module _ (fits : EffectFits (heap_view i.heap) (SetValue a p x)) where
    value_fits : p < (object_at i.heap a).size - 1 - (object_at i.heap a).refs
    value_fits =
        let len = length-map-range_with_len (word i.heap) (a + 1 + (object_at i.heap a).refs) ((object_at i.heap a).size - 1 - (object_at i.heap a).refs) in
        let lt : p < length ((heap_view i.heap).values a) = fits.1 in omega (arith, lt, len)

    pub value_inside : value_address i.heap a p < length i.heap.words
    value_inside = let n = seen_named i t a fits.0 in let f = value_fits in omega (arith, f, n.refs, n.within)

    pub value_small : length i.heap.words ≤ most_words
    value_small = (seen_named i t a fits.0).small

    pub value_kept : x < 2 ^ 64 → IsTracked (with_words i (set i.heap.words (value_address i.heap a p) x) i.log)
    value_kept small = value_tracked i t a p x fits.0 value_fits small
