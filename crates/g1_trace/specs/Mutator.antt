-- The same commands on an image: objects have addresses, a new one needs a place, writes are logged, and a pause is made.
use Rattle.std.specs.Prelude.{◌≡◌, ◌⊎◌, ℕ, zero, suc, Bool, false, ◌&&◌, ◌||◌, List, [], ◌∷◌, ◌++◌, ◌+◌, ◌-◌, ◌*◌, ◌/◌, ◌^◌, min, map, find, slice_set, Option, Some, None, nat_lt, nat_le}
use Rattle.std.specs.Prelude.{◌==◌, if◌then◌else◌}
use Rattle.std.specs.Prelude.{Ok as Done, Err as Refused}
use Rattle.std.specs.List.{range_with_len, list_all}
use Rattle.g1_words.specs.declared.fault.Fault.{Fault}
use Rattle.g1_words.specs.declared.region.Region.{Region}
use Rattle.g1_words.specs.declared.region.Kind.TheVariants.{Ordinary, HumongousFirst, Continuation}
use Rattle.g1_words.specs.Geometry.{Geometry}
use Rattle.g1_words.specs.Lists.{has}
use Rattle.g1_words.specs.Heap.{Heap, region, region_with, kind, pinned, top, end, regions, is_free, object_at}
use Rattle.g1_image.specs.Image.{Image}
use Rattle.g1_words.specs.Copy.{words_at}
use Rattle.g1_choose.specs.declared.parameters.Cost.{Cost}
use Rattle.g1_pause.specs.declared.settings.Choice.TheVariants.{Budget}
use Rattle.g1_pause.specs.Answer.{IsEvacuated}
use Rattle.g1_trace.specs.declared.command.Command.{Command}
use Rattle.g1_trace.specs.declared.command.Reply.{Reply}
use Rattle.g1_trace.specs.declared.command.Reply.TheVariants.{Full, Room}
use Rattle.g1_trace.specs.Commands.{View, Effect, Nothing, SetRoot, SetSlot, SetValue, MakeNew, MakePause, answer_of}

-- what a command sees of a heap
abbrev pub heap_view : Heap → View
heap_view h = record {
  roots = h.roots;
  slots = λ a. words_at h (a + 1) (object_at h a).refs;
  values = λ a. words_at h (a + 1 + (object_at h a).refs) ((object_at h a).size - 1 - (object_at h a).refs);
}

-- THE BARRIER: the log after the slot p is written has its card, where the value names an object in another region, once
abbrev pub log_with : Geometry → List ℕ → ℕ → ℕ → List ℕ
log_with g log p zero = log
log_with g log p (suc a) = if (p / g.w == a / g.w) || has log (p / g.k) then log else log ++ (p / g.k) ∷ []

-- the log of an image after that
abbrev pub logged : Image → ℕ → ℕ → List ℕ
logged i p x = log_with i.heap.geometry i.log p x

-- so large an object is humongous
abbrev pub is_humongous : Heap → ℕ → Bool
is_humongous h size = nat_lt (3 * h.geometry.w) (4 * size)

-- how many regions so many words take
abbrev pub run_length : Heap → ℕ → ℕ
run_length h size = (size + (h.geometry.w - 1)) / h.geometry.w

-- region r is free
abbrev pub is_free_region : Heap → ℕ → Bool
is_free_region h r = is_free (kind h r)

-- so many regions from r on are there and free
abbrev pub is_free_run : Heap → ℕ → ℕ → Bool
is_free_run h m r = nat_le (r + m) h.geometry.n && list_all (is_free_region h) (range_with_len r m)

-- so many words fit above the top of the current region
abbrev pub fits_current : Heap → ℕ → Option ℕ → Bool
fits_current h size None = false
fits_current h size (Some r) = nat_le (top h r + size) h.geometry.w

-- THE RULE OF ALLOCATION: an ordinary object goes to the current region where it ends within it, else to the lowest free one; a humongous one to the lowest run that is free
abbrev pub region_for : Heap → ℕ → Option ℕ
region_for h size =
    if is_humongous h size then find (is_free_run h (run_length h size)) (regions h) else
    (if fits_current h size h.current then h.current else find (is_free_region h) (regions h))

-- where a new object is placed; nowhere where it is larger than the heap
abbrev pub place_for : Heap → ℕ → Option ℕ
place_for h size = if nat_lt (h.geometry.n * h.geometry.w) size then None else region_for h size

-- region q is one of the run of so many words from region r on
abbrev pub is_in_run : Heap → ℕ → ℕ → ℕ → Bool
is_in_run h r size q = nat_le r q && nat_lt q (r + run_length h size)

-- region q of the run of a humongous object that starts in region r
abbrev pub run_region : Heap → ℕ → ℕ → ℕ → Region
run_region h r size q = region_with (if q == r then HumongousFirst else Continuation) (min h.geometry.w (size - (q - r) * h.geometry.w))

-- an ordinary region with so many words more: where it was pinned it stays so
abbrev pub grown : Heap → ℕ → ℕ → Region
grown h r size = record { kind = Ordinary; top = top h r + size; pinned = pinned h r }

-- region q after an object of so many words was placed in region r
abbrev pub region_after : Heap → ℕ → ℕ → ℕ → Region
region_after h r size q =
    if is_humongous h size then (if is_in_run h r size q then run_region h r size q else region h q) else
    (if q == r then grown h r size else region h q)

-- the heap with a new object in region r, its slots null and its data 0, that a root names
abbrev pub heap_with : Heap → ℕ → ℕ → ℕ → ℕ → Heap
heap_with h r size refs root = record {
  geometry = h.geometry;
  words = slice_set h.words (end h r) (size * 2 ^ 32 + refs);
  regions = map (region_after h r size) (regions h);
  roots = slice_set h.roots root (suc (end h r));
  current = if is_humongous h size then h.current else Some r;
}

-- the image with other roots
abbrev pub with_roots : Image → List ℕ → Image
with_roots i roots = record i { heap = record (i.heap) { roots = roots } }

-- the image with other words and another log
abbrev pub with_words : Image → List ℕ → List ℕ → Image
with_words i words log = record { heap = record (i.heap) { words = words }; remembered = i.remembered; log = log }

-- the image with another heap
abbrev pub with_heap : Image → Heap → Image
with_heap i h = record i { heap = h }

-- the address of a slot, and of a data word, of the object at an address
abbrev pub slot_address : ℕ → ℕ → ℕ
slot_address a p = a + 1 + p

abbrev pub value_address : Heap → ℕ → ℕ → ℕ
value_address h a p = a + 1 + (object_at h a).refs + p

-- what an effect makes of an image, and the reply: that of the table, except for a new object without a place and a pause without room
abbrev pub IsEffect : Cost → Image → Effect → Reply → Reply → Image → Type 0
IsEffect cost i Nothing told reply j = (reply ≡ told) × (j ≡ i)
IsEffect cost i (SetRoot r x) told reply j = (reply ≡ told) × (j ≡ with_roots i (slice_set i.heap.roots r x))
IsEffect cost i (SetSlot a p x) told reply j = (reply ≡ told) × (j ≡ with_words i (slice_set i.heap.words (slot_address a p) x) (logged i (slot_address a p) x))
IsEffect cost i (SetValue a p x) told reply j = (reply ≡ told) × (j ≡ with_words i (slice_set i.heap.words (value_address i.heap a p) x) i.log)
IsEffect cost i (MakeNew root refs words) told reply j =
    ((place_for i.heap (1 + refs + words) ≡ None) × (reply ≡ Full) × (j ≡ i))
    ⊎ ((r : ℕ) × (place_for i.heap (1 + refs + words) ≡ Some r) × (reply ≡ told) × (j ≡ with_heap i (heap_with i.heap r (1 + refs + words) refs root)))
IsEffect cost i (MakePause b) told reply j =
    (IsEvacuated cost (Budget b) i (Done j) × (reply ≡ told))
    ⊎ ((f : Fault) × IsEvacuated cost (Budget b) i (Refused f) × (reply ≡ Room) × (j ≡ i))

-- ONE COMMAND on an image
abbrev pub IsStep : Cost → Image → Command → Reply → Image → Type 0
IsStep cost i c reply j =
    let a = answer_of (heap_view i.heap) c in
    IsEffect cost i a.effect a.reply reply j
