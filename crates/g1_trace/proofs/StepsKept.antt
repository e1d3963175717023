-- Every command keeps a tracked image, and whole traces reply as the plain store does.
use Rattle.std.proofs.Common.{◌≡◌, ◌≢◌, ℕ, zero, suc, ◌+◌, ◌-◌, ◌*◌, ◌^◌, ◌<◌, ◌≤◌, inl, inr, Bool, true, false, cond, List, [], length, get_or, replicate, flat_map, sym, ap, subst, Contains}
use Rattle.std.proofs.Common.{arith, ltb, lit<, ◌∙◌}
use Rattle.std.specs.Prelude.{⊤, Some, None}
use Rattle.std.proofs.lemmas.List.{length-replicate}
use Rattle.std.proofs.lemmas.List.FromFn.{length-map-range_with_len}
use Rattle.g1_words.specs.Geometry.{Geometry, IsWithinBounds, most_roots}
use Rattle.g1_words.specs.declared.object.Object.{Object}
use Rattle.g1_words.specs.declared.region.Region.{Region}
use Rattle.g1_words.specs.Heap.{Heap, free_region, region, word, regions, objects_by, objects_in, objects, object_at, slots}
use Rattle.g1_words.specs.References.{Ref, refs, refs_at}
use Rattle.g1_words.proofs.Members.{flat_map_cases, none_contains}
use Rattle.g1_words.proofs.Ordered.{pairs_from_ordered}
use Rattle.g1_words.proofs.Shapes.{IsBuiltBy, IsBuilt, valid_of}
use Rattle.g1_words.proofs.Lists.{same_there}
use Rattle.g1_image.specs.Image.{Image, IsRememberedSet}
use Rattle.g1_image.specs.Cards.{IsTracked}
use Rattle.g1_image.proofs.Covers.{covered_tells}
use Rattle.g1_choose.specs.declared.parameters.Cost.{Cost}
use Rattle.g1_pause.specs.declared.settings.Choice.TheVariants.{Budget}
use Rattle.g1_pause.proofs.Following.{evacuation_follows}
use Rattle.g1_trace.specs.declared.command.Command.{Command}
use Rattle.g1_trace.specs.declared.command.Command.TheVariants.{New, Get, Put, Set, Say, Same, Copy, Drop, Pause}
use Rattle.g1_trace.specs.declared.command.Reply.{Reply}
use Rattle.g1_trace.specs.declared.command.Reply.TheVariants as reply
use Rattle.g1_trace.specs.Commands.{View, Effect, Nothing, SetRoot, SetSlot, SetValue, MakeNew, MakePause, Answer, answer, answer_of, in_range, not_null, within}
use Rattle.g1_trace.specs.Mutator.{heap_view, IsEffect}
use Rattle.g1_trace.specs.Views.{EffectFits}
use Rattle.g1_trace.specs.Run.{empty_image}
use Rattle.g1_trace.specs.Laws.{WritesWord, StepKeeps, WholeTraces}
use Rattle.g1_trace.proofs.Views.{no_zeros, named-in, answer_fits}
use Rattle.g1_trace.proofs.KeptTracked.{slot_tracked, value_tracked, root_tracked}
use Rattle.g1_trace.proofs.NewKept.{new_tracked}
use Rattle.g1_trace.proofs.WholeRuns.{whole_run}

-- a data word that is set is one of 64 bits
EffectWritesWord : Effect → Type 0
EffectWritesWord (SetValue a p x) = x < 2 ^ 64
EffectWritesWord Nothing = ⊤
EffectWritesWord (SetRoot r x) = ⊤
EffectWritesWord (SetSlot a p x) = ⊤
EffectWritesWord (MakeNew r refs words) = ⊤
EffectWritesWord (MakePause b) = ⊤

-- what holds of Nothing and of the effect behind the checks holds of the answer's effect
module _ (v : View) (P : Effect → Type 0) (nothing : P Nothing) where
  by_test : (b : Bool) (a : Answer) → P a.effect → P (cond b a (answer reply.Range Nothing)).effect
  by_test true a h = h
  by_test false a h = nothing

  behind_range : (r : ℕ) (a : Answer) → P a.effect → P (in_range v r a).effect
  behind_range r a h = by_test (ltb r (length v.roots)) a h

  behind_within : (p : ℕ) (xs : List ℕ) (a : Answer) → P a.effect → P (within v p xs a).effect
  behind_within p xs a h = by_test (ltb p (length xs)) a h

  behind_null : (x : ℕ) (rest : ℕ → Answer) → ((a : ℕ) → P (rest a).effect) → P (not_null v x rest).effect
  behind_null zero rest h = nothing
  behind_null (suc a) rest h = h a

answer_writes : (v : View) (c : Command) → WritesWord c → EffectWritesWord (answer_of v c).effect
unfolding EffectWritesWord
answer_writes v (New r refs words) m = behind_range v EffectWritesWord tt r (answer reply.Ok (MakeNew r refs words)) tt
answer_writes v (Get r q p) m = behind_range v EffectWritesWord tt r _
    (behind_range v EffectWritesWord tt q _ (behind_null v EffectWritesWord tt (get_or v.roots q 0) _
    (λ a. behind_within v EffectWritesWord tt p (v.slots a) (answer reply.Ok (SetRoot r (get_or (v.slots a) p 0))) tt)))
answer_writes v (Put r p q) m = behind_range v EffectWritesWord tt r _
    (behind_range v EffectWritesWord tt q _ (behind_null v EffectWritesWord tt (get_or v.roots r 0) _
    (λ a. behind_within v EffectWritesWord tt p (v.slots a) (answer reply.Ok (SetSlot a p (get_or v.roots q 0))) tt)))
answer_writes v (Set r p x) m = behind_range v EffectWritesWord tt r _
    (behind_null v EffectWritesWord tt (get_or v.roots r 0) _ (λ a. behind_within v EffectWritesWord tt p (v.values a) (answer reply.Ok (SetValue a p x)) m))
answer_writes v (Say r p) m = behind_range v EffectWritesWord tt r _ (behind_null v EffectWritesWord tt (get_or v.roots r 0) _
    (λ a. behind_within v EffectWritesWord tt p (v.values a) (answer (reply.Number (get_or (v.values a) p 0)) Nothing) tt))
answer_writes v (Same r q) m = behind_range v EffectWritesWord tt r _ (behind_range v EffectWritesWord tt q _ tt)
answer_writes v (Copy r q) m = behind_range v EffectWritesWord tt r _ (behind_range v EffectWritesWord tt q (answer reply.Ok (SetRoot r (get_or v.roots q 0))) tt)
answer_writes v (Drop r) m = behind_range v EffectWritesWord tt r (answer reply.Ok (SetRoot r 0)) tt
answer_writes v (Pause b) m = tt

effect_tracked : (cost : Cost) (i : Image) (e : Effect) (told reply : Reply) (j : Image) → IsTracked i → EffectFits (heap_view i.heap) e →
    EffectWritesWord e → IsEffect cost i e told reply j → IsTracked j
unfolding EffectWritesWord
effect_tracked cost i Nothing told reply j tr fits w (q, e) = subst IsTracked (sym e) tr
effect_tracked cost i (SetRoot r x) told reply j tr fits w (q, e) = subst IsTracked (sym e) (root_tracked i tr r x fits.1)
effect_tracked cost i (SetSlot a p x) told reply j tr fits w (q, e) =
    let len = length-map-range_with_len (word i.heap) (a + 1) (object_at i.heap a).refs in
    let lt : p < length ((heap_view i.heap).slots a) = fits.1 in
    subst IsTracked (sym e) (slot_tracked i tr a p x fits.0 (omega (arith, lt, len)) fits.2)
effect_tracked cost i (SetValue a p x) told reply j tr fits w (q, e) =
    let len = length-map-range_with_len (word i.heap) (a + 1 + (object_at i.heap a).refs) ((object_at i.heap a).size - 1 - (object_at i.heap a).refs) in
    let lt : p < length ((heap_view i.heap).values a) = fits.1 in
    subst IsTracked (sym e) (value_tracked i tr a p x fits.0 (omega (arith, lt, len)) w)
effect_tracked cost i (MakeNew root refs words) told reply j tr fits w (inl (p, q, e)) = subst IsTracked (sym e) tr
effect_tracked cost i (MakeNew root refs words) told reply j tr fits w (inr (r, p, q, e)) = subst IsTracked (sym e) (new_tracked i tr root refs words r p)
effect_tracked cost i (MakePause b) told reply j tr fits w (inl (made, q)) = (evacuation_follows cost (Budget b) i j tr made).tracked
effect_tracked cost i (MakePause b) told reply j tr fits w (inr (fault, refused, q, e)) = subst IsTracked (sym e) tr

pub step_keeps : StepKeeps
step_keeps cost i c reply j m tr st =
    effect_tracked cost i (answer_of (heap_view i.heap) c).effect (answer_of (heap_view i.heap) c).reply reply j tr (answer_fits (heap_view i.heap) c) (answer_writes (heap_view i.heap) c m) st

-- ---- the start

module _ (g : Geometry) (roots : ℕ) (limits : IsWithinBounds g.w g.k g.n) (few : roots ≤ most_roots) where
  all_free : (r : ℕ) → region (empty_image g roots).heap r ≡ free_region
  all_free r = same_there free_region g.n r

  no_objects : (o : Object) → Contains (objects (empty_image g roots).heap) o → ⊥
  no_objects o m =
      let h : Heap = (empty_image g roots).heap in
      let x = flat_map_cases (objects_in h) (regions h) o m in
      none_contains o (subst (λ (q : Region). Contains (objects_by q.kind h x.0) o) (all_free x.0) x.2)

  no_refs : (e : Ref) → Contains (refs (empty_image g roots).heap) e → ⊥
  no_refs e m = let h : Heap = (empty_image g roots).heap in let x = flat_map_cases (λ o. flat_map (refs_at h) (slots o)) (objects h) e m in no_objects x.0 x.1

  empty_built : IsBuilt (empty_image g roots).heap
  empty_built = record {
    limits = limits;
    word_count = length-replicate (g.n * g.w) 0;
    word_fits = λ a. subst (λ x. x < 2 ^ 64) (sym (same_there 0 (g.n * g.w) a)) (lit< tt);
    region_count = length-replicate g.n free_region;
    root_count = subst (λ x. x ≤ most_roots) (sym (length-replicate roots 0)) few;
    shaped = λ r lt. subst (λ (q : Region). IsBuiltBy (empty_image g roots).heap r q.kind) (sym (all_free r)) (ap (λ (q : Region). q.top) (all_free r));
    pins = λ r lt t. absurd (let clash : false ≡ true = sym (ap (λ (q : Region). q.pinned) (all_free r)) ∙ t in cc);
    zero_above = λ r m lt le small. same_there 0 (g.n * g.w) (r * g.w + m);
    root_named = λ a c. absurd (no_zeros roots a (named-in (replicate roots 0) a c));
    slot_named = λ e c. absurd (no_refs e c);
    current = λ r e. let clash : None ≡ Some r = e in cc;
  }

  no_cards : (h : Heap) (r : ℕ) → IsRememberedSet h r []
  no_cards h r = record {
    rising = λ k lt. absurd (omega (arith, lt));
    elsewhere = λ k d lt. absurd (omega (arith, lt));
    count = lit< tt;
    owner = λ some. absurd (omega (arith, some));
  }

  pub start_tracked : IsTracked (empty_image g roots)
  start_tracked = record {
    image = record {
      heap = valid_of (empty_image g roots).heap empty_built;
      one_each = length-replicate {A = List ℕ} g.n [];
      remembered = λ r lt. subst (IsRememberedSet (empty_image g roots).heap r) (sym (same_there {A = List ℕ} [] g.n r)) (no_cards (empty_image g roots).heap r);
      log = record { used = λ k d lt. absurd (omega (arith, lt)); distinct = pairs_from_ordered (λ c d. c ≢ d) [] tt; count = lit< tt };
    };
    covered = (covered_tells (empty_image g roots)).1 (λ e c. absurd (no_refs e c));
  }

pub whole_traces : WholeTraces
whole_traces cost g roots commands replies limits few fits = whole_run cost step_keeps g roots commands replies fits (start_tracked g roots limits.bounds few)
