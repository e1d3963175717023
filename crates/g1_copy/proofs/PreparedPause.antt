-- What is made ready for a pause is what its commit needs.
use Rattle.std.proofs.Common.{◌≡◌, ℕ, ◌*◌, ◌<◌, inl, inr, not, ◌&&◌, List, [], ◌++◌, All, length, map, flat_map, get_or, refl, sym, ◌∙◌, ap, subst, arith, Contains}
use Rattle.std.proofs.lemmas.Bool.{cases_lt}
use Rattle.std.specs.List.{list_any, range_with_len}
use Rattle.std.specs.List.Sorted.{IsStrictlyIncreasing}
use Rattle.std.proofs.lemmas.List.{length-map}
use Rattle.std.proofs.lemmas.List.FromFn.{length-map-range_with_len}
use Rattle.std.specs.Prelude.{slice_index_or}
use Rattle.std.proofs.lemmas.List.Elements.{Contains-get_or}
use Rattle.g1_image.proofs.Covers.{cards_rise}
use Rattle.g1_image.specs.Cards.{Covered, IsTracked, refined}
use Rattle.g1_words.specs.Copy.{renamed}
use Rattle.g1_image.specs.Image.{Image, IsImage}
use Rattle.g1_after.specs.Made.{heap_moved, image_paused}
use Rattle.g1_after.specs.Moved.{remembered_moved}
use Rattle.g1_after.specs.Unnamed.{unnamed, unnamed_regions}
use Rattle.g1_layout.specs.Plan.{Plan}
use Rattle.g1_layout.specs.declared.plan.Run.{Run}
use Rattle.g1_rem.specs.Starts.{card_count}
use Rattle.g1_words.proofs.Computed.{range_below}
use Rattle.g1_words.proofs.Members.{filter_member}
use Rattle.g1_words.specs.Heap.{Heap, region, region_of, regions}
use Rattle.g1_words.specs.Layout.{forward, to_space}
use Rattle.g1_words.specs.Lists.{has}
use Rattle.g1_words.specs.Survivors.{in_set}
use Rattle.g1_rem.specs.EntryCards.{cards_into}
use Rattle.g1_copy.specs.Gathered.{to_space_words}
use Rattle.g1_copy.specs.Laws.{RefinedFindPatches}
use Rattle.g1_copy.specs.Patches.{AreFirsts, all_patches, patches_by_card, patches_on}
use Rattle.g1_copy.specs.Plans.{IsPauseOf}
use Rattle.g1_words.specs.declared.region.Region.{Region}
use Rattle.g1_copy.specs.Fates.{AreFates, AreReplaced, fate_at, region_by_fate}
use Rattle.g1_copy.specs.Prepared.{IsMadeFor, Prepared}
use Rattle.g1_copy.specs.Remembered.{AreLeft}
use Rattle.g1_copy.specs.Unnamed.{humongous_regions}
use Rattle.g1_copy.specs.declared.fates.Fate.{Fate}
use Rattle.g1_copy.specs.declared.fates.Fate.TheVariants.{Freed}
use Rattle.g1_copy.proofs.FatesMade.{freed_beside}
use Rattle.g1_copy.proofs.Ground.{room_of}
use Rattle.g1_copy.proofs.OnCards.{patches_by_cards}
use Rattle.g1_copy.proofs.PreparedRegions.{regions_by_fates}
use Rattle.g1_copy.proofs.RememberedLeft.{sets_left, sets_stay}
use Rattle.g1_copy.proofs.RememberedPaused.{outer_rise}
use Rattle.g1_copy.proofs.UnnamedRegions.{firsts_below, freed_below, freed_are}

-- the cards that lead into a set rise, are the heap's, and lie outside it
module _ (h : Heap) (remembered : List (List ℕ)) (set cards : List ℕ) (is : cards ≡ cards_into h remembered set) where
  into_rise : IsStrictlyIncreasing cards
  into_rise = subst IsStrictlyIncreasing (sym is) (cards_rise h (λ c. list_any (λ r. has (slice_index_or remembered r []) c) set && not (in_set h set (c * h.geometry.k))))

  card_is : (k d : ℕ) → k < length cards → Contains (cards_into h remembered set) (get_or cards k d)
  card_is k d lt = subst (λ xs. Contains xs (get_or cards k d)) is (Contains-get_or cards k d lt)

  pub into_there : All (λ c. c < card_count h) cards
  into_there k d lt =
      let f = filter_member (λ c. list_any (λ r. has (slice_index_or remembered r []) c) set && not (in_set h set (c * h.geometry.k)))
      (range_with_len 0 (card_count h)) (get_or cards k d) (card_is k d lt) in
      let b = range_below 0 (card_count h) (get_or cards k d) f.0 in
      omega arith

module _ (i : Image) (set : List ℕ) (p : Plan) (pause : IsPauseOf i.heap set p) where
  -- the patches on these cards are all that there are
  pub all_found : (h : Heap) (remembered : List (List ℕ)) (cards : List ℕ) (ps : List (ℕ × ℕ)) → RefinedFindPatches → IsImage i → Covered i →
      h ≡ i.heap → remembered ≡ map (refined i) (regions i.heap) → cards ≡ cards_into h remembered set
      → ps ≡ patches_by_card h p.survivors cards → ps ≡ all_patches i.heap set p.survivors
  all_found h remembered cards ps law image covered he se ce pe =
      let same : cards ≡ cards_into i.heap (map (refined i) (regions i.heap)) set = ce ∙ (λ q. cards_into (he q) (se q) set) in
      pe ∙ ap (λ x. patches_by_card x p.survivors cards) he ∙ patches_by_cards i.heap p.survivors cards image.heap (into_rise h remembered set cards ce)
      ∙ ap (patches_on i.heap p.survivors) same ∙ law i set p.survivors image covered (subst IsStrictlyIncreasing pause.same pause.made.placeable.rising) (room_of i.heap set p pause).ordinary pause.survivors

  -- they are those of the plan's own set
  pub own_patches : (ps : List (ℕ × ℕ)) → ps ≡ all_patches i.heap set p.survivors → ps ≡ all_patches i.heap p.set p.survivors
  own_patches ps e = e ∙ ap (λ s. all_patches i.heap s p.survivors) (sym pause.same)

  -- and rise
  pub found_rise : (ps : List (ℕ × ℕ)) → IsImage i → ps ≡ all_patches i.heap set p.survivors → IsStrictlyIncreasing (map (λ x. x.0) ps)
  found_rise ps image e = subst (λ (xs : List (ℕ × ℕ)). IsStrictlyIncreasing (map (λ x. x.0) xs)) (sym e) (outer_rise i set p image pause)

  -- ---- the humongous objects that are freed

  module _ (tracked : IsTracked i) where
    -- the regions that are freed beside the set
    abbrev freed : List ℕ
    freed = unnamed_regions (heap_moved i.heap set p.survivors)

    -- the first regions, told of the set itself
    own_firsts : (firsts : List ℕ) → firsts ≡ map (λ o. region_of i.heap o.at) (unnamed (heap_moved i.heap p.set p.survivors)) →
        firsts ≡ map (λ o. region_of i.heap o.at) (unnamed (heap_moved i.heap set p.survivors))
    own_firsts firsts e = e ∙ ap (λ s. map (λ o. region_of i.heap o.at) (unnamed (heap_moved i.heap s p.survivors))) pause.same

    module _ (h : Heap) (he : h ≡ i.heap) (firsts : List ℕ) (found : firsts ≡ map (λ o. region_of i.heap o.at) (unnamed (heap_moved i.heap p.set p.survivors))) where
      -- they are the heap's
      pub firsts_there : All (λ r. r < h.geometry.n) firsts
      firsts_there = subst (λ y. All (λ r. r < y.geometry.n) firsts) (sym he) (firsts_below i set p.survivors tracked (room_of i.heap set p pause) firsts (own_firsts firsts found))

      -- their runs are what is freed
      pub regions_freed : (runs : List ℕ) → runs ≡ flat_map (humongous_regions h) firsts → runs ≡ freed
      regions_freed runs e = e ∙ ap (λ y. flat_map (humongous_regions y) firsts) he ∙ freed_are i set p.survivors tracked (room_of i.heap set p pause) firsts (own_firsts firsts found)

    -- what is freed has a place in the table of fates
    pub runs_there : (runs : List ℕ) (count : ℕ) → runs ≡ freed → count ≡ i.heap.geometry.n → All (λ r. r < count) runs
    runs_there runs count e same = subst (λ n. All (λ r. r < n) runs) (sym same) (subst (All (λ r. r < i.heap.geometry.n)) (sym e) (freed_below (heap_moved i.heap set p.survivors)))

    -- the table afterwards
    pub fates_after : (h : Heap) (runs : List ℕ) (one two : List Fate) → h ≡ i.heap → runs ≡ freed → AreFates h set (to_space h p.survivors) one →
        AreReplaced (length runs) (λ t. get_or runs t 0) (λ t. Freed) one two
        → AreFates i.heap (set ++ freed) (to_space i.heap p.survivors) two
    fates_after h runs one two he e are new =
        freed_beside i.heap set freed (to_space i.heap p.survivors) one two (subst (λ y. AreFates y set (to_space y p.survivors) one) he are)
        (subst (λ xs. AreReplaced (length xs) (λ t. get_or xs t 0) (λ t. Freed) one two) e new)

    -- the regions afterwards
    pub table_after : (h : Heap) (table : List Region) (fates : List Fate) → h ≡ i.heap → AreFates i.heap (set ++ freed) (to_space i.heap p.survivors) fates
        → ((u : Run) → table ≡ map (λ r. region_by_fate p.runs u (fate_at fates r) (region h r)) (regions h)) → table ≡ (image_paused i set p.survivors).heap.regions
    table_after h table fates he are made =
        let none : Run = record { region = 0; from = 0; to = 0; end = 0 } in
        made none ∙ ap (λ y. map (λ r. region_by_fate p.runs none (fate_at fates r) (region y r)) (regions y)) he
        ∙ regions_by_fates i.heap set p tracked.image.heap pause p.runs refl fates none freed are

    -- the remembered sets afterwards
    pub remembered_left : (h : Heap) (fates : List Fate) (runs : List ℕ) (old new : List (List ℕ)) → h ≡ i.heap → runs ≡ freed → AreFates i.heap (set ++ freed) (to_space i.heap p.survivors) fates
        → old ≡ map (remembered_moved i p.set p.survivors (heap_moved i.heap p.set p.survivors)) (regions i.heap)
        → (0 < length runs → AreLeft h fates old new) → (length runs ≡ 0 → new ≡ old) → new ≡ (image_paused i set p.survivors).remembered
    remembered_left h fates runs old new he e are before some none =
        let was : old ≡ map (remembered_moved i set p.survivors (heap_moved i.heap set p.survivors)) (regions i.heap) =
        before ∙ ap (λ s. map (remembered_moved i s p.survivors (heap_moved i.heap s p.survivors)) (regions i.heap)) pause.same in
        elim (cases_lt 0 (length runs)) [
          | inl lt ↦ sets_left i set p.survivors tracked (room_of i.heap set p pause) fates are old new was (subst (λ y. AreLeft y fates old new) he (some lt))
          | inr ge ↦
              let zero : length freed ≡ 0 = omega (arith, ge, ap length e) in
              none (omega arith) ∙ was ∙ sets_stay i set p.survivors tracked (room_of i.heap set p pause) zero
        ]

    -- what is prepared is made for the pause
    pub made_for : (x : Prepared) (h : Heap) → h ≡ i.heap → AreFates i.heap (set ++ freed) (to_space i.heap p.survivors) x.fates →
        x.gathered ≡ to_space_words h p.survivors → x.patches ≡ all_patches i.heap set p.survivors
        → AreFirsts h.geometry.w h.geometry.n x.patches x.firsts → x.regions ≡ (image_paused i set p.survivors).heap.regions
        → x.roots ≡ map (renamed (forward h p.survivors)) h.roots → x.remembered ≡ (image_paused i set p.survivors).remembered
        → x.humongous ≡ map (λ o. region_of i.heap o.at) (unnamed (heap_moved i.heap p.set p.survivors)) → IsMadeFor x i set p.survivors
    made_for x h he fates gathered patches firsts table roots remembered humongous = record {
      room = room_of i.heap set p pause;
      fates = fates;
      gathered = gathered ∙ ap (λ y. to_space_words y p.survivors) he;
      patches = patches;
      firsts = subst (λ y. AreFirsts y.geometry.w y.geometry.n x.patches x.firsts) he firsts;
      table = table;
      roots = roots ∙ ap (λ y. map (renamed (forward y p.survivors)) y.roots) he;
      remembered = remembered;
      humongous = own_firsts x.humongous humongous;
    }

-- there is a refined set for each region
pub remembered_count : {X : Type 0} (items : X → List ℕ) (i : Image) (remembered : List X) → map items remembered ≡ map (refined i) (regions i.heap) → length remembered ≡ i.heap.geometry.n
remembered_count items i remembered e = sym (length-map remembered items) ∙ ap length e ∙ length-map-range_with_len (refined i) 0 i.heap.geometry.n
