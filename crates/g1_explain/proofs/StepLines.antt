-- The lines of the steps of a pause, one kind behind the other.
use Rattle.std.proofs.Common.{◌≡◌, ℕ, zero, suc, ◌<◌, List, [], ◌∷◌, ◌++◌, length, map, flat_map, filter, get_or, All, refl, sym, ◌∙◌, ap, subst, arith, append-nil, true, false, not, ◌&&◌, ◌||◌, Bool, Vec, Global}
use Rattle.std.specs.Prelude.{min, codes, if◌then◌else◌}
use Rattle.std.specs.List.{range_with_len}
use Rattle.std.specs.List.Sorted.{IsStrictlyIncreasing}
use Rattle.g1_words.specs.declared.fault.Fault.TheVariants.{Room}
use Rattle.g1_words.specs.declared.region.Region.{Region}
use Rattle.g1_words.specs.Heap.{Heap, regions}
use Rattle.g1_words.specs.Layout.{to_space}
use Rattle.g1_words.specs.Survivors.{Survivors}
use Rattle.g1_words.specs.Lists.{has}
use Rattle.g1_image.specs.Image.{Image, card_in, remembered_of}
use Rattle.g1_image.specs.Cards.{refined, is_refined, exact, is_exact, cards_where, IsTracked}
use Rattle.g1_after.specs.Made.{heap_moved, image_moved, image_paused}
use Rattle.g1_after.specs.Moved.{remembered_moved}
use Rattle.g1_after.specs.Unnamed.{unnamed_regions}
use Rattle.g1_rem.specs.Starts.{card_count}
use Rattle.g1_rem.proofs.Rising.{Rises, Rises-filter, Rises-range, Rises-increasing}
use Rattle.g1_choose.specs.declared.parameters.Cost.{Cost}
use Rattle.g1_layout.specs.Plan.{Plan}
use Rattle.g1_frontier.specs.Window.{AreCards, AreOutside, LeadIn}
use Rattle.g1_frontier.proofs.Leading.{refined_lead_in}
use Rattle.g1_copy.specs.Prepared.{Prepared, IsMadeFor}
use Rattle.g1_copy.proofs.LeadingCards.{cards_lead, cards_stand_outside}
use Rattle.g1_pause.specs.declared.settings.Choice.{Choice}
use Rattle.g1_pause.specs.declared.steps.Outcome.{Outcome}
use Rattle.g1_pause.specs.declared.steps.Outcome.TheVariants.{Ready, NoRoom}
use Rattle.g1_pause.specs.declared.steps.Steps.{Steps}
use Rattle.g1_pause.proofs.CollectionSets.{set_regions}
use Rattle.g1_pause.proofs.Planning.{cards_there, set_leads}
use Rattle.g1_text.specs.Lines.{heading, line_text, text_of}
use Rattle.g1_explain.specs.Cards.{set_lines}
use Rattle.g1_explain.specs.Changes.{root_moves, patch_moves, region_changes, heading_changes}
use Rattle.g1_explain.specs.Choosing.{bought_lines}
use Rattle.g1_explain.specs.Humongous.{humongous_lines}
use Rattle.g1_explain.specs.Keepers.{keepers_of}
use Rattle.g1_explain.specs.Places.{place_lines_of}
use Rattle.g1_explain.specs.Remembered.{remembered_changes, dirty_lines}
use Rattle.g1_explain.specs.Steps.{AreTaken, free_among, lasting_patches, moving_lines, table_changes, totals_of, ready_lines, outcome_lines, step_lines, covered_lines, pause_lines}
use Rattle.g1_explain.specs.Searched.{IsSearch}
use Rattle.g1_explain.specs.Survivors.{survivor_lines}
use Rattle.g1_explain.specs.Totals.{room_line, refusal_lines}
use Rattle.g1_explain.proofs.Texts.{line_then, lines_then}

-- three parts
three_parts : (old a b c : List ℕ) (xs ys zs : List (List (List ℕ))) → a ≡ old ++ text_of xs → b ≡ a ++ text_of ys → c ≡ b ++ text_of zs → c ≡ old ++ text_of (xs ++ (ys ++ zs))
three_parts old a b c xs ys zs p q r = lines_then old a c xs (ys ++ zs) p (lines_then a b c ys zs q r)

pub moving_end : (h : Heap) (p : Plan) (q : Prepared) (patches : List (ℕ × ℕ)) (survivors places before after old a b c : List ℕ)
    → survivors ≡ p.survivors → places ≡ p.places → before ≡ h.roots → after ≡ q.roots
    → a ≡ old ++ text_of (flat_map (place_lines_of h survivors places) (range_with_len 0 (min (length survivors) (length places))))
    → b ≡ a ++ text_of (flat_map (root_moves before after) (range_with_len 0 (min (length before) (length after))))
    → c ≡ b ++ text_of (flat_map (patch_moves h) patches) → c ≡ old ++ text_of (moving_lines h p q patches)
moving_end h p q patches survivors places before after old a b c s t u v x y z =
    three_parts old a b c (flat_map (place_lines_of h p.survivors p.places) (range_with_len 0 (min (length p.survivors) (length p.places))))
    (flat_map (root_moves h.roots q.roots) (range_with_len 0 (min (length h.roots) (length q.roots)))) (flat_map (patch_moves h) patches)
    (x ∙ (λ i. old ++ text_of (flat_map (place_lines_of h (s i) (t i)) (range_with_len 0 (min (length (s i)) (length (t i)))))))
    (y ∙ (λ i. a ++ text_of (flat_map (root_moves (u i) (v i)) (range_with_len 0 (min (length (u i)) (length (v i))))))) z

pub table_end : (i j : Image) (q : Prepared) (before after : List (List ℕ)) (old_table new_table : List Region) (old a b c : List ℕ)
    → before ≡ map (refined i) (regions i.heap) → after ≡ q.remembered → old_table ≡ i.heap.regions → new_table ≡ q.regions → j ≡ i
    → a ≡ old ++ text_of (remembered_changes before after)
    → b ≡ a ++ text_of (flat_map (region_changes old_table new_table) (range_with_len 0 (min (length old_table) (length new_table))))
    → c ≡ b ++ text_of (heading_changes j) → c ≡ old ++ text_of (table_changes i q)
table_end i j q before after old_table new_table old a b c s t u v w x y z =
    three_parts old a b c (remembered_changes (map (refined i) (regions i.heap)) q.remembered)
    (flat_map (region_changes i.heap.regions q.regions) (range_with_len 0 (min (length i.heap.regions) (length q.regions)))) (heading_changes i)
    (x ∙ (λ k. old ++ text_of (remembered_changes (s k) (t k))))
    (y ∙ (λ k. a ++ text_of (flat_map (region_changes (u k) (v k)) (range_with_len 0 (min (length (u k)) (length (v k)))))))
    (z ∙ ap (λ l. b ++ text_of (heading_changes l)) w)

pub ready_end : (i : Image) (h : Heap) (p : Plan) (q : Prepared) (need free cards looked slots : ℕ) (patches : List (ℕ × ℕ)) (old a b c d e : List ℕ)
    → h ≡ i.heap → patches ≡ lasting_patches h q → need ≡ length p.to_space → free ≡ free_among h.regions → looked ≡ cards → slots ≡ length patches
    → a ≡ old ++ line_text (room_line need free) → b ≡ a ++ text_of (moving_lines h p q patches) → c ≡ b ++ text_of (humongous_lines i.heap (keepers_of i.heap p.set p.survivors))
    → d ≡ c ++ text_of (table_changes i q) → e ≡ d ++ line_text (totals_of h p q looked slots) → e ≡ old ++ text_of (ready_lines i cards p q)
ready_end i h p q need free cards looked slots patches old a b c d e heap left needs frees looks many x y z v w =
    let lasting : patches ≡ lasting_patches i.heap q = left ∙ ap (λ (g : Heap). lasting_patches g q) heap in
    let free_before : free ≡ free_among i.heap.regions = frees ∙ ap (λ (g : Heap). free_among g.regions) heap in
    let patched : slots ≡ length (lasting_patches i.heap q) = many ∙ ap length lasting in
    let moving : List (List (List ℕ)) = moving_lines i.heap p q (lasting_patches i.heap q) in
    let humongous : List (List (List ℕ)) = humongous_lines i.heap (keepers_of i.heap p.set p.survivors) in
    let totals : List (List ℕ) = totals_of i.heap p q cards (length (lasting_patches i.heap q)) in
    line_then old a e (room_line (length p.to_space) (free_among i.heap.regions)) (moving ++ (humongous ++ (table_changes i q ++ totals ∷ [])))
    (x ∙ (λ k. old ++ line_text (room_line (needs k) (free_before k))))
    (lines_then a b e moving (humongous ++ (table_changes i q ++ totals ∷ [])) (y ∙ (λ k. a ++ text_of (moving_lines (heap k) p q (lasting k))))
    (lines_then b c e humongous (table_changes i q ++ totals ∷ []) z
    (lines_then c d e (table_changes i q) (totals ∷ []) v
    (w ∙ (λ k. d ++ line_text (totals_of (heap k) p q (looks k) (patched k))) ∙ ap (λ l. d ++ l) (sym (append-nil (line_text totals)))))))

-- ---- sets that rise

all_mapped : {A : Type 0} (f : A → List ℕ) → ((x : A) → IsStrictlyIncreasing (f x)) → (xs : List A) → All IsStrictlyIncreasing (map f xs)
all_mapped f h [] k d lt = absurd (omega (arith, lt))
all_mapped f h (x ∷ xs) zero d lt = h x
all_mapped f h (x ∷ xs) (suc k) d lt = all_mapped f h xs k d (omega (arith, lt))

pub refined_rise : (i : Image) → All IsStrictlyIncreasing (map (refined i) (regions i.heap))
refined_rise i = all_mapped (refined i) (λ r. Rises-increasing 0 (refined i r) (Rises-filter (is_refined i r) 0 (range_with_len 0 (card_count i.heap)) (Rises-range 0 (card_count i.heap)))) (regions i.heap)

where_rises : (h : Heap) (test : ℕ → Bool) → Rises 0 (cards_where h test)
where_rises h test = Rises-filter test 0 (range_with_len 0 (card_count h)) (Rises-range 0 (card_count h))

rises_if : (b : Bool) (xs ys : List ℕ) → Rises 0 xs → Rises 0 ys → Rises 0 (if b then xs else ys)
rises_if true xs ys a b = a
rises_if false xs ys a b = b

rises_in : (f : ℕ → List ℕ) → ((r : ℕ) → Rises 0 (f r)) → (xs : List ℕ) (r : ℕ) → Rises 0 (get_or (map f xs) r [])
rises_in f h [] r = tt
rises_in f h (x ∷ xs) zero = h x
rises_in f h (x ∷ xs) (suc r) = rises_in f h xs r

module _ (i : Image) (set l : List ℕ) where
  moved_rises : (r : ℕ) → Rises 0 (remembered_moved i set l (heap_moved i.heap set l) r)
  moved_rises r =
      let j : Heap = heap_moved i.heap set l in
      let stays : ℕ → Bool = λ c. (is_refined i r c && not (card_in i.heap set c)) || (card_in i.heap (to_space i.heap l) c && is_exact j r c) in
      rises_if (has set r) [] (if has (to_space i.heap l) r then exact j r else cards_where i.heap stays) tt
      (rises_if (has (to_space i.heap l) r) (exact j r) (cards_where i.heap stays) (where_rises j (is_exact j r)) (where_rises i.heap stays))

  abbrev freed : List ℕ
  freed = unnamed_regions (heap_moved i.heap set l)

  abbrev left : ℕ → List ℕ
  left r = if has freed r then [] else filter (λ c. not (card_in (heap_moved i.heap set l) freed c)) (remembered_of (image_moved i set l) r)

  left_rises : (r : ℕ) → IsStrictlyIncreasing (left r)
  left_rises r =
      let test : ℕ → Bool = λ c. not (card_in (heap_moved i.heap set l) freed c) in
      let before : List ℕ = remembered_of (image_moved i set l) r in
      Rises-increasing 0 (left r)
      (rises_if (has freed r) [] (filter test before) tt
      (Rises-filter test 0 before (rises_in (remembered_moved i set l (heap_moved i.heap set l)) moved_rises (regions i.heap) r)))

  -- the remembered sets after a pause rise
  pub paused_rise : All IsStrictlyIncreasing (image_paused i set l).remembered
  paused_rise = all_mapped left left_rises (regions (heap_moved i.heap set l))

-- ---- the steps

-- the cards of the steps lead into their set
pub leads_there : (cost : Cost) (choice : Choice) (i : Image) (x : Steps) → IsTracked i → AreTaken cost choice i x
    → AreCards i.heap x.cards.items × AreOutside i.heap x.collection.regions.items x.cards.items × LeadIn i.heap x.collection.regions.items x.cards.items
leads_there cost choice i x tracked t =
    let set : List ℕ = x.collection.regions.items in
    let sets : List (List ℕ) = map (refined i) (regions i.heap) in
    let lead = set_leads cost choice i i.heap refl set t.set x.cards.items set set sets tracked cards_lead refined_lead_in t.cards refl refl refl in
    (cards_there i.heap x.cards.items set sets cards_stand_outside t.cards, lead.0, lead.1)

pub set_below : (cost : Cost) (choice : Choice) (i : Image) (x : Steps) → AreTaken cost choice i x → All (λ r. r < i.heap.geometry.n) x.collection.regions.items
set_below cost choice i x t = (set_regions cost i choice x.collection.regions.items t.set).below

pub steps_end : (cost : Cost) (i : Image) (x : Steps) (h : Heap) (set cards looked old a b c : List ℕ) → h ≡ i.heap → set ≡ x.collection.regions.items → cards ≡ x.cards.items → looked ≡ x.cards.items
    → a ≡ old ++ text_of (bought_lines cost i x.collection.bought) → b ≡ a ++ text_of (set_lines h set cards)
    → c ≡ b ++ text_of (outcome_lines i x.collection.regions.items (length looked) x.outcome) → c ≡ old ++ text_of (step_lines cost i x)
steps_end cost i x h set cards looked old a b c e f g k p q r =
    three_parts old a b c (bought_lines cost i x.collection.bought) (set_lines i.heap x.collection.regions.items x.cards.items)
    (outcome_lines i x.collection.regions.items (length x.cards.items) x.outcome) p
    (q ∙ (λ t. a ++ text_of (set_lines (e t) (f t) (g t))))
    (r ∙ ap (λ (l : List ℕ). b ++ text_of (outcome_lines i x.collection.regions.items (length l) x.outcome)) k)

pub covered_end : (i j : Image) (old a b : List ℕ) → j ≡ i → a ≡ old ++ line_text (codes "covered" ∷ []) → b ≡ a ++ text_of (dirty_lines j) → b ≡ old ++ text_of (covered_lines i)
covered_end i j old a b e p q = line_then old a b (codes "covered" ∷ []) (dirty_lines i) p (q ∙ ap (λ (k : Image). a ++ text_of (dirty_lines k)) e)

pub pause_end : (cost : Cost) (i j : Image) (x : Steps) (none a b c : List ℕ) → j ≡ i → none ≡ [] → a ≡ none ++ line_text (heading j) → b ≡ a ++ text_of (covered_lines i)
    → c ≡ b ++ text_of (step_lines cost i x) → c ≡ text_of (pause_lines cost i x)
pause_end cost i j x none a b c e n p q r =
    line_then none a c (heading i) (covered_lines i ++ step_lines cost i x) (p ∙ ap (λ (k : Image). none ++ line_text (heading k)) e)
    (lines_then a b c (covered_lines i) (step_lines cost i x) q r)
    ∙ ap (λ l. l ++ text_of (pause_lines cost i x)) n

-- ---- what follows the choice of a set

-- the cards lead into the set, and its survivors are these
pub search_there : (i : Image) (h : Heap) (set cards found : List ℕ) → h ≡ i.heap → AreCards i.heap cards → AreOutside i.heap set cards → LeadIn i.heap set cards → Survivors i.heap set found → IsSearch h set cards found
search_there i h set cards found e rising outside lead_in survivors =
    subst (λ (g : Heap). IsSearch g set cards found) (sym e) (record { rising = rising; outside = outside; lead_in = lead_in; survivors = survivors })

pub lacking_end : (i : Image) (set : List ℕ) (n : ℕ) (o : Outcome) (survivors : Vec ℕ Global) (need free : ℕ) (h : Heap) (found old a b : List ℕ) → o ≡ NoRoom survivors need free → h ≡ i.heap → found ≡ survivors.items
    → a ≡ old ++ text_of (survivor_lines h set found) → b ≡ a ++ text_of (refusal_lines (Room need free)) → b ≡ old ++ text_of (outcome_lines i set n o)
lacking_end i set n o survivors need free h found old a b is e f p q =
    lines_then old a b (survivor_lines i.heap set survivors.items) (refusal_lines (Room need free)) (p ∙ (λ t. old ++ text_of (survivor_lines (e t) set (f t)))) q
    ∙ ap (λ (x : Outcome). old ++ text_of (outcome_lines i set n x)) (sym is)

pub made_end : (i : Image) (set : List ℕ) (n : ℕ) (o : Outcome) (p : Plan) (q : Prepared) (h : Heap) (found old a b : List ℕ) → o ≡ Ready p q → h ≡ i.heap → found ≡ p.survivors
    → a ≡ old ++ text_of (survivor_lines h set found) → b ≡ a ++ text_of (ready_lines i n p q) → b ≡ old ++ text_of (outcome_lines i set n o)
made_end i set n o p q h found old a b is e f x y =
    lines_then old a b (survivor_lines i.heap set p.survivors) (ready_lines i n p q) (x ∙ (λ t. old ++ text_of (survivor_lines (e t) set (f t)))) y
    ∙ ap (λ (z : Outcome). old ++ text_of (outcome_lines i set n z)) (sym is)

-- the remembered sets that are made ready rise
pub made_rise : (i : Image) (set l : List ℕ) (q : Prepared) → IsMadeFor q i set l → All IsStrictlyIncreasing q.remembered
made_rise i set l q made = subst (All IsStrictlyIncreasing) (sym made.remembered) (paused_rise i set l)
