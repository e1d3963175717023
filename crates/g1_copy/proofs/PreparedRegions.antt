-- The table of regions and the roots that are made for a plan.
use Rattle.std.proofs.Common.{◌≡◌, ℕ, zero, suc, ◌+◌, ◌<◌, ◌≤◌, inl, inr, ◌^◌, true, false, cond, List, [], ◌∷◌, ◌++◌, All, take, length, map, get_or, refl, sym, ◌∙◌, ap, subst, arith, Contains}
use Rattle.std.specs.List.{range_with_len}
use Rattle.std.proofs.lemmas.Bool.{cases_Bool}
use Rattle.std.proofs.lemmas.List.{length-take-le, get_or-take, take_all, take_more}
use Rattle.std.proofs.lemmas.List.FromFn.{get_or-map-range_with_len, length-map-range_with_len}
use Rattle.std.proofs.lemmas.List.Elements.{Contains-get_or}
use Rattle.g1_after.proofs.ObjectsMoved.{region_moved}
use Rattle.g1_after.proofs.RulesMoved.{valid_moved}
use Rattle.g1_after.proofs.ValidMoved.{kept_refs, moved_below, root_kept}
use Rattle.g1_words.specs.Copy.{renamed}
use Rattle.g1_image.specs.Image.{Image}
use Rattle.g1_after.specs.Made.{heap_moved, image_moved}
use Rattle.g1_after.specs.Moved.{new_region}
use Rattle.g1_layout.specs.Plan.{Plan, run_at}
use Rattle.g1_layout.specs.declared.plan.Run.{Run}
use Rattle.g1_words.proofs.Indices.{is_free_region, not_has, range_bounds}
use Rattle.g1_words.proofs.Members.{Contains-flat_map, has_from_contains}
use Rattle.g1_words.proofs.Objects.{tops_fit}
use Rattle.g1_words.proofs.Shapes.{valid_of}
use Rattle.g1_words.specs.Heap.{Heap, free_region, kind, object_at, region, region_with, regions}
use Rattle.g1_words.specs.Layout.{end_in, forward, free_regions, kept, moved_to, need, places, to_space}
use Rattle.g1_words.specs.Lists.{has}
use Rattle.g1_words.specs.References.{named, root_targets}
use Rattle.g1_words.specs.Valid.{IsValid}
use Rattle.g1_words.specs.declared.region.Kind.TheVariants.{Free, Ordinary}
use Rattle.g1_words.specs.declared.region.Region.{Region}
use Rattle.g1_copy.specs.Plans.{IsPauseOf}
use Rattle.g1_copy.specs.Fates.{AreFates, fate_at, fate_of, region_by_fate}
use Rattle.g1_copy.specs.declared.fates.Fate.{Fate}
use Rattle.g1_copy.specs.declared.fates.Fate.TheVariants.{Freed, Filled, Kept}
use Rattle.g1_copy.proofs.Ground.{Ground, ground, room_of}
use Rattle.g1_copy.proofs.Lists.{map_same_in}
use Rattle.g1_copy.proofs.Plans.{places_of_plan, run_is, runs_count}
use Rattle.g1_copy.proofs.FatesMade.{fate_beside, fate_freed, is_freed, is_filled, is_kept, has_fate, once, run_there}

-- the regions that are made, one more at a time
pub regions_more : (f : ℕ → Region) (n r : ℕ) (made : List Region) (x : Region) → r < n → made ≡ take r (map f (range_with_len 0 n)) → x ≡ f r →
    made ++ x ∷ [] ≡ take (r + 1) (map f (range_with_len 0 n))
regions_more f n r made x lt e g =
    let all : List Region = map f (range_with_len 0 n) in
    let size : length all ≡ n = length-map-range_with_len f 0 n in
    let at : get_or all r free_region ≡ f r = get_or-map-range_with_len f 0 n r r free_region lt (omega arith) in
    (λ q. e q ++ (g ∙ sym at) q ∷ []) ∙ sym (take_more all r free_region (omega (arith, lt, size)))

pub regions_all : (f : ℕ → Region) (n r : ℕ) (made : List Region) → n ≤ r → made ≡ take r (map f (range_with_len 0 n)) → made ≡ map f (range_with_len 0 n)
regions_all f n r made le e = e ∙ take_all r (map f (range_with_len 0 n)) (omega (arith, le, length-map-range_with_len f 0 n))

module _ (h : Heap) (chosen : List ℕ) (p : Plan) (valid : IsValid h) (pause : IsPauseOf h chosen p) where
  free_there : (t : ℕ) → t < need h p.survivors → (kind h (get_or (free_regions h) t 0) ≡ Free) × (get_or (free_regions h) t 0 < h.geometry.n)
  free_there t lt = is_free_region h (get_or (free_regions h) t 0) (Contains-get_or (free_regions h) t 0 (omega (arith, pause.made.room, lt)))

  -- a free region isn't one of the set
  free_off : (r : ℕ) → kind h r ≡ Free → has chosen r ≡ false
  free_off r e = not_has chosen r (λ m. let clash : Free ≡ Ordinary = sym e ∙ (room_of h chosen p pause).ordinary r m in cc)

  to_space_has : (t : ℕ) → t < need h p.survivors → has (to_space h p.survivors) (get_or (free_regions h) t 0) ≡ true
  to_space_has t lt =
      let long : length (to_space h p.survivors) ≡ need h p.survivors = length-take-le (need h p.survivors) (free_regions h) pause.made.room in
      let at : get_or (to_space h p.survivors) t 0 ≡ get_or (free_regions h) t 0 = get_or-take (need h p.survivors) (free_regions h) t 0 lt in
      has_from_contains (to_space h p.survivors) (get_or (free_regions h) t 0) (subst (Contains (to_space h p.survivors)) at (Contains-get_or (to_space h p.survivors) t 0 (omega (arith, long, lt))))

  -- an image with this heap
  abbrev image : Image
  image = record { heap = h; remembered = []; log = [] }

  abbrev g : Ground image chosen p.survivors
  g = ground image chosen p.survivors valid (room_of h chosen p pause)

  new_at : (r : ℕ) → has chosen r ≡ false → has (to_space h p.survivors) r ≡ true → new_region h chosen p.survivors r ≡ region_with Ordinary (end_in h p.survivors r)
  new_at r a b = λ q. cond (a q) free_region (cond (b q) (region_with Ordinary (end_in h p.survivors r)) (region h r))

  -- the survivors in a region end within it
  end_fits : (t : ℕ) → t < need h p.survivors → end_in h p.survivors (get_or (free_regions h) t 0) ≤ h.geometry.w
  end_fits t lt =
      let l : List ℕ = p.survivors in
      let r : ℕ = get_or (free_regions h) t 0 in
      let j : Image = image_moved image chosen l in
      let good : IsValid j.heap = valid_of j.heap (valid_moved image chosen l j g.built g.room g.moved) in
      let free = free_there t lt in
      let count : length j.heap.regions ≡ h.geometry.n = good.region_count in
      let top = tops_fit j.heap good r free_region (omega (arith, count, free.1)) in
      let is : region j.heap r ≡ region_with Ordinary (end_in h l r) =
      region_moved image chosen l j g.sound g.room g.moved r free.1 ∙ new_at r (free_off r free.0) (to_space_has t lt) in
      subst (λ (x : Region). x.top ≤ h.geometry.w) is top

  -- what is asked of the runs
  module _ (us : List Run) (same : us ≡ p.runs) where
    us_count : length us ≡ need h p.survivors
    us_count = ap length same ∙ runs_count h p pause.made

    us_below : (t : ℕ) → t < length us → t < need h p.survivors
    us_below t lt = omega (arith, us_count, lt)

    us_at : (t : ℕ) (u : Run) → t < length us → get_or us t u ≡ run_at h p.survivors t
    us_at t u lt = ap (λ xs. get_or xs t u) same ∙ run_is h p pause.made t u (us_below t lt)

    pub runs_small : All (λ u. u.end < 2 ^ 32) us
    runs_small t u lt =
        let fits = end_fits t (us_below t lt) in
        let wide = valid.limits.w_most in
        let small : (run_at h p.survivors t).end < 2 ^ 32 = omega arith in
        subst (λ (x : Run). x.end < 2 ^ 32) (sym (us_at t u lt)) small

    -- a region that is filled by a run has that run
    pub run_made : (fates : List Fate) (freed : List ℕ) (r t : ℕ) → AreFates h freed (to_space h p.survivors) fates → r < h.geometry.n → fate_at fates r ≡ Filled t → t < length us
    run_made fates freed r t are lt e =
        let k = run_there freed (to_space h p.survivors) (once h chosen p valid pause) r t (sym (are.each r lt) ∙ e) in
        let long : length (to_space h p.survivors) ≡ need h p.survivors = length-take-le (need h p.survivors) (free_regions h) pause.made.room in
        omega (arith, k.0, long, us_count)

    -- what the fate in the pause of the set makes of a region
    region_made : (fate : Fate) (u : Run) (r : ℕ) → fate ≡ fate_of chosen (to_space h p.survivors) r → region_by_fate us u fate (region h r) ≡ new_region h chosen p.survivors r
    region_made fate u r same =
        let to : List ℕ = to_space h p.survivors in
        let by : (x : Fate) → fate_of chosen to r ≡ x → region_by_fate us u fate (region h r) ≡ region_by_fate us u x (region h r) =
        λ x e. ap (λ y. region_by_fate us u y (region h r)) (same ∙ e) in
        elim (has_fate chosen to (once h chosen p valid pause) r) [
          | is_freed a f ↦ by Freed f ∙ (λ q. cond (sym a q) free_region (cond (has to r) (region_with Ordinary (end_in h p.survivors r)) (region h r)))
          | is_filled t less at a b f ↦
              let long : length to ≡ need h p.survivors = length-take-le (need h p.survivors) (free_regions h) pause.made.room in
              let lt' : t < need h p.survivors = omega (arith, less, long) in
              let at' : get_or (free_regions h) t 0 ≡ r = sym (get_or-take (need h p.survivors) (free_regions h) t 0 lt') ∙ at in
              let ends : (get_or us t u).end ≡ end_in h p.survivors r = ap (λ (x : Run). x.end) (us_at t u (omega (arith, lt', us_count))) ∙ ap (end_in h p.survivors) at' in
              by (Filled t) f ∙ ap (region_with Ordinary) ends ∙ sym (new_at r a b)
          | is_kept a b f ↦ by Kept f ∙ (λ q. cond (sym a q) free_region (cond (sym b q) (region_with Ordinary (end_in h p.survivors r)) (region h r)))
        ]

    -- with regions freed beside the set
    region_beside : (fates : List Fate) (u : Run) (freed : List ℕ) (r : ℕ) → AreFates h (chosen ++ freed) (to_space h p.survivors) fates → r < h.geometry.n
        → region_by_fate us u (fate_at fates r) (region h r) ≡ cond (has freed r) free_region (region (heap_moved h chosen p.survivors) r)
    region_beside fates u freed r are lt =
        let to : List ℕ = to_space h p.survivors in
        let after : region (heap_moved h chosen p.survivors) r ≡ new_region h chosen p.survivors r =
        get_or-map-range_with_len (new_region h chosen p.survivors) 0 h.geometry.n r r free_region lt (omega arith) in
        elim (cases_Bool (has freed r)) [
          | inl t ↦ ap (λ y. region_by_fate us u y (region h r)) (are.each r lt ∙ fate_freed chosen freed to r t) ∙ (λ q. cond (sym t q) free_region (region (heap_moved h chosen p.survivors) r))
          | inr e ↦ region_made (fate_at fates r) u r (are.each r lt ∙ fate_beside chosen freed to r e) ∙ (λ q. cond (sym e q) free_region (sym after q))
        ]

    -- the regions by their fates are those after the pause
    pub regions_by_fates : (fates : List Fate) (u : Run) (freed : List ℕ) → AreFates h (chosen ++ freed) (to_space h p.survivors) fates
        → map (λ r. region_by_fate us u (fate_at fates r) (region h r)) (regions h) ≡ map (λ r. cond (has freed r) free_region (region (heap_moved h chosen p.survivors) r)) (regions h)
    regions_by_fates fates u freed are =
        map_same_in (λ r. region_by_fate us u (fate_at fates r) (region h r)) (λ r. cond (has freed r) free_region (region (heap_moved h chosen p.survivors) r)) (regions h)
        (λ r k. region_beside fates u freed r are (let b = range_bounds 0 h.geometry.n r k in omega arith))

  -- roots

  abbrev goes : ℕ → ℕ
  goes = moved_to p.survivors p.places

  root_small : (x : ℕ) → Contains h.roots x → renamed (moved_to p.survivors (places h p.survivors)) x < 2 ^ 64
  root_small zero m = omega arith
  root_small (suc a) m =
      let l : List ℕ = p.survivors in
      let j : Image = image_moved image chosen l in
      let target : Contains (root_targets h) a = Contains-flat_map named h.roots (suc a) a m (zero, omega arith, refl) in
      let k = root_kept image chosen l j g.built g.room g.moved a target in
      let filled : 0 < (object_at h a).size = kept_filled a k in
      let below = moved_below image chosen l j g.built g.room g.moved (object_at h a) 0 k filled in
      let most = valid.limits.words_most in
      omega arith
    where
      kept_filled : (a : ℕ) → Contains (kept h chosen p.survivors) (object_at h a) → 0 < (object_at h a).size
      kept_filled a k =
          let refs = kept_refs image chosen p.survivors (image_moved image chosen p.survivors) g.built g.room g.moved (object_at h a) k in
          omega arith

  pub root_fits : (xs : List ℕ) (i d : ℕ) → xs ≡ h.roots → i < length xs → renamed goes (get_or xs i d) < 2 ^ 64
  root_fits xs i d e lt =
      subst (λ ps. renamed (moved_to p.survivors ps) (get_or xs i d) < 2 ^ 64) (sym (places_of_plan h p pause.made)) (root_small (get_or xs i d) (subst (λ ys. Contains ys (get_or xs i d)) e (Contains-get_or xs i d lt)))

  pub roots_made : (xs out : List ℕ) → xs ≡ h.roots → out ≡ map (renamed goes) xs → out ≡ map (renamed (forward h p.survivors)) h.roots
  roots_made xs out e f = f ∙ (λ q. map (renamed (moved_to p.survivors (places_of_plan h p pause.made q))) (e q))
