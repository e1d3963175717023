use Rattle.std.proofs.Common.{◌≡◌, ◌≤◌, ◌<◌, ◌*◌, ◌/◌, ◌%◌, ◌++◌, ℕ, length, take, drop, map, replicate, ◌∙◌, ap, sym, subst, arith}
use Rattle.std.specs.Int.{div_ceil}
use Rattle.std.proofs.Math.Nat.{mul-le-mul_right, mul-mod_left}
use Rattle.g1_rem.proofs.Entering.{lent_back}
use Rattle.g1_words.specs.Geometry.{Geometry}
use Rattle.g1_words.specs.Heap.{Heap}
use Rattle.g1_words.specs.Words.{AreLaid}
use Rattle.g1_image.specs.Cards.{Covered, IsTracked}
use Rattle.g1_image.specs.Image.{Image, IsImage}
use Rattle.g1_work.specs.Regions.{EverySlice, slice_of}
use Rattle.g1_copy.specs.Fates.{fate_at}
use Rattle.g1_copy.specs.Slices.{IsWritable, by_fate}
use Rattle.g1_copy.specs.Prepared.{IsUnwritten, Prepared, written}
use Rattle.g1_copy.proofs.TrackedAfter.{paused_parts, tracked_parts}
use Rattle.g1_copy.proofs.WrittenBeginning.{front_writable, laid_after, region_count, written_all}
use Rattle.g1_copy.proofs.committing.commit.Given.{Over}
use Rattle.g1_copy.proofs.committing.commit.Goals as goal
use Rattle.g1_copy.proofs.committing.commit.Goals.{After-deref_mut, After-of_parts}

-- the image that was taken apart

the_tracked : (g : Over) (c : After-deref_mut g) → IsTracked c.args.tracked
the_tracked g c = record { image = subst IsImage (c.image.view_is ∙ c.tracked.view_is) c.image.invariant; covered = subst Covered c.tracked.view_is c.tracked.invariant }

the_geometry : (g : Over) (c : After-deref_mut g) → c.heap.inside.geometry ≡ c.args.tracked.heap.geometry
the_geometry g c = ap (λ (h : Heap). h.geometry) c.heap.view_is ∙ ap (λ (i : Image). i.heap.geometry) (c.image.view_is ∙ c.tracked.view_is)

the_width : (g : Over) (c : After-deref_mut g) → c.region_words-region_words.result ≡ c.args.tracked.heap.geometry.w
the_width g c = c.region_words-region_words.ensures.value ∙ ap (λ (x : Geometry). x.w) (the_geometry g c)

the_before : (g : Over) (c : After-deref_mut g) → c.heap.inside.words.items ≡ c.args.tracked.heap.words
the_before g c = ap (λ (h : Heap). h.words) c.heap.view_is ∙ ap (λ (i : Image). i.heap.words) (c.image.view_is ∙ c.tracked.view_is)

-- the beginning that is written, and the zeros behind it
the_count : (g : Over) (c : After-deref_mut g) → (c.heap.inside.words.laid ≤ c.max-regions.result * c.args.tracked.heap.geometry.w) × (c.max-regions.result ≤ c.args.tracked.heap.geometry.n)
the_count g c =
    let h : Heap = c.args.tracked.heap in
    let valid = (the_tracked g c).image.heap in
    let laid : ℕ = c.heap.inside.words.laid in
    let made = c.requires.made.2 in
    let few : laid ≤ length h.words = omega (arith, c.laid.ensures.within, ap length (the_before g c)) in
    let used = c.div_ceil-used.ensures ∙ (λ q. div_ceil (c.laid.ensures.many q) (the_width g c q)) in
    region_count laid h.geometry.w h.geometry.n (length h.words) c.div_ceil-used.result c.written_regions.result c.max-regions.result
    (omega (arith, valid.limits.w_least)) valid.word_count few used (omega (arith, c.written_regions.ensures.within, made.fates.one_each)) c.max-regions.ensures

the_cut : (g : Over) (c : After-deref_mut g) → c.args.tracked.heap.words ≡ c.deref_mut.result.now ++ replicate c.into_parts-laid.result.1 0
the_cut g c =
    sym (the_before g c) ∙ sym c.lay_to.ensures.items ∙ c.into_parts-laid.ensures.items ∙ ap (λ xs. xs ++ replicate c.into_parts-laid.result.1 0) (sym c.deref_mut.ensures.value)

the_length : (g : Over) (c : After-deref_mut g) → length c.deref_mut.result.now ≡ c.max-regions.result * c.args.tracked.heap.geometry.w
the_length g c =
    let to = ap (λ w. c.max-regions.result * w) (the_width g c) in
    omega (arith, ap length c.deref_mut.ensures.value, c.into_parts-laid.ensures.laid, c.lay_to.ensures.laid, to, (the_count g c).0)

unwritten : (g : Over) (c : After-deref_mut g) → (r : ℕ) → c.max-regions.result ≤ r → r < length c.args.prepared.fates → IsUnwritten c.args.prepared r
unwritten g c r le lt = c.written_regions.ensures.others r (omega (arith, le, c.max-regions.ensures)) lt

-- when the words were lent
abbrev lent_from : (g : Over) → After-of_parts g → After-deref_mut g
lent_from g c = c.before.before.before.before.before.before

lent : (g : Over) (c : After-of_parts g) → take c.into_parts-laid.result.0.len (c.write.new.words ++ drop (length c.write.new.words) c.into_parts-laid.result.0.items) ≡ c.write.new.words
lent g c = lent_back c.into_parts-laid.result.0.len c.deref_mut.result.now c.write.new.words c.into_parts-laid.result.0.items c.deref_mut.ensures.value c.write.auto.words c.deref_mut.ensures.len

-- the words that were written
new_words : (g : Over) (c : After-of_parts g) → c.of_parts.result.items ≡ written c.args.prepared c.args.tracked.heap.geometry.w c.args.tracked.heap.words
new_words g c =
    let b = lent_from g c in
    let p = b.args.prepared in
    let made = b.requires.made in
    let xs = b.deref_mut.result.now in
    let ws = c.write.new.words in
    let each = subst (λ w. (r : ℕ) → r < length xs / w → slice_of w r ws ≡ by_fate w p.gathered p.patches r (fate_at p.fates r) (slice_of w r xs)) (the_width g b) c.write.ensures.each in
    c.of_parts.ensures.items ∙ ap (λ ys. ys ++ replicate b.into_parts-laid.result.1 0) (lent g c)
    ∙ written_all p b.args.tracked made.0 made.1 (the_tracked g b).image.heap made.2 b.max-regions.result (the_count g b).1 (unwritten g b) xs b.into_parts-laid.result.1
    (the_length g b) (the_cut g b) ws c.write.ensures.size each

-- the used words after are among them
laid_there : (g : Over) (c : After-of_parts g) → AreLaid c.heap.inside.geometry.w c.prepared.inside.regions.items c.of_parts.result.laid
laid_there g c =
    let b = lent_from g c in
    let p = b.args.prepared in
    let made = b.requires.made in
    let i : Image = b.args.tracked in
    let before : AreLaid i.heap.geometry.w i.heap.regions b.heap.inside.words.laid =
    subst (λ (h : Heap). AreLaid h.geometry.w h.regions b.heap.inside.words.laid) (b.heap.view_is ∙ ap (λ (x : Image). x.heap) (b.image.view_is ∙ b.tracked.view_is)) b.heap.invariant.1 in
    let after = laid_after p i made.0 made.1 (the_tracked g b).image.heap made.2 b.max-regions.result (the_count g b).1 (unwritten g b) b.heap.inside.words.laid before (the_count g b).0 in
    let size : c.of_parts.result.laid ≡ b.max-regions.result * i.heap.geometry.w = c.of_parts.ensures.laid ∙ ap length (lent g c) ∙ c.write.ensures.size ∙ the_length g b in
    subst (λ n. AreLaid c.heap.inside.geometry.w c.prepared.inside.regions.items n) (sym size)
    (subst (λ (x : Geometry). AreLaid x.w c.prepared.inside.regions.items (b.max-regions.result * i.heap.geometry.w)) (sym (the_geometry g b))
    (subst (λ (q : Prepared). AreLaid i.heap.geometry.w q.regions (b.max-regions.result * i.heap.geometry.w)) (sym c.prepared.view_is) after))

pub write-requires-clause-whole : goal.write-requires-clause-whole
write-requires-clause-whole g c κs within =
    let b = (goal.at.write-requires-clause-whole g c).After-deref_mut in
    (λ q. the_length g b q % the_width g b q) ∙ mul-mod_left b.max-regions.result b.args.tracked.heap.geometry.w

pub write-requires-clause-ready : goal.write-requires-clause-ready
write-requires-clause-ready g c κs within =
    let b = (goal.at.write-requires-clause-ready g c).After-deref_mut in
    let p = b.args.prepared in
    let made = b.requires.made in
    subst (λ w. EverySlice (IsWritable w p.fates p.gathered p.patches p.firsts) w b.deref_mut.result.now) (sym (the_width g b))
    (front_writable p b.args.tracked made.0 made.1 (the_tracked g b).image.heap made.2 b.max-regions.result (the_count g b).1 (unwritten g b)
    b.deref_mut.result.now b.into_parts-laid.result.1 (the_length g b) (the_cut g b))

pub invariant_of-heap : goal.invariant_of-heap
invariant_of-heap g c =
    let b = (goal.at.invariant_of-heap g c).After-deref_mut in
    let words = new_words g (goal.at.invariant_of-heap g c).After-of_parts in
    let valid = (tracked_parts c.args.prepared c.args.tracked (the_tracked g b)
    (record {
      fates = c.prepared.inside.fates.items;
      gathered = c.prepared.inside.gathered.items;
      patches = c.prepared.inside.patches.items;
      firsts = c.prepared.inside.firsts.items;
      regions = c.prepared.inside.regions.items;
      roots = c.prepared.inside.roots.items;
      remembered =
          map (λ s. s.items) c.prepared.inside.remembered.items;
      humongous = c.prepared.inside.humongous.items;
    })
    c.heap.inside.geometry c.of_parts.result.items
    c.clear.new.self.keys c.prepared.view_is (the_geometry g b) words c.clear.ensures.empty c.image_after.ensures.tracked c.requires.made).image.heap in
    (valid, laid_there g (goal.at.invariant_of-heap g c).After-of_parts)

pub invariant_of-result : goal.invariant_of-result
invariant_of-result g c =
    let b = (goal.at.invariant_of-result g c).After-deref_mut in
    let words = new_words g (goal.at.invariant_of-result g c).After-of_parts in
    (tracked_parts c.args.prepared c.args.tracked (the_tracked g b)
    (record {
      fates = c.prepared.inside.fates.items;
      gathered = c.prepared.inside.gathered.items;
      patches = c.prepared.inside.patches.items;
      firsts = c.prepared.inside.firsts.items;
      regions = c.prepared.inside.regions.items;
      roots = c.prepared.inside.roots.items;
      remembered =
          map (λ s. s.items) c.prepared.inside.remembered.items;
      humongous = c.prepared.inside.humongous.items;
    })
    c.heap.inside.geometry c.of_parts.result.items
    c.clear.new.self.keys c.prepared.view_is (the_geometry g b) words c.clear.ensures.empty c.image_after.ensures.tracked c.requires.made).image

pub invariant_of-result-2 : goal.invariant_of-result-2
invariant_of-result-2 g c =
    let b = (goal.at.invariant_of-result-2 g c).After-deref_mut in
    let words = new_words g (goal.at.invariant_of-result-2 g c).After-of_parts in
    (tracked_parts c.args.prepared c.args.tracked (the_tracked g b)
    (record {
      fates = c.prepared.inside.fates.items;
      gathered = c.prepared.inside.gathered.items;
      patches = c.prepared.inside.patches.items;
      firsts = c.prepared.inside.firsts.items;
      regions = c.prepared.inside.regions.items;
      roots = c.prepared.inside.roots.items;
      remembered =
          map (λ s. s.items) c.prepared.inside.remembered.items;
      humongous = c.prepared.inside.humongous.items;
    })
    c.heap.inside.geometry c.of_parts.result.items
    c.clear.new.self.keys c.prepared.view_is (the_geometry g b) words c.clear.ensures.empty c.image_after.ensures.tracked c.requires.made).covered

pub returns : goal.returns
returns g c =
    let b = (goal.at.returns g c).After-deref_mut in
    let words = new_words g (goal.at.returns g c).After-of_parts in
    record {
      paused = paused_parts c.args.prepared c.args.tracked (the_tracked g b)
          (record {
            fates = c.prepared.inside.fates.items;
            gathered = c.prepared.inside.gathered.items;
            patches = c.prepared.inside.patches.items;
            firsts = c.prepared.inside.firsts.items;
            regions = c.prepared.inside.regions.items;
            roots = c.prepared.inside.roots.items;
            remembered =
                map (λ s. s.items) c.prepared.inside.remembered.items;
            humongous = c.prepared.inside.humongous.items;
          })
          c.heap.inside.geometry c.of_parts.result.items
          c.clear.new.self.keys c.prepared.view_is (the_geometry g b) words c.clear.ensures.empty;
    }

pub lay_to-requires : goal.lay_to-requires
lay_to-requires g c =
    let h : Heap = c.args.tracked.heap in
    let before : c.heap.inside.words.items ≡ h.words = ap (λ (x : Heap). x.words) c.heap.view_is ∙ ap (λ (i : Image). i.heap.words) (c.image.view_is ∙ c.tracked.view_is) in
    let valid = (subst IsImage (c.image.view_is ∙ c.tracked.view_is) c.image.invariant).heap in
    let width : c.region_words-region_words.result ≡ h.geometry.w =
    c.region_words-region_words.ensures.value ∙ ap (λ (x : Heap). x.geometry.w) c.heap.view_is ∙ ap (λ (i : Image). i.heap.geometry.w) (c.image.view_is ∙ c.tracked.view_is) in
    let made = c.requires.made.2 in
    let used = c.div_ceil-used.ensures ∙ (λ q. div_ceil (c.laid.ensures.many q) (width q)) in
    let count = region_count c.heap.inside.words.laid h.geometry.w h.geometry.n (length h.words) c.div_ceil-used.result c.written_regions.result c.max-regions.result
    (omega (arith, valid.limits.w_least)) valid.word_count (omega (arith, c.laid.ensures.within, ap length before)) used
    (omega (arith, c.written_regions.ensures.within, made.fates.one_each)) c.max-regions.ensures in
    let rows : c.max-regions.result * h.geometry.w ≤ h.geometry.n * h.geometry.w = mul-le-mul_right h.geometry.w count.1 in
    let to = ap (λ w. c.max-regions.result * w) width in
    omega (arith, rows, to, valid.word_count, ap length before)
