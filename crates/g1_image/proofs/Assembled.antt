-- The image of a file that keeps all rules.
use Rattle.std.proofs.Common.{◌≡◌, ◌≤◌, ◌<◌, ℕ, zero, suc, ◌+◌, ◌-◌, ◌*◌, ◌^◌, inl, inr, List, [], ◌∷◌, ◌++◌, length, take, drop, replicate, slice_index, slice_index_or, min, map, arith}
use Rattle.std.proofs.Common.{refl, sym, ap, subst, ◌∙◌, append_assoc, length-append, length-drop, length-take, Bool, true, false}
use Rattle.std.specs.Prelude.{◌==◌, IsTrue, IsFalse, Some, None, unwrap_or, nat_lt, if◌then◌else◌}
use Rattle.std.proofs.lemmas.List.{length-map, get_or-map, length-replicate, get_or_append_left, get_or-append-add, get_or_past, take-append-drop, take-append-le, get_or-replicate}
use Rattle.std.proofs.lemmas.Grind.{get_or_default_zero}
use Rattle.std.proofs.lemmas.Bool.{cases_lt, lt-ltb}
use Rattle.std.proofs.Math.Seq.{drop-append_seam}
use Rattle.g1_words.specs.Heap.{Heap, free_region, region, start}
use Rattle.g1_words.specs.declared.region.Region.{Region}
use Rattle.g1_words.specs.Valid.{IsValid, IsReference, AllShaped, MayBePinned}
use Rattle.g1_words.specs.declared.region.Kind.TheVariants.{Free, Ordinary}
use Rattle.g1_words.specs.declared.fault.Fault.{Fault}
use Rattle.g1_words.specs.declared.fault.Fault.TheVariants as fault
use Rattle.g1_words.specs.declared.fault.Stand.{Stand}
use Rattle.g1_words.specs.declared.limits.Limits.{Limits}
use Rattle.g1_image.specs.declared.cursor.Version.TheVariants.{One, Two}
use Rattle.g1_image.specs.Text.{File, Entry, Version, file_text, table_words}
use Rattle.g1_words.specs.Kind.{kind_of, kind_number}
use Rattle.g1_image.specs.Image.{IsImage, CanTell, IsLog, IsUsedCard, flags_of, all_words, used_words, heap_of, file_of, region_of_entry, entry_of}
use Rattle.g1_image.specs.Faults.{FileFits, EntryFits, MayFailWithin, entry, IsKnownKind, HasKnownFlags, AreKnown, TableFault, IsGoodHeap, HeapFault, LogIsGood, SetsAreGood, CardFault}
use Rattle.g1_image.proofs.Stages.{of_table, of_heap, file_fault}
use Rattle.g1_image.specs.Draft.{IsDraft}
use Rattle.g1_image.proofs.Words.{table_words-cons}
use Rattle.g1_words.proofs.Objects.{top_by_kind}

-- the fault of a whole file's table is the bytes'
pub table_fault : {limits : Limits} (bytes : List ℕ) (f : File) (e : Fault) → FileFits limits f → bytes ≡ file_text f → TableFault f.table f.n e → MayFailWithin limits bytes e
table_fault bytes f e fits text x = inr (file_fault bytes f e fits text (of_table f e x))

-- the fault of its heap is
pub heap_fault : {limits : Limits} (bytes : List ℕ) (f : File) (e : Fault) → FileFits limits f → bytes ≡ file_text f → AreKnown f.table f.n → HeapFault (heap_of f) e → MayFailWithin limits bytes e
heap_fault bytes f e fits text known x = inr (file_fault bytes f e fits text (of_heap f e known x))

-- and so is that of its cards, if the heap, the log and the remembered sets that were checked are its own
pub card_fault : {limits : Limits} (bytes : List ℕ) (f : File) (h : Heap) (log : List ℕ) (sets : List (List ℕ)) (e : Fault) (s : Stand) → FileFits limits f → bytes ≡ file_text f → AreKnown f.table f.n →
    h ≡ heap_of f → log ≡ f.log → sets ≡ f.remembered → IsGoodHeap h → e ≡ fault.Card s → CardFault h log sets s → MayFailWithin limits bytes e
card_fault {limits = limits} bytes f h log sets e s fits text known same logs own g is x =
    let first : CardFault (heap_of f) f.log f.remembered s = subst (λ l. CardFault (heap_of f) f.log l s) own
    (subst (λ l. CardFault (heap_of f) l sets s) logs (subst (λ y. CardFault y log sets s) same x)) in
    subst (MayFailWithin limits bytes) (sym is) (inr (f, fits, text, (known, subst IsGoodHeap same g, first)))

-- the log of a file is good if the one that was checked is its own
pub logs_good : (f : File) (h : Heap) (log : List ℕ) → h ≡ heap_of f → log ≡ f.log → LogIsGood h log → LogIsGood (heap_of f) f.log
logs_good f h log same logs good = subst (λ l. LogIsGood (heap_of f) l) logs (subst (λ x. LogIsGood x log) same good)

-- and so are its remembered sets
pub sets_good : (f : File) (h : Heap) (sets : List (List ℕ)) → h ≡ heap_of f → sets ≡ f.remembered → SetsAreGood h sets → SetsAreGood (heap_of f) f.remembered
sets_good f h sets same own good = subst (λ l. SetsAreGood (heap_of f) l) own (subst (λ x. SetsAreGood x sets) same good)

take_same : (n : ℕ) (xs : List ℕ) → take n (take n xs) ≡ take n xs
take_same zero xs = refl
take_same (suc n) [] = refl
take_same (suc n) (x ∷ xs) = ap (λ l. x ∷ l) (take_same n xs)

-- the words of the first region
module _ (w : ℕ) (e : Entry) (es : List Entry) (ws : List ℕ) (le : table_words (e ∷ es) ≤ length ws) (top : e.top ≤ w) where
  length-front : length (take (min e.top w) ws) ≡ e.top
  length-front = omega (arith, length-take (min e.top w) ws, le, table_words-cons e es, top)

  length-chunk : length (take (min e.top w) ws ++ replicate (w - e.top) 0) ≡ w
  length-chunk = omega (arith, length-append (take (min e.top w) ws) (replicate (w - e.top) 0), length-front, length-replicate {A = ℕ} (w - e.top) 0, top)

  split : all_words w (e ∷ es) ws ≡ (take (min e.top w) ws ++ replicate (w - e.top) 0) ++ all_words w es (drop e.top ws)
  split = sym (append_assoc (take (min e.top w) ws) (replicate (w - e.top) 0) (all_words w es (drop e.top ws)))

  zero_first : (i : ℕ) → e.top ≤ i → i < w → slice_index (all_words w (e ∷ es) ws) i ≡ 0
  zero_first i ge lt =
      let place : i ≡ length (take (min e.top w) ws) + (i - e.top) = omega (arith, length-front, ge) in
      ap (λ k. slice_index (all_words w (e ∷ es) ws) k) place
      ∙ get_or-append-add (take (min e.top w) ws) (replicate (w - e.top) 0 ++ all_words w es (drop e.top ws)) (i - e.top) 0
      ∙ get_or_append_left (replicate (w - e.top) 0) (all_words w es (drop e.top ws)) 0 (i - e.top) (omega (arith, length-replicate {A = ℕ} (w - e.top) 0, ge, lt))
      ∙ get_or-replicate (w - e.top) (i - e.top) 0 0 (omega (arith, ge, lt))

  later : (k : ℕ) → slice_index (all_words w (e ∷ es) ws) (w + k) ≡ slice_index (all_words w es (drop e.top ws)) k
  later k =
      let place : w + k ≡ length (take (min e.top w) ws ++ replicate (w - e.top) 0) + k = omega (arith, length-chunk) in
      ap (λ l. slice_index l (w + k)) split ∙ ap (λ j. slice_index ((take (min e.top w) ws ++ replicate (w - e.top) 0) ++ all_words w es (drop e.top ws)) j) place
      ∙ get_or-append-add (take (min e.top w) ws ++ replicate (w - e.top) 0) (all_words w es (drop e.top ws)) k 0

  dropped : drop w (all_words w (e ∷ es) ws) ≡ all_words w es (drop e.top ws)
  dropped = ap (λ l. drop w l) split ∙ ap (λ k. drop k ((take (min e.top w) ws ++ replicate (w - e.top) 0) ++ all_words w es (drop e.top ws))) (sym length-chunk)
      ∙ drop-append_seam (take (min e.top w) ws ++ replicate (w - e.top) 0) (all_words w es (drop e.top ws))

  taken : take e.top (all_words w (e ∷ es) ws) ≡ take e.top ws
  taken =
      let m : min e.top w ≡ e.top = omega (arith, top) in
      take-append-le e.top (take (min e.top w) ws) (replicate (w - e.top) 0 ++ all_words w es (drop e.top ws)) (omega (arith, length-front))
      ∙ ap (λ k. take e.top (take k ws)) m ∙ take_same e.top ws

pub zero_at : (w : ℕ) (es : List Entry) (ws : List ℕ) (r i : ℕ) → table_words es ≤ length ws → ((q : ℕ) → q < length es → (slice_index_or es q (record { kind = 0; top = 0; flags = 0 })).top ≤ w) →
    r < length es → (slice_index_or es r (record { kind = 0; top = 0; flags = 0 })).top ≤ i → i < w → slice_index (all_words w es ws) (r * w + i) ≡ 0
zero_at w [] ws r i le tops lt ge il = absurd (omega (arith, lt))
zero_at w (e ∷ es) ws zero i le tops lt ge il =
    let place : 0 * w + i ≡ i = omega arith in
    ap (λ k. slice_index (all_words w (e ∷ es) ws) k) place ∙ zero_first w e es ws le (tops 0 (omega arith)) i ge il
zero_at w (e ∷ es) ws (suc r) i le tops lt ge il =
    let place : suc r * w + i ≡ w + (r * w + i) = omega arith in
    ap (λ k. slice_index (all_words w (e ∷ es) ws) k) place ∙ later w e es ws le (tops 0 (omega arith)) (r * w + i)
    ∙ zero_at w es (drop e.top ws) r i (omega (arith, le, table_words-cons e es, length-drop e.top ws)) (λ q l. tops (suc q) (omega (arith, l))) (omega (arith, lt)) ge il

pub used_all : (w : ℕ) (es : List Entry) (ws : List ℕ) → length ws ≡ table_words es → ((q : ℕ) → q < length es → (slice_index_or es q (record { kind = 0; top = 0; flags = 0 })).top ≤ w) →
    used_words w (map region_of_entry es) (all_words w es ws) ≡ ws
used_all w [] [] e tops = refl
used_all w [] (x ∷ ws) e tops = absurd (omega (arith, e))
used_all w (e ∷ es) ws le tops =
    let fits : table_words (e ∷ es) ≤ length ws = omega (arith, le) in
    let rest : used_words w (map region_of_entry es) (all_words w es (drop e.top ws)) ≡ drop e.top ws =
    used_all w es (drop e.top ws) (omega (arith, le, table_words-cons e es, length-drop e.top ws)) (λ q l. tops (suc q) (omega (arith, l))) in
    (λ t. taken w e es ws fits (tops 0 (omega arith)) t ++ used_words w (map region_of_entry es) (dropped w e es ws fits (tops 0 (omega arith)) t))
    ∙ ap (λ l. take e.top ws ++ l) rest ∙ take-append-drop e.top ws

kind_again : (x : ℕ) → x ≤ 3 → kind_number (kind_of x) ≡ x
kind_again zero le = refl
kind_again (suc zero) le = refl
kind_again (suc (suc zero)) le = refl
kind_again (suc (suc (suc zero))) le = refl
kind_again (suc (suc (suc (suc x)))) le = absurd (omega (arith, le))

flags_again : (x : ℕ) → x ≤ 1 → flags_of (x == 1) ≡ x
flags_again zero le = refl
flags_again (suc zero) le = refl
flags_again (suc (suc x)) le = absurd (omega (arith, le))

-- flags with a meaning are 0 or 1
small_flags : (es : List Entry) (r : ℕ) → HasKnownFlags es r → (entry es r).flags ≤ 1
small_flags es r (inl e) = omega (arith, e)
small_flags es r (inr e) = omega (arith, e.0)

-- an entry that pins is of an ordinary region
pin_ordinary : (es : List Entry) (r : ℕ) → HasKnownFlags es r → IsTrue ((entry es r).flags == 1) → kind_of (entry es r).kind ≡ Ordinary
pin_ordinary es r (inl e) t = absurd (let clash : false ≡ true = sym (ap (λ x. x == 1) e) ∙ t in cc)
pin_ordinary es r (inr e) t = ap kind_of e.1

pub table_again : (es : List Entry) → ((r : ℕ) → r < length es → IsKnownKind es r) → ((r : ℕ) → r < length es → HasKnownFlags es r) → map entry_of (map region_of_entry es) ≡ es
table_again [] known flags = refl
table_again (e ∷ es) known flags =
    let first : kind_number (kind_of e.kind) ≡ e.kind = kind_again e.kind (known 0 (omega arith)) in
    let last : flags_of (e.flags == 1) ≡ e.flags = flags_again e.flags (small_flags (e ∷ es) 0 (flags 0 (omega arith))) in
    (λ t. record { kind = first t; top = e.top; flags = last t } ∷ table_again es (λ r lt. known (suc r) (omega (arith, lt))) (λ r lt. flags (suc r) (omega (arith, lt))) t)

-- the region that an entry tells
region_is : (es : List Entry) (r : ℕ) → slice_index_or (map region_of_entry es) r free_region ≡ region_of_entry (entry es r)
region_is [] r = refl
region_is (e ∷ es) zero = refl
region_is (e ∷ es) (suc r) = region_is es r

pub region_top : (es : List Entry) (r : ℕ) → (slice_index_or (map region_of_entry es) r (record { kind = Free; top = 0; pinned = false })).top
    ≡ (slice_index_or es r (record { kind = 0; top = 0; flags = 0 })).top
region_top [] r = refl
region_top (e ∷ es) zero = refl
region_top (e ∷ es) (suc r) = region_top es r

-- a heap whose regions and references are good is valid
pub valid_heap : (h : Heap) → IsDraft h → IsGoodHeap h → ((r : ℕ) → r < h.geometry.n → MayBePinned h r) →
    ((r i : ℕ) → r < h.geometry.n → (region h r).top ≤ i → i < h.geometry.w → slice_index h.words (start h r + i) ≡ 0) → IsValid h
valid_heap h d g pins zeros = record {
  limits = d.limits;
  word_count = d.word_count;
  word_fits = d.word_fits;
  region_count = d.region_count;
  root_count = d.root_count;
  shaped = g.shaped;
  pins = pins;
  zero_above = zeros;
  roots = λ i x lt. subst (IsReference h) (sym (get_or_default_zero h.roots i x lt)) (g.roots i lt);
  slots = λ o p has slot. elim (cases_lt p (h.geometry.n * h.geometry.w)) [
    | inl lt ↦ g.slots p lt o has slot
    | inr ge ↦ inl (get_or_past h.words p 0 (omega (arith, ge, d.word_count)))
  ];
  current_in = d.current_in;
}

module _ (limits : Limits) (f : File) (fits : FileFits limits f) (shaped : AllShaped (heap_of f)) where
  tops : (q : ℕ) → q < length f.table → (slice_index_or f.table q (record { kind = 0; top = 0; flags = 0 })).top ≤ f.w
  tops q lt =
      let s = shaped q (omega (arith, lt, fits.table.how_many)) in
      omega (arith, top_by_kind (region (heap_of f) q).kind (heap_of f) q s.by_kind, region_top f.table q)

  pub zeros : (r i : ℕ) → r < f.n → (region (heap_of f) r).top ≤ i → i < f.w → slice_index (heap_of f).words (start (heap_of f) r + i) ≡ 0
  zeros r i lt ge il =
      zero_at f.w f.table f.words r i (omega (arith, fits.words.how_many)) tops (omega (arith, lt, fits.table.how_many)) (omega (arith, ge, region_top f.table r)) il

  current_again : (c n : ℕ) → c ≤ n → unwrap_or (if nat_lt c n then Some c else None) n ≡ c
  current_again c n le = by (nat_lt c n) refl where
    by : (b : Bool) → nat_lt c n ≡ b → unwrap_or (if b then Some c else None) n ≡ c
    by true e = refl
    by false e = elim (cases_lt c n) [
      | inl lt ↦ (let clash : true ≡ false = sym (lt-ltb c n lt) ∙ e in cc)
      | inr ge ↦ (let s : n ≡ c = omega (arith, ge, le) in s)
    ]

  pub file_again : AreKnown f.table f.n → file_of f.version (record { heap = heap_of f; remembered = f.remembered; log = f.log }) ≡ f
  file_again known = λ t. record {
    version = f.version;
    w = f.w;
    k = f.k;
    n = f.n;
    current = current_again f.current f.n fits.good.current t;
    table = table_again f.table (λ r lt. known.kinds r (omega (arith, lt, fits.table.how_many))) (λ r lt. known.flags r (omega (arith, lt, fits.table.how_many))) t;
    roots = f.roots;
    log = f.log;
    remembered = f.remembered;
    words = used_all f.w f.table f.words fits.words.how_many tops t;
  }

pub is_log : (h : Heap) (log : List ℕ) → length log < 2 ^ 32 → LogIsGood h log → IsLog h log
is_log h log count good = record {
  used = λ i x lt. subst (IsUsedCard h) (sym (get_or_default_zero log i x lt)) (good i lt).0;
  distinct = λ i j d lt le e. (good j le).1 i lt (sym (get_or_default_zero log i d (omega (arith, lt, le))) ∙ e ∙ get_or_default_zero log j d le);
  count = count;
}

-- where flags have a meaning, only ordinary regions are pinned
pub pins_known : (f : File) → AreKnown f.table f.n → (r : ℕ) → r < f.n → MayBePinned (heap_of f) r
pins_known f known r lt = λ t.
    ap (λ (q : Region). q.kind) (region_is f.table r) ∙ pin_ordinary f.table r (known.flags r lt) (sym (ap (λ (q : Region). q.pinned) (region_is f.table r)) ∙ t)

-- the version of a file can tell what is pinned
pub can_tell : {limits : Limits} (f : File) → FileFits limits f → CanTell f.version (heap_of f)
can_tell f fits = by f.version fits.table.each where
  by : (v : Version) → ((k : ℕ) (d : Entry) → k < length f.table → EntryFits v (slice_index_or f.table k d)) → CanTell v (heap_of f)
  by One each = λ k d lt.
      let none : Entry = record { kind = 0; top = 0; flags = 0 } in
      let within : k < length f.table = omega (arith, lt, length-map f.table region_of_entry) in
      subst (λ (q : Region). IsFalse q.pinned) (sym (get_or-map region_of_entry f.table k none d within)) (ap (λ x. x == 1) (each k none within).2)
  by Two each = tt

pub is_image : {limits : Limits} (f : File) → FileFits limits f → IsDraft (heap_of f) → IsGoodHeap (heap_of f) → AreKnown f.table f.n → LogIsGood (heap_of f) f.log → SetsAreGood (heap_of f) f.remembered →
    IsImage (record { heap = heap_of f; remembered = f.remembered; log = f.log })
is_image f fits d g known logged remembered = record {
  heap = valid_heap (heap_of f) d g (pins_known f known) (zeros _ f fits g.shaped);
  one_each = fits.remembered.how_many;
  remembered = remembered;
  log = is_log (heap_of f) f.log fits.heading.dirty logged;
}

-- an image made of the heap, the remembered sets and the log of a file that keeps all rules
pub made_image : {limits : Limits} (f : File) (h : Heap) (remembered : List (List ℕ)) (log : List ℕ) → FileFits limits f → IsDraft h → h ≡ heap_of f → remembered ≡ f.remembered → log ≡ f.log →
    IsGoodHeap (heap_of f) → AreKnown f.table f.n → LogIsGood (heap_of f) f.log → SetsAreGood (heap_of f) f.remembered → IsImage (record { heap = h; remembered = remembered; log = log })
made_image f h remembered log fits d same own logs good known logged sets =
    subst (λ l. IsImage (record { heap = h; remembered = remembered; log = l })) (sym logs)
    (subst (λ l. IsImage (record { heap = h; remembered = l; log = f.log })) (sym own)
    (subst (λ x. IsImage (record { heap = x; remembered = f.remembered; log = f.log })) (sym same) (is_image f fits (subst IsDraft same d) good known logged sets)))

pub made_text : {limits : Limits} (f : File) (h : Heap) (remembered : List (List ℕ)) (log : List ℕ) → FileFits limits f → h ≡ heap_of f → remembered ≡ f.remembered → log ≡ f.log →
    IsGoodHeap (heap_of f) → AreKnown f.table f.n → file_text f ≡ file_text (file_of f.version (record { heap = h; remembered = remembered; log = log }))
made_text f h remembered log fits same own logs good known =
    ap file_text (sym ((λ t. file_of f.version (record { heap = same t; remembered = own t; log = logs t })) ∙ file_again _ f fits good.shaped known))
