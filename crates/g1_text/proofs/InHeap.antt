-- Objects that were read one after the other are those of the heap, by address.
use Rattle.std.proofs.Common.{◌≡◌, ◌≤◌, ◌<◌, ◌⊎◌, inl, inr, ℕ, suc, ◌+◌, ◌-◌, ◌*◌, ◌^◌, List, [], ◌∷◌, ◌++◌, length, get_or, slice_index, map, flat_map, min, take, drop, replicate}
use Rattle.std.proofs.Common.{append-nil, append_assoc, length-append, length-take, refl, sym, ◌∙◌, ap, subst, arith}
use Rattle.std.specs.Prelude.{All}
use Rattle.std.specs.List.{range_with_len}
use Rattle.std.proofs.Math.Seq.{take-append_seam, drop-append_seam}
use Rattle.std.proofs.lemmas.List.{get_or_at, get_or-take, length-drop, length-replicate, nil_from_length, take-append-drop}
use Rattle.std.proofs.lemmas.List.Elements.{All-nil, All-cons}
use Rattle.g1_words.specs.Heap.{Heap, free_region, region, kind, start, end, objects, objects_in, objects_by}
use Rattle.g1_words.specs.Valid.{Tiles, HoldsBy, IsShapedBy, AllShaped}
use Rattle.g1_words.specs.declared.object.Object.{Object}
use Rattle.g1_words.specs.declared.region.Region.{Region}
use Rattle.g1_words.specs.declared.region.Kind.{Kind}
use Rattle.g1_words.specs.declared.region.Kind.TheVariants.{Free, Ordinary, HumongousFirst, Continuation}
use Rattle.g1_words.proofs.Computed.{holds_are}
use Rattle.g1_image.specs.Text.{table_words}
use Rattle.g1_image.specs.Image.{entry_of, all_words}
use Rattle.g1_image.proofs.Words.{table_words-cons}

-- these words begin with the object's header
pub record IsHead (words : List ℕ) (o : Object) : Type 0 where
  pub some : 0 < length words
  pub header : slice_index words 0 ≡ o.size * 2 ^ 32 + o.refs
  pub refs_fit : o.refs < o.size
  pub size_fits : o.size < 2 ^ 32

-- these words are those of objects end to end, from an address on
abbrev pub AreWords : ℕ → List ℕ → List Object → Type 0
AreWords from own [] = own ≡ []
AreWords from own (o ∷ os) = (o.at ≡ from) × (words rest : List ℕ) × (own ≡ words ++ rest) × (length words ≡ o.size) × IsHead words o × AreWords (from + o.size) rest os

-- these objects start in a region of this kind, which has these words
abbrev pub BeginBy : Kind → ℕ → List ℕ → List Object → Type 0
BeginBy Ordinary from own os = AreWords from own os
BeginBy HumongousFirst from own os = (o : Object) × (os ≡ o ∷ []) × (o.at ≡ from) × IsHead own o
BeginBy _ from own os = os ≡ []

-- so they do, or the region has no words yet
abbrev pub Begin : Region → ℕ → List ℕ → List Object → Type 0
Begin q from own os = ((q.top ≡ 0) × (os ≡ [])) ⊎ BeginBy q.kind from own os

-- the words of regions, and the objects that start there. So many words are left for regions behind
abbrev pub Stand : ℕ → ℕ → List Region → List ℕ → ℕ → List Object → Type 0
Stand w from [] words beyond os = (length words ≡ beyond) × (os ≡ [])
Stand w from (q ∷ qs) words beyond os =
    (own rest : List ℕ) × (first more : List Object) × (words ≡ own ++ rest) × (os ≡ first ++ more) × (length own ≡ q.top) × (q.top ≤ w) × Begin q from own first
    × Stand w (from + w) qs rest beyond more

-- ---- ONE OBJECT MORE

words_push : (from : ℕ) (own words : List ℕ) (os : List Object) (o : Object) → AreWords from own os → o.at ≡ from + length own → length words ≡ o.size → IsHead words o
    → AreWords from (own ++ words) (os ++ o ∷ [])
words_push from own words [] o none at size head =
    let long = ap length none in
    (omega (arith, at, long), words, [], ap (λ l. l ++ words) none ∙ sym (append-nil words), size, head, refl)
words_push from own words (p ∷ os) o (here, mine, rest, parts, long, first, all) at size head =
    let count = ap length parts in
    let both = length-append mine rest in (
      here,
      mine,
      rest ++ words,
      ap (λ l. l ++ words) parts ∙ append_assoc mine rest words,
      long,
      first,
      words_push (from + p.size) rest words os o all (omega (arith, at, count, both, long)) size head,
    )

module _ (q : Region) (from : ℕ) (own : List ℕ) (first : List Object) (long : length own ≡ q.top) (begins : Begin q from own first) where
  -- what an ordinary region has
  ordinary_words : q.kind ≡ Ordinary → AreWords from own first
  ordinary_words kind = elim begins [
    | inl none ↦ subst (AreWords from own) (sym none.1) (nil_from_length own (omega (arith, long, none.0)))
    | inr all ↦ subst (λ k. BeginBy k from own first) kind all
  ]

  -- what a humongous one has that is empty
  none_first : q.kind ≡ HumongousFirst → q.top ≡ 0 → first ≡ []
  none_first kind empty = elim begins [
    | inl none ↦ none.1
    | inr all ↦ (let is : BeginBy HumongousFirst from own first = subst (λ k. BeginBy k from own first) kind all in let some = is.3.some in absurd (omega (arith, some, long, empty)))
  ]

-- what the last region has with an object more
pub record TakesMore (w : ℕ) (q r : Region) (from : ℕ) (words : List ℕ) (o : Object) (beyond : ℕ) (own : List ℕ) (first : List Object) : Type 0 where
  pub now : List ℕ
  pub rest : List ℕ
  pub parts : own ++ words ≡ now ++ rest
  pub long : length now ≡ r.top
  pub within : r.top ≤ w
  pub begins : Begin r from now (first ++ o ∷ [])
  pub left : length rest ≡ beyond

pub stand_put : (w from : ℕ) (below : List Region) (q r : Region) (all words : List ℕ) (os : List Object) (o : Object) (beyond : ℕ)
    → ((own : List ℕ) (first : List Object) (at : ℕ) → at ≡ from + length below * w → length own ≡ q.top → Begin q at own first → TakesMore w q r at words o beyond own first)
    → Stand w from (below ++ q ∷ []) all 0 os → Stand w from (below ++ r ∷ []) (all ++ words) beyond (os ++ o ∷ [])
stand_put w from [] q r all words os o beyond put (own, rest, first, more, parts, those, long, within, begins, (none, last)) =
    let t = put own first from (omega arith) long begins in
    let nothing : rest ≡ [] = nil_from_length rest none in
    let whole : all ≡ own = parts ∙ ap (λ l. own ++ l) nothing ∙ append-nil own in
    let these : os ≡ first = those ∙ ap (λ l. first ++ l) last ∙ append-nil first in (
      t.now,
      t.rest,
      first ++ o ∷ [],
      [],
      ap (λ l. l ++ words) whole ∙ t.parts,
      ap (λ l. l ++ o ∷ []) these ∙ sym (append-nil (first ++ o ∷ [])),
      t.long,
      t.within,
      t.begins,
      (t.left, refl),
    )
stand_put w from (x ∷ below) q r all words os o beyond put (own, rest, first, more, parts, those, long, within, begins, behind) =
    let next : from + w + length below * w ≡ from + suc (length below) * w = omega arith in (
      own,
      rest ++ words,
      first,
      more ++ o ∷ [],
      ap (λ l. l ++ words) parts ∙ append_assoc own rest words,
      ap (λ l. l ++ o ∷ []) those ∙ append_assoc first more (o ∷ []),
      long,
      within,
      begins,
      stand_put w (from + w) below q r rest words more o beyond (λ mine those at here. put mine those at (here ∙ next)) behind,
    )

-- an object in an ordinary region
pub put_ordinary : (w : ℕ) (q : Region) (from : ℕ) (words : List ℕ) (o : Object) (own : List ℕ) (first : List Object) → q.kind ≡ Ordinary → o.at ≡ from + q.top → q.top + o.size ≤ w
    → length words ≡ o.size → IsHead words o → length own ≡ q.top → Begin q from own first → TakesMore w q (record q { top = q.top + o.size }) from words o 0 own first
put_ordinary w q from words o own first kind at fits size head long begins =
    let had = ordinary_words q from own first long begins kind in
    let both = length-append own words in
    record {
      now = own ++ words;
      rest = [];
      parts = sym (append-nil (own ++ words));
      long = omega (arith, both, long, size);
      within = fits;
      begins = inr (subst (λ k. BeginBy k from (own ++ words) (first ++ o ∷ [])) (sym kind) (words_push from own words first o had (omega (arith, at, long)) size head));
      left = refl;
    }

-- a humongous object in an empty region
pub put_humongous : (w : ℕ) (q : Region) (from : ℕ) (words : List ℕ) (o : Object) (own : List ℕ) (first : List Object) → 0 < w → q.kind ≡ HumongousFirst → q.top ≡ 0 → o.at ≡ from
    → length words ≡ o.size → IsHead words o → length own ≡ q.top → Begin q from own first → TakesMore w q (record q { top = min w o.size }) from words o (o.size - w) own first
put_humongous w q from words o own first wide kind empty at size head long begins =
    let none = none_first q from own first long begins kind empty in
    let nothing : own ≡ [] = nil_from_length own (omega (arith, long, empty)) in
    let taken = length-take (min w o.size) words in
    let dropped = length-drop (min w o.size) words in
    let some : 0 < min w o.size = omega (arith, wide, head.refs_fit) in
    let one : IsHead (take (min w o.size) words) o = record {
      some = omega (arith, taken, some, size);
      header = get_or-take (min w o.size) words 0 0 some ∙ head.header;
      refs_fit = head.refs_fit;
      size_fits = head.size_fits;
    } in
    record {
      now = take (min w o.size) words;
      rest = drop (min w o.size) words;
      parts = ap (λ l. l ++ words) nothing ∙ sym (take-append-drop (min w o.size) words);
      long = omega (arith, taken, size);
      within = omega arith;
      begins = inr (subst (λ k. BeginBy k from (take (min w o.size) words) (first ++ o ∷ [])) (sym kind) (o, ap (λ l. l ++ o ∷ []) none, at, one));
      left = omega (arith, dropped, size);
    }

-- ---- ONE REGION MORE

pub stand_push : (w from : ℕ) (qs : List Region) (q : Region) (words : List ℕ) (beyond : ℕ) (os : List Object) → q.top ≡ min w beyond → (q.kind ≡ Continuation) ⊎ (beyond ≡ 0)
    → Stand w from qs words beyond os → Stand w from (qs ++ q ∷ []) words (beyond - q.top) os
stand_push w from [] q words beyond os height may (long, none) =
    let taken = length-take q.top words in
    let dropped = length-drop q.top words in (
      take q.top words,
      drop q.top words,
      [],
      [],
      sym (take-append-drop q.top words),
      none,
      omega (arith, taken, long, height),
      omega (arith, height),
      elim may [
        | inl is ↦ inr (subst (λ k. BeginBy k from (take q.top words) []) (sym is) refl)
        | inr nothing ↦ inl (omega (arith, height, nothing), refl)
      ],
      (omega (arith, dropped, long), refl),
    )
stand_push w from (x ∷ qs) q words beyond os height may (own, rest, first, more, parts, those, long, within, begins, behind) =
    (own, rest, first, more, parts, those, long, within, begins, stand_push w (from + w) qs q rest beyond more height may behind)

pub stand_tops : (w from : ℕ) (qs : List Region) (words : List ℕ) (beyond : ℕ) (os : List Object) → Stand w from qs words beyond os → All (λ q. q.top ≤ w) qs
stand_tops w from [] words beyond os s = All-nil (λ (q : Region). q.top ≤ w)
stand_tops w from (q ∷ qs) words beyond os (own, rest, first, more, parts, those, long, within, begins, behind) =
    All-cons (λ (q : Region). q.top ≤ w) q qs within (stand_tops w (from + w) qs rest beyond more behind)

pub stand_count : (w from : ℕ) (qs : List Region) (words : List ℕ) (beyond : ℕ) (os : List Object) → Stand w from qs words beyond os → length words ≡ table_words (map entry_of qs) + beyond
stand_count w from [] words beyond os s = let long = s.0 in omega (arith, long)
stand_count w from (q ∷ qs) words beyond os (own, rest, first, more, parts, those, long, within, begins, behind) =
    let others = stand_count w (from + w) qs rest beyond more behind in
    let count = ap length parts in
    let both = length-append own rest in
    let all = table_words-cons (entry_of q) (map entry_of qs) in
    omega (arith, others, count, both, long, all)

-- ---- THE OBJECTS OF THE HEAP

head_at : (pre words post : List ℕ) → 0 < length words → slice_index (pre ++ (words ++ post)) (length pre) ≡ slice_index words 0
head_at pre [] post some = absurd (omega (arith, some))
head_at pre (x ∷ words) post some = get_or_at pre x (words ++ post) 0 (length pre) refl

tiles_of : (all pre own post : List ℕ) (from : ℕ) (os : List Object) → all ≡ pre ++ (own ++ post) → length pre ≡ from → AreWords from own os → Tiles all from os (from + length own)
tiles_of all pre own post from [] is here none = let long = ap length none in omega (arith, long)
tiles_of all pre own post from (o ∷ os) is here (at, words, rest, parts, long, head, more) =
    let whole : all ≡ pre ++ (words ++ (rest ++ post)) = is ∙ ap (λ l. pre ++ l) (ap (λ l. l ++ post) parts ∙ append_assoc words rest post) in
    let first : slice_index all o.at ≡ slice_index words 0 =
    ap (slice_index all) (at ∙ sym here) ∙ ap (λ l. slice_index l (length pre)) whole ∙ head_at pre words (rest ++ post) head.some in
    let next : length (pre ++ words) ≡ from + o.size = (let both = length-append pre words in omega (arith, both, here, long)) in
    let end : from + o.size + length rest ≡ from + length own = (let count = ap length parts in let both = length-append words rest in omega (arith, count, both, long)) in (
      at,
      record { header = first ∙ head.header; refs_fit = head.refs_fit; size_fits = head.size_fits },
      subst (Tiles all (from + o.size) os) end (tiles_of all (pre ++ words) rest post (from + o.size) os (whole ∙ sym (append_assoc pre words (rest ++ post))) next more),
    )

module _ (h : Heap) where
  -- a first region has words
  abbrev FirstsBegun : Type 0
  FirstsBegun = (r : ℕ) → r < h.geometry.n → (region h r).kind ≡ HumongousFirst → 0 < (region h r).top

  -- what a region holds
  region_holds : (q : Region) (k : Kind) (pre own post : List ℕ) (r : ℕ) (first : List Object) → q.kind ≡ k → region h r ≡ q → (k ≡ HumongousFirst → 0 < q.top) → h.words ≡ pre ++ (own ++ post)
      → length pre ≡ start h r → length own ≡ q.top → Begin q (start h r) own first → HoldsBy k h r first
  region_holds q Free pre own post r first kind is begun words here long (inl none) = none.1
  region_holds q Free pre own post r first kind is begun words here long (inr all) = subst (λ k. BeginBy k (start h r) own first) kind all
  region_holds q Continuation pre own post r first kind is begun words here long (inl none) = none.1
  region_holds q Continuation pre own post r first kind is begun words here long (inr all) = subst (λ k. BeginBy k (start h r) own first) kind all
  region_holds q Ordinary pre own post r first kind is begun words here long begins =
      let height = ap (λ (x : Region). x.top) is in
      let last : start h r + length own ≡ end h r = omega (arith, long, height) in
      subst (Tiles h.words (start h r) first) last (tiles_of h.words pre own post (start h r) first words here (ordinary_words q (start h r) own first long begins kind))
  region_holds q HumongousFirst pre own post r first kind is begun words here long (inl none) = absurd (let some = begun refl in omega (arith, some, none.0))
  region_holds q HumongousFirst pre own post r first kind is begun words here long (inr all) =
      let one : BeginBy HumongousFirst (start h r) own first = subst (λ k. BeginBy k (start h r) own first) kind all in
      let header : slice_index h.words one.0.at ≡ slice_index own 0 =
      ap (slice_index h.words) (one.2 ∙ sym here) ∙ ap (λ l. slice_index l (length pre)) words ∙ head_at pre own post one.3.some in
      (one.0, record { kind = ap (λ (x : Region). x.kind) is ∙ kind; at = one.2; object = record { header = header ∙ one.3.header; refs_fit = one.3.refs_fit; size_fits = one.3.size_fits } }, one.1)

  objects_from : (done qs : List Region) (r : ℕ) (pre words : List ℕ) (os : List Object) → FirstsBegun → h.regions ≡ done ++ qs → length done ≡ r → r + length qs ≤ h.geometry.n
      → h.words ≡ pre ++ all_words h.geometry.w (map entry_of qs) words → length pre ≡ start h r → Stand h.geometry.w (start h r) qs words 0 os → flat_map (objects_in h) (range_with_len r (length qs)) ≡ os
  objects_from done [] r pre words os begun regions many few is here (long, none) = sym none
  objects_from done (q ∷ qs) r pre words os begun regions many few is here (own, rest, first, more, parts, those, long, within, begins, behind) =
      let w : ℕ = h.geometry.w in
      let zeros : List ℕ = replicate (w - q.top) 0 in
      let others : List ℕ = all_words w (map entry_of qs) (drop q.top words) in
      let least : min q.top w ≡ length own = omega (arith, within, long) in
      let mine : take (min q.top w) words ≡ own = (λ t. take (least t) (parts t)) ∙ take-append_seam own rest in
      let left : drop q.top words ≡ rest = (λ t. drop (sym long t) (parts t)) ∙ drop-append_seam own rest in
      let whole : h.words ≡ pre ++ (own ++ (zeros ++ others)) = is ∙ ap (λ l. pre ++ (l ++ (zeros ++ others))) mine in
      let there : region h r ≡ q = ap (λ l. get_or l r free_region) regions ∙ get_or_at done q qs free_region r many in
      let holds : HoldsBy q.kind h r first =
      region_holds q q.kind pre own (zeros ++ others) r first refl there
      (λ k. subst (λ (x : Region). 0 < x.top) there (begun r (omega (arith, few)) (ap (λ (x : Region). x.kind) there ∙ k))) whole here long begins in
      let found : objects_in h r ≡ first = ap (λ (x : Region). objects_by x.kind h r) there ∙ sym (holds_are q.kind h r first holds) in
      let next : List ℕ = pre ++ (own ++ zeros) in
      let further : h.words ≡ next ++ all_words w (map entry_of qs) rest =
      whole ∙ ap (λ l. pre ++ (own ++ (zeros ++ all_words w (map entry_of qs) l))) left ∙ ap (λ l. pre ++ l) (sym (append_assoc own zeros (all_words w (map entry_of qs) rest)))
      ∙ sym (append_assoc pre (own ++ zeros) (all_words w (map entry_of qs) rest)) in
      let wide : length next ≡ start h (r + 1) =
      (let a = length-append pre (own ++ zeros) in let b = length-append own zeros in let z = length-replicate {A = ℕ} (w - q.top) 0 in let e : (r + 1) * w ≡ r * w + w = omega arith in
      omega (arith, a, b, z, e, here, long, within)) in
      let from : start h r + w ≡ start h (r + 1) = omega arith in
      let one : length (done ++ q ∷ []) ≡ r + 1 = (let both = length-append done (q ∷ []) in omega (arith, both, many)) in
      let all : flat_map (objects_in h) (range_with_len (r + 1) (length qs)) ≡ more =
      objects_from (done ++ q ∷ []) qs (r + 1) next rest more begun (regions ∙ sym (append_assoc done (q ∷ []) qs)) one (omega (arith, few)) further wide
      (subst (λ a. Stand w a qs rest 0 more) from behind) in
      (λ t. found t ++ all t) ∙ sym those

  -- THE OBJECTS OF THE HEAP are those that were read
  pub objects_are : (qs : List Region) (words : List ℕ) (os : List Object) → 0 < h.geometry.w → AllShaped h → h.regions ≡ qs → length qs ≡ h.geometry.n
      → h.words ≡ all_words h.geometry.w (map entry_of qs) words → Stand h.geometry.w 0 qs words 0 os → objects h ≡ os
  objects_are qs words os wide shaped regions many is stand =
      let origin : 0 ≡ start h 0 = omega arith in
      ap (λ n. flat_map (objects_in h) (range_with_len 0 n)) (sym many)
      ∙ objects_from [] qs 0 [] words os (λ r lt first. begun_by (region h r).kind r refl first (shaped r lt).by_kind) regions refl (omega (arith, many)) is origin
      (subst (λ a. Stand h.geometry.w a qs words 0 os) origin stand)
    where
      begun_by : (k : Kind) (r : ℕ) → (region h r).kind ≡ k → k ≡ HumongousFirst → IsShapedBy k h r → 0 < (region h r).top
      begun_by k r kind first s =
          let f : IsShapedBy HumongousFirst h r = subst (λ x. IsShapedBy x h r) first s in
          let height = f.3 in
          let large = f.2 in
          omega (arith, height, large, wide)
