-- What lines tell stands in a heap: its numbers fit into a file, and the heap's objects have the addresses that were read.
use Rattle.std.proofs.Common.{◌≡◌, ◌≤◌, ◌<◌, ◌⊎◌, inl, inr, ℕ, zero, suc, ◌+◌, ◌-◌, ◌*◌, ◌^◌, Bool, false, List, [], ◌∷◌, ◌++◌, length, map, min, replicate, append-nil, append_assoc, length-append, refl, sym, ◌∙◌, ap, subst, arith}
use Rattle.std.specs.Prelude.{Option, Some, None, IfSome, All, unwrap_or}
use Rattle.std.proofs.Math.Nat.{mul-le-mul_left}
use Rattle.std.proofs.lemmas.Bool.{cases_lt}
use Rattle.std.proofs.lemmas.List.{length-map, length-replicate}
use Rattle.std.proofs.lemmas.List.Elements.{All-nil, All-cons, All-append}
use Rattle.g1_words.specs.Geometry.{Geometry, IsWithinBounds}
use Rattle.g1_words.specs.Heap.{free_region}
use Rattle.g1_words.specs.declared.object.Object.{Object}
use Rattle.g1_words.specs.declared.region.Region.{Region}
use Rattle.g1_words.specs.declared.region.Kind.{Kind}
use Rattle.g1_words.specs.declared.region.Kind.TheVariants.{Free, Ordinary, HumongousFirst, Continuation}
use Rattle.g1_image.specs.Reading.{IsU32, IsU64}
use Rattle.g1_image.specs.Image.{entry_of, heap_of}
use Rattle.g1_text.specs.Content.{Content, Counts, HasSpace, MayFollow, words_beyond, with_region, top_behind, beyond_behind, size_with, file_with}
use Rattle.g1_text.specs.Short.{Short, RootAs, DirtyAs, Covered, RegionAs, RememberedAs, ObjectAs, Gives, GoesOn, Skips, TellsCurrent, BeginsShort, Tells, TellsAll, Closes}
use Rattle.g1_text.specs.Drafts.{StandsInHeap}
use Rattle.g1_text.proofs.Adding.{address_of}
use Rattle.g1_text.proofs.Ends.{one_end}
use Rattle.g1_text.proofs.Gathering.{map_push}
use Rattle.g1_text.proofs.InHeap.{IsHead, Stand, stand_put, stand_push, stand_tops, stand_count, put_ordinary, put_humongous, objects_are}
use Rattle.g1_text.proofs.OneHeap.{entries_small}
use Rattle.g1_text.proofs.Skipping.{goes_geometry, goes_length}
use Rattle.g1_image.proofs.FileOf.{regions_again}

-- an object may come into the region
abbrev MayTake : Region → Type 0
MayTake q = (q.kind ≡ Ordinary) ⊎ ((q.kind ≡ HumongousFirst) × (q.top ≡ 0))

-- the regions have these words and these objects, within the heap. No words are left if an object may come into the last region
pub record Stands (g : Geometry) (qs : List Region) (words : List ℕ) (beyond : ℕ) (os : List Object) : Type 0 where
  pub stand : Stand g.w 0 qs words beyond os
  pub few : length qs ≤ g.n
  pub room : length qs * g.w + beyond ≤ g.n * g.w
  pub idle : (below : List Region) (q : Region) → qs ≡ below ++ q ∷ [] → MayTake q → beyond ≡ 0

stands_none : (g : Geometry) → Stands g [] [] 0 []
stands_none g = record { stand = (refl, refl); few = omega arith; room = omega arith; idle = λ below q e may. refl }

module _ (g : Geometry) (wide : 0 < g.w) (words : List ℕ) (os : List Object) where
  rows_above : (m : ℕ) → m < g.n → (m + 1) * g.w ≤ g.n * g.w
  rows_above m lt = let rows : g.w * (m + 1) ≤ g.w * g.n = mul-le-mul_left g.w (omega (arith, lt)) in omega (arith, rows)

  -- a region more
  stands_push : (qs : List Region) (beyond : ℕ) (q : Region) → Stands g qs words beyond os → q.top ≡ min g.w beyond → (q.kind ≡ Continuation) ⊎ (beyond ≡ 0) → length qs < g.n
      → Stands g (qs ++ q ∷ []) words (beyond - q.top) os
  stands_push qs beyond q s height may lt =
      let count = length-append qs (q ∷ []) in
      let rows : length (qs ++ q ∷ []) * g.w ≡ (length qs + 1) * g.w = ap (λ n. n * g.w) count in
      let above = rows_above (length qs) lt in
      record {
        stand = stand_push g.w 0 qs q words beyond os height may s.stand;
        few = omega (arith, count, lt);
        room = omega (arith, rows, above, height, s.room);
        idle = λ below p e take.
            let same : q ≡ p = (one_end qs below q p e).1 in
            elim may [
              | inl on ↦ absurd (not_on p take (ap (λ (x : Region). x.kind) (sym same) ∙ on))
              | inr nothing ↦ omega (arith, nothing)
            ];
      }
    where
      not_on : (p : Region) → MayTake p → p.kind ≡ Continuation → ⊥
      not_on p (inl kind) on = let clash : Ordinary ≡ Continuation = sym kind ∙ on in cc
      not_on p (inr kind) on = let clash : HumongousFirst ≡ Continuation = sym kind.0 ∙ on in cc

  -- an object more, by the kind of the last region
  stands_object : (k : Kind) (below : List Region) (q : Region) (beyond : ℕ) (more : List ℕ) (o : Object) → q.kind ≡ k → HasSpace k g (length below) q.top o.size → length below < g.n
      → o.at ≡ length below * g.w + q.top → length more ≡ o.size → IsHead more o → Stands g (below ++ q ∷ []) words beyond os
      → Stands g (below ++ record q { top = top_behind k g q.top o.size } ∷ []) (words ++ more) (beyond_behind k g beyond o.size) (os ++ o ∷ [])
  stands_object Free below q beyond more o kind room lt at size head s = absurd room
  stands_object Continuation below q beyond more o kind room lt at size head s = absurd room
  stands_object Ordinary below q beyond more o kind room lt at size head s =
      let r : Region = record q { top = q.top + o.size } in
      let none = s.idle below q refl (inl kind) in
      let old = length-append below (q ∷ []) in
      let new = length-append below (r ∷ []) in
      let rows : length (below ++ r ∷ []) * g.w ≡ length (below ++ q ∷ []) * g.w = ap (λ n. n * g.w) (new ∙ sym old) in
      record {
        stand = subst (λ b. Stand g.w 0 (below ++ r ∷ []) (words ++ more) b (os ++ o ∷ [])) (sym none)
            (stand_put g.w 0 below q r words more os o 0
            (λ own first from here long begins. put_ordinary g.w q from more o own first kind (omega (arith, at, here)) room.1 size head long begins)
            (subst (λ b. Stand g.w 0 (below ++ q ∷ []) words b os) none s.stand));
        few = omega (arith, s.few, old, new);
        room = omega (arith, s.room, rows);
        idle = λ other p e take. none;
      }
  stands_object HumongousFirst below q beyond more o kind room lt at size head s =
      let r : Region = record q { top = min g.w o.size } in
      let none = s.idle below q refl (inr (kind, room.0)) in
      let new = length-append below (r ∷ []) in
      let rows : length (below ++ r ∷ []) * g.w ≡ (length below + 1) * g.w = ap (λ n. n * g.w) new in
      let above = rows_above (length below) lt in
      record {
        stand = stand_put g.w 0 below q r words more os o (o.size - g.w)
            (λ own first from here long begins. put_humongous g.w q from more o own first wide kind room.0 (omega (arith, at, here, room.0)) size head long begins)
            (subst (λ b. Stand g.w 0 (below ++ q ∷ []) words b os) none s.stand);
        few = omega (arith, new, lt);
        room = omega (arith, rows, above, room.2);
        idle = λ other p e take. let same : r ≡ p = (one_end below other r p e).1 in absurd (full p same take);
      }
    where
      full : (p : Region) → record q { top = min g.w o.size } ≡ p → MayTake p → ⊥
      full p same (inl is) = let clash : Ordinary ≡ HumongousFirst = sym is ∙ ap (λ (x : Region). x.kind) (sym same) ∙ kind in cc
      full p same (inr is) = let height = ap (λ (x : Region). x.top) same in omega (arith, height, is.1, wide, head.refs_fit)

-- WHAT WAS READ so far, of which the numbers fit
pub record Standing (c : Content) : Type 0 where
  pub bounds : IsWithinBounds c.geometry.w c.geometry.k c.geometry.n
  pub current : IfSome c.current (λ r. r < 2 ^ 32)
  pub roots : All IsU64 c.roots
  pub log : All IsU32 c.log
  pub words : All IsU64 c.words
  pub os : List Object
  pub addresses : c.addresses ≡ map address_of os
  pub stands : Stands c.geometry c.regions c.words c.beyond os

module _ (c : Content) (s : Standing c) where
  wide : 0 < c.geometry.w
  wide = omega (arith, s.bounds.w_least)

  -- a region more
  region_more : (k : Kind) (p : Bool) (counts : List Counts) → MayFollow c k → length c.regions < c.geometry.n
      → Standing (record c { regions = c.regions ++ record { kind = k; top = words_beyond c k; pinned = p } ∷ []; beyond = c.beyond - words_beyond c k; counts = counts })
  region_more k p counts may lt =
      let f = follows k may in
      record {
        bounds = s.bounds;
        current = s.current;
        roots = s.roots;
        log = s.log;
        words = s.words;
        os = s.os;
        addresses = s.addresses;
        stands = stands_push c.geometry wide c.words s.os c.regions c.beyond (record { kind = k; top = words_beyond c k; pinned = p }) s.stands f.0 f.1 lt;
      }
    where
      follows : (k : Kind) → MayFollow c k → (words_beyond c k ≡ min c.geometry.w c.beyond) × ((k ≡ Continuation) ⊎ (c.beyond ≡ 0))
      follows Continuation some = (refl, inl refl)
      follows Free none = (omega (arith, none), inr none)
      follows Ordinary none = (omega (arith, none), inr none)
      follows HumongousFirst none = (omega (arith, none), inr none)

  -- so many words are left that a region is
  region_left : 0 < c.beyond → length c.regions < c.geometry.n
  region_left some = elim (cases_lt (length c.regions) c.geometry.n) [
    | inl lt ↦ lt
    | inr ge ↦ (let past : c.geometry.w * c.geometry.n ≤ c.geometry.w * length c.regions = mul-le-mul_left c.geometry.w ge in absurd (omega (arith, past, s.stands.room, some)))
  ]

  -- an object more
  object_more : (below : List Region) (q : Region) (n : ℕ) (slots values : List ℕ) (counts : List Counts) → c.regions ≡ below ++ q ∷ [] → length below < c.geometry.n → n ≡ length below * c.geometry.w + q.top
      → HasSpace q.kind c.geometry (length below) q.top (size_with slots values) → size_with slots values < 2 ^ 32 → All IsU64 slots → All IsU64 values
      → Standing (record c {
        regions = below ++ record q { top = top_behind q.kind c.geometry q.top (size_with slots values) } ∷ [];
        beyond = beyond_behind q.kind c.geometry c.beyond (size_with slots values);
        words = c.words ++ (size_with slots values * 2 ^ 32 + length slots) ∷ (slots ++ values);
        counts = counts;
        addresses = c.addresses ++ n ∷ [];
      })
  object_more below q n slots values counts is lt at room small slots_fit values_fit =
      let size : ℕ = size_with slots values in
      let header : ℕ = size * 2 ^ 32 + length slots in
      let more : List ℕ = header ∷ (slots ++ values) in
      let o : Object = record { at = n; size = size; refs = length slots } in
      let long : length more ≡ size = (let both = length-append slots values in omega (arith, both)) in
      record {
        bounds = s.bounds;
        current = s.current;
        roots = s.roots;
        log = s.log;
        words = All-append IsU64 c.words more s.words (All-cons IsU64 header (slots ++ values) (omega (arith, small)) (All-append IsU64 slots values slots_fit values_fit));
        os = s.os ++ o ∷ [];
        addresses = ap (λ l. l ++ n ∷ []) s.addresses ∙ sym (map_push address_of s.os o);
        stands = stands_object c.geometry wide c.words s.os q.kind below q c.beyond more o refl room lt at long
            (record { some = omega arith; header = refl; refs_fit = omega arith; size_fits = small }) (subst (λ qs. Stands c.geometry qs c.words c.beyond s.os) is s.stands);
      }

-- REGIONS WITHOUT LINES
goes_standing : (c : Content) (n : ℕ) (d : Content) → GoesOn c n d → Standing c → Standing d
goes_standing c zero d e s = subst Standing e s
goes_standing c (suc n) d g s = goes_standing (with_region c Continuation) n d g.1 (region_more c s Continuation false c.counts g.0 (region_left c s g.0))

free_standing : (m : ℕ) (c : Content) → Standing c → (0 < m → c.beyond ≡ 0) → length c.regions + m ≤ c.geometry.n → Standing (record c { regions = c.regions ++ replicate m free_region })
free_standing zero c s none le = subst Standing (λ i. record c { regions = sym (append-nil c.regions) i }) s
free_standing (suc m) c s none le =
    let b = none (omega arith) in
    let one : Standing (record c { regions = c.regions ++ free_region ∷ []; beyond = c.beyond - 0 }) = region_more c s Free false c.counts b (omega (arith, le)) in
    let left : c.beyond - 0 ≡ c.beyond = omega arith in
    let count = length-append c.regions (free_region ∷ []) in
    subst Standing (λ i. record c { regions = append_assoc c.regions (free_region ∷ []) (replicate m free_region) i })
    (free_standing m (record c { regions = c.regions ++ free_region ∷ [] }) (subst Standing (λ i. record c { regions = c.regions ++ free_region ∷ []; beyond = left i }) one) (λ some. b) (omega (arith, le, count)))

skips_standing : (c : Content) (on free : ℕ) (d : Content) (skips : Skips c on free d) → Standing c → length skips.middle.regions + free ≤ skips.middle.geometry.n → Standing d
skips_standing c on free d skips s le =
    subst Standing (sym skips.adds) (free_standing free skips.middle (goes_standing c on skips.middle skips.goes_on s) skips.whole le)

-- how many regions there are behind those without lines
skipped : (c : Content) (on free : ℕ) (d : Content) (skips : Skips c on free d) → (length d.regions ≡ length skips.middle.regions + free) × (d.geometry ≡ skips.middle.geometry)
skipped c on free d skips =
    let l = ap (λ (x : Content). length x.regions) skips.adds in
    let both = length-append skips.middle.regions (replicate free free_region) in
    let many = length-replicate free free_region in
    (omega (arith, l, both, many), ap (λ (x : Content). x.geometry) skips.adds)

-- A LINE MORE
gives_standing : (l : Short) (c d : Content) → Gives c l d → Standing c → Standing d
gives_standing (RootAs m x) c d (n, told, takes) s =
    subst Standing (sym takes.3) (record {
      bounds = s.bounds;
      current = s.current;
      roots = All-append IsU64 c.roots (x ∷ []) s.roots (All-cons IsU64 x [] takes.2 (All-nil IsU64));
      log = s.log;
      words = s.words;
      os = s.os;
      addresses = s.addresses;
      stands = s.stands;
    })
gives_standing (DirtyAs cards) c d takes s =
    subst Standing (sym takes.1)
    (record { bounds = s.bounds; current = s.current; roots = s.roots; log = All-append IsU32 c.log cards s.log takes.0; words = s.words; os = s.os; addresses = s.addresses; stands = s.stands })
gives_standing Covered c d is s =
    subst Standing (sym is) (record { bounds = s.bounds; current = s.current; roots = s.roots; log = s.log; words = s.words; os = s.os; addresses = s.addresses; stands = s.stands })
gives_standing (RegionAs r k t o m p) c d (on, free, e, may, skips, count, lt, follows, pins, is) s =
    let there = skipped c on free e skips in
    let same = ap (λ (x : Geometry). x.n) there.1 in
    let kept = skips_standing c on free e skips s (omega (arith, there.0, same, lt)) in
    subst Standing (sym is) (region_more e kept k p _ follows lt)
gives_standing (RememberedAs r cards) c d takes s =
    subst Standing (sym takes.3) (record { bounds = s.bounds; current = s.current; roots = s.roots; log = s.log; words = s.words; os = s.os; addresses = s.addresses; stands = s.stands })
gives_standing (ObjectAs at slots values given) c d (n, told, takes, zeros) s =
    subst Standing (sym takes.14) (object_more c s takes.0 takes.1 n slots values _ takes.4 takes.6 takes.7 takes.9 takes.10 takes.11 takes.12)

current_small : (current : Option ℕ) (words : List (List ℕ)) → TellsCurrent current words → IfSome current (λ r. r < 2 ^ 32)
current_small None words t = tt
current_small (Some r) words (inl t) = t.4.2.2
current_small (Some r) words (inr t) = absurd (let f : ⊥ = cc in f)

begins_standing : (words : List (List ℕ)) (d : Content) → BeginsShort words d → Standing d
begins_standing words d b =
    let tail = b.line.4.4 in
    subst Standing (sym b.says) (record {
      bounds = b.limits;
      current = current_small b.current _ tail.4.4;
      roots = All-nil IsU64;
      log = All-nil IsU32;
      words = All-nil IsU64;
      os = [];
      addresses = refl;
      stands = stands_none b.geometry;
    })

tells_standing : (before : Option Content) (words : List (List ℕ)) (d : Content) → Tells before words d → IfSome before Standing → Standing d
tells_standing None words d b s = begins_standing words d b
tells_standing (Some c) words d t s = gives_standing t.0 c d t.2 s

all_standing : (before after : Option Content) (lines : List (List (List ℕ))) → TellsAll before lines after → IfSome before Standing → IfSome after Standing
all_standing before after [] e s = subst (λ o. IfSome o Standing) e s
all_standing before after (line ∷ lines) t s = all_standing (Some t.0) after lines t.2 (tells_standing before line t.0 t.1 s)

-- ALL THAT WAS READ
stands_in : (c : Content) → Standing c → length c.regions ≡ c.geometry.n → c.beyond ≡ 0 → StandsInHeap c
stands_in c s many none = record {
  fits = λ few_roots few_cards. record {
    heading = record {
      w = omega (arith, s.bounds.w_most);
      k = omega (arith, s.bounds.k_most);
      n = omega (arith, s.bounds.n_most);
      roots = few_roots;
      dirty = few_cards;
      current = named c.current s.current;
    };
    table = record { how_many = length-map c.regions entry_of ∙ many; each = entries_small c.regions tops };
    roots = s.roots;
    log = s.log;
    words = record { how_many = (let count = stand_count c.geometry.w 0 c.regions c.words c.beyond s.os s.stands.stand in omega (arith, count, none)); each = s.words };
  };
  objects = λ shaped.
      s.addresses
      ∙ ap (map address_of) (sym (objects_are (heap_of (file_with c)) c.regions c.words s.os (omega (arith, s.bounds.w_least)) shaped (regions_again c.regions) many refl
      (subst (λ b. Stand c.geometry.w 0 c.regions c.words b s.os) none s.stands.stand)));
}
  where
    tops : All (λ q. q.top < 2 ^ 32) c.regions
    tops k d lt = let low = stand_tops c.geometry.w 0 c.regions c.words c.beyond s.os s.stands.stand k d lt in omega (arith, low, s.bounds.w_most)

    named : (current : Option ℕ) → IfSome current (λ r. r < 2 ^ 32) → unwrap_or current c.geometry.n < 2 ^ 32
    named None small = omega (arith, s.bounds.n_most)
    named (Some r) small = small

pub told_stands : (lines : List (List (List ℕ))) (told c : Content) → TellsAll None lines (Some told) → Closes told c → StandsInHeap c
told_stands lines told c tells (on, most, skips, none) =
    let s : Standing told = all_standing None (Some told) lines tells tt in
    let middle = goes_standing told on skips.middle skips.goes_on s in
    let there = skipped told on (told.geometry.n - (length told.regions + on)) c skips in
    let count = goes_length told on skips.middle skips.goes_on in
    let size = ap (λ (x : Geometry). x.n) (goes_geometry told on skips.middle skips.goes_on) in
    let sizes = ap (λ (x : Geometry). x.n) there.1 in
    stands_in c (skips_standing told on (told.geometry.n - (length told.regions + on)) c skips s (omega (arith, middle.stands.few, count, size)))
    (omega (arith, there.0, sizes, middle.stands.few, count, size)) none

-- WITH OTHER REMEMBERED SETS the heap is the same
pub other_sets : (c : Content) (sets : List (List ℕ)) → StandsInHeap c → StandsInHeap (record c { covered = false; remembered = sets })
other_sets c sets s = record {
  fits = λ few_roots few_cards. let f = s.fits few_roots few_cards in record { heading = f.heading; table = f.table; roots = f.roots; log = f.log; words = f.words };
  objects = s.objects;
}
