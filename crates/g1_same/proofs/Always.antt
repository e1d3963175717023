-- Two valid heaps show one graph or have a first difference: the walk over both, without memory that can run out.
use Rattle.std.proofs.Common.{◌≡◌, ℕ, zero, suc, ◌+◌, ◌<◌, ◌≤◌, ◌^◌, ◌%◌, ◌⊎◌, inl, inr, List, [], ◌∷◌, length, Contains, refl, sym, ap, subst, ◌∙◌, arith, slice_index, Vec, Global}
use Rattle.std.proofs.lemmas.Bool.{cases_lt}
use Rattle.std.proofs.lemmas.List.{length_push}
use Rattle.g1_words.specs.Geometry.{most_words}
use Rattle.g1_words.specs.Heap.{Heap, word, object_at, objects}
use Rattle.g1_words.specs.Valid.{IsValid, IsReference}
use Rattle.g1_words.specs.Graph.{SameGraph}
use Rattle.g1_words.proofs.Sound.{object_in}
use Rattle.g1_image.proofs.Decided.{decided_eq}
use Rattle.g1_same.specs.declared.walk.Walk.{Walk}
use Rattle.g1_same.specs.declared.meeting.Met.{Met}
use Rattle.g1_same.specs.declared.meeting.Met.TheVariants.{Known, New, Clash}
use Rattle.g1_same.specs.declared.difference.How.{How}
use Rattle.g1_same.specs.declared.difference.Difference.{Difference}
use Rattle.g1_same.specs.declared.difference.Difference.TheVariants.{Roots, At}
use Rattle.g1_same.specs.Same.{IsFirstDifference}
use Rattle.g1_same.specs.Walk.{IsWalk, IsWay, IsBelow, IsLinked, HasGrown, IsMet, IsSeen, IsLeast, IsRoute, root, slot}
use Rattle.g1_same.proofs.Linked.{Stop, IsStop, LinksRoots, LinksSlots, LinksPairs, LinksTo}
use Rattle.g1_same.specs.Laws.{SameOrDiffers}
use Rattle.g1_same.proofs.Heaps.{object_named, root_names, slot_names}
use Rattle.g1_same.proofs.Adding.{IsAdded, added_grown, added_walk, added_linked, added_below, linked_by, grown_same, few_pairs, pairs_fit}
use Rattle.g1_same.proofs.Steps.{roots_more, roots_kept, slots_more, pairs_more, pairs_kept}
use Rattle.g1_same.proofs.Routes.{route_of, route_some}
use Rattle.g1_same.proofs.Order.{earlier_up}
use Rattle.g1_same.proofs.Between.{way_within}
use Rattle.g1_same.proofs.Behind.{below_next}
use Rattle.g1_same.proofs.Renamed.{same}
use Rattle.g1_same.proofs.First.{first}
use Rattle.g1_same.proofs.Made.{listed, empty_walk, empty_is_walk, more_walk, more_added}
use Rattle.g1_same.proofs.Meets.{met}

below_up : (w : Walk) (f n : ℕ) → IsBelow w f n → IsBelow w (suc f) 0
below_up w f n below i p = earlier_up (slice_index w.from.items i) (slice_index w.number.items i) f n (below i p)

module _ (g h : Heap) (left : IsValid g) (right : IsValid h) where
  -- what two words make of a walk: one that links them, or a stop
  abbrev Stepped : Walk → ℕ → ℕ → ℕ → ℕ → Type 0
  Stepped w f n x y =
      ((v : Walk) × IsWalk g h v × HasGrown w v × IsLinked v f n x y × IsBelow v f (n + 1))
      ⊎ ((how : How) × IsSeen g h w how x y × IsLeast g h w how x y)

  -- any two words are linked or disagree
  stepped : (w : Walk) (f n x y : ℕ) → IsWalk g h w → IsBelow w f n → IsWay g h w.before.items w.after.items f n x y → f ≤ length w.before.items
      → IsReference g x → IsReference h y → Stepped w f n x y
  stepped w f n x y walk below way back x_in y_in = let m = met g h left right w walk x y x_in y_in in go m.0 m.1
    where
      go : (m : Met) → IsMet g h w x y m → Stepped w f n x y
      go Known p = inl (w, walk, grown_same w, linked_by w f n x y below p, below_next w f n below)
      go (Clash how) p = inr (how, p.0, p.1)
      go (New a b) p =
          let v : Walk = more_walk g h left right w walk f n a b in
          let e : IsAdded w v f n a b = more_added g h left right w walk f n a b in
          let a_in : Contains (objects g) (object_at g a) = object_named g x a left x_in p.0 in
          let b_in : Contains (objects h) (object_at h b) = object_named h y b right y_in p.1 in
          let a_lt : a < length w.new_of.items = let o = object_in g a left a_in in omega (arith, o.0, o.1, walk.table_before) in
          let b_lt : b < length w.old_of.items = let o = object_in h b right b_in in omega (arith, o.0, o.1, walk.table_after) in
          let way' : IsWay g h w.before.items w.after.items f n (suc a) (suc b) =
          subst (λ z. IsWay g h w.before.items w.after.items f n z (suc b)) p.0 (subst (λ z. IsWay g h w.before.items w.after.items f n x z) p.1 way) in
          inl (
            v,
            added_walk g h w v f n a b walk e a_in b_in p.4 a_lt b_lt p.2 p.3 way' back below,
            added_grown g h w v f n a b walk e,
            subst (λ z. IsLinked v f n z y) (sym p.0) (subst (λ z. IsLinked v f n (suc a) z) (sym p.1) (added_linked g h w v f n a b walk e)),
            added_below g h w v f n a b walk e below,
          )

  -- a walk that ends at two words that disagree, with all before them linked
  pub record Ended : Type 0 where
    pub at : Walk
    pub stop : Stop
    pub walk : IsWalk g h at
    pub stops : IsStop g h at stop
    pub links : LinksTo g h at stop.way.from stop.way.number

  -- ---- the roots

  pub record RootsLinked (k : ℕ) : Type 0 where
    pub at : Walk
    pub walk : IsWalk g h at
    pub linked : LinksRoots g h at k
    pub below : IsBelow at 0 k

  module _ (count : length g.roots ≡ length h.roots) where
    -- the first roots, by number
    walk_roots : (k : ℕ) → k ≤ length g.roots → RootsLinked k ⊎ Ended
    walk_roots zero le = inl (record {
      at = empty_walk g h left right;
      walk = empty_is_walk g h left right;
      linked = λ n p. absurd (omega (arith, p));
      below = λ i p. absurd (omega (arith, p));
    })
    walk_roots (suc k) le = elim (walk_roots k (omega (arith, le))) [
      | inr ended ↦ inr ended
      | inl r ↦ next r
    ]
      where
        next : RootsLinked k → RootsLinked (suc k) ⊎ Ended
        next r =
            let w : Walk = r.at in
            let x : ℕ = slice_index g.roots k in
            let y : ℕ = slice_index h.roots k in
            let x_lt : k < length g.roots = omega (arith, le) in
            let y_lt : k < length h.roots = omega (arith, le, count) in
            let way : IsWay g h w.before.items w.after.items 0 k x y = (x_lt, y_lt, refl, refl) in
            let one : k + 1 ≡ suc k = omega arith in
            elim (stepped w 0 k x y r.walk r.below way (omega arith) (root_names g k left x_lt) (root_names h k right y_lt)) [
              | inl s ↦ inl (record {
                at = s.0;
                walk = s.1;
                linked = subst (LinksRoots g h s.0) one (roots_more g h w s.0 k s.2 r.linked s.3);
                below = subst (IsBelow s.0 0) one s.4;
              })
              | inr c ↦ inr (record {
                at = w;
                stop = record { way = record { from = 0; number = k }; how = c.0 };
                walk = r.walk;
                stops = (x, y, way, c.1, r.below, c.2);
                links = r.linked;
              })
            ]

    -- ---- the slots of the pair at a place

    pub record SlotsLinked (m a k : ℕ) : Type 0 where
      pub at : Walk
      pub walk : IsWalk g h at
      pub place : m < length at.before.items
      pub object : slice_index at.before.items m ≡ a
      pub roots : LinksRoots g h at (length g.roots)
      pub pairs : LinksPairs g h at m
      pub linked : LinksSlots g h at m k
      pub below : IsBelow at (suc m) k

    -- one slot more
    next_slot : (m a k : ℕ) → SlotsLinked m a k → k < (object_at g a).refs → SlotsLinked m a (suc k) ⊎ Ended
    next_slot m a k r few =
        let w : Walk = r.at in
        let c : ℕ = slice_index w.before.items m in
        let b : ℕ = slice_index w.after.items m in
        let x : ℕ = word g (c + 1 + k) in
        let y : ℕ = word h (b + 1 + k) in
        let lt : k < (object_at g c).refs = subst (λ z. k < (object_at g z).refs) (sym r.object) few in
        let refs : (object_at g c).refs ≡ (object_at h b).refs = ap (λ z. z % 2 ^ 32) (r.walk.alike m r.place).header in
        let y_lt : k < (object_at h b).refs = omega (arith, lt, refs) in
        let way : IsWay g h w.before.items w.after.items (suc m) k x y = (r.place, lt, y_lt, refl, refl) in
        let one : k + 1 ≡ suc k = omega arith in
        let x_in : IsReference g x = slot_names g c k left (r.walk.names_before m r.place) lt in
        let y_in : IsReference h y = slot_names h b k right (r.walk.names_after m r.place) y_lt in
        elim (stepped w (suc m) k x y r.walk r.below way (omega (arith, r.place)) x_in y_in) [
          | inl s ↦ inl (record {
            at = s.0;
            walk = s.1;
            place = omega (arith, r.place, s.2.more);
            object = s.2.olds m r.place ∙ r.object;
            roots = roots_kept g h w s.0 (length g.roots) s.2 r.roots;
            pairs = pairs_kept g h w s.0 m s.2 (omega (arith, r.place)) r.pairs;
            linked = subst (LinksSlots g h s.0 m) one (slots_more g h w s.0 m k c b s.2 r.place refl refl r.linked s.3);
            below = subst (IsBelow s.0 (suc m)) one s.4;
          })
          | inr d ↦ inr (record {
            at = w;
            stop = record { way = record { from = suc m; number = k }; how = d.0 };
            walk = r.walk;
            stops = (x, y, way, d.1, r.below, d.2);
            links = (r.roots, r.pairs, r.linked);
          })
        ]

    pub record PairsLinked (m : ℕ) : Type 0 where
      pub at : Walk
      pub walk : IsWalk g h at
      pub within : m ≤ length at.before.items
      pub roots : LinksRoots g h at (length g.roots)
      pub pairs : LinksPairs g h at m
      pub below : IsBelow at (suc m) 0

    -- the first slots
    walk_slots : (m k : ℕ) (r : PairsLinked m) → m < length r.at.before.items → k ≤ (object_at g (slice_index r.at.before.items m)).refs
        → SlotsLinked m (slice_index r.at.before.items m) k ⊎ Ended
    walk_slots m zero r lt le = inl (record {
      at = r.at;
      walk = r.walk;
      place = lt;
      object = refl;
      roots = r.roots;
      pairs = r.pairs;
      linked = λ n p. absurd (omega (arith, p));
      below = r.below;
    })
    walk_slots m (suc k) r lt le = elim (walk_slots m k r lt (omega (arith, le))) [
      | inl s ↦ next_slot m (slice_index r.at.before.items m) k s (omega (arith, le))
      | inr ended ↦ inr ended
    ]

    -- ---- all pairs

    -- all slots of one pair more
    next_pair : (m : ℕ) (r : PairsLinked m) → m < length r.at.before.items → PairsLinked (suc m) ⊎ Ended
    next_pair m r lt =
        let a : ℕ = slice_index r.at.before.items m in
        let one : m + 1 ≡ suc m = omega arith in
        elim (walk_slots m (object_at g a).refs r lt (omega arith)) [
          | inr ended ↦ inr ended
          | inl s ↦ inl (record {
            at = s.at;
            walk = s.walk;
            within = omega (arith, s.place);
            roots = s.roots;
            pairs = subst (LinksPairs g h s.at) one (pairs_more g h s.at s.at m (grown_same s.at) s.place s.pairs
                (subst (λ z. LinksSlots g h s.at m (object_at g z).refs) (sym s.object) s.linked));
            below = below_up s.at (suc m) (object_at g a).refs s.below;
          })
        ]

    -- the slots of all pairs are linked
    finished : (m : ℕ) (r : PairsLinked m) → length r.at.before.items ≤ m → SameGraph g h
    finished m r ge =
        let all : m ≡ length r.at.before.items = omega (arith, ge, r.within) in
        same g h left right r.at r.walk count r.roots (subst (LinksPairs g h r.at) all r.pairs)

    -- each pair is another object, so there are at most as many as words
    walk_pairs : (t m : ℕ) → length g.words ≤ m + t → PairsLinked m → SameGraph g h ⊎ Ended
    walk_pairs zero m enough r = inl (finished m r (let few = few_pairs g h r.at left r.walk in omega (arith, few, enough)))
    walk_pairs (suc t) m enough r = elim (cases_lt m (length r.at.before.items)) [
      | inr ge ↦ inl (finished m r ge)
      | inl lt ↦ elim (next_pair m r lt) [
        | inl s ↦ walk_pairs t (suc m) (omega (arith, enough)) s
        | inr ended ↦ inr ended
      ]
    ]

    walked : SameGraph g h ⊎ Ended
    walked = elim (walk_roots (length g.roots) (omega arith)) [
      | inr ended ↦ inr ended
      | inl r ↦ walk_pairs (length g.words) 0 (omega arith) (record {
        at = r.at;
        walk = r.walk;
        within = omega arith;
        roots = r.linked;
        pairs = λ i p. absurd (omega (arith, p));
        below = below_up r.at 0 (length g.roots) r.below;
      })
    ]

    -- ---- the path of a stop

    route_short : (w : Walk) (f n : ℕ) (p : List ℕ) → IsWalk g h w → IsRoute w f n p → length p ≤ f + 1
    route_short w f n p walk (root m) = omega arith
    route_short w f n p walk (slot j m q lt r) =
        let back = walk.backward j lt in
        let k = route_short w (slice_index w.from.items j) (slice_index w.number.items j) q walk r in
        omega (arith, back, k, length_push q m)

    abbrev First : Type 0
    First = (d : Difference) × IsFirstDifference g h d

    -- the first difference at this path
    told_by : (e : Ended) (p : List ℕ) → IsRoute e.at e.stop.way.from e.stop.way.number p → length p < 2 ^ 63 → 0 < length p → First
    told_by e [] r small some = absurd (omega (arith, some))
    told_by e (k ∷ ss) r small some =
        let v : Vec ℕ Global = listed ss (omega (arith, small)) in
        (At k v e.stop.how, first g h left right e.at e.walk e.stop k v count e.links e.stops r)

    told : Ended → First
    told e =
        let f : ℕ = e.stop.way.from in
        let n : ℕ = e.stop.way.number in
        let within : f ≤ length e.at.before.items = way_within g h e.at f n e.stops.0 e.stops.1 e.stops.2 in
        let r = route_of g h e.at e.walk f n within in
        let short = route_short e.at f n r.0 e.walk r.1 in
        let fit : length e.at.before.items ≤ most_words = pairs_fit g h e.at left e.walk in
        told_by e r.0 r.1 (omega (arith, short, within, fit)) (route_some e.at f n r.0 r.1)

    pub same_or_first : SameGraph g h ⊎ First
    same_or_first = elim walked [ inl s ↦ inl s | inr e ↦ inr (told e) ]

pub same_or_differs : SameOrDiffers
same_or_differs g h left right = elim (decided_eq (length g.roots) (length h.roots)) [
  | inl count ↦ same_or_first g h left right count
  | inr ne ↦ inr (Roots (length g.roots) (length h.roots), record { is = (refl, refl, ne); earliest = tt })
]
