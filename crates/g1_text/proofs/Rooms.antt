-- Objects that find room, one after the other.
use Rattle.std.proofs.Common.{◌≡◌, ◌≢◌, ◌≤◌, ◌<◌, inl, inr, ℕ, suc, ◌+◌, ◌*◌, Bool, true, false, not, ltb, List, [], ◌∷◌, ◌++◌, length, slice_index, map, set, append-nil, append_assoc, length-append, refl, sym, ◌∙◌, ap, subst, arith}
use Rattle.std.specs.Prelude.{Option, Some, None, Result, Ok, Err, is_ok, OnOk, IfOk, IfErr, All, Contains, MatchBool}
use Rattle.std.specs.Option.{SomeIff, ok_or}
use Rattle.std.proofs.Math.Nat.{mul-le-mul_left}
use Rattle.std.proofs.lemmas.Bool.{cases_lt, false≢true, lt-ltb, le-ltb}
use Rattle.std.proofs.lemmas.List.{map-append, get_or-set_other, get_or-set_same, get_or_at}
use Rattle.std.proofs.lemmas.List.Elements.{All-nil, All-push, All-append, Contains-push, Contains-append_left, Contains-append_right}
use Rattle.g1_words.specs.Geometry.{Geometry, IsWithinBounds}
use Rattle.g1_words.specs.declared.object.Object.{Object}
use Rattle.g1_words.specs.declared.region.Region.{Region}
use Rattle.g1_words.specs.declared.region.Kind.{Kind}
use Rattle.g1_words.specs.declared.region.Kind.TheVariants.{Free, Ordinary, HumongousFirst, Continuation}
use Rattle.g1_text.specs.declared.placing.Entry.{Entry}
use Rattle.g1_text.specs.Content.{Content, HasSpace, top_behind, beyond_behind}
use Rattle.g1_text.specs.Laid.{AreLaid, IsLaid, laid_content, ArePassed, AreOrdered, IsAddress, is_large, placed, size_at}
use Rattle.g1_text.proofs.Ends.{one_end}
use Rattle.g1_text.proofs.Laying.{laid_room}

pub on_ok_true : {T E P : Type 0} (r : Result T E) → is_ok r ≡ true → OnOk r P → P
on_ok_true (Ok x) t p = p
on_ok_true (Err e) t p = absurd (false≢true t)

pub if_err_false : {T E P : Type 0} (r : Result T E) → is_ok r ≡ false → IfErr r (λ _. P) → P
if_err_false (Ok x) f p = absurd (false≢true (sym f))
if_err_false (Err e) f p = p

-- a call that takes room in the last region, and leaves this
abbrev pub TakesRoom : ℕ → Content → Content → Type 0
TakesRoom size c d =
    (below : List Region) × (q : Region) × (c.regions ≡ below ++ q ∷ []) × HasSpace q.kind c.geometry (length below) q.top size
    × (d ≡ record c { regions = below ++ record q { top = top_behind q.kind c.geometry q.top size } ∷ []; beyond = beyond_behind q.kind c.geometry c.beyond size })

-- the address of the next word is that of a heap
pub small_address : (g : Geometry) (r top at : ℕ) → IsWithinBounds g.w g.k g.n → r < g.n → top ≤ g.w → at ≡ r * g.w + top → IsAddress at
small_address g r top at bounds lt le e =
    let wide : g.w * (r + 1) ≤ g.w * g.n = mul-le-mul_left g.w (omega (arith, lt)) in
    omega (arith, wide, le, e, bounds.words_most)

module _ (g : Geometry) (below : List Region) (q : Region) (size : ℕ) (c d : Content) (e : c ≡ laid_content g (below ++ q ∷ []) 0) (takes : TakesRoom size c d) where
  ends : (takes.0 ≡ below) × (takes.1 ≡ q)
  ends = one_end takes.0 below takes.1 q (sym takes.2 ∙ ap (λ (x : Content). x.regions) e)

  pub space_taken : HasSpace q.kind g (length below) q.top size
  space_taken =
      subst (λ (x : Region). HasSpace x.kind g (length below) x.top size) ends.1
      (subst (λ b. HasSpace takes.1.kind g (length b) takes.1.top size) ends.0 (subst (λ (x : Content). HasSpace takes.1.kind x.geometry (length takes.0) takes.1.top size) e takes.3))

  pub room_taken : d ≡ laid_content g (below ++ record q { top = top_behind q.kind g q.top size } ∷ []) (beyond_behind q.kind g 0 size)
  room_taken =
      takes.4
      ∙ (λ i. record (e i) {
        regions = ends.0 i ++ record (ends.1 i) { top = top_behind (ends.1 i).kind (e i).geometry (ends.1 i).top size } ∷ [];
        beyond = beyond_behind (ends.1 i).kind (e i).geometry (e i).beyond size;
      })

pub last_top : (g : Geometry) (below : List Region) (q : Region) (os : List Object) → AreLaid g (below ++ q ∷ []) 0 os → q.top ≤ g.w
last_top g below q os laid = let here = get_or_at below q [] q (length below) refl in subst (λ (x : Region). x.top ≤ g.w) here (laid.tops (length below) q (omega (arith, length-append below (q ∷ []))))

-- an ordinary object
pub small_taken : (g : Geometry) (os : List Object) (below : List Region) (q : Region) (o : Object) (d : Content) → AreLaid g (below ++ q ∷ []) 0 os → 4 * o.size ≤ 3 * g.w → o.at ≡ length below * g.w + q.top
    → HasSpace q.kind g (length below) q.top o.size → d ≡ laid_content g (below ++ record q { top = top_behind q.kind g q.top o.size } ∷ []) (beyond_behind q.kind g 0 o.size) → IsLaid g (os ++ o ∷ []) d
small_taken g os below q o d laid small at space e = by q.kind refl space e
  where
    by : (k : Kind) → q.kind ≡ k → HasSpace k g (length below) q.top o.size → d ≡ laid_content g (below ++ record q { top = top_behind k g q.top o.size } ∷ []) (beyond_behind k g 0 o.size) → IsLaid g (os ++ o ∷ []) d
    by Ordinary kind room f = (below ++ record q { top = q.top + o.size } ∷ [], laid_room g os below q o laid kind at room.1, f)
    by HumongousFirst kind room f = absurd (omega (arith, room.1, small))
    by Free kind room f = absurd room
    by Continuation kind room f = absurd room

-- PASSES OVER THE LINES
module _ (g : Geometry) (entries : List Entry) (humongous : Bool) (before : List ℕ) where
  pub none_passed : ArePassed g entries humongous 0 before before
  none_passed = record { more = []; order = sym (append-nil before); places = All-nil (λ k. (k < 0) × (is_large g entries k ≡ humongous)); all = λ k lt large. absurd (omega (arith, lt)) }

  abbrev Passed : ℕ → List ℕ → Type 0
  Passed end after = ArePassed g entries humongous end before after

  pub one_passed_by : (i : ℕ) (after : List ℕ) → Passed i after → (is_large g entries i ≡ humongous → ⊥) → Passed (i + 1) after
  one_passed_by i after p other = record {
    more = p.more;
    order = p.order;
    places = λ k d lt. let q = p.places k d lt in (omega (arith, q.0), q.1);
    all = λ k lt large. elim (cases_lt k i) [
      | inl less ↦ p.all k less large
      | inr ge ↦ (let same : k ≡ i = omega (arith, ge, lt) in absurd (other (subst (λ j. is_large g entries j ≡ humongous) same large)))
    ];
  }

  pub one_passed : (i : ℕ) (after : List ℕ) → Passed i after → is_large g entries i ≡ humongous → Passed (i + 1) (after ++ i ∷ [])
  one_passed i after p is = record {
    more = p.more ++ i ∷ [];
    order = ap (λ l. l ++ i ∷ []) p.order ∙ append_assoc before p.more (i ∷ []);
    places = All-push (λ k. (k < i + 1) × (is_large g entries k ≡ humongous)) p.more i (λ k d lt. let q = p.places k d lt in (omega (arith, q.0), q.1)) (omega arith, is);
    all = λ k lt large. elim (cases_lt k i) [
      | inl less ↦ Contains-append_left p.more (i ∷ []) k (p.all k less large)
      | inr ge ↦ (let same : i ≡ k = omega (arith, ge, lt) in subst (Contains (p.more ++ i ∷ [])) same (Contains-push p.more i))
    ];
  }

  -- a place that comes next was not placed before
  pub is_fresh : (i : ℕ) (after : List ℕ) → Passed i after → is_large g entries i ≡ humongous → All (λ k. is_large g entries k ≡ not humongous) before → All (λ k. k ≢ i) after
  is_fresh i after p is others =
      subst (All (λ k. k ≢ i)) (sym p.order) (All-append (λ k. k ≢ i) before p.more
      (λ k d lt same. not_both humongous (sym is ∙ ap (is_large g entries) (sym same) ∙ others k d lt))
      (λ k d lt same. let q = p.places k d lt in absurd (omega (arith, q.0, same))))
    where
      not_both : (b : Bool) → b ≡ not b → ⊥
      not_both true e = false≢true (sym e)
      not_both false e = false≢true e

-- the other objects keep their addresses
module _ (entries : List Entry) (ats : List ℕ) (i at : ℕ) where
  one_kept : (k : ℕ) → k ≢ i → placed entries (set ats i at) k ≡ placed entries ats k
  one_kept k other = let same = get_or-set_other ats i k at 0 other in λ t. record { at = same t; size = size_at entries k; refs = slice_index (map (λ e. e.slots) entries) k }

  kept : (order : List ℕ) → All (λ k. k ≢ i) order → map (placed entries (set ats i at)) order ≡ map (placed entries ats) order
  kept [] other = refl
  kept (k ∷ order) other =
      let first = one_kept k (other 0 k (omega arith)) in
      let rest = kept order (λ j d lt. other (suc j) d (omega (arith, lt))) in
      λ t. first t ∷ rest t

  pub more_placed : (order : List ℕ) (size : ℕ) → All (λ k. k ≢ i) order → i < length ats → size ≡ size_at entries i
      → map (placed entries (set ats i at)) (order ++ i ∷ []) ≡ map (placed entries ats) order ++ record { at = at; size = size; refs = slice_index (map (λ e. e.slots) entries) i } ∷ []
  more_placed order size other lt is =
      let here = get_or-set_same ats i at 0 lt in
      map-append (placed entries (set ats i at)) order (i ∷ [])
      ∙ (λ t. kept order other t ++ record { at = here t; size = sym is t; refs = slice_index (map (λ e. e.slots) entries) i } ∷ [])

-- both passes
pub both_passed : (g : Geometry) (entries : List Entry) (first second : List ℕ) → ArePassed g entries false (length entries) [] first → ArePassed g entries true (length entries) first second → AreOrdered entries second
both_passed g entries first second p q = record {
  places = subst (All (λ k. k < length entries)) (sym q.order)
      (All-append (λ k. k < length entries) first q.more (subst (All (λ k. k < length entries)) (sym p.order) (λ k d lt. (p.places k d lt).0)) (λ k d lt. (q.places k d lt).0));
  all = λ k lt. by (is_large g entries k) k refl lt;
}
  where
    by : (b : Bool) (k : ℕ) → is_large g entries k ≡ b → k < length entries → Contains second k
    by false k e lt = subst (λ l. Contains l k) (sym q.order) (Contains-append_left first q.more k (subst (λ l. Contains l k) (sym p.order) (p.all k lt e)))
    by true k e lt = subst (λ l. Contains l k) (sym q.order) (Contains-append_right first q.more k (q.all k lt e))

-- a sum that was computed, or an error
pub sum_made : {E : Type 0} (fits : Type 0) (sum : ℕ) (o : Option ℕ) (e : E) (r : Result ℕ E) → SomeIff o fits sum → r ≡ ok_or o e → IfOk r (λ x. x ≡ sum)
sum_made fits sum None e r s is = subst (λ q. IfOk q (λ x. x ≡ sum)) (sym is) tt
sum_made fits sum (Some x) e r s is = subst (λ q. IfOk q (λ x. x ≡ sum)) (sym is) s.1

-- a test that was made
pub decided : (a b : ℕ) (h : Bool) → ltb a b ≡ h → MatchBool h (a < b) (b ≤ a)
decided a b h e = elim (cases_lt a b) [
  | inl lt ↦ subst (λ x. MatchBool x (a < b) (b ≤ a)) (sym (lt-ltb a b lt) ∙ e) lt
  | inr ge ↦ subst (λ x. MatchBool x (a < b) (b ≤ a)) (sym (le-ltb a b ge) ∙ e) ge
]

pub not_same : (b h : Bool) → b ≡ not h → b ≡ h → ⊥
not_same b true e f = false≢true (sym e ∙ f)
not_same b false e f = false≢true (sym f ∙ e)

pub when_false : {b : Bool} (P Q : Type 0) → b ≡ false → MatchBool b P Q → Q
when_false P Q e m = subst (λ x. MatchBool x P Q) e m
