-- What keeps an object, by what a search returned.
use Rattle.std.proofs.Common.{◌≡◌, ◌<◌, ℕ, suc, inl, inr, true, false, List, [], ◌∷◌, Contains, refl, sym, ◌∙◌, ap, subst, Vec, Global}
use Rattle.std.specs.Prelude.{Option, Some, None, IfSome, IfNone, Result, Ok, Err, IfOk, IfErr}
use Rattle.std.proofs.lemmas.Bool.{false≢true}
use Rattle.std.proofs.lemmas.List.Elements.{All-nil}
use Rattle.g1_words.specs.declared.fault.Fault.{Fault}
use Rattle.g1_words.specs.declared.fault.Fault.TheVariants.{Memory}
use Rattle.g1_words.specs.Heap.{Heap, kind, region_of, is_first, object_at, objects}
use Rattle.g1_words.specs.Live.{Live}
use Rattle.g1_words.specs.Survivors.{Survivors}
use Rattle.g1_words.specs.Valid.{IsValid}
use Rattle.g1_words.proofs.OneToOne.{reached_object}
use Rattle.g1_words.proofs.Sound.{sound}
use Rattle.g1_words.proofs.Lists.{all_from_in}
use Rattle.g1_words.proofs.Members.{none_contains}
use Rattle.g1_image.specs.Image.{Image}
use Rattle.g1_rem.specs.Entries.{uncovered_into, IsEntryFault}
use Rattle.g1_rem.specs.Starts.{card_count}
use Rattle.g1_rem.proofs.Rising.{Rises-increasing}
use Rattle.g1_mark.specs.Marked.{used}
use Rattle.g1_mark.proofs.Reaching.{reached_from_live}
use Rattle.g1_mark.proofs.Used.{slot_used}
use Rattle.g1_same.specs.Path.{LeadsTo}
use Rattle.g1_explain.specs.declared.finder.Finder.{Finder}
use Rattle.g1_explain.specs.declared.finder.Finder.TheVariants.{Root, Card, Object as Slot}
use Rattle.g1_explain.specs.declared.humongous.Keeper.TheVariants.{By}
use Rattle.g1_explain.specs.declared.paths.Leg.{Leg}
use Rattle.g1_explain.specs.declared.paths.Entry.{Entry}
use Rattle.g1_explain.specs.declared.paths.Reason.{Reason}
use Rattle.g1_explain.specs.declared.paths.Reason.TheVariants as reason
use Rattle.g1_explain.specs.Keepers.{first_keeper}
use Rattle.g1_explain.specs.Searched.{AreObjects, IsSearch, IsFoundPath}
use Rattle.g1_explain.specs.Keeping.{leg, AreLegs, card, path_of, LeadsInto, IsFirst, IsEntry, IsUnrooted, IsPlain, IsLarge, IsReason, IsReasonFault, StartsAtSlot, is_known, outside_leads}
use Rattle.g1_explain.proofs.Kept.{live_path, entered_path}
use Rattle.g1_explain.proofs.Known.{entered_known, outside_known}
use Rattle.g1_explain.proofs.Outside.{IsOutsideSlot, starts_at_slot, first_outside}

pub some_of : {X E : Type 0} (P Q : X → Type 0) → ((x : X) → P x → Q x) → (r : Result (Option X) E) → IfOk r (λ o. IfSome o P) → IfOk r (λ o. IfSome o Q)
some_of P Q f (Ok (Some x)) p = f x p
some_of P Q f (Ok None) p = tt
some_of P Q f (Err e) p = tt

pub none_of : {X E : Type 0} (P Q : Type 0) → (P → Q) → (r : Result (Option X) E) → IfOk r (λ o. IfNone o P) → IfOk r (λ o. IfNone o Q)
none_of P Q f (Ok (Some x)) p = tt
none_of P Q f (Ok None) p = f p
none_of P Q f (Err e) p = tt

-- what a search finds are objects
pub found_objects : (h : Heap) (set found : List ℕ) → IsValid h → Survivors h set found → AreObjects h found
found_objects h set found valid s =
    all_from_in (λ a. Contains (objects h) (object_at h a)) found (λ a k. reached_object h set (sound h valid) a ((s.reached a).0 k))

module _ (h : Heap) (valid : IsValid h) (found : List ℕ) (survivors : Survivors h (used h) found) (a : ℕ) where
  -- no card has to be looked at where all regions are searched
  pub live_search : IsSearch h (used h) [] found
  live_search = record {
    rising = record { rise = Rises-increasing 0 [] tt; below = All-nil (λ x. x < card_count h) };
    outside = λ c k. absurd (none_contains c k);
    lead_in = λ e i t f. absurd (false≢true (sym f ∙ slot_used h valid e i));
    survivors = survivors;
  }

  pub live_found : (legs : List Leg) → IsFoundPath h [] found a legs → AreLegs h legs a × IsFirst (λ p. LeadsTo h p (suc a)) (path_of legs)
  live_found legs p = let s = live_search in live_path h valid [] found a legs s.rising s.outside s.lead_in survivors p

  pub live_none : (Contains found a → ⊥) → Live h a → ⊥
  live_none none live = none ((survivors.reached a).1 (reached_from_live h valid a live))

-- an object of a region that was searched alone
module _ (i : Image) (valid : IsValid i.heap) (a r : ℕ) (home : r ≡ region_of i.heap a) (unrooted : IsUnrooted i a) (plain : is_first (kind i.heap r) ≡ false) (cards found : List ℕ)
    (s : IsSearch i.heap (r ∷ []) cards found) where
  not_large : IsLarge i.heap a → ⊥
  not_large large = false≢true (sym (subst (λ z. is_first (kind i.heap z) ≡ false) home plain) ∙ large)

  pub kept_legs : (legs : List Leg) → IsFoundPath i.heap cards found a legs → StartsAtSlot i.heap legs
  kept_legs legs p = starts_at_slot i.heap legs a (entered_path i.heap valid r cards found a legs s.rising s.outside s.lead_in s.survivors p unrooted.dead).0 unrooted.dead

  pub kept_reason : (legs : Vec Leg Global) (answer : Reason) → IsFoundPath i.heap cards found a legs.items
      → (entry : Entry) × (answer ≡ reason.Kept entry legs) × IsEntry i.heap entry legs.items → IsReason i a answer
  kept_reason legs answer p (entry, is, e) =
      let first = entered_path i.heap valid r cards found a legs.items s.rising s.outside s.lead_in s.survivors p unrooted.dead in
      subst (λ x. IsReason i a x) (sym is) (
        unrooted,
        first.0,
        e,
        entered_known i valid a r home unrooted entry legs.items e first.1.leads,
        (λ q. subst (λ z. IsFirst (λ p. LeadsInto i.heap z p (suc a)) (path_of legs.items)) home first.1),
        (λ large. absurd (not_large large)),
      )

  pub garbage_reason : (Contains found a → ⊥) → IsReason i a reason.Garbage
  garbage_reason none = (
    unrooted,
    (λ q alone. none ((s.survivors.reached a).1 (subst (λ z. Rattle.g1_words.specs.Live.Reached (Rattle.g1_words.specs.Survivors.seeds i.heap (z ∷ [])) (Rattle.g1_words.specs.Survivors.children i.heap (z ∷ [])) a) (sym home) alone))),
    (λ large. absurd (not_large large)),
  )

abbrev first_of : List Leg → Finder
first_of [] = Root 0
first_of (x ∷ xs) = x.finder

abbrev card_in : Finder → ℕ
card_in (Root k) = 0
card_in (Card c p) = c
card_in (Slot m b s) = 0

-- a humongous object
module _ (i : Image) (valid : IsValid i.heap) (a r : ℕ) (home : r ≡ region_of i.heap a) (unrooted : IsUnrooted i a) (large : is_first (kind i.heap r) ≡ true) where
  pub large_at : IsLarge i.heap a
  large_at = subst (λ z. is_first (kind i.heap z) ≡ true) home large

  not_plain : IsPlain i.heap a → ⊥
  not_plain q = false≢true (sym q ∙ large_at)

  -- no slot outside references it
  pub humongous_garbage : outside_leads i.heap a ≡ [] → IsReason i a reason.Garbage
  humongous_garbage none = (unrooted, (λ q alone. not_plain q), (λ l. none))

  module _ (f : Finder) (legs : Vec Leg Global) (lt : r < i.heap.geometry.n) (one : legs.items ≡ leg i.heap f a ∷ []) (keeper : By f ≡ first_keeper (outside_leads i.heap a)) where
    from : IsOutsideSlot i.heap a f
    from = first_outside i.heap valid a r home (outside_leads i.heap a) f refl keeper

    pub humongous_legs : StartsAtSlot i.heap legs.items
    humongous_legs = record { slot = from.slot; target = a; rest = []; first = one ∙ ap (λ g. leg i.heap g a ∷ []) from.finder; there = (a, from.there) }

    -- the first slot outside that does keeps it
    pub humongous_kept : (answer : Reason) → (entry : Entry) × (answer ≡ reason.Kept entry legs) × IsEntry i.heap entry legs.items → IsReason i a answer
    humongous_kept answer (entry, is, e) =
        let same : f ≡ Card entry.card entry.slot = ap first_of (sym one ∙ e.first) in
        let legs_are : AreLegs i.heap legs.items a = subst (λ l. AreLegs i.heap l a) (sym (one ∙ ap (λ g. leg i.heap g a ∷ []) from.finder)) (card from.slot a from.there) in
        subst (λ x. IsReason i a x) (sym is) (
          unrooted,
          legs_are,
          e,
          ap (λ g. is_known i (region_of i.heap a) (card_in g)) (sym same ∙ from.finder) ∙ outside_known i valid a r home unrooted lt large from,
          (λ q. absurd (not_plain q)),
          (λ l. record { keeper = sym keeper ∙ ap By same; one_leg = one ∙ ap (λ g. leg i.heap g a ∷ []) same }),
        )

-- ---- why nothing is told

pub memory_fault : {X : Type 0} (i : Image) (a : ℕ) (r : Result X Fault) → IfErr r (λ e. e ≡ Memory) → IfErr r (IsReasonFault i a)
memory_fault i a (Ok x) m = tt
memory_fault i a (Err e) m = inl m

pub entry_fault : (i : Image) (a r : ℕ) (e : Fault) → r ≡ region_of i.heap a → (Live i.heap a → ⊥) → IsEntryFault i r e → IsReasonFault i a e
entry_fault i a r e home dead (inl m) = inl m
entry_fault i a r e home dead (inr (p, rest, u, f)) = inr (dead, p, rest, subst (λ z. uncovered_into i z ≡ p ∷ rest) home u, f)
