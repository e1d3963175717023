-- A walk over all words that finds the stale slots.
use Rattle.std.proofs.Common.{◌≡◌, ◌≢◌, ◌≤◌, ◌<◌, ℕ, ◌+◌, ◌*◌, ◌^◌, inl, inr, List, [], ◌∷◌, ◌++◌, slice_index, arith, sym, ap, subst, ◌∙◌}
use Rattle.std.proofs.lemmas.Bool.{cases_lt}
use Rattle.g1_words.specs.Heap.{Heap}
use Rattle.g1_words.specs.Valid.{HasObject, IsReference, IsSlotOf}
use Rattle.g1_words.specs.declared.object.Object.{Object}
use Rattle.g1_image.specs.Draft.{ShapedBelow}
use Rattle.g1_image.specs.Marks.{StartsAt}
use Rattle.g1_image.specs.Stale.{IsStaleSlot, IsPut, Lists}
use Rattle.g1_image.proofs.Rows.{apart, has_header}
use Rattle.g1_image.proofs.Slots.{ends_within}
use Rattle.g1_image.proofs.StaleWords.{Gathers, gathers_none, gathers_same, gathers_more, lists_of}
use Rattle.g1_image.proofs.Tiled.{header_is}

-- the stale slots below an address
abbrev pub StaleBelow : Heap → ℕ → ℕ → ℕ → Type 0
StaleBelow h at p x = (p < at) × IsStaleSlot h p x

-- the stale slots below an address are found, and from there on the slots of objects that start below it end at another
pub record IsSeen (h : Heap) (at slots_end : ℕ) (found : List (ℕ × ℕ)) : Type 0 where
  pub below : Gathers (StaleBelow h at) found
  pub slots : (p : ℕ) → at ≤ p → p < slots_end → (o : Object) × HasObject h o × IsSlotOf o p
  pub no_more : (o : Object) (p : ℕ) → HasObject h o → o.at < at → IsSlotOf o p → at ≤ p → p < slots_end

pub seen_none : (h : Heap) → IsSeen h 0 0 []
seen_none h = record {
  below = gathers_none (StaleBelow h 0) (λ k x p. omega (arith, p.0));
  slots = λ p ge lt. absurd (omega (arith, lt));
  no_more = λ o p has lt. absurd (omega (arith, lt));
}

module _ (h : Heap) (at slots_end : ℕ) (found : List (ℕ × ℕ)) (some : 0 < h.geometry.w) (shaped : ShapedBelow h h.geometry.n) (seen : IsSeen h at slots_end found) where
  -- a slot further on: no object starts there
  module _ (lt : at < slots_end) where
    here : (o : Object) × HasObject h o × IsSlotOf o at
    here = seen.slots at (omega arith) lt

    no_start : (o : Object) → HasObject h o → o.at ≢ at
    no_start o has e =
        let q : Object = here.0 in
        omega (arith, apart h q o some shaped here.1 has (omega (arith, here.2.0, e)), (has_header h q here.1).refs_fit, here.2.1, e)

    slots_on : (p : ℕ) → at + 1 ≤ p → p < slots_end → (o : Object) × HasObject h o × IsSlotOf o p
    slots_on p ge less = seen.slots p (omega (arith, ge)) less

    no_more_on : (o : Object) (p : ℕ) → HasObject h o → o.at < at + 1 → IsSlotOf o p → at + 1 ≤ p → p < slots_end
    no_more_on o p has less slot ge = elim (cases_lt o.at at) [
      | inl before ↦ seen.no_more o p has before slot (omega (arith, ge))
      | inr not_before ↦ absurd (no_start o has (let e : o.at ≡ at = omega (arith, less, not_before) in e))
    ]

    seen_good : IsReference h (slice_index h.words at) → IsSeen h (at + 1) slots_end found
    seen_good good = record {
      below = gathers_same (StaleBelow h at) (StaleBelow h (at + 1)) found seen.below (λ k x p. (omega (arith, p.0), p.1)) (λ k x q. elim (cases_lt k at) [
        | inl less ↦ (less, q.1)
        | inr ge ↦
            let e : k ≡ at = omega (arith, ge, q.0) in
            absurd (q.1.2 (subst (IsReference h) (ap (slice_index h.words) (sym e) ∙ q.1.1) good))
      ]);
      slots = slots_on;
      no_more = no_more_on;
    }

    seen_stale : (x : ℕ) → slice_index h.words at ≡ x → (IsReference h x → ⊥) → IsSeen h (at + 1) slots_end (found ++ (at, x) ∷ [])
    seen_stale x word bad = record {
      below = gathers_more (StaleBelow h at) (StaleBelow h (at + 1)) found at x seen.below (λ k y p. p.0) (λ k y p. (omega (arith, p.0), p.1)) (omega arith, (here, word, bad))
          (λ k y q. elim (cases_lt k at) [
            | inl less ↦ inl (less, q.1)
            | inr ge ↦
                let e : k ≡ at = omega (arith, ge, q.0) in
                inr (e, sym q.1.1 ∙ ap (slice_index h.words) e ∙ word)
          ]);
      slots = slots_on;
      no_more = no_more_on;
    }

    -- what was put behind the others
    pub seen_put : (x : ℕ) (new : List (ℕ × ℕ)) → slice_index h.words at ≡ x → IsPut h at x found new → IsSeen h (at + 1) slots_end new
    seen_put x new word (inl p) = subst (IsSeen h (at + 1) slots_end) (sym p.1) (seen_good (subst (IsReference h) (sym word) p.0))
    seen_put x new word (inr p) = subst (IsSeen h (at + 1) slots_end) (sym p.1) (seen_stale x word p.0)

  -- no slot
  module _ (ge : slots_end ≤ at) where
    no_slot : (o : Object) → HasObject h o → IsSlotOf o at → ⊥
    no_slot o has slot = omega (arith, seen.no_more o at has slot.0 slot (omega arith), ge)

    below_on : Gathers (StaleBelow h (at + 1)) found
    below_on = gathers_same (StaleBelow h at) (StaleBelow h (at + 1)) found seen.below (λ k x p. (omega (arith, p.0), p.1)) (λ k x q. elim (cases_lt k at) [
      | inl less ↦ (less, q.1)
      | inr le ↦
          let e : k ≡ at = omega (arith, le, q.0) in
          absurd (no_slot q.1.0.0 q.1.0.1 (subst (IsSlotOf q.1.0.0) e q.1.0.2))
    ])

    pub seen_nothing : (StartsAt h at → ⊥) → IsSeen h (at + 1) slots_end found
    seen_nothing none = record {
      below = below_on;
      slots = λ p from less. absurd (omega (arith, ge, from, less));
      no_more = λ o p has less slot from. elim (cases_lt o.at at) [
        | inl before ↦ seen.no_more o p has before slot (omega (arith, from))
        | inr not_before ↦ absurd (none (o, has, (let e : o.at ≡ at = omega (arith, less, not_before) in e)))
      ];
    }

    module _ (start : StartsAt h at) (q : Object) (word : slice_index h.words at ≡ q.size * 2 ^ 32 + q.refs) (refs : q.refs < 2 ^ 32) (size : q.size < 2 ^ 32) where
      same : (o : Object) → HasObject h o → o.at ≡ at → o.refs ≡ q.refs
      same o has e = (header_is h.words at q word refs size o e (has_header h o has)).1

      pub seen_object : IsSeen h (at + 1) (at + 1 + q.refs) found
      seen_object = record {
        below = below_on;
        slots = λ p from less. (start.0, start.1, (omega (arith, start.2, from), omega (arith, start.2, less, same start.0 start.1 start.2)));
        no_more = λ o p has less slot from. elim (cases_lt o.at at) [
          | inl before ↦ absurd (omega (arith, seen.no_more o p has before slot (omega (arith, from)), ge, from))
          | inr not_before ↦
              let e : o.at ≡ at = omega (arith, less, not_before) in
              omega (arith, slot.1, same o has e, e)
        ];
      }

-- all words were seen
pub seen_all : (h : Heap) (at slots_end : ℕ) (found : List (ℕ × ℕ)) → ShapedBelow h h.geometry.n → h.geometry.n * h.geometry.w ≤ at → IsSeen h at slots_end found → Lists (IsStaleSlot h) found
seen_all h at slots_end found shaped ge seen =
    lists_of (IsStaleSlot h) found (gathers_same (StaleBelow h at) (IsStaleSlot h) found seen.below (λ k x p. p.1) (λ k x q.
    (omega (arith, ends_within h shaped q.0.0 q.0.1, (has_header h q.0.0 q.0.1).refs_fit, q.0.2.1, ge), q)))
