-- The status of a verdict is exactly what the bytes are.
use Rattle.std.proofs.Common.{◌≡◌, ◌⊎◌, ◌↔◌, ℕ, inl, inr, List, ◌∷◌, [], refl, sym, subst, ◌∙◌, arith, false}
use Rattle.g1_words.specs.declared.limits.Limits.TheVariants.{Wide}
use Rattle.g1_words.specs.Graph.{SameGraph}
use Rattle.g1_words.specs.Valid.{IsValid}
use Rattle.g1_words.specs.declared.fault.Fault.TheVariants as fault
use Rattle.g1_image.specs.Cards.{Covered, uncovered}
use Rattle.g1_image.specs.Image.{Image, IsTextWithin, IsImageTextWithin}
use Rattle.g1_image.specs.Laws.{OneImage, NoFaultOfText}
use Rattle.g1_same.specs.Laws.{NeverBoth}
use Rattle.g1_choose.specs.Laws.{AcceptedNotBad}
use Rattle.g1_choose.specs.Named.{AreTakeable}
use Rattle.g1_kept.specs.Keeps.{Keeps}
use Rattle.g1judge.specs.declared.verdict.Verdict.TheVariants.{Good, Same, Differ, Stale, NoImage, Uncovered, Loss, NoSet, Memory}
use Rattle.g1judge.specs.Judged.{JudgesCover}
use Rattle.g1judge.specs.Stale.{ShowsStale}
use Rattle.g1judge.specs.Laws.{ShowOneGraph, ShowTwoGraphs, ShowStaleWords, HasFault, IsCoveredText, IsBareText, ShowKept, ShowLost, ShowNoSet}
use Rattle.g1judge.specs.Laws.{SaysOfPair, PairStatus, ImageStatus, CoverStatus, KeptStatus, MemoryStatus}

other : {A : Type 0} (m n : ℕ) → (m ≡ n → ⊥) → (A → ⊥) → (m ≡ n) ↔ A
other m n f g = ((λ e. absurd (f e)), λ a. absurd (g a))

valid_of : (bytes : List ℕ) (i : Image) → IsTextWithin Wide bytes i → IsValid i.heap
valid_of bytes i (v, text, within) = text.0.heap

-- bytes with stale words have a fault
stale_fault : (before after : List ℕ) → ShowStaleWords before after → HasFault after
stale_fault before after (g, s, (h, r, t, stale, shown)) = (fault.Reference stale.fault.0, stale.fault.1)

module _ (one : OneImage) (none : NoFaultOfText) where
  no_fault : (bytes : List ℕ) → IsImageTextWithin Wide bytes → HasFault bytes → ⊥
  no_fault bytes t f = none Wide bytes t.0 f.0 t.1 f.1

  neither : (before after : List ℕ) → IsImageTextWithin Wide before → IsImageTextWithin Wide after → HasFault before ⊎ HasFault after → ⊥
  neither before after s t (inl f) = no_fault before s f
  neither before after s t (inr f) = no_fault after t f

  -- two readings of two texts are of the same images
  both : (before after : List ℕ) → ShowOneGraph before after → ShowTwoGraphs before after → ⊥
  both before after (g, h, s, t, same) (i, j, u, v, never) =
      never (subst (λ z. SameGraph i.heap z.heap) (one Wide after h j t v) (subst (λ z. SameGraph z.heap h.heap) (one Wide before g i s u) same))

  no_two : (before after : List ℕ) → HasFault before ⊎ HasFault after → ShowTwoGraphs before after → ⊥
  no_two before after bad (g, h, s, t, never) = neither before after (g, s) (h, t) bad

  no_one : (before after : List ℕ) → HasFault before ⊎ HasFault after → ShowOneGraph before after → ⊥
  no_one before after bad (g, h, s, t, same) = neither before after (g, s) (h, t) bad

  no_stale : (before after : List ℕ) → HasFault before → ShowStaleWords before after → ⊥
  no_stale before after bad (g, s, shown) = no_fault before (g, s) bad

  -- an image's bytes show as those of no other image
  stays : (before after : List ℕ) (g : Image) → IsTextWithin Wide before g → (ShowsStale g after → ⊥) → ShowStaleWords before after → ⊥
  stays before after g s hidden (i, u, shown) = hidden (subst (λ z. ShowsStale z after) (one Wide before i g u s) shown)

  refused : (before after : List ℕ) → IsImageTextWithin Wide before → IsImageTextWithin Wide after → HasFault before ⊎ (HasFault after × (ShowStaleWords before after → ⊥)) → ⊥
  refused before after s t (inl f) = no_fault before s f
  refused before after s t (inr f) = no_fault after t f.0

  one_graph : (before after : List ℕ) → ShowOneGraph before after → SaysOfPair before after 0
  one_graph before after (g, h, s, t, same) =
      let shows : ShowOneGraph before after = (g, h, s, t, same) in
      record {
        zero = ((λ e. shows), λ z. refl);
        one = other 0 1 (λ e. omega (arith, e)) (λ z. elim z [ inl two ↦ both before after shows two | inr stale ↦ no_fault after (h, t) (stale_fault before after stale) ]);
        three = other 0 3 (λ e. omega (arith, e)) (refused before after (g, s) (h, t));
        no_other = inl refl;
      }

  two_graphs : (before after : List ℕ) → ShowTwoGraphs before after → SaysOfPair before after 1
  two_graphs before after (g, h, s, t, never) =
      let shows : ShowTwoGraphs before after = (g, h, s, t, never) in
      record {
        zero = other 1 0 (λ e. omega (arith, e)) (λ z. both before after z shows);
        one = ((λ e. inl shows), λ z. refl);
        three = other 1 3 (λ e. omega (arith, e)) (refused before after (g, s) (h, t));
        no_other = inr (inl refl);
      }

  stale_words : (before after : List ℕ) → ShowStaleWords before after → SaysOfPair before after 1
  stale_words before after shows = record {
    zero = other 1 0 (λ e. omega (arith, e)) (no_one before after (inr (stale_fault before after shows)));
    one = ((λ e. inr shows), λ z. refl);
    three = other 1 3 (λ e. omega (arith, e)) (λ z. elim z [ inl f ↦ no_stale before after f shows | inr f ↦ f.1 shows ]);
    no_other = inr (inl refl);
  }

  first_fault : (before after : List ℕ) → HasFault before → SaysOfPair before after 3
  first_fault before after bad = record {
    zero = other 3 0 (λ e. omega (arith, e)) (no_one before after (inl bad));
    one = other 3 1 (λ e. omega (arith, e)) (λ z. elim z [ inl two ↦ no_two before after (inl bad) two | inr stale ↦ no_stale before after bad stale ]);
    three = ((λ e. inl bad), λ z. refl);
    no_other = inr (inr refl);
  }

  second_fault : (before after : List ℕ) → HasFault after → (ShowStaleWords before after → ⊥) → SaysOfPair before after 3
  second_fault before after bad hidden = record {
    zero = other 3 0 (λ e. omega (arith, e)) (no_one before after (inr bad));
    one = other 3 1 (λ e. omega (arith, e)) (λ z. elim z [ inl two ↦ no_two before after (inr bad) two | inr stale ↦ hidden stale ]);
    three = ((λ e. inr (bad, hidden)), λ z. refl);
    no_other = inr (inr refl);
  }

  pub pair_status : NeverBoth → PairStatus
  pair_status never before after Good (g, s, j) = absurd j
  pair_status never before after (Same objects words) (g, s, (h, t, shown)) = inr (one_graph before after (g, h, s, t, shown.2.same))
  pair_status never before after (Differ d ends) (g, s, inl (h, t, shown)) = inr (two_graphs before after (g, h, s, t, shown.never))
  pair_status never before after (Differ d ends) (g, s, inr (h, r, t, stale, judged)) =
      inr (stale_words before after (g, s, (h, r, t, stale, inl (never g.heap h.heap d (valid_of before g s) judged.0.0.is))))
  pair_status never before after (Stale end) (g, s, (h, r, t, stale, judged)) =
      inr (stale_words before after (g, s, (h, r, t, stale, inr (end.root ∷ end.slots.items, end.before, end.word, judged.1))))
  pair_status never before after (NoImage image e) (inl k) = inr (first_fault before after (e, k.1))
  pair_status never before after (NoImage image e) (inr (g, s, (k, found, hidden))) = inr (second_fault before after (e, found) (stays before after g s hidden))
  pair_status never before after (Uncovered slot) (g, s, j) = absurd j
  pair_status never before after (Loss l) (g, s, j) = absurd j
  pair_status never before after (NoSet region) (g, s, j) = absurd j
  pair_status never before after Memory j = inl refl

  pub image_status : ImageStatus
  image_status bytes Good j = inr record {
    zero = ((λ e. j), λ z. refl);
    three = other 0 3 (λ e. omega (arith, e)) (no_fault bytes j);
    no_other = inl refl;
  }
  image_status bytes (Same objects words) j = absurd j
  image_status bytes (Differ d ends) j = absurd j
  image_status bytes (Stale end) j = absurd j
  image_status bytes (NoImage image e) j =
      let bad : HasFault bytes = (e, j.1) in
      inr record {
        zero = other 3 0 (λ e. omega (arith, e)) (λ t. no_fault bytes t bad);
        three = ((λ e. bad), λ z. refl);
        no_other = inr refl;
      }
  image_status bytes (Uncovered slot) j = absurd j
  image_status bytes (Loss l) j = absurd j
  image_status bytes (NoSet region) j = absurd j
  image_status bytes Memory j = inl refl

  one_cover : (bytes : List ℕ) → IsCoveredText bytes → IsBareText bytes → ⊥
  one_cover bytes (i, t, covered) (j, u, bare) = bare (subst Covered (one Wide bytes i j t u) covered)

  bare_text : (bytes : List ℕ) (slot : ℕ) → JudgesCover bytes (Uncovered slot) → IsBareText bytes
  bare_text bytes slot (i, t, others, is) = (i, t, λ (c : uncovered i ≡ []). let e : [] ≡ slot ∷ others = sym c ∙ is in cc)

  pub cover_status : CoverStatus
  cover_status bytes Good j = inr record {
    zero = ((λ e. j), λ z. refl);
    three = other 0 3 (λ e. omega (arith, e)) (no_fault bytes (j.0, j.1));
    four = other 0 4 (λ e. omega (arith, e)) (one_cover bytes j);
    no_other = inl refl;
  }
  cover_status bytes (Same objects words) j = absurd j
  cover_status bytes (Differ d ends) j = absurd j
  cover_status bytes (Stale end) j = absurd j
  cover_status bytes (NoImage image e) j =
      let bad : HasFault bytes = (e, j.1) in
      inr record {
        zero = other 3 0 (λ e. omega (arith, e)) (λ t. no_fault bytes (t.0, t.1) bad);
        three = ((λ e. bad), λ z. refl);
        four = other 3 4 (λ e. omega (arith, e)) (λ t. no_fault bytes (t.0, t.1) bad);
        no_other = inr (inl refl);
      }
  cover_status bytes (Uncovered slot) j =
      let bare = bare_text bytes slot j in
      inr record {
        zero = other 4 0 (λ e. omega (arith, e)) (λ t. one_cover bytes t bare);
        three = other 4 3 (λ e. omega (arith, e)) (no_fault bytes (j.0, j.1));
        four = ((λ e. bare), λ z. refl);
        no_other = inr (inr refl);
      }
  cover_status bytes (Loss l) j = absurd j
  cover_status bytes (NoSet region) j = absurd j
  cover_status bytes Memory j = inl refl

module _ (one : OneImage) (none : NoFaultOfText) (accepted : AcceptedNotBad) where
  -- an image that allows the set is no other one that does not
  no_set : (before after set : List ℕ) (g : Image) → IsTextWithin Wide before g → AreTakeable g.heap set → ShowNoSet before after set → ⊥
  no_set before after set g s takeable (i, j, u, v, never) = never (subst (λ z. AreTakeable z.heap set) (one Wide before g i s u) takeable)

  kept_lost : (before after set : List ℕ) → ShowKept before after set → ShowLost before after set → ⊥
  kept_lost before after set (g, h, s, t, takeable, keeps) (i, j, u, v, other, never) =
      never (subst (λ z. Keeps false set i.heap z.heap) (one Wide after h j t v) (subst (λ z. Keeps false set z.heap h.heap) (one Wide before g i s u) keeps))

  pub kept_status : KeptStatus
  kept_status before after set Good (g, h, s, t, j) =
      let shows : ShowKept before after set = (g, h, s, t, j.0, j.1) in
      inr record {
        zero = ((λ e. shows), λ z. refl);
        one = other 0 1 (λ e. omega (arith, e)) (kept_lost before after set shows);
        three = other 0 3 (λ e. omega (arith, e)) (neither one none before after (g, s) (h, t));
        five = other 0 5 (λ e. omega (arith, e)) (no_set before after set g s j.0);
        no_other = inl refl;
      }
  kept_status before after set (Same objects words) (g, h, s, t, j) = absurd j
  kept_status before after set (Differ d ends) (g, h, s, t, j) = absurd j
  kept_status before after set (Stale end) (g, h, s, t, j) = absurd j
  kept_status before after set (NoImage image e) j =
      let bad : HasFault before ⊎ HasFault after = elim j [ inl k ↦ inl (e, k.1) | inr k ↦ inr (e, k.2) ] in
      inr record {
        zero = other 3 0 (λ e. omega (arith, e)) (λ z. neither one none before after (z.0, z.2) (z.1, z.3) bad);
        one = other 3 1 (λ e. omega (arith, e)) (λ z. neither one none before after (z.0, z.2) (z.1, z.3) bad);
        three = ((λ e. bad), λ z. refl);
        five = other 3 5 (λ e. omega (arith, e)) (λ z. neither one none before after (z.0, z.2) (z.1, z.3) bad);
        no_other = inr (inr (inl refl));
      }
  kept_status before after set (Uncovered slot) (g, h, s, t, j) = absurd j
  kept_status before after set (Loss l) (g, h, s, t, j) =
      let shows : ShowLost before after set = (g, h, s, t, j.0, j.1.never) in
      inr record {
        zero = other 1 0 (λ e. omega (arith, e)) (λ z. kept_lost before after set z shows);
        one = ((λ e. shows), λ z. refl);
        three = other 1 3 (λ e. omega (arith, e)) (neither one none before after (g, s) (h, t));
        five = other 1 5 (λ e. omega (arith, e)) (no_set before after set g s j.0);
        no_other = inr (inl refl);
      }
  kept_status before after set (NoSet region) (g, h, s, t, j) =
      let shows : ShowNoSet before after set = (g, h, s, t, λ takeable. accepted g.heap set j.0 (valid_of before g s) takeable j.1) in
      inr record {
        zero = other 5 0 (λ e. omega (arith, e)) (λ z. no_set before after set z.0 z.2 z.4 shows);
        one = other 5 1 (λ e. omega (arith, e)) (λ z. no_set before after set z.0 z.2 z.4 shows);
        three = other 5 3 (λ e. omega (arith, e)) (neither one none before after (g, s) (h, t));
        five = ((λ e. shows), λ z. refl);
        no_other = inr (inr (inr refl));
      }
  kept_status before after set Memory j = inl refl

pub memory_status : MemoryStatus
memory_status Good = ((λ e. absurd (omega (arith, e))), λ e. cc)
memory_status (Same objects words) = ((λ e. absurd (omega (arith, e))), λ e. cc)
memory_status (Differ d ends) = ((λ e. absurd (omega (arith, e))), λ e. cc)
memory_status (Stale end) = ((λ e. absurd (omega (arith, e))), λ e. cc)
memory_status (NoImage image e) = ((λ e. absurd (omega (arith, e))), λ e. cc)
memory_status (Uncovered slot) = ((λ e. absurd (omega (arith, e))), λ e. cc)
memory_status (Loss l) = ((λ e. absurd (omega (arith, e))), λ e. cc)
memory_status (NoSet region) = ((λ e. absurd (omega (arith, e))), λ e. cc)
memory_status Memory = ((λ e. refl), λ e. refl)
