-- Lists of regions that may be taken, and the marks of those that were met.
use Rattle.std.proofs.Common.{◌≡◌, ◌≢◌, ℕ, zero, suc, ◌+◌, ◌<◌, ◌≤◌, ◌⊎◌, inl, inr, Bool, true, false, List, [], ◌∷◌, ◌++◌, take, length, get_or, Contains, IsTrue, IsFalse, refl, sym, ◌∙◌}
use Rattle.std.proofs.Common.{ap, subst, arith, get_or-set_same, get_or-set_other}
use Rattle.std.specs.Prelude.{◌↔◌, slice_index, slice_index_or, slice_set}
use Rattle.std.proofs.lemmas.Bool.{cases_Bool, cases_order, cases_lt, cases_eq}
use Rattle.std.proofs.lemmas.List.{take_more, get_or_default, get_or_past}
use Rattle.std.proofs.lemmas.List.Elements.{Contains-get_or, Contains-push, Contains-push_cases, Contains-append_left}
use Rattle.g1_words.specs.declared.region.Kind.{Kind}
use Rattle.g1_words.specs.declared.region.Kind.TheVariants.{Free, Ordinary, HumongousFirst, Continuation}
use Rattle.g1_words.specs.declared.region.Region.{Region}
use Rattle.g1_words.specs.Heap.{Heap, kind, pinned, regions, free_region}
use Rattle.g1_words.proofs.Indices.{Contains-take, take_cases}
use Rattle.g1_words.proofs.Computed.{Contains-range}
use Rattle.g1_words.proofs.Members.{Contains-from_has, has_from_contains}
use Rattle.g1_words.specs.Lists.{has}
use Rattle.g1_choose.specs.Named.{AreTakeable, IsBadAt, IsFirstBad}

-- of the regions of a heap, those of the list are marked
abbrev pub AreMarked : ℕ → List Bool → List ℕ → Type 0
AreMarked n marks list = (r : ℕ) → r < n → IsTrue (slice_index_or marks r false) ↔ Contains list r

marked_at : (marks : List Bool) (list : List ℕ) (r q : ℕ) → r < length marks → IsTrue (slice_index_or marks q false) ↔ Contains list q
    → (r ≡ q) ⊎ (r ≢ q) → IsTrue (slice_index_or (slice_set marks r true) q false) ↔ Contains (list ++ r ∷ []) q
marked_at marks list r q lt m (inl e) = (
  (λ t. subst (Contains (list ++ r ∷ [])) e (Contains-push list r)),
  (λ k. subst (λ x. IsTrue (slice_index_or (slice_set marks r true) x false)) e (get_or-set_same marks r true false lt)),
)
marked_at marks list r q lt m (inr ne) =
    let other : slice_index_or (slice_set marks r true) q false ≡ slice_index_or marks q false = get_or-set_other marks r q true false (λ e. ne (sym e)) in (
      (λ t. Contains-append_left list (r ∷ []) q (m.0 (subst IsTrue other t))),
      (λ k. subst IsTrue (sym other) (elim (Contains-push_cases list r q k) [ inl i ↦ m.1 i | inr e ↦ absurd (ne e) ])),
    )

-- the next region of the list is marked too
pub marked_more : (n i : ℕ) (marks : List Bool) (list : List ℕ) → length marks ≡ n → i < length list → slice_index list i < n
    → AreMarked n marks (take i list) → AreMarked n (slice_set marks (slice_index list i) true) (take (i + 1) list)
marked_more n i marks list count len lt m q below =
    let r : ℕ = slice_index list i in
    subst (λ l. IsTrue (slice_index_or (slice_set marks r true) q false) ↔ Contains l q) (sym (take_more list i 0 len))
    (marked_at marks (take i list) r q (omega arith) (m q below) (cases_eq r q))

pub both : {b : Bool} → IsTrue b → IsFalse b → ⊥
both t f = let clash : true ≡ false = sym t ∙ f in cc

-- the region at a place is good, and those before it are
pub good_more : (h : Heap) (list : List ℕ) (i : ℕ) → ((j : ℕ) → j < i → IsBadAt h list j → ⊥) → slice_index list i < h.geometry.n →
    kind h (slice_index list i) ≡ Ordinary → IsFalse (pinned h (slice_index list i))
    → (Contains (take i list) (slice_index list i) → ⊥) → (j : ℕ) → j < i + 1 → IsBadAt h list j → ⊥
good_more h list i before lt ordinary unpinned new j below bad =
    elim (cases_eq j i) [
      | inl e ↦ elim (subst (IsBadAt h list) e bad) [
        | inl past ↦ omega arith
        | inr b ↦ elim b [ inl other ↦ other ordinary | inr c ↦ elim c [ inl pin ↦ both pin unpinned | inr again ↦ new again ] ]
      ]
      | inr ne ↦ before j (elim (cases_order j i) [ inl e ↦ absurd (ne e) | inr o ↦ elim o [ inl l ↦ l | inr g ↦ absurd (omega arith) ] ]) bad
    ]

ordinary_from : (k : Kind) → ((k ≢ Ordinary) → ⊥) → k ≡ Ordinary
ordinary_from Free f = absurd (f (λ e. cc))
ordinary_from Ordinary f = refl
ordinary_from HumongousFirst f = absurd (f (λ e. cc))
ordinary_from Continuation f = absurd (f (λ e. cc))

-- a list without a bad place
pub all_good : (h : Heap) (list : List ℕ) → ((i : ℕ) → i < length list → IsBadAt h list i → ⊥) → AreTakeable h list
all_good h list good =
    record {
      ordinary = λ r k.
          let same : slice_index list k.0 ≡ r = get_or_default list k.0 0 r k.1 ∙ k.2 in
          ordinary_from (kind h r) (λ ne. good k.0 k.1 (inr (inl (subst (λ x. kind h x ≢ Ordinary) (sym same) ne))));
      unpinned = λ r k.
          let same : slice_index list k.0 ≡ r = get_or_default list k.0 0 r k.1 ∙ k.2 in
          elim (cases_Bool (pinned h r)) [
            | inl t ↦ absurd (good k.0 k.1 (inr (inr (inl (subst (λ x. IsTrue (pinned h x)) (sym same) t)))))
            | inr f ↦ f
          ];
      distinct = λ i j d lt len e.
          let first : get_or list i 0 ≡ get_or list j 0 = get_or_default list i 0 d (omega arith) ∙ e ∙ get_or_default list j d 0 len in
          good j len (inr (inr (inr (subst (Contains (take j list)) first (Contains-take j list i 0 lt (omega arith))))));
    }

-- a valid heap's regions are below its number of regions
pub ordinary_within : (h : Heap) (r : ℕ) → length h.regions ≡ h.geometry.n → kind h r ≡ Ordinary → r < h.geometry.n
ordinary_within h r count e = elim (cases_lt r h.geometry.n) [
  | inl lt ↦ lt
  | inr ge ↦ let past : kind h r ≡ Free = ap (λ (q : Region). q.kind) (get_or_past h.regions r free_region (omega arith)) in cc
]

-- and its regions are the heap's
pub all_within : (h : Heap) (list : List ℕ) → ((i : ℕ) → i < length list → IsBadAt h list i → ⊥) → (r : ℕ) → Contains list r → Contains (regions h) r
all_within h list good r k =
    let same : slice_index list k.0 ≡ r = get_or_default list k.0 0 r k.1 ∙ k.2 in
    elim (cases_lt r h.geometry.n) [
      | inl lt ↦ Contains-range 0 h.geometry.n r (omega arith) (omega arith)
      | inr ge ↦ absurd (good k.0 k.1 (inl (omega (arith, same, ge))))
    ]

-- ---- every list is one of distinct ordinary regions or has a first bad place

ordinary_or_not : (k : Kind) → (k ≡ Ordinary) ⊎ (k ≢ Ordinary)
ordinary_or_not Free = inr (λ e. cc)
ordinary_or_not Ordinary = inl refl
ordinary_or_not HumongousFirst = inr (λ e. cc)
ordinary_or_not Continuation = inr (λ e. cc)

in_or_not : (xs : List ℕ) (r : ℕ) → Contains xs r ⊎ (Contains xs r → ⊥)
in_or_not xs r = elim (cases_Bool (has xs r)) [
  | inl t ↦ inl (Contains-from_has xs r t)
  | inr f ↦ inr (λ i. both {b = has xs r} (has_from_contains xs r i) f)
]

bad_or_good : (h : Heap) (list : List ℕ) (i : ℕ) → IsBadAt h list i ⊎ (IsBadAt h list i → ⊥)
bad_or_good h list i =
    let r : ℕ = slice_index list i in
    elim (cases_lt r h.geometry.n) [
      | inr ge ↦ inl (inl ge)
      | inl lt ↦ elim (ordinary_or_not (kind h r)) [
        | inr other ↦ inl (inr (inl other))
        | inl ordinary ↦ elim (cases_Bool (pinned h r)) [
          | inl pin ↦ inl (inr (inr (inl pin)))
          | inr free ↦ elim (in_or_not (take i list) r) [
            | inl again ↦ inl (inr (inr (inr again)))
            | inr new ↦ inr (λ bad. elim bad [
              | inl past ↦ omega arith
              | inr b ↦ elim b [
                | inl other ↦ other ordinary
                | inr d ↦ elim d [ inl pin ↦ both pin free | inr again ↦ new again ]
              ]
            ])
          ]
        ]
      ]
    ]

good_or_first : (h : Heap) (list : List ℕ) (n : ℕ) → n ≤ length list → ((i : ℕ) → i < n → IsBadAt h list i → ⊥) ⊎ ((i : ℕ) × IsFirstBad h list i)
good_or_first h list zero le = inl (λ i lt. absurd (omega arith))
good_or_first h list (suc n) le =
    elim (good_or_first h list n (omega arith)) [
      | inr first ↦ inr first
      | inl good ↦ elim (bad_or_good h list n) [
        | inl bad ↦ inr (n, record { within = omega arith; bad = bad; before = good })
        | inr fine ↦ inl (λ i lt bad. elim (cases_eq i n) [
          | inl e ↦ fine (subst (IsBadAt h list) e bad)
          | inr ne ↦ good i (elim (cases_order i n) [ inl e ↦ absurd (ne e) | inr o ↦ elim o [ inl l ↦ l | inr g ↦ absurd (omega arith) ] ]) bad
        ])
      ]
    ]

pub accepted_or_bad : (h : Heap) (list : List ℕ) → AreTakeable h list ⊎ ((i : ℕ) × IsFirstBad h list i)
accepted_or_bad h list = elim (good_or_first h list (length list) (omega arith)) [
  | inl good ↦ inl (all_good h list good)
  | inr first ↦ inr first
]

pub accepted_not_bad : (h : Heap) (list : List ℕ) (i : ℕ) → length h.regions ≡ h.geometry.n → AreTakeable h list → IsFirstBad h list i → ⊥
accepted_not_bad h list i count a bad =
    let r : ℕ = slice_index list i in
    let there : Contains list r = Contains-get_or list i 0 bad.within in
    elim bad.bad [
      | inl past ↦ let within = ordinary_within h r count (a.ordinary r there) in omega arith
      | inr b ↦ elim b [
        | inl other ↦ other (a.ordinary r there)
        | inr d ↦ elim d [
          | inl pin ↦ both pin (a.unpinned r there)
          | inr again ↦
              let k = take_cases i list r 0 again in
              a.distinct k.0 i 0 k.1 bad.within k.3
        ]
      ]
    ]

pub one_first_bad : (h : Heap) (list : List ℕ) (i j : ℕ) → IsFirstBad h list i → IsFirstBad h list j → i ≡ j
one_first_bad h list i j a b = elim (cases_order i j) [
  | inl e ↦ e
  | inr o ↦ elim o [ inl lt ↦ absurd (b.before i lt a.bad) | inr gt ↦ absurd (a.before j gt b.bad) ]
]
