-- Two texts are judged as their images are.
use Rattle.std.proofs.Common.{◌≡◌, ◌⊎◌, ℕ, List, inl, inr, refl, sym, subst, ap, arith, slice_index}
use Rattle.g1_words.specs.declared.limits.Limits.TheVariants.{Wide}
use Rattle.g1_words.specs.declared.fault.Fault.{Fault}
use Rattle.g1_image.specs.Image.{Image, IsImage, IsTextWithin, IsImageTextWithin}
use Rattle.g1_image.specs.Faults.{MayFailWithin, FaultWithin}
use Rattle.g1judge.specs.declared.verdict.Verdict.{Verdict}
use Rattle.g1judge.specs.declared.verdict.Verdict.TheVariants.{Good, Same, Differ, Stale, NoImage, Uncovered, Loss, NoSet, Memory}
use Rattle.g1_choose.specs.Named.{AreTakeable, IsFirstBad}
use Rattle.g1_words.specs.Heap.{Heap}
use Rattle.g1_words.specs.declared.fault.Place.{Place}
use Rattle.g1_words.specs.Fault.{number_of}
use Rattle.g1_words.specs.declared.fault.Fault.TheVariants as fault
use Rattle.g1judge.specs.Answered.{at_of, place_of}
use Rattle.g1judge.specs.Judged.{IsUnread, AreUnread, IsRefused, JudgesImages, JudgesStale, JudgesAfter, JudgesLoss, JudgesPair, JudgesSet, JudgesKept}
use Rattle.g1_image.specs.Stale.{IsTextWithout, FaultWithout}
use Rattle.g1judge.specs.Stale.{IsStaleText, HidesStale}
use Rattle.g1judge.proofs.StaleTexts.{no_reference_shows_none, other_fault_shows_none, hidden_shows_none}

-- the first is an image's text, and the second is judged by it
pub texts_judged : (before after : List ℕ) (g : Image) (v : Verdict) → IsTextWithin Wide before g → JudgesAfter g after v → JudgesPair before after v
texts_judged before after g Good s j = absurd j
texts_judged before after g (Same objects words) s j = (g, s, j)
texts_judged before after g (Differ d ends) s j = (g, s, j)
texts_judged before after g (Stale end) s j = (g, s, j)
texts_judged before after g (NoImage image e) s j = inr (g, s, j)
texts_judged before after g (Uncovered slot) s j = absurd j
texts_judged before after g (Loss l) s j = absurd j
texts_judged before after g (NoSet region) s j = absurd j
texts_judged before after g Memory s j = tt

-- the first was not read
pub first_judged : (before after : List ℕ) (e : Fault) (v : Verdict) → MayFailWithin Wide before e → IsUnread 1 e v → JudgesPair before after v
first_judged before after e (NoImage image f) (inl m) u = absurd (u.2 m)
first_judged before after e (NoImage image f) (inr k) u = inl (u.0, subst (FaultWithin Wide before) (sym u.1) k)
first_judged before after e Memory may u = tt
first_judged before after e Good may u = absurd u
first_judged before after e (Same objects words) may u = absurd u
first_judged before after e (Differ d ends) may u = absurd u
first_judged before after e (Stale end) may u = absurd u
first_judged before after e (Uncovered slot) may u = absurd u
first_judged before after e (Loss l) may u = absurd u
first_judged before after e (NoSet region) may u = absurd u

-- the second is an image's text
pub images_judged : (g h : Image) (after : List ℕ) (v : Verdict) → IsTextWithin Wide after h → JudgesImages g h v → JudgesAfter g after v
images_judged g h after Good t j = absurd j
images_judged g h after (Same objects words) t j = (h, t, j)
images_judged g h after (Differ d ends) t j = inl (h, t, j)
images_judged g h after (Stale end) t j = absurd j
images_judged g h after (NoImage image e) t j = absurd j
images_judged g h after (Uncovered slot) t j = absurd j
images_judged g h after (Loss l) t j = absurd j
images_judged g h after (NoSet region) t j = absurd j
images_judged g h after Memory t j = tt

-- it was not read, and its fault is no reference
pub unread_judged : (g : Image) (after : List ℕ) (e : Fault) (v : Verdict) → MayFailWithin Wide after e → ((p : Place) → e ≡ fault.Reference p → ⊥) → IsUnread 2 e v → JudgesAfter g after v
unread_judged g after e (NoImage image f) (inl m) other u = absurd (u.2 m)
unread_judged g after e (NoImage image f) (inr k) other u =
    (u.0, subst (FaultWithin Wide after) (sym u.1) k, no_reference_shows_none g after e k other)
unread_judged g after e Memory may other u = tt
unread_judged g after e Good may other u = absurd u
unread_judged g after e (Same objects words) may other u = absurd u
unread_judged g after e (Differ d ends) may other u = absurd u
unread_judged g after e (Stale end) may other u = absurd u
unread_judged g after e (Uncovered slot) may other u = absurd u
unread_judged g after e (Loss l) may other u = absurd u
unread_judged g after e (NoSet region) may other u = absurd u

-- it has stale words and no other fault
pub stale_judged : (g h : Image) (after : List ℕ) (r s : List (ℕ × ℕ)) (v : Verdict) → IsStaleText after h r s → JudgesStale g.heap h.heap r s v → JudgesAfter g after v
stale_judged g h after r s Good t j = absurd j
stale_judged g h after r s (Same objects words) t j = absurd j
stale_judged g h after r s (Differ d ends) t j = inr (h, r, s, t, j)
stale_judged g h after r s (Stale end) t j = (h, r, s, t, j)
stale_judged g h after r s (NoImage image e) t j = absurd j
stale_judged g h after r s (Uncovered slot) t j = absurd j
stale_judged g h after r s (Loss l) t j = absurd j
stale_judged g h after r s (NoSet region) t j = absurd j
stale_judged g h after r s Memory t j = tt

-- the same where the verdict is on equal heaps and lists
pub stale_judged_by : (g h : Image) (after : List ℕ) (p : Place) (r s x y : List (ℕ × ℕ)) (u w : Heap) (v : Verdict) → FaultWithin Wide after (fault.Reference p) → IsTextWithout Wide after h r s → IsImage h
    → u ≡ g.heap → w ≡ h.heap → x ≡ r → y ≡ s → JudgesStale u w x y v → JudgesAfter g after v
stale_judged_by g h after p r s x y u w v k text image eu ew ex ey j =
    let stale : IsStaleText after h r s = record { fault = (p, k); text = text; image = image } in
    stale_judged g h after r s v stale
    (subst (λ z. JudgesStale z h.heap r s v) eu (subst (λ z. JudgesStale u z r s v) ew (subst (λ z. JudgesStale u w z s v) ex (subst (λ z. JudgesStale u w x z v) ey j))))

-- a fault that is a reference is one of the bytes
pub reference_fault : (bytes : List ℕ) (p : Place) → MayFailWithin Wide bytes (fault.Reference p) → FaultWithin Wide bytes (fault.Reference p)
reference_fault bytes p (inl e) = absurd (omega (arith, ap number_of e))
reference_fault bytes p (inr k) = k

-- it has stale words and another fault
pub other_judged : (g : Image) (after : List ℕ) (p : Place) (e : Fault) → FaultWithin Wide after (fault.Reference p) → (e ≡ fault.Memory → ⊥) → (e ≡ fault.Memory) ⊎ FaultWithout Wide after e
    → JudgesAfter g after (NoImage 2 (fault.Reference p))
other_judged g after p e k not (inl m) = absurd (not m)
other_judged g after p e k not (inr x) = (refl, k, other_fault_shows_none g after e x)

-- its stale words don't show
pub hidden_judged : (g h : Image) (after : List ℕ) (p : Place) (r s x y : List (ℕ × ℕ)) (u w : Heap) → FaultWithin Wide after (fault.Reference p) → IsTextWithout Wide after h r s
    → u ≡ g.heap → w ≡ h.heap → x ≡ r → y ≡ s → HidesStale u w x y → JudgesAfter g after (NoImage 2 (fault.Reference p))
hidden_judged g h after p r s x y u w k text eu ew ex ey hidden = (
  refl,
  k,
  hidden_shows_none g h after r s text
      (subst (λ z. HidesStale z h.heap r s) eu (subst (λ z. HidesStale u z r s) ew (subst (λ z. HidesStale u w z s) ex (subst (λ z. HidesStale u w x z) ey hidden)))),
)

pub texts_kept : (before after set : List ℕ) (g h : Image) (v : Verdict) → IsTextWithin Wide before g → IsTextWithin Wide after h → JudgesSet g h set v → JudgesKept before after set v
texts_kept before after set g h Good s t j = (g, h, s, t, j)
texts_kept before after set g h (Same objects words) s t j = absurd j
texts_kept before after set g h (Differ d ends) s t j = absurd j
texts_kept before after set g h (Stale end) s t j = absurd j
texts_kept before after set g h (NoImage image e) s t j = absurd j
texts_kept before after set g h (Uncovered slot) s t j = absurd j
texts_kept before after set g h (Loss l) s t j = (g, h, s, t, j)
texts_kept before after set g h (NoSet region) s t j = (g, h, s, t, j)
texts_kept before after set g h Memory s t j = tt

-- and two that were not read have one verdict
pub unread_kept : (before after set : List ℕ) (v : Verdict) → AreUnread before after v → JudgesKept before after set v
unread_kept before after set Good j = absurd j
unread_kept before after set (Same objects words) j = absurd j
unread_kept before after set (Differ d ends) j = absurd j
unread_kept before after set (Stale end) j = absurd j
unread_kept before after set (NoImage image e) j = j
unread_kept before after set (Uncovered slot) j = absurd j
unread_kept before after set (Loss l) j = absurd j
unread_kept before after set (NoSet region) j = absurd j
unread_kept before after set Memory j = j

-- the verdict of two byte strings of which the first was not read, or the second
pub first_unread : (before after : List ℕ) (e : Fault) (v : Verdict) → MayFailWithin Wide before e → IsUnread 1 e v → AreUnread before after v
first_unread before after e (NoImage image f) (inl m) u = absurd (u.2 m)
first_unread before after e (NoImage image f) (inr k) u = inl (u.0, subst (FaultWithin Wide before) (sym u.1) k)
first_unread before after e Memory may u = tt
first_unread before after e Good may u = absurd u
first_unread before after e (Same objects words) may u = absurd u
first_unread before after e (Differ d ends) may u = absurd u
first_unread before after e (Stale end) may u = absurd u
first_unread before after e (Uncovered slot) may u = absurd u
first_unread before after e (Loss l) may u = absurd u
first_unread before after e (NoSet region) may u = absurd u

pub second_unread : (before after : List ℕ) (e : Fault) (v : Verdict) → IsImageTextWithin Wide before → MayFailWithin Wide after e → IsUnread 2 e v → AreUnread before after v
second_unread before after e (NoImage image f) text (inl m) u = absurd (u.2 m)
second_unread before after e (NoImage image f) text (inr k) u = inr (u.0, text, subst (FaultWithin Wide after) (sym u.1) k)
second_unread before after e Memory text may u = tt
second_unread before after e Good text may u = absurd u
second_unread before after e (Same objects words) text may u = absurd u
second_unread before after e (Differ d ends) text may u = absurd u
second_unread before after e (Stale end) text may u = absurd u
second_unread before after e (Uncovered slot) text may u = absurd u
second_unread before after e (Loss l) text may u = absurd u
second_unread before after e (NoSet region) text may u = absurd u

-- a set that the first heap allows is judged by what is lost
pub loss_judged : (g h : Image) (set : List ℕ) (v : Verdict) → AreTakeable g.heap set → JudgesLoss set g.heap h.heap v → JudgesSet g h set v
loss_judged g h set Good t j = (t, j)
loss_judged g h set (Same objects words) t j = absurd j
loss_judged g h set (Differ d ends) t j = absurd j
loss_judged g h set (Stale end) t j = absurd j
loss_judged g h set (NoImage image e) t j = absurd j
loss_judged g h set (Uncovered slot) t j = absurd j
loss_judged g h set (Loss l) t j = (t, j)
loss_judged g h set (NoSet region) t j = absurd j
loss_judged g h set Memory t j = tt

-- and one that it does not allow by its first bad region
pub refusal_judged : (h : Heap) (set : List ℕ) (region : ℕ) → (fault.Set region ≡ fault.Memory) ⊎ ((i : ℕ) × IsFirstBad h set i × (fault.Set region ≡ fault.Set (slice_index set i))) → IsRefused h set region
refusal_judged h set region (inl e) = absurd (omega (arith, ap place_of e))
refusal_judged h set region (inr (i, bad, e)) = (i, bad, ap at_of e)
