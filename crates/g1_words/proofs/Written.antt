-- What was written, part after part.
use Rattle.std.proofs.Common.{◌≡◌, ℕ, ◌+◌, ◌-◌, ◌≤◌, List, ◌++◌, Option, Some, None, length, take, drop, sym, ap, ◌∙◌, append_assoc}
use Rattle.std.proofs.lemmas.List.{take-take}
use Rattle.std.proofs.Math.Seq.{take-add}
use Rattle.std.specs.Io.KnownBytes.{Appends}

-- what was written up to a place, and n bytes of what stands behind it, is what is written up to n bytes further
pub appends_part : (a b c : Option (List ℕ)) (xs : List ℕ) (at n : ℕ) → n ≤ length xs - at → Appends a b (take at xs) → Appends b c (take n (take (length xs - at) (drop at xs)))
    → Appends a c (take (at + n) xs)
appends_part None b c xs at n h p q = tt
appends_part (Some x) None c xs at n h p q = absurd p
appends_part (Some x) (Some y) None xs at n h p q = absurd q
appends_part (Some x) (Some y) (Some z) xs at n h p q =
    let part : take n (take (length xs - at) (drop at xs)) ≡ take n (drop at xs) = take-take n (length xs - at) (drop at xs) h in
    let whole : take at xs ++ take n (drop at xs) ≡ take (at + n) xs = sym (take-add at n xs) in
    q ∙ (ap (λ (s : List ℕ). y ++ s) part ∙ (ap (λ (s : List ℕ). s ++ take n (drop at xs)) p ∙ (append_assoc x (take at xs) (take n (drop at xs)) ∙ ap (λ (s : List ℕ). x ++ s) whole)))
