-- The lines of humongous objects.
use Rattle.std.proofs.Common.{◌≡◌, ℕ, ◌+◌, ◌-◌, ◌≤◌, List, [], ◌∷◌, ◌++◌, map, flat_map, sym, ◌∙◌, ap, arith, append_assoc, append-nil}
use Rattle.std.specs.Prelude.{codes, decimal}
use Rattle.std.specs.List.{range_with_len}
use Rattle.std.proofs.lemmas.List.{flat_map_more}
use Rattle.g1_words.specs.Heap.{Heap}
use Rattle.g1_words.proofs.Lists.{range_more}
use Rattle.g1_text.specs.Lines.{further, text_of, line_text}
use Rattle.g1_text.proofs.Printed.{further_words}
use Rattle.g1_explain.specs.declared.finder.Finder.{Finder}
use Rattle.g1_explain.specs.Lines.{finder_words}
use Rattle.g1_explain.specs.Humongous.{run_end, kept_line, freed_line}

pub kept_end : (at : ℕ) (f : Finder) (old mid new : List ℕ) → mid ≡ old ++ (codes "humongous " ++ (decimal at ++ codes " kept")) → new ≡ mid ++ further (codes "by" ∷ finder_words f) → new ≡ old ++ text_of (kept_line at f ∷ [])
kept_end at f old mid new p q =
    let ends : List ℕ = further (codes "by" ∷ finder_words f) in
    q ∙ ap (λ l. l ++ ends) p ∙ append_assoc old (codes "humongous " ++ (decimal at ++ codes " kept")) ends
    ∙ ap (λ l. old ++ (codes "humongous " ++ l)) (append_assoc (decimal at) (codes " kept") ends)
    ∙ ap (λ l. old ++ l) (sym (append-nil (line_text (kept_line at f))))

pub freed_end : (h : Heap) (r at from end : ℕ) (old mid new : List ℕ) → from ≡ r → end ≡ run_end h r → mid ≡ old ++ (codes "humongous " ++ (decimal at ++ codes " freed"))
    → new ≡ mid ++ further (map decimal (range_with_len from (end - from))) → new ≡ old ++ text_of (freed_line h r at ∷ [])
freed_end h r at from end old mid new e f p q =
    let ends : List ℕ = further (map decimal (range_with_len r (run_end h r - r))) in
    q ∙ (λ i. mid ++ further (map decimal (range_with_len (e i) (f i - e i)))) ∙ ap (λ l. l ++ ends) p ∙ append_assoc old (codes "humongous " ++ (decimal at ++ codes " freed")) ends
    ∙ ap (λ l. old ++ (codes "humongous " ++ l)) (append_assoc (decimal at) (codes " freed") ends)
    ∙ ap (λ l. old ++ l) (sym (append-nil (line_text (freed_line h r at))))

-- one number more of a range
pub range_step : (old now after : List ℕ) (first number : ℕ) → first ≤ number → now ≡ old ++ flat_map (λ x. 32 ∷ decimal x) (range_with_len first (number - first)) → after ≡ now ++ 32 ∷ decimal number
    → after ≡ old ++ flat_map (λ x. 32 ∷ decimal x) (range_with_len first (number + 1 - first))
range_step old now after first number le e p =
    let n : number + 1 - first ≡ number - first + 1 = omega (arith, le) in
    let z : first + (number - first) ≡ number = omega (arith, le) in
    p ∙ ap (λ l. l ++ 32 ∷ decimal number) e ∙ flat_map_more (λ x. 32 ∷ decimal x) old (range_with_len first (number - first)) number
    ∙ ap (λ l. old ++ flat_map (λ x. 32 ∷ decimal x) l) (ap (λ x. range_with_len first (number - first) ++ x ∷ []) (sym z) ∙ sym (range_more first (number - first)) ∙ ap (range_with_len first) (sym n))

pub range_end : (old now new : List ℕ) (first number last : ℕ) → number - first ≡ last - first → now ≡ old ++ flat_map (λ x. 32 ∷ decimal x) (range_with_len first (number - first)) → new ≡ now ++ 10 ∷ []
    → new ≡ old ++ further (map decimal (range_with_len first (last - first)))
range_end old now new first number last n e p =
    p ∙ ap (λ l. l ++ 10 ∷ []) e ∙ append_assoc old (flat_map (λ x. 32 ∷ decimal x) (range_with_len first (number - first))) (10 ∷ [])
    ∙ ap (λ k. old ++ (flat_map (λ x. 32 ∷ decimal x) (range_with_len first k) ++ 10 ∷ [])) n ∙ ap (λ l. old ++ l) (sym (further_words decimal (range_with_len first (last - first))))
