use Rattle.std.proofs.Common.{◌≡◌, List, ℕ, [], ◌∷◌, refl, ap}
use Rattle.g1_words.specs.Survivors.{seeds, children}
use Rattle.g1_words.specs.Heap.{kind}
use Rattle.g1_image.specs.Image.{Image}
use Rattle.g1_examples.specs.Examples.{dead_cycle, dead_owner_after, dead_owner_image, shared_target}
use Rattle.g1_examples.specs.Unnamed.{chain, chain_after, chain_after_two}
use Rattle.g1_words.proofs.Unique.{breadth_first_unique, search_ends}
use Rattle.g1_words.specs.declared.region.Kind.TheVariants.{Free, HumongousFirst, Ordinary}
use Rattle.g1_after.proofs.PausedLaws.{one_image_after}
use Rattle.g1_examples.proofs.Moving.{chain_paused, dead_owner_paused}
use Rattle.g1_examples.proofs.refusals.Goals as goal

pub returns-clause-no_cycle : goal.returns-clause-no_cycle
returns-clause-no_cycle c = λ b. let e : ◌≡◌ {A = List ℕ} [] (16 ∷ 18 ∷ []) =
    breadth_first_unique (seeds dead_cycle (1 ∷ [])) (children dead_cycle (1 ∷ [])) [] (16 ∷ 18 ∷ []) (search_ends (seeds dead_cycle (1 ∷ [])) (children dead_cycle (1 ∷ [])) 0 refl) b in cc

pub returns-clause-other_order : goal.returns-clause-other_order
returns-clause-other_order c = λ b. let e : ◌≡◌ {A = List ℕ} (21 ∷ 16 ∷ []) (16 ∷ 21 ∷ []) =
    breadth_first_unique (seeds shared_target (1 ∷ [])) (children shared_target (1 ∷ [])) (21 ∷ 16 ∷ []) (16 ∷ 21 ∷ [])
    (search_ends (seeds shared_target (1 ∷ [])) (children shared_target (1 ∷ [])) 1 refl) b in cc

pub returns-clause-unchanged : goal.returns-clause-unchanged
returns-clause-unchanged c = λ m.
    let same : dead_owner_after ≡ dead_owner_image = one_image_after dead_owner_image (1 ∷ []) dead_owner_after dead_owner_image dead_owner_paused m in
    let clash : Free ≡ Ordinary = ap (λ (i : Image). kind i.heap 1) same in
    cc

-- what only a freed object named stands until the next pause
pub returns-clause-at_once : goal.returns-clause-at_once
returns-clause-at_once c = λ m.
    let same : chain_after ≡ chain_after_two = one_image_after chain [] chain_after chain_after_two chain_paused m in
    let clash : HumongousFirst ≡ Free = ap (λ (i : Image). kind i.heap 2) same in
    cc
