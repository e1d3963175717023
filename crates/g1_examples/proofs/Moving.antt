-- The images between a pause's two steps, by computing.
use Rattle.std.proofs.Common.{ℕ, List, [], ◌∷◌, ◌++◌, refl}
use Rattle.std.specs.Prelude.{replicate}
use Rattle.g1_words.specs.declared.object.Object.{Object}
use Rattle.g1_words.specs.Heap.{free_region}
use Rattle.g1_words.specs.Layout.{forward, kept}
use Rattle.g1_words.specs.Copy.{IsCopy}
use Rattle.g1_words.specs.Survivors.{seeds, children}
use Rattle.g1_image.specs.Image.{Image}
use Rattle.g1_after.specs.Moved.{IsMoved}
use Rattle.g1_after.specs.Paused.{Paused}
use Rattle.g1_examples.specs.Examples.{dead_owner, dead_owner_after, dead_owner_image, filled, first, head, heap16, humongous_owner, humongous_owner_after, humongous_owner_image, image}
use Rattle.g1_examples.specs.Examples.{more, one_object, one_object_after, ordinary, shared_target, shared_target_after, shared_target_image}
use Rattle.g1_examples.specs.Unnamed.{chain, chain_after, named_by_the_dead, own_slot, unnamed_owner}
use Rattle.g1_words.proofs.Unique.{search_ends}
use Rattle.g1_examples.proofs.Closed.{each_member, cleared_by_test}

f : ℕ → ℕ
f = forward dead_owner (16 ∷ [])

os : List Object
os = kept dead_owner (1 ∷ []) (16 ∷ [])

pub dead_owner_moved : IsMoved dead_owner_image (1 ∷ []) (16 ∷ []) dead_owner_after
unfolding f os
dead_owner_moved = record {
  geometry = refl;
  size = refl;
  copies = each_member (IsCopy f dead_owner dead_owner_after.heap) os (refl, (refl, tt));
  cleared = cleared_by_test dead_owner_after.heap f os refl;
  table = refl;
  roots = refl;
  remembered = refl;
  log = refl;
  current = refl;
}

pub shared_target_moved : IsMoved shared_target_image (1 ∷ []) (21 ∷ 16 ∷ []) shared_target_after
shared_target_moved = record {
  geometry = refl;
  size = refl;
  copies = each_member (IsCopy (forward shared_target (21 ∷ 16 ∷ [])) shared_target shared_target_after.heap)
      (kept shared_target (1 ∷ []) (21 ∷ 16 ∷ [])) (refl, (refl, (refl, (refl, tt))));
  cleared = cleared_by_test shared_target_after.heap (forward shared_target (21 ∷ 16 ∷ [])) (kept shared_target (1 ∷ []) (21 ∷ 16 ∷ [])) refl;
  table = refl;
  roots = refl;
  remembered = refl;
  log = refl;
  current = refl;
}

pub humongous_moved : IsMoved humongous_owner_image (3 ∷ []) (48 ∷ []) humongous_owner_after
humongous_moved = record {
  geometry = refl;
  size = refl;
  copies = each_member (IsCopy (forward humongous_owner (48 ∷ [])) humongous_owner humongous_owner_after.heap)
      (kept humongous_owner (3 ∷ []) (48 ∷ [])) (refl, (refl, tt));
  cleared = cleared_by_test humongous_owner_after.heap (forward humongous_owner (48 ∷ [])) (kept humongous_owner (3 ∷ []) (48 ∷ [])) refl;
  table = refl;
  roots = refl;
  remembered = refl;
  log = refl;
  current = refl;
}

pub one_object_moved : IsMoved one_object (1 ∷ []) (16 ∷ []) one_object_after
one_object_moved = record {
  geometry = refl;
  size = refl;
  copies = each_member (IsCopy (forward one_object.heap (16 ∷ [])) one_object.heap one_object_after.heap)
      (kept one_object.heap (1 ∷ []) (16 ∷ [])) (refl, tt);
  cleared = cleared_by_test one_object_after.heap (forward one_object.heap (16 ∷ [])) (kept one_object.heap (1 ∷ []) (16 ∷ [])) refl;
  table = refl;
  roots = refl;
  remembered = refl;
  log = refl;
  current = refl;
}

pub chain_stays : IsMoved chain [] [] chain
chain_stays = record {
  geometry = refl;
  size = refl;
  copies = each_member (IsCopy (forward chain.heap []) chain.heap chain.heap) (kept chain.heap [] []) (refl, (refl, (refl, tt)));
  cleared = cleared_by_test chain.heap (forward chain.heap []) (kept chain.heap [] []) refl;
  table = refl;
  roots = refl;
  remembered = refl;
  log = refl;
  current = refl;
}

pub second_stays : IsMoved chain_after [] [] chain_after
second_stays = record {
  geometry = refl;
  size = refl;
  copies = each_member (IsCopy (forward chain_after.heap []) chain_after.heap chain_after.heap) (kept chain_after.heap [] [])
      (refl, (refl, tt));
  cleared = cleared_by_test chain_after.heap (forward chain_after.heap []) (kept chain_after.heap [] []) refl;
  table = refl;
  roots = refl;
  remembered = refl;
  log = refl;
  current = refl;
}

pub own_slot_stays : IsMoved own_slot [] [] own_slot
own_slot_stays = record {
  geometry = refl;
  size = refl;
  copies = each_member (IsCopy (forward own_slot.heap []) own_slot.heap own_slot.heap) (kept own_slot.heap [] []) (refl, tt);
  cleared = cleared_by_test own_slot.heap (forward own_slot.heap []) (kept own_slot.heap [] []) refl;
  table = refl;
  roots = refl;
  remembered = refl;
  log = refl;
  current = refl;
}

pub dead_stays : IsMoved named_by_the_dead [] [] named_by_the_dead
dead_stays = record {
  geometry = refl;
  size = refl;
  copies = each_member (IsCopy (forward named_by_the_dead.heap []) named_by_the_dead.heap named_by_the_dead.heap)
      (kept named_by_the_dead.heap [] []) (refl, (refl, tt));
  cleared = cleared_by_test named_by_the_dead.heap (forward named_by_the_dead.heap []) (kept named_by_the_dead.heap [] []) refl;
  table = refl;
  roots = refl;
  remembered = refl;
  log = refl;
  current = refl;
}

-- once the dead object is gone
abbrev pub without_the_dead : Image
without_the_dead = image (heap16 (replicate 16 0 ++ filled 64 (head 20 0 ∷ [])) (free_region ∷ first 16 ∷ more 4 ∷ free_region ∷ free_region ∷ []) [] 5) ([] ∷ [] ∷ [] ∷ [] ∷ [] ∷ []) []

pub dead_goes : IsMoved named_by_the_dead (0 ∷ []) [] without_the_dead
dead_goes = record {
  geometry = refl;
  size = refl;
  copies = each_member (IsCopy (forward named_by_the_dead.heap []) named_by_the_dead.heap without_the_dead.heap)
      (kept named_by_the_dead.heap (0 ∷ []) []) (refl, tt);
  cleared = cleared_by_test without_the_dead.heap (forward named_by_the_dead.heap []) (kept named_by_the_dead.heap (0 ∷ []) []) refl;
  table = refl;
  roots = refl;
  remembered = refl;
  log = refl;
  current = refl;
}

-- the object is copied, and its owner stands
abbrev pub with_a_copy : Image
with_a_copy = image (heap16 ((head 40 20 ∷ replicate 16 0) ++ ((65 ∷ replicate 46 0) ++ (head 2 0 ∷ 4 ∷ replicate 30 0)))
    (first 16 ∷ more 16 ∷ more 8 ∷ free_region ∷ ordinary 2 ∷ free_region ∷ []) [] 6)
    ([] ∷ [] ∷ [] ∷ [] ∷ (4 ∷ []) ∷ [] ∷ []) []

pub copied : IsMoved unnamed_owner (3 ∷ []) (48 ∷ []) with_a_copy
copied = record {
  geometry = refl;
  size = refl;
  copies = each_member (IsCopy (forward unnamed_owner.heap (48 ∷ [])) unnamed_owner.heap with_a_copy.heap)
      (kept unnamed_owner.heap (3 ∷ []) (48 ∷ [])) (refl, (refl, tt));
  cleared = cleared_by_test with_a_copy.heap (forward unnamed_owner.heap (48 ∷ [])) (kept unnamed_owner.heap (3 ∷ []) (48 ∷ [])) refl;
  table = refl;
  roots = refl;
  remembered = refl;
  log = refl;
  current = refl;
}

pub dead_owner_paused : Paused dead_owner_image (1 ∷ []) dead_owner_after
dead_owner_paused = (16 ∷ [], search_ends (seeds dead_owner (1 ∷ [])) (children dead_owner (1 ∷ [])) 1 refl, record { between = dead_owner_after; moved = dead_owner_moved; freed = refl })

pub chain_paused : Paused chain [] chain_after
chain_paused = ([], search_ends (seeds chain.heap []) (children chain.heap []) 0 refl, record { between = chain; moved = chain_stays; freed = refl })
