use Rattle.std.proofs.Common.{◌≡◌, ◌++◌, ℕ}
use Rattle.g1_text.specs.Weak.{HasSlots, slots_in, behind_slots, content_of}
use Rattle.g1_text.specs.Marking.{slots_of, texts}
use Rattle.g1_text.proofs.weak.cut_slots.Given as goal

abbrev pub decreases-slots : goal.decreases-slots
decreases-slots l = l.left

abbrev pub invariant-slots : goal.invariant-slots
invariant-slots l = (n : ℕ) × HasSlots (texts l.fn.words) n
    × (slots_in n (content_of (texts l.fn.words)) ≡ slots_of l.targets.items ++ slots_in l.left (texts l.rest))
    × (behind_slots n (content_of (texts l.fn.words)) ≡ behind_slots l.left (texts l.rest))
