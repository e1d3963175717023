-- The set of a choice.
use Rattle.std.proofs.Common.{◌≡◌, ◌≤◌, ℕ, true, List, take, length, map, Contains, refl, ltb}
use Rattle.std.specs.Prelude.{not, ◌&&◌}
use Rattle.std.proofs.lemmas.Bool.{and_parts}
use Rattle.g1_words.specs.declared.region.Kind.{Kind}
use Rattle.g1_words.specs.declared.region.Kind.TheVariants.{Free, Ordinary, HumongousFirst, Continuation}
use Rattle.g1_words.specs.Heap.{kind, pinned, regions, is_ordinary}
use Rattle.g1_words.specs.Layout.{HasRoom, need, free_regions}
use Rattle.g1_words.specs.Survivors.{AllOrdinary, Survivors}
use Rattle.g1_image.specs.Image.{Image}
use Rattle.g1_image.specs.Cards.{refined}
use Rattle.g1_choose.specs.declared.parameters.Cost.{Cost}
use Rattle.g1_choose.specs.Choice.{candidates, is_candidate, garbage}
use Rattle.g1_pause.specs.declared.settings.Choice.{Choice}
use Rattle.g1_pause.specs.declared.settings.Choice.TheVariants.{Budget, Given}
use Rattle.g1_pause.specs.Answer.{IsSetFor}
use Rattle.g1_pause.proofs.NamedPauses.{named_ordinary, named_regions}
use Rattle.g1_words.proofs.Members.{filter_member}
use Rattle.g1_frontier.specs.Window.{AreRegions}
use Rattle.g1_choose.proofs.OneChoice.{only_candidates}

ordinary_by_test : (k : Kind) → is_ordinary k ≡ true → k ≡ Ordinary
ordinary_by_test Free e = cc
ordinary_by_test Ordinary e = refl
ordinary_by_test HumongousFirst e = cc
ordinary_by_test Continuation e = cc

-- its regions are ordinary
pub set_ordinary : (cost : Cost) (i : Image) (choice : Choice) (set : List ℕ) → IsSetFor cost i choice set → AllOrdinary i.heap set
set_ordinary cost i (Budget b) set s r c =
    let remembered : List (List ℕ) = map (refined i) (regions i.heap) in
    let d : Contains (candidates cost i.heap remembered s.0) r = only_candidates cost i.heap remembered s.0 (length i.log) b set r s.2 c in
    let p = (filter_member (is_candidate cost i.heap remembered s.0) (regions i.heap) r d).1 in
    ordinary_by_test (kind i.heap r) (and_parts (is_ordinary (kind i.heap r)) (not (pinned i.heap r) && ltb 0 (garbage cost i.heap remembered s.0 r)) p).0
set_ordinary cost i (Given list) set s r c = named_ordinary i.heap list.items set s.0 s.1 r c

-- its survivors have room where the free regions have
pub set_room : (cost : Cost) (i : Image) (choice : Choice) (set l : List ℕ) → IsSetFor cost i choice set → Survivors i.heap set l → need i.heap l ≤ length (free_regions i.heap)
    → HasRoom i.heap set l
set_room cost i choice set l chosen found fits = record { ordinary = set_ordinary cost i choice set chosen; survivors = found; room = fits }

-- they are regions of the heap, rising
pub set_regions : (cost : Cost) (i : Image) (choice : Choice) (set : List ℕ) → IsSetFor cost i choice set → AreRegions i.heap set
set_regions cost i (Budget b) set s = named_regions i.heap (take s.2.taken s.2.order) set s.2.rising
set_regions cost i (Given list) set s = named_regions i.heap list.items set s.1
