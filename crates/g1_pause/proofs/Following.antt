-- What a pause gives follows from what it was given.
use Rattle.std.proofs.Common.{ℕ, List, Ok, ap, ◌∙◌}
use Rattle.g1_words.specs.declared.limits.Limits.{Limits}
use Rattle.g1_image.specs.Image.{Image}
use Rattle.g1_image.specs.Cards.{IsTracked}
use Rattle.g1_choose.specs.declared.parameters.Cost.{Cost}
use Rattle.g1_pause.specs.declared.settings.Choice.{Choice}
use Rattle.g1_pause.specs.Answer.{IsEvacuated, done, IsAnswerWithin, written}
use Rattle.g1_pause.specs.Follows.{Follows, TextFollowsWithin}
use Rattle.g1_words.proofs.OneToOne.{forward_one_to_one}
use Rattle.g1_words.proofs.Sound.{sound}
use Rattle.g1_after.proofs.PausedLaws.{copies_paused, graph_stays, nothing_into_freed, objects_paused, tracked_paused}
use Rattle.g1_pause.proofs.CollectionSets.{set_room}

pub evacuation_follows : (cost : Cost) (choice : Choice) (i j : Image) → IsTracked i → IsEvacuated cost choice i (Ok j) → Follows cost choice i j
evacuation_follows cost choice i j t (done set l s v room m) =
    let valid = t.image.heap in
    let has_room = set_room cost i choice set l s v room in
    let nothing = nothing_into_freed i set l j valid has_room m in
    record {
      set = set;
      survivors = l;
      chosen = s;
      found = v;
      paused = m;
      one_to_one = forward_one_to_one i.heap set l (sound i.heap valid) has_room;
      objects = objects_paused i set l j valid has_room m;
      copies = copies_paused i set l j valid has_room m;
      roots = ap (λ (x : Image). x.heap.roots) m.freed ∙ m.moved.roots;
      graph = graph_stays i set l j valid has_room m;
      no_root = nothing.0;
      no_slot = nothing.1;
      tracked = tracked_paused i set l j t has_room m;
      processed = ap (λ (x : Image). x.log) m.freed ∙ m.moved.log;
    }

pub answer_follows : (limits : Limits) (cost : Cost) (choice : Choice) (bytes out : List ℕ) → IsAnswerWithin limits cost choice bytes (Ok out) → TextFollowsWithin limits cost choice bytes out
answer_follows limits cost choice bytes out (written {i = i} {j = j} t c e o) = record {
  before = i;
  after = j;
  read = t;
  written = o;
  follows = evacuation_follows cost choice i j (record { image = t.1.0; covered = c }) e;
}
