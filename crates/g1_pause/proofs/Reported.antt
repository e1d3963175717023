-- The report of a pause that was made ready.
use Rattle.std.proofs.Common.{◌≡◌, ℕ, List, length, sym, ◌∙◌, ap, subst}
use Rattle.std.specs.Prelude.{sum}
use Rattle.g1_words.specs.Survivors.{Survivors}
use Rattle.g1_words.specs.Layout.{sizes_of, to_space}
use Rattle.g1_words.specs.Valid.{IsValid}
use Rattle.g1_image.specs.Image.{Image, IsImage}
use Rattle.g1_after.specs.Made.{image_moved}
use Rattle.g1_after.specs.Moved.{IsMoved}
use Rattle.g1_choose.specs.declared.parameters.Cost.{Cost}
use Rattle.g1_layout.specs.Plan.{Plan}
use Rattle.g1_copy.specs.Plans.{IsPauseOf}
use Rattle.g1_copy.specs.Prepared.{IsMadeFor, Prepared}
use Rattle.g1_pause.specs.declared.settings.Choice.{Choice}
use Rattle.g1_pause.specs.declared.report.Report.{Report}
use Rattle.g1_pause.specs.Answer.{IsSetFor}
use Rattle.g1_pause.specs.Report.{IsReport}
use Rattle.g1_words.proofs.Shapes.{built}
use Rattle.g1_after.proofs.Existence.{made_is_moved}

pub reported : (cost : Cost) (choice : Choice) (i : Image) (set l : List ℕ) (p : Prepared) (x : Report) → IsValid i.heap → IsSetFor cost i choice set → IsMadeFor p i set l
    → x.set.items ≡ set → x.to.items ≡ to_space i.heap l → x.objects ≡ length l → x.words ≡ sum (sizes_of i.heap l) → x.humongous.items ≡ p.humongous → IsReport cost choice i x
reported cost choice i set l p x valid chosen made same to objects words humongous = record {
  survivors = l;
  set = subst (IsSetFor cost i choice) (sym same) chosen;
  found = subst (λ y. Survivors i.heap y l) (sym same) made.room.survivors;
  to = to;
  objects = objects;
  words = words;
  between = image_moved i set l;
  moved = subst (λ y. IsMoved i y l (image_moved i set l)) (sym same) (made_is_moved i set l (built i.heap valid) made.room);
  humongous = humongous ∙ made.humongous;
}

-- the report of a plan that was made ready
pub told_of : (cost : Cost) (choice : Choice) (i : Image) (p : Plan) (q : Prepared) (x : Report) → IsImage i → (set : List ℕ) → IsSetFor cost i choice set → IsPauseOf i.heap set p
    → IsMadeFor q i set p.survivors → x.set.items ≡ set → x.to.items ≡ p.to_space → x.objects ≡ length p.survivors → x.words ≡ p.words → x.humongous.items ≡ q.humongous → IsReport cost choice i x
told_of cost choice i p q x image set chosen pause made same to objects words humongous =
    reported cost choice i set p.survivors q x image.heap chosen made same
    (to ∙ ap (λ (z : Plan). z.to_space) pause.made.plan) objects (words ∙ ap (λ (z : Plan). z.words) pause.made.plan) humongous
