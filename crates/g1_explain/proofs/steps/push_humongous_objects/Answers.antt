use Rattle.std.proofs.Common.{◌≡◌, ◌<◌, ◌∙◌, ◌++◌, ℕ, List, All, map, sym, ap, subst, string_bytes}
use Rattle.std.proofs.lemmas.Result.{on_ok_weaker}
use Rattle.g1_words.specs.Heap.{Heap, regions}
use Rattle.g1_words.specs.Lists.{has}
use Rattle.g1_image.specs.Image.{Image}
use Rattle.g1_image.specs.Cards.{refined, IsTracked}
use Rattle.g1_layout.proofs.Conditions.{set_in_heap}
use Rattle.g1_text.specs.Lines.{text_of}
use Rattle.g1_explain.specs.Humongous.{humongous_lines}
use Rattle.g1_explain.specs.Keepers.{keepers_of}
use Rattle.g1_explain.specs.Searched.{AreObjects}
use Rattle.g1_explain.proofs.Reasons.{found_objects}
use Rattle.g1_explain.proofs.steps.push_humongous_objects.Goals as goal

pub returns : goal.returns
returns c = λ set pause.
    let i : Image = c.args.before.now in
    let chosen : List ℕ = c.args.plan.now.set in
    let found : List ℕ = c.args.plan.now.survivors in
    let valid = c.image.ensures.tracked.image.heap in
    let heap : c.heap-heap.result.now ≡ i.heap = c.heap-heap.ensures.same ∙ ap (λ (j : Image). j.heap) c.image.ensures.same in
    let walk : c.of-walkable.result ≡ i = c.of-walkable.ensures in
    let below : All (λ r. r < i.heap.geometry.n) chosen = set_in_heap i.heap chosen found valid pause.made.placeable in
    let are : AreObjects i.heap found = found_objects i.heap set found valid pause.survivors in
    let marks = c.in_ok-set.ensures (subst (λ (g : Heap). All (λ r. r < g.geometry.n) c.set.result.now) (sym heap) (subst (All (λ r. r < i.heap.geometry.n)) (sym c.set.ensures) below)) in
    let kept = c.in_ok-keepers.ensures chosen (subst IsTracked (sym walk) c.image.ensures.tracked) (c.remembered.ensures.refined ∙ ap (λ (j : Image). map (refined j) (regions j.heap)) (sym walk))
    (λ r. marks r ∙ ap (λ l. has l r) c.set.ensures) (subst (λ (j : Image). AreObjects j.heap c.survivors.result.now) (sym walk) (subst (AreObjects i.heap) (sym c.survivors.ensures) are)) in
    let keepers : c.deref.result.now ≡ keepers_of i.heap chosen found = c.deref.ensures.value ∙ kept ∙ (λ t. keepers_of (walk t).heap chosen (c.survivors.ensures t)) in
    on_ok_weaker c.push_humongous.result (λ e. e ∙ (λ t. string_bytes c.args.text.now ++ text_of (humongous_lines (heap t) (keepers t)))) c.push_humongous.ensures
