use Rattle.std.proofs.Common.{◌≡◌, ◌<◌, ◌++◌, ℕ, List, [], ◌∷◌, Bor, length, get_or, slice_index, map, take, sym, ◌∙◌, ap, arith}
use Rattle.std.proofs.lemmas.List.{map_push, get_or_read}
use Rattle.g1_text.specs.Graphs.{NamedObject}
use Rattle.g1_text.specs.ByName.{read_holder}
use Rattle.g1_text.specs.Carried.{named_at}
use Rattle.g1_text.specs.Filled.{located, object_of}
use Rattle.g1_text.proofs.Pushing.{located_more, name_read}
use Rattle.g1_text.proofs.filling.name_objects.Goals as goal

abbrev no_name : Bor (List ℕ)
no_name = record { ref_ptr = (0, 0); now = [] }

abbrev no_object : NamedObject
no_object = record { name = []; slots = []; written = [] }

pub loop-place-preserved : goal.loop-place-preserved
loop-place-preserved c = λ g same count under.
    let ats = c.args.places.now.addresses.items in
    let order = c.args.places.now.order.items in
    let names = c.args.names.now in
    let i = c.loop-place.place-index in
    let k = get_or order i 0 in
    let lt : i < length order = omega (arith, c.loop-place-test.true, ap length c.deref-place-items.ensures.value) in
    let here : get_or c.deref-place-items.result.now i 0 ≡ k = ap (λ l. get_or l i 0) c.deref-place-items.ensures.value in
    let few : k < length g.objects = under i 0 lt in
    let at_is : c.index.result.now ≡ slice_index ats k = get_or_read ats k c.index.result.now (omega (arith, few, count)) (c.index.ensures ∙ ap (λ j. get_or ats j c.index.result.now) here) 0 in
    let name_is : (get_or names (get_or c.deref-place-items.result.now i 0) no_name).now ≡ (object_of g k).name =
    ap (λ j. (get_or names j no_name).now) here ∙ name_read names g.objects k no_name no_object same few in
    let so_far = located g ats (take i order) in
    ap (map read_holder) c.in_ok-push.ensures.items ∙ map_push read_holder c.loop-place.named.items (c.index.result.now, get_or names (get_or c.deref-place-items.result.now i 0) no_name)
    ∙ (λ t. c.loop-place.invariant g same count under t ++ (at_is t, name_is t) ∷ [])
    ∙ sym (map_push named_at so_far (object_of g k, slice_index ats k)) ∙ ap (map named_at) (sym (located_more g ats order i lt))
