use Rattle.std.proofs.Common.{◌≡◌, ◌∙◌, ℕ, List, false, filter, ap, string_bytes}
use Rattle.std.specs.Prelude.{slice_index_or}
use Rattle.std.specs.List.{list_any}
use Rattle.std.proofs.lemmas.Result.{on_ok_weaker}
use Rattle.g1_words.specs.Heap.{Heap, word, region_of}
use Rattle.g1_words.specs.References.{named}
use Rattle.g1_explain.specs.Cards.{slots_to}
use Rattle.g1_explain.proofs.Marks.{entry_end}
use Rattle.g1_explain.proofs.cards.push_entry.Goals as goal

pub returns : goal.returns
returns c =
    let h : Heap = c.args.walkable.now.heap in
    let test = λ (r : ℕ). slice_index_or c.args.set.now r false in
    let leading : c.deref.result.now ≡ slots_to h test c.args.card =
    c.deref.ensures.value ∙ c.in_ok-leading.ensures
    ∙ ap (λ (g : Heap). filter (λ p. list_any (λ a. test (region_of g a)) (named (word g p))) c.as_slice.result.now) c.heap.ensures.same
    ∙ ap (λ (l : List ℕ). filter (λ p. list_any (λ a. test (region_of h a)) (named (word h p))) l) (c.as_slice.ensures ∙ c.slots_on-slots.ensures) in
    on_ok_weaker c.push_addresses.result
    (entry_end h test c.args.card (string_bytes c.args.text.now) (string_bytes c.write.new.self) (string_bytes c.push_addresses.new.text) c.deref.result.now leading c.in_ok-write.ensures.bytes) c.push_addresses.ensures
