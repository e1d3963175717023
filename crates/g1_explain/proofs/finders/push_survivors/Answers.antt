use Rattle.std.proofs.Common.{◌≡◌, ◌++◌, List, ℕ, subst, flat_map, min, slice_index, string_bytes, length}
use Rattle.std.specs.List.{range_with_len}
use Rattle.std.proofs.lemmas.Result.{on_ok_weaker}
use Rattle.g1_words.specs.Heap.{Heap}
use Rattle.g1_text.specs.Lines.{line_text}
use Rattle.g1_explain.specs.declared.finder.Finder.{Finder}
use Rattle.g1_explain.specs.Searched.{AreEnough, finder_at}
use Rattle.g1_explain.specs.Survivors.{survivor_line}
use Rattle.g1_explain.proofs.Reasons.{found_objects}
use Rattle.g1_explain.proofs.SurvivorLines.{survivors_text}
use Rattle.g1_explain.proofs.finders.push_survivors.Goals as goal

pub returns : goal.returns
returns c = λ set s.
    let h : Heap = c.args.walkable.now.heap in
    let found : List ℕ = c.args.survivors.now in
    let old = string_bytes c.args.text.now in
    let now = string_bytes c.push_finders.new.text in
    let fs : List Finder = c.in_ok-finders.finders.items in
    let valid = c.heap.ensures.valid.heap in
    let are = found_objects h set found valid s.survivors in
    let many : AreEnough h c.args.cards.now found (length found) fs = c.in_ok-finders.ensures.enough are in
    on_ok_weaker c.push_finders.result
    (λ e. survivors_text h set c.args.cards.now found old now fs valid s (c.in_ok-finders.ensures.met are) many
    (subst (λ (g : Heap). now ≡ old ++ flat_map (λ j. line_text (survivor_line g (record { finder = finder_at fs j; target = slice_index found j }))) (range_with_len 0 (min (length found) (length fs)))) c.heap.ensures.same
    (subst (λ (l : List Finder). now ≡ old ++ flat_map (λ j. line_text (survivor_line c.heap.result.now (record { finder = finder_at l j; target = slice_index found j }))) (range_with_len 0 (min (length found) (length l))))
    c.deref.ensures.value e))) c.push_finders.ensures
