use Rattle.std.proofs.Common.{◌≡◌, ◌<◌, ◌^◌, ◌++◌, ◌∙◌, length, take, map, get_or, slice_index, sym, ap, subst, arith}
use Rattle.g1_words.specs.Valid.{IsReference}
use Rattle.g1_report.specs.Program.{program_of, object_of}
use Rattle.g1_report.specs.Runs.{grouped}
use Rattle.g1_report.specs.Gathered.{group_of}
use Rattle.g1_report.specs.Steps.{object_told, step_text, word_in, steps_from}
use Rattle.g1_report.proofs.Steps.{word_reference, root_reference, further_word, further_steps, steps_few}
use Rattle.g1_report.proofs.naming.groups_of.Goals as goal

pub loop-slot-init : goal.loop-slot-init
loop-slot-init c =
    let h = c.args.heap.now in
    let is : c.word_of-word.result ≡ slice_index h.roots c.args.root = c.word_of-word.ensures ∙ ap (λ ws. slice_index ws c.args.root) c.roots.ensures in
    record { reference = subst (IsReference h) (sym is) (root_reference h c.args.root c.valid.ensures); word = is; groups = λ o. ap (map group_of) c.new-groups.ensures.items }

pub loop-slot-preserved : goal.loop-slot-preserved
loop-slot-preserved c =
    let h = c.args.heap.now in
    let p = program_of c.args.names.now in
    let w = slice_index h.roots c.args.root in
    let slots = c.args.slots.now in
    let i = c.loop-slot.slot-index in
    let x = c.loop-slot.word in
    let slot = get_or slots i 0 in
    let now = c.loop-slot.invariant in
    let lt = c.loop-slot-test.true in
    let object = object_told c.object_of-object.result in
    let is : object ≡ object_of h x = c.object_of-object.ensures now.reference in
    record {
      reference = subst (IsReference h) (sym (c.word_in-word.ensures ∙ ap (λ o. word_in o slot) is)) (word_reference h x slot c.valid.ensures now.reference);
      word = further_word p h w slots i x lt now.word object c.word_in-word.result is c.word_in-word.ensures;
      groups = λ o.
          let few : length slots < 2 ^ 64 = omega arith in
          let text : c.as_str.result.now ≡ step_text p object slot =
          c.as_str.ensures.value ∙ c.in_ok-push_step.ensures o ∙ ap (λ xs. xs ++ step_text p object slot) c.clear.ensures.bytes in
          c.in_ok-add_step.ensures (steps_from p h w (take i slots)) (now.groups o) (steps_few p h w slots i x lt now.word few)
          ∙ ap grouped (further_steps p h w slots i x lt now.word object c.as_str.result.now is text);
    }
