use Rattle.std.proofs.Common.{Vec, Global, ℕ, ◌∙◌, length, ap, arith}
use Rattle.std.proofs.lemmas.Grind.{common_steps}
use Rattle.std.proofs.lemmas.List.{length-map}
use Rattle.g1_words.specs.Heap.{Heap, objects_in}
use Rattle.g1_words.specs.declared.object.Object.{Object}
use Rattle.g1_text.proofs.printing.push_region.Goals as goal

pub push_region_line-requires-clause-objects : goal.push_region_line-requires-clause-objects
push_region_line-requires-clause-objects c =
    let same = ap (λ (h : Heap). length (objects_in h c.args.region)) c.heap-heap.ensures.same in
    omega (arith, c.len.ensures, c.in_ok-starts.starts.ok, ap length c.in_ok-starts.ensures.ok, length-map (objects_in c.heap-heap.result.now c.args.region) (λ (o : Object). o.at), same)

pub bounds-remembered-region : goal.bounds-remembered-region
bounds-remembered-region c =
    omega (arith, c.requires, c.heap-heap.ensures.valid.one_each, ap length c.remembered.ensures, length-map c.remembered.result.now (λ (s : Vec ℕ Global). s.items))

pub push_objects-requires-clause-starts : goal.push_objects-requires-clause-starts
push_objects-requires-clause-starts c = c.as_slice-2.ensures.value ∙ c.in_ok-starts.ensures.ok

pub returns-clause-text : goal.returns-clause-text
returns-clause-text c = grind (arith, common_steps)
