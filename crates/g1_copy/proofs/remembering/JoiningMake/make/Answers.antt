use Rattle.std.proofs.Common.{◌≡◌, ◌∙◌, [], map, subst, sym, arith}
use Rattle.std.proofs.lemmas.List.{get_or-map, length-map}
use Rattle.std.specs.List.Sorted.{IsStrictlyIncreasing}
use Rattle.g1_copy.specs.Remembered.{cards_at}
use Rattle.g1_copy.proofs.remembering.JoiningMake.make.Goals as goal

pub join-requires : goal.join-requires
join-requires c =
    let j = c.args.self.now in
    let r = c.args.region in
    let lt = c.requires.0 in
    let s = c.requires.1 in
    let remembered : c.deref.result.now ≡ cards_at (map (λ s. s.items) c.args.self.now.remembered.now) c.args.region =
    c.deref.ensures.value ∙ sym (get_or-map (λ s. s.items) j.remembered.now r c.index-self-region.result [] (omega (arith, lt, s.remembered_count, length-map j.remembered.now (λ s. s.items)))) in
    let outer : c.deref-2.result.now ≡ cards_at (map (λ s. s.items) c.args.self.now.outer.now) c.args.region =
    c.deref-2.ensures.value ∙ sym (get_or-map (λ s. s.items) j.outer.now r c.index-self-region-2.result [] (omega (arith, lt, s.outer_count, length-map j.outer.now (λ s. s.items)))) in
    let inner : c.deref-3.result.now ≡ cards_at (map (λ s. s.items) c.args.self.now.inner.now) c.args.region =
    c.deref-3.ensures.value ∙ sym (get_or-map (λ s. s.items) j.inner.now r c.index-self-region-3.result [] (omega (arith, lt, s.inner_count, length-map j.inner.now (λ s. s.items)))) in
    record {
      refined = subst IsStrictlyIncreasing (sym remembered) (s.remembered_rise r lt);
      outer = subst IsStrictlyIncreasing (sym outer) (s.outer_rise r lt);
      inner = subst IsStrictlyIncreasing (sym inner) (s.inner_rise r lt);
    }
