use Rattle.std.proofs.Common.{◌/◌, ◌<◌, All, Contains, length, take, subst, sym, ap, ◌∙◌, arith}
use Rattle.g1_words.specs.Geometry.{most_words}
use Rattle.g1_layout.proofs.Conditions.{can_lay, set_in_heap}
use Rattle.g1_layout.proofs.Running.{count_places, places_low}
use Rattle.g1_layout.specs.Forwards.{Forwards}
use Rattle.g1_layout.proofs.placing.planned.Goals as goal

pub laid-requires : goal.laid-requires
laid-requires c = record {
  fits = can_lay c.args.heap.now c.args.set.now c.args.survivors.now c.geometry-geometry.ensures.valid c.requires.can;
  sizes = c.requires.sizes;
  regions = c.deref.ensures.value ∙ c.truncate.ensures.items ∙ (λ t. take (c.requires.regions t) (c.in_ok-to_space.ensures t));
  room = c.requires.room;
}

pub new-requires-clause-rising : goal.new-requires-clause-rising
new-requires-clause-rising c = c.requires.can.rising

pub new-requires-clause-in_heap : goal.new-requires-clause-in_heap
new-requires-clause-in_heap c =
    subst (λ g. All (λ r. r < g.n) c.args.set.now) (sym c.geometry-geometry.ensures.same) (set_in_heap c.args.heap.now c.args.set.now c.args.survivors.now c.geometry-geometry.ensures.valid c.requires.can)

pub new-requires-clause-in_set : goal.new-requires-clause-in_set
new-requires-clause-in_set c =
    subst (λ g. All (λ a. Contains c.args.set.now (a / g.w)) c.args.survivors.now) (sym c.geometry-geometry.ensures.same) c.requires.can.in_set

pub new-requires-clause-distinct : goal.new-requires-clause-distinct
new-requires-clause-distinct c = c.requires.can.distinct

pub new-requires-clause-one_each : goal.new-requires-clause-one_each
new-requires-clause-one_each c =
    let h = c.args.heap.now in
    let l = c.args.survivors.now in
    let valid = c.geometry-geometry.ensures.valid in
    ap length (c.deref-2.ensures.value ∙ c.in_ok-places.ensures.places) ∙ count_places h l (omega (arith, valid.limits.w_least)) (can_lay h c.args.set.now l valid c.requires.can) c.requires.room

pub new-requires-clause-low : goal.new-requires-clause-low
new-requires-clause-low c =
    let h = c.args.heap.now in
    let l = c.args.survivors.now in
    let valid = c.geometry-geometry.ensures.valid in
    subst (All (λ p. p < most_words)) (sym (c.deref-2.ensures.value ∙ c.in_ok-places.ensures.places))
    (places_low h l (omega (arith, valid.limits.w_least)) (can_lay h c.args.set.now l valid c.requires.can) c.requires.room valid.limits.words_most)

pub invariant_of-result : goal.invariant_of-result
invariant_of-result c =
    subst (λ l. Forwards c.in_ok-table.table l c.in_ok-places.places.items) (sym (c.in_ok-to_vec-2.ensures.items_if_clones_equal (λ x y e. e)))
    (subst (λ ps. Forwards c.in_ok-table.table c.args.survivors.now ps) c.deref-2.ensures.value c.in_ok-table.ensures)

pub returns : goal.returns
returns c = λ t. record {
  set = c.in_ok-to_vec.ensures.items_if_clones_equal (λ x y e. e) t;
  survivors = c.in_ok-to_vec-2.ensures.items_if_clones_equal (λ x y e. e) t;
  places = c.in_ok-places.ensures.places t;
  to_space = (c.truncate.ensures.items ∙ (λ u. take (c.requires.regions u) (c.in_ok-to_space.ensures u))) t;
  runs = c.in_ok-places.ensures.runs t;
  words = c.requires.words t;
}
