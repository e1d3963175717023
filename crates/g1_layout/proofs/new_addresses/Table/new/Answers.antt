use Rattle.std.proofs.Common.{◌≡◌, ◌*◌, ◌≤◌, All, length, subst, sym, ap, ◌∙◌, arith}
use Rattle.std.proofs.Math.Nat.{mul-le-mul_right}
use Rattle.std.proofs.lemmas.List.{length-replicate, with_items_is}
use Rattle.std.specs.Vec.{with_items}
use Rattle.g1_words.specs.Numbers.{number_at}
use Rattle.g1_layout.specs.Words.{ArePositions, AreIndices, AreMarkedTo, ArePlacedTo, HasIndex, goes_to}
use Rattle.g1_layout.proofs.Conditions.{rising_few}
use Rattle.g1_layout.proofs.Forwarding.{goes_where_moved}
use Rattle.g1_layout.proofs.Positions.{table_has}
use Rattle.g1_layout.proofs.new_addresses.Table.new.Goals as goal

pub positions-requires-clause-few : goal.positions-requires-clause-few
positions-requires-clause-few c =
    let n = rising_few c.args.set.now c.args.geometry.now.n c.requires.rising c.requires.in_heap in
    omega (arith, n, c.regions.ensures.limits.n_most)

pub numbered-requires-clause-few : goal.numbered-requires-clause-few
numbered-requires-clause-few c =
    let w = c.args.geometry.now.w in
    let n = rising_few c.args.set.now c.args.geometry.now.n c.requires.rising c.requires.in_heap in
    let rows : length c.args.set.now * w ≤ c.args.geometry.now.n * w = mul-le-mul_right w n in
    omega (arith, rows, c.regions.ensures.limits.words_most)

pub write_places-requires-clause-in_set : goal.write_places-requires-clause-in_set
write_places-requires-clause-in_set c =
    let limits = c.regions.ensures.limits in
    table_has c.args.geometry.now.w c.args.set.now c.deref-2.result.now (omega (arith, limits.w_least)) (subst (ArePositions c.args.set.now) (sym c.deref-2.ensures.value) c.in_ok-positions.ensures) c.args.survivors.now c.requires.in_set

pub returns : goal.returns
returns c =
    let w = c.args.geometry.now.w in
    let l = c.args.survivors.now in
    let ps = c.args.places.now in
    let positions = c.in_ok-positions.positions.items in
    let marks = c.in_ok-numbers.numbers in
    let written = c.write_places.new.by_number in
    let is : (with_items c.in_ok-by_number.by_number written).items ≡ written = with_items_is c.in_ok-by_number.by_number written (c.write_places.auto.by_number ∙ c.deref_mut.ensures.len) in
    let indices : AreIndices w positions (length marks) = subst (λ xs. AreIndices w xs (length marks)) c.deref.ensures.value c.in_ok-numbers.ensures.indices in
    let marked : AreMarkedTo w positions l (length l) marks = subst (λ xs. AreMarkedTo w xs l (length l) marks) c.deref.ensures.value c.in_ok-numbers.ensures.marked in
    let placed : ArePlacedTo w positions marks l ps (length l) written = subst (λ xs. ArePlacedTo w xs marks l ps (length l) written) c.deref-2.ensures.value c.write_places.ensures in
    let has : All (HasIndex w positions) l = table_has w c.args.set.now positions (omega (arith, c.regions.ensures.limits.w_least)) c.in_ok-positions.ensures l c.requires.in_set in
    let goes = goes_where_moved w positions l marks indices marked ps written c.requires.distinct c.requires.one_each has placed in
    let zeros : length c.in_ok-by_number.by_number.items ≡ c.count.result = ap length (c.in_ok-by_number.ensures.items_if_clones_equal (λ y same. same)) ∙ length-replicate c.count.result 0 in
    let long : length (with_items c.in_ok-by_number.by_number written).items ≡ number_at marks (length marks) =
    ap length is ∙ c.write_places.auto.by_number ∙ ap length c.deref_mut.ensures.value ∙ zeros ∙ c.count.ensures in
    record {
      table = record { indices = indices; one_each = long };
      goes = λ a. ap (λ xs. goes_to w positions marks xs a) is ∙ goes a;
    }
