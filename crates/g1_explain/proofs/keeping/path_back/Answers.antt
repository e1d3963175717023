use Rattle.std.proofs.Common.{◌≡◌, ◌≤◌, ◌-◌, ◌∙◌, ◌∷◌, ◌++◌, [], ℕ, suc, ap, sym, subst, arith, slice_index, reverse, append_assoc}
use Rattle.std.proofs.lemmas.List.{reverse-append}
use Rattle.g1_words.specs.declared.object.Object.{Object}
use Rattle.g1_words.specs.Header.{header}
use Rattle.g1_words.specs.Heap.{Heap, object_at}
use Rattle.g1_explain.specs.declared.paths.Leg.{Leg}
use Rattle.g1_explain.specs.Searched.{IsRoute, none, leg, before, finder_at}
use Rattle.g1_explain.proofs.keeping.path_back.Goals as goal

pub legs-preserved : goal.legs-preserved
legs-preserved c =
    let h : Heap = c.args.heap.now in
    let found = c.args.found.now in
    let fs = c.args.finders.now in
    let j : ℕ = c.legs.from - 1 in
    let is : suc j ≡ c.legs.from = omega (arith, c.legs-test.true) in
    let le : j ≤ c.args.index = omega (arith, is, c.legs.invariant.within) in
    let one : Leg = record { object = object_at h (slice_index found j); finder = finder_at fs j } in
    let object : c.header-object.result ≡ object_at h (slice_index found j) = c.header-object.ensures.value ∙ ap (λ ws. header ws (slice_index found j)) c.words.ensures.same in
    let pushed : c.push.new.self.items ≡ c.legs.path.items ++ one ∷ [] =
    c.in_ok-push.ensures.items ∙ ap (λ (o : Object). c.legs.path.items ++ record { object = o; finder = finder_at fs j } ∷ []) object in
    record {
      route = λ p r.
          let r' : IsRoute h found fs (before (finder_at fs j)) p = subst (λ n. IsRoute h found fs n p) c.before-from.ensures r in
          let longer : IsRoute h found fs (suc j) (p ++ one ∷ []) = leg j p (omega (arith, le, c.requires.found_by)) (omega (arith, le, c.requires.within)) r' in
          let u = c.legs.invariant.route (p ++ one ∷ []) (subst (λ n. IsRoute h found fs n (p ++ one ∷ [])) is longer) in
          subst (IsRoute h found fs (suc c.args.index))
          (append_assoc p (one ∷ []) (reverse c.legs.path.items) ∙ ap (λ l. p ++ l) (sym (ap reverse pushed ∙ reverse-append c.legs.path.items (one ∷ [])))) u;
      within = omega (arith, c.before-from.ensures, c.requires.backward j le, le);
    }

pub returns : goal.returns
returns c =
    let none_left : 0 ≡ c.legs.from = omega (arith, c.legs-test.false) in
    subst (IsRoute c.args.heap.now c.args.found.now c.args.finders.now (suc c.args.index)) (sym c.reverse.ensures.items)
    (c.legs.invariant.route [] (subst (λ n. IsRoute c.args.heap.now c.args.found.now c.args.finders.now n []) none_left none))
