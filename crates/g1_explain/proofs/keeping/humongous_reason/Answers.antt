use Rattle.std.proofs.Common.{◌≡◌, ◌*◌, ◌∙◌, ◌∷◌, ℕ, [], false, sym, ap, arith, get_or}
use Rattle.std.specs.Prelude.{Some, None}
use Rattle.g1_words.specs.declared.object.Object.{Object}
use Rattle.g1_words.specs.Geometry.{Geometry}
use Rattle.g1_words.specs.Header.{header}
use Rattle.g1_words.specs.Heap.{Heap, object_at, start}
use Rattle.g1_words.specs.Lists.{has}
use Rattle.g1_explain.specs.declared.finder.Finder.{Finder}
use Rattle.g1_explain.specs.Keepers.{first_keeper, kept_by}
use Rattle.g1_explain.specs.Keeping.{outside_leads}
use Rattle.g1_explain.proofs.Keepers.{none_first}
use Rattle.g1_explain.proofs.Outside.{keeper_outside, none_outside}
use Rattle.g1_explain.proofs.Reasons.{large_at, humongous_garbage, humongous_legs, humongous_kept}
use Rattle.g1_explain.proofs.keeping.humongous_reason.Goals as goal

pub returns-then-at-start-clause-reason : goal.returns-then-at-start-clause-reason
returns-then-at-start-clause-reason c =
    let i = c.args.walkable.now in
    let h : Heap = i.heap in
    let valid = c.heap-heap.ensures.valid.heap in
    let q = c.requires in
    let begin : c.start.result ≡ start h c.args.region = c.start.ensures.value ∙ ap (λ (g : Geometry). c.args.region * g.w) (c.geometry.ensures.same ∙ ap (λ (g : Heap). g.geometry) c.heap-heap.ensures.same) in
    humongous_garbage i valid c.args.at c.args.region q.region q.unrooted q.large
    (none_outside h valid c.args.at c.args.region q.region (large_at i valid c.args.at c.args.region q.region q.unrooted q.large) (λ e. c.if-at-start.true (e ∙ sym begin)))

pub returns-in-None-clause-reason : goal.returns-in-None-clause-reason
returns-in-None-clause-reason c =
    let i = c.args.walkable.now in
    let h : Heap = i.heap in
    let valid = c.heap-heap.ensures.valid.heap in
    let q = c.requires in
    let begin : c.start.result ≡ start h c.args.region = c.start.ensures.value ∙ ap (λ (g : Geometry). c.args.region * g.w) (c.geometry.ensures.same ∙ ap (λ (g : Heap). g.geometry) c.heap-heap.ensures.same) in
    let none : (r : ℕ) → get_or c.in_ok-none.none r false ≡ has [] r = c.in_ok-none.ensures (λ k d lt. absurd (omega (arith, lt))) in
    humongous_garbage i valid c.args.at c.args.region q.region q.unrooted q.large
    (none_first (outside_leads h c.args.at)
    (keeper_outside h valid c.args.at c.args.region q.region c.in_ok-none.none c.args.cards.now None q.within (large_at i valid c.args.at c.args.region q.region q.unrooted q.large) (c.if-at-start.false ∙ begin) none q.cards
    (ap kept_by (sym c.in-None.is) ∙ c.card_keeper.ensures)))

pub kept_by-requires : goal.kept_by-requires
kept_by-requires c =
    let i = c.args.walkable.now in
    let h : Heap = i.heap in
    let valid = c.heap-heap.ensures.valid.heap in
    let q = c.requires in
    let f : Finder = c.in-Some.finder in
    let begin : c.start.result ≡ start h c.args.region = c.start.ensures.value ∙ ap (λ (g : Geometry). c.args.region * g.w) (c.geometry.ensures.same ∙ ap (λ (g : Heap). g.geometry) c.heap-heap.ensures.same) in
    let none : (r : ℕ) → get_or c.in_ok-none.none r false ≡ has [] r = c.in_ok-none.ensures (λ k d lt. absurd (omega (arith, lt))) in
    let keeper : kept_by (Some f) ≡ first_keeper (outside_leads h c.args.at) =
    keeper_outside h valid c.args.at c.args.region q.region c.in_ok-none.none c.args.cards.now (Some f) q.within (large_at i valid c.args.at c.args.region q.region q.unrooted q.large) (c.if-at-start.false ∙ begin) none q.cards
    (ap kept_by (sym c.in-Some.is) ∙ c.card_keeper.ensures) in
    let object : c.header-object.result ≡ object_at h c.args.at = c.header-object.ensures.value ∙ ap (λ ws. header ws c.args.at) (c.words.ensures.same ∙ ap (λ (g : Heap). g.words) c.heap-heap.ensures.same) in
    humongous_legs i valid c.args.at c.args.region q.region q.unrooted q.large f c.in_ok-path-in-Some.path q.within
    (c.in_ok-path-in-Some.ensures.items ∙ ap (λ (o : Object). record { object = o; finder = f } ∷ []) object) keeper

pub returns-clause-reason : goal.returns-clause-reason
returns-clause-reason c =
    let i = c.args.walkable.now in
    let h : Heap = i.heap in
    let valid = c.heap-heap.ensures.valid.heap in
    let q = c.requires in
    let f : Finder = c.in-Some.finder in
    let begin : c.start.result ≡ start h c.args.region = c.start.ensures.value ∙ ap (λ (g : Geometry). c.args.region * g.w) (c.geometry.ensures.same ∙ ap (λ (g : Heap). g.geometry) c.heap-heap.ensures.same) in
    let none : (r : ℕ) → get_or c.in_ok-none.none r false ≡ has [] r = c.in_ok-none.ensures (λ k d lt. absurd (omega (arith, lt))) in
    let keeper : kept_by (Some f) ≡ first_keeper (outside_leads h c.args.at) =
    keeper_outside h valid c.args.at c.args.region q.region c.in_ok-none.none c.args.cards.now (Some f) q.within (large_at i valid c.args.at c.args.region q.region q.unrooted q.large) (c.if-at-start.false ∙ begin) none q.cards
    (ap kept_by (sym c.in-Some.is) ∙ c.card_keeper.ensures) in
    let object : c.header-object.result ≡ object_at h c.args.at = c.header-object.ensures.value ∙ ap (λ ws. header ws c.args.at) (c.words.ensures.same ∙ ap (λ (g : Heap). g.words) c.heap-heap.ensures.same) in
    humongous_kept i valid c.args.at c.args.region q.region q.unrooted q.large f c.in_ok-path-in-Some.path q.within
    (c.in_ok-path-in-Some.ensures.items ∙ ap (λ (o : Object). record { object = o; finder = f } ∷ []) object) keeper c.kept_by.result c.kept_by.ensures
