use Rattle.std.proofs.Common.{rules, ◌≡◌, ℕ, Bool, List, inl, inr, sym, ap, ◌∙◌}
use Rattle.std.proofs.lemmas.Bool.{false≢true}
use Rattle.g1_words.specs.declared.region.Region.{Region}
use Rattle.g1_words.specs.Lists.{has}
use Rattle.g1_words.specs.Heap.{pinned}
use Rattle.g1_kept.proofs.tables.compare_entries.Goals as goal
use Rattle.g1_kept.proofs.tables.compare_entries.Goals.{then-is_free-2-via-then-is_free-2, then-is_free-2-via-else-is_free-2+then-is_freed, then-ne-via-then-ne, then-ne-via-else-ne+then-has_other_top, else-old-via-then-old+else-not-new, else-old-via-else-old, else-not-old-via-then-not-old+else-new, else-not-old-via-else-not-old}

has_as : (set : List ℕ) (r n : ℕ) (found answer : Bool) → found ≡ has set n → n ≡ r → found ≡ answer → has set r ≡ answer
has_as set r n found answer e is_r is = ap (has set) (sym is_r) ∙ sym e ∙ is

pub returns-then-is_free-clause-none : goal.returns-then-is_free-clause-none
returns-then-is_free-clause-none c =
    let set = c.args.pause.now.set.now in
    let yes = has_as set c.args.number c.from.result c.has.result _ c.has.ensures c.from.ensures c.if-has.true in
    record {
      of_set = λ _. ap (λ (q : Region). q.kind) (sym c.region-new.ensures) ∙ c.is_free.ensures.fact.0 c.if-is_free.true;
      other = λ out. absurd (false≢true (sym out ∙ yes));
    }

pub returns-then-has-clause-some : goal.returns-then-has-clause-some
returns-then-has-clause-some c =
    let set = c.args.pause.now.set.now in
    let yes = has_as set c.args.number c.from.result c.has.result _ c.has.ensures c.from.ensures c.if-has.true in (
      c.requires.region,
      yes,
      λ free. false≢true (sym c.if-is_free.false ∙ c.is_free.ensures.fact.1 (ap (λ (q : Region). q.kind) c.region-new.ensures ∙ free)),
    )

pub returns-then-has-clause-earliest : goal.returns-then-has-clause-earliest
returns-then-has-clause-earliest c = λ before. before

pub returns-then-is_free-2-clause-none : goal.returns-then-is_free-2-clause-none
returns-then-is_free-2-clause-none c =
    let set = c.args.pause.now.set.now in
    let no = has_as set c.args.number c.from.result c.has.result _ c.has.ensures c.from.ensures c.if-has.false in
    record {
      of_set = λ yes. absurd (false≢true (sym no ∙ yes));
      other = λ _. elim c.then-is_free-2.branch [
        | then-is_free-2-via-then-is_free-2 w ↦ inl (ap (λ (q : Region). q.kind) (sym c.region-old.ensures) ∙ c.is_free-2.ensures.fact.0 w.if-is_free-2.true)
        | then-is_free-2-via-else-is_free-2+then-is_freed w ↦ inr (inl (w.is_freed.ensures.0 w.if-is_freed.true))
      ];
    }

pub returns-then-ne-clause-some : goal.returns-then-ne-clause-some
returns-then-ne-clause-some c =
    let set = c.args.pause.now.set.now in
    let no = has_as set c.args.number c.from.result c.has.result _ c.has.ensures c.from.ensures c.if-has.false in (
      record {
        in_heap = c.requires.region;
        outside = no;
        used = λ free. false≢true (sym c.if-is_free-2.false ∙ c.is_free-2.ensures.fact.1 (ap (λ (q : Region). q.kind) c.region-old.ensures ∙ free));
      },
      λ freed. false≢true (sym c.if-is_freed.false ∙ c.is_freed.ensures.1 freed),
      elim c.then-ne.branch [
        | then-ne-via-then-ne w ↦ inl (search rules)
        | then-ne-via-else-ne+then-has_other_top w ↦ inr (w.has_other_top.ensures.other.0 w.if-has_other_top.true)
      ],
    )

pub returns-then-ne-clause-earliest : goal.returns-then-ne-clause-earliest
returns-then-ne-clause-earliest c = λ before. before

pub returns-then-not-new-clause-none : goal.returns-then-not-new-clause-none
returns-then-not-new-clause-none c = tt

pub returns-then-not-new-clause-some : goal.returns-then-not-new-clause-some
returns-then-not-new-clause-some c =
    let set = c.args.pause.now.set.now in (
      record {
        in_heap = c.requires.region;
        outside = has_as set c.args.number c.from.result c.has.result _ c.has.ensures c.from.ensures c.if-has.false;
        used = λ free. false≢true (sym c.if-is_free-2.false ∙ c.is_free-2.ensures.fact.1 (ap (λ (q : Region). q.kind) c.region-old.ensures ∙ free));
      },
      search rules,
      λ other. false≢true (sym c.if-has_other_top.false ∙ c.has_other_top.ensures.other.1 other),
      ap (λ (q : Region). q.pinned) (sym c.region-old.ensures) ∙ c.if-old.true,
      ap (λ (q : Region). q.pinned) (sym c.region-new.ensures) ∙ c.if-not-new.true,
    )

pub returns-then-not-new-clause-earliest : goal.returns-then-not-new-clause-earliest
returns-then-not-new-clause-earliest c = λ before. before

pub returns-then-new-clause-some : goal.returns-then-new-clause-some
returns-then-new-clause-some c =
    let set = c.args.pause.now.set.now in (
      record {
        in_heap = c.requires.region;
        outside = has_as set c.args.number c.from.result c.has.result _ c.has.ensures c.from.ensures c.if-has.false;
        used = λ free. false≢true (sym c.if-is_free-2.false ∙ c.is_free-2.ensures.fact.1 (ap (λ (q : Region). q.kind) c.region-old.ensures ∙ free));
      },
      search rules,
      λ other. false≢true (sym c.if-has_other_top.false ∙ c.has_other_top.ensures.other.1 other),
      ap (λ (q : Region). q.pinned) (sym c.region-old.ensures) ∙ c.if-not-old.true,
      ap (λ (q : Region). q.pinned) (sym c.region-new.ensures) ∙ c.if-new.true,
    )

pub returns-then-new-clause-earliest : goal.returns-then-new-clause-earliest
returns-then-new-clause-earliest c = λ before. before

pub returns-clause-none : goal.returns-clause-none
returns-clause-none c =
    let set = c.args.pause.now.set.now in
    let no = has_as set c.args.number c.from.result c.has.result _ c.has.ensures c.from.ensures c.if-has.false in
    let old : pinned c.args.pause.now.heaps.before.now c.args.number ≡ c.region-old.result.pinned = ap (λ (q : Region). q.pinned) (sym c.region-old.ensures) in
    let new : pinned c.args.pause.now.heaps.after.now c.args.number ≡ c.region-new.result.pinned = ap (λ (q : Region). q.pinned) (sym c.region-new.ensures) in
    record {
      of_set = λ yes. absurd (false≢true (sym no ∙ yes));
      other = λ _. inr (inr record {
        same_kind = search rules;
        same_pin = elim c.else-old.branch [
          | else-old-via-then-old+else-not-new w ↦ new ∙ w.if-not-new.false ∙ sym w.if-old.true ∙ sym old
          | else-old-via-else-old w ↦ elim c.else-not-old.branch [
            | else-not-old-via-then-not-old+else-new v ↦ new ∙ v.if-new.false ∙ sym v.if-not-old.true ∙ sym old
            | else-not-old-via-else-not-old v ↦ absurd (false≢true (sym w.if-old.false ∙ v.if-not-old.false))
          ]
        ];
        filled = c.has_other_top.ensures.filled c.if-has_other_top.false;
        above = c.has_other_top.ensures.above c.if-has_other_top.false;
      });
    }

pub returns-then-is_free-clause-some : goal.returns-then-is_free-clause-some
returns-then-is_free-clause-some c = tt

pub returns-then-is_free-clause-earliest : goal.returns-then-is_free-clause-earliest
returns-then-is_free-clause-earliest c = tt

pub returns-then-has-clause-none : goal.returns-then-has-clause-none
returns-then-has-clause-none c = tt

pub returns-then-is_free-2-clause-some : goal.returns-then-is_free-2-clause-some
returns-then-is_free-2-clause-some c = tt

pub returns-then-is_free-2-clause-earliest : goal.returns-then-is_free-2-clause-earliest
returns-then-is_free-2-clause-earliest c = tt

pub returns-then-ne-clause-none : goal.returns-then-ne-clause-none
returns-then-ne-clause-none c = tt

pub returns-then-new-clause-none : goal.returns-then-new-clause-none
returns-then-new-clause-none c = tt

pub returns-clause-some : goal.returns-clause-some
returns-clause-some c = tt

pub returns-clause-earliest : goal.returns-clause-earliest
returns-clause-earliest c = tt
