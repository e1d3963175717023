use Rattle.std.proofs.Common.{◌≡◌, ◌+◌, ◌-◌, ◌∷◌, ◌++◌, ℕ, List, arith, ap, sym, subst, ◌∙◌}
use Rattle.std.specs.List.{range_with_len}
use Rattle.std.proofs.lemmas.Result.{err_from_is_err_and}
use Rattle.g1_rem.proofs.Bare.{range_front}
use Rattle.g1_rem.specs.Ahead.{LeadAhead}
use Rattle.g1_rem.proofs.Leading.{pass_other}
use Rattle.g1_rem.proofs.entries.Entering.take_slots.Goals as goal
use Rattle.g1_rem.proofs.entries.Entering.take_slots.Goals.{In-loop-slot, then-is_entry+in_ok-take_entry, else-is_entry}

-- the slot that is asked is the first one ahead
front : (c : In-loop-slot) (rest : List ℕ) → LeadAhead c.args.self.now.image.now c.args.self.now.region (range_with_len c.args.from (c.args.to - c.args.from) ++ rest) c.args.cards.now.items
    → LeadAhead c.args.self.now.image.now c.args.self.now.region (c.loop-slot.slot ∷ (range_with_len (c.loop-slot.slot + 1) (c.args.to - (c.loop-slot.slot + 1)) ++ rest)) c.loop-slot.cards.items
front c rest l =
    subst (λ ps. LeadAhead c.args.self.now.image.now c.args.self.now.region (ps ++ rest) c.loop-slot.cards.items)
    (range_front c.loop-slot.slot c.args.to c.loop-slot-test.true) (c.loop-slot.invariant.ahead rest l)

pub returns-in_err-take_entry-clause-fault : goal.returns-in_err-take_entry-clause-fault
returns-in_err-take_entry-clause-fault c = λ rest l.
    let b = (goal.at.returns-in_err-take_entry-clause-fault c).In-loop-slot in
    let p = err_from_is_err_and c.from_residual.result c.from_residual.ensures.1 in
    rw (p.1, p.2) (c.in_err-take_entry.ensures.fault (range_with_len (c.loop-slot.slot + 1) (c.args.to - (c.loop-slot.slot + 1)) ++ rest) (front b rest l))

pub loop-slot-preserved : goal.loop-slot-preserved
loop-slot-preserved c =
    let b = (goal.at.loop-slot-preserved c).In-loop-slot in
    record {
      ahead = λ rest l.
          let i = c.args.self.now.image.now in
          let r = c.args.self.now.region in
          let more : List ℕ = range_with_len (c.loop-slot.slot + 1) (c.args.to - (c.loop-slot.slot + 1)) ++ rest in
          elim c.if-is_entry.branch [
            | then-is_entry+in_ok-take_entry w ↦ subst (LeadAhead i r more) (sym (ap (λ v. v.items) w.cards-is)) (w.in_ok-take_entry.ensures.ahead more (front b rest l))
            | else-is_entry w ↦ subst (LeadAhead i r more) (sym (ap (λ v. v.items) w.cards-is))
                (pass_other i c.is_entry.ensures.valid r c.loop-slot.slot more c.loop-slot.cards.items (front b rest l) cc)
          ];
      within = omega (arith, c.loop-slot-test.true);
    }

pub returns-clause-ahead : goal.returns-clause-ahead
returns-clause-ahead c = λ rest l.
    let none : c.args.to - c.loop-slot.slot ≡ 0 = omega (arith, c.loop-slot-test.false) in
    subst (λ n. LeadAhead c.args.self.now.image.now c.args.self.now.region (range_with_len c.loop-slot.slot n ++ rest) c.loop-slot.cards.items) none (c.loop-slot.invariant.ahead rest l)

pub loop-slot-smaller : goal.loop-slot-smaller
loop-slot-smaller c = omega (arith, c.loop-slot-test.true)

pub is_entry-requires : goal.is_entry-requires
is_entry-requires c = omega (arith, c.loop-slot-test.true, c.requires.slots)

pub take_entry-requires-clause-known : goal.take_entry-requires-clause-known
take_entry-requires-clause-known c = c.requires.known

pub take_entry-requires-clause-slot : goal.take_entry-requires-clause-slot
take_entry-requires-clause-slot c = omega (arith, c.loop-slot-test.true, c.requires.slots)

pub take_entry-requires-clause-entry : goal.take_entry-requires-clause-entry
take_entry-requires-clause-entry c = sym c.is_entry.ensures.same ∙ c.if-is_entry.true
