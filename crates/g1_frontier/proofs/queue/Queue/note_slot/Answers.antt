use Rattle.std.proofs.Common.{◌∙◌, ◌++◌, ap, sym, subst, map, append-nil, ℕ}
use Rattle.g1_frontier.specs.Queue.{HasNoted}
use Rattle.g1_frontier.proofs.Queues.{noted_none}
use Rattle.g1_frontier.proofs.Scopes.{names_inside}
use Rattle.g1_frontier.proofs.queue.Queue.note_slot.Goals as goal

pub returns-in-None-clause-noted : goal.returns-in-None-clause-noted
returns-in-None-clause-noted c =
    let s = c.args.scope.now in
    subst (λ l. HasNoted s l c.args.self.now c.args.self.now) (sym c.in-None.ensures.none) (noted_none s c.requires.scope c.args.self.now c.requires.queue)

pub returns-in-None-clause-listed : goal.returns-in-None-clause-listed
returns-in-None-clause-listed c =
    let old = c.args.leads.now.items in
    sym (append-nil old) ∙ ap (λ l. old ++ map (λ a. (c.args.slot, c.args.word)) l) (sym c.in-None.ensures.none)

pub returns-in_ok-note-in-Some-clause-listed : goal.returns-in_ok-note-in-Some-clause-listed
returns-in_ok-note-in-Some-clause-listed c =
    let s = c.args.scope.now in
    let f = c.in-Some.ensures.found in
    let a : ℕ = c.in-Some.field-0.address in
    c.in_ok-push-in-Some.ensures.items ∙ ap (λ l. c.args.leads.now.items ++ map (λ a. (c.args.slot, c.args.word)) l) (sym (names_inside s c.args.word a f.0 f.1))
