use Rattle.std.proofs.Common.{◌≡◌, ◌≤◌, ◌⊎◌, sym, ap, ◌∙◌, arith, subst}
use Rattle.g1_claim.specs.Claims.{SeatView, TableView, IsWordOf, empty, least_value}
use Rattle.g1_claim.specs.declared.rule.Hand.{Hand}
use Rattle.g1_claim.specs.Rule.{LeastBy, Won}
use Rattle.g1_claim.proofs.Steps.{looks, found_word, found_won, found_floor}
use Rattle.g1_claim.proofs.claims.Claims.least.Goals as goal

pub load-requires : goal.load-requires
load-requires c =
    let kept = c.self.invariant in
    let is : c.self.inside.table.shared.table_id ≡ c.args.self.now.id = ap (λ (t : TableView). t.id) c.self.view_is in
    let size = ap (λ (t : TableView). t.places) c.self.view_is in
    let mine : c.seat.inside.seat.table_id ≡ c.args.seat.now.table = ap (λ (s : SeatView). s.table) c.seat.view_is in
    let share = c.seat.invariant in
    let place = c.requires.place in
    (mine ∙ c.requires.table ∙ sym is, omega arith, looks _ _ _ _ _ (omega arith) (omega arith))

pub returns-clause-least : goal.returns-clause-least
returns-clause-least c all =
    let is = ap (λ (s : SeatView). s.hand) c.seat.view_is in
    subst (λ (h : Hand). IsWordOf c.args.place c.load.result h.offers) is (found_word c.seat.inside.seat.me.0.hand c.args.place c.load.result c.load.ensures.2.1 (ap (λ (h : Hand). h.shares) is ∙ all))

pub returns-clause-so_far : goal.returns-clause-so_far
returns-clause-so_far c =
    let is = ap (λ (s : SeatView). s.hand) c.seat.view_is in
    subst (λ (h : Hand). LeastBy h c.args.place c.load.result c.load.new.seat.me.0.seen) is c.load.ensures.2.5

pub returns-clause-won : goal.returns-clause-won
returns-clause-won c =
    let is = ap (λ (s : SeatView). s.hand) c.seat.view_is in
    subst (λ (h : Hand). (c.load.result ≡ empty) ⊎ Won h c.args.place c.load.result) is (found_won c.seat.inside.seat.me.0.hand c.args.place c.load.result c.load.ensures.2.1)

pub returns-clause-known : goal.returns-clause-known
returns-clause-known c =
    let is = ap (λ (s : SeatView). s.hand) c.seat.view_is in
    subst (λ (h : Hand). c.load.result ≤ least_value c.args.place h.known) is (found_floor c.seat.inside.seat.me.0.hand c.args.place c.load.result c.load.ensures.2.1)
