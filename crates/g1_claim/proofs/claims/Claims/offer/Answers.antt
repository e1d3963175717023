use Rattle.std.proofs.Common.{refl, ℕ, ◌≡◌, ◌<◌, ◌≤◌, sym, ap, ◌∙◌, arith, subst, ltb-true, lt-ltb}
use Rattle.g1_claim.specs.Claims.{SeatView, TableView, IsWordOf, least_value}
use Rattle.g1_claim.specs.declared.rule.Hand.{Hand}
use Rattle.g1_claim.specs.Rule.{Lowers, Beaten}
use Rattle.g1_claim.proofs.Steps.{offers, found_word, found_floor, found_beaten}
use Rattle.g1_claim.proofs.claims.Claims.offer.Goals as goal

pub fetch_min-found-requires : goal.fetch_min-found-requires
fetch_min-found-requires c =
    let kept = c.self.invariant in
    let is : c.self.inside.table.shared.table_id ≡ c.args.self.now.id = ap (λ (t : TableView). t.id) c.self.view_is in
    let size = ap (λ (t : TableView). t.places) c.self.view_is in
    let mine : c.seat.inside.seat.table_id ≡ c.args.seat.now.table = ap (λ (s : SeatView). s.table) c.seat.view_is in
    let place = c.requires.place in
    let share = c.seat.invariant in
    (mine ∙ c.requires.table ∙ sym is, omega arith, offers _ _ _ _ _ _ (omega arith) (omega arith) c.requires.rank)

pub returns-clause-least : goal.returns-clause-least
returns-clause-least c all =
    let is = ap (λ (s : SeatView). s.hand) c.seat.view_is in
    let word = subst (λ (h : Hand). IsWordOf c.args.place c.fetch_min-found.result h.offers) is
    (found_word c.seat.inside.seat.me.0.hand c.args.place c.fetch_min-found.result c.fetch_min-found.ensures.2.1 (ap (λ (h : Hand). h.shares) is ∙ all)) in
    ((λ t. subst (λ (k : ℕ). c.args.rank < k) word.0 (ltb-true _ _ t)), λ lt. lt-ltb _ _ (subst (λ (k : ℕ). c.args.rank < k) (sym word.0) lt))

pub returns-clause-so_far : goal.returns-clause-so_far
returns-clause-so_far c =
    let is = ap (λ (s : SeatView). s.hand) c.seat.view_is in
    (c.fetch_min-found.result, subst (λ (h : Hand). Lowers h c.args.place c.args.rank c.fetch_min-found.result c.fetch_min-found.new.seat.me.0.seen) is c.fetch_min-found.ensures.2.5, refl)

pub returns-clause-below_known : goal.returns-clause-below_known
returns-clause-below_known c t =
    let is = ap (λ (s : SeatView). s.hand) c.seat.view_is in
    let floor = subst (λ (h : Hand). c.fetch_min-found.result ≤ least_value c.args.place h.known) is (found_floor c.seat.inside.seat.me.0.hand c.args.place c.fetch_min-found.result c.fetch_min-found.ensures.2.1) in
    let below : c.args.rank < c.fetch_min-found.result = ltb-true _ _ t in omega arith

pub returns-clause-beaten : goal.returns-clause-beaten
returns-clause-beaten c f =
    let is = ap (λ (s : SeatView). s.hand) c.seat.view_is in
    subst (λ (h : Hand). Beaten h c.args.place c.args.rank) is
    (found_beaten c.seat.inside.seat.me.0.hand c.args.place c.fetch_min-found.result c.args.rank c.fetch_min-found.ensures.2.1 (grind arith) c.requires.rank)
