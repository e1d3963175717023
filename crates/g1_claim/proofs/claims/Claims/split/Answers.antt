use Rattle.std.proofs.Common.{◌≡◌, ap, sym, ◌∙◌, arith}
use Rattle.g1_claim.specs.Claims.{SeatView, TableView}
use Rattle.g1_claim.proofs.Steps.{splits}
use Rattle.g1_claim.proofs.claims.Claims.split.Goals as goal

pub split_seat-other-requires : goal.split_seat-other-requires
split_seat-other-requires c =
    let kept = c.self.invariant in
    let is : c.self.inside.table.shared.table_id ≡ c.args.self.now.id = ap (λ (t : TableView). t.id) c.self.view_is in
    let mine : c.seat.inside.seat.table_id ≡ c.args.seat.now.table = ap (λ (s : SeatView). s.table) c.seat.view_is in
    let share = c.seat.invariant in
    let held = ap (λ (s : SeatView). s.hand.shares) c.seat.view_is in
    let two = c.requires.two in
    (mine ∙ c.requires.table ∙ sym is, omega arith, splits _ _ _ (omega arith))
