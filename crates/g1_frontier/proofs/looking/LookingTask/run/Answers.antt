use Rattle.std.proofs.Common.{◌-◌, ◌*◌, ◌∙◌, ℕ, refl, length, take, drop, subst}
use Rattle.std.proofs.lemmas.List.Elements.{All-take, All-drop}
use Rattle.g1_frontier.specs.Looking.{HasLooked}
use Rattle.g1_frontier.specs.Numbers.{BeginsIn}
use Rattle.g1_frontier.specs.Scope.{place_in}
use Rattle.g1_frontier.proofs.Pieces.{piece_cut}
use Rattle.g1_frontier.proofs.looking.LookingTask.run.Goals as goal

pub still_there-requires-clause-inside : goal.still_there-requires-clause-inside
still_there-requires-clause-inside c =
    let s = c.args.self.now.scope.now in
    let begins : ℕ × ℕ → Type 0 = λ q. BeginsIn s.heap.now s.window.now q.1 in
    let xs = c.args.self.now.pairs.now in
    let n = c.args.chunk * c.args.self.now.chunk in
    All-take begins c.min.result (take (length xs - n) (drop n xs)) (All-take begins (length xs - n) (drop n xs) (All-drop begins n xs c.requires.2))

pub returns : goal.returns
returns c =
    let s = c.args.self.now.scope.now in
    let looked = c.in_ok-won.ensures in record {
      ok = (
        refl,
        refl,
        subst (λ l. HasLooked (place_in s) l c.args.state.now.seat c.still_there.new.seat c.in_ok-won.won.items)
            (piece_cut c.args.self.now.chunk c.args.chunk c.min.result c.args.self.now.pairs.now c.min.ensures) looked,
      );
      err = tt;
      keeps = λ other apart before. (before.0, looked.table ∙ before.1, before.2, before.3, before.4, before.5, before.6);
    }
