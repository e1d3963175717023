use Rattle.std.proofs.Common.{[], Bor, ℕ, List, map, refl, sym, ap, subst, arith}
use Rattle.std.specs.List.{AllZip}
use Rattle.std.proofs.lemmas.List.Elements.{All-nil}
use Rattle.g1_text.specs.Graphs.{NamedRoot, IsTargetName}
use Rattle.g1_text.specs.ByName.{IsEntryOf, read_root, read_holder}
use Rattle.g1_text.proofs.named.with_room.Goals as goal

pub returns : goal.returns
returns c = (
  refl,
  record {
    sizes = refl;
    bounds = tt;
    roots = ap (map read_root) c.new.ensures.items;
    targets = All-nil (λ (r : NamedRoot). IsTargetName r.target);
    few = omega arith;
    holders = ap (map read_holder) c.new-2.ensures.items;
    entries = subst (λ es. AllZip IsEntryOf es []) (sym c.in_ok-with_capacity.ensures.items) tt;
    names = ap (map (λ (k : Bor (List ℕ)). k.now)) c.in_ok-with_capacity-2.ensures.empty;
    words = refl;
  },
)
