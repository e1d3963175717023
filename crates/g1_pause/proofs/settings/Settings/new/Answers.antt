use Rattle.std.proofs.Common.{refl}
use Rattle.g1_pause.specs.Settings.IsRefused.{by_workers, by_chunk, by_cost}
use Rattle.g1_pause.proofs.settings.Settings.new.Goals as goal

pub returns-then-not-are_workers-clause-err : goal.returns-then-not-are_workers-clause-err
returns-then-not-are_workers-clause-err c = (1, by_workers (λ a. let t = c.are_workers.ensures.1 a in cc), refl)

pub returns-then-not-is_chunk-clause-err : goal.returns-then-not-is_chunk-clause-err
returns-then-not-is_chunk-clause-err c = (2, by_chunk (c.are_workers.ensures.0 cc) (λ a. let t = c.is_chunk.ensures.1 a in cc), refl)

pub returns-then-not-is_cost-clause-err : goal.returns-then-not-is_cost-clause-err
returns-then-not-is_cost-clause-err c = (3, by_cost (c.are_workers.ensures.0 cc) (c.is_chunk.ensures.0 cc) (λ a. let t = c.is_cost.ensures.1 a in cc), refl)
