-- A run on images is a run on the plain store.
use Rattle.std.proofs.Common.{◌≡◌, ℕ, suc, List, [], ◌∷◌, replicate, refl, sym, subst, Contains}
use Rattle.std.specs.List.{AllByRecursion}
use Rattle.g1_words.specs.Geometry.{Geometry}
use Rattle.g1_image.specs.Image.{Image}
use Rattle.g1_image.specs.Cards.{IsTracked}
use Rattle.g1_choose.specs.declared.parameters.Cost.{Cost}
use Rattle.g1_trace.specs.declared.command.Command.{Command}
use Rattle.g1_trace.specs.declared.command.Reply.{Reply}
use Rattle.g1_trace.specs.Commands.{View}
use Rattle.g1_trace.specs.Store.{Store, store_view, IsPlainStep}
use Rattle.g1_trace.specs.Mutator.{IsStep}
use Rattle.g1_trace.specs.Run.{Replies, empty_store, empty_image}
use Rattle.g1_trace.specs.Views.{Seen, Shows}
use Rattle.g1_trace.specs.Laws.{WritesWord, StepKeeps}
use Rattle.g1_trace.proofs.Views.{seen_within, no_zeros}
use Rattle.g1_trace.proofs.Effects.{map-renamed_zeros}
use Rattle.g1_trace.proofs.Steps.{step_shows}

-- nothing is seen where all roots are null
nothing_seen : (v : View) (n : ℕ) → v.roots ≡ replicate n 0 → (a : ℕ) → Seen v a → ⊥
nothing_seen v n e = seen_within v (λ _. ⊥) (λ a h. no_zeros n a (subst (λ xs. Contains xs (suc a)) e h)) (λ b a p h. p)

-- at the start nothing is there to be shown
pub start_shows : (g : Geometry) (roots : ℕ) → Shows (empty_store roots) (empty_image g roots).heap
start_shows g roots =
    record {
      numbered = λ m h. absurd (nothing_seen (store_view (empty_store roots)) roots refl m h);
      view = record {
        rename = λ m. m;
        one_to_one = λ a b p q e. e;
        roots = sym (map-renamed_zeros (λ m. m) roots);
        slots = λ a h. absurd (nothing_seen (store_view (empty_store roots)) roots refl a h);
        values = λ a h. absurd (nothing_seen (store_view (empty_store roots)) roots refl a h);
      };
    }

module _ (cost : Cost) (keeps : StepKeeps) where
  pub run_shows : (s : Store) (i : Image) (commands : List Command) (replies : List Reply) → AllByRecursion WritesWord commands → IsTracked i →
      Shows s i.heap → Replies (IsStep cost) i commands replies → Replies IsPlainStep s commands replies
  run_shows s i [] [] fits tracked shows run = tt
  run_shows s i [] (r ∷ rs) fits tracked shows run = absurd run
  run_shows s i (c ∷ cs) [] fits tracked shows run = absurd run
  run_shows s i (c ∷ cs) (r ∷ rs) fits tracked shows (j, st, rest) =
      let next = step_shows cost s i c r j tracked shows st in
      (next.0, next.1, run_shows next.0 j cs rs fits.1 (keeps cost i c r j fits.0 tracked st) next.2 rest)

  pub whole_run : (g : Geometry) (roots : ℕ) (commands : List Command) (replies : List Reply) → AllByRecursion WritesWord commands → IsTracked (empty_image g roots)
      → Replies (IsStep cost) (empty_image g roots) commands replies → Replies IsPlainStep (empty_store roots) commands replies
  whole_run g roots commands replies fits tracked = run_shows (empty_store roots) (empty_image g roots) commands replies fits tracked (start_shows g roots)
