-- The refusals of `explain`: of its cost, and of its image by those of the names and of the pause.
use Rattle.std.proofs.Common.{◌≡◌, ◌⊎◌, ℕ, inl, inr, Bool, true, false, List, [], Result, Ok, Err, refl, sym, ap, ◌∙◌, subst, Vec, Global}
use Rattle.std.specs.Prelude.{Option, Some, None, string_bytes, IfErr, IfSome}
use Rattle.g1_words.specs.declared.fault.Fault.{Fault}
use Rattle.g1_words.specs.declared.fault.Fault.TheVariants as fault
use Rattle.g1_image.specs.Image.{Image, IsTextWithin}
use Rattle.g1_choose.specs.declared.parameters.Cost.{Cost}
use Rattle.g1_work.specs.Team.{AreWorkers, IsChunk}
use Rattle.g1_pause.specs.declared.settings.Choice.{Choice}
use Rattle.g1_pause.specs.Settings.{Settings, IsRefused, by_workers, by_chunk, by_cost}
use Rattle.g1_command.specs.declared.refusal.Refusal.{Refusal}
use Rattle.g1_command.specs.declared.refusal.Refusal.TheVariants as refusal
use Rattle.g1_explain.specs.declared.explaining.Explanation.{Explanation}
use Rattle.g1_explain.specs.declared.form.Form.{Form}
use Rattle.g1_explain.specs.declared.form.Form.TheVariants as form
use Rattle.g1_explain.specs.Explained.{IsExplained, IsMapOfPause, no_cover, no_pause, placed}
use Rattle.g1heap_request.specs.declared.image_file.ImageFile.{ImageFile}
use Rattle.g1heap_request.specs.declared.options.Explain.{Explain}
use Rattle.g1heap_cli.specs.Refusals.{RefusesFile, IsUnread}
use Rattle.g1heap_cli.specs.Reasons.{IsRefusedIn, RefusesImage, RefusesCost, RefusesPause, RefusesExplained}
use Rattle.g1heap_cli.specs.Refuses.{RefusesExplain}
use Rattle.g1heap_cli.specs.Streams.{KeepsNamed, HoldsOfKept, LeavesBehind}
use Rattle.g1heap_cli.specs.Named.{RefusesNamesGiven}
use Rattle.g1heap_cli.specs.Texts.{AsksFor, form_of}
use Rattle.g1heap_cli.proofs.Whys.{kept_refused, image_refused}

-- workers that may share a pause are refused only for its cost
module _ (workers chunk : ℕ) (cost : Cost) (share : AreWorkers workers) (draw : IsChunk chunk) where
  cost_so : (f : Fault) (which : ℕ) → IsRefused workers chunk cost which → f ≡ fault.Settings which → RefusesCost cost (refusal.Fault f)
  cost_so f which (by_workers bad) is = absurd (bad share)
  cost_so f which (by_chunk fine bad) is = absurd (bad draw)
  cost_so f which (by_cost fine also bad) is = inr (bad, ap refusal.Fault is)

  pub cost_refused : {X : Type 0} (r : Result X Fault) → IfErr r (λ e. (which : ℕ) × IsRefused workers chunk cost which × (e ≡ fault.Settings which))
      → IfErr r (λ f. RefusesCost cost (refusal.Fault f))
  cost_refused (Ok x) h = tt
  cost_refused (Err e) h = cost_so e h.0 h.1 h.2

-- a map of a pause that is refused is empty
empty_map : {cost : Cost} {choice : Choice} {i : Image} {text : List ℕ} {o : Option Fault} → IsMapOfPause cost choice i text o → IfSome o (λ f. IsMapOfPause cost choice i [] (Some f))
empty_map (no_cover none) = no_cover none
empty_map (no_pause covered none) = no_pause covered none
empty_map (placed set plan covered is pause) = tt

-- the form is that of a map only if one is asked for
asks_map : (map : Bool) → form_of map ≡ form.Map → map ≡ true
asks_map true is = refl
asks_map false is = cc

-- the refusal of an answer is one of the pause that the map is of
pub map_refused : {X : Type 0} (file : List ℕ) (cost : Cost) (choice : Choice) (map : Bool) (f : Form) (i : Image) (x : Explanation) (K : Refusal → Type 0) (r : Result X Refusal)
    → f ≡ form_of map → IsExplained cost choice f i (string_bytes x.text) x.refused
    → IfErr r (λ e. (why : Fault) × (x.refused ≡ Some why) × (f ≡ form.Map) × (RefusesFile file why e ⊎ K e)) → IfErr r (λ e. RefusesPause file cost choice map i e ⊎ K e)
map_refused file cost choice map f i x K (Ok y) same said h = tt
map_refused file cost choice map f i x K (Err e) same said (why, is, wanted, inr k) = inr k
map_refused file cost choice map f i x K (Err e) same said (why, is, wanted, inl told) =
    let empty : IfSome x.refused (λ q. IsMapOfPause cost choice i [] (Some q)) = empty_map (subst (λ (g : Form). IsExplained cost choice g i (string_bytes x.text) x.refused) wanted said) in
    inl (inr (asks_map map (sym same ∙ wanted), why, subst (λ (o : Option Fault). IfSome o (λ q. IsMapOfPause cost choice i [] (Some q))) is empty, told))

module _ (e : Explain) (left : Option (List ℕ)) (file : ImageFile) (kept : Option (Vec ℕ Global)) (same : file ≡ e.image)
    (keeps : KeepsNamed (λ (v : Vec ℕ Global). v.items) e.image.name.bytes.items left kept) where
  behind : (r : Refusal) → IsUnread e.image.name.bytes.items r ⊎ RefusesImage e.image left (RefusesExplained e left) r → RefusesExplain e left r
  behind r (inl unread) = inr (inl (inl unread))
  behind r (inr x) = inr (inr x)

  -- the refusal of the bytes that were read
  pub bytes_refused : (r : Refusal) → IsRefusedIn (λ (v : Vec ℕ Global). v.items) kept file r → RefusesExplain e left r
  bytes_refused r x = behind r (kept_refused e.image left file kept same keeps (RefusesExplained e left) r x)

  module _ (rest : Option (List ℕ)) (leaves : LeavesBehind e.image.name.bytes.items left rest) (s : Settings) (cost : s.cost ≡ e.cost) (asks : AsksFor e.budget e.set.items s.choice) (i : Image)
      (read : HoldsOfKept (λ (v : Vec ℕ Global). v.items) kept (λ xs. IsTextWithin file.limits xs i)) where
    pause_of : (r : Refusal) → RefusesPause file.name.bytes.items s.cost s.choice e.map i r → RefusesPause e.image.name.bytes.items e.cost s.choice e.map i r
    pause_of r x = subst (λ (c : Cost). RefusesPause e.image.name.bytes.items c s.choice e.map i r) cost (subst (λ (f : ImageFile). RefusesPause f.name.bytes.items s.cost s.choice e.map i r) same x)

    so : (r : Refusal)
        → RefusesNamesGiven e.names rest None r ⊎ RefusesPause file.name.bytes.items s.cost s.choice e.map i r ⊎ IsRefusedIn (λ (v : Vec ℕ Global). v.items) kept file r → RefusesExplain e left r
    so r (inl names) = inr (inr (image_refused e.image left file kept same keeps (RefusesExplained e left) i r read (inl (rest, leaves, names))))
    so r (inr (inl x)) = inr (inr (image_refused e.image left file kept same keeps (RefusesExplained e left) i r read (inr (s.choice, asks, pause_of r x))))
    so r (inr (inr x)) = bytes_refused r x

    -- that of the names, or of the pause of the image that they are
    pub image_so : {X : Type 0} (r : Result X Refusal)
        → IfErr r (λ q. RefusesNamesGiven e.names rest None q ⊎ RefusesPause file.name.bytes.items s.cost s.choice e.map i q ⊎ IsRefusedIn (λ (v : Vec ℕ Global). v.items) kept file q)
        → IfErr r (RefusesExplain e left)
    image_so (Ok x) h = tt
    image_so (Err q) h = so q h
