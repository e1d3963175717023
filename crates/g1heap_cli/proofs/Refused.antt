-- Why a request is refused, from why its parts are.
use Rattle.std.proofs.Common.{◌≡◌, ◌⊎◌, inl, inr, ℕ, Bool, true, false, true≢false, sym, List, Result, Ok, Err, Global, ◌++◌, codes, ap, ◌∙◌, subst, arith}
use Rattle.std.specs.Prelude.{IfErr, String}
use Rattle.g1_words.specs.Fault.{status_of}
use Rattle.g1_words.specs.declared.fault.Fault.{Fault}
use Rattle.g1_words.specs.declared.fault.Fault.TheVariants as fault
use Rattle.g1_words.specs.declared.fault.Device.TheVariants as device
use Rattle.g1_command.specs.declared.refusal.Refusal.{Refusal}
use Rattle.g1_command.specs.declared.refusal.Refusal.TheVariants as refusal
use Rattle.g1heap_cli.specs.Refusals.{Tells, told_line, ended, cause_line, is_of_machine, IsUnread}
use Rattle.g1heap_cli.specs.declared.commands.Printed.{Printed}
use Rattle.g1heap_cli.specs.declared.commands.Printed.TheVariants as printed
use Rattle.g1heap_cli.specs.Printed.{IfBroken, IsRefusalOf}
use Rattle.g1heap_cli.specs.Refuses.{set_tip, CantWrite, IsUnreadOrSet, IsOfList}

-- the status of a fault of the machine is not 7
not_machine : (f : Fault) → is_of_machine f ≡ true → 7 ≡ status_of f → ⊥
not_machine fault.Memory own is = omega (arith, is)
not_machine (fault.Device d) own is = omega (arith, is)
not_machine f own is = absurd (true≢false (sym own))

-- no name beside the file is free
pub all_taken : (file : List ℕ) (r : Refusal) → Tells 7 (λ t. t ≡ told_line file (codes "can't be written: all names beside it are taken\n")) r → CantWrite file r
all_taken file (refusal.Told s t) h = (h.0, (codes "all names beside it are taken", h.1))
all_taken file (refusal.Fault f) h = h

-- a tip behind the line of a file that can't be opened
pub tipped : (file : List ℕ) (text : String Global) (items : List ℕ) (r : Refusal) → items ≡ text.bytes.items → Tells 7 (λ t. t ≡ items ++ cause_line set_tip) r
    → IsUnread file (refusal.Told 7 text) → IsUnreadOrSet file r
tipped file text items r same told (inl (seven, (why, is))) = inr (at r told)
  where
    at : (r : Refusal) → Tells 7 (λ t. t ≡ items ++ cause_line set_tip) r
        → Tells 7 (λ t. (why : List ℕ) × (t ≡ told_line file (codes "can't be opened: " ++ ended why) ++ cause_line set_tip)) r
    at (refusal.Told s t) h = (h.0, (why, h.1 ∙ ap (λ l. l ++ cause_line set_tip) (same ∙ is)))
    at (refusal.Fault f) h = h
tipped file text items r same told (inr (f, own, of)) = absurd (not_machine f own of.0)

abbrev is_output : Refusal → Bool
is_output (refusal.Fault (fault.Device device.Output)) = true
is_output why = false

-- a list that took no more bytes
pub of_list : (A : Refusal → Type 0) (why r : Refusal) → IsOfList why r → A (refusal.Fault fault.Memory) → A why ⊎ (why ≡ refusal.Fault (fault.Device device.Output)) → A r
of_list A (refusal.Fault (fault.Device device.Output)) r is memory of = subst A (sym is) memory
of_list A why r is memory (inl of) = subst A (sym is) of
of_list A why r is memory (inr out) = absurd (true≢false (sym (ap is_output out)))

-- one reason for another
pub err_so : {P Q : Refusal → Type 0} → ((e : Refusal) → P e → Q e) → (r : Result ℕ Refusal) → IfErr r P → IfErr r Q
err_so f (Ok s) h = tt
err_so f (Err e) h = f e h

-- the refusal behind lines that are printed, or that of where they go
pub printed_so : (P U : Refusal → Type 0) (p : Printed) → IfBroken P p → (r : Result ℕ Refusal) → IfErr r (λ e. IsRefusalOf p e ⊎ U e) → IfErr r (λ e. P e ⊎ U e)
printed_so P U p h (Ok s) of = tt
printed_so P U (printed.Lines text) h (Err e) (inl is) = absurd is
printed_so P U (printed.Broken text why) h (Err e) (inl is) = inl (subst P (sym is) h)
printed_so P U p h (Err e) (inr sent) = inr sent
