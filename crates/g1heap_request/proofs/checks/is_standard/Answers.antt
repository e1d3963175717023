use Rattle.std.proofs.Common.{◌≡◌, ◌∙◌, false, refl, sym, subst}
use Rattle.std.specs.Option.{option_map_or}
use Rattle.std.specs.Str.{bytes_eq}
use Rattle.clap.specs.Words.{found_of}
use Rattle.g1_command.proofs.Got.{none_got, one_got}
use Rattle.g1heap_request.specs.Values.{standard}
use Rattle.g1heap_request.proofs.checks.is_standard.Goals as goal

pub returns-in-Some : goal.returns-in-Some
returns-in-Some c =
    c.eq.ensures ∙ subst (λ o. bytes_eq c.in-Some.name.now standard ≡ option_map_or (λ name. bytes_eq name standard) o false)
    (sym (one_got (found_of c.args.values.now) c.args.argument.now.id.now c.get_str.result c.get_str.ensures c.in-Some.name c.in-Some.is)) refl

pub returns-in-None : goal.returns-in-None
returns-in-None c =
    subst (λ o. false ≡ option_map_or (λ name. bytes_eq name standard) o false)
    (sym (none_got (found_of c.args.values.now) c.args.argument.now.id.now c.get_str.result c.get_str.ensures c.in-None.is)) refl
