-- What is said beside a mistake: a tip, where the words show what was meant.
use Rattle.std.specs.Prelude.{◌≡◌, ◌⊎◌, Option, Some, List, [], ◌∷◌, ◌++◌, codes, Contains, find}
use Rattle.std.specs.Str.{bytes_eq}
use Rattle.clap.specs.Words.{Text}
use Rattle.clap.specs.declared.error.kind.ErrorKind.{ErrorKind}
use Rattle.clap.specs.declared.error.kind.ErrorKind.TheVariants.{InvalidSubcommand, MissingRequiredArgument}
use Rattle.g1_words.specs.declared.fault.Fault.TheVariants.{Memory}
use Rattle.g1_command.specs.declared.refusal.Refusal.{Refusal}
use Rattle.g1_command.specs.declared.refusal.Refusal.TheVariants as refusal

-- a text has this part somewhere
abbrev pub Has : Text → Text → Type 0
Has part text = (front back : Text) × (text ≡ front ++ (part ++ back))

-- where a tip begins, and where a usage does
abbrev pub tip_mark : Text
tip_mark = codes "\n\n  tip:"

abbrev pub usage_mark : Text
usage_mark = codes "\n\nUsage:"

-- the tip that a text has of its own behind what is said: it begins at the first place where one does, and there is none if none does
abbrev pub IsOwnTip : Text → Text → Type 0
IsOwnTip said own = (Has tip_mark said → ⊥) × ((own ≡ []) ⊎ ((tip : Text) × (own ≡ tip_mark ++ tip)))

-- A TEXT WITH A TIP: what is said of the mistake stays, and so does the usage; the tip stands between them, in place of the text's own one
pub record IsTipped (tip old new : Text) : Type 0 where
  pub said : Text
  pub own : Text
  pub usage : Text
  pub is_own : IsOwnTip said own
  pub first : Has usage_mark (said ++ own) → ⊥
  pub before : old ≡ said ++ (own ++ (usage_mark ++ usage))
  pub after : new ≡ said ++ (tip_mark ++ (32 ∷ tip ++ (usage_mark ++ usage)))

-- the tip where `--set` has no regions
abbrev pub set_tip : Text
set_tip = codes "behind '--set' come regions, as in '--set 1,2,5-9', and then the files"

-- what stands between a text's first two quotes
pub record QuotesFirst (text word : Text) : Type 0 where
  pub front : Text
  pub back : Text
  pub is : text ≡ front ++ (39 ∷ (word ++ 39 ∷ back))
  pub front_has_none : Contains front 39 → ⊥
  pub word_has_none : Contains word 39 → ⊥

-- what other programs call a command, and what it is called here
abbrev pub other_names : List (Text × Text)
other_names =
    (codes "diff", codes "same") ∷ (codes "cmp", codes "same") ∷ (codes "compare", codes "same") ∷ (codes "run", codes "trace") ∷ (codes "replay", codes "trace")
    ∷ (codes "collect", codes "pause") ∷ (codes "gc", codes "pause") ∷ (codes "dump", codes "print") ∷ (codes "cat", codes "print") ∷ (codes "verify", codes "check")
    ∷ (codes "path", codes "why") ∷ (codes "load", codes "make") ∷ []

-- the first one with this name among them
abbrev pub named_among : List (Text × Text) → Text → Option (Text × Text)
named_among names word = find (λ n. bytes_eq word n.0) names

-- the tip for a command by its other name
abbrev pub IsCommandTip : Text → Text → Type 0
IsCommandTip word tip = (name : Text × Text) × (named_among other_names word ≡ Some name) × (tip ≡ codes "the command for it is '" ++ (name.1 ++ codes "'"))

-- THE TIP THAT IS DUE where a command is called as in other programs, and where `--set` has no regions: it stands alone then, since its values are tied to it
abbrev pub IsDue : ErrorKind → List Text → Text → Text → Type 0
IsDue InvalidSubcommand words text tip = (word : Text) × QuotesFirst text word × IsCommandTip word tip
IsDue MissingRequiredArgument words text tip = Contains words (codes "--set") × (tip ≡ set_tip)
IsDue _ words text tip = ⊥

-- a text as it was, or with a tip. A tip that is due is there, if the text has a usage behind it
pub record MayBeTipped (kind : ErrorKind) (words : List Text) (old new : Text) : Type 0 where
  pub same_or_tipped : (new ≡ old) ⊎ ((tip : Text) × IsTipped tip old new)
  pub due : (tip : Text) → IsDue kind words old tip → Has usage_mark old → IsTipped tip old new

-- A REFUSAL THAT MAY HAVE GOT A TIP: of the same status, or memory was wanted for it
abbrev pub IsRetold : ErrorKind → List Text → Refusal → Refusal → Type 0
IsRetold kind words (refusal.Told old text) (refusal.Told status told) = (status ≡ old) × MayBeTipped kind words text.bytes.items told.bytes.items
IsRetold kind words (refusal.Told old text) (refusal.Fault fault) = fault ≡ Memory
IsRetold kind words (refusal.Fault old) (refusal.Fault fault) = fault ≡ old
IsRetold kind words _ _ = ⊥
