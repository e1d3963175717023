-- Streams that may be away, and the bytes of what has a name.
use Rattle.std.specs.Prelude.{◌≡◌, ◌≢◌, ℕ, List, codes, Option, Some, None, String, IfSome}
use Rattle.std.specs.Option.{option_map}
use Rattle.g1_image.specs.Source.{HoldsOfLeft}

-- what is known of a stream that may be away
abbrev pub known_of : {S : Type 0} → (S → Option (List ℕ)) → Option S → Option (List ℕ)
known_of known None = None
known_of known (Some s) = known s

-- the bytes are those that are left on standard input, if the name is its name; those of a file are not known
abbrev pub AreNamed : List ℕ → Option (List ℕ) → List ℕ → Type 0
AreNamed file left bytes = file ≡ codes "-" → IfSome left (λ xs. xs ≡ bytes)

-- P holds of the bytes of what has this name
abbrev pub HoldsOfNamed : List ℕ → Option (List ℕ) → (List ℕ → Type 0) → Type 0
HoldsOfNamed file left P = (bytes : List ℕ) × P bytes × AreNamed file left bytes

-- what standard input has left behind a file: all that it had before, unless that file is standard input
abbrev pub LeavesBehind : List ℕ → Option (List ℕ) → Option (List ℕ) → Type 0
LeavesBehind file left after = file ≢ codes "-" → after ≡ left

-- the same of a file that may be given
abbrev pub LeavesBehindAny : {Z : Type 0} → Option (String Z) → Option (List ℕ) → Option (List ℕ) → Type 0
LeavesBehindAny None left after = after ≡ left
LeavesBehindAny (Some file) left after = LeavesBehind file.bytes.items left after

-- what is kept are those bytes, if the name is that of standard input
abbrev pub KeepsNamed : {V : Type 0} → (V → List ℕ) → List ℕ → Option (List ℕ) → Option V → Type 0
KeepsNamed items file left kept = file ≡ codes "-" → IfSome left (λ xs. option_map items kept ≡ Some xs)

-- P holds of the bytes that are kept; of some bytes, if none are
abbrev pub HoldsOfKept : {V : Type 0} → (V → List ℕ) → Option V → (List ℕ → Type 0) → Type 0
HoldsOfKept items kept P = HoldsOfLeft (option_map items kept) P
