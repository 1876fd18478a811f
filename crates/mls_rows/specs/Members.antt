-- The members of JSON objects, and their objects.
use Rattle.std.specs.Prelude.{◌≡◌, ℕ, ◌==◌, Bool, false, is_some, List, [], ◌∷◌, ◌++◌, codes, drop, Option, Some, None}
use Rattle.std.specs.Prelude.{Result, OnOk, slice_get, if◌then◌else◌}
use Rattle.std.specs.Fmt.{decimal}
use Rattle.json.specs.Print.{print}
use Rattle.json.specs.Token.{Token, begin_array, end_array, begin_object, end_object, key, string, number, null}
use Rattle.json.specs.Written.{Written}
use Rattle.mls_facts.specs.Decimals.{decimal_within}
use Rattle.mls_lines.specs.Names.{Names}
use Rattle.mls_requests.specs.ModeWords.{mode_word}
use Rattle.mls_tables.specs.Triples.{Triple}
use Rattle.mls_tables.specs.declared.mode.Mode.{Mode}

-- Where the call succeeds, these tokens stand behind those that were there, and nothing else. (own)
abbrev pub Adds : {V E : Type 0} → Result V E → Written → Written → List Token → Type 0
Adds result old new ts = OnOk result ((new.tokens ≡ old.tokens ++ ts) × (new.before ≡ old.before))

-- A member that is a number. (own)
abbrev pub number_member : List ℕ → ℕ → List Token
number_member at n = key at ∷ number (decimal n) ∷ []

-- A member that is a string. (own)
abbrev pub text_member : List ℕ → List ℕ → List Token
text_member at word = key at ∷ string word ∷ []

-- A member that is null. (own)
abbrev pub null_member : List ℕ → List Token
null_member at = key at ∷ null ∷ []

-- A member that is a mode. (own)
abbrev pub mode_member : List ℕ → Mode → List Token
mode_member at x = key at ∷ string (mode_word x) ∷ []

-- Two members that are numbers. (own)
abbrev pub two_members : List ℕ → List ℕ → ℕ → ℕ → List Token
two_members first second m n = number_member first m ++ number_member second n

-- Whether a word begins with `#`. (own)
abbrev pub is_numbered : List ℕ → Bool
is_numbered [] = false
is_numbered (b ∷ bs) = b == 35

-- A number's digits, as JSON; null of what is no number. (own)
abbrev pub number_token : List ℕ → Token
number_token word = if is_some (decimal_within 18446744073709551615 word) then number word else null

-- A subject or an object by its word: of `#N` the number under one key, else the name under another. (own)
abbrev pub named_member : List ℕ → List ℕ → List ℕ → List Token
named_member at name word =
    if is_numbered word then key at ∷ number_token (drop 1 word) ∷ [] else key name ∷ string word ∷ []

-- What has this name, or else this number. (own)
abbrev pub member_of : List ℕ → List ℕ → Option (List ℕ) → ℕ → List Token
member_of at name None n = key at ∷ number (decimal n) ∷ []
member_of at name (Some word) n = named_member at name word

-- A subject: its number under one key, or its name under another. (own)
abbrev pub subject_member : List ℕ → List ℕ → Names → ℕ → List Token
subject_member at name names s = member_of at name (slice_get names.subjects s) s

-- An object: its number under one key, or its name under another. (own)
abbrev pub object_member : List ℕ → List ℕ → Names → ℕ → List Token
object_member at name names o = member_of at name (slice_get names.objects o) o

-- An access: its subject, its mode and its object, each under its own keys. (own)
abbrev pub access_members : Names → Triple → List Token
access_members names t =
    subject_member (codes "subject") (codes "subject_name") names t.0 ++ mode_member (codes "mode") t.2
    ++ object_member (codes "object") (codes "object_name") names t.1

-- A member that is a list of these. (own)
abbrev pub list_member : List ℕ → List Token → List Token
list_member at ts = key at ∷ begin_array ∷ ts ++ end_array ∷ []

-- The object of these members. (own)
abbrev pub object_of : List Token → List Token
object_of members = begin_object ∷ members ++ end_object ∷ []

-- It, in a line. (own)
abbrev pub line_of : List Token → List ℕ
line_of members = print (object_of members) ++ 10 ∷ []
