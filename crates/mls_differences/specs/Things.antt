-- Subjects and objects that two starts share, and both sides of what they have otherwise.
use Rattle.std.specs.Prelude.{ℕ, Bool, List, [], ◌∷◌, ◌++◌, codes}
use Rattle.json.specs.Token.{Token, key, boolean}
use Rattle.mls_lines.specs.Names.{Names}
use Rattle.mls_rows.specs.Members.{object_member, subject_member, text_member}
use Rattle.mls_wording.specs.Wording.{subject_text, object_text}
use Rattle.mls_differences.specs.declared.thing.Thing.{Thing}
use Rattle.mls_differences.specs.declared.thing.Thing.TheVariants.{Subject, Object}

-- What is written of a subject or an object: its kind and its name. (own)
abbrev pub thing_text : Names → Thing → List ℕ
thing_text names (Subject s) = codes "subject " ++ subject_text names s
thing_text names (Object o) = codes "object " ++ object_text names o

-- What the line of a part of a subject or an object begins with. (own)
abbrev pub part_text : Names → Thing → List ℕ → List ℕ
part_text names thing part = thing_text names thing ++ 32 ∷ part ++ codes ": "

-- Both of two texts, the first start's first, and the end of the line. (own)
abbrev pub both_text : List ℕ → List ℕ → List ℕ
both_text here there = here ++ codes " > " ++ there ++ 10 ∷ []

-- The member that is a subject or an object. (own)
abbrev pub thing_member : Names → Thing → List Token
thing_member names (Subject s) = subject_member (codes "subject") (codes "subject_name") names s
thing_member names (Object o) = object_member (codes "object") (codes "object_name") names o

-- What differs. (own)
abbrev pub difference_member : List ℕ → List Token
difference_member word = text_member (codes "difference") word

-- Two members that are strings. (own)
abbrev pub text_members : List ℕ → List ℕ → List ℕ → List ℕ → List Token
text_members at behind one other = text_member at one ++ text_member behind other

-- Both sides as strings, the first start's first. (own)
abbrev pub both_texts : List ℕ → List ℕ → List Token
both_texts here there = text_members (codes "first") (codes "second") here there

-- A member that is true or false. (own)
abbrev pub truth_member : List ℕ → Bool → List Token
truth_member at so = key at ∷ boolean so ∷ []

-- Two members that are true or false. (own)
abbrev pub truth_members : List ℕ → List ℕ → Bool → Bool → List Token
truth_members at behind one other = truth_member at one ++ truth_member behind other
