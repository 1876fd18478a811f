-- The members of remedies.
use Rattle.std.specs.Prelude.{ℕ, List, [], ◌∷◌, ◌++◌, codes}
use Rattle.json.specs.Token.{Token, key}
use Rattle.mls_lines.specs.Names.{Names}
use Rattle.mls_rows.specs.Members.{object_of, subject_member, text_member}
use Rattle.mls_shared_rows.specs.Requests.{asked_members, of_mode, of_object, of_whose}
use Rattle.mls_tables.specs.declared.mode.Mode.{Mode}
use Rattle.mls_remedies.specs.Steps.{asked_by}
use Rattle.mls_remedies.specs.declared.ending.Ending.{Ending}
use Rattle.mls_remedies.specs.declared.ending.Ending.TheVariants.{Asked, Instead, NoLevel, NoGiver, Nothing}
use Rattle.mls_remedies.specs.declared.step.Step.{Step}
use Rattle.mls_remedies.specs.declared.who.Who.{Who}
use Rattle.mls_remedies.specs.declared.who.Who.TheVariants.{One, Two, Three}
use Rattle.mls_explain_text.specs.Holdings.{some_list}

-- A subject that may make a step too. (own)
abbrev pub other_object : Names → ℕ → List Token
other_object names s = object_of (subject_member (codes "subject") (codes "subject_name") names s)

-- The subjects that may make a step too. (own)
abbrev pub others : Who → List ℕ
others (One a) = []
others (Two a b) = b ∷ []
others (Three a b c) = b ∷ c ∷ []

-- The members of a step: the request, and who may make it too. (own)
abbrev pub step_members : Names → Step → List Token
step_members names t =
    asked_members names (asked_by t) ++ some_list (codes "or") (other_object names) (others t.who)

-- The object of a step. (own)
abbrev pub step_object : Names → Step → List Token
step_object names t = object_of (step_members names t)

-- The member that says why there is no remedy. (own)
abbrev pub none_member : List ℕ → List Token
none_member why = text_member (codes "none") why

-- The member that is a permission that nobody gives. (own)
abbrev pub lacks_member : Names → Mode → ℕ → ℕ → List Token
lacks_member names x s o =
    key (codes "lacks") ∷ object_of (of_mode x ++ of_whose names s ++ of_object names o)

-- The members of what the steps lead to: the request of others, or why there are none. (own)
abbrev pub ending_members : Names → Ending → List Token
ending_members names Asked = []
ending_members names (Instead t) = key (codes "instead") ∷ step_object names t
ending_members names NoLevel = none_member (codes "level")
ending_members names (NoGiver x s o) = none_member (codes "giver") ++ lacks_member names x s o
ending_members names Nothing = none_member (codes "request")

-- The members of a remedy. (own)
abbrev pub remedy_steps : Names → List Step → Ending → List Token
remedy_steps names steps ending =
    some_list (codes "steps") (step_object names) steps ++ ending_members names ending
