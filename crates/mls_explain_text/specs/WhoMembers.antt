-- The members of the rows of who may get what of an object.
use Rattle.std.specs.Prelude.{Bool, true, false, List, [], ◌∷◌, ◌++◌, codes}
use Rattle.json.specs.Token.{Token, boolean, key}
use Rattle.mls_labels.specs.Label.{Label}
use Rattle.mls_tables.specs.Triples.{Triple}
use Rattle.mls_requests.specs.ReasonWords.{reason_word}
use Rattle.mls_requests.specs.declared.reply.Reply.{Reply}
use Rattle.mls_requests.specs.declared.reply.Reply.TheVariants.{Yes, Created, No, Undefined}
use Rattle.mls_lines.specs.Names.{Names}
use Rattle.mls_rows.specs.Members.{mode_member, null_member, subject_member, text_member}
use Rattle.mls_explain.specs.declared.prospect.Prospect.{Prospect}
use Rattle.mls_explain.specs.declared.way.Way.{Way}
use Rattle.mls_explain.specs.declared.way.Way.TheVariants.{Level, Released, Never}
use Rattle.mls_wording.specs.Wording.{security_text}
use Rattle.mls_explain_text.specs.Holdings.{some_list, holding_object}
use Rattle.mls_explain_text.specs.Lasting.{told_reason}

-- Whether a get is granted. (own)
abbrev pub granted_member : Bool → List Token
granted_member granted = key (codes "granted") ∷ boolean granted ∷ []

-- The label with which a get is granted, and after which releases. (own)
abbrev pub level_members : Names → Label → List Triple → List Token
level_members names l releases =
    text_member (codes "remedy") (security_text names l)
    ++ some_list (codes "releases") (holding_object names) releases

-- What a get would take: a label, after releases if any, or null. (own)
abbrev pub way_member : Names → Way → List Triple → List Token
way_member names (Level l) releases = level_members names l releases
way_member names (Released l) releases = level_members names l releases
way_member names Never releases = null_member (codes "remedy")

-- What becomes of a get: whether it is granted, and after a denial the condition that is told, and what it would take.
-- (own)
abbrev pub outcome_members : Names → Reply → Way → List Triple → List Token
outcome_members names Yes way releases = granted_member true
outcome_members names (Created o) way releases = granted_member true
outcome_members names (No reason) way releases =
    granted_member false ++ text_member (codes "reason") (reason_word (told_reason reason way))
    ++ way_member names way releases
outcome_members names Undefined way releases = granted_member false

-- What a subject may get in a mode, with what is to be released. (own)
abbrev pub prospect_members : Names → Prospect → List Triple → List Token
prospect_members names p releases =
    subject_member (codes "subject") (codes "subject_name") names p.subject
    ++ mode_member (codes "mode") p.mode ++ outcome_members names p.reply p.way releases
