-- What is written of who may get what of an object.
use Rattle.std.specs.Prelude.{◌≡◌, ℕ, Bool, true, false, nat_lt, List, [], ◌∷◌, ◌++◌, codes, All}
use Rattle.std.specs.List.{flat_map, list_any}
use Rattle.mls_labels.specs.Label.{Label}
use Rattle.mls_tables.specs.Mode.{ModeSet}
use Rattle.mls_tables.specs.Triples.{Triple}
use Rattle.mls_requests.specs.ModeWords.{mode_word}
use Rattle.mls_requests.specs.ReplyWords.{reply_text}
use Rattle.mls_requests.specs.declared.reply.Reply.{Reply}
use Rattle.mls_requests.specs.declared.reply.Reply.TheVariants.{No}
use Rattle.mls_lines.specs.Names.{Names}
use Rattle.mls_state.specs.State.{State, is_subject, is_active}
use Rattle.mls_explain.specs.Prospects.{permitted_pairs, pairs_of, IsProspect}
use Rattle.mls_explain.specs.Ways.{releases_for}
use Rattle.mls_explain.specs.declared.prospect.Prospect.{Prospect}
use Rattle.mls_explain.specs.declared.way.Way.{Way}
use Rattle.mls_explain.specs.declared.way.Way.TheVariants.{Level, Released, Never}
use Rattle.mls_wording.specs.Wording.{subject_text, object_text, security_text}
use Rattle.mls_explain_text.specs.Lasting.{told_reply}
use Rattle.mls_explain_text.specs.Responses.{is_granted}

-- The mode and the object of an access that is to be released. (own)
abbrev pub release_text : Names → Triple → List ℕ
release_text names t = mode_word t.2 ++ codes " " ++ object_text names t.1

-- The same behind another. (own)
abbrev pub one_more_release : Names → Triple → List ℕ
one_more_release names t = codes ", " ++ release_text names t

-- After which releases a label is granted. (own)
abbrev pub releases_text : Names → List Triple → List ℕ
releases_text names [] = []
releases_text names (t ∷ ts) = codes " after releasing " ++ release_text names t ++ flat_map (one_more_release names) ts

-- The label with which a get is granted, and after which releases. (own)
abbrev pub level_text : Names → Label → List Triple → List ℕ
level_text names l releases = codes ", level " ++ security_text names l ++ releases_text names releases

-- What a get would take: a label, after releases if any, or that there is nothing. (own)
abbrev pub way_text : Names → Way → List Triple → List ℕ
way_text names (Level l) releases = level_text names l releases
way_text names (Released l) releases = level_text names l releases
way_text names Never releases = codes ", never"

-- What follows the reply to a get: after a denial what it would take. (own)
abbrev pub denial_text : Names → Reply → Way → List Triple → List ℕ
denial_text names (No reason) way releases = way_text names way releases
denial_text names reply way releases = []

-- The reply to a get, with the condition that is told of it, and what follows it, with what is to be released, to the
-- end of the line. (own)
abbrev pub outcome_line : Names → Prospect → List Triple → List ℕ
outcome_line names p releases =
    reply_text (told_reply p.reply p.way) ++ denial_text names p.reply p.way releases ++ codes "\n"

-- The line of what a subject may get in a mode, with what is to be released. (own)
abbrev pub prospect_line : Names → Prospect → List Triple → List ℕ
prospect_line names p releases =
    subject_text names p.subject ++ codes " " ++ mode_word p.mode ++ codes " " ++ outcome_line names p releases

-- What has to be released for a get. (own)
abbrev pub releases_of : State → Prospect → List Triple
releases_of v p = releases_for v p.subject p.way

-- The line of what a subject may get in a mode in a state. (own)
abbrev pub prospect_text : Names → State → Prospect → List ℕ
prospect_text names v p = prospect_line names p (releases_of v p)

-- The lines of what subjects may get in a state. (own)
abbrev pub prospect_lines : Names → State → List Prospect → List ℕ
prospect_lines names v found = flat_map (prospect_text names v) found

-- Whether one of the gets would be granted. (own)
abbrev pub is_open : List Prospect → Bool
is_open found = list_any (λ p. is_granted p.reply) found

-- A text and whether it is positive tell who may get what of an active object: of just the pairs of a subject and a
-- mode, of those that are asked for, that the matrix permits, in their order, each the reply and what it would take.
-- (own)
pub record TellsActive (names : Names) (v : State) (o : ℕ) (asked : ModeSet) (told : List ℕ) (positive : Bool)
    : Type 0 where
  pub subjects : ℕ
  pub known : (s : ℕ) → is_subject v s ≡ nat_lt s subjects
  pub found : List Prospect
  pub pairs : pairs_of found ≡ permitted_pairs v o asked subjects
  pub each : All (IsProspect v o) found
  pub text : told ≡ prospect_lines names v found
  pub granted : positive ≡ is_open found

-- The same of an object that is active or isn't; one that isn't has no line. (own)
abbrev pub TellsWhether : Bool → Names → State → ℕ → ModeSet → List ℕ → Bool → Type 0
TellsWhether true names v o asked told positive = TellsActive names v o asked told positive
TellsWhether false names v o asked told positive = (told ≡ []) × (positive ≡ false)

-- A text and whether it is positive tell who may get what of an object. (own)
abbrev pub TellsWho : Names → State → ℕ → ModeSet → List ℕ → Bool → Type 0
TellsWho names v o asked told positive = TellsWhether (is_active v o) names v o asked told positive
