-- What is written of the accesses in the way of a change of levels.
use Rattle.std.specs.Prelude.{ℕ, List, [], ◌++◌, codes}
use Rattle.std.specs.List.{flat_map}
use Rattle.mls_labels.specs.Label.{Label}
use Rattle.mls_tables.specs.Triples.{Triple}
use Rattle.mls_requests.specs.ModeWords.{mode_word}
use Rattle.mls_requests.specs.declared.action.Action.{Action}
use Rattle.mls_requests.specs.declared.action.Action.TheVariants.{SubjectLevel, ObjectLevel}
use Rattle.mls_requests.specs.declared.reason.Reason.{Reason}
use Rattle.mls_requests.specs.declared.reason.Reason.TheVariants.{Simple, Star}
use Rattle.mls_requests.specs.declared.request.Request.{Request}
use Rattle.mls_lines.specs.Names.{Names}
use Rattle.mls_state.specs.State.{State}
use Rattle.mls_explain.specs.Demands.{failing_of_subject, failing_of_object}
use Rattle.mls_explain.specs.declared.demand.Demand.TheVariants.{StarAtLevel, SimpleAtLabel, StarAtLabel}
use Rattle.mls_wording.specs.Wording.{subject_text, object_text}

-- The object and the mode of an access. (own)
abbrev pub object_line : Names → Triple → List ℕ
object_line names t = codes "  " ++ object_text names t.1 ++ codes " " ++ mode_word t.2 ++ codes "\n"

-- The subject and the mode of an access. (own)
abbrev pub subject_line : Names → Triple → List ℕ
subject_line names t = codes "  " ++ subject_text names t.0 ++ codes " " ++ mode_word t.2 ++ codes "\n"

-- The objects and the modes of accesses, a line each. (own)
abbrev pub object_lines : Names → List Triple → List ℕ
object_lines names accesses = flat_map (object_line names) accesses

-- The subjects and the modes of accesses, a line each. (own)
abbrev pub subject_lines : Names → List Triple → List ℕ
subject_lines names accesses = flat_map (subject_line names) accesses

-- What is in the way of a subject's new current label, where the condition of this reason fails: of star what the
-- subject holds that doesn't meet it. (own)
abbrev pub level_obstacles : Names → State → ℕ → Label → Reason → List ℕ
level_obstacles names v s l Star = object_lines names (failing_of_subject (StarAtLevel s l) v s)
level_obstacles names v s l reason = []

-- What is in the way of an object's new label, where the condition of this reason fails: of simple security and of star
-- what is held of the object and doesn't meet it. (own)
abbrev pub label_obstacles : Names → State → ℕ → Label → Reason → List ℕ
label_obstacles names v o l Simple = subject_lines names (failing_of_object (SimpleAtLabel o l) v o)
label_obstacles names v o l Star = subject_lines names (failing_of_object (StarAtLabel o l) v o)
label_obstacles names v o l reason = []

-- What is in the way of an action of a subject, where its condition of this reason fails. (own)
abbrev pub action_obstacles : Names → State → ℕ → Action → Reason → List ℕ
action_obstacles names v s (SubjectLevel l) reason = level_obstacles names v s l reason
action_obstacles names v s (ObjectLevel o l) reason = label_obstacles names v o l reason
action_obstacles names v s action reason = []

-- What is in the way of a request, where its condition of this reason fails. (own)
abbrev pub obstacle_lines : Names → State → Request → Reason → List ℕ
obstacle_lines names v r reason = action_obstacles names v r.subject r.action reason
