-- What is written of why a request is answered as it is.
use Rattle.std.specs.Prelude.{◌≡◌, ℕ, Bool, true, false, List, [], ◌++◌, codes, if◌then◌else◌}
use Rattle.std.specs.List.{flat_map}
use Rattle.mls_requests.specs.ReasonWords.{reason_word}
use Rattle.mls_requests.specs.declared.action.Action.{Action}
use Rattle.mls_requests.specs.declared.action.Action.TheVariants.{Get}
use Rattle.mls_requests.specs.declared.ask.Ask.{Ask}
use Rattle.mls_requests.specs.declared.ask.Ask.TheVariants.{Submit, Check}
use Rattle.mls_requests.specs.declared.reply.Reply.{Reply}
use Rattle.mls_requests.specs.declared.reply.Reply.TheVariants.{No}
use Rattle.mls_requests.specs.declared.request.Request.{Request}
use Rattle.mls_lines.specs.Names.{Names}
use Rattle.mls_state.specs.State.{State}
use Rattle.mls_rules.specs.Rules.{is_defined, reply, conditions}
use Rattle.mls_explain.specs.Grounds.{grounds, tests_of, grounds_of}
use Rattle.mls_explain.specs.Trusting.{conditions_of, plain_of, untrusted}
use Rattle.mls_explain.specs.Unknowns.{unknowns}
use Rattle.mls_explain.specs.Ways.{IsWay}
use Rattle.mls_explain.specs.declared.judgement.Judgement.{Judgement}
use Rattle.mls_explain.specs.declared.unknown.Unknown.{Unknown}
use Rattle.mls_explain.specs.declared.unknown.Unknown.TheVariants as unknown
use Rattle.mls_explain.specs.declared.way.Way.{Way}
use Rattle.mls_explain.specs.declared.way.Way.TheVariants.{Never}
use Rattle.mls_remedies.specs.declared.ending.Ending.{Ending}
use Rattle.mls_remedies.specs.declared.step.Step.{Step}
use Rattle.mls_wording.specs.Wording.{subject_text, object_text, security_text, integrity_text}
use Rattle.mls_explain_text.specs.Bases.{basis_text, is_told}
use Rattle.mls_explain_text.specs.Obstacles.{obstacle_lines}
use Rattle.mls_explain_text.specs.Remedies.{IsRemedyAfter, remedy_lines}
use Rattle.mls_explain_text.specs.Responses.{response_to, response_line}
use Rattle.mls_explain_text.specs.Terms.{either, worded}
use Rattle.mls_explain_text.specs.declared.response.Response.TheVariants.{Replied}

-- The words for whether a condition holds: by trust where it fails without. (own)
abbrev pub standing_text : Judgement → List ℕ
standing_text j =
    either j.condition.holds (either j.plain.holds (codes " holds: ") (codes " holds by trust: ")) (codes " fails: ")

-- The line of a condition: its reason, whether it holds, and what it rests on without trust in the subject that asks,
-- as it is without trust. (own)
abbrev pub condition_line : Names → Judgement → List ℕ
condition_line names j =
    reason_word j.condition.reason ++ standing_text j ++ basis_text names (is_told j) j.plain.basis ++ codes "\n"

-- The line of a condition, and where it fails the accesses in the way. (own)
abbrev pub condition_lines : Names → State → Request → Judgement → List ℕ
condition_lines names v r j =
    condition_line names j ++ (if j.condition.holds then [] else obstacle_lines names v r j.condition.reason)

-- The lines of conditions, each followed by the accesses in its way. (own)
abbrev pub conditions_text : Names → State → Request → List Judgement → List ℕ
conditions_text names v r conditions = flat_map (condition_lines names v r) conditions

-- The explanation of a request in the domain: the answer, the conditions, and its remedy. (own)
abbrev pub explanation : Names → State → Request → List Judgement → List Step → Ending → List ℕ
explanation names v r conditions steps ending =
    response_line (Replied (reply v r)) ++ conditions_text names v r conditions ++ remedy_lines names steps ending

-- What an action would take of its subject: of a get what is said of it; of any other nothing is said. (own)
abbrev pub IsActionWay : State → ℕ → Action → Way → Type 0
IsActionWay v s (Get x o) way = IsWay v s o x way
IsActionWay v s action way = way ≡ Never

-- What a request would take of its subject. (own)
abbrev pub IsWayFor : State → Request → Way → Type 0
IsWayFor v r way = IsActionWay v r.subject r.action way

-- What is said that a request with a reply would take: of one that is denied, else nothing. (own)
abbrev pub IsWayAfter : State → Request → Reply → Way → Type 0
IsWayAfter v r (No reason) way = IsWayFor v r way
IsWayAfter v r reply way = way ≡ Never

-- A text is the explanation of a request in the domain: with just the conditions of its rule, in its order, each with
-- what it rests on and whether it holds without trust, and where it is denied with its remedy. (own)
pub record ExplainsDefined (names : Names) (v : State) (r : Request) (told : List ℕ) : Type 0 where
  pub all : List Judgement
  pub steps : List Step
  pub ending : Ending
  pub tests : tests_of (conditions_of all) ≡ conditions v r.subject r.action
  pub bases : grounds_of (conditions_of all) ≡ grounds v r.subject r.action
  pub plain_tests : tests_of (plain_of all) ≡ conditions (untrusted v r.subject) r.subject r.action
  pub plain_bases : grounds_of (plain_of all) ≡ grounds (untrusted v r.subject) r.subject r.action
  pub is : IsRemedyAfter v r (reply v r) steps ending
  pub text : told ≡ explanation names v r all steps ending

-- A text is that of just the conditions of a request's rule, in its order, each with what it rests on. (own)
pub record GivesReasons (names : Names) (v : State) (r : Request) (told : List ℕ) : Type 0 where
  pub all : List Judgement
  pub tests : tests_of (conditions_of all) ≡ conditions v r.subject r.action
  pub bases : grounds_of (conditions_of all) ≡ grounds v r.subject r.action
  pub plain_tests : tests_of (plain_of all) ≡ conditions (untrusted v r.subject) r.subject r.action
  pub plain_bases : grounds_of (plain_of all) ≡ grounds (untrusted v r.subject) r.subject r.action
  pub text : told ≡ conditions_text names v r all

-- What isn't there. (own)
abbrev pub unknown_text : Names → Unknown → List ℕ
unknown_text names (unknown.Subject s) = worded (codes "unknown subject: ") (subject_text names s)
unknown_text names (unknown.Object o) = worded (codes "inactive object: ") (object_text names o)
unknown_text names (unknown.Security l) =
    worded (codes "security label outside the scheme: ") (security_text names l)
unknown_text names (unknown.Integrity i) =
    worded (codes "integrity label outside the scheme: ") (integrity_text names i)

-- The line of what isn't there. (own)
abbrev pub unknown_line : Names → Unknown → List ℕ
unknown_line names u = unknown_text names u ++ codes "\n"

-- The lines of what isn't there. (own)
abbrev pub unknown_lines : Names → List Unknown → List ℕ
unknown_lines names found = flat_map (unknown_line names) found

-- The explanation of a request outside the domain, which names these things that aren't there. (own)
abbrev pub undefined_text : Names → List Unknown → List ℕ
undefined_text names found = codes "undefined\n" ++ unknown_lines names found

-- A text is the explanation of a request that is in the domain or isn't. (own)
abbrev pub ExplainsWhether : Bool → Names → State → Request → List ℕ → Type 0
ExplainsWhether true names v r told = ExplainsDefined names v r told
ExplainsWhether false names v r told = told ≡ undefined_text names (unknowns v r)

-- A text is the explanation of a request. (own)
abbrev pub ExplainsRequest : Names → State → Request → List ℕ → Type 0
ExplainsRequest names v r told = ExplainsWhether (is_defined v r) names v r told

-- A text is the explanation of what a line asks: of a request, or of a check its answer alone. (own)
abbrev pub Explains : Names → State → Ask → List ℕ → Type 0
Explains names v (Submit r) told = ExplainsRequest names v r told
Explains names v (Check s o x) told = told ≡ response_line (response_to v (Check s o x))

-- To a text another is added, of which this is so. (own)
abbrev pub Adds : (List ℕ → Type 0) → List ℕ → List ℕ → Type 0
Adds P old new = (told : List ℕ) × P told × (new ≡ old ++ told)
