-- The explanation of what a line asks, as one JSON object.
use Rattle.std.specs.Prelude.{◌≡◌, ℕ, Bool, true, false, List, ◌++◌, Result, OnOk}
use Rattle.json.specs.Token.{Token}
use Rattle.json.specs.Written.{Written}
use Rattle.mls_requests.specs.declared.ask.Ask.{Ask}
use Rattle.mls_requests.specs.declared.ask.Ask.TheVariants.{Submit, Check}
use Rattle.mls_requests.specs.declared.request.Request.{Request}
use Rattle.mls_lines.specs.Names.{Names}
use Rattle.mls_state.specs.State.{State}
use Rattle.mls_rules.specs.Rules.{is_defined, reply, conditions}
use Rattle.mls_rows.specs.Members.{line_of, object_of}
use Rattle.mls_rows.specs.declared.form.Form.{Form}
use Rattle.mls_rows.specs.declared.form.Form.TheVariants.{Text, Json}
use Rattle.mls_explain.specs.Grounds.{grounds, tests_of, grounds_of}
use Rattle.mls_explain.specs.Trusting.{conditions_of, plain_of, untrusted}
use Rattle.mls_explain.specs.Unknowns.{unknowns}
use Rattle.mls_explain.specs.declared.judgement.Judgement.{Judgement}
use Rattle.mls_explain.specs.declared.way.Way.{Way}
use Rattle.mls_explain_text.specs.AnswerMembers.{response_members}
use Rattle.mls_explain_text.specs.Explained.{Explains, IsWayAfter}
use Rattle.mls_explain_text.specs.ExplainMembers.{conditions_member, explanation_members, undefined_members}
use Rattle.mls_explain_text.specs.Remedies.{IsRemedyAfter}
use Rattle.mls_explain_text.specs.Responses.{response_to}
use Rattle.mls_remedies.specs.declared.ending.Ending.{Ending}
use Rattle.mls_remedies.specs.declared.step.Step.{Step}

-- Where the call succeeds, tokens of which this is so stand behind those that were there, and nothing else. (own)
abbrev pub AddsMembers : {V E : Type 0} → Result V E → Written → Written → (List Token → Type 0) → Type 0
AddsMembers result old new P =
    OnOk result ((told : List Token) × P told × (new.tokens ≡ old.tokens ++ told) × (new.before ≡ old.before))

-- Where the call succeeds, the object of members of which this is so stands behind what was there, and nothing else.
-- (own)
abbrev pub AddsObject : {V E : Type 0} → Result V E → Written → Written → (List Token → Type 0) → Type 0
AddsObject result old new P =
    OnOk result ((told : List Token) × P told × (new.tokens ≡ old.tokens ++ object_of told) × (new.before ≡ old.before))

-- These members are exactly the conditions of a request's rule, in its order, each with what it rests on. (own)
pub record GivesConditions (names : Names) (v : State) (r : Request) (told : List Token) : Type 0 where
  pub all : List Judgement
  pub tests : tests_of (conditions_of all) ≡ conditions v r.subject r.action
  pub bases : grounds_of (conditions_of all) ≡ grounds v r.subject r.action
  pub plain_tests : tests_of (plain_of all) ≡ conditions (untrusted v r.subject) r.subject r.action
  pub plain_bases : grounds_of (plain_of all) ≡ grounds (untrusted v r.subject) r.subject r.action
  pub members : told ≡ conditions_member names v r all

-- These members explain a request in the domain: with exactly the conditions of its rule, in its order, each with what
-- it rests on and whether it holds without trust, and where it is denied with what it would take of its subject alone
-- and its remedy. (own)
pub record MembersOfDefined (names : Names) (v : State) (r : Request) (told : List Token) : Type 0 where
  pub all : List Judgement
  pub way : Way
  pub steps : List Step
  pub ending : Ending
  pub tests : tests_of (conditions_of all) ≡ conditions v r.subject r.action
  pub bases : grounds_of (conditions_of all) ≡ grounds v r.subject r.action
  pub plain_tests : tests_of (plain_of all) ≡ conditions (untrusted v r.subject) r.subject r.action
  pub plain_bases : grounds_of (plain_of all) ≡ grounds (untrusted v r.subject) r.subject r.action
  pub is : IsWayAfter v r (reply v r) way
  pub remedy : IsRemedyAfter v r (reply v r) steps ending
  pub members : told ≡ explanation_members names v r all way steps ending

-- These members explain a request that is in the domain or isn't. (own)
abbrev pub MembersWhether : Bool → Names → State → Request → List Token → Type 0
MembersWhether true names v r told = MembersOfDefined names v r told
MembersWhether false names v r told = told ≡ undefined_members names (unknowns v r)

-- These members explain what a line asks: a request, or a check by its answer alone. (own)
abbrev pub MembersOf : Names → State → Ask → List Token → Type 0
MembersOf names v (Submit r) told = MembersWhether (is_defined v r) names v r told
MembersOf names v (Check s o x) told = told ≡ response_members (response_to v (Check s o x))

-- An answer's bytes are the object, in a line, of members that explain what a line asks. (own)
pub record IsObjectOf (names : Names) (v : State) (asked : Ask) (told : List ℕ) : Type 0 where
  pub found : List Token
  pub explain : MembersOf names v asked found
  pub bytes : told ≡ line_of found

-- An answer's bytes explain what a line asks, in a form: as text or as one object. (own)
abbrev pub ExplainsIn : Form → Names → State → Ask → List ℕ → Type 0
ExplainsIn Text names v asked told = Explains names v asked told
ExplainsIn Json names v asked told = IsObjectOf names v asked told
