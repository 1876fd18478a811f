-- The conditions of a request in numbers, and what explaining one tells.
use Rattle.std.specs.Prelude.{◌≡◌, ◌⊎◌, ℕ, ℤ, ◌++◌, Bool, List, map, length, drop, nat_lt, Option, Some, None}
use Rattle.std.specs.Prelude.{IsSomeAnd, if◌then◌else◌}
use Rattle.mls_labels.specs.Label.{Label}
use Rattle.mls_tables.specs.declared.mode.Mode.{Mode}
use Rattle.mls_requests.specs.declared.action.Action.{Action}
use Rattle.mls_requests.specs.declared.action.Action.TheVariants.{Get, Release, Give, Rescind, Create, Delete}
use Rattle.mls_requests.specs.declared.action.Action.TheVariants.{SubjectLevel, ObjectLevel}
use Rattle.mls_requests.specs.declared.request.Request.{Request}
use Rattle.mls_state.specs.State.{State}
use Rattle.mls_rules.specs.Rules.{conditions, is_defined}
use Rattle.mls_journal.specs.EntryText.{LabelHasRanges}
use Rattle.mls_explain.specs.Grounds.{grounds, tests_of, grounds_of}
use Rattle.mls_explain.specs.Remedy.{HasRemedy}
use Rattle.mls_explain.specs.declared.condition.Condition.{Condition}
use Rattle.mls_explain.specs.declared.ground.Ground.{Ground}
use Rattle.mls_explain.specs.declared.ground.Ground.TheVariants as rests
use Rattle.mls_explain.specs.declared.ground.Place.{Place}
use Rattle.mls_explain.specs.declared.ground.Relabelling.{Relabelling}
use Rattle.mls_explain.specs.declared.term.Term.{Term}
use Rattle.mls_explain.specs.declared.term.Term.TheVariants as term
use Rattle.mls_c.specs.Answers.{number_of_reason}
use Rattle.mls_c.specs.Labels.{numbers_of_label, no_label}
use Rattle.mls_c.specs.Opened.{Opened, state_of}
use Rattle.mls_c.specs.Requests.{number_of_mode}
use Rattle.mls_c.specs.declared.condition_numbers.ConditionNumbers.{ConditionNumbers}
use Rattle.mls_c.specs.declared.explaining.RemedyNumbers.{RemedyNumbers}
use Rattle.mls_c.specs.declared.status.TheConstants.{OK, ECLOSED, EINVAL, ENOTFOUND, ENOMEM, ERANGE}
use Rattle.mls_c.specs.declared.term_numbers.TermNumbers.{TermNumbers}

-- 1 where something is so, else 0. (own)
abbrev pub bit_of : Bool → ℕ
bit_of is = if is then 1 else 0

-- The numbers that stand where no label is compared. (own)
abbrev pub no_term : TermNumbers
no_term = record { kind = 0; of = 0; label = no_label }

-- A label of a kind, of this object or subject, in numbers. (own)
abbrev pub term_of_kind : ℕ → ℕ → Label → TermNumbers
term_of_kind kind whose l = record { kind = kind; of = whose; label = numbers_of_label l }

-- A label that is compared, in numbers. (own)
abbrev pub numbers_of_term : Term → TermNumbers
numbers_of_term (term.Maximum l) = term_of_kind 1 0 l
numbers_of_term (term.Current l) = term_of_kind 2 0 l
numbers_of_term (term.Security l) = term_of_kind 3 0 l
numbers_of_term (term.Object l o) = term_of_kind 4 o l
numbers_of_term (term.Integrity i) = term_of_kind 5 0 i
numbers_of_term (term.ObjectIntegrity i o) = term_of_kind 6 o i
numbers_of_term (term.SubjectIntegrity i s) = term_of_kind 7 s i

-- The numbers of a kind of basis that names a subject and an object, 0 where it doesn't, and nothing else. (own)
abbrev pub about : ℕ → ℕ → ℕ → ConditionNumbers
about kind s o = record {
  reason = 0;
  holds = 0;
  also = 0;
  basis = kind;
  mode = 0;
  subject = s;
  object = o;
  parent = 0;
  first = no_term;
  second = no_term;
  third = no_term;
}

-- The same with a mode. (own)
abbrev pub in_mode : ConditionNumbers → Mode → ConditionNumbers
in_mode n x = record n { mode = number_of_mode x }

-- The same with one label, which the request names. (own)
abbrev pub naming : ConditionNumbers → Label → ConditionNumbers
naming n l = record n { first = numbers_of_term (term.Security l) }

-- The same with two labels that are compared. (own)
abbrev pub comparing : ConditionNumbers → Term → Term → ConditionNumbers
comparing n a b = record n { first = numbers_of_term a; second = numbers_of_term b }

-- What authority to relabel rests on, in numbers: also says whether the subject writes the parent. (own)
abbrev pub numbers_of_relabelling : Relabelling → ConditionNumbers
numbers_of_relabelling r = record (comparing (about 13 r.subject r.object) (term.Current r.current)
    (term.Object r.label r.object)) {
      also = bit_of r.writes;
      parent = r.parent;
      third = numbers_of_term (term.Security r.new);
    }

-- What the fit of a label to a place rests on, in numbers: also says whether the children's labels dominate it. (own)
abbrev pub numbers_of_place : Place → ConditionNumbers
numbers_of_place p = record (comparing (about 15 0 p.object) (term.Security p.new) (term.Object p.label p.parent)) {
  also = bit_of p.below;
  parent = p.parent;
}

-- What a condition rests on, in numbers. (own)
abbrev pub numbers_of_basis : Ground → ConditionNumbers
numbers_of_basis (rests.Permission s x o) = in_mode (about 1 s o) x
numbers_of_basis (rests.Unobserving x) = in_mode (about 2 0 0) x
numbers_of_basis rests.Inert = about 3 0 0
numbers_of_basis (rests.Trust s) = about 4 s 0
numbers_of_basis (rests.Dominance a b) = comparing (about 5 0 0) a b
numbers_of_basis (rests.Equality a b) = comparing (about 6 0 0) a b
numbers_of_basis (rests.Writing s o) = about 7 s o
numbers_of_basis (rests.Altering s o) = about 8 s o
numbers_of_basis (rests.Parentless o) = about 9 0 o
numbers_of_basis (rests.Number n) = about 10 0 n
numbers_of_basis (rests.Root o) = about 11 0 o
numbers_of_basis (rests.Holdings s l) = naming (about 12 s 0) l
numbers_of_basis (rests.Relabelling r) = numbers_of_relabelling r
numbers_of_basis (rests.Children o l) = naming (about 14 0 o) l
numbers_of_basis (rests.Place p) = numbers_of_place p
numbers_of_basis (rests.Observers o l) = naming (about 16 0 o) l
numbers_of_basis (rests.Holders o l) = naming (about 17 0 o) l

-- A condition in numbers. (own)
abbrev pub numbers_of_condition : Condition → ConditionNumbers
numbers_of_condition c =
    record (numbers_of_basis c.basis) { reason = number_of_reason c.reason; holds = bit_of c.holds }

-- A label that is compared is one that a program can have: its level and its categories are within the limits. (own)
abbrev pub TermHasRanges : Term → Type 0
TermHasRanges (term.Maximum l) = LabelHasRanges l
TermHasRanges (term.Current l) = LabelHasRanges l
TermHasRanges (term.Security l) = LabelHasRanges l
TermHasRanges (term.Object l o) = LabelHasRanges l
TermHasRanges (term.Integrity i) = LabelHasRanges i
TermHasRanges (term.ObjectIntegrity i o) = LabelHasRanges i
TermHasRanges (term.SubjectIntegrity i s) = LabelHasRanges i

-- The labels of what a condition rests on are within the limits. (own)
abbrev pub BasisHasRanges : Ground → Type 0
BasisHasRanges (rests.Permission s x o) = Unit {0}
BasisHasRanges (rests.Unobserving x) = Unit {0}
BasisHasRanges rests.Inert = Unit {0}
BasisHasRanges (rests.Trust s) = Unit {0}
BasisHasRanges (rests.Dominance a b) = TermHasRanges a × TermHasRanges b
BasisHasRanges (rests.Equality a b) = TermHasRanges a × TermHasRanges b
BasisHasRanges (rests.Writing s o) = Unit {0}
BasisHasRanges (rests.Altering s o) = Unit {0}
BasisHasRanges (rests.Parentless o) = Unit {0}
BasisHasRanges (rests.Number n) = Unit {0}
BasisHasRanges (rests.Root o) = Unit {0}
BasisHasRanges (rests.Holdings s l) = LabelHasRanges l
BasisHasRanges (rests.Relabelling r) = LabelHasRanges r.current × LabelHasRanges r.label × LabelHasRanges r.new
BasisHasRanges (rests.Children o l) = LabelHasRanges l
BasisHasRanges (rests.Place p) = LabelHasRanges p.new × LabelHasRanges p.label
BasisHasRanges (rests.Observers o l) = LabelHasRanges l
BasisHasRanges (rests.Holders o l) = LabelHasRanges l

-- These are the conditions of a request: just those of its rule, in its order, with what each rests on. (own)
pub record AreConditions (v : State) (r : Request) (all : List Condition) : Type 0 where
  pub tests : tests_of all ≡ conditions v r.subject r.action
  pub bases : grounds_of all ≡ grounds v r.subject r.action

-- The remedy of an action: of a get as it is defined, of others none. (own)
abbrev pub HasActionRemedy : State → ℕ → Action → Option Label → Type 0
HasActionRemedy v s (Get x o) l = HasRemedy v s o x l
HasActionRemedy v s (Release x o) l = l ≡ None
HasActionRemedy v s (Give x t o) l = l ≡ None
HasActionRemedy v s (Rescind x t o) l = l ≡ None
HasActionRemedy v s (Create p a i) l = l ≡ None
HasActionRemedy v s (Delete o) l = l ≡ None
HasActionRemedy v s (SubjectLevel a) l = l ≡ None
HasActionRemedy v s (ObjectLevel o a) l = l ≡ None

-- A remedy in numbers, or that there is none. (own)
abbrev pub numbers_of_remedy : Option Label → RemedyNumbers
numbers_of_remedy None = record { there = 0; label = no_label }
numbers_of_remedy (Some l) = record { there = 1; label = numbers_of_label l }

-- What explaining a request leaves: its conditions stand at the front of the rows, how many they are is told, and so is
-- its remedy. (own)
pub record Explains (v : State) (r : Request) (old new : List ConditionNumbers) (count : ℕ) (remedy : RemedyNumbers)
    : Type 0 where
  pub all : List Condition
  pub level : Option Label
  pub conditions : AreConditions v r all
  pub least : HasActionRemedy v r.subject r.action level
  pub rows : new ≡ map numbers_of_condition all ++ drop (length all) old
  pub many : count ≡ length all
  pub told : remedy ≡ numbers_of_remedy level

-- The same of an open monitor and the numbers of a request. (own)
abbrev pub ExplainsIn : Option Opened → Option Request → List ConditionNumbers → List ConditionNumbers → ℕ
    → RemedyNumbers → Type 0
ExplainsIn old request before rows count remedy =
    IsSomeAnd old (λ v. IsSomeAnd request (λ r. Explains (state_of v) r before rows count remedy))

-- How many conditions the rule of a request has. (own)
abbrev pub condition_count : State → Request → ℕ
condition_count v r = length (conditions v r.subject r.action)

-- How many conditions are told. (own)
abbrev pub CountsConditions : Option Opened → Option Request → ℕ → Type 0
CountsConditions old request count =
    IsSomeAnd old (λ v. IsSomeAnd request (λ r. count ≡ condition_count (state_of v) r))

-- What explaining a request of an open monitor returns: that what it names isn't there; else whether there is room for
-- its conditions; or there is no memory. (own)
abbrev pub DefinedStatus : State → Request → ℕ → ℤ → Type 0
DefinedStatus v r room status = (status ≡ (if is_defined v r
    then (if nat_lt room (condition_count v r) then ERANGE else OK) else ENOTFOUND)) ⊎ (status ≡ ENOMEM)

-- What explaining a request returns. (own)
abbrev pub ExplainStatus : Option Opened → Option Request → ℕ → ℤ → Type 0
ExplainStatus None request room status = status ≡ ECLOSED
ExplainStatus (Some v) None room status = status ≡ EINVAL
ExplainStatus (Some v) (Some r) room status = DefinedStatus (state_of v) r room status
