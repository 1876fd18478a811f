-- What is asked of labels alone: dominance, and accesses to what isn't an object.
use Rattle.std.specs.Prelude.{◌≡◌, ℕ, ℤ, pos, Bool, ◌&&◌, List, drop, Option, Some, None, IsSomeAnd, if◌then◌else◌}
use Rattle.std.specs.FinMap as map
use Rattle.mls_labels.specs.Label.{Label, dominates, has_label}
use Rattle.mls_requests.specs.declared.action.Action.TheVariants.{Get}
use Rattle.mls_requests.specs.declared.reason.Reason.{Reason}
use Rattle.mls_requests.specs.declared.reply.Reply.{Reply}
use Rattle.mls_requests.specs.declared.reply.Reply.TheVariants.{Yes, Undefined}
use Rattle.mls_requests.specs.declared.request.Request.{Request}
use Rattle.mls_state.specs.State.{State, is_subject}
use Rattle.mls_rules.specs.Rules.{conditions, first_failing, reply_unless}
use Rattle.mls_start_text.specs.Each.{having}
use Rattle.mls_c.specs.Answers.{number_of_reply}
use Rattle.mls_c.specs.Labels.{label_of}
use Rattle.mls_c.specs.Opened.{Opened, state_of}
use Rattle.mls_c.specs.Requests.{mode_at}
use Rattle.mls_c.specs.declared.label.LabelNumbers.{LabelNumbers}
use Rattle.mls_c.specs.declared.label_access.LabelAccess.{LabelAccess}
use Rattle.mls_c.specs.declared.status.TheConstants.{OK, ECLOSED, EINVAL}

-- Whether a label dominates another, as 1 or 0: 0 too where one of them is none. (own)
abbrev pub dominance_number : Option Label → Option Label → ℤ
dominance_number None b = pos 0
dominance_number (Some a) None = pos 0
dominance_number (Some a) (Some b) = if dominates a b then pos 1 else pos 0

-- The access that numbers ask for, where they are a mode's and labels'. (own)
abbrev pub access_of : ℕ → ℕ → LabelNumbers → LabelNumbers → Option LabelAccess
access_of s mode security integrity =
    having (mode_at mode) (λ x. having (label_of security) (λ l. having (label_of integrity) (λ i.
    Some (record { subject = s; mode = x; security = l; integrity = i }))))

-- An object has the labels of an access. (own)
pub record HasLabels (v : State) (o : ℕ) (a : LabelAccess) : Type 0 where
  pub security : map.get v.object_label o ≡ Some a.security
  pub integrity : map.get v.object_integrity o ≡ Some a.integrity

-- The request for an object in the mode of an access. (own)
abbrev pub get_of : LabelAccess → ℕ → Request
get_of a o = record { subject = a.subject; action = Get a.mode o }

-- The state where the object of number 0 has these labels. (own)
abbrev pub labelled : State → Label → Label → State
labelled v l i = record v {
  object_label = map.insert v.object_label 0 l;
  object_integrity = map.insert v.object_integrity 0 i;
}

-- The conditions of an access to what has these labels: those of a get of an object that has them, but the first, that
-- the matrix permits it. (own, after MTR-2997's rule to get access)
abbrev pub label_conditions : State → LabelAccess → List (Reason × Bool)
label_conditions v a = drop 1 (conditions (labelled v a.security a.integrity) a.subject (Get a.mode 0))

-- Whether the subject is known and both labels are within the bounds. (own)
abbrev pub has_bounds : State → LabelAccess → Bool
has_bounds v a = is_subject v a.subject && (has_label v.security a.security && has_label v.integrity a.integrity)

-- What is said of an access to what has these labels: undefined where what is named isn't there, else a denial with the
-- first condition that fails, else the grant. (own, after MTR-2997, decisions yes, no and ?)
abbrev pub label_reply : State → LabelAccess → Reply
label_reply v a = if has_bounds v a then reply_unless (first_failing (label_conditions v a)) Yes else Undefined

-- What deciding by labels returns where the handle is open: whether the numbers are no mode's or no labels'. (own)
abbrev pub access_status : Option LabelAccess → ℤ
access_status None = EINVAL
access_status (Some a) = OK

-- What deciding by labels returns: whether the handle is closed, or the numbers are no mode's or no labels'. (own)
abbrev pub label_status : Option Opened → Option LabelAccess → ℤ
label_status None access = ECLOSED
label_status (Some v) access = access_status access

-- The number of what is said of an access to what has these labels. (own)
abbrev pub IsLabelReply : State → Option LabelAccess → ℕ → Type 0
IsLabelReply v access reply = IsSomeAnd access (λ a. reply ≡ number_of_reply (label_reply v a))

-- The same in the state of an open monitor. (own)
abbrev pub HasLabelReply : Option Opened → Option LabelAccess → ℕ → Type 0
HasLabelReply old access reply = IsSomeAnd old (λ v. IsLabelReply (state_of v) access reply)
