-- Batches: accesses of one subject in one mode, by many pairs of labels, that are decided in one state.
use Rattle.std.specs.Prelude.{◌≡◌, ℕ, ℤ, Bool, ◌&&◌, ◌||◌, List, [], ◌∷◌, option_map, is_some}
use Rattle.std.specs.Prelude.{Option, Some, None, IfSome, IsSomeAnd, if◌then◌else◌}
use Rattle.std.specs.FinMap as map
use Rattle.std.specs.FinSet as set
use Rattle.std.specs.List.{AllZip, list_all}
use Rattle.mls_labels.specs.Label.{Bounds, has_label}
use Rattle.mls_requests.specs.declared.reason.Reason.{Reason}
use Rattle.mls_requests.specs.declared.reason.Reason.TheVariants.{Simple, Star, Integrity}
use Rattle.mls_requests.specs.declared.reply.Reply.{Reply}
use Rattle.mls_requests.specs.declared.reply.Reply.TheVariants.{Yes, Undefined}
use Rattle.mls_state.specs.State.{State, is_subject}
use Rattle.mls_state.specs.Properties.{simple_between, star_between, integrity_between}
use Rattle.mls_state.specs.declared.subject.Subject.{Subject}
use Rattle.mls_rules.specs.Rules.{first_failing, reply_unless}
use Rattle.mls_c.specs.Answers.{number_of_reply}
use Rattle.mls_c.specs.LabelAsking.{IsLabelReply, access_of}
use Rattle.mls_c.specs.Labels.{label_of}
use Rattle.mls_c.specs.Opened.{Opened, state_of}
use Rattle.mls_c.specs.Requests.{mode_at}
use Rattle.mls_c.specs.declared.batch.LabelPair.{LabelPair}
use Rattle.mls_c.specs.declared.label_access.LabelAccess.{LabelAccess}
use Rattle.mls_c.specs.declared.standing.Standing.{Standing}
use Rattle.mls_c.specs.declared.status.TheConstants.{OK, ECLOSED, EINVAL}

-- Whether the numbers of a pair are labels'. (own)
abbrev pub are_labels : LabelPair → Bool
are_labels p = is_some (label_of p.security) && is_some (label_of p.integrity)

-- What deciding a batch returns where the handle is open: whether the number is no mode's, or some pair's are no
-- labels'. (own)
abbrev pub pairs_status : ℕ → List LabelPair → ℤ
pairs_status mode pairs = if is_some (mode_at mode) && list_all are_labels pairs then OK else EINVAL

-- What deciding a batch returns: whether the handle is closed, or the numbers are no mode's or no labels'. (own)
abbrev pub batch_status : Option Opened → ℕ → List LabelPair → ℤ
batch_status None mode pairs = ECLOSED
batch_status (Some v) mode pairs = pairs_status mode pairs

-- Each reply is the number of what is said in this state of the pair in its place: what deciding that pair alone gives
-- there. (own)
abbrev pub AreLabelReplies : State → ℕ → ℕ → List LabelPair → List ℕ → Type 0
AreLabelReplies v s mode pairs replies =
    AllZip (λ p reply. IsLabelReply v (access_of s mode p.security p.integrity) reply) pairs replies

-- The same in the state of an open monitor. (own)
abbrev pub HasLabelReplies : Option Opened → ℕ → ℕ → List LabelPair → List ℕ → Type 0
HasLabelReplies old s mode pairs replies = IsSomeAnd old (λ v. AreLabelReplies (state_of v) s mode pairs replies)

-- This is what a state has of a subject. (own)
pub record IsSubjectAs (v : State) (s : ℕ) (p : Subject) : Type 0 where
  pub maximum : map.get v.maximum s ≡ Some p.maximum
  pub current : map.get v.current s ≡ Some p.current
  pub integrity : map.get v.subject_integrity s ≡ Some p.integrity
  pub trusted : set.contains v.trusted s ≡ p.trusted

-- This is what a state has of a subject, where that is known, and of the bounds of labels. (own)
pub record Stands (v : State) (s : ℕ) (t : Standing) : Type 0 where
  pub known : is_some t.subject ≡ is_subject v s
  pub subject : IfSome t.subject (IsSubjectAs v s)
  pub security : t.security ≡ v.security
  pub integrity : t.integrity ≡ v.integrity

-- The conditions of an access to what has labels, by what is known of its subject. (own, after MTR-2997's rule to get
-- access)
abbrev pub subject_conditions : Subject → LabelAccess → List (Reason × Bool)
subject_conditions p a =
    (Simple, simple_between (Some p.maximum) (Some a.security) a.mode)
    ∷ (Star, p.trusted || star_between (Some p.current) (Some a.security) a.mode)
    ∷ (Integrity, integrity_between (Some p.integrity) (Some a.integrity) a.mode)
    ∷ []

-- What is said of an access by what is known of its subject, if it is known, and by the bounds of labels. (own)
abbrev pub reply_by : Option Subject → Bounds → Bounds → LabelAccess → Reply
reply_by None security integrity a = Undefined
reply_by (Some p) security integrity a =
    if has_label security a.security && has_label integrity a.integrity
    then reply_unless (first_failing (subject_conditions p a)) Yes else Undefined

-- What is said of an access by a standing. (own)
abbrev pub standing_reply : Standing → LabelAccess → Reply
standing_reply t a = reply_by t.subject t.security t.integrity a

-- The number of what a standing says of a pair, where the numbers are a mode's and labels'. (own)
abbrev pub pair_number : Standing → ℕ → ℕ → LabelPair → Option ℕ
pair_number t s mode p =
    option_map (λ a. number_of_reply (standing_reply t a)) (access_of s mode p.security p.integrity)
