-- The remedy of a get: the least current label with which it is granted.
use Rattle.std.specs.Prelude.{◌≡◌, ℕ, ◌||◌, Bool, IsTrue, Option, Some, None, nat_lt}
use Rattle.std.specs.FinMap as map
use Rattle.std.specs.FinSet as set
use Rattle.mls_facts.specs.Each.{each}
use Rattle.mls_labels.specs.Label.{Label, dominates}
use Rattle.mls_labels.specs.declared.limits.TheConstants.{MAX_CATEGORIES}
use Rattle.mls_tables.specs.declared.mode.Mode.{Mode}
use Rattle.mls_tables.specs.declared.mode.Mode.TheVariants.{Read, Write}
use Rattle.mls_requests.specs.declared.action.Action.TheVariants.{Get, SubjectLevel}
use Rattle.mls_requests.specs.declared.request.Request.{Request}
use Rattle.mls_requests.specs.declared.reply.Reply.TheVariants.{Yes}
use Rattle.mls_state.specs.State.{State, is_above}
use Rattle.mls_rules.specs.Rules.{reply, after}

-- The request of a subject for this current label. (own)
abbrev pub level_request : ℕ → Label → Request
level_request s l = record { subject = s; action = SubjectLevel l }

-- The request of a subject for an access. (own)
abbrev pub get_request : ℕ → ℕ → Mode → Request
get_request s o x = record { subject = s; action = Get x o }

-- A label whose categories have numbers below 256, as all labels that a program can have do. (own)
abbrev pub HasCategories : Label → Type 0
HasCategories l = IsTrue (each l.categories (λ n. nat_lt n MAX_CATEGORIES))

-- A label helps a subject to a get: the subject is granted it as its current label, and after that the get. (own, after
-- MTR-2997's rules to change levels and to get access)
pub record Helps (v : State) (s o : ℕ) (x : Mode) (l : Label) : Type 0 where
  pub level : reply v (level_request s l) ≡ Yes
  pub get : reply (after v (level_request s l)) (get_request s o x) ≡ Yes

-- The remedy of a get: a label that helps, and that each other one dominates. (own)
pub record IsRemedy (v : State) (s o : ℕ) (x : Mode) (l : Label) : Type 0 where
  pub helps : Helps v s o x l
  pub least : (m : Label) → HasCategories m → Helps v s o x m → IsTrue (dominates m l)

-- What remedy a get has: that one, or none where no label helps. (own)
abbrev pub HasRemedy : State → ℕ → ℕ → Mode → Option Label → Type 0
HasRemedy v s o x None = (m : Label) → HasCategories m → Helps v s o x m → ⊥
HasRemedy v s o x (Some l) = IsRemedy v s o x l

-- Whether a subject observes an object: it holds read or write. (MTR-2997, access attributes)
abbrev pub is_observing : State → ℕ → ℕ → Bool
is_observing v s o = set.contains v.accesses (s, o, Read) || set.contains v.accesses (s, o, Write)

-- A label dominates those of all objects that a subject observes. (MTR-2997, *-property)
abbrev pub Covers : State → ℕ → Label → Type 0
Covers v s l = (o : ℕ) → IsTrue (is_observing v s o) → IsTrue (is_above (Some l) (map.get v.object_label o))
