-- System Z: a machine that lowers every label to the bottom and then grants each access that it is asked for. (McLean
-- 1987)
use Rattle.std.specs.Prelude.{ℕ, ◌&&◌, List, [], ◌∷◌, if◌then◌else◌, slice_get, take, Some, map, ◌≡◌}
use Rattle.std.specs.Ordering.{nat_cmp}
use Rattle.std.specs.FinSet as set
use Rattle.std.specs.FinMap as map
use Rattle.std.specs.FinMap.{FinMap}
use Rattle.mls_labels.specs.Label.{Label}
use Rattle.mls_tables.specs.Triples.{Triple}
use Rattle.mls_requests.specs.declared.action.Action.{Action}
use Rattle.mls_requests.specs.declared.action.Action.TheVariants.{Get, Release, Give, Rescind, Create, Delete}
use Rattle.mls_requests.specs.declared.action.Action.TheVariants.{SubjectLevel, ObjectLevel}
use Rattle.mls_requests.specs.declared.request.Request.{Request}
use Rattle.mls_requests.specs.declared.reply.Reply.{Reply}
use Rattle.mls_requests.specs.declared.reply.Reply.TheVariants.{Yes, Undefined}
use Rattle.mls_requests.specs.declared.entry.Entry.{Entry}
use Rattle.mls_state.specs.State.{State, is_subject, is_active}
use Rattle.mls_rules.specs.Rules.{reply, after}

-- The bottom: the label that every label dominates. (own)
abbrev pub bottom : Label
bottom = record { level = 0; categories = set.empty }

-- The table of labels that has the bottom at each of these numbers. (own)
abbrev pub bottoms : List ℕ → FinMap nat_cmp Label
bottoms [] = map.empty
bottoms (k ∷ ks) = map.insert (bottoms ks) k bottom

-- A state with every label lowered: each label of a known subject and of an active object is the bottom. (McLean 1987)
abbrev pub with_labels_lowered : State → State
with_labels_lowered v = record v {
  maximum = bottoms (map.keys v.maximum);
  current = bottoms (map.keys v.maximum);
  subject_integrity = bottoms (map.keys v.maximum);
  object_label = bottoms (map.keys v.object_label);
  object_integrity = bottoms (map.keys v.object_label);
}

-- A state with an access more, which the matrix permits. (own)
abbrev pub with_access : State → Triple → State
with_access v t = record v { accesses = set.insert v.accesses t; matrix = set.insert v.matrix t }

-- What System Z answers: yes to each access that is asked for, where subject and object are there; to all else it
-- answers as the rules do. (McLean 1987)
abbrev pub z_answer : State → ℕ → Action → Reply
z_answer v s (Get x o) = if is_subject v s && is_active v o then Yes else Undefined
z_answer v s (Release x o) = reply v (record { subject = s; action = Release x o })
z_answer v s (Give x t o) = reply v (record { subject = s; action = Give x t o })
z_answer v s (Rescind x t o) = reply v (record { subject = s; action = Rescind x t o })
z_answer v s (Create p l i) = reply v (record { subject = s; action = Create p l i })
z_answer v s (Delete o) = reply v (record { subject = s; action = Delete o })
z_answer v s (SubjectLevel l) = reply v (record { subject = s; action = SubjectLevel l })
z_answer v s (ObjectLevel o l) = reply v (record { subject = s; action = ObjectLevel o l })

-- What System Z makes of a state: where an access is asked for, every label is lowered and the access is held; all else
-- changes it as the rules do. (McLean 1987)
abbrev pub z_change : State → ℕ → Action → State
z_change v s (Get x o) = if is_subject v s && is_active v o then with_access (with_labels_lowered v) (s, o, x) else v
z_change v s (Release x o) = after v (record { subject = s; action = Release x o })
z_change v s (Give x t o) = after v (record { subject = s; action = Give x t o })
z_change v s (Rescind x t o) = after v (record { subject = s; action = Rescind x t o })
z_change v s (Create p l i) = after v (record { subject = s; action = Create p l i })
z_change v s (Delete o) = after v (record { subject = s; action = Delete o })
z_change v s (SubjectLevel l) = after v (record { subject = s; action = SubjectLevel l })
z_change v s (ObjectLevel o l) = after v (record { subject = s; action = ObjectLevel o l })

-- System Z's reply to a request. (McLean 1987)
abbrev pub z_reply : State → Request → Reply
z_reply v r = z_answer v r.subject r.action

-- System Z's state after a request. (McLean 1987)
abbrev pub z_after : State → Request → State
z_after v r = z_change v r.subject r.action

-- System Z's state after some requests, in their order. (McLean 1987)
abbrev pub z_run : State → List Request → State
z_run v [] = v
z_run v (r ∷ requests) = z_run (z_after v r) requests

-- A journal shows System Z's replies: each entry has the reply that System Z gives in the state that it comes to by the
-- requests before. (own)
abbrev pub ShowsSystemZ : State → List Entry → Type 0
ShowsSystemZ v entries = (n : ℕ) (e : Entry) → slice_get entries n ≡ Some e
    → e.reply ≡ z_reply (z_run v (map (λ (f : Entry). f.request) (take n entries))) e.request
