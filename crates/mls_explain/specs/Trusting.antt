-- What rests on trust in the subject that asks: what would be so if it weren't trusted.
use Rattle.std.specs.Prelude.{ℕ, Bool, true, false, not, ◌&&◌, ◌==◌, List, map, Some}
use Rattle.std.specs.FinMap as table
use Rattle.std.specs.FinSet as set
use Rattle.mls_labels.specs.Label.{Label}
use Rattle.mls_requests.specs.declared.reply.Reply.{Reply}
use Rattle.mls_requests.specs.declared.reply.Reply.TheVariants.{Yes, Created, No, Undefined}
use Rattle.mls_requests.specs.declared.request.Request.{Request}
use Rattle.mls_state.specs.State.{State, is_above}
use Rattle.mls_rules.specs.Rules.{reply, writes_parent}
use Rattle.mls_explain.specs.declared.condition.Condition.{Condition}
use Rattle.mls_explain.specs.declared.judgement.Judgement.{Judgement}

-- The same state, but for the trust in a subject. (own)
abbrev pub untrusted : State → ℕ → State
untrusted v s = record v { trusted = set.remove v.trusted s }

-- Whether a subject without trust may give an object a label: the object isn't the root, the subject writes its parent,
-- and both the subject's current label and the new one dominate the object's. (own, after MTR-2997's rules to change
-- levels)
abbrev pub may_relabel_alone : State → ℕ → ℕ → Label → Bool
may_relabel_alone v s o l =
    not (o == 0)
    && (writes_parent v s (table.get v.parent o)
    && (is_above (table.get v.current s) (table.get v.object_label o)
    && is_above (Some l) (table.get v.object_label o)))

-- The conditions of judgements. (own)
abbrev pub conditions_of : List Judgement → List Condition
conditions_of judged = map (λ j. j.condition) judged

-- The same conditions without trust in the subject that asks. (own)
abbrev pub plain_of : List Judgement → List Condition
plain_of judged = map (λ j. j.plain) judged

-- Whether a reply grants. (MTR-2997, decision yes)
abbrev pub grants : Reply → Bool
grants Yes = true
grants (Created o) = true
grants (No reason) = false
grants Undefined = false

-- Whether a request is granted, and wouldn't be if the subject that asks weren't trusted. (own)
abbrev pub uses_trust : State → Request → Bool
uses_trust v r = grants (reply v r) && not (grants (reply (untrusted v r.subject) r))
