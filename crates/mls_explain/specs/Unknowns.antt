-- What a request names and isn't there.
use Rattle.std.specs.Prelude.{ℕ, ◌==◌, List, [], ◌∷◌, ◌++◌, if◌then◌else◌}
use Rattle.mls_labels.specs.Label.{Label, has_label}
use Rattle.mls_requests.specs.declared.action.Action.{Action}
use Rattle.mls_requests.specs.declared.action.Action.TheVariants as action
use Rattle.mls_requests.specs.declared.request.Request.{Request}
use Rattle.mls_state.specs.State.{State, is_subject, is_active}
use Rattle.mls_explain.specs.declared.unknown.Unknown.{Unknown}
use Rattle.mls_explain.specs.declared.unknown.Unknown.TheVariants.{Subject, Object, Security, Integrity}

-- A subject, where it isn't known. (own)
abbrev pub unknown_subject : State → ℕ → List Unknown
unknown_subject v s = if is_subject v s then [] else Subject s ∷ []

-- A subject that isn't the caller, where it isn't known. (own)
abbrev pub unknown_other : State → ℕ → ℕ → List Unknown
unknown_other v s t = if t == s then [] else unknown_subject v t

-- An object, where it isn't active. (own)
abbrev pub unknown_object : State → ℕ → List Unknown
unknown_object v o = if is_active v o then [] else Object o ∷ []

-- A security label, where it isn't within the bounds. (own)
abbrev pub unknown_security : State → Label → List Unknown
unknown_security v l = if has_label v.security l then [] else Security l ∷ []

-- An integrity label, where it isn't within the bounds. (own)
abbrev pub unknown_integrity : State → Label → List Unknown
unknown_integrity v l = if has_label v.integrity l then [] else Integrity l ∷ []

-- What an action of a caller names and isn't there, in its order; the caller isn't named again. (own)
abbrev pub unknown_named : State → ℕ → Action → List Unknown
unknown_named v s (action.Get x o) = unknown_object v o
unknown_named v s (action.Release x o) = unknown_object v o
unknown_named v s (action.Give x t o) = unknown_other v s t ++ unknown_object v o
unknown_named v s (action.Rescind x t o) = unknown_other v s t ++ unknown_object v o
unknown_named v s (action.Create p l i) = unknown_object v p ++ (unknown_security v l ++ unknown_integrity v i)
unknown_named v s (action.Delete o) = unknown_object v o
unknown_named v s (action.SubjectLevel l) = unknown_security v l
unknown_named v s (action.ObjectLevel o l) = unknown_object v o ++ unknown_security v l

-- What a request names and isn't there, each once, in the order of the request. (own)
abbrev pub unknowns : State → Request → List Unknown
unknowns v r = unknown_subject v r.subject ++ unknown_named v r.subject r.action
