-- When what is written of a request by the names of a start is read as that request.
use Rattle.std.specs.Prelude.{◌≡◌, ℕ, false, IsTrue, List}
use Rattle.std.specs.List.{list_all}
use Rattle.mls_labels.specs.Label.{Label, has_label}
use Rattle.mls_labels.specs.Names.{is_name, has_twice}
use Rattle.mls_labels.specs.Scheme.{Scheme, bounds_of}
use Rattle.mls_lines.specs.Names.{Names}
use Rattle.mls_requests.specs.declared.action.Action.{Action}
use Rattle.mls_requests.specs.declared.action.Action.TheVariants as action

-- Each is a NAME, and none stands twice. (own)
pub record AreNames (names : List (List ℕ)) : Type 0 where
  pub each : IsTrue (list_all is_name names)
  pub once : has_twice names ≡ false

-- The subjects have such names, and the objects have, as those of each start file have. (own)
pub record HasNames (names : Names) : Type 0 where
  pub subjects : AreNames names.subjects
  pub objects : AreNames names.objects

-- A label is within the bounds of a scheme. (own)
abbrev pub IsOf : Scheme → Label → Type 0
IsOf scheme l = IsTrue (has_label (bounds_of scheme) l)

-- The labels that an action names are within the bounds of their schemes. (own)
abbrev pub HasSchemeLabels : Names → Action → Type 0
HasSchemeLabels names (action.Get x o) = Unit {0}
HasSchemeLabels names (action.Release x o) = Unit {0}
HasSchemeLabels names (action.Give x s o) = Unit {0}
HasSchemeLabels names (action.Rescind x s o) = Unit {0}
HasSchemeLabels names (action.Create p l i) = IsOf names.security l × IsOf names.integrity i
HasSchemeLabels names (action.Delete o) = Unit {0}
HasSchemeLabels names (action.SubjectLevel l) = IsOf names.security l
HasSchemeLabels names (action.ObjectLevel o l) = IsOf names.security l
