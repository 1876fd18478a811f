-- What subjects may change, as rows.
use Rattle.std.specs.Prelude.{ℕ, List}
use Rattle.mls_labels.specs.Label.{Label}
use Rattle.mls_review.specs.declared.power.Power.{Power}
use Rattle.mls_review.specs.declared.relabeling.Relabeling.{Relabeling}
use Rattle.mls_review.specs.declared.change.Change.{Change}
use Rattle.mls_review.specs.declared.change.Change.TheVariants as change

-- What a subject may change: an object, by a power over it; or a label, to some others. (own)
pub data Granted : Type 0 where
  over : ℕ → Power → ℕ → Granted
  relabels : ℕ → Relabeling → List Label → Granted

-- A change, as contracts see it. (own)
abbrev pub change_view : Change → Granted
change_view (change.Over s power o) = over s power o
change_view (change.Labels s r labels) = relabels s r labels.items
