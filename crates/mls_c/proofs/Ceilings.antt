-- What a subject's ceiling says of the labels that star lets it access.
use Rattle.std.specs.Prelude.{◌≡◌, ℕ, true, IsTrue, Some, refl}
use Rattle.std.specs.FinMap as map
use Rattle.std.proofs.lemmas.Bool.{and_parts}
use Rattle.mls_labels.specs.Label.{Label, dominates}
use Rattle.mls_labels.proofs.Laws.{transitive}
use Rattle.mls_tables.specs.declared.mode.Mode.{Mode}
use Rattle.mls_tables.specs.declared.mode.Mode.TheVariants.{Execute, Read, Append, Write}
use Rattle.mls_state.specs.State.{State, is_subject}
use Rattle.mls_state.specs.Properties.{IsSecure, simple_between, star_between}

-- what star grants below a maximum that dominates the current label meets simple security
pub star_is_simple : (maximum current label : Label) (x : Mode) → IsTrue (dominates maximum current)
    → star_between (Some current) (Some label) x ≡ true → simple_between (Some maximum) (Some label) x ≡ true
star_is_simple m c l Execute ceiling star = refl
star_is_simple m c l Append ceiling star = refl
star_is_simple m c l Read ceiling star = transitive m c l ceiling star
star_is_simple m c l Write ceiling star =
    transitive m c l ceiling (and_parts (dominates l c) (dominates c l) star).1

-- the ceiling of a known subject of a secure state
pub ceiling_of : (v : State) (s : ℕ) (maximum current : Label) → IsSecure v → IsTrue (is_subject v s)
    → map.get v.maximum s ≡ Some maximum → map.get v.current s ≡ Some current → IsTrue (dominates maximum current)
ceiling_of v s m c secure known top now = let low = secure.ceiling s known in rw (top, now) at low
