-- What a change of levels demands of accesses, and which are in its way.
use Rattle.std.specs.Prelude.{ℕ, Bool, not, List, filter}
use Rattle.std.specs.List.{flat_map}
use Rattle.mls_tables.specs.Held.{objects_of, subjects_of}
use Rattle.mls_tables.specs.Once.{accesses_at}
use Rattle.mls_tables.specs.Triples.{Triple, TripleSet}
use Rattle.mls_state.specs.State.{State}
use Rattle.mls_state.specs.Properties.{simple_holds, star_holds}
use Rattle.mls_state.specs.Changes.{with_current, with_object_label}
use Rattle.mls_explain.specs.declared.demand.Demand.{Demand}
use Rattle.mls_explain.specs.declared.demand.Demand.TheVariants.{StarAtLevel, SimpleAtLabel, StarAtLabel}

-- Whether an access meets what is demanded of it: star with another current label of a subject, or simple security or
-- star with another label of an object. (MTR-2997, rules to change levels)
abbrev pub meets : Demand → State → Triple → Bool
meets (StarAtLevel s l) v t = star_holds (with_current v s l) t
meets (SimpleAtLabel o l) v t = simple_holds (with_object_label v o l) t
meets (StarAtLabel o l) v t = star_holds (with_object_label v o l) t

-- The accesses of a subject to an object that don't meet the demand, in the order of modes. (own)
abbrev pub failing_at : Demand → State → ℕ → ℕ → List Triple
failing_at d v s o = filter (λ t. not (meets d v t)) (accesses_at v.accesses s o)

-- The accesses of a subject that don't meet the demand, in the order of objects and modes. (own)
abbrev pub failing_of_subject : Demand → State → ℕ → List Triple
failing_of_subject d v s = flat_map (failing_at d v s) (objects_of v.accesses s)

-- The accesses to an object that don't meet the demand, in the order of subjects and modes. (own)
abbrev pub failing_of_object : Demand → State → ℕ → List Triple
failing_of_object d v o = flat_map (λ s. failing_at d v s o) (subjects_of v.accesses o)
