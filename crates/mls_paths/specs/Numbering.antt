-- Numbers of places.
use Rattle.std.specs.Prelude.{ℕ, ◌-◌, nat_lt, if◌then◌else◌}
use Rattle.mls_tables.specs.declared.limits.TheConstants.{MAX_SUBJECTS}
use Rattle.mls_flows.specs.declared.place.Place.{Place}
use Rattle.mls_flows.specs.declared.place.Place.TheVariants.{Subject, Object}

-- The place of a number: of those of subjects that subject, behind them an object. (own)
abbrev pub place_of : ℕ → Place
place_of n = if nat_lt n MAX_SUBJECTS then Subject n else Object (n - MAX_SUBJECTS)
