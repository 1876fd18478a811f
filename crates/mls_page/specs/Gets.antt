-- How many gets of permissions there are, in columns; one that would have only zeros isn't there.
use Rattle.std.specs.Prelude.{ℕ, ◌==◌, List, [], min, if◌then◌else◌}
use Rattle.std.specs.List.{sum_by}
use Rattle.mls_markup.specs.Trees.{Forest, End}
use Rattle.mls_page.specs.Tables.{number_cell}
use Rattle.mls_page.specs.declared.gets.Gets.{Gets}
use Rattle.mls_spans.specs.declared.usage.Usage.{Usage}

-- A count, or the greatest number of 64 bits where it is above that. (own)
abbrev pub capped : ℕ → ℕ
capped n = min n 18446744073709551615

-- How many gets of permissions were granted, and how many denied. (own)
abbrev pub granted_of : List Usage → ℕ
granted_of usages = capped (sum_by (λ u. u.uses.granted) usages)

abbrev pub denied_of : List Usage → ℕ
denied_of usages = capped (sum_by (λ u. u.uses.denied) usages)

-- How many gets of all permissions there are. (own)
abbrev pub gets_of : List Usage → Gets
gets_of usages = record { granted = granted_of usages; denied = denied_of usages }

-- The title of a column of numbers that have this sum, and the cell of one of them. (own)
abbrev pub titled : List ℕ → ℕ → List ℕ
titled title sum = if sum == 0 then [] else title

abbrev pub number_where : ℕ → ℕ → Forest
number_where sum number = if sum == 0 then End else number_cell number
