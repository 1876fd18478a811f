-- The entries of sessions in a journal.
use Rattle.std.specs.Prelude.{◌≡◌, ℕ, ◌<◌, ◌==◌, if◌then◌else◌, List, [], ◌∷◌}
use Rattle.mls_requests.specs.declared.entry.Entry.{Entry}

-- The entries of session k, in order. (own)
abbrev pub of_session : ℕ → List Entry → List Entry
of_session k [] = []
of_session k (e ∷ entries) = if e.session == k then e ∷ of_session k entries else of_session k entries

-- Each entry's session has a number less than n. (own)
abbrev pub AllBelow : ℕ → List Entry → Type 0
AllBelow n [] = Unit {0}
AllBelow n (e ∷ entries) = (e.session < n) × AllBelow n entries

-- All entries are of session k. (own)
abbrev pub AllOf : ℕ → List Entry → Type 0
AllOf k [] = Unit {0}
AllOf k (e ∷ entries) = (e.session ≡ k) × AllOf k entries
