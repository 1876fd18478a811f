-- What one comes by, triple by triple, over the indexes of a set of accesses.
use Rattle.std.specs.Prelude.{◌≡◌, ℕ, if◌then◌else◌, List, [], ◌∷◌, filter}
use Rattle.std.specs.FinSet as set
use Rattle.std.specs.List.{range_with_len, flat_map, count_by}
use Rattle.mls_tables.specs.declared.mode.Mode.TheVariants.{Execute, Read, Append, Write}
use Rattle.mls_tables.specs.Triples.{Triple, TripleSet, is_triple}
use Rattle.mls_tables.specs.Held.{objects_of, subjects_of}

-- The accesses of a subject to an object, in the order of modes. (own)
abbrev pub accesses_at : TripleSet → ℕ → ℕ → List Triple
accesses_at b s o = filter (set.contains b) ((s, o, Execute) ∷ (s, o, Read) ∷ (s, o, Append) ∷ (s, o, Write) ∷ [])

-- The accesses that one comes by over the objects of each subject below a number. (own)
abbrev pub by_subject : TripleSet → ℕ → List Triple
by_subject b n = flat_map (λ s. flat_map (λ o. accesses_at b s o) (objects_of b s)) (range_with_len 0 n)

-- The accesses that one comes by over the subjects of each object below a number. (own)
abbrev pub by_object : TripleSet → ℕ → List Triple
by_object b m = flat_map (λ o. flat_map (λ s. accesses_at b s o) (subjects_of b o)) (range_with_len 0 m)

-- The triples that one comes by over the objects below a number of each subject below another. (own)
abbrev pub each_below : TripleSet → ℕ → ℕ → List Triple
each_below b n m = flat_map (λ s. flat_map (λ o. accesses_at b s o) (range_with_len 0 m)) (range_with_len 0 n)

-- How often a triple stands in a list. (own)
abbrev pub times : Triple → List Triple → ℕ
times t ts = count_by (is_triple t) ts

-- Each triple of a set stands in a list once, and no other triple does. (own)
abbrev pub HasEachOnce : TripleSet → List Triple → Type 0
HasEachOnce b ts = (t : Triple) → times t ts ≡ (if set.contains b t then 1 else 0)
