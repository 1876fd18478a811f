-- The first state of some subjects and a root, and sets with triples more.
use Rattle.std.specs.Prelude.{◌≡◌, ◌≤◌, List, [], ◌∷◌, Some}
use Rattle.std.specs.FinSet as set
use Rattle.std.specs.FinMap as map
use Rattle.mls_labels.specs.Label.{Bounds}
use Rattle.mls_tables.specs.Triples.{Triple, TripleSet}
use Rattle.mls_tables.specs.Table.{Table}
use Rattle.mls_state.specs.declared.subject.Subject.{Subject}
use Rattle.mls_state.specs.declared.subject.ObjectLabels.{ObjectLabels}
use Rattle.mls_tree.specs.declared.profile.Profile.{Profile}
use Rattle.mls_state.specs.State.{State}
use Rattle.mls_facts.specs.Numbered.{numbered, places_of}

-- The first state: these subjects, numbered in their order, the root, and nothing permitted or accessed. (own)
abbrev pub first_state : List Subject → ObjectLabels → Bounds → Bounds → Profile → State
first_state subjects root security integrity profile = record {
  accesses = set.empty;
  matrix = set.empty;
  maximum = numbered (λ s. Some s.maximum) subjects;
  current = numbered (λ s. Some s.current) subjects;
  subject_integrity = numbered (λ s. Some s.integrity) subjects;
  trusted = places_of (λ s. s.trusted) subjects;
  object_label = map.insert map.empty 0 root.security;
  object_integrity = map.insert map.empty 0 root.integrity;
  parent = map.empty;
  profile = profile;
  next = 1;
  security = security;
  integrity = integrity;
}

-- A set with some triples more, one after the other. (own)
abbrev pub with_triples : TripleSet → List Triple → TripleSet
with_triples b [] = b
with_triples b (t ∷ ts) = with_triples (set.insert b t) ts

-- A table has the rows and triples that it had, and at least its columns. (own)
pub record SameCells (old new : Table) : Type 0 where
  pub rows : new.subjects ≡ old.subjects
  pub triples : new.triples ≡ old.triples
  pub columns : old.columns ≤ new.columns
