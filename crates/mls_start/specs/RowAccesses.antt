-- What is looked at of the rows of a start to tell whether an access is secure: labels by the places of their rows.
use Rattle.std.specs.Prelude.{Bool, ◌&&◌, ◌||◌, List, slice_get, Some}
use Rattle.std.specs.FinSet as set
use Rattle.std.specs.List.{list_all}
use Rattle.mls_facts.specs.Numbered.{holds_of}
use Rattle.mls_tables.specs.Triples.{Triple, TripleSet, triple_cmp}
use Rattle.mls_tables.specs.declared.mode.Mode.{Mode}
use Rattle.mls_state.specs.declared.subject.Subject.{Subject}
use Rattle.mls_state.specs.declared.subject.ObjectLabels.{ObjectLabels}
use Rattle.mls_state.specs.Properties.{simple_between, star_between, integrity_between}

-- A subject may access an object of these labels by simple security, by star and by integrity. (own)
abbrev pub labels_permit : Subject → ObjectLabels → Mode → Bool
labels_permit s o x =
    simple_between (Some s.maximum) (Some o.security) x
    && ((s.trusted || star_between (Some s.current) (Some o.security) x)
    && integrity_between (Some s.integrity) (Some o.integrity) x)

-- The labels of a triple's subject and object, each at the place of its number, permit it; both are there. (own)
abbrev pub rows_permit : List Subject → List ObjectLabels → Triple → Bool
rows_permit subjects labels t =
    holds_of (λ s. holds_of (λ o. labels_permit s o t.2) (slice_get labels t.1)) (slice_get subjects t.0)

-- A triple is one of the cells, and its labels permit it. (own)
abbrev pub cells_permit : TripleSet → List Subject → List ObjectLabels → Triple → Bool
cells_permit cells subjects labels t = set.contains cells t && rows_permit subjects labels t

-- Each of a list of accesses is one of a list of cells, and its labels permit it. (own)
abbrev pub all_permitted : List Triple → List Subject → List ObjectLabels → List Triple → Bool
all_permitted cells subjects labels accesses =
    list_all (cells_permit (set.from_list {R = triple_cmp} cells) subjects labels) accesses
