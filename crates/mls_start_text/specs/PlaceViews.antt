-- What contracts see of triples by places.
use Rattle.std.specs.Prelude.{map}
use Rattle.mls_tables.specs.Triples.{Triple}
use Rattle.mls_start_text.specs.Placing.{Placed}
use Rattle.mls_start_text.specs.declared.file_places.FilePlaces.{FilePlaces}
use Rattle.mls_start_text.specs.declared.places.PlacedTriple.{PlacedTriple}

-- A triple, whose places are the numbers of its subject and its object. (own)
abbrev pub triple_view : PlacedTriple → Triple
triple_view t = (t.subject, t.object, t.mode)

-- The profile and the triples of a file. (own)
abbrev pub placed_view : FilePlaces → Placed
placed_view p = record {
  profile = p.profile;
  cells = map triple_view p.cells.items;
  accesses = map triple_view p.accesses.items;
}
