-- What becomes of a handle whose session is lent.
use Rattle.std.specs.Prelude.{Some}
use Rattle.std.specs.Borrow.{Lends, MutBor, Fml}
use Rattle.mls_c.specs.Offices.{Place}
use Rattle.mls_c.specs.declared.kept_place.KeptPlace.{KeptPlace}
use Rattle.mls_c.specs.contracts.kept_place.KeptPlace as kept
use Rattle.mls_c.specs.contracts.place.Place as place

-- The same address with another session there. (own)
abbrev pub with_place : KeptPlace → Place → KeptPlace
with_place k o = record { at = k.at; value = Some o }

-- What C keeps ends with the last session behind a `&mut`. (own)
abbrev pub lends_place : MutBor KeptPlace → MutBor Place → Fml
lends_place k r = Lends kept.the_row place.the_row k r (with_place k.now)
