-- What becomes of a handle whose open monitor is lent.
use Rattle.std.specs.Prelude.{Some}
use Rattle.std.specs.Borrow.{Lends, MutBor, Fml}
use Rattle.mls_c.specs.Opened.{Opened}
use Rattle.mls_c.specs.declared.kept.Kept.{Kept}
use Rattle.mls_c.specs.contracts.kept.Kept as kept
use Rattle.mls_c.specs.contracts.opened.Opened as opened

-- The same address with another open monitor there. (own)
abbrev pub with_opened : Kept → Opened → Kept
with_opened k o = record { at = k.at; value = Some o }

-- What C keeps ends with the last open monitor behind a `&mut`. (own)
abbrev pub lends_opened : MutBor Kept → MutBor Opened → Fml
lends_opened k r = Lends kept.the_row opened.the_row k r (with_opened k.now)
