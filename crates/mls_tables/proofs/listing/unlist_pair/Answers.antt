use Rattle.std.proofs.Common.{◌≡◌, ◌==◌, ◌&&◌, ◌||◌, false, not, sym, ap}
use Rattle.std.proofs.lemmas.Bool.{not-true}
use Rattle.mls_tables.specs.Held.{is_held}
use Rattle.mls_tables.proofs.Indexes.{Indexes-same}
use Rattle.mls_tables.proofs.listing.unlist_pair.Goals as goal

pub returns-then-is_free-clause-listed : goal.returns-then-is_free-clause-listed
returns-then-is_free-clause-listed g c p h =
    let none : is_held c.args.matrix.now.triples c.args.s c.args.o ≡ false = not-true _ (sym c.if-is_free.ensures) in
    Indexes-same _ _ c.unlink.new.self.objects.lists c.unlink.new.self.subjects.lists (λ a b. ap (λ e. p a b && (e || not (a == c.args.s && b == c.args.o))) (sym none)) (c.unlink.ensures.gone.told p h)
