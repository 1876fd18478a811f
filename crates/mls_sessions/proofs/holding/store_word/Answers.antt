use Rattle.std.proofs.Common.{◌≡◌, ap, sym, subst}
use Rattle.mls_turns.specs.Journals.{Journal}
use Rattle.mls_sessions.specs.Sessions.{Holds, number_of}
use Rattle.mls_sessions.proofs.CellsKeep.{stores_at, published_holds}
use Rattle.mls_sessions.proofs.holding.store_word.Goals as goal

pub store_with-requires-clause-rule : goal.store_with-requires-clause-rule
store_with-requires-clause-rule c = let e = c.requires.entries in λ legal.
    stores_at c.args.gate.now.key _ _ _ _ (ap (λ m. m.0) c.requires.holds) _ legal e.0 e.1.grown e.1.mine _ _ c.requires.place e.2 e.3

pub returns-clause-holds : goal.returns-clause-holds
returns-clause-holds c = let key = c.args.gate.now.key in let e = c.requires.entries in let me = c.store_with.new.seat.me in
    subst (λ (j : Journal). Holds key j me × (number_of me.0 ≡ number_of c.args.seat.now.me.0)) (sym c.store_with.ensures.same)
    (published_holds key 0 0 _ _ (ap (λ m. m.0) c.requires.holds) c.args.monitor e.0 e.1.grown me c.store_with.ensures.told)
