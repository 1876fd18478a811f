use Rattle.std.proofs.Common.{◌≡◌, ap, sym, subst, arith}
use Rattle.mls_turns.specs.Journals.{Journal}
use Rattle.mls_sessions.specs.Sessions.{Holds, number_of}
use Rattle.mls_sessions.proofs.CellsKeep.{counts_at, published_holds}
use Rattle.mls_sessions.proofs.holding.count_change.Goals as goal

pub count_with-requires-clause-rule : goal.count_with-requires-clause-rule
count_with-requires-clause-rule c = let e = c.requires.entries in let small = c.next_number-length.type_inv in let is = c.next_number-length.ensures in λ legal.
    counts_at c.args.gate.now.key _ _ _ _ (ap (λ m. m.0) c.requires.holds) _ legal e.added e.more.grown e.more.mine e.words e.count (omega arith)

pub returns-clause-holds : goal.returns-clause-holds
returns-clause-holds c = let key = c.args.gate.now.key in let e = c.requires.entries in let me = c.count_with.new.seat.me in
    subst (λ (j : Journal). Holds key j me × (number_of me.0 ≡ number_of c.args.seat.now.me.0)) (sym c.count_with.ensures.same)
    (published_holds key 0 0 _ _ (ap (λ m. m.0) c.requires.holds) c.args.monitor e.added e.more.grown me c.count_with.ensures.told)
