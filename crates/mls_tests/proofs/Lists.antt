-- What is known of lists of sessions and of feeds.
use Rattle.std.proofs.Common.{◌≡◌, ◌<◌, List, [], ◌∷◌, length, get_or, subst, sym, arith}
use Rattle.std.specs.Prelude.{remove}
use Rattle.mls_sessions.specs.Sessions.{Office, Session, Ascending}
pub use Rattle.mls_sessions.proofs.Laws.{ascending_last, ascending_read, ascending_put, at_snoc}

-- without its first session a list still ascends
ascending_rest : (o : Office) (s : Session) (ss : List Session) → Ascending o 0 (s ∷ ss) → Ascending o 0 ss
ascending_rest o s [] a = tt
ascending_rest o s (x ∷ ss) a = let t = a.2 in (t.0, omega arith, t.2)

-- the first session with what is left where it is taken out
pub first_ascends : (o : Office) (ss : List Session) (s : Session) → Ascending o 0 ss → 0 < length ss → s ≡ get_or ss 0 s → Ascending o 0 (s ∷ remove ss 0)
first_ascends o [] s a some at = absurd (omega arith)
first_ascends o (x ∷ ss) s a some at = subst (λ y. Ascending o 0 (y ∷ ss)) (sym at) a

-- and what is left
pub rest_ascends : (o : Office) (ss : List Session) → Ascending o 0 ss → 0 < length ss → Ascending o 0 (remove ss 0)
rest_ascends o [] a some = absurd (omega arith)
rest_ascends o (x ∷ ss) a some = ascending_rest o x ss a
